use Rattle.std.proofs.Common.{◌≡◌, false, ◌-ℤ◌, w16, rules, refl}
use Rattle.std.specs.Prelude.{int_lt}
use Rattle.std.proofs.lemmas.Int.{to_z-of_z}
use Rattle.light_fx.proofs.lights.flicker_light.Goals as goal

pub returns : goal.returns
returns c =
    let bright : int_lt (c.args.light -ℤ c.args.step) c.args.min ≡ false = search (rules, c.if-from.false, c.from.ensures, c.from-2.ensures, c.from-3.ensures) in
    rw (bright, to_z-of_z w16 c.darker.result (record { sfits = c.darker.type_inv }), c.darker.ensures, to_z-of_z w16 c.args.max c.ranges.max, to_z-of_z w16 c.args.step c.ranges.step) refl
