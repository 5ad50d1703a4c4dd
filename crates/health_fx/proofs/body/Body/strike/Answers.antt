use Rattle.std.proofs.Common.{◌≡◌, pos, ◌-ℤ◌, FitsSigned, w32, refl, rules}
use Rattle.std.proofs.lemmas.Int.{to_z-of_z}
use Rattle.std.specs.Int.{int_max}
use Rattle.health_fx.specs.Body.{saved, kind_left}
use Rattle.health_fx.specs.contracts.body.Body.{the_view}
use Rattle.health_fx.proofs.Struck.{struck_is}
use Rattle.health_fx.proofs.body.Body.strike.Goals as goal

pub returns : goal.returns
returns c =
    let health : FitsSigned w32 c.self.inside.health = search rules in
    let armour : FitsSigned w32 c.self.inside.armour = search rules in
    let damage : FitsSigned w32 c.args.damage = search rules in
    let saved_fits : FitsSigned w32 c.saved-saved.result = search rules in
    let left_fits : FitsSigned w32 c.left-self-inside.result = search rules in
    let loss : FitsSigned w32 (c.args.damage -ℤ c.saved-saved.result) = search rules in
    let off : c.saved-saved.result ≡ saved c.self.inside.kind c.self.inside.armour c.args.damage = simp to_z-of_z at c.saved-saved.ensures.value in
    let kind : c.kind_left-kind.result ≡ kind_left c.self.inside.kind c.self.inside.armour c.args.damage = simp to_z-of_z at c.kind_left-kind.ensures.value in
    let left : c.left-self-inside.result ≡ int_max (pos 0) (c.self.inside.health -ℤ (c.args.damage -ℤ c.saved-saved.result)) = simp to_z-of_z at c.left-self-inside.ensures.value in
    let kept : FitsSigned w32 (c.self.inside.armour -ℤ c.saved-saved.result) = search rules in
    rw (← c.self.view_is) (simp to_z-of_z (struck_is (the_view c.self.inside) c.args.damage c.saved-saved.result _ _ _ off left refl kind))
