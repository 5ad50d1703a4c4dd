use Rattle.std.proofs.Common.{◌≡◌, ◌∙◌, FitsSigned, w16, w32, ap}
use Rattle.std.proofs.lemmas.Int.{to_z-of_z}
use Rattle.level_start.specs.Spawns.{start_angle}
use Rattle.level_start.proofs.Angles.{turned_by}
use Rattle.level_start.proofs.spawns.start_angle.Goals as goal

pub returns : goal.returns
returns c =
    let fits : FitsSigned w32 c.from.result = record { sfits = c.from.type_inv } in
    let same : c.from.result ≡ c.args.degrees = c.from.ensures ∙ to_z-of_z w16 c.args.degrees c.ranges.degrees in
    c.cast_unsigned.ensures ∙ rw (to_z-of_z w32 c.from.result fits) (turned_by c.from.result fits ∙ ap start_angle same)
