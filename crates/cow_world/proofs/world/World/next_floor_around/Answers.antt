use Rattle.std.proofs.Common.{◌≡◌, w32, FitsSigned, ap, ◌∙◌, rules}
use Rattle.std.proofs.lemmas.Int.{to_z-of_z}
use Rattle.cow_world.specs.declared.records.Sector.{Sector}
use Rattle.cow_world.specs.Flat.{sector_at}
use Rattle.cow_world.proofs.Neighbours.{next_floor_is}
use Rattle.cow_world.proofs.world.World.next_floor_around.Goals as goal

pub returns : goal.returns
returns c =
    let own_fits : FitsSigned w32 c.sector-own.result.floor = search rules in
    let own = to_z-of_z w32 c.sector-own.result.floor own_fits in
    let fits : FitsSigned w32 c.unwrap_or.result = search rules in
    let is : c.sector-own.result.floor ≡ (sector_at c.args.self.now c.args.sector).floor = ap (λ (s : Sector). s.floor) c.sector-own.ensures.entry in
    let floor = rw (own, is) at c.unwrap_or.ensures in
    let least = rw (own, is) at c.least_higher.ensures in
    to_z-of_z w32 c.unwrap_or.result fits ∙ (floor ∙ next_floor_is c.args.level.now c.args.self.now c.args.sector c.least_higher.result least)
