use Rattle.std.proofs.Common.{◌≡◌, length, rules}
use Rattle.map_geometry.specs.Level.{lists_of}
use Rattle.map_geometry.proofs.Sound.{some_subsectors}
use Rattle.map_geometry.proofs.level.Level.subsector_count.Goals as goal

pub returns-clause-some : goal.returns-clause-some
returns-clause-some c =
    let count : c.len.result ≡ length c.self.inside.parts.subsectors.items = search (rules, c.len.ensures) in
    rw count (some_subsectors (lists_of c.self.inside.parts) c.self.invariant.parts.level)
