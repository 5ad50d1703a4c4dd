-- What a trace's clauses come to.
use Rattle.std.proofs.lemmas.Int.{to_z-of_z}
use Rattle.map_geometry.proofs.Ways.{read_back}

pub ruleset casts = (read_back, to_z-of_z)
