-- Signed numbers of 32 bits that are passed on.
use Rattle.std.proofs.lemmas.Int.{to_z-of_z}
use Rattle.map_geometry.proofs.Ways.{read_back}

pub ruleset casts = (read_back, to_z-of_z)
