-- Stretches of places.
use Rattle.std.specs.Prelude.{ℕ, ◌-◌, List}
use Rattle.std.specs.List.{range_with_len}
use Rattle.cow_world.specs.declared.kept_thinkers.Stretch.{Stretch}

-- the places of a stretch, in their order
abbrev pub places : Stretch → List ℕ
places stretch = range_with_len stretch.start (stretch.end - stretch.start)
