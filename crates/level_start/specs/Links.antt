-- Which things are linked when a level starts.
use Rattle.std.specs.Prelude.{ℕ, Bool, ◌&&◌, not, List, length, filter}
use Rattle.std.specs.List.{range_with_len}
use Rattle.std.specs.Option.{is_some}
use Rattle.fixed_angle.specs.Tables.{Tables}
use Rattle.cow_world.specs.Flat.{Gridded, parts, thing_at}
use Rattle.cow_world.specs.Places.{cell_under}
use Rattle.cow_world.specs.Shapes.{has_bit, shape_of}
use Rattle.cow_world.specs.Spawned.{link_all}

-- a thing is linked where its kind is, and its place lies in the grid
abbrev pub is_linked : Tables → Gridded → ℕ → Bool
is_linked tables world i = not (has_bit (shape_of tables world i).flags 32) && is_some (cell_under world.grid (thing_at world i).x (thing_at world i).y)

abbrev pub linked_things : Tables → Gridded → List ℕ
linked_things tables world = filter (is_linked tables world) (range_with_len 0 (length (parts world).things))

-- those things linked one after the other, in their order
abbrev pub linked_of : Tables → Gridded → Gridded
linked_of tables world = link_all world (linked_things tables world)
