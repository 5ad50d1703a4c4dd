-- Random numbers.
use Rattle.std.specs.Prelude.{ℕ, ◌+◌, ◌%◌}
use Rattle.fixed_angle.specs.Tables.{Tables, draw_of}
use Rattle.cow_world.specs.Flat.{Gridded, parts, set_rng}

-- the random index is raised by one before it is read; after 255 comes 0
abbrev pub next_index : Gridded → ℕ
next_index world = ((parts world).rng + 1) % 256

-- the world after a draw
abbrev pub draw : Gridded → Gridded
draw world = set_rng world (next_index world)

-- the number that is drawn
abbrev pub drawn : Tables → Gridded → ℕ
drawn tables world = draw_of tables (next_index world)
