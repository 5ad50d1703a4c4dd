-- What a thing is, by its place among the things.
use Rattle.std.specs.Prelude.{ℕ, ◌==◌, pos, Bool, not, bit_and, Option, Some, None, if◌then◌else◌}
use Rattle.fixed_angle.specs.declared.kind.Kind.{Kind}
use Rattle.fixed_angle.specs.Tables.{Tables, kind_with}
use Rattle.cow_world.specs.declared.shapes.Shape.{Shape}
use Rattle.cow_world.specs.Flat.{Gridded, parts, thing_at}

-- flags have a flag
abbrev pub has_bit : ℕ → ℕ → Bool
has_bit flags flag = not (bit_and flags flag == 0)

-- something happens when the player touches it
abbrev pub is_special : Shape → Bool
is_special shape = has_bit shape.flags 1

-- it is in the way
abbrev pub is_solid : Shape → Bool
is_solid shape = has_bit shape.flags 2

-- it can be hurt, and a plane that moves can squeeze it
abbrev pub is_shootable : Shape → Bool
is_shootable shape = has_bit shape.flags 4

-- the player is solid and shootable, 16 units round and 56 high, whatever the tables say of its number
abbrev pub player_shape : Shape
player_shape = record { flags = 6; radius = pos 1048576; height = pos 3670016 }

-- a thing of a kind is what the tables say; of a kind that they don't have it is nothing
abbrev pub kind_shape : Option Kind → Shape
kind_shape None = record { flags = 0; radius = pos 0; height = pos 0 }
kind_shape (Some kind) = record { flags = kind.flags; radius = kind.radius; height = kind.height }

-- what the thing at a place is
abbrev pub shape_of : Tables → Gridded → ℕ → Shape
shape_of tables world thing =
    if thing == (parts world).player.thing then player_shape
    else kind_shape (kind_with tables (thing_at world thing).kind)
