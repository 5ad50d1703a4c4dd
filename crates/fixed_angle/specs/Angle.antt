-- The angle of a way. A turn is 2^32, counted from east by north.
use Rattle.std.specs.Prelude.{ℕ, ◌+◌, ◌-◌, ◌%◌, Bool, true, false, ◌&&◌, ℤ, pos, unsigned_abs, nat_lt, if◌then◌else◌}
use Rattle.std.specs.Int.{is_negative}
use Rattle.std.specs.Ordering.{int_eq}
use Rattle.fixed_angle.specs.Fixed.{slope}
use Rattle.fixed_angle.specs.Tables.{Tables, arc_of}

abbrev pub turn : ℕ
turn = 4294967296

abbrev pub quarter : ℕ
quarter = 1073741824

abbrev pub half : ℕ
half = 2147483648

abbrev pub three_quarters : ℕ
three_quarters = 3221225472

-- the angle of a way that is longer to the east or west than to the north or south, by whether it goes west,
-- whether it goes south, and the arc that it has from the east or west
abbrev pub flat_angle : Bool → Bool → ℕ → ℕ
flat_angle false false arc = arc
flat_angle false true arc = turn - arc
flat_angle true false arc = half - 1 + turn - arc
flat_angle true true arc = half + arc

-- the same of any other way, by the arc that it has from the north or south
abbrev pub steep_angle : Bool → Bool → ℕ → ℕ
steep_angle false false arc = quarter - 1 + turn - arc
steep_angle false true arc = three_quarters + arc
steep_angle true false arc = quarter + arc
steep_angle true true arc = three_quarters - 1 + turn - arc

-- the angle of the way (x, y), within one turn; 0 where there is no way
abbrev pub angle : Tables → ℤ → ℤ → ℕ
angle tables x y =
    if int_eq x (pos 0) && int_eq y (pos 0) then 0
    else if nat_lt (unsigned_abs y) (unsigned_abs x)
    then flat_angle (is_negative x) (is_negative y) (arc_of tables (slope (unsigned_abs y) (unsigned_abs x))) % turn
    else steep_angle (is_negative x) (is_negative y) (arc_of tables (slope (unsigned_abs x) (unsigned_abs y))) % turn
