-- The tic of four numbers, and which tics a demo of either version holds.
use Rattle.std.specs.Prelude.{ℕ, ℤ, negsuc, ◌≡◌, ◌%◌, ◌≤ℤ◌, Bool, true, false, not, List, All, if◌then◌else◌, int_lt}
use Rattle.std.specs.Int.{int_max}
use Rattle.std.specs.Int.Signed.{≤ℤ_refl, lt_z_no}
use Rattle.std.proofs.Math.Dec.{T}
use Rattle.lmp_codec.specs.declared.input.Tic.{Tic}

-- a demo of this version holds the turn of this tic: a short one holds its high byte alone
abbrev pub HoldsTurn : Bool → Tic → Type 0
HoldsTurn long tic = long ≡ false → tic.turn % 256 ≡ 0

-- and that of each of these
abbrev pub HoldsTurns : Bool → List Tic → Type 0
HoldsTurns long tics = All (HoldsTurn long) tics

first_or_above : (x y : ℤ) (below : Bool) → (T (not below) → x ≤ℤ y) → x ≤ℤ (if below then x else y)
first_or_above x y true above = ≤ℤ_refl x
first_or_above x y false above = above tt

-- the greater of two numbers is at least the first
pub int_max_at_least : (x y : ℤ) → x ≤ℤ int_max x y
int_max_at_least x y = first_or_above x y (int_lt y x) lt_z_no

-- The tic of a forward, a side, a turn and buttons. No tic's forward is below -127, so the greater of the two is the
-- forward itself; a tic has to show so.
abbrev pub tic_of : ℤ → ℤ → ℕ → ℕ → Tic
tic_of forward side turn buttons = record {
  forward = int_max (negsuc 126) forward;
  side = side;
  turn = turn;
  buttons = buttons;
  above_end_byte = int_max_at_least (negsuc 126) forward;
}
