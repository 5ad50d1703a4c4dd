-- A sink in memory: what it got, and which of its pushes fail.
use Rattle.std.specs.Prelude.{◌≡◌, ℕ, ◌/◌, List, [], ◌++◌, take, length}
use Rattle.doom_edge.specs.Calls.{Calls}

-- the bytes so far, and the pushes
pub record Got : Type 0 where
  pub bytes : List ℕ
  pub pushes : Calls

-- the first half of these bytes, rounded down: what a push that fails leaves of them
abbrev pub first_half : List ℕ → List ℕ
first_half bytes = take (length bytes / 2) bytes

-- no push is listed
abbrev pub IsSure : Got → Type 0
IsSure sink = sink.pushes.failing ≡ []
