-- The numbers that a gallery is made of.
use Rattle.std.specs.Prelude.{ℕ, zero, suc, ◌+◌, ◌*◌, ◌/◌, ◌%◌, List, [], ◌∷◌}

-- the state of the generator after one draw more
abbrev pub next_state : ℕ → ℕ
next_state state = (state * 1103515245 + 12345) % 4294967296

-- what is drawn is the upper half of the new state
abbrev pub drawn : ℕ → ℕ
drawn state = next_state state / 65536

-- so many numbers, drawn one after the other
abbrev pub draws : ℕ → ℕ → List ℕ
draws zero state = []
draws (suc more) state = drawn state ∷ draws more (next_state state)

-- the state after so many draws
abbrev pub state_after : ℕ → ℕ → ℕ
state_after zero state = state
state_after (suc more) state = state_after more (next_state state)
