-- A shelf in memory: what it holds, and which of its calls fail.
use Rattle.std.specs.Prelude.{◌≡◌, ℕ, Bool, ◌||◌, List, [], map, is_none, refl, String, string_bytes, Vec}
use Rattle.std.specs.declared.alloc.Global.{Global}
use Rattle.std.specs.Coded.{Coded, code_by, coded×, coded_ℕ, coded_list}
use Rattle.std.specs.FinMap as finite
use Rattle.doom_edge.specs.Calls.{Calls, fails, counted}
use Rattle.doom_edge.specs.Devices.{Files}

-- what is held, and the calls of each kind
pub record Shelved : Type 0 where
  pub files : Files
  pub takes : Calls
  pub puts : Calls

-- the files of a list of entries. Where a name stands twice, the first entry counts
abbrev pub files_of : List (String Global × Vec ℕ Global) → Files
files_of entries = finite.from_entries (map (λ entry. (string_bytes entry.0, entry.1.items)) entries)

-- a take fails: its number is listed, or its name is not held
abbrev pub take_fails : Shelved → List ℕ → Bool
take_fails shelf name = fails shelf.takes || is_none (finite.get shelf.files name)

-- after a take of this name
abbrev pub after_take : Shelved → List ℕ → Shelved
after_take shelf name = record shelf { takes = counted shelf.takes (take_fails shelf name) }

-- after a put that bound nothing
abbrev pub after_put : Shelved → Shelved
after_put shelf = record shelf { puts = counted shelf.puts (fails shelf.puts) }

-- after a put that bound this name to these bytes
abbrev pub after_put_of : Shelved → List ℕ → List ℕ → Shelved
after_put_of shelf name bytes = record (after_put shelf) { files = finite.insert shelf.files name bytes }

-- no call is listed, so only a take of a name that isn't held fails
abbrev pub IsSure : Shelved → Type 0
IsSure shelf = (shelf.takes.failing ≡ []) × (shelf.puts.failing ≡ [])

-- as a pair of pairs
abbrev pub calls_code : Coded Calls
calls_code = code_by (List ℕ × (ℕ × ℕ)) (coded× (coded_list coded_ℕ) (coded× coded_ℕ coded_ℕ))
    (λ calls. (calls.failing, (calls.made, calls.faults)))
    (λ p. record { failing = p.0; made = p.1.0; faults = p.1.1 }) (λ _. refl)

abbrev pub shelved_code : Coded Shelved
shelved_code = code_by (Files × (Calls × Calls)) (coded× (finite.code (coded_list coded_ℕ) (coded_list coded_ℕ)) (coded× calls_code calls_code))
    (λ shelf. (shelf.files, (shelf.takes, shelf.puts)))
    (λ p. record { files = p.0; takes = p.1.0; puts = p.1.1 }) (λ _. refl)
