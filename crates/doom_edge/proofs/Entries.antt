-- The files of a list of entries, from some place on.
use Rattle.std.proofs.Common.{◌≡◌, ℕ, ◌+◌, ◌<◌, ◌≤◌, List, ◌∷◌, Option, Some, None, true, false, String, Vec, string_bytes, cond, length, drop, get_or, sym, ap, ◌∙◌}
use Rattle.std.specs.Str.{bytes_eq}
use Rattle.std.specs.FinMap as map
use Rattle.std.specs.FinMap.{get-insert, get-empty}
use Rattle.std.specs.Cmp.Lexicographic.{nat_list_cmp_total}
use Rattle.std.proofs.lemmas.List.{at_drop_more, at_drop_all}
use Rattle.std.proofs.lemmas.Map.Text.{is_eq-slice_cmp}
use Rattle.std.specs.declared.alloc.Global.{Global}
use Rattle.doom_edge.specs.MemShelf.{files_of}

-- an entry of a shelf in memory
abbrev pub Entry : Type 0
Entry = String Global × Vec ℕ Global

-- what these entries hold under a name
abbrev pub held_by : List ℕ → List Entry → Option (List ℕ)
held_by name entries = map.get (files_of entries) name

-- the first entry decides, where it has the name
held_by-cons : (name : List ℕ) (entry : Entry) (rest : List Entry)
    → held_by name (entry ∷ rest) ≡ cond (bytes_eq name (string_bytes entry.0)) (Some entry.1.items) (held_by name rest)
held_by-cons name entry rest =
    get-insert nat_list_cmp_total (files_of rest) (string_bytes entry.0) entry.1.items name
    ∙ ap (λ same. cond same (Some entry.1.items) (held_by name rest)) (is_eq-slice_cmp name (string_bytes entry.0))

-- the same for the entry at a place of a list
held_by-drop : (name : List ℕ) (entries : List Entry) (i : ℕ) (entry : Entry) → i < length entries → entry ≡ get_or entries i entry
    → held_by name (drop i entries) ≡ cond (bytes_eq name (string_bytes entry.0)) (Some entry.1.items) (held_by name (drop (i + 1) entries))
held_by-drop name entries i entry below is =
    at_drop_more (held_by name) entries i entry below
    ∙ ap (λ first. held_by name (first ∷ drop (i + 1) entries)) (sym is)
    ∙ held_by-cons name entry (drop (i + 1) entries)

-- an entry of another name is passed over
pub passed : (name : List ℕ) (entries : List Entry) (i : ℕ) (entry : Entry) → i < length entries → entry ≡ get_or entries i entry
    → bytes_eq name (string_bytes entry.0) ≡ false → held_by name (drop (i + 1) entries) ≡ held_by name (drop i entries)
passed name entries i entry below is other =
    sym (held_by-drop name entries i entry below is ∙ ap (λ same. cond same (Some entry.1.items) (held_by name (drop (i + 1) entries))) other)

-- an entry of this name is found
pub found : (name : List ℕ) (entries : List Entry) (i : ℕ) (entry : Entry) → i < length entries → entry ≡ get_or entries i entry
    → bytes_eq name (string_bytes entry.0) ≡ true → Some entry.1.items ≡ held_by name (drop i entries)
found name entries i entry below is same =
    sym (held_by-drop name entries i entry below is ∙ ap (λ b. cond b (Some entry.1.items) (held_by name (drop (i + 1) entries))) same)

-- past the last entry none is left
pub ended : (name : List ℕ) (entries : List Entry) (i : ℕ) → length entries ≤ i → None ≡ held_by name (drop i entries)
ended name entries i past = sym (at_drop_all (held_by name) entries i past ∙ get-empty _ name)
