-- Lemmas on the texts of the inputs.
use Rattle.std.proofs.Common.{◌≡◌, ℕ, Bool, true, false, List, [], ◌∷◌, length, map, nat_lt, cond, refl, ap, sym, Option, Some, None, option_map, vec_len, Vec, Global}
use Rattle.std.specs.Prelude.{MatchOption, IsSomeAnd, slice_set, ◌≢◌, ◌≤◌}
use Rattle.std.proofs.Common.{get_or, ◌∙◌}
use Rattle.std.proofs.lemmas.List.{length-map, map-set, get_or-set_other, get_or_past}
use Rattle.std.proofs.lemmas.Option.{unwrap_or-slice_get}
use Rattle.std.specs.List.{zip, find}
use Rattle.dsda_cli.specs.Meaning.{too_large, text_at}
use Rattle.dsda_cli.specs.declared.command.Input.{Input}

-- whether a text is above the limit of its input, by the length that the vector keeps
abbrev pub is_above : Input × Vec ℕ Global → Bool
is_above pair = nat_lt pair.0.limit (vec_len pair.1)

abbrev pub text_word : Option (Input × List ℕ) → Option ℕ
text_word pair = option_map (λ pair. pair.0.word) pair

abbrev pub vector_word : Option (Input × Vec ℕ Global) → Option ℕ
vector_word pair = option_map (λ pair. pair.0.word) pair

above_next : (test same : Bool) (input : Input) (text : List ℕ) (vector : Vec ℕ Global) (left : Option (Input × List ℕ)) (right : Option (Input × Vec ℕ Global)) → test ≡ same → text_word left ≡ vector_word right → text_word (cond test (Some (input, text)) left) ≡ vector_word (cond same (Some (input, vector)) right)
above_next true true input text vector left right is e = refl
above_next false false input text vector left right is e = e
above_next true false input text vector left right is e = cc
above_next false true input text vector left right is e = cc

-- the first text above its limit is the first vector that is
pub too_large-map : (inputs : List Input) (texts : List (Vec ℕ Global)) → text_word (too_large inputs (map (λ text. text.items) texts)) ≡ vector_word (find is_above (zip inputs texts))
too_large-map [] texts = refl
too_large-map (input ∷ inputs) [] = refl
too_large-map (input ∷ inputs) (text ∷ texts) =
    above_next (nat_lt input.limit (length text.items)) (is_above (input, text)) input text.items text _ _ (ap (nat_lt input.limit) (sym text.ok.0)) (too_large-map inputs texts)

-- what `map` gives, where the closure's answer is a function of its argument
pub option_map-from_cases : {A B : Type 0} (f : A → B) (from : Option A) (to : Option B) → MatchOption from (to ≡ None) (λ value. IsSomeAnd to (λ mapped. mapped ≡ f value)) → to ≡ option_map f from
option_map-from_cases f None to is = is
option_map-from_cases f (Some value) None is = absurd is
option_map-from_cases f (Some value) (Some mapped) is = ap Some is

-- a text that is moved out leaves the others
pub text_at-set_other : (texts : List (Vec ℕ Global)) (place : ℕ) (left : Vec ℕ Global) (other : ℕ) → other ≢ place → text_at (map (λ text. text.items) (slice_set texts place left)) other ≡ text_at (map (λ text. text.items) texts) other
text_at-set_other texts place left other apart =
    let before = map (λ (text : Vec ℕ Global). text.items) texts in
    unwrap_or-slice_get _ other []
    ∙ ap (λ (texts : List (List ℕ)). get_or texts other []) (map-set (λ (text : Vec ℕ Global). text.items) texts place left)
    ∙ get_or-set_other before place other left.items [] apart
    ∙ sym (unwrap_or-slice_get before other [])

-- there is no text past the last input
pub text_at_past : (texts : List (Vec ℕ Global)) (place : ℕ) → length texts ≤ place → text_at (map (λ text. text.items) texts) place ≡ []
text_at_past texts place past =
    let before = map (λ (text : Vec ℕ Global). text.items) texts in
    unwrap_or-slice_get before place [] ∙ get_or_past before place [] (simp length-map past)
