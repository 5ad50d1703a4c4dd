-- How the first line and the first word are cut off a text.
use Rattle.std.proofs.Common.{◌≡◌, ℕ, ◌+◌, ◌-◌, ◌<◌, ◌≤◌, suc, Bool, true, false, cond, not, List, [], ◌∷◌, length, take, drop, get_or, refl, ap, sym, ◌∙◌, arith, filter, nat_lt, Some, None, add-one, drop-cons, ◌⊎◌, inl, inr}
use Rattle.std.specs.Prelude.{◌==◌}
use Rattle.std.specs.Option.{unwrap_or}
use Rattle.std.proofs.lemmas.Bool.{ltb-true, lt-ltb}
use Rattle.std.proofs.lemmas.Bool.Decides.{nat_tests}
use Rattle.std.proofs.lemmas.List.Sums.{prefix_len-le-length, prefix_len-drop_yes, passes_at_first, fails_before_first}
use Rattle.std.proofs.lemmas.List.Folds.{length-prefix_len}
use Rattle.std.specs.List.{slice_split, All, position, position_or_len, before_first, after_first}
use Rattle.std.specs.Str.Lines.{lines, lines_of_parts, strip_carriage_return}
use Rattle.std.proofs.lemmas.List.Splits.{slice_split_first, slice_split_none, slice_split-cons_yes, length-slice_split}
use Rattle.std.proofs.lemmas.List.{take_rest}
use Rattle.std.proofs.Math.Seq.{take-length, drop-length}
use Rattle.std.proofs.Math.ListN.{drop_of_length-le}
use Rattle.build_script.specs.Text.{words, is_blank}

found_at : (place count at : ℕ) → cond (nat_lt place count) (Some place) None ≡ Some at → (place ≡ at) × (at < count)
found_at place count at e = grind (arith, nat_tests)

found_none : (place count : ℕ) → cond (nat_lt place count) (Some place) None ≡ None → count ≤ place
found_none place count e = grind (arith, nat_tests)

found_or : (place count : ℕ) → place ≤ count → unwrap_or (cond (nat_lt place count) (Some place) None) count ≡ place
found_or place count h = grind (arith, nat_tests)

-- a first element that passes stands where the search for it says
pub position_some : {X : Type 0} (p : X → Bool) (xs : List X) (at : ℕ) → position p xs ≡ Some at → (position_or_len p xs ≡ at) × (at < length xs)
position_some p xs at e = found_at (position_or_len p xs) (length xs) at e

pub position_none : {X : Type 0} (p : X → Bool) (xs : List X) → position p xs ≡ None → length xs ≤ position_or_len p xs
position_none p xs e = found_none (position_or_len p xs) (length xs) e

pub position_or : {X : Type 0} (p : X → Bool) (xs : List X) → unwrap_or (position p xs) (length xs) ≡ position_or_len p xs
position_or p xs = found_or (position_or_len p xs) (length xs) (prefix_len-le-length (λ x. not (p x)) xs)

-- a test is passed or not
tested : (b : Bool) → (b ≡ true) ⊎ (b ≡ false)
tested true = inl refl
tested false = inr refl

one-add : (n : ℕ) → 1 + n ≡ suc n
one-add n = omega arith

module _ {X : Type 0} (p : X → Bool) where
  -- a part that isn't empty
  abbrev is_piece : List X → Bool
  is_piece part = nat_lt 0 (length part)

  -- the parts between the elements that pass, without the empty ones
  abbrev pieces : List X → List (List X)
  pieces xs = filter is_piece (slice_split p xs)

  pieces-cons : (x : X) (xs : List X) → p x ≡ true → pieces (x ∷ xs) ≡ pieces xs
  pieces-cons x xs e = ap (filter is_piece) (slice_split-cons_yes p x xs e)

  -- what stands in front and passes may be left out
  pub pieces-skip : (xs : List X) → pieces (drop (position_or_len (λ x. not (p x)) xs) xs) ≡ pieces xs
  pieces-skip [] = refl
  pieces-skip (x ∷ xs) = elim (tested (p x)) [
    | inl e ↦ rw (e, one-add) (pieces-skip xs)
    | inr e ↦
        let here : position_or_len (λ x. not (p x)) (x ∷ xs) ≡ 0 = rw e refl in
        rw here refl
  ]

  -- a part that isn't empty is kept
  pieces_keep : (part : List X) (parts : List (List X)) → 0 < length part → filter is_piece (part ∷ parts) ≡ part ∷ filter is_piece parts
  pieces_keep part parts some = let long : is_piece part ≡ true = lt-ltb 0 (length part) some in rw long refl

  -- the part before the first that passes, where it isn't empty
  pieces-first_of_more : (xs : List X) (d : X) → 0 < position_or_len p xs → position_or_len p xs < length xs → pieces xs ≡ take (position_or_len p xs) xs ∷ pieces (drop (position_or_len p xs) xs)
  pieces-first_of_more xs d some more =
      let passes : p (get_or xs (position_or_len p xs) d) ≡ true = passes_at_first p xs d more in
      let long : 0 < length (before_first p xs) = rw (length-prefix_len (λ x. not (p x)) xs) some in
      let rest : pieces (drop (position_or_len p xs) xs) ≡ pieces (after_first p xs) = rw (drop-cons xs (position_or_len p xs) d, add-one) (pieces-cons _ _ passes) in
      let split : pieces xs ≡ filter is_piece (before_first p xs ∷ slice_split p (after_first p xs)) = ap (filter is_piece) (slice_split_first p xs d more) in
      split ∙ pieces_keep (before_first p xs) (slice_split p (after_first p xs)) long ∙ ap (λ others. before_first p xs ∷ others) (sym rest)

  -- the last part, where it isn't empty
  pieces-first_of_last : (xs : List X) (d : X) → 0 < position_or_len p xs → length xs ≤ position_or_len p xs → pieces xs ≡ take (position_or_len p xs) xs ∷ pieces (drop (position_or_len p xs) xs)
  pieces-first_of_last xs d some all =
      let none : All (λ x. p x ≡ false) xs = λ k e m. fails_before_first p xs k e (omega arith) in
      let same : position_or_len p xs ≡ length xs = omega (arith, prefix_len-le-length (λ x. not (p x)) xs) in
      let long : 0 < length xs = omega arith in
      let whole : pieces xs ≡ xs ∷ [] = ap (filter is_piece) (slice_split_none p xs none) ∙ pieces_keep xs [] long in
      rw (same, take-length, drop-length) whole

  -- the first part is what stands before the first that passes, where that isn't empty
  pub pieces-first : (xs : List X) (d : X) → 0 < position_or_len p xs → pieces xs ≡ take (position_or_len p xs) xs ∷ pieces (drop (position_or_len p xs) xs)
  pieces-first xs d some =
      elim (tested (nat_lt (position_or_len p xs) (length xs))) [
        | inl e ↦ pieces-first_of_more xs d some (ltb-true _ _ e)
        | inr e ↦ pieces-first_of_last xs d some (grind (arith, nat_tests))
      ]

-- ---- words

pub no_word : (line : List ℕ) → position (λ byte. not (is_blank byte)) line ≡ None → words line ≡ []
no_word line e =
    let all : length line ≤ position_or_len (λ byte. not (is_blank byte)) line = position_none _ line e in
    let skipped : words (drop (position_or_len (λ byte. not (is_blank byte)) line) line) ≡ words line = pieces-skip is_blank line in
    let nothing : drop (position_or_len (λ byte. not (is_blank byte)) line) line ≡ [] = drop_of_length-le line all in
    sym skipped ∙ ap words nothing

-- the word with which a line begins once the blanks in front are left out
pub first_word : (line : List ℕ) (start : ℕ) → position (λ byte. not (is_blank byte)) line ≡ Some start
    → words line ≡ take (position_or_len is_blank (drop start line)) (drop start line) ∷ words (drop (position_or_len is_blank (drop start line)) (drop start line))
first_word line start e =
    let found : (position_or_len (λ byte. not (is_blank byte)) line ≡ start) × (start < length line) = position_some _ line start e in
    let skipped : words (drop start line) ≡ words line = rw (← found.0) (pieces-skip is_blank line) in
    let letter : not (is_blank (get_or line start 0)) ≡ true = rw found.0 at (passes_at_first (λ byte. not (is_blank byte)) line 0 (omega arith)) in
    let some : 0 < position_or_len is_blank (drop start line) = omega (arith, prefix_len-drop_yes (λ byte. not (is_blank byte)) line start 0 found.1 letter) in
    sym skipped ∙ pieces-first is_blank (drop start line) 0 some

-- ---- lines

lines_of_parts-more : (part : List ℕ) (parts : List (List ℕ)) → 0 < length parts → lines_of_parts (part ∷ parts) ≡ strip_carriage_return part ∷ lines_of_parts parts
lines_of_parts-more part [] some = absurd (omega arith)
lines_of_parts-more part (next ∷ parts) some = refl

abbrev is_line_feed : ℕ → Bool
is_line_feed byte = byte == 10

-- the line that ends at the first LF
pub first_line : (text : List ℕ) (end : ℕ) → position (λ byte. byte == 10) text ≡ Some end → lines text ≡ strip_carriage_return (take end text) ∷ lines (take (length text - (end + 1)) (drop (end + 1) text))
first_line text end e =
    let found : (position_or_len is_line_feed text ≡ end) × (end < length text) = position_some is_line_feed text end e in
    let within : position_or_len is_line_feed text < length text = omega arith in
    let some : 0 < length (slice_split is_line_feed (after_first is_line_feed text)) = omega (arith, length-slice_split is_line_feed (after_first is_line_feed text)) in
    let cut : lines text ≡ strip_carriage_return (before_first is_line_feed text) ∷ lines (after_first is_line_feed text)
    = ap lines_of_parts (slice_split_first is_line_feed text 0 within) ∙ lines_of_parts-more _ _ some in
    let rest : take (length text - (end + 1)) (drop (end + 1) text) ≡ drop (end + 1) text = take_rest text (end + 1) in
    rw rest (rw found.0 at cut)

-- the line that ends at the end of the text
pub last_line : (text : List ℕ) → position (λ byte. byte == 10) text ≡ None → 0 < length text → lines text ≡ text ∷ []
last_line text e long =
    let all : length text ≤ position_or_len is_line_feed text = position_none is_line_feed text e in
    let none : All (λ byte. is_line_feed byte ≡ false) text = λ k d m. fails_before_first is_line_feed text k d (omega arith) in
    let filled : (length text == 0) ≡ false = grind (arith, nat_tests) in
    ap lines_of_parts (slice_split_none is_line_feed text none) ∙ rw filled refl
