-- The first of a list that passes a test, and those that do, as a loop comes to them.
use Rattle.std.proofs.Common.{◌≡◌, ◌<◌, ◌+◌, ℕ, Bool, true, false, List, [], ◌∷◌, ◌++◌, length, take, drop, get_or, refl, ap, sym, ◌∙◌, append-nil, Option, Some, None}
use Rattle.std.specs.Prelude.{filter}
use Rattle.std.specs.List.{find}
use Rattle.std.proofs.lemmas.List.{take_more, take-append-drop}
use Rattle.std.proofs.lemmas.List.Elements.{filter_more}
use Rattle.std.proofs.lemmas.List.Folds.{find-append}

pub one_missed : {X : Type 0} (test : X → Bool) (x : X) → test x ≡ false → find test (x ∷ []) ≡ None
one_missed test x fails = rw fails refl

pub one_found : {X : Type 0} (test : X → Bool) (x : X) → test x ≡ true → find test (x ∷ []) ≡ Some x
one_found test x passes = rw passes refl

-- none of some passes, and the next doesn't
pub found_more : {X : Type 0} (test : X → Bool) (xs : List X) (k : ℕ) (d : X) → k < length xs → find test (take k xs) ≡ None → test (get_or xs k d) ≡ false → find test (take (k + 1) xs) ≡ None
found_more test xs k d inside none fails =
    ap (find test) (take_more xs k d inside) ∙ find-append test (take k xs) (get_or xs k d ∷ []) ∙ (rw (none, one_missed test (get_or xs k d) fails) refl)

-- none of some passes, and the next does
pub found_at : {X : Type 0} (test : X → Bool) (xs : List X) (k : ℕ) (d : X) → k < length xs → find test (take k xs) ≡ None → test (get_or xs k d) ≡ true → find test xs ≡ Some (get_or xs k d)
found_at test xs k d inside none passes =
    ap (find test) (sym (take-append-drop (k + 1) xs))
    ∙ find-append test (take (k + 1) xs) (drop (k + 1) xs)
    ∙ (rw (take_more xs k d inside, find-append test (take k xs) (get_or xs k d ∷ []), none, one_found test (get_or xs k d) passes) refl)

-- the next is kept, or not
pub kept_with : {X : Type 0} (test : X → Bool) (xs : List X) (k : ℕ) (d x : X) → k < length xs → get_or xs k d ≡ x → test x ≡ true → filter test (take (k + 1) xs) ≡ filter test (take k xs) ++ x ∷ []
kept_with test xs k d x inside is passes = filter_more test xs k d inside ∙ (rw (is, passes) refl)

pub kept_without : {X : Type 0} (test : X → Bool) (xs : List X) (k : ℕ) (d x : X) → k < length xs → get_or xs k d ≡ x → test x ≡ false → filter test (take (k + 1) xs) ≡ filter test (take k xs)
kept_without test xs k d x inside is fails = filter_more test xs k d inside ∙ (rw (is, fails) (append-nil (filter test (take k xs))))
