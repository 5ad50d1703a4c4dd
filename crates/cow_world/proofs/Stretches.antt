-- The places that are left from one on: those before a stretch, its own, and those behind it.
use Rattle.std.proofs.Common.{◌≡◌, ℕ, zero, suc, ◌+◌, ◌-◌, ◌≤◌, ◌∷◌, ◌++◌, ap, ◌∙◌, refl, arith, zero-add, add-zero}
use Rattle.std.specs.List.{range_with_len}
use Rattle.cow_world.specs.declared.kept_thinkers.Stretch.{Stretch}
use Rattle.cow_world.specs.Stretches.{places}

range_append : (a n m : ℕ) → range_with_len a (n + m) ≡ range_with_len a n ++ range_with_len (a + n) m
range_append a zero m = rw (zero-add, add-zero) refl
range_append a (suc n) m =
    let more : suc n + m ≡ suc (n + m) = omega arith in
    let shift : a + 1 + n ≡ a + suc n = omega arith in
    rw more (ap (λ xs. a ∷ xs) (range_append (a + 1) n m ∙ ap (λ b. range_with_len (a + 1) n ++ range_with_len b m) shift))

range_parts : (a b c : ℕ) → a ≤ b → b ≤ c → range_with_len a (c - a) ≡ range_with_len a (b - a) ++ range_with_len b (c - b)
range_parts a b c first second =
    let all : c - a ≡ b - a + (c - b) = omega arith in
    let then : a + (b - a) ≡ b = omega arith in
    rw all (range_append a (b - a) (c - b) ∙ ap (λ d. range_with_len a (b - a) ++ range_with_len d (c - b)) then)

pub left_places : (from count : ℕ) (stretch : Stretch) → from ≤ stretch.start → stretch.start ≤ stretch.end → stretch.end ≤ count → range_with_len from (count - from) ≡ range_with_len from (stretch.start - from) ++ (places stretch ++ range_with_len stretch.end (count - stretch.end))
left_places from count stretch begins order within =
    let rest : stretch.start ≤ count = omega arith in
    range_parts from stretch.start count begins rest
    ∙ ap (λ xs. range_with_len from (stretch.start - from) ++ xs) (range_parts stretch.start stretch.end count order within)
