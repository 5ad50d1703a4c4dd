-- What stands where other tics have taken the place of some of a list.
use Rattle.std.proofs.Common.{ℕ, ◌+◌, ◌-◌, ◌≤◌, ◌≡◌, ◌++◌, List, [], length, take, drop, min, max, arith, ap, sym, ◌∙◌, append_assoc, append-nil, inl, inr}
use Rattle.std.specs.List.{splice}
use Rattle.std.proofs.Math.Seq.{take-append-add, drop-append-add}
use Rattle.std.proofs.lemmas.Bool.{cases_lt}
use Rattle.std.proofs.lemmas.List.{take-append-drop, take-append-le, drop-append-le, take_at, drop_all, drop-drop, length-append, length-drop, length-take-le}
use Rattle.lmp_codec.specs.declared.input.Tic.{Tic}

-- an edit of a list that stands between two others
pub inside : (front tics back others : List Tic) (from to : ℕ)
    → from ≤ length tics
    → to ≤ length tics
    → splice (front ++ (tics ++ back)) (length front + from) (length front + to) others ≡ front ++ (splice tics from to others ++ back)
inside front tics back others from to low high =
    let start : take (length front + from) (front ++ (tics ++ back)) ≡ front ++ take from tics =
    take-append-add front (tics ++ back) from ∙ ap (λ (x : List Tic). front ++ x) (take-append-le from tics back low) in
    let end : drop (length front + to) (front ++ (tics ++ back)) ≡ drop to tics ++ back =
    drop-append-add front (tics ++ back) to ∙ drop-append-le to tics back high in
    ap (λ (x : List Tic). x ++ (others ++ drop (length front + to) (front ++ (tics ++ back)))) start
    ∙ ap (λ (x : List Tic). (front ++ take from tics) ++ (others ++ x)) end
    ∙ ap (λ (x : List Tic). (front ++ take from tics) ++ x) (sym (append_assoc others (drop to tics) back))
    ∙ append_assoc front (take from tics) ((others ++ drop to tics) ++ back)
    ∙ ap (λ (x : List Tic). front ++ x) (sym (append_assoc (take from tics) (others ++ drop to tics) back))

-- the whole of a list between two others is gone
pub whole_gone : (front tics back : List Tic) (start len : ℕ)
    → start ≡ length front
    → len ≡ length tics
    → splice (front ++ (tics ++ back)) start (start + len) [] ≡ front ++ back
whole_gone front tics back start len starts long =
    let from : ℕ = length front + 0 in
    let at : start ≡ length front + 0 = omega (arith, starts) in
    let to : start + len ≡ length front + length tics = omega (arith, starts, long) in
    let none : drop (length tics) tics ≡ [] = drop_all (length tics) tics (omega arith) in
    ap (λ (n : ℕ). splice (front ++ (tics ++ back)) n (start + len) []) at
    ∙ ap (λ (n : ℕ). splice (front ++ (tics ++ back)) (length front + 0) n []) to
    ∙ inside front tics back [] 0 (length tics) (omega arith) (omega arith)
    ∙ ap (λ (x : List Tic). front ++ (x ++ back)) none

-- the front of a list that was cut at a place, with what is behind it
pub cut_front : (front back : List Tic) (place : ℕ) → take place front ++ (drop place front ++ back) ≡ front ++ back
cut_front front back place = sym (append_assoc (take place front) (drop place front) back) ∙ ap (λ (x : List Tic). x ++ back) (take-append-drop place front)

-- an edit of what stands behind a front
pub behind : (front back others : List Tic) (from to start end : ℕ)
    → start ≡ length front + from
    → end ≡ length front + to
    → front ++ splice back from to others ≡ splice (front ++ back) start end others
behind front back others from to start end starts ends =
    let low : take start (front ++ back) ≡ front ++ take from back = ap (λ (n : ℕ). take n (front ++ back)) starts ∙ take-append-add front back from in
    let high : drop end (front ++ back) ≡ drop to back = ap (λ (n : ℕ). drop n (front ++ back)) ends ∙ drop-append-add front back to in
    sym (append_assoc front (take from back) (others ++ drop to back))
    ∙ ap (λ (x : List Tic). x ++ (others ++ drop to back)) (sym low)
    ∙ ap (λ (x : List Tic). take start (front ++ back) ++ (others ++ x)) (sym high)

-- an edit of the front
pub before : (front back others : List Tic) (from to : ℕ)
    → from ≤ length front
    → to ≤ length front
    → splice front from to others ++ back ≡ splice (front ++ back) from to others
before front back others from to low high =
    append_assoc (take from front) (others ++ drop to front) back
    ∙ ap (λ (x : List Tic). take from front ++ x) (append_assoc others (drop to front) back)
    ∙ ap (λ (x : List Tic). take from front ++ (others ++ x)) (sym (drop-append-le to front back high))
    ∙ ap (λ (x : List Tic). x ++ (others ++ drop to (front ++ back))) (sym (take-append-le from front back low))

-- nothing is gone
none_gone : (tics : List Tic) (place : ℕ) → splice tics place place [] ≡ tics
none_gone tics place = take-append-drop place tics

-- tics of a front and of what stands behind it are gone
pub both_parts : (front back : List Tic) (from to : ℕ)
    → from ≤ to
    → splice front (min from (length front)) (min to (length front)) []
    ++ splice back (max from (length front) - length front) (max to (length front) - length front) []
    ≡ splice (front ++ back) from to []
both_parts front back from to order = elim (cases_lt (length front) to) [
  | inl past ↦ elim (cases_lt from (length front)) [
    | inl low ↦
        let a : min from (length front) ≡ from = omega arith in
        let b : min to (length front) ≡ length front = omega arith in
        let c : max from (length front) - length front ≡ 0 = omega arith in
        let d : max to (length front) - length front ≡ to - length front = omega arith in
        let sum : to ≡ length front + (to - length front) = omega arith in
        let none : drop (length front) front ≡ [] = drop_all (length front) front (omega arith) in
        let inside : from ≤ length front = omega arith in
        let end : drop to (front ++ back) ≡ drop (to - length front) back =
        ap (λ (n : ℕ). drop n (front ++ back)) sum ∙ drop-append-add front back (to - length front) in
        rw (a, b, c, d)
        (ap (λ (x : List Tic). (take from front ++ x) ++ drop (to - length front) back) none
        ∙ ap (λ (x : List Tic). x ++ drop (to - length front) back) (append-nil (take from front))
        ∙ ap (λ (x : List Tic). x ++ drop (to - length front) back) (sym (take-append-le from front back inside))
        ∙ ap (λ (x : List Tic). take from (front ++ back) ++ x) (sym end))
    | inr high ↦
        let a : min from (length front) ≡ length front = omega arith in
        let b : min to (length front) ≡ length front = omega arith in
        let c : max from (length front) - length front ≡ from - length front = omega arith in
        let d : max to (length front) - length front ≡ to - length front = omega arith in
        let start : from ≡ length front + (from - length front) = omega arith in
        let end : to ≡ length front + (to - length front) = omega arith in
        rw (a, b, c, d)
        (ap (λ (x : List Tic). x ++ splice back (from - length front) (to - length front) []) (none_gone front (length front))
        ∙ behind front back [] (from - length front) (to - length front) from to start end)
  ]
  | inr within ↦
      let a : min from (length front) ≡ from = omega arith in
      let b : min to (length front) ≡ to = omega arith in
      let c : max from (length front) - length front ≡ 0 = omega arith in
      let d : max to (length front) - length front ≡ 0 = omega arith in
      rw (a, b, c, d) (before front back [] from to (omega arith) within)
]

-- the front is longer, and as much is gone behind it
pub joined_on : (front back more : List Tic) (moved : ℕ)
    → more ≡ take moved back
    → (front ++ more) ++ splice back 0 moved [] ≡ front ++ back
joined_on front back more moved is =
    append_assoc front more (drop moved back)
    ∙ ap (λ (x : List Tic). front ++ (x ++ drop moved back)) is
    ∙ ap (λ (x : List Tic). front ++ x) (take-append-drop moved back)

-- some of what is to go is gone
pub less_to_go : (tics next : List Tic) (from n left : ℕ)
    → next ≡ splice tics from (from + n) []
    → n ≤ left
    → from + left ≤ length tics
    → splice next from (from + (left - n)) [] ≡ splice tics from (from + left) []
less_to_go tics next from n left is few inside =
    let front : length (take from tics) ≡ from = length-take-le from tics (omega arith) in
    let low : take from next ≡ take from tics = ap (take from) is ∙ take_at (take from tics) (drop (from + n) tics) from front in
    let sum : from + (left - n) ≡ length (take from tics) + (left - n) = omega (arith, front) in
    let all : from + n + (left - n) ≡ from + left = omega arith in
    let high : drop (from + (left - n)) next ≡ drop (from + left) tics =
    ap (drop (from + (left - n))) is
    ∙ ap (λ (k : ℕ). drop k (take from tics ++ drop (from + n) tics)) sum
    ∙ drop-append-add (take from tics) (drop (from + n) tics) (left - n)
    ∙ drop-drop (left - n) (from + n) tics
    ∙ ap (λ (k : ℕ). drop k tics) all in
    ap (λ (x : List Tic). x ++ drop (from + (left - n)) next) low ∙ ap (λ (x : List Tic). take from tics ++ x) high

pub length_less : (tics next : List Tic) (from n left : ℕ)
    → next ≡ splice tics from (from + n) []
    → n ≤ left
    → from + left ≤ length tics
    → from + (left - n) ≤ length next
length_less tics next from n left is few inside =
    let front : length (take from tics) ≡ from = length-take-le from tics (omega arith) in
    let long : length next ≡ length (take from tics) + length (drop (from + n) tics) =
    ap length is ∙ length-append (take from tics) (drop (from + n) tics) in
    omega (arith, front, long, length-drop (from + n) tics)
