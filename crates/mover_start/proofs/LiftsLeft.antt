-- The lifts among the thinkers from a place on.
use Rattle.std.proofs.Common.{◌≡◌, ℕ, zero, suc, ◌+◌, ◌-◌, ◌<◌, ◌≤◌, List, ◌∷◌, length, drop, get_or, refl, ◌∙◌, ap, arith, add-zero, add-one}
use Rattle.std.proofs.Math.Seq.{drop-cons}
use Rattle.cow_world.specs.declared.records.Thinker.{Thinker}
use Rattle.cow_world.specs.declared.records.Thinker.TheVariants.{Ended}
use Rattle.cow_world.specs.Thinkers.{lift_count}

past_gap : (thinkers : List Thinker) (gap from : ℕ) → from + gap ≤ length thinkers → ((i : ℕ) → from ≤ i → i < from + gap → get_or thinkers i Ended ≡ Ended) → lift_count (drop from thinkers) ≡ lift_count (drop (from + gap) thinkers)
past_gap thinkers zero from within ended = rw add-zero refl
past_gap thinkers (suc gap) from within ended =
    let here : from < length thinkers = omega arith in
    let head : get_or thinkers from Ended ≡ Ended = ended from (omega arith) (omega arith) in
    let first : drop from thinkers ≡ Ended ∷ drop (from + 1) thinkers = rw add-one (drop-cons thinkers from Ended here ∙ ap (λ t. t ∷ drop (suc from) thinkers) head) in
    let shift : from + 1 + gap ≡ from + suc gap = omega arith in
    ap lift_count first
    ∙ (past_gap thinkers gap (from + 1) (omega (arith, shift)) (λ i above below. ended i (omega arith) (omega (arith, shift, below)))
    ∙ ap (λ n. lift_count (drop n thinkers)) shift)

-- those that have ended are none
pub lifts_past : (thinkers : List Thinker) (from start : ℕ) → from ≤ start → start ≤ length thinkers → ((i : ℕ) → from ≤ i → i < start → get_or thinkers i Ended ≡ Ended) → lift_count (drop from thinkers) ≡ lift_count (drop start thinkers)
lifts_past thinkers from start begins within ended =
    let gap : from + (start - from) ≡ start = omega arith in
    past_gap thinkers (start - from) from (omega (arith, gap)) (λ i above below. ended i above (omega (arith, gap, below)))
    ∙ ap (λ n. lift_count (drop n thinkers)) gap
