-- Laws of conditions that are judged in order.
use Rattle.std.proofs.Common.{◌≡◌, ℕ, zero, suc, ◌+◌, ◌<◌, List, [], ◌∷◌, ◌++◌, Option, Some, None, refl, sym, ◌∙◌, inl, inr, arith, add-one}
use Rattle.std.proofs.lemmas.Bool.{cases_lt}
use Rattle.fixed_angle.specs.FirstFault.{Condition, FirstFault, for_each}

-- there is one first fault
pub one_outcome : {F : Type 0} (cs : List (Condition F)) (a b : Option F) → FirstFault cs a → FirstFault cs b → a ≡ b
one_outcome [] a b p q = p ∙ sym q
one_outcome (c ∷ cs) a b (inl p) (inl q) = one_outcome cs a b p.1 q.1
one_outcome (c ∷ cs) a b (inl p) (inr q) = absurd (q.0 p.0)
one_outcome (c ∷ cs) a b (inr p) (inl q) = absurd (p.0 q.0)
one_outcome (c ∷ cs) a b (inr p) (inr q) = p.1 ∙ sym q.1

-- where the conditions in front hold, those behind them decide
pub first_after : {F : Type 0} (cs ds : List (Condition F)) (outcome : Option F) → FirstFault cs None → FirstFault ds outcome → FirstFault (cs ++ ds) outcome
first_after [] ds outcome p q = q
first_after (c ∷ cs) ds outcome (inl p) q = inl (p.0, first_after cs ds outcome p.1 q)
first_after (c ∷ cs) ds outcome (inr p) q = absurd cc

-- a fault among the conditions in front is the first of all
pub first_within : {F : Type 0} (cs ds : List (Condition F)) (fault : F) → FirstFault cs (Some fault) → FirstFault (cs ++ ds) (Some fault)
first_within [] ds fault p = absurd cc
first_within (c ∷ cs) ds fault (inl p) = inl (p.0, first_within cs ds fault p.1)
first_within (c ∷ cs) ds fault (inr p) = inr p

-- where all hold, those in front hold and those behind them
pub none_split : {F : Type 0} (cs ds : List (Condition F)) → FirstFault (cs ++ ds) None → FirstFault cs None × FirstFault ds None
none_split [] ds p = (refl, p)
none_split (c ∷ cs) ds (inl p) = let rest = none_split cs ds p.1 in (inl (p.0, rest.0), rest.1)
none_split (c ∷ cs) ds (inr p) = absurd cc

-- the conditions on one record more
pub each_step : {F : Type 0} (g : ℕ → List (Condition F)) (i : ℕ) → FirstFault (for_each i g) None → FirstFault (g i) None → FirstFault (for_each (i + 1) g) None
each_step g i p q = rw add-one (first_after (for_each i g) (g i) None p q)

-- a fault of the first n records is the first fault of more records
each_more : {F : Type 0} (g : ℕ → List (Condition F)) (n i : ℕ) (fault : F) → i < n → FirstFault (for_each (suc i) g) (Some fault) → FirstFault (for_each n g) (Some fault)
each_more g zero i fault lt p = absurd (omega (arith, lt))
each_more g (suc n) i fault lt p = elim (cases_lt i n) [
  | inl below ↦ first_within (for_each n g) (g n) fault (each_more g n i fault below p)
  | inr above ↦ let same : i ≡ n = omega (arith, lt, above) in rw (← same) p
]

-- the first fault of record i, where the records before it are sound, is the first of all
pub each_stop : {F : Type 0} (g : ℕ → List (Condition F)) (n i : ℕ) (fault : F) → i < n → FirstFault (for_each i g) None → FirstFault (g i) (Some fault) → FirstFault (for_each n g) (Some fault)
each_stop g n i fault lt p q = each_more g n i fault lt (first_after (for_each i g) (g i) (Some fault) p q)

-- where all hold, those on each record hold
pub none_each : {F : Type 0} (g : ℕ → List (Condition F)) (n i : ℕ) → i < n → FirstFault (for_each n g) None → FirstFault (g i) None
none_each g zero i lt p = absurd (omega (arith, lt))
none_each g (suc n) i lt p =
    let parts = none_split (for_each n g) (g n) p in
    elim (cases_lt i n) [
      | inl below ↦ none_each g n i below parts.0
      | inr above ↦ let same : n ≡ i = omega (arith, lt, above) in rw same at parts.1
    ]
