-- Conditions that are judged in order, and the fault of the first one that does not hold.
use Rattle.std.specs.Prelude.{◌≡◌, ◌⊎◌, ℕ, zero, suc, List, [], ◌∷◌, ◌++◌, Option, Some, None}

-- a fact that has to hold, and what is answered where it does not
pub record Condition (F : Type 0) : Type 1 where
  pub holds : Type 0
  pub fault : F

-- The outcome of judging the conditions in order: none where each of them holds, and else the fault of the
-- first one that does not.
abbrev pub FirstFault : {F : Type 0} → List (Condition F) → Option F → Type 0
FirstFault [] outcome = outcome ≡ None
FirstFault (c ∷ cs) outcome = (c.holds × FirstFault cs outcome) ⊎ ((c.holds → ⊥) × (outcome ≡ Some c.fault))

-- the conditions on record 0, then those on record 1, and so on, for n records
abbrev pub for_each : {F : Type 0} → ℕ → (ℕ → List (Condition F)) → List (Condition F)
for_each zero conditions = []
for_each (suc n) conditions = for_each n conditions ++ conditions n
