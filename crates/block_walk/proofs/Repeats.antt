-- Folds that don't care about repeats: over a box's lines with repeats they give what they give without.
use Rattle.std.proofs.Common.{◌≡◌, ℕ, not, List, [], ◌∷◌, refl, sym, ap, ◌∙◌, inl, inr}
use Rattle.std.specs.Prelude.{◌==◌, fold, filter}
use Rattle.std.proofs.lemmas.Bool.{cases_Bool}
use Rattle.std.proofs.lemmas.Bool.Decides.{Decides-eqb}
use Rattle.map_geometry.specs.Lists.{Lists}
use Rattle.map_geometry.specs.declared.blocks.Block.{Block}
use Rattle.block_walk.specs.Near.{first_ones, near_all, near}

-- A step takes a line once: right after it the same line changes nothing, and a line that changes nothing does so after
-- any other line too.
pub record TakesOnce {A : Type 0} (step : A → ℕ → A) : Type 0 where
  pub again : (a : A) (x : ℕ) → step (step a x) x ≡ step a x
  pub later : (a : A) (x y : ℕ) → step a x ≡ a → step (step a y) x ≡ step a y

module _ {A : Type 0} (step : A → ℕ → A) (once : TakesOnce step) where
  -- a line that changes nothing may be left out
  without : (x : ℕ) (xs : List ℕ) (a : A) → step a x ≡ a → fold step a (filter (λ y. not (y == x)) xs) ≡ fold step a xs
  without x [] a taken = refl
  without x (y ∷ xs) a taken = elim (cases_Bool (y == x)) [
    | inl same ↦
        let one : y ≡ x = (Decides-eqb y x).0 same in
        rw same (without x xs a taken ∙ ap (λ b. fold step b xs) (sym (ap (step a) one ∙ taken)))
    | inr other ↦ rw other (without x xs (step a y) (once.later a x y taken))
  ]

  pub fold_first_ones : (xs : List ℕ) (a : A) → fold step a (first_ones xs) ≡ fold step a xs
  fold_first_ones [] a = refl
  fold_first_ones (x ∷ xs) a = without x (first_ones xs) (step a x) (once.again a x) ∙ fold_first_ones xs (step a x)

  pub fold_near : (l : Lists) (blocks : List Block) (a : A) → fold step a (near l blocks) ≡ fold step a (near_all l blocks)
  fold_near l blocks a = fold_first_ones (near_all l blocks) a
