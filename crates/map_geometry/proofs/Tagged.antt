-- The sectors with a tag, from a number on.
use Rattle.std.proofs.Common.{◌≡◌, ℕ, suc, ◌+◌, ◌-◌, ◌<◌, ◌≤◌, true, false, ℤ, [], ◌∷◌, length, refl, sym, arith}
use Rattle.std.specs.Prelude.{fold}
use Rattle.std.specs.Ordering.{int_eq}
use Rattle.map_geometry.specs.Lists.{Lists, nth_sector}
use Rattle.map_geometry.specs.Sectors.{with_tag_from}

-- a sector that has the tag comes first of those from its number on
pub from_tagged : (l : Lists) (tag : ℤ) (i : ℕ) → i < length l.sectors → int_eq (nth_sector l i).tag tag ≡ true → with_tag_from l tag i ≡ i ∷ with_tag_from l tag (i + 1)
from_tagged l tag i below has =
    let more : length l.sectors - i ≡ suc (length l.sectors - (i + 1)) = omega arith in
    rw (more, has) refl

-- one that hasn't is passed
pub from_other : (l : Lists) (tag : ℤ) (i : ℕ) → i < length l.sectors → int_eq (nth_sector l i).tag tag ≡ false → with_tag_from l tag i ≡ with_tag_from l tag (i + 1)
from_other l tag i below has =
    let more : length l.sectors - i ≡ suc (length l.sectors - (i + 1)) = omega arith in
    rw (more, has) refl

-- behind the last sector there is none
pub from_end : (l : Lists) (tag : ℤ) (i : ℕ) → length l.sectors ≡ i → with_tag_from l tag i ≡ []
from_end l tag i end =
    let none : length l.sectors - i ≡ 0 = omega arith in
    rw none refl

-- ---- a loop over the sectors with a tag

-- what is done in the sectors with a tag from number `from` on gives what is done in all of them
pub record Tagged {A : Type 0} (f : A → ℕ → A) (level : Lists) (tag : ℤ) (whole now : A) (from : ℕ) : Type 0 where
  pub left : fold f now (with_tag_from level tag from) ≡ whole
  pub within : from ≤ length level.sectors

pub tagged_next : {A : Type 0} (f : A → ℕ → A) (level : Lists) (tag : ℤ) (whole now next : A) (from sector : ℕ) → Tagged f level tag whole now from → with_tag_from level tag from ≡ sector ∷ with_tag_from level tag (sector + 1) → sector < length level.sectors → next ≡ f now sector → Tagged f level tag whole next (sector + 1)
tagged_next f level tag whole now next from sector tagged found below is = record { left = rw is (rw found at tagged.left); within = omega arith }

pub tagged_all : {A : Type 0} (f : A → ℕ → A) (level : Lists) (tag : ℤ) (whole now : A) (from : ℕ) → Tagged f level tag whole now from → with_tag_from level tag from ≡ [] → now ≡ whole
tagged_all f level tag whole now from tagged none = rw none at tagged.left

-- each sector that was found leaves one less
pub tagged_fewer : (level : Lists) (tag : ℤ) (from sector : ℕ) → with_tag_from level tag from ≡ sector ∷ with_tag_from level tag (sector + 1) → length (with_tag_from level tag (sector + 1)) < length (with_tag_from level tag from)
tagged_fewer level tag from sector found = rw found (omega arith)

-- the same for a sector whose number is written in another way
pub tagged_on : {A : Type 0} (f : A → ℕ → A) (level : Lists) (tag : ℤ) (whole now next : A) (from sector number : ℕ) → Tagged f level tag whole now from → with_tag_from level tag from ≡ sector ∷ with_tag_from level tag (sector + 1) → sector < length level.sectors → number ≡ sector → next ≡ f now number → Tagged f level tag whole next (sector + 1)
tagged_on f level tag whole now next from sector number tagged found below same next-is =
    tagged_next f level tag whole now next from sector tagged found below (rw (sym same) next-is)
