-- A part for each sector with a tag, of which the first that halts is the last.
use Rattle.std.proofs.Common.{◌≡◌, ℕ, ◌+◌, ◌-◌, ◌<◌, ◌≤◌, ℤ, Bool, [], ◌∷◌, length, Err, refl, sym, arith}
use Rattle.map_geometry.specs.Lists.{Lists}
use Rattle.map_geometry.specs.Sectors.{sectors_with_tag, with_tag_from}
use Rattle.cow_world.specs.declared.fault.PlayFault.{PlayFault}
use Rattle.cow_world.specs.declared.fault.PlayFault.TheVariants.{Halt as Halted, Memory}
use Rattle.cow_world.specs.Flat.{Gridded}
use Rattle.cow_world.specs.Outcome.{Outcome, goes, halts, each_from, Plays}

-- what is done in the sectors with the tag from number `from` on gives what is done in all of them
pub record TagsLeft {A : Type 0} (part : ℕ → A → Outcome A) (level : Lists) (tag : ℤ) (whole : Outcome A) (now : A) (from : ℕ) : Type 0 where
  pub left : each_from part now (with_tag_from level tag from) ≡ whole
  pub within : from ≤ length level.sectors

-- the part of the next sector went on
pub left_next : {A : Type 0} (part : ℕ → A → Outcome A) (level : Lists) (tag : ℤ) (whole : Outcome A) (now next : A) (from sector number : ℕ) → TagsLeft part level tag whole now from
    → with_tag_from level tag from ≡ sector ∷ with_tag_from level tag (sector + 1) → sector < length level.sectors → number ≡ sector → part number now ≡ goes next → TagsLeft part level tag whole next (sector + 1)
left_next part level tag whole now next from sector number tags found below same went =
    let here : part sector now ≡ goes next = rw (sym same) went in
    record { left = rw here at (rw found at tags.left); within = omega arith }

-- none is left
pub left_none : {A : Type 0} (part : ℕ → A → Outcome A) (level : Lists) (tag : ℤ) (whole : Outcome A) (now : A) (from : ℕ) → TagsLeft part level tag whole now from → with_tag_from level tag from ≡ [] → whole ≡ goes now
left_none part level tag whole now from tags none = sym (rw none at tags.left)

-- the part of the next sector didn't go on, and nor does the whole
pub left_ends : (part : ℕ → Gridded × Bool → Outcome (Gridded × Bool)) (level : Lists) (tag : ℤ) (whole : Outcome (Gridded × Bool)) (now : Gridded × Bool) (from sector number : ℕ) (fault : PlayFault) (world : Gridded) → TagsLeft part level tag whole now from
    → with_tag_from level tag from ≡ sector ∷ with_tag_from level tag (sector + 1) → number ≡ sector → Plays {D = Bool} (Err fault) world (part number now) → Plays {D = Bool} (Err fault) world whole
left_ends part level tag whole now from sector number Memory world tags found same ended = tt
left_ends part level tag whole now from sector number (Halted reason) world tags found same ended =
    let here : part sector now ≡ halts reason = rw (sym same) ended in
    sym (rw here at (rw found at tags.left))

-- all are left
pub left_first : {A : Type 0} (part : ℕ → A → Outcome A) (level : Lists) (tag : ℤ) (now : A) → TagsLeft part level tag (each_from part now (sectors_with_tag level tag)) now 0
left_first part level tag now =
    let all : length level.sectors - 0 ≡ length level.sectors = omega arith in
    record { left = rw all refl; within = omega arith }
