-- An edit adds no tic but the command's: what each tic of a tape has, and the command's, each tic of the edited tape has.
use Rattle.std.proofs.Common.{◌≡◌, ℕ, ◌-◌, false, List, [], ◌∷◌, ◌++◌, length, refl, sym, subst, Option, Some, None, slice_get, Ok}
use Rattle.std.specs.Prelude.{All}
use Rattle.std.proofs.Math.Seq.{take-append_seam, drop-append_seam}
use Rattle.std.proofs.lemmas.List.Elements.{All-append, All-nil, All-take, All-drop, All-replicate, All-get_or}
use Rattle.std.proofs.lemmas.Option.{get_or_from_slice_get, slice_get_within}
use Rattle.std.proofs.lemmas.List.{take-append-drop}
use Rattle.lmp_codec.specs.declared.input.Tic.{Tic}
use Rattle.build_edits.specs.Parts.{Parts, all_tics, parts_at}
use Rattle.build_edits.specs.Edits.{seek_outcome, put_outcome, insert_outcome, delete_outcome, cut_outcome, repeat_outcome, copies, last_of}
use Rattle.build_edits.specs.declared.fault.EditFault.TheVariants.{Before, TooLong}
use Rattle.build_edits.proofs.Builds.{done_is, done_after}

module _ (P : Tic → Type 0) where
  -- both parts of a tape hold what all of it does
  record Both (parts : Parts) : Type 0 where
    before : All P parts.before
    after : All P parts.after

  both_of : (parts : Parts) → All P (all_tics parts) → Both parts
  both_of parts all = record {
    before = subst (All P) (take-append_seam parts.before parts.after) (All-take P (length parts.before) (all_tics parts) all);
    after = subst (All P) (drop-append_seam parts.before parts.after) (All-drop P (length parts.before) (all_tics parts) all);
  }

  copies_hold : (tics : List Tic) (place count : ℕ) (last : Option Tic) → slice_get tics place ≡ last → All P tics → All P (copies count last)
  copies_hold tics place count None is all = All-nil P
  copies_hold tics place count (Some tic) is all =
      All-replicate P count tic (subst P (get_or_from_slice_get tics place tic tic is) (All-get_or P tics place tic (slice_get_within tics place tic is) all))

  joined : (edited new : Parts) → edited ≡ new → All P edited.before → All P edited.after → All P (all_tics new)
  joined edited new is before after = subst (λ (parts : Parts). All P (all_tics parts)) is (All-append P edited.before edited.after before after)

  pub seek_holds : (place : ℕ) (parts new : Parts) → seek_outcome place parts ≡ Ok new → All P (all_tics parts) → All P (all_tics new)
  seek_holds place parts new is all =
      subst (λ (p : Parts). All P (all_tics p)) (done_is _ _ (parts_at (all_tics parts) place) new is)
      (subst (All P) (sym (take-append-drop place (all_tics parts))) all)

  pub put_holds : (tic : Tic) (parts new : Parts) → put_outcome tic parts ≡ Ok new → P tic → All P (all_tics parts) → All P (all_tics new)
  put_holds tic parts new is holds all =
      let both = both_of parts all in
      joined _ new (done_is _ _ _ new is) (All-append P parts.before (tic ∷ []) both.before (All-replicate P 1 tic holds)) (All-drop P 1 parts.after both.after)

  pub insert_holds : (tic : Tic) (parts new : Parts) → insert_outcome tic parts ≡ Ok new → P tic → All P (all_tics parts) → All P (all_tics new)
  insert_holds tic parts new is holds all =
      let both = both_of parts all in
      joined _ new (done_is _ _ _ new is) (All-append P parts.before (tic ∷ []) both.before (All-replicate P 1 tic holds)) both.after

  pub delete_holds : (parts new : Parts) → delete_outcome parts ≡ Ok new → All P (all_tics parts) → All P (all_tics new)
  delete_holds parts new is all =
      let both = both_of parts all in
      joined _ new (done_is _ _ _ new is) both.before (All-drop P 1 parts.after both.after)

  pub cut_holds : (parts new : Parts) → cut_outcome parts ≡ Ok new → All P (all_tics parts) → All P (all_tics new)
  cut_holds parts new is all =
      joined _ new (done_is false TooLong _ new is) (both_of parts all).before (All-nil P)

  pub repeat_holds : (count : ℕ) (parts new : Parts) → repeat_outcome count parts ≡ Ok new → All P (all_tics parts) → All P (all_tics new)
  repeat_holds count parts new is all =
      let both = both_of parts all in
      let copied = copies_hold parts.before (length parts.before - 1) count (last_of parts.before) refl both.before in
      joined _ new (done_after _ _ Before TooLong _ new is)
      (All-append P parts.before (copies count (last_of parts.before)) both.before copied) (All-drop P count parts.after both.after)

  -- so is a sequence that comes after the tics before the cursor, in place of the rest
  pub accepted_holds : (tics : List Tic) (parts : Parts) → All P tics → All P (all_tics parts) → All P (all_tics (record { before = parts.before ++ tics; after = [] }))
  accepted_holds tics parts held all =
      All-append P (parts.before ++ tics) [] (All-append P parts.before tics (both_of parts all).before held) (All-nil P)
