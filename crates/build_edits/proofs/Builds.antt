-- An edit leaves the tics before the cursor, and so the worlds that are kept along them.
use Rattle.std.proofs.Common.{ℕ, ◌≤◌, ◌≡◌, ◌==◌, ◌+◌, nat_lt, ◌++◌, List, [], ◌∷◌, length, take, drop, Bool, true, false, if◌then◌else◌, arith, ap, sym, ◌∙◌, append_assoc, Ok, Err}
use Rattle.std.proofs.lemmas.List.{take_at, take-append-drop, length-append}
use Rattle.lmp_codec.specs.Demo.{most_tics}
use Rattle.lmp_codec.specs.declared.input.Tic.{Tic}
use Rattle.game_trait.specs.declared.game.Game.{Ghosts}
use Rattle.key_frames.specs.Frames.{AreFrames}
use Rattle.build_edits.specs.Parts.{Parts, all_tics, parts_at}
use Rattle.build_edits.specs.Edits.{put_outcome, insert_outcome, delete_outcome, cut_outcome, repeat_outcome, accept_outcome, copies, last_of}
use Rattle.build_edits.specs.declared.fault.EditFault.{EditFault}
use Rattle.build_edits.specs.declared.fault.EditFault.TheVariants.{Before, TooLong}

-- some tics at the front of a list, and the rest of it, are the two parts at any place
pub front_and_rest : (front tics : List Tic) (len place : ℕ)
    → front ≡ take len tics
    → front ++ drop len tics ≡ all_tics (parts_at tics place)
front_and_rest front tics len place is =
    ap (λ (x : List Tic). x ++ drop len tics) is ∙ take-append-drop len tics ∙ sym (take-append-drop place tics)

-- the tics before the old cursor stand at the front of the new tape
pub record Keeps (old new : Parts) : Type 0 where
  pub rest : List Tic
  pub is : all_tics new ≡ old.before ++ rest

-- what is done was not refused
pub done_is : (test : Bool) (fault : EditFault) (edited new : Parts)
    → (if test then Err fault else Ok edited) ≡ Ok new
    → edited ≡ new
done_is true fault edited new is = absurd cc
done_is false fault edited new is = cc

-- the same of two tests
pub done_after : (first second : Bool) (fault other : EditFault) (edited new : Parts)
    → (if first then Err fault else if second then Err other else Ok edited) ≡ Ok new
    → edited ≡ new
done_after true second fault other edited new is = absurd cc
done_after false second fault other edited new is = done_is second other edited new is

-- what each edit, done, keeps
pub put_keeps : (tic : Tic) (old new : Parts) → put_outcome tic old ≡ Ok new → Keeps old new
put_keeps tic old new is = record {
  rest = tic ∷ drop 1 old.after;
  is = ap all_tics (sym (done_is _ _ _ new is)) ∙ append_assoc old.before (tic ∷ []) (drop 1 old.after);
}

pub insert_keeps : (tic : Tic) (old new : Parts) → insert_outcome tic old ≡ Ok new → Keeps old new
insert_keeps tic old new is = record {
  rest = tic ∷ old.after;
  is = ap all_tics (sym (done_is _ _ _ new is)) ∙ append_assoc old.before (tic ∷ []) old.after;
}

pub delete_keeps : (old new : Parts) → delete_outcome old ≡ Ok new → Keeps old new
delete_keeps old new is = record {
  rest = drop 1 old.after;
  is = ap all_tics (sym (done_is _ _ _ new is));
}

pub cut_keeps : (old new : Parts) → cut_outcome old ≡ Ok new → Keeps old new
cut_keeps old new is = record { rest = []; is = ap all_tics (sym (done_is false TooLong _ new is)) }

pub repeat_keeps : (count : ℕ) (old new : Parts) → repeat_outcome count old ≡ Ok new → Keeps old new
repeat_keeps count old new is =
    let copied : List Tic = copies count (last_of old.before) in
    let none : Bool = length old.before == 0 in
    let too_long : Bool = nat_lt most_tics (length old.before + count) in
    let edited : Parts = record { before = old.before ++ copied; after = drop count old.after } in
    record {
      rest = copied ++ drop count old.after;
      is = ap all_tics (sym (done_after none too_long Before TooLong edited new is))
          ∙ append_assoc old.before copied (drop count old.after);
    }

pub accept_keeps : (tics : List Tic) (old new : Parts) → accept_outcome tics old ≡ Ok new → Keeps old new
accept_keeps tics old new is = record {
  rest = tics ++ [];
  is = ap all_tics (sym (done_is _ _ _ new is)) ∙ append_assoc old.before tics [];
}

-- The frames that are left after an edit belong to the new tape, given what a cut of frames promises.
pub frames_keep : {G W : Type 0}
    (rules : Ghosts G W) (game : G) (old new : Parts) (kept left : List W) (place : ℕ)
    → place ≡ length old.before
    → AreFrames rules game (all_tics old) kept
    → Keeps old new
    → ((game : G) (tics other : List Tic)
    → AreFrames rules game tics kept
    → take place tics ≡ take place other
    → place ≤ length other
    → AreFrames rules game other left)
    → AreFrames rules game (all_tics new) left
frames_keep rules game old new kept left place at are keeps belong =
    let front : take place (all_tics old) ≡ old.before = take_at old.before old.after place (sym at) in
    let front' : take place (all_tics new) ≡ old.before =
    ap (take place) keeps.is ∙ take_at old.before keeps.rest place (sym at) in
    let inside : place ≤ length (all_tics new) =
    omega (arith, ap length keeps.is, length-append old.before keeps.rest) in
    belong game (all_tics old) (all_tics new) are (front ∙ sym front') inside
