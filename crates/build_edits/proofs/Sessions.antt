-- What a list of edits makes of a build, by what each of them does.
use Rattle.std.proofs.Common.{ℕ, ◌≡◌, ◌≢◌, List, [], ◌∷◌, ap, refl, ◌∙◌, Result, Ok, Err}
use Rattle.std.specs.Result.{result_unwrap_or}
use Rattle.game_trait.specs.declared.game.Game.{Ghosts}
use Rattle.game_trait.specs.Replay.{IsReplay}
use Rattle.build_edits.specs.Parts.{Parts}
use Rattle.build_edits.specs.Edits.{Outcome, MayEdit}
use Rattle.build_edits.specs.Built.{Built, with_tape}
use Rattle.build_edits.specs.Lists.{Edit, Seek, Put, Insert, Delete, Cut, Repeat, Accept, outcome_of, after_edits, Edited, WentThrough}
use Rattle.build_edits.specs.declared.fault.EditFault.{EditFault}
use Rattle.build_edits.specs.declared.fault.EditFault.TheVariants.{Place, Before, TooLong, Memory}

-- the new build has the old one's game, and a tape of these parts
record Has {G : Type 0} (old new : Built G) (parts : Parts) : Type 0 where
  game : new.game ≡ old.game
  tape : new.tape ≡ parts

-- an edit that was done
done : {G : Type 0} (old new : Built G) (reach : ℕ) (outcome : Outcome)
    → with_tape old reach outcome ≡ Ok new
    → Has old new (result_unwrap_or outcome old.tape)
done old new reach (Ok tape) is = record { game = cc; tape = cc }
done old new reach (Err fault) is = absurd cc

-- an edit that was refused
refused : {G : Type 0} (old new : Built G) (reach : ℕ) (outcome : Outcome) (fault : EditFault)
    → with_tape old reach outcome ≡ Err fault
    → new ≡ old
    → Has old new (result_unwrap_or outcome old.tape)
refused old new reach (Ok tape) fault is same = absurd cc
refused old new reach (Err other) fault is same = record { game = cc; tape = cc }

-- an edit that has answered, and not for want of memory
answered : {G : Type 0}
    (old new : Built G) (reach : ℕ) (outcome : Outcome) (result : Result (Unit {0}) EditFault)
    → result ≢ Err Memory
    → MayEdit result old new (with_tape old reach outcome)
    → Has old new (result_unwrap_or outcome old.tape)
answered old new reach outcome (Ok nothing) found is = done old new reach outcome is
answered old new reach outcome (Err Memory) found is = absurd (found refl)
answered old new reach outcome (Err (Place count)) found is =
    refused old new reach outcome (Place count) is.0 is.1
answered old new reach outcome (Err Before) found is = refused old new reach outcome Before is.0 is.1
answered old new reach outcome (Err TooLong) found is = refused old new reach outcome TooLong is.0 is.1

-- the same of any edit
edited : {G : Type 0} (edit : Edit) (old new : Built G)
    → Edited edit old new
    → Has old new (result_unwrap_or (outcome_of edit old.tape) old.tape)
edited (Seek place) old new is = answered old new _ (outcome_of (Seek place) old.tape) is.0 is.1 is.2
edited (Put tic) old new is = answered old new _ (outcome_of (Put tic) old.tape) is.0 is.1 is.2
edited (Insert tic) old new is = answered old new _ (outcome_of (Insert tic) old.tape) is.0 is.1 is.2
edited Delete old new is = answered old new _ (outcome_of Delete old.tape) is.0 is.1 is.2
edited Cut old new is = answered old new _ (outcome_of Cut old.tape) is.0 is.1 is.2
edited (Repeat count) old new is = answered old new _ (outcome_of (Repeat count) old.tape) is.0 is.1 is.2
edited (Accept tics) old new is = answered old new _ (outcome_of (Accept tics) old.tape) is.0 is.1 is.2

-- the same of a whole list
pub went_through : {G : Type 0} (edits : List Edit) (old new : Built G)
    → WentThrough edits old new
    → (new.game ≡ old.game) × (new.tape ≡ after_edits edits old.tape)
went_through [] old new is = (ap (λ b. b.game) is, ap (λ b. b.tape) is)
went_through {G} (edit ∷ edits) old new is =
    let shown : Built G = is.0 in
    let middle : Built G = is.1 in
    let first = edited edit shown middle is.3 in
    let rest = went_through edits middle new is.4 in
    let game : shown.game ≡ old.game = ap (λ (b : Built G). b.game) is.2 in
    let tape : shown.tape ≡ old.tape = ap (λ (b : Built G). b.tape) is.2 in
    let step : middle.tape ≡ result_unwrap_or (outcome_of edit old.tape) old.tape =
    first.tape ∙ ap (λ (p : Parts). result_unwrap_or (outcome_of edit p) p) tape in
    (rest.0 ∙ first.game ∙ game, rest.1 ∙ ap (after_edits edits) step)

-- and of the world that is shown after it
pub shows_replay : {G W : Type 0} (rules : Ghosts G W) (edits : List Edit) (old new : Built G) (world : W)
    → WentThrough edits old new
    → IsReplay rules new.game new.tape.before world
    → IsReplay rules old.game (after_edits edits old.tape).before world
shows_replay rules edits old new world is replay =
    let went = went_through edits old new is in
    rw (← went.0, ← went.1) replay
