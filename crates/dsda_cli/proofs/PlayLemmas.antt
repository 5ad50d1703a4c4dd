-- A session that was carried out, or refused, is a right answer.
use Rattle.std.proofs.Common.{◌≡◌, ◌<◌, ℕ, Bool, true, false, not, List, [], ◌∷◌, length, refl, ap, sym, subst, ◌∙◌, Option, Some, None, Result, Ok, Err, nat_lt, arith, if◌then◌else◌}
use Rattle.std.specs.Prelude.{All, OnOk, IsErrAnd}
use Rattle.std.specs.List.{find}
use Rattle.std.proofs.lemmas.List.Elements.{All-nil, All-cons}
use Rattle.std.proofs.lemmas.Bool.Decides.{nat_tests}
use Rattle.doom_edge.specs.Costs.{Cost, free, Rises}
use Rattle.map_geometry.specs.Lists.{Lists}
use Rattle.cow_world.specs.Flat.{Gridded}
use Rattle.lmp_codec.specs.declared.input.Tic.{Tic}
use Rattle.build_script.specs.declared.commands.Entry.{Entry}
use Rattle.build_script.specs.declared.commands.Command.{Command}
use Rattle.build_script.specs.declared.commands.Command.TheVariants as script
use Rattle.brute_targets.specs.declared.want.Want.TheVariants as want
use Rattle.build_edits.specs.declared.fault.EditFault.{EditFault}
use Rattle.build_edits.specs.declared.fault.EditFault.TheVariants.{Place, Before, TooLong, Memory}
use Rattle.build_session.specs.declared.fault.SessionFault.{SessionFault}
use Rattle.build_session.specs.declared.fault.SessionFault.TheVariants as session_fault
use Rattle.build_session.specs.Seen.{Seen}
use Rattle.build_session.specs.Session.{Play, State, all_carried, NamesSectors}
use Rattle.build_session.specs.Costs.{Run, all_run, unspent}
use Rattle.build_session.specs.Runs.{state_in, Ends, CarriesOut}
use Rattle.play_step.specs.Doom.{Setup}
use Rattle.dsda_cli.specs.Judging.{exactly}
use Rattle.dsda_cli.specs.Meaning.{Output, Work, with_cost, fresh, ended_as, cost_of, carried_in, has_named, misnamed}
use Rattle.dsda_cli.specs.Inside.{IsRight, Gives, Takes, stop_of_edit, stop_of_session}
use Rattle.dsda_cli.specs.declared.fault.InputFault.{InputFault}
use Rattle.dsda_cli.specs.declared.product.Stop.{Stop}
use Rattle.dsda_cli.specs.declared.product.Stop.TheVariants as stop

-- ---- names

unnegated : (test : Bool) → not test ≡ false → test ≡ true
unnegated true fails = refl
unnegated false fails = absurd cc

-- a command that names nothing that isn't there names a sector that is
has_sector : (level : Lists) (command : Command) → not (has_named level command) ≡ false → NamesSectors (λ sector. sector < length level.sectors) command
has_sector level (script.ShowSector sector) fails = let below : nat_lt sector (length level.sectors) ≡ true = unnegated (nat_lt sector (length level.sectors)) fails in grind (arith, nat_tests)
has_sector level (script.Seek place) fails = tt
has_sector level (script.Put tic) fails = tt
has_sector level (script.Insert tic) fails = tt
has_sector level script.Delete fails = tt
has_sector level script.Cut fails = tt
has_sector level (script.Repeat count) fails = tt
has_sector level script.Show fails = tt
has_sector level script.ShowKeys fails = tt
has_sector level script.ShowHealth fails = tt
has_sector level (script.Want wanted) fails = tt
has_sector level (script.Go ranges wants) fails = tt

none_from : (test : Bool) (entry : Entry) (rest : Option Entry) → (if test then Some entry else rest) ≡ None → (test ≡ false) × (rest ≡ None)
none_from true entry rest is = absurd cc
none_from false entry rest is = (refl, is)

-- where no command is misnamed, all sectors are there
pub all_there : (level : Lists) (entries : List Entry) → misnamed level entries ≡ None → All (λ entry. NamesSectors (λ sector. sector < length level.sectors) entry.command) entries
all_there level [] is = All-nil (λ entry. NamesSectors (λ sector. sector < length level.sectors) entry.command)
all_there level (entry ∷ entries) is =
    let both = none_from (not (has_named level entry.command)) entry (misnamed level entries) is in
    All-cons (λ entry. NamesSectors (λ sector. sector < length level.sectors) entry.command) entry entries (has_sector level entry.command both.0) (all_there level entries both.1)

-- ---- sessions

risen : (given : Result Output Stop) (cost : Cost) (before after : ℕ) → Rises cost before after → OnOk given (Rises cost before after)
risen (Ok output) cost before after rises = rises
risen (Err why) cost before after rises = tt

module _ (play : Play Setup Gridded) (game : Setup) (tics : List Tic) (entries : List Entry) where
  refused_is : (line : ℕ) (fault : EditFault) → all_carried play game entries (fresh tics) ≡ Err (line, fault)
      → carried_in play game tics entries ≡ ended_as game.header (Err (line, fault)) (cost_of (all_run play game entries (unspent (fresh tics) 0)))
  refused_is line fault is = ap (λ carried. ended_as game.header carried (cost_of (all_run play game entries (unspent (fresh tics) 0)))) is

  stops_right : (fault : SessionFault) (new : Seen Setup) (view : Output → Work) → Ends {G = Setup} (Err fault) (all_carried play game entries (fresh tics)) new → IsRight view (exactly (carried_in play game tics entries)) (Err (stop_of_session fault))
  stops_right (session_fault.Edit line Memory) new view is = tt
  stops_right (session_fault.Edit line (Place count)) new view is = refused_is line (Place count) is
  stops_right (session_fault.Edit line Before) new view is = refused_is line Before is
  stops_right (session_fault.Edit line TooLong) new view is = refused_is line TooLong is
  stops_right session_fault.Memory new view is = tt

  -- why a script is not carried out to its end
  pub play_stops : (given : Result Output Stop) (fault : SessionFault) (new : Seen Setup) (before after : ℕ) → Ends {G = Setup} (Err fault) (all_carried play game entries (fresh tics)) new
      → IsErrAnd given (λ (passed_on : Stop). passed_on ≡ stop_of_session fault) → Takes with_cost given (exactly (carried_in play game tics entries)) before after
  play_stops (Ok output) fault new before after ended passed_on = absurd passed_on
  play_stops (Err why) fault new before after ended passed_on = record {
    cost = free;
    right = let P : Stop → Type 0 = λ why. IsRight (λ output. with_cost output free) (exactly (carried_in play game tics entries)) (Err why) in subst P (sym passed_on) (stops_right fault new (λ output. with_cost output free) ended);
    rises = tt;
  }

  -- what a script that is carried out to its end leaves
  pub play_gives : (header : List ℕ) (given : Result Output Stop) (old new : Seen Setup) (before after : ℕ) → game.header ≡ header → Ends {G = Setup} (Ok tt) (all_carried play game entries (fresh tics)) new
      → CarriesOut {G = Setup} (Ok tt) (all_run play game entries (unspent (fresh tics) 0)) old new before after
      → ((cost : Cost) → Gives (λ output. with_cost output cost) given (exactly (ended_as header (Ok (state_in new)) cost)))
      → Takes with_cost given (exactly (carried_in play game tics entries)) before after
  play_gives header given old new before after same carried run gives =
      let cost = run.0.spent.cost in
      let is : carried_in play game tics entries ≡ ended_as header (Ok (state_in new)) cost = (λ k. ended_as (same k) (carried k) (cost_of (run.1 k))) in
      record {
        cost = cost;
        right = subst (λ (r : Result Work InputFault). IsRight (λ output. with_cost output cost) (exactly r) given) (sym is) (gives cost).right;
        rises = risen given cost before after run.3.rises;
      }
