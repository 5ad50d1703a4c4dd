-- What one command does to a session.
use Rattle.std.proofs.Common.{◌≡◌, ℕ, ◌+◌, ◌-◌, ◌<◌, ◌≤◌, max, Bool, false, List, ◌++◌, length, refl, ap, sym, subst, ◌∙◌, arith, nat_lt, Option, Some, None, slice_get, Result, Ok, Err}
use Rattle.std.specs.Prelude.{All, IfSome, OnOk, OnErr, filter}
use Rattle.std.specs.List.{range_with_len}
use Rattle.std.proofs.lemmas.Bool.{le-ltb}
use Rattle.std.proofs.lemmas.List.Elements.{All-filter, All-from_get_or, All-get_or}
use Rattle.std.proofs.lemmas.List.FromFn.{length-range_with_len, get_or-range_with_len}
use Rattle.std.proofs.lemmas.Option.{get_or_from_slice_get, slice_get_within}
use Rattle.doom_edge.specs.Counts.{raised}
use Rattle.doom_edge.specs.Costs.{Rises}
use Rattle.lmp_codec.specs.Demo.{most_tics}
use Rattle.lmp_codec.specs.declared.input.Tic.{Tic}
use Rattle.game_trait.specs.declared.game.Game.{Ghosts}
use Rattle.key_frames.specs.Frames.{frame_tic, frame_below}
use Rattle.brute_ranges.specs.Space.{Ranges, all_sequences, sequence_at}
use Rattle.brute_targets.specs.declared.want.Want.{Want}
use Rattle.brute_run.specs.Search.{first_meeting, meets, count_of}
use Rattle.brute_run.specs.Costs.{search_cost}
use Rattle.build_edits.specs.Built.{Built, cursor_of, with_tape, after_edit}
use Rattle.build_edits.specs.Edits.{Outcome, Edits, MayEdit, accept_outcome}
use Rattle.build_edits.specs.declared.fault.EditFault.{EditFault}
use Rattle.build_edits.specs.declared.fault.EditFault.TheVariants.{Place, Before, TooLong, Memory}
use Rattle.build_script.specs.declared.commands.Command.TheVariants as script
use Rattle.build_session.specs.declared.show.Form.{Form}
use Rattle.build_session.specs.Lines.{answer_lines}
use Rattle.build_session.specs.Session.{Play, on_tape, form_line, shown_in, accepted, searched, first_of_search, world_at}
use Rattle.build_session.specs.Costs.{kept_to, showing, kept_after, spent}
use Rattle.build_session.specs.Seen.{Seen}
use Rattle.build_session.specs.Runs.{state_in, Does}
use Rattle.doom_edge.proofs.Costs.{rises_free, rises_steps, rises_both}

-- ---- edits

taped : {G : Type 0} (old : Seen G) (build : Built G) (outcome : Outcome) (reach : ℕ) → with_tape old.build reach outcome ≡ Ok build
    → (on_tape (state_in old) outcome ≡ Ok (state_in (record { build = build; report = old.report }))) × (build.game ≡ old.build.game) × (build.reach ≡ reach)
taped old build (Ok tape) reach is =
    let same : record old.build { tape = tape; reach = reach } ≡ build = cc in
    ((λ k. Ok (record { tape = (same k).tape; report = old.report })), ap (λ (b : Built _). b.game) (sym same), ap (λ (b : Built _). b.reach) (sym same))
taped old build (Err fault) reach is = absurd cc

refused : {G : Type 0} (old : Seen G) (outcome : Outcome) (reach : ℕ) (fault : EditFault) → with_tape old.build reach outcome ≡ Err fault → on_tape (state_in old) outcome ≡ Err fault
refused old (Ok tape) reach fault is = absurd cc
refused old (Err other) reach fault is = let same : other ≡ fault = cc in ap Err same

-- the session of a build that is as it was
same_build : {G : Type 0} (old : Seen G) (build : Built G) → build ≡ old.build → record { build = build; report = old.report } ≡ old
same_build old build same = λ k. record { build = same k; report = old.report }

-- an edit of the build that may find no memory
pub may_edit_does : {G : Type 0} (old : Seen G) (build : Built G) (result : Result (Unit {0}) EditFault) (outcome : Outcome) (reach count : ℕ)
    → MayEdit result old.build build (with_tape old.build reach outcome)
    → Does result (on_tape (state_in old) outcome) (kept_to reach) old (record { build = build; report = old.report }) count count
may_edit_does old build (Ok done) outcome reach count is =
    let t = taped old build outcome reach is in
    (t.0, record { game = t.1; reach = t.2; rises = rises_free count count refl })
may_edit_does old build (Err Memory) outcome reach count is = tt
may_edit_does old build (Err (Place n)) outcome reach count is = (refused old outcome reach (Place n) is.0, same_build old build is.1)
may_edit_does old build (Err Before) outcome reach count is = (refused old outcome reach Before is.0, same_build old build is.1)
may_edit_does old build (Err TooLong) outcome reach count is = (refused old outcome reach TooLong is.0, same_build old build is.1)

-- one that needs none
pub edit_does : {G : Type 0} (old : Seen G) (build : Built G) (result : Result (Unit {0}) EditFault) (outcome : Outcome) (reach count : ℕ)
    → Edits result old.build build (with_tape old.build reach outcome)
    → Does result (on_tape (state_in old) outcome) (kept_to reach) old (record { build = build; report = old.report }) count count
edit_does old build (Ok done) outcome reach count is =
    let t = taped old build outcome reach is in
    (t.0, record { game = t.1; reach = t.2; rises = rises_free count count refl })
edit_does old build (Err Memory) outcome reach count is = tt
edit_does old build (Err (Place n)) outcome reach count is = (refused old outcome reach (Place n) is.0, same_build old build is.1)
edit_does old build (Err Before) outcome reach count is = (refused old outcome reach Before is.0, same_build old build is.1)
edit_does old build (Err TooLong) outcome reach count is = (refused old outcome reach TooLong is.0, same_build old build is.1)

-- a target does nothing
pub nothing_does : {G : Type 0} (old : Seen G) (count : ℕ) → Does (Ok tt) (Ok (state_in old)) (kept_to old.build.reach) old old count count
nothing_does old count = (refl, record { game = refl; reach = refl; rises = rises_free count count refl })

-- ---- searches

no_refusal : {G : Type 0} (old : Built G) (tics : List Tic) → length old.tape.before + length tics ≤ most_tics → (fault : EditFault) → after_edit old (accept_outcome tics old.tape) ≡ Err fault → ⊥
no_refusal old tics room fault is =
    let test : nat_lt most_tics (length old.tape.before + length tics) ≡ false = le-ltb most_tics (length old.tape.before + length tics) room in
    let none = rw test at is in
    absurd cc

-- a sequence that isn't too long is accepted, but for want of memory
pub accept_memory : {G : Type 0} (old new : Built G) (tics : List Tic) (result : Result (Unit {0}) EditFault) → length old.tape.before + length tics ≤ most_tics
    → MayEdit result old new (after_edit old (accept_outcome tics old.tape)) → OnErr result (result ≡ Err Memory)
accept_memory old new tics (Ok done) room is = tt
accept_memory old new tics (Err Memory) room is = refl
accept_memory old new tics (Err (Place n)) room is = absurd (no_refusal old tics room (Place n) is.0)
accept_memory old new tics (Err Before) room is = absurd (no_refusal old tics room Before is.0)
accept_memory old new tics (Err TooLong) room is = absurd (no_refusal old tics room TooLong is.0)

numbers_below : (count : ℕ) → All (λ number. number < count) (range_with_len 0 count)
numbers_below count = All-from_get_or (λ number. number < count) (range_with_len 0 count) 0
    (λ i inside. let within : i < count = subst (λ n. i < n) (length-range_with_len 0 count) inside in
    subst (λ n. n < count) (sym (get_or-range_with_len 0 count i 0 within)) (omega arith))

first_below : (test : ℕ → Bool) (count : ℕ) (first : Option ℕ) → slice_get (filter test (range_with_len 0 count)) 0 ≡ first → IfSome first (λ number. number < count)
first_below test count None is = tt
first_below test count (Some number) is =
    let numbers = filter test (range_with_len 0 count) in
    subst (λ n. n < count) (get_or_from_slice_get numbers 0 number number is)
    (All-get_or (λ n. n < count) numbers 0 number (slice_get_within numbers 0 number is) (All-filter test (λ n. n < count) (range_with_len 0 count) (numbers_below count)))

-- the first number that meets is one of those that there are
pub first_within : {G W : Type 0} (rules : Ghosts G W) (game : G) (kept : W) (wants : List Want) (ranges : Ranges) (first : Option ℕ)
    → first ≡ first_meeting rules game kept wants ranges → IfSome first (λ number. number < length (all_sequences ranges))
first_within rules game kept wants ranges first is = first_below (meets rules game kept wants ranges) (count_of ranges) first (sym is)

-- the room for it
pub room_for : (ranges : Ranges) (front : ℕ) (first : Option ℕ) → ((number : ℕ) → number < length (all_sequences ranges) → length (sequence_at ranges number) ≡ length ranges.tics) → front + length ranges.tics ≤ most_tics
    → IfSome first (λ number. number < length (all_sequences ranges)) → IfSome first (λ number. front + length (sequence_at ranges number) ≤ most_tics)
room_for ranges front None each room inside = tt
room_for ranges front (Some number) each room inside = omega (arith, each number inside)

module _ {G W : Type 0} (play : Play G W) (old new : Seen G) (build : Built G) (kept : build ≡ record old.build { reach = build.reach })
    (reach : build.reach ≡ max old.build.reach (frame_tic (cursor_of old.build))) (before mid : ℕ)
    (tics : mid ≡ raised before (cursor_of old.build - frame_below old.build.reach (cursor_of old.build))) where
  tape_is : build.tape ≡ old.build.tape
  tape_is = ap (λ (b : Built G). b.tape) kept

  game_is : build.game ≡ old.build.game
  game_is = ap (λ (b : Built G). b.game) kept

  -- a world is shown
  pub show_does : (form : Form) (lines : List ℕ) (result : Result (Unit {0}) EditFault) → lines ≡ form_line play old.build.game (world_at play old.build.game (state_in old)) form
      → OnOk result (new ≡ record { build = build; report = old.report ++ lines }) → OnErr result (result ≡ Err Memory)
      → Does result (Ok (shown_in play old.build.game form (state_in old))) (showing (cursor_of old.build) old.build.reach) old new before mid
  show_does form lines (Ok done) line_is is memory =
      let tape_new : old.build.tape ≡ new.build.tape = sym (ap (λ (s : Seen G). s.build.tape) is ∙ tape_is) in
      let told : old.report ++ form_line play old.build.game (world_at play old.build.game (state_in old)) form ≡ new.report =
      ap (λ more. old.report ++ more) (sym line_is) ∙ sym (ap (λ (s : Seen G). s.report) is) in (
        (λ k. Ok (record { tape = tape_new k; report = told k })),
        record {
          game = ap (λ (s : Seen G). s.build.game) is ∙ game_is;
          reach = ap (λ (s : Seen G). s.build.reach) is ∙ reach;
          rises = rises_steps before mid (cursor_of old.build - frame_below old.build.reach (cursor_of old.build)) tics;
        },
      )
  show_does form lines (Err Memory) line_is is memory = tt
  show_does form lines (Err (Place n)) line_is is memory = absurd cc
  show_does form lines (Err Before) line_is is memory = absurd cc
  show_does form lines (Err TooLong) line_is is memory = absurd cc

  -- a search is answered
  pub go_does : (ranges : Ranges) (wants : List Want) (first turns : Option ℕ) (result : Result (Unit {0}) EditFault) (after : ℕ)
      → length old.build.tape.before + length ranges.tics ≤ most_tics
      → first ≡ first_of_search play old.build.game ranges wants (state_in old)
      → turns ≡ play.turns_of old.build.game (world_at play old.build.game (state_in old)) ranges wants
      → OnOk result (new ≡ record {
        build = record build { tape = accepted ranges first build.tape; reach = kept_after first (cursor_of build) build.reach };
        report = old.report ++ answer_lines first turns;
      })
      → OnErr result (result ≡ Err Memory)
      → Rises (search_cost play.rules old.build.game (world_at play old.build.game (state_in old)) wants ranges) mid after
      → Does result (searched play old.build.game ranges wants (state_in old)) (spent play old.build.game (script.Go ranges wants) (state_in old) old.build.reach) old new before after
  go_does ranges wants first turns (Ok done) after room first_is turns_is is memory cost =
      let test : nat_lt most_tics (length old.build.tape.before + length ranges.tics) ≡ false = le-ltb most_tics (length old.build.tape.before + length ranges.tics) room in
      let tape_new : accepted ranges (first_of_search play old.build.game ranges wants (state_in old)) old.build.tape ≡ new.build.tape =
      (λ k. accepted ranges (sym first_is k) (sym tape_is k)) ∙ sym (ap (λ (s : Seen G). s.build.tape) is) in
      let told : old.report ++ answer_lines (first_of_search play old.build.game ranges wants (state_in old)) (play.turns_of old.build.game (world_at play old.build.game (state_in old)) ranges wants) ≡ new.report =
      (λ k. old.report ++ answer_lines (sym first_is k) (sym turns_is k)) ∙ sym (ap (λ (s : Seen G). s.report) is) in (
        rw test (λ k. Ok (record { tape = tape_new k; report = told k })),
        record {
          game = ap (λ (s : Seen G). s.build.game) is ∙ game_is;
          reach = ap (λ (s : Seen G). s.build.reach) is ∙ (λ k. kept_after (first_is k) (length (tape_is k).before) (reach k));
          rises = rises_both _ _ before mid after (rises_steps before mid (cursor_of old.build - frame_below old.build.reach (cursor_of old.build)) tics) cost;
        },
      )
  go_does ranges wants first turns (Err Memory) after room first_is turns_is is memory cost = tt
  go_does ranges wants first turns (Err (Place n)) after room first_is turns_is is memory cost = absurd cc
  go_does ranges wants first turns (Err Before) after room first_is turns_is is memory cost = absurd cc
  go_does ranges wants first turns (Err TooLong) after room first_is turns_is is memory cost = absurd cc
