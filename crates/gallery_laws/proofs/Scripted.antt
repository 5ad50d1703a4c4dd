-- The script of a gallery: it is read without a fault, and carried out in any game no command of it is refused.
use Rattle.std.proofs.Common.{◌≡◌, ℕ, zero, suc, ◌+◌, ◌*◌, ◌%◌, ◌^◌, ◌<◌, ◌≤◌, pos, negsuc, Bool, true, false, nat_lt, nat_le, List, [], ◌∷◌, ◌++◌, length, take, drop, Result, Ok, Err, Option, Some, None, refl, sym, ap, ◌∙◌, subst, arith, length-append, length-drop, IsOk, codes, if◌then◌else◌, fold, ◌==◌, ◌&&◌}
use Rattle.std.specs.List.{enumerate_from}
use Rattle.std.specs.Fmt.{digits}
use Rattle.std.specs.Str.Lines.{lines}
use Rattle.std.proofs.lemmas.Bool.{le-ltb, ne_eqb}
use Rattle.std.proofs.lemmas.List.{length-take-le}
use Rattle.std.proofs.lemmas.List.Sums.{fold-append}
use Rattle.lmp_codec.specs.Demo.{most_tics}
use Rattle.lmp_codec.specs.Tics.{tic_of}
use Rattle.lmp_codec.specs.declared.input.Tic.{Tic}
use Rattle.game_trait.specs.declared.shown.Quantity.TheVariants as quantity
use Rattle.brute_ranges.specs.declared.ranges.TicRanges.{TicRanges}
use Rattle.brute_ranges.specs.Tics.{tic_count}
use Rattle.brute_ranges.specs.Space.{Ranges, ranges_with, sequences_of}
use Rattle.brute_ranges.proofs.Sequences.{length-all}
use Rattle.brute_targets.specs.declared.want.Want.{Want}
use Rattle.brute_targets.specs.declared.want.Want.TheVariants as want
use Rattle.brute_targets.specs.declared.want.Op.TheVariants as op
use Rattle.build_script.specs.declared.fault.Kind.{Kind}
use Rattle.build_script.specs.declared.fault.Kind.TheVariants as kind
use Rattle.build_script.specs.declared.commands.Command.{Command}
use Rattle.build_script.specs.declared.commands.Command.TheVariants as script
use Rattle.build_script.specs.declared.commands.Entry.{Entry}
use Rattle.build_script.specs.Opened.{Opened}
use Rattle.build_script.specs.Searches.{is_space}
use Rattle.build_script.specs.Script.{Reading, reading, with_entry, after_search, next_line, ended, script_of}
use Rattle.build_edits.specs.Parts.{Parts, all_tics, parts_at}
use Rattle.build_edits.specs.declared.fault.EditFault.{EditFault}
use Rattle.build_edits.specs.declared.fault.EditFault.TheVariants.{Place, TooLong}
use Rattle.cow_world.specs.Flat.{Gridded}
use Rattle.play_step.specs.Doom.{Setup}
use Rattle.build_session.specs.declared.show.Form.TheVariants as form
use Rattle.build_session.specs.Session.{Play, State, on_tape, shown_in, answered, first_of_search, at_line, next_carried, all_carried}
use Rattle.dsda_cli.specs.Meaning.{gallery_script, fresh}
use Rattle.gallery_gen.specs.Gallery.{tic_count as tics_in}

-- ---- what the script says

-- the ranges of each of the three tics that are searched
unfoldable pub tic_ranges : TicRanges
tic_ranges = record {
  forward = record { low = pos 40; high = pos 50 };
  side = record { low = negsuc 1; high = pos 2 };
  turn = record { low = pos 0; high = pos 0 };
  using = record { low = pos 0; high = pos 0 };
}

abbrev ranges : Ranges
ranges = ranges_with (tic_ranges ∷ tic_ranges ∷ tic_ranges ∷ []) false

abbrev target : Want
target = want.Reading quantity.MomX op.Greater (pos 0)

abbrev resting_tic : Tic
resting_tic = tic_of (pos 0) (pos 0) 0 0

abbrev entry : ℕ → Command → Entry
entry line command = record { line = line; command = command }

-- the search before its `go`, and the commands before it
abbrev search_open : Opened
search_open = record { line = 7; ranges = ranges; wants = target ∷ [] }

abbrev entries_before : ℕ → List Entry
entries_before total =
    entry 1 (script.Seek total) ∷ entry 2 script.Show ∷ entry 3 (script.Seek 10) ∷ entry 4 (script.Put resting_tic)
    ∷ entry 5 (script.Seek total) ∷ entry 6 script.Show ∷ entry 10 (script.Want target) ∷ []

-- the commands of the script of a gallery of so many tics
abbrev pub entries_of : ℕ → List Entry
entries_of total =
    entry 1 (script.Seek total) ∷ entry 2 script.Show ∷ entry 3 (script.Seek 10) ∷ entry 4 (script.Put resting_tic)
    ∷ entry 5 (script.Seek total) ∷ entry 6 script.Show ∷ entry 10 (script.Want target) ∷ entry 11 (script.Go ranges (target ∷ [])) ∷ entry 12 script.Show ∷ []

-- ---- it is read

-- its lines with their numbers, and the last two of them
abbrev numbered : ℕ → List (ℕ × List ℕ)
numbered total = enumerate_from 1 (lines (gallery_script total))

abbrev last_lines : List (ℕ × List ℕ)
last_lines = (11, codes "go") ∷ (12, codes "show") ∷ []

abbrev Read : Type 0
Read = Result Reading (ℕ × Kind)

abbrev read_on : Read → List (ℕ × List ℕ) → Read
read_on before rest = fold (next_line true false) before rest

record Spells (total : ℕ) : Type 0 where
  split : numbered total ≡ take 10 (numbered total) ++ last_lines
  front : read_on (Ok (reading None [])) (take 10 (numbered total)) ≡ Ok (reading (Some search_open) (entries_before total))

spells_600 : Spells 600
unfolding gallery_script tic_ranges digits
spells_600 = record { split = refl; front = refl }

spells_700 : Spells 700
unfolding gallery_script tic_ranges digits
spells_700 = record { split = refl; front = refl }

spells_800 : Spells 800
unfolding gallery_script tic_ranges digits
spells_800 = record { split = refl; front = refl }

spells_900 : Spells 900
unfolding gallery_script tic_ranges digits
spells_900 = record { split = refl; front = refl }

spells_1000 : Spells 1000
unfolding gallery_script tic_ranges digits
spells_1000 = record { split = refl; front = refl }

spells_of : (k : ℕ) → k < 5 → Spells (600 + k * 100)
spells_of zero below = spells_600
spells_of (suc zero) below = spells_700
spells_of (suc (suc zero)) below = spells_800
spells_of (suc (suc (suc zero))) below = spells_900
spells_of (suc (suc (suc (suc zero)))) below = spells_1000
spells_of (suc (suc (suc (suc (suc k))))) below = absurd (omega (arith, below))

spells : (number : ℕ) → Spells (tics_in number)
spells number = spells_of (number % 5) (omega arith)

-- three tics of 55 values are no more sequences than a search may have
three_tics : (each : TicRanges) → length (sequences_of false (each ∷ each ∷ each ∷ [])) ≡ tic_count false each * (tic_count false each * (tic_count false each * 1))
three_tics each =
    length-all false each (each ∷ each ∷ [])
    ∙ ap (λ n. tic_count false each * n) (length-all false each (each ∷ []) ∙ ap (λ n. tic_count false each * n) (length-all false each []))

few_sequences : (each : TicRanges) → tic_count false each ≡ 55 → is_space (ranges_with (each ∷ each ∷ each ∷ []) false) ≡ true
few_sequences each count = ap (λ n. nat_le n (2 ^ 40)) (three_tics each ∙ ap (λ n. n * (n * (n * 1))) count)

values_of_a_tic : tic_count false tic_ranges ≡ 55
unfolding tic_ranges
values_of_a_tic = refl

-- the last two lines, behind an open search that has no more
goes_last : (search : Opened) (entries : List Entry) → is_space search.ranges ≡ true
    → ended (read_on (Ok (reading (Some search) entries)) last_lines) ≡ Ok (with_entry (with_entry entries 11 (script.Go search.ranges search.wants)) 12 script.Show)
goes_last search entries is =
    ap (λ (b : Bool). ended (read_on (after_search 11 entries (if b then Ok (script.Go search.ranges search.wants) else Err (11, kind.Space))) ((12, codes "show") ∷ []))) is

read_so : (total : ℕ) → Spells total → script_of true false (gallery_script total) ≡ Ok (entries_of total)
read_so total spelt =
    ap (λ (all : List (ℕ × List ℕ)). ended (read_on (Ok (reading None [])) all)) spelt.split
    ∙ (ap (λ (read : Read). ended read) (fold-append (next_line true false) (Ok (reading None [])) (take 10 (numbered total)) last_lines)
    ∙ (ap (λ (read : Read). ended (read_on read last_lines)) spelt.front
    ∙ goes_last search_open (entries_before total) (few_sequences tic_ranges values_of_a_tic)))

pub script_read : (number : ℕ) → script_of true false (gallery_script (tics_in number)) ≡ Ok (entries_of (tics_in number))
script_read number = read_so (tics_in number) (spells number)

-- ---- it is carried out

abbrev Carried : Type 0
Carried = Result State (ℕ × EditFault)

-- so many tics stand before the cursor, and so many in all
record Stands (total place : ℕ) (state : State) : Type 0 where
  here : length state.tape.before ≡ place
  whole : length state.tape.before + length state.tape.after ≡ total

record Has (total place : ℕ) (result : Carried) : Type 0 where
  state : State
  is : result ≡ Ok state
  stands : Stands total place state

-- one step more
on : (total place next : ℕ) (result : Carried) (step : Carried → Carried) → Has total place result → ((state : State) → Stands total place state → Has total next (step (Ok state))) → Has total next (step result)
on total place next result step has rest = subst (λ (r : Carried). Has total next (step r)) (sym has.is) (rest has.state has.stands)

-- what isn't refused
unless : {A : Type 0} (line : ℕ) (refused : Bool) (fault : EditFault) (value : A) → refused ≡ false → at_line line (if refused then Err fault else Ok value) ≡ Ok value
unless line refused fault value is = ap (λ (b : Bool). at_line line (if b then Err fault else Ok value)) is

not_empty : (tics : List Tic) → 0 < length tics → (length tics == 0) ≡ false
not_empty tics filled = ne_eqb (length tics) 0 (λ same. omega (arith, filled, same))

abbrev carry : Play Setup Gridded → Setup → ℕ → Command → Carried → Carried
carry play game line command result = next_carried play game result (entry line command)

module _ (play : Play Setup Gridded) (game : Setup) where
  seeks : (line to total place : ℕ) (state : State) → Stands total place state → to ≤ total → Has total to (carry play game line (script.Seek to) (Ok state))
  seeks line to total place state stands within =
      let tics = all_tics state.tape in
      let count : length tics ≡ total = length-append state.tape.before state.tape.after ∙ stands.whole in
      let inside : to ≤ length tics = omega (arith, count) in
      let front : length (take to tics) ≡ to = length-take-le to tics inside in
      let whole : length (take to tics) + length (drop to tics) ≡ total = omega (arith, front, length-drop to tics, count) in
      record {
        state = record state { tape = parts_at tics to };
        is = ap (λ (b : Bool). at_line line (on_tape state (if b then Err (Place (length tics)) else Ok (parts_at tics to)))) (le-ltb (length tics) to inside);
        stands = record { here = front; whole = whole };
      }

  shows : (line total place : ℕ) (state : State) → Stands total place state → Has total place (carry play game line script.Show (Ok state))
  shows line total place state stands = record { state = shown_in play game form.World state; is = refl; stands = record { here = stands.here; whole = stands.whole } }

  puts : (line : ℕ) (tic : Tic) (total place : ℕ) (state : State) → Stands total place state → place < total → Has total (place + 1) (carry play game line (script.Put tic) (Ok state))
  puts line tic total place state stands less =
      let front = state.tape.before in
      let rest = state.tape.after in
      let pushed : Parts = record { before = front ++ tic ∷ []; after = drop 1 rest } in
      let filled : 0 < length rest = omega (arith, stands.here, stands.whole) in
      let here : length (front ++ tic ∷ []) ≡ place + 1 = omega (arith, length-append front (tic ∷ []), stands.here) in
      let whole : length (front ++ tic ∷ []) + length (drop 1 rest) ≡ total = omega (arith, here, length-drop 1 rest, stands.here, stands.whole) in
      record {
        state = record state { tape = pushed };
        is = ap (λ (b : Bool). at_line line (on_tape state (if b && nat_le most_tics (length front) then Err TooLong else Ok pushed))) (not_empty rest filled);
        stands = record { here = here; whole = whole };
      }

  wants_so : (line : ℕ) (wanted : Want) (total place : ℕ) (state : State) → Stands total place state → Has total place (carry play game line (script.Want wanted) (Ok state))
  wants_so line wanted total place state stands = record { state = state; is = refl; stands = stands }

  -- whatever the search finds
  goes : (line : ℕ) (searched : Ranges) (wanted : List Want) (total place : ℕ) (state : State) → Stands total place state → place + length searched.tics ≤ most_tics → IsOk (carry play game line (script.Go searched wanted) (Ok state))
  goes line searched wanted total place state stands few =
      let found = answered play game searched wanted state (first_of_search play game searched wanted state) in
      let inside : length state.tape.before + length searched.tics ≤ most_tics = omega (arith, stands.here) in
      let so = unless line (nat_lt most_tics (length state.tape.before + length searched.tics)) TooLong found (le-ltb most_tics (length state.tape.before + length searched.tics) inside) in
      subst (λ (r : Carried). IsOk r) (sym so) refl

  shows_last : (line : ℕ) (result : Carried) → IsOk result → IsOk (carry play game line script.Show result)
  shows_last line (Ok state) is = refl
  shows_last line (Err fault) is = absurd cc

  carries : (total : ℕ) (tics : List Tic) → length tics ≡ total → 10 < total → total ≤ 1000 → IsOk (all_carried play game (entries_of total) (fresh tics))
  carries total tics counted more few =
      let a = seeks 1 total total 0 (fresh tics) (record { here = refl; whole = omega (arith, counted) }) (omega arith) in
      let b = on total total total _ (carry play game 2 script.Show) a (shows 2 total total) in
      let c = on total total 10 _ (carry play game 3 (script.Seek 10)) b (λ state stands. seeks 3 10 total total state stands (omega arith)) in
      let d = on total 10 11 _ (carry play game 4 (script.Put resting_tic)) c (λ state stands. puts 4 resting_tic total 10 state stands (omega arith)) in
      let e = on total 11 total _ (carry play game 5 (script.Seek total)) d (λ state stands. seeks 5 total total 11 state stands (omega arith)) in
      let f = on total total total _ (carry play game 6 script.Show) e (shows 6 total total) in
      let g = on total total total _ (carry play game 10 (script.Want target)) f (wants_so 10 target total total) in
      let fits : total + 3 ≤ most_tics = omega arith in
      let h = subst (λ (r : Carried). IsOk (carry play game 11 (script.Go ranges (target ∷ [])) r)) (sym g.is) (goes 11 ranges (target ∷ []) total total g.state g.stands fits) in
      shows_last 12 _ h

pub script_carried : (play : Play Setup Gridded) (game : Setup) (number : ℕ) (tics : List Tic) → length tics ≡ tics_in number → IsOk (all_carried play game (entries_of (tics_in number)) (fresh tics))
script_carried play game number tics counted = carries play game (tics_in number) tics counted (omega arith) (omega arith)
