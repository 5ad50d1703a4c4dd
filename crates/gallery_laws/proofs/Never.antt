-- Nothing that is judged of a gallery has a fault: neither its files, nor its level, nor what its script does.
use Rattle.std.proofs.Common.{◌≡◌, ℕ, true, false, List, Result, Ok, Err, Option, Some, None, refl, sym, ap, subst}
use Rattle.std.specs.Prelude.{IsOk}
use Rattle.fixed_angle.specs.FirstFault.{Condition, FirstFault}
use Rattle.fixed_angle.proofs.Order.{one_outcome}
use Rattle.fixed_angle.specs.TableFile.{table_conditions, tables_of}
use Rattle.lmp_codec.specs.Demo.{IsDemo}
use Rattle.lmp_codec.specs.declared.input.Tic.{Tic}
use Rattle.lmp_codec.specs.declared.whole.Demo.{Demo}
use Rattle.wad_lumps.specs.Directory.{file_conditions}
use Rattle.wad_lumps.specs.Map.{map_conditions, IsMap}
use Rattle.map_geometry.specs.Lists.{Lists}
use Rattle.map_load.specs.Load.{level_conditions}
use Rattle.map_load.specs.Spelled.{spelled}
use Rattle.cow_world.specs.Flat.{Gridded}
use Rattle.level_start.specs.Start.{start_fault, start_of}
use Rattle.level_start.specs.declared.fault.StartFault.{StartFault}
use Rattle.dsda_cli.specs.Judging.{Judgement, exactly, judged, such_that, Then, goes_on, ends}
use Rattle.play_step.specs.Doom.{Setup}
use Rattle.brute_ranges.specs.Space.{Ranges}
use Rattle.brute_targets.specs.declared.want.Want.{Want}
use Rattle.lmp_codec.specs.Header.{is_long}
use Rattle.doom_edge.specs.Costs.{Cost}
use Rattle.build_script.specs.declared.fault.Kind.{Kind}
use Rattle.build_script.specs.declared.commands.Entry.{Entry}
use Rattle.build_script.specs.Script.{script_of}
use Rattle.build_edits.specs.declared.fault.EditFault.{EditFault}
use Rattle.build_session.specs.Session.{State, all_carried}
use Rattle.build_session.specs.Costs.{all_run, unspent}
use Rattle.build_session.specs.Searches.{untold}
use Rattle.dsda_cli.specs.Meaning.{as_demo, as_script, level_in, started, begun, Read, files_read, misnamed, named_unless, set_up, play_with, fresh, cost_of, ended_as, carried_in, session, built, gallery_script, generated, Work}
use Rattle.dsda_cli.specs.declared.fault.InputFault.{InputFault}
use Rattle.dsda_cli.specs.declared.fault.InputFault.TheVariants as input_fault
use Rattle.dsda_cli.proofs.OneAnswer.{OneVerdict}
use Rattle.gallery_gen.specs.Tables.{tables_bytes}
use Rattle.gallery_gen.specs.Gallery.{tic_count, wad_bytes, demo_bytes, demo_head}
use Rattle.gallery_laws.specs.Played.{tics_of}
use Rattle.gallery_laws.proofs.Spelt.{demo_read, tics_counted}
use Rattle.gallery_laws.proofs.Scripted.{entries_of, script_read, script_carried}
use Rattle.gallery_laws.proofs.Filed.{tables_read}
use Rattle.gallery_laws.proofs.Read.{map_found, level_reads}
use Rattle.gallery_laws.proofs.Galleries.{gallery_reads, level_starts}

-- no fault is a right answer, and this holds of each right value
record Sure {A : Type 0} (P : A → Type 0) (judgement : Judgement A) : Type 0 where
  none : (fault : InputFault) → judgement (Err fault) → ⊥
  so : (value : A) → judgement (Ok value) → P value

sure_judged : {F : Type 0} (conditions : List (Condition F)) (as_fault : F → InputFault) → FirstFault conditions None → Sure (λ _. Unit {0}) (judged conditions as_fault)
sure_judged conditions as_fault holds = record {
  none = λ fault wrong. let same = one_outcome conditions None (Some wrong.0) holds wrong.1 in absurd cc;
  so = λ value right. tt;
}

sure_exactly : {A : Type 0} (P : A → Type 0) (value : A) → P value → Sure P (exactly (Ok value))
sure_exactly P value holds = record {
  none = λ fault wrong. absurd cc;
  so = λ other right. let same : other ≡ value = cc in subst P (sym same) holds;
}

go_on : {A B : Type 0} (P : A → Type 0) (Q : B → Type 0) (first : Judgement A) (next : A → Judgement B) → Sure P first → ((value : A) → P value → Sure Q (next value)) → (fault : InputFault) → Then first next (Err fault) → ⊥
go_on P Q first next sure then fault (goes_on value right rest) = (then value (sure.so value right)).none fault rest
go_on P Q first next sure then fault (ends wrong is same) = sure.none wrong is

go_to : {A B : Type 0} (P : A → Type 0) (Q : B → Type 0) (first : Judgement A) (next : A → Judgement B) → Sure P first → ((value : A) → P value → Sure Q (next value)) → (value : B) → Then first next (Ok value) → Q value
go_to P Q first next sure then result (goes_on value right rest) = (then value (sure.so value right)).so result rest
go_to P Q first next sure then result (ends wrong is same) = absurd (sure.none wrong is)

sure_then : {A B : Type 0} (P : A → Type 0) (Q : B → Type 0) (first : Judgement A) (next : A → Judgement B) → Sure P first → ((value : A) → P value → Sure Q (next value)) → Sure Q (Then first next)
sure_then P Q first next sure then = record { none = go_on P Q first next sure then; so = go_to P Q first next sure then }

-- ---- the pieces

abbrev Plays : List ℕ → List Tic → Demo → Type 0
Plays header tics played = played ≡ record { header = header; tics = tics }

sure_demo : OneVerdict → (text header : List ℕ) (tics : List Tic) → IsDemo text header tics → Sure (Plays header tics) (as_demo text)
sure_demo one text header tics is =
    let this : Demo = record { header = header; tics = tics } in
    record {
      none = λ fault wrong. let same = one text (Ok this) (Err wrong.0) is wrong.1 in absurd cc;
      so = λ played right. let same = one text (Ok played) (Ok this) right is in let demo : played ≡ this = cc in demo;
    }

-- the level whose start has no fault
abbrev Starts : Lists → Type 0
Starts level = start_fault level (tables_of tables_bytes) demo_head ≡ None

sure_level : (number : ℕ) → Sure Starts (level_in (wad_bytes number) demo_head)
unfolding level_in
sure_level number =
    let w = wad_bytes number in
    let is_read = gallery_reads number in
    sure_then (λ _. Unit {0}) Starts _ _ (sure_judged (map_conditions w 1 1) input_fault.Wad (map_found w is_read)) (λ _ _.
    sure_then (IsMap w 1 1) Starts (such_that (IsMap w 1 1)) _ (record { none = λ fault wrong. wrong; so = λ found right. right }) (λ found is.
    sure_then (λ _. Unit {0}) Starts _ _ (sure_judged (level_conditions w found.spans.items found.other_form found.episode_form) input_fault.Level (level_reads w found is_read is)) (λ _ _.
    sure_exactly Starts (spelled w found.spans.items found.episode_form) (level_starts number found is))))

sure_begun : (level : Lists) → Starts level → Sure (λ _. Unit {0}) (begun level (tables_of tables_bytes) demo_head)
unfolding begun
sure_begun level starts =
    let world = start_of level (tables_of tables_bytes) demo_head in
    subst (λ (fault : Option StartFault). Sure {A = Gridded} (λ _. Unit {0}) (exactly (started fault world))) (sym starts) (sure_exactly (λ _. Unit {0}) world tt)

-- an answer that is no refusal
sure_ok : {A : Type 0} (result : Result A InputFault) → IsOk result → Sure (λ _. Unit {0}) (exactly result)
sure_ok (Ok value) is = sure_exactly (λ _. Unit {0}) value tt
sure_ok (Err fault) is = absurd cc

-- ---- what is read

-- what a gallery's files and its script are read as
abbrev read_of : ℕ → Read
read_of number = record {
  wad = wad_bytes number;
  tables = tables_of tables_bytes;
  demo = record { header = demo_head; tics = tics_of number };
  entries = entries_of (tic_count number);
}

abbrev IsRead : ℕ → Read → Type 0
IsRead number read = read ≡ read_of number

abbrev read_with : ℕ → Demo → List Entry → Read
read_with number played entries = record { wad = wad_bytes number; tables = tables_of tables_bytes; demo = played; entries = entries }

abbrev demo_of : ℕ → Demo
demo_of number = record { header = demo_head; tics = tics_of number }

sure_script : (script : List ℕ) (entries : List Entry) → script_of true false script ≡ Ok entries → Sure (λ read. read ≡ entries) (exactly (as_script (script_of true false script)))
sure_script script entries is =
    subst (λ (said : Result (List Entry) (ℕ × Kind)). Sure {A = List Entry} (λ read. read ≡ entries) (exactly (as_script said))) (sym is) (sure_exactly (λ read. read ≡ entries) entries refl)

sure_read : OneVerdict → (number : ℕ) → Sure (IsRead number) (files_read (wad_bytes number) tables_bytes (demo_bytes number) (gallery_script (tic_count number)))
unfolding files_read
sure_read one number =
    let script = gallery_script (tic_count number) in
    sure_then (λ _. Unit {0}) (IsRead number) _ _ (sure_judged (file_conditions (wad_bytes number)) input_fault.Wad (gallery_reads number).file) (λ _ _.
    sure_then (λ _. Unit {0}) (IsRead number) _ _ (sure_judged (table_conditions tables_bytes) input_fault.Tables tables_read) (λ _ _.
    sure_then (Plays demo_head (tics_of number)) (IsRead number) _ _ (sure_demo one (demo_bytes number) demo_head (tics_of number) (demo_read number)) (λ played plays.
    subst (λ (played : Demo). Sure {A = Read} (IsRead number) (Then (exactly (as_script (script_of true (is_long played.header) script))) (λ entries. exactly (Ok (read_with number played entries))))) (sym plays)
    (sure_then (λ entries. entries ≡ entries_of (tic_count number)) (IsRead number) _ _ (sure_script script (entries_of (tic_count number)) (script_read number)) (λ entries are.
    sure_exactly (IsRead number) (read_with number (demo_of number) entries) (ap (λ (all : List Entry). read_with number (demo_of number) all) are))))))

-- ---- what is played

-- the script names no sector and no line
nothing_misnamed : (level : Lists) (total : ℕ) → misnamed level (entries_of total) ≡ None
nothing_misnamed level total = refl

sure_named : (level : Lists) (entries : List Entry) → misnamed level entries ≡ None → Sure (λ _. Unit {0}) (exactly (named_unless (misnamed level entries)))
sure_named level entries none =
    subst (λ (found : Option Entry). Sure {A = Unit {0}} (λ _. Unit {0}) (exactly (named_unless found))) (sym none) (sure_exactly (λ _. Unit {0}) tt tt)

sure_set_up : (number : ℕ) (entries : List Entry) → ((level : Lists) → misnamed level entries ≡ None) → Sure (λ _. Unit {0}) (set_up (wad_bytes number) (tables_of tables_bytes) demo_head entries)
unfolding set_up
sure_set_up number entries none =
    sure_then Starts (λ _. Unit {0}) _ _ (sure_level number) (λ level starts.
    sure_then (λ _. Unit {0}) (λ _. Unit {0}) _ _ (sure_begun level starts) (λ _ _.
    sure_then (λ _. Unit {0}) (λ _. Unit {0}) _ _ (sure_named level entries (none level)) (λ _ _.
    sure_exactly (λ _. Unit {0}) _ tt)))

ended_ok : (header : List ℕ) (result : Result State (ℕ × EditFault)) (cost : Cost) → IsOk result → IsOk (ended_as header result cost)
ended_ok header (Ok state) cost is = refl
ended_ok header (Err refused) cost is = absurd cc

sure_session : (turns : Setup → Gridded → Ranges → List Want → Option ℕ) (number : ℕ) → Sure (λ _. Unit {0}) (session turns (read_of number))
unfolding session
sure_session turns number =
    let tics = tics_of number in
    let entries = entries_of (tic_count number) in
    sure_then (λ _. Unit {0}) (λ _. Unit {0}) _ _ (sure_set_up number entries (λ level. nothing_misnamed level (tic_count number))) (λ game _.
    sure_ok (carried_in (play_with turns) game tics entries)
    (ended_ok game.header (all_carried (play_with turns) game entries (fresh tics)) (cost_of (all_run (play_with turns) game entries (unspent (fresh tics) 0))) (script_carried (play_with turns) game number tics (tics_counted number))))

sure_built : OneVerdict → (number : ℕ) → Sure (λ _. Unit {0}) (built (wad_bytes number) tables_bytes (demo_bytes number) (gallery_script (tic_count number)))
unfolding built
sure_built one number =
    sure_then (IsRead number) (λ _. Unit {0}) _ _ (sure_read one number) (λ read is.
    subst (λ (read : Read). Sure {A = Work} (λ _. Unit {0}) (session untold read)) (sym is) (sure_session untold number))

sure_gen : OneVerdict → (number : ℕ) → Sure (λ _. Unit {0}) (generated number)
unfolding generated
sure_gen one number = sure_then (λ _. Unit {0}) (λ _. Unit {0}) _ _ (sure_built one number) (λ work _. sure_exactly (λ _. Unit {0}) _ tt)

pub gen_is_never_refused : OneVerdict → (number : ℕ) (answer : Result Work InputFault) → generated number answer → IsOk answer
gen_is_never_refused one number (Ok work) is = refl
gen_is_never_refused one number (Err fault) is = absurd ((sure_gen one number).none fault is)
