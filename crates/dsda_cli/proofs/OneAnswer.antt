-- Work has one right answer.
use Rattle.std.proofs.Common.{Bool, ◌≡◌, ℕ, List, Result, Ok, Err, Option, Some, None, refl, ap, sym, ◌∙◌, subst}
use Rattle.fixed_angle.specs.FirstFault.{Condition}
use Rattle.fixed_angle.proofs.Order.{one_outcome}
use Rattle.doom_edge.specs.Devices.{Files}
use Rattle.dsda_cli.specs.Commands.{inputs_of}
use Rattle.dsda_cli.specs.Judging.{Judgement, exactly, judged, Then, goes_on, ends}
use Rattle.cow_world.specs.Flat.{Gridded}
use Rattle.play_step.specs.Doom.{Setup}
use Rattle.play_step.specs.Rules.{doom_rules}
use Rattle.brute_ranges.specs.Space.{Ranges}
use Rattle.brute_targets.specs.declared.want.Want.{Want}
use Rattle.build_script.specs.declared.commands.Entry.{Entry}
use Rattle.build_session.specs.Searches.{untold, turns_of_order}
use Rattle.gallery_gen.specs.Tables.{tables_bytes}
use Rattle.gallery_gen.specs.Gallery.{tic_count, wad_bytes, demo_bytes}
use Rattle.dsda_cli.specs.Meaning.{Read, files_read, set_up, session, built, simulated, gallery_script, generated, as_demo, scripted, edited, level_in, begun, reported, levelled, text_at, worked, worked_unless, too_large, answer_of, Outcome, Means, misused, unheld, answered}
use Rattle.dsda_cli.specs.declared.command.Command.{Command}
use Rattle.dsda_cli.specs.declared.command.Command.TheVariants as command
use Rattle.dsda_cli.specs.declared.command.Input.{Input}
use Rattle.dsda_cli.specs.declared.fault.InputFault.{InputFault}
use Rattle.dsda_cli.specs.declared.fault.InputFault.TheVariants as input_fault
use Rattle.lmp_codec.specs.Header.{is_long}
use Rattle.lmp_codec.specs.Demo.{IsVerdict}
use Rattle.lmp_codec.specs.declared.input.Tic.{Tic}
use Rattle.lmp_codec.specs.declared.whole.Demo.{Demo}
use Rattle.lmp_codec.specs.declared.fault.DemoFault.{DemoFault}
use Rattle.wad_lumps.specs.Directory.{file_conditions}
use Rattle.wad_lumps.specs.Map.{map_conditions, IsMap}
use Rattle.fixed_angle.specs.Tables.{Tables}
use Rattle.fixed_angle.specs.TableFile.{table_conditions, tables_of}
use Rattle.dsda_cli.specs.LevelReport.{episode_of, map_of}
use Rattle.wad_lumps.specs.declared.map.MapSpans.{MapSpans}
use Rattle.map_geometry.specs.Lists.{Lists}
use Rattle.map_load.specs.Load.{level_conditions}
use Rattle.map_load.specs.Spelled.{spelled}

-- two right answers are one
abbrev IsOne : {A : Type 0} → Judgement A → Type 0
IsOne {A} judgement = (a b : Result A InputFault) → judgement a → judgement b → a ≡ b

one_exactly : {A : Type 0} (result : Result A InputFault) → IsOne (exactly result)
one_exactly result = λ a b first second. sym first ∙ second

one_judged : {F : Type 0} (conditions : List (Condition F)) (as_fault : F → InputFault) (a b : Result (Unit {0}) InputFault) → judged conditions as_fault a → judged conditions as_fault b → a ≡ b
one_judged conditions as_fault (Ok _) (Ok _) first second = refl
one_judged conditions as_fault (Ok _) (Err _) first second =
    let same = one_outcome conditions None (Some second.0) first second.1 in cc
one_judged conditions as_fault (Err _) (Ok _) first second =
    let same = one_outcome conditions (Some first.0) None first.1 second in cc
one_judged conditions as_fault (Err _) (Err _) first second =
    let same = one_outcome conditions (Some first.0) (Some second.0) first.1 second.1 in cc

-- two right answers of two pieces of work are one, where what they go on from leads to one
one_by : {A B : Type 0} (first : Judgement A) (next : A → Judgement B) → ((value : A) (fault : InputFault) → first (Ok value) → first (Err fault) → ⊥) → ((f g : InputFault) → first (Err f) → first (Err g) → f ≡ g) → ((value other : A) (a b : Result B InputFault) → first (Ok value) → first (Ok other) → next value a → next other b → a ≡ b) → (a b : Result B InputFault) → Then first next a → Then first next b → a ≡ b
one_by first next apart one_fault one_next a b (goes_on value right rest) (goes_on other right' rest') = one_next value other a b right right' rest rest'
one_by first next apart one_fault one_next a b (goes_on value right rest) (ends fault wrong is) = absurd (apart value fault right wrong)
one_by first next apart one_fault one_next a b (ends fault wrong is) (goes_on value right rest) = absurd (apart value fault right wrong)
one_by first next apart one_fault one_next a b (ends fault wrong is) (ends fault' wrong' is') = is ∙ ap Err (one_fault fault fault' wrong wrong') ∙ sym is'

one_then : {A B : Type 0} (first : Judgement A) (next : A → Judgement B) → IsOne first → ((value : A) → IsOne (next value)) → IsOne (Then first next)
one_then {A} first next one_first one_next =
    one_by first next
    (λ value fault right wrong. let e = one_first (Ok value) (Err fault) right wrong in cc)
    (λ f g wrong wrong'. let e = one_first (Err f) (Err g) wrong wrong' in cc)
    (λ value other a b right right' rest rest'.
    let e = one_first (Ok value) (Ok other) right right' in
    let same : value ≡ other = cc in
    one_next other a b (subst (λ (value : A). next value a) same rest) rest')

-- no text has two verdicts
abbrev pub OneVerdict : Type 0
OneVerdict = (text : List ℕ) (this other : Result Demo DemoFault) → IsVerdict text this → IsVerdict text other → this ≡ other

one_demo : OneVerdict → (text : List ℕ) → IsOne (as_demo text)
one_demo one text (Ok a) (Ok b) first second = let same = one text (Ok a) (Ok b) first second in let demo : a ≡ b = cc in ap Ok demo
one_demo one text (Ok a) (Err f) first second = let same = one text (Ok a) (Err second.0) first second.1 in absurd cc
one_demo one text (Err f) (Ok b) first second = let same = one text (Err first.0) (Ok b) first.1 second in absurd cc
one_demo one text (Err f) (Err g) first second =
    let same = one text (Err first.0) (Err second.0) first.1 second.1 in
    let fault : first.0 ≡ second.0 = cc in
    ap Err (first.2 ∙ ap input_fault.Demo fault ∙ sym second.2)

one_scripted : (long : Bool) (script : List ℕ) (tics : List Tic) → IsOne (scripted long script tics)
unfolding scripted
one_scripted long script tics = one_then _ _ (one_exactly _) (λ entries. one_then _ _ (one_exactly _) (λ parts. one_exactly _))

one_edited : OneVerdict → (demo script : List ℕ) → IsOne (edited demo script)
unfolding edited
one_edited verdict demo script = one_then _ _ (one_demo verdict demo) (λ before. one_then _ _ (one_scripted (is_long before.header) script before.tics) (λ tics. one_exactly _))

-- what a WAD's directory says of a map, so far as a level comes from it, is said once
abbrev pub OneMap : Type 0
OneMap = (w : List ℕ) (episode map : ℕ) (a b : MapSpans) → IsMap w episode map a → IsMap w episode map b → (a.label ≡ b.label) × (a.spans.items ≡ b.spans.items) × (a.episode_form ≡ b.episode_form) × (a.other_form ≡ b.other_form)

-- the level of these lumps
abbrev level_of : List ℕ → List (ℕ × ℕ) → (other_form episode_form : Bool) → Judgement Lists
level_of wad spans other_form episode_form =
    Then (judged (level_conditions wad spans other_form episode_form) input_fault.Level) (λ _. exactly (Ok (spelled wad spans episode_form)))

one_level_of : (wad : List ℕ) (spans : List (ℕ × ℕ)) (other_form episode_form : Bool) → IsOne (level_of wad spans other_form episode_form)
one_level_of wad spans other_form episode_form = one_then _ _ (one_judged (level_conditions wad spans other_form episode_form) input_fault.Level) (λ _. one_exactly _)

same_level : (wad : List ℕ) (found other : MapSpans) (a b : Result Lists InputFault) → (found.spans.items ≡ other.spans.items) → (found.episode_form ≡ other.episode_form) → (found.other_form ≡ other.other_form) → level_of wad found.spans.items found.other_form found.episode_form a → level_of wad other.spans.items other.other_form other.episode_form b → a ≡ b
same_level wad found other a b spans episode_form other_form first second =
    one_level_of wad other.spans.items other.other_form other.episode_form a b (rw (spans, episode_form, other_form) at first) second

one_level_in : OneMap → (wad header : List ℕ) → IsOne (level_in wad header)
unfolding level_in
one_level_in one_map wad header = one_then _ _ (one_judged (map_conditions wad (episode_of header) (map_of header)) input_fault.Wad) (λ _.
    one_by _ _ (λ found fault is wrong. wrong) (λ f g wrong wrong'. absurd wrong)
    (λ found other a b is is' first second.
    let same = one_map wad (episode_of header) (map_of header) found other is is' in
    same_level wad found other a b same.1 same.2 same.3 first second))

one_begun : (level : Lists) (tables : Tables) (header : List ℕ) → IsOne (begun level tables header)
unfolding begun
one_begun level tables header = one_exactly _

one_reported : (level : Lists) (tables : Tables) (header : List ℕ) → IsOne (reported level tables header)
unfolding reported
one_reported level tables header = one_then _ _ (one_begun level tables header) (λ world. one_exactly _)

one_levelled : OneMap → OneVerdict → (wad tables demo : List ℕ) → IsOne (levelled wad tables demo)
unfolding levelled
one_levelled one_map verdict wad tables demo =
    one_then _ _ (one_judged (file_conditions wad) input_fault.Wad) (λ _. one_then _ _ (one_judged (table_conditions tables) input_fault.Tables) (λ _. one_then _ _ (one_demo verdict demo) (λ played. one_then _ _ (one_level_in one_map wad played.header) (λ level. one_reported level (tables_of tables) played.header))))

one_files_read : OneVerdict → (wad tables demo script : List ℕ) → IsOne (files_read wad tables demo script)
unfolding files_read
one_files_read verdict wad tables demo script =
    one_then _ _ (one_judged (file_conditions wad) input_fault.Wad) (λ _. one_then _ _ (one_judged (table_conditions tables) input_fault.Tables) (λ _. one_then _ _ (one_demo verdict demo) (λ played. one_then _ _ (one_exactly _) (λ entries. one_exactly _))))

one_set_up : OneMap → (wad : List ℕ) (tables : Tables) (header : List ℕ) (entries : List Entry) → IsOne (set_up wad tables header entries)
unfolding set_up
one_set_up one_map wad tables header entries =
    one_then _ _ (one_level_in one_map wad header) (λ level. one_then _ _ (one_begun level tables header) (λ _. one_then _ _ (one_exactly _) (λ _. one_exactly _)))

one_session : OneMap → (turns : Setup → Gridded → Ranges → List Want → Option ℕ) (read : Read) → IsOne (session turns read)
unfolding session
one_session one_map turns read = one_then _ _ (one_set_up one_map read.wad read.tables read.demo.header read.entries) (λ game. one_exactly _)

one_built : OneMap → OneVerdict → (wad tables demo script : List ℕ) → IsOne (built wad tables demo script)
unfolding built
one_built one_map verdict wad tables demo script = one_then _ _ (one_files_read verdict wad tables demo script) (λ read. one_session one_map untold read)

one_simulated : OneMap → OneVerdict → (wad tables demo script order : List ℕ) → IsOne (simulated wad tables demo script order)
unfolding simulated
one_simulated one_map verdict wad tables demo script order =
    one_then _ _ (one_files_read verdict wad tables demo script) (λ read. one_then _ _ (one_exactly _) (λ hands. one_session one_map (turns_of_order doom_rules hands) read))

one_generated : OneMap → OneVerdict → (number : ℕ) → IsOne (generated number)
unfolding generated
one_generated one_map verdict number =
    one_then _ _ (one_built one_map verdict (wad_bytes number) tables_bytes (demo_bytes number) (gallery_script (tic_count number))) (λ work. one_exactly _)

one_worked : OneMap → OneVerdict → (command : Command) (texts : List (List ℕ)) → IsOne (worked command texts)
one_worked one_map verdict command.Edit texts = one_edited verdict (text_at texts 0) (text_at texts 1)
one_worked one_map verdict command.Level texts = one_levelled one_map verdict (text_at texts 0) (text_at texts 1) (text_at texts 2)
one_worked one_map verdict (command.Build workers) texts = one_built one_map verdict (text_at texts 0) (text_at texts 1) (text_at texts 2) (text_at texts 3)
one_worked one_map verdict command.Sim texts = one_simulated one_map verdict (text_at texts 0) (text_at texts 1) (text_at texts 2) (text_at texts 3) (text_at texts 4)
one_worked one_map verdict (command.Gen number) texts = one_generated one_map verdict number

one_unless : OneMap → OneVerdict → (command : Command) (texts : List (List ℕ)) (large : Option (Input × List ℕ)) → IsOne (worked_unless command texts large)
one_unless one_map verdict command texts None = one_worked one_map verdict command texts
one_unless one_map verdict command texts (Some pair) = one_exactly _

-- the words come to one outcome
pub one_meaning : OneMap → OneVerdict → (words : List (List ℕ)) (files : Files) (a b : Outcome) → Means words files a → Means words files b → a ≡ b
one_meaning one_map verdict words files a b (misused none is) (misused none' is') = is ∙ sym is'
one_meaning one_map verdict words files a b (misused none is) (unheld command asked missing is') = absurd cc
one_meaning one_map verdict words files a b (misused none is) (answered command texts answer asked held right is') = absurd cc
one_meaning one_map verdict words files a b (unheld command asked missing is) (misused none is') = absurd cc
one_meaning one_map verdict words files a b (unheld command asked missing is) (unheld command' asked' missing' is') = is ∙ sym is'
one_meaning one_map verdict words files a b (unheld command asked missing is) (answered command' texts answer asked' held right is') =
    let same : command ≡ command' = cc in absurd cc
one_meaning one_map verdict words files a b (answered command texts answer asked held right is) (misused none is') = absurd cc
one_meaning one_map verdict words files a b (answered command texts answer asked held right is) (unheld command' asked' missing is') =
    let same : command ≡ command' = cc in absurd cc
one_meaning one_map verdict words files a b (answered command texts answer asked held right is) (answered command' texts' answer' asked' held' right' is') =
    let same : command ≡ command' = cc in
    let same_texts : texts ≡ texts' = cc in
    let moved = subst (λ (command : Command). answer_of command texts answer) same right in
    let moved' = subst (λ (texts : List (List ℕ)). answer_of command' texts answer) same_texts moved in
    let one = one_unless one_map verdict command' texts' (too_large (inputs_of command') texts') answer answer' moved' right' in
    cc
