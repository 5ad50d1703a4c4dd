-- What was taken, one byte more of each input than its limit, means what the whole files mean.
use Rattle.std.proofs.Common.{◌≡◌, ◌≤◌, ◌+◌, ◌⊎◌, inl, inr, ℕ, Bool, true, false, min, nat_lt, List, [], ◌∷◌, length, map, take, refl, ap, sym, ◌∙◌, Option, Some, None, option_map, Result, Err, IfSome, subst, arith}
use Rattle.std.proofs.lemmas.Bool.Decides.{nat_tests}
use Rattle.std.proofs.lemmas.Bool.{ltb-false}
use Rattle.std.proofs.lemmas.List.{length-take, take_all}
use Rattle.std.specs.FinMap as map
use Rattle.doom_edge.specs.Devices.{Files}
use Rattle.dsda_cli.specs.Commands.{word_at, command_of, inputs_of, out_name}
use Rattle.dsda_cli.specs.Meaning.{Work, contents, too_large, worked, worked_unless, answer_of, Unheld, outcome_under, Means, unheld, answered, IsMeaning, over}
use Rattle.dsda_cli.specs.Inside.{front_of}
use Rattle.dsda_cli.specs.declared.command.Command.{Command}
use Rattle.dsda_cli.specs.declared.command.Input.{Input}
use Rattle.dsda_cli.specs.declared.fault.InputFault.{InputFault}
use Rattle.dsda_cli.specs.declared.fault.InputFault.TheVariants as input_fault

-- each text is the front of a file, one byte longer than the limit where the file is
abbrev AreFronts : List Input → List (List ℕ) → List (List ℕ) → Type 0
AreFronts [] [] [] = Unit {0}
AreFronts (input ∷ inputs) (whole ∷ wholes) (text ∷ texts) = (text ≡ take (input.limit + 1) whole) × AreFronts inputs wholes texts
AreFronts inputs wholes texts = ⊥

-- the whole files of these inputs
record Wholes (files : Files) (words : List (List ℕ)) (inputs : List Input) (texts : List (List ℕ)) : Type 0 where
  wholes : List (List ℕ)
  held : contents files words inputs ≡ Some wholes
  fronts : AreFronts inputs wholes texts

-- one input more
wholes_next : (files : Files) (words : List (List ℕ)) (input : Input) (inputs : List Input) (text : List ℕ) (texts : List (List ℕ)) (held : Option (List ℕ)) → map.get files (word_at words input.word) ≡ held → option_map (take (input.limit + 1)) held ≡ Some text → Wholes files words inputs texts → Wholes files words (input ∷ inputs) (text ∷ texts)
wholes_next files words input inputs text texts None is front rest = cc
wholes_next files words input inputs text texts (Some whole) is front rest = record {
  wholes = whole ∷ rest.wholes;
  held = rw is (ap (option_map (λ values. whole ∷ values)) rest.held);
  fronts = (cc, rest.fronts);
}

wholes_of : (files : Files) (words : List (List ℕ)) (inputs : List Input) (texts : List (List ℕ)) → map (front_of files words) inputs ≡ map Some texts → Wholes files words inputs texts
wholes_of files words [] [] e = record { wholes = []; held = refl; fronts = tt }
wholes_of files words [] (text ∷ texts) e = cc
wholes_of files words (input ∷ inputs) [] e = cc
wholes_of files words (input ∷ inputs) (text ∷ texts) e =
    wholes_next files words input inputs text texts _ refl (cc) (wholes_of files words inputs texts (cc))

-- no text is above its limit, and then the texts are the whole files
record AreWhole (inputs : List Input) (wholes texts : List (List ℕ)) : Type 0 where
  none : too_large inputs texts ≡ None
  none_whole : too_large inputs wholes ≡ None
  same : texts ≡ wholes

-- the first text above its limit is of the input whose file is the first above its limit
record AreLarge (inputs : List Input) (wholes texts : List (List ℕ)) : Type 0 where
  text : Input × List ℕ
  whole : Input × List ℕ
  first : too_large inputs texts ≡ Some text
  first_whole : too_large inputs wholes ≡ Some whole
  same : text.0 ≡ whole.0

same_test : (limit len : ℕ) → nat_lt limit (min (limit + 1) len) ≡ nat_lt limit len
same_test limit len = grind (arith, nat_tests)

same_length : (limit : ℕ) (text whole : List ℕ) → text ≡ take (limit + 1) whole → nat_lt limit (length text) ≡ nat_lt limit (length whole)
same_length limit text whole is = ap (λ t. nat_lt limit (length t)) is ∙ ap (nat_lt limit) (length-take (limit + 1) whole) ∙ same_test limit (length whole)

within : (limit len : ℕ) → nat_lt limit len ≡ false → len ≤ limit + 1
within limit len is = omega (arith, ltb-false limit len is)

-- one input more, whose file is above its limit or not
alike_next : (above : Bool) (input : Input) (inputs : List Input) (whole text : List ℕ) (wholes texts : List (List ℕ)) → nat_lt input.limit (length text) ≡ above → nat_lt input.limit (length whole) ≡ above → text ≡ take (input.limit + 1) whole → AreWhole inputs wholes texts ⊎ AreLarge inputs wholes texts → AreWhole (input ∷ inputs) (whole ∷ wholes) (text ∷ texts) ⊎ AreLarge (input ∷ inputs) (whole ∷ wholes) (text ∷ texts)
alike_next true input inputs whole text wholes texts test test_whole is rest =
    inr (record { text = (input, text); whole = (input, whole); first = rw test refl; first_whole = rw test_whole refl; same = refl })
alike_next false input inputs whole text wholes texts test test_whole is (inl rest) =
    let short : length whole ≤ input.limit + 1 = within input.limit (length whole) test_whole in
    inl (record {
      none = rw test rest.none;
      none_whole = rw test_whole rest.none_whole;
      same = ap (λ t. t ∷ texts) (is ∙ take_all (input.limit + 1) whole short) ∙ ap (λ ts. whole ∷ ts) rest.same;
    })
alike_next false input inputs whole text wholes texts test test_whole is (inr rest) =
    inr (record { text = rest.text; whole = rest.whole; first = rw test rest.first; first_whole = rw test_whole rest.first_whole; same = rest.same })

alike_of : (inputs : List Input) (wholes texts : List (List ℕ)) → AreFronts inputs wholes texts → AreWhole inputs wholes texts ⊎ AreLarge inputs wholes texts
alike_of [] [] [] fronts = inl (record { none = refl; none_whole = refl; same = refl })
alike_of (input ∷ inputs) (whole ∷ wholes) (text ∷ texts) fronts =
    let same = same_length input.limit text whole fronts.0 in
    alike_next (nat_lt input.limit (length whole)) input inputs whole text wholes texts same refl fronts.0 (alike_of inputs wholes texts fronts.1)
alike_of [] [] (text ∷ texts) fronts = absurd fronts
alike_of [] (whole ∷ wholes) texts fronts = absurd fronts
alike_of (input ∷ inputs) [] texts fronts = absurd fronts
alike_of (input ∷ inputs) (whole ∷ wholes) [] fronts = absurd fronts

-- so they are judged alike
same_answer : (command : Command) (inputs : List Input) (wholes texts : List (List ℕ)) (answer : Result Work InputFault) → AreWhole inputs wholes texts ⊎ AreLarge inputs wholes texts → worked_unless command texts (too_large inputs texts) answer → worked_unless command wholes (too_large inputs wholes) answer
same_answer command inputs wholes texts answer (inl all) right =
    rw all.none_whole (subst (λ texts. worked command texts answer) all.same (rw all.none at right))
same_answer command inputs wholes texts answer (inr large) right =
    rw large.first_whole (ap (λ (input : Input). Err (input_fault.Large input.word)) (sym large.same) ∙ rw large.first at right)

-- what was taken means what the words and the files mean
pub taken_meant : (told : Option Files) (words : List (List ℕ)) (command : Command) (texts : List (List ℕ)) (answer : Result Work InputFault) → command_of words ≡ Some command → IfSome told (λ files. map (front_of files words) (inputs_of command) ≡ map Some texts) → answer_of command texts answer → IsMeaning words told (outcome_under (out_name words command) answer)
taken_meant None words command texts answer is taken right = over command texts answer is right refl
taken_meant (Some files) words command texts answer is taken right =
    let whole = wholes_of files words (inputs_of command) texts taken in
    answered command whole.wholes answer is whole.held (same_answer command (inputs_of command) whole.wholes texts answer (alike_of (inputs_of command) whole.wholes texts whole.fronts) right) refl

-- an input that isn't held leaves the words without an outcome but that
pub unheld_meant : (told : Option Files) (words : List (List ℕ)) (command : Command) → command_of words ≡ Some command → IfSome told (λ files. contents files words (inputs_of command) ≡ None) → IfSome told (λ files. Means words files Unheld)
unheld_meant None words command is none = tt
unheld_meant (Some files) words command is none = unheld command is none refl
