-- Lemmas on the inputs that were taken.
use Rattle.std.proofs.Common.{◌≡◌, ◌≤◌, ◌<◌, ℕ, zero, suc, List, [], ◌∷◌, length, map, refl, ap, sym, ◌∙◌, Option, Some, None, option_map, IfSome, Vec, Global, get_or, arith}
use Rattle.std.specs.FinMap as map
use Rattle.doom_edge.specs.Devices.{Files, IsUnheld}
use Rattle.dsda_cli.specs.Commands.{word_at}
use Rattle.dsda_cli.specs.Meaning.{all_of, contents}
use Rattle.dsda_cli.specs.Inside.{front_of}
use Rattle.dsda_cli.specs.declared.command.Input.{Input}

-- the first of the inputs were taken, and else nothing changed
pub record TakenSoFar (sure_then sure_now : Type 0) (files_then files_now : Option Files) (takes_then takes_now puts_then puts_now : ℕ) (words : List (List ℕ)) (inputs : List Input) (texts : List (Vec ℕ Global)) : Type 0 where
  pub holds : files_now ≡ files_then
  pub takes : takes_then ≤ takes_now
  pub puts : puts_now ≡ puts_then
  pub stays_sure : sure_then → sure_now
  pub told : IfSome files_then (λ files. map (front_of files words) inputs ≡ map (λ text. Some text.items) texts)

all_of-front : {A : Type 0} (first : Option A) (options : List (Option A)) → first ≡ None → all_of (first ∷ options) ≡ None
all_of-front None options is = refl
all_of-front (Some value) options is = cc

all_of-behind : {A : Type 0} (first : Option A) (options : List (Option A)) → all_of options ≡ None → all_of (first ∷ options) ≡ None
all_of-behind None options is = refl
all_of-behind (Some value) options is = ap (option_map (λ values. value ∷ values)) is

-- an input that isn't held leaves no contents
missing_from : (files : Files) (words : List (List ℕ)) (inputs : List Input) (k : ℕ) (d : Input) → k < length inputs → map.get files (word_at words (get_or inputs k d).word) ≡ None → contents files words inputs ≡ None
missing_from files words [] k d lt is = absurd (omega arith)
missing_from files words (input ∷ inputs) zero d lt is = all_of-front (map.get files (word_at words input.word)) _ is
missing_from files words (input ∷ inputs) (suc k) d lt is =
    all_of-behind (map.get files (word_at words input.word)) _ (missing_from files words inputs k d (omega arith) is)

pub missing_at : (told : Option Files) (words : List (List ℕ)) (inputs : List Input) (k : ℕ) (d : Input) (name : List ℕ) → k < length inputs → name ≡ word_at words (get_or inputs k d).word → IsUnheld name told → IfSome told (λ files. contents files words inputs ≡ None)
missing_at None words inputs k d name lt is unheld = tt
missing_at (Some files) words inputs k d name lt is unheld = missing_from files words inputs k d lt (ap (map.get files) (sym is) ∙ unheld)

texts_as_lists : (texts : List (Vec ℕ Global)) → map (λ text. Some text.items) texts ≡ map Some (map (λ text. text.items) texts)
texts_as_lists [] = refl
texts_as_lists (text ∷ texts) = ap (λ rest. Some text.items ∷ rest) (texts_as_lists texts)

-- what was taken, as lists of bytes
pub told_lists : (told : Option Files) (words : List (List ℕ)) (inputs asked : List Input) (texts : List (Vec ℕ Global)) → asked ≡ inputs → IfSome told (λ files. map (front_of files words) asked ≡ map (λ text. Some text.items) texts) → IfSome told (λ files. map (front_of files words) inputs ≡ map Some (map (λ text. text.items) texts))
told_lists None words inputs asked texts is taken = tt
told_lists (Some files) words inputs asked texts is taken = ap (map (front_of files words)) (sym is) ∙ taken ∙ texts_as_lists texts

-- the inputs that were asked for are those of the command
pub missing_told : (told : Option Files) (words : List (List ℕ)) (inputs asked : List Input) → asked ≡ inputs → IfSome told (λ files. contents files words asked ≡ None) → IfSome told (λ files. contents files words inputs ≡ None)
missing_told None words inputs asked is none = tt
missing_told (Some files) words inputs asked is none = ap (contents files words) (sym is) ∙ none
