-- One piece of work after the other: what each `?` gives.
use Rattle.std.proofs.Common.{◌≡◌, ℕ, List, Option, Some, None, option_map, Result, Ok, Err, refl, ap, sym, subst}
use Rattle.std.specs.Prelude.{IsErrAnd}
use Rattle.dsda_cli.specs.Judging.{Judgement, exactly, such_that, Then, goes_on, ends}
use Rattle.dsda_cli.specs.Inside.{IsRight, Gives, Takes}
use Rattle.dsda_cli.specs.Meaning.{Output, Work, with_cost, worked_unless}
use Rattle.dsda_cli.specs.declared.command.Command.{Command}
use Rattle.dsda_cli.specs.declared.command.Input.{Input}
use Rattle.dsda_cli.specs.declared.fault.InputFault.TheVariants as input_fault
use Rattle.doom_edge.specs.Costs.{Cost, free}
use Rattle.doom_edge.proofs.Costs.{rises_free}
use Rattle.dsda_cli.specs.declared.product.Stop.{Stop}
use Rattle.dsda_cli.specs.declared.product.Stop.TheVariants as stop

stops_both : {A B X Y : Type 0} (seen : X → A) (view : Y → B) (first : Judgement A) (next : A → Judgement B) (why : Stop) → IsRight seen first (Err why) → IsRight view (Then first next) (Err why)
stops_both seen view first next (stop.Refused fault) right = ends fault right refl
stops_both seen view first next stop.Memory right = tt

goes_further : {A B Y : Type 0} (view : Y → B) (first : Judgement A) (next : A → Judgement B) (value : A) (given : Result Y Stop) → first (Ok value) → IsRight view (next value) given → IsRight view (Then first next) given
goes_further view first next value (Ok product) right rest = goes_on value right rest
goes_further view first next value (Err (stop.Refused fault)) right rest = goes_on value right rest
goes_further view first next value (Err stop.Memory) right rest = tt

-- what stops the first stops both
pub stopped : {A B X Y : Type 0} {seen : X → A} {view : Y → B} {first : Judgement A} {next : A → Judgement B} {why : Stop} {given : Result Y Stop} → Gives seen (Err why) first → IsErrAnd given (λ (passed_on : Stop). passed_on ≡ why) → Gives view given (Then first next)
stopped {given = Ok value} made passed_on = absurd passed_on
stopped {seen = seen} {view = view} {first = first} {next = next} {why = why} {given = Err other} made passed_on =
    record { right = let P : Stop → Type 0 = λ why. IsRight view (Then first next) (Err why) in subst P (sym passed_on) (stops_both seen view first next why made.right) }

-- the second goes on from a right value of the first
pub further : {A B X Y : Type 0} {seen : X → A} {view : Y → B} {first : Judgement A} {next : A → Judgement B} {value : X} {given : Result Y Stop} → Gives seen (Ok value) first → Gives view given (next (seen value)) → Gives view given (Then first next)
further {seen = seen} {view = view} {first = first} {next = next} {value = value} {given = given} made rest =
    record { right = goes_further view first next (seen value) given made.right rest.right }

-- the second goes on from a value of which that holds
pub chosen : {A B Y : Type 0} {view : Y → B} {Holds : A → Type 0} {next : A → Judgement B} {given : Result Y Stop} (value : A) → Holds value → Gives view given (next value) → Gives view given (Then (such_that Holds) next)
chosen {view = view} {Holds = Holds} {next = next} {given = given} value holds rest =
    record { right = goes_further view (such_that Holds) next value given holds rest.right }

mapped_right : {A B X : Type 0} (seen : X → A) (f : A → B) (first : Judgement A) (given : Result X Stop) → IsRight seen first given → IsRight (λ value. f (seen value)) (Then first (λ value. exactly (Ok (f value)))) given
mapped_right seen f first (Ok value) right = goes_on (seen value) right refl
mapped_right seen f first (Err (stop.Refused fault)) right = ends fault right refl
mapped_right seen f first (Err stop.Memory) right = tt

-- what is left is to see the value as another
pub mapped : {A B X : Type 0} {seen : X → A} (f : A → B) {first : Judgement A} {given : Result X Stop} → Gives seen given first → Gives (λ value. f (seen value)) given (Then first (λ value. exactly (Ok (f value))))
mapped {seen = seen} f {first = first} {given = given} made = record { right = mapped_right seen f first given made.right }

-- work without a step takes none
pub takes_free : (given : Result Output Stop) (judgement : Judgement Work) (tics : ℕ) → Gives (λ output. with_cost output free) given judgement → Takes with_cost given judgement tics tics
takes_free (Ok output) judgement tics made = record { cost = free; right = made.right; rises = rises_free tics tics refl }
takes_free (Err why) judgement tics made = record { cost = free; right = made.right; rises = tt }

-- what stops the first stops both, and takes no step
pub stopped_takes : {A X : Type 0} {seen : X → A} {first : Judgement A} {next : A → Judgement Work} {why : Stop} {given : Result Output Stop} {before after : ℕ} → Gives seen (Err why) first → IsErrAnd given (λ (passed_on : Stop). passed_on ≡ why) → Takes with_cost given (Then first next) before after
stopped_takes {given = Ok value} made passed_on = absurd passed_on
stopped_takes {seen = seen} {first = first} {next = next} {given = Err other} made passed_on =
    record { cost = free; right = (stopped {seen = seen} {view = λ output. with_cost output free} {first = first} {next = next} {given = Err other} made passed_on).right; rises = tt }

-- work with steps goes on from a right value of the first, which takes none
pub further_takes : {A X : Type 0} {seen : X → A} {first : Judgement A} {next : A → Judgement Work} {value : X} {given : Result Output Stop} {before after : ℕ} → Gives seen (Ok value) first → Takes with_cost given (next (seen value)) before after → Takes with_cost given (Then first next) before after
further_takes {seen = seen} {first = first} {next = next} {value = value} {given = given} made rest =
    record { cost = rest.cost; right = goes_further (λ output. with_cost output rest.cost) first next (seen value) given made.right rest.right; rises = rest.rises }

-- for want of memory anything is right
pub memory_takes : (given : Result Output Stop) (judgement : Judgement Work) (before after : ℕ) → IsErrAnd given (λ (passed_on : Stop). passed_on ≡ stop.Memory) → Takes with_cost given judgement before after
memory_takes (Ok value) judgement before after passed_on = absurd passed_on
memory_takes (Err other) judgement before after passed_on = record {
  cost = free;
  right = let P : Stop → Type 0 = λ why. IsRight (λ output. with_cost output free) judgement (Err why) in subst P (sym passed_on) tt;
  rises = tt;
}

-- what stops work with steps stops both
pub takes_stopped : {first : Judgement Work} {next : Work → Judgement Work} {why : Stop} {given : Result Output Stop} {from to before after : ℕ} → Takes with_cost (Err why) first from to → IsErrAnd given (λ (passed_on : Stop). passed_on ≡ why) → Takes with_cost given (Then first next) before after
takes_stopped {given = Ok value} made passed_on = absurd passed_on
takes_stopped {first = first} {next = next} {why = why} {given = Err other} made passed_on = record {
  cost = free;
  right = let P : Stop → Type 0 = λ why. IsRight (λ output. with_cost output free) (Then first next) (Err why) in
      subst P (sym passed_on) (stops_both (λ output. with_cost output made.cost) (λ output. with_cost output free) first next why made.right);
  rises = tt;
}

-- what is left is to see the output as another
pub mapped_takes : (f : Output → Output) {first : Judgement Work} (output seen : Output) (before after : ℕ) → Takes with_cost (Ok output) first before after
    → seen ≡ f output → Takes with_cost (Ok seen) (Then first (λ work. exactly (Ok (with_cost (f work.output) work.cost)))) before after
mapped_takes f output seen before after made is = record {
  cost = made.cost;
  right = goes_on (with_cost output made.cost) made.right (ap (λ seen. Ok (with_cost seen made.cost)) (sym is));
  rises = made.rises;
}

-- a text above its limit is refused
pub large_takes : (command : Command) (texts : List (List ℕ)) (large : Option (Input × List ℕ)) (word tics : ℕ) → Some word ≡ option_map (λ pair. pair.0.word) large
    → Takes with_cost (Err (stop.Refused (input_fault.Large word))) (worked_unless command texts large) tics tics
large_takes command texts None word tics is = absurd cc
large_takes command texts (Some pair) word tics is =
    let same : word ≡ pair.0.word = cc in
    record { cost = free; right = ap (λ word. Err (input_fault.Large word)) (sym same); rises = tt }
