-- Judgements: which answers of a piece of work are right. Most work has one right answer, which is a function's; a
-- reader that judges conditions has the fault of the first that doesn't hold.
use Rattle.std.specs.Prelude.{◌≡◌, List, Result, Ok, Err, Some, None}
use Rattle.fixed_angle.specs.FirstFault.{Condition, FirstFault}
use Rattle.dsda_cli.specs.declared.fault.InputFault.{InputFault}

-- which answers are right: values of one kind, and faults of the input
abbrev pub Judgement : Type 0 → Type 1
Judgement A = Result A InputFault → Type 0

-- this answer and no other
abbrev pub exactly : {A : Type 0} → Result A InputFault → Judgement A
exactly result = λ answer. result ≡ answer

-- The conditions are judged in order. They hold, or the answer is the fault of the first one that doesn't.
abbrev pub judged : {F : Type 0} → List (Condition F) → (F → InputFault) → Judgement (Unit {0})
judged conditions as_fault (Ok _) = FirstFault conditions None
judged {F} conditions as_fault (Err fault) = (first : F) × FirstFault conditions (Some first) × (fault ≡ as_fault first)

-- any value of which this holds
abbrev pub such_that : {A : Type 0} → (A → Type 0) → Judgement A
such_that Holds (Ok value) = Holds value
such_that Holds (Err fault) = ⊥

-- The second piece of work goes on from a right value of the first. A right fault of the first ends both.
pub data Then {A B : Type 0} (first : Judgement A) (next : A → Judgement B) (answer : Result B InputFault) : Type 0 where
  goes_on : (value : A) → first (Ok value) → next value answer → Then first next answer
  ends : (fault : InputFault) → first (Err fault) → answer ≡ Err fault → Then first next answer

infixl 10 ◌>>=◌
abbrev pub ◌>>=◌ : {A B : Type 0} → Judgement A → (A → Judgement B) → Judgement B
first >>= next = Then first next

infixl 10 ◌>>◌
abbrev pub ◌>>◌ : {A B : Type 0} → Judgement A → Judgement B → Judgement B
first >> next = Then first (λ _. next)
