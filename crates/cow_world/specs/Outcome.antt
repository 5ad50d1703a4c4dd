-- The outcome of a part of a tic that may halt, and how a call's result stands to it.
use Rattle.std.specs.Prelude.{◌≡◌, List, [], ◌∷◌, ◌++◌, Result, Ok, Err, refl}
use Rattle.game_trait.specs.declared.shown.Halt.{Halt}
use Rattle.cow_world.specs.declared.fault.PlayFault.{PlayFault}
use Rattle.cow_world.specs.declared.fault.PlayFault.TheVariants.{Halt as Halted, Memory}

-- a part goes on with a world, or with a world and an answer; or it halts for a reason
pub data Outcome (A : Type 0) : Type 0 where
  goes : A → Outcome A
  halts : Halt → Outcome A

-- one part and then another; a halt of the first is that of both
abbrev pub and_then : {A B : Type 0} → Outcome A → (A → Outcome B) → Outcome B
and_then (goes world) next = next world
and_then (halts reason) next = halts reason

-- a part for each of a list, in its order, from a world on; the first halt ends it
abbrev pub each_from : {X A : Type 0} → (X → A → Outcome A) → A → List X → Outcome A
each_from part world [] = goes world
each_from part world (x ∷ xs) = and_then (part x world) (λ next. each_from part next xs)

-- A call stands to a part's outcome as it should: where it is Ok the part goes on with the world that the call left;
-- where it halts so does the part, for that reason. Of want of memory nothing is said.
abbrev pub Moves : {D A : Type 0} → Result D PlayFault → A → Outcome A → Type 0
Moves (Ok done) world outcome = outcome ≡ goes world
Moves (Err (Halted reason)) world outcome = outcome ≡ halts reason
Moves (Err Memory) world outcome = Unit {0}

-- the same where the part answers a value beside the world
abbrev pub Plays : {D A : Type 0} → Result D PlayFault → A → Outcome (A × D) → Type 0
Plays (Ok answer) world outcome = outcome ≡ goes (world, answer)
Plays (Err (Halted reason)) world outcome = outcome ≡ halts reason
Plays (Err Memory) world outcome = Unit {0}

-- ---- laws

-- parts joined one after the other may be grouped either way
pub and_then-assoc : {A B C : Type 0} (first : Outcome A) (second : A → Outcome B) (third : B → Outcome C) → and_then (and_then first second) third ≡ and_then first (λ world. and_then (second world) third)
and_then-assoc (goes world) second third = refl
and_then-assoc (halts reason) second third = refl

-- a part for each of a list and then for each of another
pub each_from-append : {X A : Type 0} (part : X → A → Outcome A) (world : A) (xs ys : List X) → each_from part world (xs ++ ys) ≡ and_then (each_from part world xs) (λ next. each_from part next ys)
each_from-append part world [] ys = refl
each_from-append part world (x ∷ xs) ys = on_from (part x world) (λ next. each_from-append part next xs ys)
  where
    on_from : (outcome : Outcome _) → ((next : _) → each_from part next (xs ++ ys) ≡ and_then (each_from part next xs) (λ last. each_from part last ys)) → and_then outcome (λ next. each_from part next (xs ++ ys)) ≡ and_then (and_then outcome (λ next. each_from part next xs)) (λ next. each_from part next ys)
    on_from (goes next) rest = rest next
    on_from (halts reason) rest = refl
