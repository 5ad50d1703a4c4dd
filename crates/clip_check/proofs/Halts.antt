-- A part of a tic that halts, in the midst of another.
use Rattle.std.proofs.Common.{◌≡◌, Err}
use Rattle.game_trait.specs.declared.shown.Halt.{Halt}
use Rattle.cow_world.specs.declared.fault.PlayFault.{PlayFault}
use Rattle.cow_world.specs.declared.fault.PlayFault.TheVariants.{Halt as Halted, Memory}
use Rattle.cow_world.specs.Outcome.{Outcome, halts, Moves, Plays}

-- what a fault says of a whole, where it says it of a part
pub moves_on : (D E : Type 0) {A B : Type 0} (fault : PlayFault) (part : A) (whole : B) (first : Outcome A) (all : Outcome B) → ((reason : Halt) → first ≡ halts reason → all ≡ halts reason) → Moves {D = D} (Err fault) part first → Moves {D = E} (Err fault) whole all
moves_on D E (Halted reason) part whole first all then moves = then reason moves
moves_on D E Memory part whole first all then moves = tt

pub moves_plays : (D E : Type 0) {A B : Type 0} (fault : PlayFault) (part : A) (whole : B) (first : Outcome A) (all : Outcome (B × E)) → ((reason : Halt) → first ≡ halts reason → all ≡ halts reason) → Moves {D = D} (Err fault) part first → Plays {D = E} (Err fault) whole all
moves_plays D E (Halted reason) part whole first all then moves = then reason moves
moves_plays D E Memory part whole first all then moves = tt

pub plays_on : (D E : Type 0) {A B : Type 0} (fault : PlayFault) (part : A) (whole : B) (first : Outcome (A × D)) (all : Outcome (B × E)) → ((reason : Halt) → first ≡ halts reason → all ≡ halts reason) → Plays {D = D} (Err fault) part first → Plays {D = E} (Err fault) whole all
plays_on D E (Halted reason) part whole first all then plays = then reason plays
plays_on D E Memory part whole first all then plays = tt
