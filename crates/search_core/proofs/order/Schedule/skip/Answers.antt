use Rattle.std.proofs.Common.{◌≡◌, ◌<◌, length, arith}
use Rattle.std.proofs.lemmas.Bool.{ltb-true, ltb-false}
use Rattle.search_core.proofs.Left.{round_runs, nothing_left}
use Rattle.search_core.proofs.order.Schedule.skip.Goals as goal

pub returns-clause-found : goal.returns-clause-found
returns-clause-found c found =
    let s = c.self.inside in
    let at = c.running_hand-self-inside.result in
    let within : at < length s.core.hands = omega (arith, ltb-true at c.hands.result found, c.hands.ensures.hands) in
    round_runs s.core s.turns.now c.running_place-self-inside.result at s.taken (omega (arith, c.if-self-len.false, c.len.ensures)) within (c.running_hand-self-inside.ensures.found within)

pub returns-clause-ended : goal.returns-clause-ended
returns-clause-ended c none meets =
    let s = c.self.inside in
    let at = c.running_hand-self-inside.result in
    let whole : at ≡ length s.core.hands = omega (arith, ltb-false at c.hands.result none, c.hands.ensures.hands, c.running_hand-self-inside.ensures.round) in
    nothing_left s.core s.turns.now c.running_place-self-inside.result at meets (c.running_hand-self-inside.ensures.none whole) (omega (arith, c.if-self-len.false, c.len.ensures)) whole
