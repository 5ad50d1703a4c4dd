use Rattle.std.proofs.Common.{◌≡◌, ℕ, ◌<◌, ℤ, w32, length, ap, ◌∙◌, rules}
use Rattle.std.proofs.lemmas.Int.{to_z-of_z}
use Rattle.block_walk.specs.Near.{near}
use Rattle.block_walk.specs.Visits.{visited}
use Rattle.block_walk.specs.Traces.{way_of, walk_of, crossed, intercepts_on, intercepts_of, in_order, reached}
use Rattle.block_walk.proofs.Order.{All-in_order}
use Rattle.block_walk.proofs.traces.trace.Goals as goal
use Rattle.block_walk.proofs.traces.trace.Goals.{After-walk-walk}

-- the lines crossed on the way and the walk that the code made
intercepts_are : (c : After-walk-walk) → crossed c.args.level.now c.way-way.result (near c.args.level.now (visited 64 c.walk-walk.result)) ≡ intercepts_of c.args.level.now c.args.x1 c.args.y1 c.args.x2 c.args.y2
unfolding intercepts_on
intercepts_are c =
    let l = c.args.level.now in
    let x1 = to_z-of_z w32 c.args.x1 c.ranges.x1 in
    let y1 = to_z-of_z w32 c.args.y1 c.ranges.y1 in
    let x2 = to_z-of_z w32 c.args.x2 c.ranges.x2 in
    let y2 = to_z-of_z w32 c.args.y2 c.ranges.y2 in
    let way : c.way-way.result ≡ way_of c.args.level.now c.args.x1 c.args.y1 c.args.x2 c.args.y2 = rw (x1, y1, x2, y2) at c.way-way.ensures in
    let walk : c.walk-walk.result ≡ walk_of c.args.level.now c.way-way.result c.args.x2 c.args.y2 = rw (x2, y2) at c.walk-walk.ensures in
    ap (λ w. crossed l c.way-way.result (near l (visited 64 w))) walk ∙ ap (λ w. intercepts_on l w c.args.x2 c.args.y2) way

pub returns-in_err-collect_all-clause-many : goal.returns-in_err-collect_all-clause-many
returns-in_err-collect_all-clause-many c = λ is. rw (intercepts_are (goal.at.returns-in_err-collect_all-clause-many c).After-walk-walk) at (c.in_err-collect_all.ensures.many (search rules))

pub returns-clause-pairs : goal.returns-clause-pairs
returns-clause-pairs c =
    let all = c.in_ok-collect_all.ensures.pairs ∙ intercepts_are (goal.at.returns-clause-pairs c).After-walk-walk in
    c.in_ok-put_in_order.ensures.order ∙ ap (λ pairs. reached (in_order pairs)) all

pub returns-clause-there : goal.returns-clause-there
returns-clause-there c =
    rw c.in_ok-put_in_order.ensures.order (All-in_order (λ (pair : ℤ × ℕ). pair.1 < length c.args.level.now.lines) c.collect_all.new.out.items c.in_ok-collect_all.ensures.there)

pub returns-clause-few : goal.returns-clause-few
returns-clause-few c =
    let all = c.in_ok-collect_all.ensures.pairs ∙ intercepts_are (goal.at.returns-clause-few c).After-walk-walk in
    rw all at c.in_ok-collect_all.ensures.few
