use Rattle.std.proofs.Common.{◌∙◌, ap, arith}
use Rattle.claim_board.specs.Views.{opening}
use Rattle.brute_run.specs.Costs.{block_size}
use Rattle.brute_run.specs.Search.{count_of, meets}
use Rattle.brute_run.proofs.Passing.{board_list}
use Rattle.brute_run.proofs.first.first_among.Goals as goal

pub new-requires : goal.new-requires
new-requires g c =
    let list = c.requires.1.1.1.1.1.1.1.1.1.1.1.1 in
    let test = meets g.G.Game c.args.game.now c.args.walk.kept c.args.wants.now c.args.space.now in
    let count = c.count.ensures in
    let may = board_list test (count_of c.args.space.now) c.count.result g.list list count.count in
    (count.few, ((omega arith, omega arith), (may.0, may.1)))

pub search_on-requires-clause-seat : goal.search_on-requires-clause-seat
search_on-requires-clause-seat g c κs within = c.in-Ok.ensures.seat

pub search_on-requires-clause-view : goal.search_on-requires-clause-view
search_on-requires-clause-view g c κs within =
    c.in-Ok.ensures.view ∙ ap (λ n. opening n block_size g.list) c.count.ensures.count
    ∙ ap (opening (count_of c.args.space.now) block_size) c.requires.1.1.1.1.1.1.1.1.1.1.1.1
