use Rattle.std.proofs.Common.{◌≡◌, true, sym, ◌∙◌, rules}
use Rattle.block_walk.specs.Steps.{has}
use Rattle.block_walk.specs.Traces.{crossing_of, crossed}
use Rattle.block_walk.proofs.Fresh.{filter_map_kept}
use Rattle.block_walk.proofs.Joined.{near_all_one, meets_nothing, meets_again, meets_list}
use Rattle.block_walk.proofs.traces.cross_block.Goals as goal

pub returns-in_default-clause-pairs : goal.returns-in_default-clause-pairs
returns-in_default-clause-pairs c =
    let l = c.args.level.now in
    meets_nothing (crossed l c.args.way.now) (filter_map_kept (crossing_of l c.args.way.now)) l c.args.block c.args.walked.now c.args.met.now c.args.out.now.items c.requires.walked (sym c.in_default.ensures.place)

pub returns-then-contains-clause-pairs : goal.returns-then-contains-clause-pairs
returns-then-contains-clause-pairs c =
    let l = c.args.level.now in
    let within : has c.args.walked.now c.in-Some.place ≡ true = sym c.contains.ensures ∙ c.if-contains.true in
    meets_again (crossed l c.args.way.now) (filter_map_kept (crossing_of l c.args.way.now)) l c.args.block c.args.walked.now c.args.met.now c.args.out.now.items c.requires.walked c.in-Some.place (sym c.in-Some.ensures.place) c.in-Some.ensures.sound within

pub returns-in_err-cross_list-clause-many : goal.returns-in_err-cross_list-clause-many
returns-in_err-cross_list-clause-many c =
    let one = near_all_one c.args.level.now c.args.block c.in-Some.place (sym c.in-Some.ensures.place) in
    rw one (search rules)

pub returns-clause-pairs : goal.returns-clause-pairs
returns-clause-pairs c =
    let l = c.args.level.now in
    meets_list (crossed l c.args.way.now) (filter_map_kept (crossing_of l c.args.way.now)) l c.args.block c.args.walked.now c.args.met.now c.args.out.now.items c.requires.walked c.cross_list.new.met c.add.new.self c.cross_list.new.out.items c.in-Some.place (sym c.in-Some.ensures.place) c.in-Some.ensures.sound
    c.in_ok-cross_list.ensures.pairs c.add.ensures
