use Rattle.std.proofs.Common.{◌≡◌, ◌∙◌, ap, subst, List, ℕ}
use Rattle.std.specs.Prelude.{fold}
use Rattle.map_geometry.specs.Blocks.{blocks_in, blocks_of}
use Rattle.block_walk.specs.Near.{near}
use Rattle.cow_world.specs.Outcome.{Outcome, goes, Moves}
use Rattle.clip_check.specs.declared.trial.Checked.{Checked}
use Rattle.clip_check.specs.Lines.{line_tests, found_more}
use Rattle.clip_check.proofs.Listing.{near_gives}
use Rattle.clip_check.proofs.lines.meet_lines.Goals as goal

pub returns-clause-found : goal.returns-clause-found
returns-clause-found c =
    let l = c.args.level.now in
    let tests = line_tests l c.args.world.now c.args.trial.now.player c.args.area.now in
    let blocks = blocks_in (blocks_of l c.args.area.now) in
    let once : c.deref.result.now ≡ near l (blocks_in (blocks_of l c.args.area.now)) = c.deref.ensures.value ∙ c.in_ok-lines_in.ensures.lines in
    let After : Outcome Checked → Type 0 = λ outcome. Moves c.meet_each.result c.meet_each.new.found outcome in
    subst After (ap (λ (lines : List ℕ). fold (found_more tests) (goes c.args.found.now) lines) once ∙ near_gives tests l blocks c.args.found.now) c.meet_each.ensures.found
