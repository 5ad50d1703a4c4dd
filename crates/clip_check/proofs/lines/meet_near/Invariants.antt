-- the lines that are left give, from what was found, what all give from the start
use Rattle.std.proofs.Common.{◌≡◌, ◌<◌, All, length}
use Rattle.std.specs.Prelude.{fold}
use Rattle.cow_world.specs.Outcome.{goes}
use Rattle.clip_check.specs.Lines.{line_tests, found_more}
use Rattle.clip_check.proofs.lines.meet_near.Given as goal

abbrev pub invariant-loop-line : goal.invariant-loop-line
invariant-loop-line l = record {
  left : fold (found_more (line_tests l.fn.level l.fn.world l.fn.trial.player l.fn.area)) (goes l.found) l.line-iterator
      ≡ fold (found_more (line_tests l.fn.level l.fn.world l.fn.trial.player l.fn.area)) (goes l.fn.found) l.fn.lines;
  ahead : All (λ line. line < length l.fn.level.lines) l.line-iterator;
  there : All (λ line. line < length l.fn.level.lines) l.found.listed;
}
