-- the world stays ready
use Rattle.special_tests.specs.Ready.{IsReady}
use Rattle.special_tests.proofs.cases.try_cases.Given as goal

abbrev pub invariant-loop-case : goal.invariant-loop-case
invariant-loop-case g l = IsReady l.level l.tables l.world
