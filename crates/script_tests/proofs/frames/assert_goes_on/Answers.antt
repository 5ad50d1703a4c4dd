use Rattle.std.proofs.Common.{[], rules}
use Rattle.script_tests.proofs.frames.assert_goes_on.Goals as goal

pub assert_answers-requires : goal.assert_answers-requires
assert_answers-requires g c = c.world_at-world.ensures.belong [] (search rules)
