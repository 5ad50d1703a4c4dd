use Rattle.std.proofs.Common.{[], ◌∷◌}
use Rattle.search_tests.proofs.boards.a_look_sees_what_another_seat_posted.Given as goal

-- 5 is the one number that meets
abbrev pub ghost-new : goal.ghost-new
ghost-new g a = 5 ∷ []
