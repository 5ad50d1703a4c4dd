use Rattle.claim_board.specs.Steps.{tells}
use Rattle.claim_board.proofs.board.Board.new.Given as goal

-- the step that makes the board tells which numbers meet
abbrev pub ghosts-load : goal.ghosts-load
ghosts-load g a = record { then = tells g.meets }
