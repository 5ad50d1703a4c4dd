-- no more than was asked for was read
use Rattle.std.proofs.Common.{◌≤◌, vec_len}
use Rattle.doom_edge.proofs.file_shelf.read_file.Given as goal

abbrev pub invariant-loop : goal.invariant-loop
invariant-loop g l = vec_len l.into ≤ l.most
