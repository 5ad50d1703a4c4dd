use Rattle.std.proofs.Common.{◌≢◌, ℕ, ◌≤◌, ◌<◌, length, slice_index}
use Rattle.map_geometry.specs.Blocks.{end_mark}
use Rattle.map_load.proofs.blocks.last_end.Given as goal

abbrev pub invariant-loop-k : goal.invariant-loop-k
invariant-loop-k l = (j : ℕ) → l.k ≤ j → j < length l.words → slice_index l.words j ≢ end_mark
