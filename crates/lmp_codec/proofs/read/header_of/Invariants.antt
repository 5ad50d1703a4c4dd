use Rattle.std.proofs.Common.{ℕ, ◌<◌, IsTrue, slice_index}
use Rattle.lmp_codec.specs.Header.{may_stand}
use Rattle.lmp_codec.proofs.read.header_of.Given as goal

abbrev pub invariant-loop-place : goal.invariant-loop-place
invariant-loop-place l = (before : ℕ) → before < l.place → IsTrue (may_stand before (slice_index l.text before))
