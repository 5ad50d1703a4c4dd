use Rattle.std.proofs.Common.{◌≡◌, ◌++◌, take}
use Rattle.lmp_codec.specs.Demo.{spelled}
use Rattle.lmp_codec.proofs.write.write_demo.Given as goal

abbrev pub invariant-loop-tic : goal.invariant-loop-tic
invariant-loop-tic l = l.bytes.items ≡ l.header ++ spelled l.header (take l.tic-index l.tics)
