use Rattle.std.proofs.Common.{◌≢◌, ℕ, ◌≤◌, ◌<◌}
use Rattle.wad_lumps.specs.Directory.{entry_count, name_of}
use Rattle.wad_lumps.proofs.map.last_named.Given as goal

abbrev pub invariant-loop-i : goal.invariant-loop-i
invariant-loop-i l = (k : ℕ) → l.i ≤ k → k < entry_count l.bytes → name_of l.bytes k ≢ l.name
