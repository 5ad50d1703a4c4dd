use Rattle.std.proofs.Common.{◌≡◌, ◌+◌, ◌≤◌, [], length}
use Rattle.std.specs.List.{splice}
use Rattle.build_edits.specs.Kept.{joined}
use Rattle.build_edits.proofs.blocks.erase.Given as goal

-- what is left to erase, erased, gives what the whole gives
abbrev pub invariant-erasing : goal.invariant-erasing
invariant-erasing l =
    (splice (joined l.blocks.items) l.from (l.from + l.left) [] ≡ splice (joined l.fn.blocks.items) l.fn.from l.fn.to [])
    × (l.from + l.left ≤ length (joined l.blocks.items))

-- proposed from the loop's first test
abbrev pub decreases-erasing : goal.decreases-erasing
decreases-erasing l = l.left
