use Rattle.std.proofs.Common.{◌≡◌, ◌+◌, ◌<◌, length, take, drop, ◌-◌}
use Rattle.build_edits.specs.Kept.{joined}
use Rattle.build_edits.proofs.blocks.find_spot.Given as goal

-- the place is counted on from the block's start
abbrev pub invariant-finding : goal.invariant-finding
invariant-finding l =
    (l.place ≡ length (joined (take l.block l.blocks.items)) + l.rest)
    × (l.rest < length (joined (drop l.block l.blocks.items)))

abbrev pub decreases-finding : goal.decreases-finding
decreases-finding l = length l.blocks.items - l.block
