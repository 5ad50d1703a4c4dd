use Rattle.std.proofs.Common.{◌<◌, length, IfSome, ℕ}
use Rattle.cow_world.specs.Flat.{parts}
use Rattle.line_specials.proofs.Markers.{Led}
use Rattle.line_specials.proofs.exits.exit_of.Given as goal

abbrev pub invariant-loop-thing : goal.invariant-loop-thing
invariant-loop-thing l =
    Led l.level l.world l.fn.tag l.exit l.thing
    × IfSome l.exit (λ (exit : ℕ × ℕ). exit.0 < length l.level.sectors)
    × IfSome l.exit (λ (exit : ℕ × ℕ). exit.1 < length (parts l.world).things)
