use Rattle.std.proofs.Common.{◌≡◌, drop}
use Rattle.brute_targets.specs.Targets.{all_hold}
use Rattle.brute_targets.specs.Lines.{has_bit}
use Rattle.brute_targets.proofs.wants.Wants.all_hold.Given as goal

-- all targets hold exactly where those from here on do
abbrev pub invariant-loop-i : goal.invariant-loop-i
invariant-loop-i g l = all_hold g.G.Game l.game l.world (has_bit l.lines) 0 l.self ≡ all_hold g.G.Game l.game l.world (has_bit l.lines) l.i (drop l.i l.self)
