use Rattle.std.proofs.Common.{sym, ap, ◌∙◌}
use Rattle.slide_geom.specs.Stops.{is_narrow}
use Rattle.slide_geom.proofs.Stopped.{stops_by_gap, stops_by_front}
use Rattle.slide_geom.proofs.stops.stops.Goals as goal

pub returns-then-has_flag : goal.returns-then-has_flag
returns-then-has_flag c =
    c.is_narrow.ensures ∙ ap (λ gap. is_narrow c.args.player.now.z gap) c.gap.ensures
    ∙ sym (stops_by_gap c.args.level.now c.args.world.now c.args.player.now c.args.number c.line-line.result c.line-line.ensures.entry (sym c.has_flag.ensures ∙ c.if-has_flag.true))

pub returns : goal.returns
returns c =
    c.is_in_front.ensures
    ∙ sym (stops_by_front c.args.level.now c.args.world.now c.args.player.now c.args.number c.line-line.result c.line-line.ensures.entry (sym c.has_flag.ensures ∙ c.if-has_flag.false))
