use Rattle.std.proofs.Common.{◌+◌, refl, inl, inr, arith}
use Rattle.std.proofs.lemmas.List.FromFn.{map-range_with_len_more}
use Rattle.fixed_angle.proofs.Order.{each_step, each_stop}
use Rattle.wad_lumps.specs.declared.fault.WadFault.TheVariants.{LumpRange}
use Rattle.wad_lumps.specs.Directory.{span_of}
use Rattle.wad_lumps.specs.Map.{lump_check, lump_conditions}
use Rattle.wad_lumps.proofs.Labels.{ten_lumps}
use Rattle.wad_lumps.proofs.map.lumps_of.Goals as goal

pub returns-in_default : goal.returns-in_default
unfolding lump_conditions
returns-in_default c = inr (each_stop (lump_check c.args.bytes.now c.args.label) 10 c.loop-k.k (LumpRange (c.loop-k.k + 1)) c.loop-k-test.true c.loop-k.invariant.1 (inr (c.in_default.ensures, refl)))

pub loop-k-preserved : goal.loop-k-preserved
loop-k-preserved c =
    (rw (c.in_ok-push.ensures.items, c.loop-k.invariant.0, c.in-Some.ensures.1, map-range_with_len_more (λ e. span_of c.args.bytes.now (c.args.label + e)) 1 c.loop-k.k (c.loop-k.k + 1) (omega arith)) refl, each_step (lump_check c.args.bytes.now c.args.label) c.loop-k.k c.loop-k.invariant.1 (inl (c.in-Some.ensures.0, refl)))

pub returns : goal.returns
returns c = ten_lumps c.args.bytes.now c.args.label c.loop-k.k c.loop-k.spans.items (omega arith) c.loop-k.invariant
