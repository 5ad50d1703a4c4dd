use Rattle.std.proofs.Common.{sym, ◌∙◌, inl, arith}
use Rattle.std.proofs.lemmas.Bool.{false≢true}
use Rattle.std.proofs.lemmas.List.{get_or_read}
use Rattle.std.proofs.lemmas.Result.{on_ok_weaker}
use Rattle.map_load.specs.Load.{level_conditions}
use Rattle.map_load.proofs.level.load.Goals as goal

pub returns-clause-sound : goal.returns-clause-sound
unfolding level_conditions
returns-clause-sound c =
    let sound = rw (c.bytes-bytes.ensures.value, c.deref.ensures.value) at c.load_lumps.ensures.sound in
    let span = get_or_read c.args.spans.now.spans.items 6 c.index.result.now (omega (arith, c.requires.ten)) c.index.ensures (0, 0) in
    let told = rw (c.bytes-bytes.ensures.value, span) at c.is_extended.ensures in
    on_ok_weaker c.load_lumps.result (λ p. inl (c.if-spans.false, inl (λ extended. false≢true (sym c.if-is_extended.false ∙ told.1 extended), p))) sound
