use Rattle.std.proofs.Common.{take}
use Rattle.dsda_cli.proofs.TakeLemmas.{TakenSoFar}
use Rattle.dsda_cli.proofs.take.take_all.Given as goal

abbrev pub invariant-loop-input : goal.invariant-loop-input
invariant-loop-input g l =
    TakenSoFar (g.S.Shelf.sure l.fn.shelf) (g.S.Shelf.sure l.shelf) (g.S.Shelf.holds l.fn.shelf) (g.S.Shelf.holds l.shelf) (g.S.Shelf.take_faults l.fn.shelf) (g.S.Shelf.take_faults l.shelf) (g.S.Shelf.put_faults l.fn.shelf) (g.S.Shelf.put_faults l.shelf) l.words (take l.input-index l.inputs) l.texts.items
