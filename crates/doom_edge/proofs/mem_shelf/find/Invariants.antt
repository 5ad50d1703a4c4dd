-- none of the entries so far has the name
use Rattle.std.proofs.Common.{◌≡◌, drop}
use Rattle.std.specs.FinMap as map
use Rattle.doom_edge.specs.MemShelf.{files_of}
use Rattle.doom_edge.proofs.mem_shelf.find.Given as goal

abbrev pub invariant-loop-held : goal.invariant-loop-held
invariant-loop-held l = map.get (files_of (drop l.held-index l.files)) l.name ≡ map.get (files_of l.files) l.name
