use Rattle.std.proofs.Common.{◌≡◌, ℕ, ◌+◌, ◌-◌, ◌*◌, List, [], ◌∷◌, ◌++◌, map, sym, ap, ◌∙◌, append_assoc}
use Rattle.std.specs.List.{flat_map, range_with_len}
use Rattle.gallery_gen.specs.Lumps.{node_of}
use Rattle.gallery_gen.proofs.Each.{each_first}
use Rattle.gallery_gen.proofs.lumps.nodes.Goals as goal

pub loop-node-preserved : goal.loop-node-preserved
loop-node-preserved c = c.in_ok-push_node.ensures ∙ (ap (λ lump. lump ++ node_of c.loop-node.node) c.loop-node.invariant ∙ each_first node_of c.loop-node.node)
