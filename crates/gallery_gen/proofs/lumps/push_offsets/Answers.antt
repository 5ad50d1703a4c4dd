use Rattle.std.proofs.Common.{◌≡◌, ℕ, ◌+◌, ◌-◌, ◌*◌, List, [], ◌∷◌, ◌++◌, map, sym, ap, ◌∙◌, append_assoc}
use Rattle.std.specs.List.{flat_map, range_with_len}
use Rattle.gallery_gen.specs.Lumps.{word, blocks}
use Rattle.gallery_gen.proofs.Each.{each_more}
use Rattle.gallery_gen.proofs.lumps.push_offsets.Goals as goal

pub loop-block-preserved : goal.loop-block-preserved
loop-block-preserved c =
    c.in_ok-push_word.ensures
    ∙ (ap (λ out. out ++ word (4 + blocks c.args.rooms)) c.loop-block.invariant
    ∙ each_more (λ block. word (4 + blocks c.args.rooms)) c.args.out.now.items c.loop-block._block)
