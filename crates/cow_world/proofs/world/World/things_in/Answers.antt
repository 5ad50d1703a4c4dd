use Rattle.std.proofs.Common.{◌≡◌, ◌<◌, ◌++◌, ◌∷◌, ℕ, w32, FitsSigned, rules, length, All, append_assoc, sym, ap, subst, ◌∙◌}
use Rattle.std.proofs.lemmas.Int.{to_z-of_z}
use Rattle.std.proofs.lemmas.List.{append-nil}
use Rattle.std.proofs.lemmas.List.Elements.{All-nil, All-append}
use Rattle.map_geometry.specs.Blocks.{blocks_in}
use Rattle.cow_world.specs.Flat.{parts}
use Rattle.cow_world.specs.Places.{linked_in, things_in}
use Rattle.cow_world.proofs.Blocks.{things_cut}
use Rattle.cow_world.proofs.world.World.things_in.Goals as goal

pub loop-block-init : goal.loop-block-init
loop-block-init c =
    let world = c.args.self.now in
    let There : ℕ → Type 0 = λ thing. thing < length (parts world).things in
    let same : things_in world c.into_iter-block-iterator.result ≡ things_in world (blocks_in c.args.blocks.now) =
    ap (things_in world) (c.into_iter-block-iterator.ensures.into_iter_gives ∙ c.blocks_in-block-items.ensures.blocks) ∙ sym (things_cut c.args.level.now world c.args.blocks.now c.requires.grid) in
    record {
      left = ap (λ things. c.args.out.now.items ++ things) same;
      there = λ all. subst (All There) same all;
    }

pub loop-block-preserved : goal.loop-block-preserved
loop-block-preserved c =
    let next : c.loop-block.block-iterator ≡ c.in-Some.block ∷ c.next.new.self = c.in-Some.ensures.steps in
    let There : ℕ → Type 0 = λ thing. thing < length (parts c.args.self.now).things in
    let here = linked_in c.args.self.now c.in-Some.block.column c.in-Some.block.row in
    let rest = things_in c.args.self.now c.next.new.self in
    let column_fits : FitsSigned w32 c.in-Some.block.column = search rules in
    let row_fits : FitsSigned w32 c.in-Some.block.row = search rules in
    let column = to_z-of_z w32 c.in-Some.block.column column_fits in
    let row = to_z-of_z w32 c.in-Some.block.row row_fits in
    let pushed = rw (column, row) at c.in_ok-push_linked.ensures.things in
    let pushed_there = rw (column, row) at c.in_ok-push_linked.ensures.there in
    record {
      left = ap (λ out. out ++ rest) pushed ∙ (append_assoc c.loop-block.out.items here rest ∙ (rw next at c.loop-block.invariant.left));
      there = λ more. c.loop-block.invariant.there (rw next (All-append There here rest pushed_there more));
    }

pub returns-clause-things : goal.returns-clause-things
returns-clause-things c =
    let left = rw c.in-None.ensures.steps.0 at c.loop-block.invariant.left in
    sym (append-nil c.loop-block.out.items) ∙ left

pub returns-clause-there : goal.returns-clause-there
returns-clause-there c =
    let There : ℕ → Type 0 = λ thing. thing < length (parts c.args.self.now).things in
    c.loop-block.invariant.there (rw c.in-None.ensures.steps.0 (All-nil There))
