use Rattle.std.proofs.Common.{◌≡◌, ◌≤◌, ◌++◌, [], length, drop, arith, ap, sym, ◌∙◌}
use Rattle.std.proofs.lemmas.List.{drop_all, append-nil}
use Rattle.std.proofs.lemmas.List.Elements.{All-filter}
use Rattle.link_order.specs.Links.{IsWithin}
use Rattle.link_order.specs.Parts.{is_fresh}
use Rattle.link_order.proofs.Orders.{fresh_in-is, block_things-none}
use Rattle.link_order.proofs.base.Base.push_block.Goals as goal

-- a block that the level doesn't have
pub returns-in_default : goal.returns-in_default
returns-in_default c =
    let past : length c.self.inside.heads.items ≤ c.args.block =
    omega (arith, c.in_default.ensures.lookup, ap length c.deref.ensures.value) in
    let blocks = length c.self.inside.heads.items in
    let within = All-filter (is_fresh c.args.recent.now) (IsWithin blocks) _ c.self.invariant.within in
    rw (← c.self.view_is) (rw (block_things-none _ c.args.block _ past within) (sym (append-nil c.args.out.now.items)))

-- the way through the block has come to its end
pub returns : goal.returns
returns c =
    let entries = c.self.inside.entries.items in
    let past : drop c.loop-at.at entries ≡ [] = drop_all c.loop-at.at entries (omega arith) in
    let rest = rw past at c.loop-at.invariant.rest in
    let tests = fresh_in-is c.args.block c.args.recent.now entries in
    rw (← c.self.view_is)
    (sym (append-nil c.loop-at.out.items) ∙ rest ∙ ap (λ things. c.args.out.now.items ++ things) tests)
