use Rattle.std.proofs.Common.{◌≡◌, ℕ, ℤ, ap, ◌∙◌, rules}
use Rattle.std.specs.Prelude.{pos, int_le}
use Rattle.std.proofs.lemmas.List.Elements.{filter_from_retain}
use Rattle.std.proofs.lemmas.List.Sorted.{answers_always}
use Rattle.block_walk.specs.Traces.{in_order, reached}
use Rattle.block_walk.proofs.Order.{sorted_is}
use Rattle.block_walk.proofs.traces.put_in_order.Goals as goal

pub returns-clause-order : goal.returns-clause-order
returns-clause-order c =
    let kept : c.retain.new.self.items ≡ reached c.sort_by_key.new.self.items = filter_from_retain _ (λ (p : ℤ × ℕ). int_le p.0 (pos 65536)) (λ f x b g h. search rules) _ _ _ c.retain.ensures.filtered in
    let keys = answers_always _ _ _ (λ f a r g h. search rules) in
    let sorted : c.sort_by_key.new.self.items ≡ in_order c.args.out.now.items = sorted_is c.args.out.now.items c.sort_by_key.new.self.items
    (c.in_ok-sort_by_key.ensures.sorted (λ (p : ℤ × ℕ). p.0) keys) (c.in_ok-sort_by_key.ensures.stable (λ (p : ℤ × ℕ). p.0) keys) in
    kept ∙ ap reached sorted
