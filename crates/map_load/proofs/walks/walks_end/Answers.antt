use Rattle.std.proofs.Common.{◌≡◌, ◌<◌, ◌≤◌, ◌∷◌, [], ◌++◌, length, arith, rules, ap, ◌∙◌, sym, refl}
use Rattle.std.proofs.lemmas.Bool.{false≢true}
use Rattle.map_load.proofs.Ways.{Searches, left, goes_back, goes_down, searches_end, stops}
use Rattle.map_load.proofs.walks.walks_end.Goals as goal

pub returns-then-len-nodes : goal.returns-then-len-nodes
returns-then-len-nodes c =
    (λ t. absurd (false≢true t), λ ends. absurd (stops c.args.nodes.now c.loop-at.settled.items c.loop-at.path.items c.pop.new.self.items c.in-Some.at c.loop-at.invariant c.in-Some.ensures.items (omega (arith, c.len.ensures, c.pop.new.self.ok.0)) ends))

pub loop-at-smaller-in_default-unsettled_child : goal.loop-at-smaller-in_default-unsettled_child
loop-at-smaller-in_default-unsettled_child c =
    let both = rw c.deref.ensures.value at c.in_default-unsettled_child.ensures in
    (goes_back c.args.nodes.now c.loop-at.settled.items c.loop-at.path.items c.pop.new.self.items c.in-Some.at c.loop-at.invariant c.in-Some.ensures.items _ (omega (arith, c.len.ensures, c.pop.new.self.ok.0)) both.0 both.1 refl).1

pub loop-at-preserved-in_default-unsettled_child : goal.loop-at-preserved-in_default-unsettled_child
loop-at-preserved-in_default-unsettled_child c =
    let both = rw c.deref.ensures.value at c.in_default-unsettled_child.ensures in
    (goes_back c.args.nodes.now c.loop-at.settled.items c.loop-at.path.items c.pop.new.self.items c.in-Some.at c.loop-at.invariant c.in-Some.ensures.items _ (omega (arith, c.len.ensures, c.pop.new.self.ok.0)) both.0 both.1 refl).0

pub loop-at-preserved : goal.loop-at-preserved
loop-at-preserved c =
    let found = rw c.deref.ensures.value at c.in-Some-unsettled_child.ensures in
    (goes_down c.args.nodes.now c.loop-at.settled.items c.loop-at.path.items c.pop.new.self.items c.in-Some.at c.loop-at.invariant c.in-Some.ensures.items c.in-Some-unsettled_child.child c.push-in-Some.new.self.items (omega (arith, c.len.ensures, c.pop.new.self.ok.0)) found.0 found.1 found.2
    (c.in_ok-push-2.ensures.items ∙ ap (λ xs. xs ++ c.in-Some-unsettled_child.child ∷ []) c.in_ok-push.ensures.items ∙ ap (λ xs. xs ++ c.in-Some-unsettled_child.child ∷ []) (sym c.in-Some.ensures.items))).0

pub returns : goal.returns
returns c = (λ _. searches_end c.args.nodes.now c.loop-at.settled.items c.loop-at.path.items c.loop-at.invariant (omega (arith, c.in_default.ensures.cases.0, c.loop-at.path.ok.0)), λ _. refl)
