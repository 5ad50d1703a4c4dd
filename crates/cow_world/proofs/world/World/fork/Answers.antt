use Rattle.std.proofs.Common.{◌∙◌, refl}
use Rattle.cow_world.proofs.Forks.{forked_pages, kept_again}
use Rattle.cow_world.proofs.world.World.fork.Goals as goal

pub returns-clause-most : goal.returns-clause-most
returns-clause-most c = forked_pages c.self.inside c.args.self.now _ _ c.self.view_is c.self.invariant c.fork.ensures.most

pub invariant_of-self-2 : goal.invariant_of-self-2
invariant_of-self-2 c = rw c.fork.ensures.kept c.self.invariant

pub invariant_of-result : goal.invariant_of-result
invariant_of-result c =
    kept_again c.self.inside _ c.in_ok-fork.ensures.same
    c.in_ok-fork-2.ensures.order c.in_ok-fork-2.ensures.blocks (c.in_ok-from_slice.ensures.items ∙ c.deref.ensures.value)
    refl refl refl refl c.self.invariant

pub invariant_of-self-in_err-fork-2 : goal.invariant_of-self-in_err-fork-2
invariant_of-self-in_err-fork-2 c = rw c.fork.ensures.kept c.self.invariant

pub returns-in_err-fork-2-clause-most : goal.returns-in_err-fork-2-clause-most
returns-in_err-fork-2-clause-most c = forked_pages c.self.inside c.args.self.now _ _ c.self.view_is c.self.invariant c.fork.ensures.most

pub invariant_of-self-in_err-from_slice : goal.invariant_of-self-in_err-from_slice
invariant_of-self-in_err-from_slice c = rw c.fork.ensures.kept c.self.invariant

pub returns-in_err-from_slice-clause-most : goal.returns-in_err-from_slice-clause-most
returns-in_err-from_slice-clause-most c = forked_pages c.self.inside c.args.self.now _ _ c.self.view_is c.self.invariant c.fork.ensures.most
