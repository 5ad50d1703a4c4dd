use Rattle.std.proofs.Common.{◌≡◌, ◌<◌, ◌≤◌, [], length, get_or, arith, rules}
use Rattle.std.proofs.lemmas.Option.{get_or_from_slice_get}
use Rattle.page_store.specs.Over.{seen}
use Rattle.cow_world.specs.KeptThinkers.{no_entry}
use Rattle.cow_world.proofs.KeptPlaces.{many_made, upper_less, ended_between}
use Rattle.cow_world.proofs.kept_thinkers.KeptThinkers.stretch_from.Goals as goal

pub returns-then-not-leaves_out-clause-order : goal.returns-then-not-leaves_out-clause-order
returns-then-not-leaves_out-clause-order c =
    let list = c.args.self.now in
    omega (arith, c.requires.there, many_made list.made list.revived.items (seen c.args.base.now list.kept))

pub returns-then-not-leaves_out-clause-there : goal.returns-then-not-leaves_out-clause-there
returns-then-not-leaves_out-clause-there c =
    let list = c.args.self.now in
    omega (arith, many_made list.made list.revived.items (seen c.args.base.now list.kept))

pub returns-then-not-leaves_out-clause-some : goal.returns-then-not-leaves_out-clause-some
returns-then-not-leaves_out-clause-some c = λ more.
    let list = c.args.self.now in
    omega (arith, more, many_made list.made list.revived.items (seen c.args.base.now list.kept))

pub returns-then-k-len-clause-from : goal.returns-then-k-len-clause-from
returns-then-k-len-clause-from c =
    let list = c.args.self.now in
    omega (arith, c.requires.there, many_made list.made list.revived.items (seen c.args.base.now list.kept))

pub returns-then-k-len-clause-there : goal.returns-then-k-len-clause-there
returns-then-k-len-clause-there c =
    let list = c.args.self.now in
    omega (arith, many_made list.made list.revived.items (seen c.args.base.now list.kept))

pub returns-then-k-len-clause-some : goal.returns-then-k-len-clause-some
returns-then-k-len-clause-some c = λ more.
    let list = c.args.self.now in
    omega (arith, more, many_made list.made list.revived.items (seen c.args.base.now list.kept))

pub returns-then-k-len-clause-ended : goal.returns-then-k-len-clause-ended
returns-then-k-len-clause-ended c = λ i above below.
    let list = c.args.self.now in
    let kept = seen c.args.base.now list.kept in
    let last : c.first_from-k.result ≡ length kept = search rules in
    let none : list.revived.items ≡ [] = search rules in
    rw none (ended_between list.made kept c.args.from list.made c.first_from-k.result c.first_from-k.ensures.before
    (λ j behind there. absurd (omega (arith, last, behind, there))) (omega arith) i above below)

-- the first that is kept from the place on, and that it is there
pub returns-clause-from : goal.returns-clause-from
returns-clause-from c =
    let kept = seen c.args.base.now c.args.self.now.kept in
    let k = c.first_from-k.result in
    let there : k < length kept = omega (arith, c.first_from-k.ensures.within, c.len.ensures, c.if-k-len.false) in
    let read : get_or kept k no_entry ≡ c.get.result = get_or_from_slice_get kept k c.get.result no_entry c.get.ensures in
    rw (← read) (c.first_from-k.ensures.after k (omega arith) there)

pub returns-clause-order : goal.returns-clause-order
returns-clause-order c =
    let kept = seen c.args.base.now c.args.self.now.kept in
    let read : get_or kept c.first_from-k.result no_entry ≡ c.get.result = get_or_from_slice_get kept c.first_from-k.result c.get.result no_entry c.get.ensures in
    rw (← read) (omega (arith, c.run_end.ensures.some))

pub returns-clause-there : goal.returns-clause-there
returns-clause-there c =
    let list = c.args.self.now in
    omega (arith, c.run_end.ensures.there, many_made list.made list.revived.items (seen c.args.base.now list.kept))

pub returns-clause-some : goal.returns-clause-some
returns-clause-some c = λ more.
    let kept = seen c.args.base.now c.args.self.now.kept in
    let read : get_or kept c.first_from-k.result no_entry ≡ c.get.result = get_or_from_slice_get kept c.first_from-k.result c.get.result no_entry c.get.ensures in
    rw (← read) c.run_end.ensures.some

pub returns-clause-ended : goal.returns-clause-ended
returns-clause-ended c = λ i above below.
    let list = c.args.self.now in
    let kept = seen c.args.base.now list.kept in
    let k = c.first_from-k.result in
    let read : get_or kept k no_entry ≡ c.get.result = get_or_from_slice_get kept k c.get.result no_entry c.get.ensures in
    let first : c.get.result.place ≤ (get_or kept k no_entry).place = rw read (omega arith) in
    let within : c.get.result.place ≤ list.made = rw (← read) (omega (arith, c.run_end.ensures.some, c.run_end.ensures.there)) in
    let none : list.revived.items ≡ [] = search rules in
    rw none (ended_between list.made kept c.args.from c.get.result.place k c.first_from-k.ensures.before
    (upper_less kept c.requires.list.1.rise c.get.result.place k first) within i above below)
