use Rattle.std.proofs.Common.{◌≡◌, ◌<◌, true, Some, None, arith, rules}
use Rattle.std.specs.Prelude.{position}
use Rattle.page_store.specs.Over.{seen}
use Rattle.cow_world.specs.KeptThinkers.{stands_at, has_ended}
use Rattle.cow_world.proofs.KeptPlaces.{no_place, many_made, set_revived, set_kept, set_back, set_ended, placed-kept, placed-revived, placed-back}
use Rattle.cow_world.proofs.kept_thinkers.KeptThinkers.write.Goals as goal

pub returns-in-Some-clause-list : goal.returns-in-Some-clause-list
returns-in-Some-clause-list c =
    let list = c.args.self.now in
    let kept = seen c.args.base.now list.kept in
    let there : c.args.place < list.made = omega (arith, c.requires.there, many_made list.made list.revived.items kept) in
    (c.requires.list.0, placed-revived list.made list.revived.items kept c.args.place c.in-Some.k c.args.to there c.requires.list.1)

pub returns-in-Some-clause-ok : goal.returns-in-Some-clause-ok
returns-in-Some-clause-ok c =
    let list = c.args.self.now in
    let kept = seen c.args.base.now list.kept in
    let there : c.args.place < list.made = omega (arith, c.requires.there, many_made list.made list.revived.items kept) in
    let found : position (stands_at c.args.place) list.revived.items ≡ Some c.in-Some.k = search rules in
    set_revived list.made list.revived.items kept c.args.place c.in-Some.k c.args.to there found

pub returns-in-Some-position-clause-list : goal.returns-in-Some-position-clause-list
returns-in-Some-position-clause-list c =
    let list = c.args.self.now in
    let kept = seen c.args.base.now list.kept in
    let there : c.args.place < list.made = omega (arith, c.requires.there, many_made list.made list.revived.items kept) in
    let found : position (stands_at c.args.place) kept ≡ Some c.in-Some-position.k = search rules in
    (c.set.ensures.over, rw c.in_ok-set.ensures.ok (placed-kept list.made list.revived.items kept c.args.place c.in-Some-position.k c.args.to there found c.requires.list.1))

pub returns-in-Some-position-clause-ok : goal.returns-in-Some-position-clause-ok
returns-in-Some-position-clause-ok c =
    let list = c.args.self.now in
    let kept = seen c.args.base.now list.kept in
    let there : c.args.place < list.made = omega (arith, c.requires.there, many_made list.made list.revived.items kept) in
    let gone : c.position_in.result ≡ None = no_place c.position_in.result c.in_default.not-Some in
    let none : position (stands_at c.args.place) list.revived.items ≡ None = search rules in
    let found : position (stands_at c.args.place) kept ≡ Some c.in-Some-position.k = search rules in
    rw c.in_ok-set.ensures.ok (set_kept list.made list.revived.items kept c.args.place c.in-Some-position.k c.args.to there none found)

pub returns-then-has_ended-clause-ok : goal.returns-then-has_ended-clause-ok
returns-then-has_ended-clause-ok c =
    let list = c.args.self.now in
    let kept = seen c.args.base.now list.kept in
    let there : c.args.place < list.made = omega (arith, c.requires.there, many_made list.made list.revived.items kept) in
    let gone : c.position_in.result ≡ None = no_place c.position_in.result c.in_default.not-Some in
    let none : position (stands_at c.args.place) list.revived.items ≡ None = search rules in
    let away : c.position.result ≡ None = no_place c.position.result c.in_default-position.not-Some in
    let neither : position (stands_at c.args.place) kept ≡ None = search rules in
    let ends : has_ended c.args.to ≡ true = search rules in
    set_ended list.made list.revived.items kept c.args.place c.args.to there none neither ends

pub returns-clause-list : goal.returns-clause-list
returns-clause-list c =
    let list = c.args.self.now in
    let kept = seen c.args.base.now list.kept in
    let there : c.args.place < list.made = omega (arith, c.requires.there, many_made list.made list.revived.items kept) in
    (c.requires.list.0, rw c.in_ok-push.ensures.items (placed-back list.made list.revived.items kept c.args.place c.args.to there c.requires.list.1))

pub returns-clause-ok : goal.returns-clause-ok
returns-clause-ok c =
    let list = c.args.self.now in
    let kept = seen c.args.base.now list.kept in
    let there : c.args.place < list.made = omega (arith, c.requires.there, many_made list.made list.revived.items kept) in
    let gone : c.position_in.result ≡ None = no_place c.position_in.result c.in_default.not-Some in
    let none : position (stands_at c.args.place) list.revived.items ≡ None = search rules in
    rw c.in_ok-push.ensures.items (set_back list.made list.revived.items kept c.args.place c.args.to there none)
