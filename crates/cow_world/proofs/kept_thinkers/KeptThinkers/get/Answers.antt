use Rattle.std.proofs.Common.{◌≡◌, ◌<◌, Some, None, sym, ap, ◌∙◌, arith, rules}
use Rattle.std.specs.Prelude.{position}
use Rattle.std.proofs.lemmas.Option.{get_or_from_slice_get}
use Rattle.page_store.specs.Over.{seen}
use Rattle.cow_world.specs.declared.kept_thinkers.Placed.{Placed}
use Rattle.cow_world.specs.KeptThinkers.{no_entry, stands_at}
use Rattle.cow_world.proofs.KeptPlaces.{no_place, many_made, read_at, read_revived, read_kept, read_ended}
use Rattle.cow_world.proofs.kept_thinkers.KeptThinkers.get.Goals as goal

pub returns-in-Some : goal.returns-in-Some
returns-in-Some c =
    let list = c.args.self.now in
    let kept = seen c.args.base.now list.kept in
    let there : c.args.place < list.made = omega (arith, c.requires.there, many_made list.made list.revived.items kept) in
    let found : position (stands_at c.args.place) list.revived.items ≡ Some c.in-Some.k = search rules in
    read_at list.made list.revived.items kept c.args.place there
    ∙ ap Some (read_revived list.revived.items kept c.args.place c.in-Some.k c.index.result.now found ∙ ap (λ (entry : Placed). entry.thinker) (sym c.index.ensures))

pub returns-in-Some-position : goal.returns-in-Some-position
returns-in-Some-position c =
    let list = c.args.self.now in
    let kept = seen c.args.base.now list.kept in
    let there : c.args.place < list.made = omega (arith, c.requires.there, many_made list.made list.revived.items kept) in
    let gone : c.position_in.result ≡ None = no_place c.position_in.result c.in_default.not-Some in
    let none : position (stands_at c.args.place) list.revived.items ≡ None = search rules in
    let found : position (stands_at c.args.place) kept ≡ Some c.in-Some-position.k = search rules in
    read_at list.made list.revived.items kept c.args.place there
    ∙ ap Some (read_kept list.revived.items kept c.args.place c.in-Some-position.k none found
    ∙ ap (λ (entry : Placed). entry.thinker) (get_or_from_slice_get kept c.in-Some-position.k c.get.result no_entry c.get.ensures))

pub returns-in-None : goal.returns-in-None
returns-in-None c =
    let list = c.args.self.now in
    let kept = seen c.args.base.now list.kept in
    let there : c.args.place < list.made = omega (arith, c.requires.there, many_made list.made list.revived.items kept) in
    let gone : c.position_in.result ≡ None = no_place c.position_in.result c.in_default.not-Some in
    let none : position (stands_at c.args.place) list.revived.items ≡ None = search rules in
    let neither : position (stands_at c.args.place) kept ≡ None = search rules in
    read_at list.made list.revived.items kept c.args.place there ∙ ap Some (read_ended list.revived.items kept c.args.place none neither)
