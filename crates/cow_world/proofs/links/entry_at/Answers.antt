use Rattle.std.proofs.Common.{◌≡◌, w32, FitsSigned, ℕ, Option, get_or, ap, rules}
use Rattle.std.proofs.lemmas.Int.{to_z-of_z}
use Rattle.std.proofs.lemmas.Option.{get_or_from_slice_get}
use Rattle.link_order.specs.declared.linked.Linked.{Linked}
use Rattle.cow_world.specs.declared.records.Thing.{Thing}
use Rattle.cow_world.specs.Flat.{no_thing}
use Rattle.cow_world.proofs.links.entry_at.Goals as goal

pub returns-clause-entry : goal.returns-clause-entry
returns-clause-entry c =
    let there : Thing = c.thing-there.result in
    let x_fits : FitsSigned w32 there.x = search rules in
    let y_fits : FitsSigned w32 there.y = search rules in
    let x = to_z-of_z w32 there.x x_fits in
    let y = to_z-of_z w32 there.y y_fits in
    let block = rw (x, y) at c.cell_under.ensures.cell in
    let reads : get_or c.args.lists.now.things c.args.thing no_thing ≡ there = get_or_from_slice_get c.args.lists.now.things c.args.thing there no_thing c.thing-there.ensures in
    let Entry : Option ℕ → Linked = λ block. record { thing = c.args.thing; block = block } in
    rw reads (ap Entry block)
