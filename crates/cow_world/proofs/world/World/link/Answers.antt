use Rattle.std.proofs.Common.{◌≡◌, ℕ, ◌*◌, ◌<◌, length, get_or, IfSome, w32, sym, ap, ◌∙◌, subst}
use Rattle.std.proofs.lemmas.Int.{to_z-of_z}
use Rattle.std.proofs.lemmas.Option.{get_or_from_slice_get}
use Rattle.link_order.specs.Links.{linked_first}
use Rattle.cow_world.specs.declared.grid.Grid.{Grid}
use Rattle.cow_world.specs.declared.records.Thing.{Thing}
use Rattle.cow_world.specs.Flat.{Live, Gridded, no_thing, link}
use Rattle.cow_world.specs.Places.{cell_under}
use Rattle.cow_world.specs.Kept.{world_in}
use Rattle.cow_world.specs.Fits.{KeepsFit}
use Rattle.cow_world.proofs.Fitting.{keeps-link}
use Rattle.cow_world.proofs.Writes.{is_live, parts_are}
use Rattle.cow_world.proofs.Entries.{kept-room, kept-link, shows-link}
use Rattle.cow_world.proofs.world.World.link.Goals as goal

pub invariant_of-self : goal.invariant_of-self
invariant_of-self c = kept-room c.self.inside c.make_room.new.self c.make_room.ensures.order c.make_room.ensures.blocks c.self.invariant

pub invariant_of-self-in_err-set_thing : goal.invariant_of-self-in_err-set_thing
invariant_of-self-in_err-set_thing c = rw c.in_err-set_thing.ensures.err (kept-room c.self.inside c.make_room.new.self c.make_room.ensures.order c.make_room.ensures.blocks c.self.invariant)

pub thing-requires : goal.thing-requires
thing-requires c =
    let same = ap (λ (l : Live). length l.things) (parts_are _ _ _ _ c.self.view_is c.requires.live) in
    rw same c.requires.there

pub set_thing-requires : goal.set_thing-requires
set_thing-requires c =
    let same = ap (λ (l : Live). length l.things) (parts_are _ _ _ _ c.self.view_is c.requires.live) in
    rw same c.requires.there

pub link-requires-clause-within : goal.link-requires-clause-within
link-requires-clause-within c =
    let live = is_live _ _ _ _ c.self.view_is c.requires.live in
    let own = sym c.requires.grid ∙ sym (ap (λ (w : Gridded). w.grid) c.self.view_is) in
    let blocks = ap (λ (g : Grid). g.width * g.height) own ∙ (sym (c.self.invariant.blocks live) ∙ sym c.make_room.ensures.blocks) in
    let Within : ℕ → Type 0 = λ n. IfSome c.cell_under-block.result (λ b. b < n) in
    subst Within blocks c.cell_under-block.ensures.within

-- the thing at its new place
moved : (c : goal.After-link) → c.moved_to-moved.result ≡ record (get_or c.self.inside.lists.things c.args.thing no_thing) { x = c.args.x; y = c.args.y }
moved c =
    let x = to_z-of_z w32 c.args.x c.ranges.x in
    let y = to_z-of_z w32 c.args.y c.ranges.y in
    let read : get_or c.self.inside.lists.things c.args.thing no_thing ≡ c.thing.result = get_or_from_slice_get c.self.inside.lists.things c.args.thing c.thing.result no_thing c.thing.ensures in
    rw read (rw (x, y) at c.moved_to-moved.ensures)

-- the order, with its entry first
ordered : (c : goal.After-link) → c.link.new.self.order ≡ linked_first c.args.thing (cell_under c.self.inside.grid c.args.x c.args.y) c.self.inside.order.order
ordered c =
    let x = to_z-of_z w32 c.args.x c.ranges.x in
    let y = to_z-of_z w32 c.args.y c.ranges.y in
    let own = sym c.requires.grid ∙ sym (ap (λ (w : Gridded). w.grid) c.self.view_is) in
    let Block : Grid → Type 0 = λ grid. c.cell_under-block.result ≡ cell_under grid c.args.x c.args.y in
    let block = subst Block own (rw (x, y) at c.cell_under-block.ensures.cell) in
    rw (block, c.make_room.ensures.order) at c.link.ensures.order

pub invariant_of-self-2 : goal.invariant_of-self-2
invariant_of-self-2 c =
    let live = is_live _ _ _ _ c.self.view_is c.requires.live in
    let same = ap (λ (l : Live). length l.things) (parts_are _ _ _ _ c.self.view_is c.requires.live) in
    let there : c.args.thing < length c.self.inside.lists.things = rw same c.requires.there in
    let to = c.moved_to-moved.result in
    let blocks = c.link.ensures.blocks ∙ c.make_room.ensures.blocks in
    rw c.in_ok-set_thing.ensures.ok
    (kept-link c.self.inside c.args.thing c.args.x c.args.y to c.link.new.self live there
    (ap (λ (t : Thing). t.x) (moved c)) (ap (λ (t : Thing). t.y) (moved c)) (ordered c) blocks c.self.invariant)

shown : (c : goal.After-link) → world_in (record c.self.inside { lists = c.set_thing.new.self; order = c.link.new.self }) ≡ link c.args.self.now c.args.thing c.args.x c.args.y
shown c = rw c.in_ok-set_thing.ensures.ok (shows-link c.self.inside c.args.thing c.args.x c.args.y c.moved_to-moved.result c.link.new.self _ c.self.view_is c.requires.live (moved c) (ordered c))

pub returns-clause-ok : goal.returns-clause-ok
returns-clause-ok c = shown c

pub returns-clause-fits : goal.returns-clause-fits
returns-clause-fits c = subst (KeepsFit c.args.self.now) (sym (shown c)) (keeps-link c.args.self.now c.args.thing c.args.x c.args.y c.requires.there)
