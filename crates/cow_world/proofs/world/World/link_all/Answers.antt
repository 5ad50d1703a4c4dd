use Rattle.std.proofs.Common.{◌≡◌, ◌<◌, ◌*◌, ℕ, length, All, sym, ap, ◌∙◌, subst}
use Rattle.cow_world.specs.declared.grid.Grid.{Grid}
use Rattle.cow_world.specs.Flat.{Live, Gridded, parts, with_parts, grid_of}
use Rattle.cow_world.specs.Fits.{KeepsFit}
use Rattle.cow_world.specs.Kept.{IsEntry, things_of}
use Rattle.cow_world.specs.Spawned.{latest, entry_at}
use Rattle.cow_world.proofs.Fitting.{keeps-links}
use Rattle.cow_world.proofs.SpawnedLinks.{once_latest, linked_is, things_latest, entries_latest}
use Rattle.cow_world.proofs.Writes.{parts_are, written}
use Rattle.cow_world.proofs.world.World.link_all.Goals as goal

pub of-requires-clause-once : goal.of-requires-clause-once
of-requires-clause-once c = rw c.in_ok-entries.ensures.entries (once_latest c.self.inside.lists.things (grid_of c.args.level.now) c.args.things.now c.requires.rising)

pub invariant_of-self : goal.invariant_of-self
invariant_of-self c =
    let own : grid_of c.args.level.now ≡ c.self.inside.grid = sym c.requires.grid ∙ sym (ap (λ (w : Gridded). w.grid) c.self.view_is) in
    let same = ap (λ (l : Live). length l.things) (parts_are _ _ _ _ c.self.view_is c.requires.live) in
    let There : ℕ → Type 0 = λ count. All (λ thing. thing < count) c.args.things.now in
    let there : All (λ thing. thing < length c.self.inside.lists.things) c.args.things.now = subst There (sym same) c.requires.there in
    let Entries : Grid → Type 0 = λ grid. All (IsEntry c.self.inside.lists.things grid) (latest (entry_at c.self.inside.lists.things (grid_of c.args.level.now)) c.args.things.now) in
    let entries : Entries c.self.inside.grid = subst Entries own (entries_latest c.self.inside.lists.things (grid_of c.args.level.now) c.args.things.now there) in
    let blocks : c.args.level.now.width * c.args.level.now.height ≡ c.self.inside.grid.width * c.self.inside.grid.height = ap (λ (g : Grid). g.width * g.height) own in
    record {
      movers = c.self.invariant.movers;
      thinkers = c.self.invariant.thinkers;
      player = c.self.invariant.player;
      acted = c.self.invariant.acted;
      exited = c.self.invariant.exited;
      few_sectors = c.self.invariant.few_sectors;
      few_things = c.self.invariant.few_things;
      few_thinkers = c.self.invariant.few_thinkers;
      entries = λ live. rw (c.in_ok-self-inside.ensures.order, c.in_ok-entries.ensures.entries) entries;
      blocks = λ live. c.in_ok-self-inside.ensures.blocks ∙ (rw (c.width.ensures.value, c.height.ensures.value) blocks);
      no_sectors = c.self.invariant.no_sectors;
      no_specials = c.self.invariant.no_specials;
      no_things = c.self.invariant.no_things;
      no_thinkers = c.self.invariant.no_thinkers;
    }

pub returns-clause-ok : goal.returns-clause-ok
returns-clause-ok c =
    let now = c.args.self.now in
    let order = c.in_ok-self-inside.field-0.order in
    let links : things_of order ≡ latest (λ i. i) c.args.things.now =
    ap things_of (c.in_ok-self-inside.ensures.order ∙ c.in_ok-entries.ensures.entries) ∙ things_latest c.self.inside.lists.things (grid_of c.args.level.now) c.args.things.now in
    written (λ (l : Live). record l { links = things_of order }) _ _ _ _ c.self.view_is c.requires.live
    ∙ (ap (λ links. with_parts now (record (parts now) { links = links })) links
    ∙ sym (linked_is now c.args.things.now c.requires.live c.requires.first c.requires.rising))

pub returns-clause-fits : goal.returns-clause-fits
returns-clause-fits c =
    let now = c.args.self.now in
    let whole = linked_is now c.args.things.now c.requires.live c.requires.first c.requires.rising in
    subst (KeepsFit now) (sym (returns-clause-ok c)) (subst (KeepsFit now) (sym whole) (keeps-links now (latest (λ i. i) c.args.things.now)))
