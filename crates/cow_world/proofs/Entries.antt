-- The entries of the link order, after a write to the things or to the order.
use Rattle.std.proofs.Common.{◌≡◌, ◌≢◌, ℕ, ◌<◌, ◌≤◌, ◌==◌, ℤ, true, false, List, [], ◌∷◌, ◌++◌, length, get_or, set, Option, None, All, refl, sym, ap, ◌∙◌, inl, inr, arith, length-append}
use Rattle.std.specs.Prelude.{not, filter}
use Rattle.std.proofs.lemmas.Bool.{cases_Bool, eq-eqb}
use Rattle.std.proofs.lemmas.List.{length-set, get_or_append_left, get_or-set_same, get_or-set_other}
use Rattle.std.proofs.lemmas.List.Elements.{All-nil, All-cons, All-head, All-tail}
use Rattle.link_order.specs.declared.linked.Linked.{Linked}
use Rattle.link_order.specs.Links.{Links, is_other, linked_first}
use Rattle.cow_world.specs.declared.records.Thing.{Thing}
use Rattle.cow_world.specs.declared.grid.Grid.{Grid}
use Rattle.cow_world.specs.declared.world.World.TheInside.{Inside}
use Rattle.cow_world.specs.Flat.{Live, Gridded, IsLive, no_thing, first_in, link}
use Rattle.cow_world.specs.Places.{cell_under}
use Rattle.cow_world.specs.Kept.{IsEntry, IsKept, things_of, lists_in, world_in}
use Rattle.cow_world.proofs.Writes.{written}

-- an entry whose thing stands where it stood
entry_kept : (things now : List Thing) (grid : Grid) (entry : Linked) → length things ≤ length now → get_or now entry.thing no_thing ≡ get_or things entry.thing no_thing → IsEntry things grid entry → IsEntry now grid entry
entry_kept things now grid entry longer same was = record {
  there = omega (arith, was.there);
  block = was.block ∙ ap (λ (t : Thing). cell_under grid t.x t.y) (sym same);
}

-- one more thing
pub entries-push : (things : List Thing) (thing : Thing) (grid : Grid) (order : List Linked) → All (IsEntry things grid) order → All (IsEntry (things ++ thing ∷ []) grid) order
entries-push things thing grid order were k d below =
    let entry : Linked = get_or order k d in
    let was : IsEntry things grid entry = were k d below in
    entry_kept things (things ++ thing ∷ []) grid entry (omega (arith, length-append things (thing ∷ []))) (get_or_append_left things (thing ∷ []) no_thing entry.thing was.there) was

-- a thing elsewhere, for the entries of the others
entries_of_others : (things : List Thing) (i : ℕ) (to : Thing) (grid : Grid) (order : List Linked) → All (IsEntry things grid) order → All (IsEntry (set things i to) grid) (filter (is_other i) order)
entries_of_others things i to grid [] were = All-nil (IsEntry (set things i to) grid)
entries_of_others things i to grid (entry ∷ rest) were =
    let now : List Thing = set things i to in
    let others = entries_of_others things i to grid rest (All-tail (IsEntry things grid) entry rest were) in
    elim (cases_Bool (is_other i entry)) [
      | inl other ↦
          let apart : entry.thing ≢ i = λ same. absurd (let hit = eq-eqb entry.thing i same in let no : false ≡ true = rw hit at other in cc) in
          let kept = entry_kept things now grid entry (omega (arith, length-set things i to)) (get_or-set_other things i entry.thing to no_thing apart) (All-head (IsEntry things grid) entry rest were) in
          rw other (All-cons (IsEntry now grid) entry (filter (is_other i) rest) kept others)
      | inr own ↦ rw own others
    ]

-- a thing elsewhere that is linked anew
pub entries-link : (things : List Thing) (i : ℕ) (x y : ℤ) (to : Thing) (grid : Grid) (order : List Linked) → i < length things → to.x ≡ x → to.y ≡ y → All (IsEntry things grid) order → All (IsEntry (set things i to) grid) (linked_first i (cell_under grid x y) order)
entries-link things i x y to grid order at is_x is_y were =
    let now : List Thing = set things i to in
    let first : Linked = record { thing = i; block = cell_under grid x y } in
    let reads : get_or now i no_thing ≡ to = get_or-set_same things i to no_thing at in
    let kept : IsEntry now grid first = record {
      there = omega (arith, length-set things i to);
      block = rw (reads, is_x, is_y) refl;
    } in
    All-cons (IsEntry now grid) first (filter (is_other i) order) kept (entries_of_others things i to grid order were)

-- the things, first the one that was linked last
pub things_of-linked_first : (i : ℕ) (block : Option ℕ) (order : List Linked) → things_of (linked_first i block order) ≡ first_in i (things_of order)
things_of-linked_first i block order = ap (λ rest. i ∷ rest) (others order)
  where
    others : (order : List Linked) → things_of (filter (is_other i) order) ≡ filter (λ other. not (other == i)) (things_of order)
    others [] = refl
    others (entry ∷ rest) =
        elim (cases_Bool (is_other i entry)) [
          | inl other ↦ rw other (ap (λ xs. entry.thing ∷ xs) (others rest))
          | inr own ↦ rw own (others rest)
        ]

-- ---- the world's fields

-- more room for links
pub kept-room : (world : Inside) (order : Links) → order.order ≡ world.order.order → order.blocks ≡ world.order.blocks → IsKept world → IsKept (record world { order = order })
kept-room world order same blocks kept = record {
  movers = kept.movers;
  thinkers = kept.thinkers;
  player = kept.player;
  acted = kept.acted;
  exited = kept.exited;
  few_sectors = kept.few_sectors;
  few_things = kept.few_things;
  few_thinkers = kept.few_thinkers;
  entries = rw same kept.entries;
  blocks = λ live. blocks ∙ kept.blocks live;
  no_sectors = kept.no_sectors;
  no_specials = kept.no_specials;
  no_things = kept.no_things;
  no_thinkers = kept.no_thinkers;
}

-- a thing elsewhere that is linked anew
pub kept-link : (world : Inside) (i : ℕ) (x y : ℤ) (to : Thing) (order : Links) → world.halted ≡ None → i < length world.lists.things → to.x ≡ x → to.y ≡ y → order.order ≡ linked_first i (cell_under world.grid x y) world.order.order → order.blocks ≡ world.order.blocks → IsKept world → IsKept (record world { lists = record world.lists { things = set world.lists.things i to }; order = order })
kept-link world i x y to order live at is_x is_y first blocks kept =
    let same = length-set world.lists.things i to in
    record {
      movers = kept.movers;
      thinkers = kept.thinkers;
      player = rw same kept.player;
      acted = kept.acted;
      exited = kept.exited;
      few_sectors = kept.few_sectors;
      few_things = rw same kept.few_things;
      few_thinkers = kept.few_thinkers;
      entries = λ _. rw first (entries-link world.lists.things i x y to world.grid world.order.order at is_x is_y (kept.entries live));
      blocks = λ _. blocks ∙ kept.blocks live;
      no_sectors = kept.no_sectors;
      no_specials = kept.no_specials;
      no_things = λ end ended. absurd cc;
      no_thinkers = kept.no_thinkers;
    }

-- the world that they show
pub shows-link : (world : Inside) (i : ℕ) (x y : ℤ) (to : Thing) (order : Links) (seen : Gridded) → world_in world ≡ seen → IsLive seen → to ≡ record (get_or world.lists.things i no_thing) { x = x; y = y } → order.order ≡ linked_first i (cell_under world.grid x y) world.order.order → world_in (record world { lists = record world.lists { things = set world.lists.things i to }; order = order }) ≡ link seen i x y
shows-link world i x y to order seen same live moved first =
    let links : things_of order.order ≡ first_in i (things_of world.order.order) = ap things_of first ∙ things_of-linked_first i (cell_under world.grid x y) world.order.order in
    let new : Live → Live = λ l. record l { things = set l.things i (record (get_or l.things i no_thing) { x = x; y = y }); links = first_in i l.links } in
    rw (moved, links) (written new world.halted (lists_in world) world.grid seen same live)
