-- the entries from here on, the last first
use Rattle.std.proofs.Common.{◌≡◌, ◌*◌, All, drop}
use Rattle.link_order.specs.Links.{IsWithin}
use Rattle.cow_world.specs.Flat.{grid_of}
use Rattle.cow_world.specs.Spawned.{latest, entry_at}
use Rattle.cow_world.proofs.links.entries_of.Given as goal

abbrev pub invariant-loop-i : goal.invariant-loop-i
invariant-loop-i l = record {
  entries : l.entries.items ≡ latest (entry_at l.lists.things (grid_of l.level)) (drop l.i l.linked);
  within : All (IsWithin (l.level.width * l.level.height)) l.entries.items;
}
