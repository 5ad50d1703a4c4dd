-- What a list was at its last fork.
use Rattle.std.specs.Prelude.{List, [], ◌∷◌, map, vec_items}
use Rattle.std.specs.Arc.{arc_value}
use Rattle.page_store.specs.Pages.{named_pieces, joined, ArePages}
use Rattle.page_store.specs.declared.settled.Named.{Named}
use Rattle.page_store.specs.declared.settled.Settled.{Settled}

-- the table, if there is one
abbrev pub tables_of : {T : Type 0} → Settled T → List (List (Named T))
tables_of settled = map (λ table. vec_items (arc_value table)) settled.tables.items

-- the items of the table's pages, or those of the base
abbrev pub laid_under : {T : Type 0} → List T → List (List (Named T)) → List T
laid_under base [] = base
laid_under base (table ∷ tables) = joined (named_pieces base table)

-- the pages of the table are in order
abbrev pub AreTabled : {T : Type 0} → List T → List (List (Named T)) → Type 0
AreTabled base [] = Unit {0}
AreTabled base (table ∷ tables) = ArePages (named_pieces base table)

-- the items that a list was last forked with, or those of its base
unfoldable pub under : {T : Type 0} → List T → Settled T → List T
under base settled = laid_under base (tables_of settled)

-- they stand in pages, in order
unfoldable pub AreSettled : {T : Type 0} → List T → Settled T → Type 0
AreSettled base settled = AreTabled base (tables_of settled)
