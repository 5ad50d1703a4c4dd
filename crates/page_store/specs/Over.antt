-- A list over a base that stands elsewhere.
use Rattle.std.specs.Prelude.{List}
use Rattle.page_store.specs.Pages.{seen_in, IsStore}
use Rattle.page_store.specs.Under.{under, AreSettled}
use Rattle.page_store.specs.declared.pages.Pages.{Pages}

-- the items of the list
abbrev pub seen : {T : Type 0} → List T → Pages T → List T
seen base list = seen_in (under base list.settled) list.pages.items list.len

-- the pages were laid over this base
pub record IsOver {T : Type 0} (base : List T) (list : Pages T) : Type 0 where
  pub settled : AreSettled base list.settled
  pub store : IsStore (under base list.settled) list.pages.items list.len
