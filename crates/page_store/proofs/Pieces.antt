-- Lists in pieces of 32: piece k begins at item 32 * k.
use Rattle.std.proofs.Common.{◌≡◌, ◌≢◌, ℕ, ◌+◌, ◌-◌, ◌*◌, ◌/◌, ◌%◌, ◌<◌, ◌≤◌, ◌⊎◌, inl, inr, List, Some, [], ◌∷◌, ◌++◌, length, get_or, set, take, drop, min, slice_get, Result, Ok, Err, OnErr, refl, sym, ap, ◌∙◌, arith, length-append, length-set, append_assoc, zero, suc, map, subst}
use Rattle.std.proofs.Math.Seq.{take-add}
use Rattle.std.proofs.lemmas.List.{append-nil, length-take, length-drop, take_all, take_min, drop_all, get_or-take, get_or_append_left, get_or-append_right, set-append_left, set-append_right, length-map, get_or-map, get_or_past, get_or-drop, map-set, set-get_or, map-append, take_more, drop-drop, drop_at, take-append-le}
use Rattle.std.proofs.lemmas.Bool.{cases_lt, eq-eqb, ne_eqb}
use Rattle.std.proofs.lemmas.Grind.{flat_map-append}
use Rattle.std.proofs.lemmas.Option.{slice_get-get_or, get_or_from_slice_get}
use Rattle.page_store.specs.Under.{laid_under, AreTabled}
use Rattle.page_store.specs.Pages.{named_items, named_pieces, items_of, pieces_of, joined, ArePages, IsStore, IsLaidOut, seen_in, page_count}
use Rattle.page_store.specs.declared.settled.Named.{Named}
use Rattle.page_store.specs.declared.page.Page.{Page}
use Rattle.page_store.specs.declared.page.Page.TheVariants.{Under}

-- a place of the list is a place of a piece
pub place : {X : Type 0} (ps : List (List X)) (k r : ℕ) → ArePages ps → r < 32 → 32 * k + r < length (joined ps)
    → (k < length ps) × (r < length (get_or ps k []))
place [] k r paged small there = absurd (omega arith)
place (p ∷ []) zero r paged small there = (omega arith, omega (arith, length-append p []))
place (p ∷ []) (suc k) r paged small there = absurd (omega (arith, length-append p [], paged))
place (p ∷ q ∷ rest) zero r paged small there = (omega arith, omega (arith, paged.0))
place (p ∷ q ∷ rest) (suc k) r paged small there =
    let below = place (q ∷ rest) k r paged.1 small (omega (arith, paged.0, length-append p (joined (q ∷ rest)))) in
    (omega (arith, below.0), below.1)

-- the item at a place
pub get_or-joined : {X : Type 0} (ps : List (List X)) (k r : ℕ) (d : X) → ArePages ps → r < 32 → 32 * k + r < length (joined ps)
    → get_or (joined ps) (32 * k + r) d ≡ get_or (get_or ps k []) r d
get_or-joined [] k r d paged small there = absurd (omega arith)
get_or-joined (p ∷ []) zero r d paged small there = rw append-nil (ap (λ i. get_or p i d) (let e : 32 * 0 + r ≡ r = omega arith in e))
get_or-joined (p ∷ []) (suc k) r d paged small there = absurd (omega (arith, length-append p [], paged))
get_or-joined (p ∷ q ∷ rest) zero r d paged small there =
    ap (λ i. get_or (p ++ joined (q ∷ rest)) i d) (let e : 32 * 0 + r ≡ r = omega arith in e)
    ∙ get_or_append_left p (joined (q ∷ rest)) d r (omega (arith, paged.0))
get_or-joined (p ∷ q ∷ rest) (suc k) r d paged small there =
    get_or-append_right p (joined (q ∷ rest)) 32 (32 * suc k + r) d paged.0 (omega arith)
    ∙ ap (λ i. get_or (joined (q ∷ rest)) i d) (let e : 32 * suc k + r - 32 ≡ 32 * k + r = omega arith in e)
    ∙ get_or-joined (q ∷ rest) k r d paged.1 small (omega (arith, paged.0, length-append p (joined (q ∷ rest))))

-- an item is written by writing it into its piece
pub set-joined : {X : Type 0} (ps : List (List X)) (k r : ℕ) (y : X) → ArePages ps → r < 32 → 32 * k + r < length (joined ps)
    → joined (set ps k (set (get_or ps k []) r y)) ≡ set (joined ps) (32 * k + r) y
set-joined [] k r y paged small there = absurd (omega arith)
set-joined (p ∷ []) zero r y paged small there =
    append-nil (set p r y) ∙ ap (λ i. set p i y) (let e : r ≡ 32 * 0 + r = omega arith in e)
    ∙ ap (λ xs. set xs (32 * 0 + r) y) (sym (append-nil p))
set-joined (p ∷ []) (suc k) r y paged small there = absurd (omega (arith, length-append p [], paged))
set-joined (p ∷ q ∷ rest) zero r y paged small there =
    sym (ap (λ i. set (p ++ joined (q ∷ rest)) i y) (let e : 32 * 0 + r ≡ r = omega arith in e)
    ∙ set-append_left p (joined (q ∷ rest)) r y (omega (arith, paged.0)))
set-joined (p ∷ q ∷ rest) (suc k) r y paged small there =
    sym (set-append_right p (joined (q ∷ rest)) 32 (32 * suc k + r) y paged.0 (omega arith)
    ∙ ap (λ i. p ++ set (joined (q ∷ rest)) i y) (let e : 32 * suc k + r - 32 ≡ 32 * k + r = omega arith in e)
    ∙ ap (λ xs. p ++ xs) (sym (set-joined (q ∷ rest) k r y paged.1 small (omega (arith, paged.0, length-append p (joined (q ∷ rest)))))))

-- a piece may be replaced by one as long
pub ArePages-set : {X : Type 0} (ps : List (List X)) (k : ℕ) (piece : List X) → ArePages ps → length piece ≡ length (get_or ps k [])
    → ArePages (set ps k piece)
ArePages-set [] k piece paged same = tt
ArePages-set (p ∷ []) zero piece paged same = (omega (arith, paged, same), omega (arith, paged, same))
ArePages-set (p ∷ []) (suc k) piece paged same = paged
ArePages-set (p ∷ q ∷ rest) zero piece paged same = (same ∙ paged.0, paged.1)
ArePages-set (p ∷ q ∷ rest) (suc zero) piece paged same = (paged.0, ArePages-set (q ∷ rest) zero piece paged.1 same)
ArePages-set (p ∷ q ∷ rest) (suc (suc k)) piece paged same = (paged.0, ArePages-set (q ∷ rest) (suc k) piece paged.1 same)

-- where the pages are full there is room for one more
pub ArePages-push : {X : Type 0} (ps : List (List X)) (n : ℕ) (piece : List X) → ArePages ps → length (joined ps) ≡ 32 * n
    → 0 < length piece → length piece ≤ 32 → ArePages (ps ++ piece ∷ [])
ArePages-push [] n piece paged full some_item fits = (some_item, fits)
ArePages-push (p ∷ []) n piece paged full some_item fits = (omega (arith, paged, length-append p []), (some_item, fits))
ArePages-push (p ∷ q ∷ rest) n piece paged full some_item fits =
    (paged.0, ArePages-push (q ∷ rest) (n - 1) piece paged.1 (omega (arith, paged.0, length-append p (joined (q ∷ rest)))) some_item fits)

-- where they are not, the last page is the one that the length names, and has the rest
pub last_page : {X : Type 0} (ps : List (List X)) (k r : ℕ) → ArePages ps → length (joined ps) ≡ 32 * k + r → 0 < r → r < 32
    → (length ps ≡ k + 1) × (length (get_or ps k []) ≡ r)
last_page [] k r paged len some_item small = absurd (omega arith)
last_page (p ∷ []) zero r paged len some_item small = (omega arith, omega (arith, length-append p []))
last_page (p ∷ []) (suc k) r paged len some_item small = absurd (omega (arith, paged, length-append p []))
last_page (p ∷ q ∷ rest) zero r paged len some_item small = absurd (omega (arith, paged.0, length-append p (joined (q ∷ rest))))
last_page (p ∷ q ∷ rest) (suc k) r paged len some_item small =
    let after = last_page (q ∷ rest) k r paged.1 (omega (arith, paged.0, length-append p (joined (q ∷ rest)))) some_item small in
    (omega (arith, after.0), after.1)

-- the last page may grow
pub ArePages_grown : {X : Type 0} (ps : List (List X)) (k : ℕ) (piece : List X) → ArePages ps → length ps ≡ k + 1 → 0 < length piece → length piece ≤ 32
    → ArePages (set ps k piece)
ArePages_grown [] k piece paged last some_item fits = tt
ArePages_grown (p ∷ []) zero piece paged last some_item fits = (some_item, fits)
ArePages_grown (p ∷ []) (suc k) piece paged last some_item fits = absurd (omega arith)
ArePages_grown (p ∷ q ∷ rest) zero piece paged last some_item fits = absurd (omega arith)
ArePages_grown (p ∷ q ∷ rest) (suc zero) piece paged last some_item fits =
    (paged.0, ArePages_grown (q ∷ rest) zero piece paged.1 (omega arith) some_item fits)
ArePages_grown (p ∷ q ∷ rest) (suc (suc k)) piece paged last some_item fits =
    (paged.0, ArePages_grown (q ∷ rest) (suc k) piece paged.1 (omega arith) some_item fits)

-- and the list grows with it
pub joined_grown : {X : Type 0} (ps : List (List X)) (k : ℕ) (more : List X) → length ps ≡ k + 1
    → joined (set ps k (get_or ps k [] ++ more)) ≡ joined ps ++ more
joined_grown [] k more last = absurd (omega arith)
joined_grown (p ∷ []) zero more last = append-nil (p ++ more) ∙ ap (λ xs. xs ++ more) (sym (append-nil p))
joined_grown (p ∷ []) (suc k) more last = absurd (omega arith)
joined_grown (p ∷ q ∷ rest) zero more last = absurd (omega arith)
joined_grown (p ∷ q ∷ rest) (suc k) more last =
    ap (λ xs. p ++ xs) (joined_grown (q ∷ rest) k more (omega arith)) ∙ sym (append_assoc p (joined (q ∷ rest)) more)

-- how many pages there are
pub length-pages : {X : Type 0} (ps : List (List X)) → ArePages ps → length ps ≡ page_count (length (joined ps))
length-pages [] paged = refl
length-pages (p ∷ []) paged = omega (arith, paged, length-append p [])
length-pages (p ∷ q ∷ rest) paged = omega (arith, paged.0, length-append p (joined (q ∷ rest)), length-pages (q ∷ rest) paged.1)

-- a piece is cut from the whole at its place
pub piece_cut : {X : Type 0} (ps : List (List X)) (k : ℕ) → ArePages ps → take 32 (drop (32 * k) (joined ps)) ≡ get_or ps k []
piece_cut [] k paged = ap (take 32) (drop_all (32 * k) [] (omega arith))
piece_cut (p ∷ []) zero paged = ap (take 32) (append-nil p) ∙ take_all 32 p (omega (arith, paged.1))
piece_cut (p ∷ []) (suc k) paged = ap (take 32) (drop_all (32 * suc k) (p ++ []) (omega (arith, length-append p [], paged.1)))
piece_cut (p ∷ q ∷ rest) zero paged =
    take-append-le 32 p (joined (q ∷ rest)) (omega (arith, paged.0)) ∙ take_all 32 p (omega (arith, paged.0))
piece_cut (p ∷ q ∷ rest) (suc k) paged =
    ap (take 32) (
    ap (λ n. drop n (p ++ joined (q ∷ rest))) (let e : 32 * suc k ≡ 32 + 32 * k = omega arith in e)
    ∙ sym (drop-drop (32 * k) 32 (p ++ joined (q ∷ rest)))
    ∙ ap (drop (32 * k)) (drop_at p (joined (q ∷ rest)) 32 paged.0))
    ∙ piece_cut (q ∷ rest) k paged.1

-- what is dropped past the end is all
pub front_dropped : {X : Type 0} (base : List X) (start from : ℕ) → from ≡ min start (length base)
    → (length base < start) ⊎ (start ≤ length base) → drop from base ≡ drop start base
front_dropped base start from from_is (inl past) =
    drop_all from base (omega (arith, from_is, past)) ∙ sym (drop_all start base (omega (arith, past)))
front_dropped base start from from_is (inr within) =
    ap (λ n. drop n base) (let e : from ≡ start = omega (arith, from_is, within) in e)

-- the part of a base that a page takes, cut from the base at two places that are within it
pub part_is : {X : Type 0} (base : List X) (start from size : ℕ) → from ≡ min start (length base)
    → size ≡ min (length (take (length base - from) (drop from base))) 32
    → take size (take (length base - from) (drop from base)) ≡ take 32 (drop start base)
part_is base start from size from_is size_is =
    let left = length-drop from base in
    let rest : take (length base - from) (drop from base) ≡ drop from base = take_all (length base - from) (drop from base) (omega (arith, left)) in
    let few : size ≡ min 32 (length (drop from base)) = omega (arith, size_is, ap length rest) in
    ap (take size) rest ∙ ap (λ n. take n (drop from base)) few ∙ take_min 32 (drop from base) ∙ ap (take 32) (front_dropped base start from from_is (cases_lt (length base) start))

-- an item of a page over the base is an item of what is left of the base there
pub based_within : {X : Type 0} (base : List X) (start at : ℕ) → at < length (take 32 (drop start base))
    → at < length (take (length base - start) (drop start base))
based_within base start at there =
    omega (arith, there, length-take 32 (drop start base), length-take (length base - start) (drop start base), length-drop start base)

pub based_item : {X : Type 0} (base : List X) (start at : ℕ) (item : X) → at < length (take 32 (drop start base))
    → item ≡ get_or (take (length base - start) (drop start base)) at item → slice_get (take 32 (drop start base)) at ≡ Some item
based_item base start at item there is =
    let size = length-take 32 (drop start base) in
    let left = length-drop start base in
    slice_get-get_or (take 32 (drop start base)) at item there
    ∙ ap Some (
    get_or-take 32 (drop start base) at item (omega (arith, there, size))
    ∙ sym (get_or-take (length base - start) (drop start base) at item (omega (arith, there, size, left)))
    ∙ sym is)

-- item i is in page i / 32, at i % 32
pub halves : (i : ℕ) → 32 * (i / 32) + i % 32 ≡ i
halves i = omega arith

-- an item of a page that is cut from a list is an item of the list
pub cut_within : {X : Type 0} (xs : List X) (start at : ℕ) → at < length (take 32 (drop start xs)) → (at < 32) × (start + at < length xs)
cut_within xs start at there =
    let size = length-take 32 (drop start xs) in
    let left = length-drop start xs in
    (omega (arith, there, size, left), omega (arith, there, size, left))

pub cut_item : {X : Type 0} (xs : List X) (start at : ℕ) (item : X) → at < length (take 32 (drop start xs)) → slice_get xs (start + at) ≡ Some item
    → slice_get (take 32 (drop start xs)) at ≡ Some item
cut_item xs start at item there is =
    slice_get-get_or (take 32 (drop start xs)) at item there
    ∙ ap Some (
    get_or-take 32 (drop start xs) at item (cut_within xs start at there).0
    ∙ get_or-drop start xs at item
    ∙ get_or_from_slice_get xs (start + at) item item is)

-- ---- the pages of a table

module _ {T : Type 0} (base : List T) (table : List (Named T)) (paged : ArePages (named_pieces base table)) where
  tabled_is : (k : ℕ) (page : Named T) → k < length table → page ≡ get_or table k page → get_or (named_pieces base table) k [] ≡ named_items base page
  tabled_is k page there is = get_or-map (named_items base) table k page [] there ∙ ap (named_items base) (sym is)

  -- the page of an item is there
  pub tabled_there : (k at : ℕ) → at < 32 → 32 * k + at < length (joined (named_pieces base table)) → k < length table
  tabled_there k at small there =
      let found = place (named_pieces base table) k at paged small there in
      omega (arith, found.0, length-map table (named_items base))

  -- the place of the item is within it
  pub tabled_within : (k at : ℕ) (page : Named T) → at < 32 → 32 * k + at < length (joined (named_pieces base table)) → page ≡ get_or table k page → at < length (named_items base page)
  tabled_within k at page small there is =
      let found = place (named_pieces base table) k at paged small there in
      omega (arith, found.1, ap length (tabled_is k page (tabled_there k at small there) is))

  -- and there it stands
  pub tabled_item : (k at : ℕ) (page : Named T) (item : T) → at < 32 → 32 * k + at < length (joined (named_pieces base table)) → page ≡ get_or table k page
      → slice_get (named_items base page) at ≡ Some item → slice_get (joined (named_pieces base table)) (32 * k + at) ≡ Some item
  tabled_item k at page item small there page_here item_here =
      slice_get-get_or (joined (named_pieces base table)) (32 * k + at) item there
      ∙ ap Some (
      get_or-joined (named_pieces base table) k at item paged small there
      ∙ ap (λ items. get_or items at item) (tabled_is k page (tabled_there k at small there) page_here)
      ∙ get_or_from_slice_get (named_items base page) at item item item_here)

  -- page k is cut from the whole
  pub tabled_cut : (k : ℕ) (page : Named T) → k < length table → page ≡ get_or table k page → named_items base page ≡ take 32 (drop (32 * k) (joined (named_pieces base table)))
  tabled_cut k page there is = sym (piece_cut (named_pieces base table) k paged ∙ tabled_is k page there is)

  -- past the last page there is nothing
  pub tabled_past : (k : ℕ) → length table ≤ k → take 32 (drop (32 * k) (joined (named_pieces base table))) ≡ []
  tabled_past k past =
      piece_cut (named_pieces base table) k paged
      ∙ get_or_past (named_pieces base table) k [] (omega (arith, past, length-map table (named_items base)))

-- the page of item i is there
pub place_of : {T : Type 0} (base : List T) (pages : List (Page T)) (i : ℕ) → ArePages (pieces_of base pages) → i < length (joined (pieces_of base pages))
    → (i / 32 < length pages) × (i % 32 < length (get_or (pieces_of base pages) (i / 32) []))
place_of base pages i paged there =
    let found = place (pieces_of base pages) (i / 32) (i % 32) paged (omega arith) (omega arith) in
    (omega (arith, found.0, length-map pages (items_of base)), found.1)

-- and has the item
pub page_is : {T : Type 0} (base : List T) (pages : List (Page T)) (k : ℕ) (page : Page T) → k < length pages → page ≡ get_or pages k page
    → get_or (pieces_of base pages) k [] ≡ items_of base page
page_is base pages k page there is = get_or-map (items_of base) pages k page [] there ∙ ap (items_of base) (sym is)

-- the place of item i in its page is within the page
pub item_within : {T : Type 0} (base : List T) (pages : List (Page T)) (i : ℕ) (page : Page T) → ArePages (pieces_of base pages) → i < length (joined (pieces_of base pages))
    → page ≡ get_or pages (i / 32) page → i % 32 < length (items_of base page)
item_within base pages i page paged there is =
    let found = place_of base pages i paged there in
    omega (arith, found.1, ap length (page_is base pages (i / 32) page found.0 is))

-- and there stands item i
pub item_of : {T : Type 0} (base : List T) (pages : List (Page T)) (i : ℕ) (page : Page T) (item : T) → ArePages (pieces_of base pages) → i < length (joined (pieces_of base pages))
    → page ≡ get_or pages (i / 32) page → slice_get (items_of base page) (i % 32) ≡ Some item
    → slice_get (joined (pieces_of base pages)) i ≡ Some item
item_of base pages i page item paged there page_here item_here =
    let found = place_of base pages i paged there in
    slice_get-get_or (joined (pieces_of base pages)) i item there
    ∙ ap Some (
    ap (λ place. get_or (joined (pieces_of base pages)) place item) (sym (halves i))
    ∙ get_or-joined (pieces_of base pages) (i / 32) (i % 32) item paged (omega arith) (omega arith)
    ∙ ap (λ items. get_or items (i % 32) item) (page_is base pages (i / 32) page found.0 page_here)
    ∙ get_or_from_slice_get (items_of base page) (i % 32) item item item_here)

-- item i is written by writing it into its page
pub written : {T : Type 0} (base : List T) (pages : List (Page T)) (i : ℕ) (page after : Page T) (item : T) → ArePages (pieces_of base pages) → i < length (joined (pieces_of base pages))
    → page ≡ get_or pages (i / 32) page → items_of base after ≡ set (items_of base page) (i % 32) item
    → joined (pieces_of base (set pages (i / 32) after)) ≡ set (joined (pieces_of base pages)) i item
written base pages i page after item paged there page_here is =
    let found = place_of base pages i paged there in
    let piece = is ∙ ap (λ items. set items (i % 32) item) (sym (page_is base pages (i / 32) page found.0 page_here)) in
    ap joined (map-set (items_of base) pages (i / 32) after ∙ ap (λ items. set (pieces_of base pages) (i / 32) items) piece)
    ∙ set-joined (pieces_of base pages) (i / 32) (i % 32) item paged (omega arith) (omega arith)
    ∙ ap (λ place. set (joined (pieces_of base pages)) place item) (halves i)

-- a page may be replaced by one of as many items
pub paged_after : {T : Type 0} (base : List T) (pages : List (Page T)) (k : ℕ) (page after : Page T) → ArePages (pieces_of base pages) → k < length pages
    → page ≡ get_or pages k page → length (items_of base after) ≡ length (items_of base page)
    → ArePages (pieces_of base (set pages k after))
paged_after base pages k page after paged there page_here same =
    rw map-set (ArePages-set (pieces_of base pages) k (items_of base after) paged (same ∙ sym (ap length (page_is base pages k page there page_here))))

-- a page that is replaced by one of the same items changes nothing
pub pieces_stay : {T : Type 0} (base : List T) (pages : List (Page T)) (k : ℕ) (page after : Page T) → k < length pages → page ≡ get_or pages k page → items_of base after ≡ items_of base page
    → pieces_of base (set pages k after) ≡ pieces_of base pages
pieces_stay base pages k page after there page_here same =
    map-set (items_of base) pages k after
    ∙ ap (λ items. set (pieces_of base pages) k items) (same ∙ sym (page_is base pages k page there page_here))
    ∙ set-get_or (pieces_of base pages) k []

-- a page has at most 32 items
pub page_fits : {X : Type 0} (ps : List (List X)) (k : ℕ) → ArePages ps → length (get_or ps k []) ≤ 32
page_fits [] k paged = omega arith
page_fits (p ∷ []) zero paged = paged.1
page_fits (p ∷ []) (suc k) paged = omega arith
page_fits (p ∷ q ∷ rest) zero paged = omega (arith, paged.0)
page_fits (p ∷ q ∷ rest) (suc k) paged = page_fits (q ∷ rest) k paged.1

-- the page of a place has at most 32 items
pub page_small : {T : Type 0} (base : List T) (pages : List (Page T)) (k : ℕ) (page : Page T) → ArePages (pieces_of base pages) → k < length pages → page ≡ get_or pages k page
    → length (items_of base page) ≤ 32
page_small base pages k page paged there is = omega (arith, page_fits (pieces_of base pages) k paged, ap length (page_is base pages k page there is))

-- a new page after full ones
pub pushed : {T : Type 0} (base : List T) (pages : List (Page T)) (len : ℕ) (page : Page T) (item : T) → IsLaidOut (pieces_of base pages) len → len % 32 ≡ 0
    → items_of base page ≡ item ∷ []
    → ArePages (pieces_of base (pages ++ page ∷ [])) × (joined (pieces_of base (pages ++ page ∷ [])) ≡ joined (pieces_of base pages) ++ item ∷ [])
pushed {T = T} base pages len page item store full one =
    let same : pieces_of base (pages ++ page ∷ []) ≡ pieces_of base pages ++ (item ∷ []) ∷ [] =
    map-append (items_of base) pages (page ∷ []) ∙ ap (λ items. pieces_of base pages ++ items ∷ []) one in (
      rw same (ArePages-push (pieces_of base pages) (len / 32) (item ∷ []) store.paged (omega (arith, store.counted)) (omega arith) (omega arith)),
      rw same (flat_map-append (λ piece. piece) (pieces_of base pages) ((item ∷ []) ∷ [])),
    )

-- the last page, where it has room
pub last_is_there : {T : Type 0} (base : List T) (pages : List (Page T)) (len : ℕ) → IsLaidOut (pieces_of base pages) len → (len % 32 ≡ 0 → ⊥) → length pages ≡ len / 32 + 1
last_is_there base pages len store room =
    omega (arith, length-map pages (items_of base), (last_page (pieces_of base pages) (len / 32) (len % 32) store.paged (omega (arith, store.counted)) (omega (arith, room)) (omega arith)).0)

-- and an item more in it
pub grown : {T : Type 0} (base : List T) (pages : List (Page T)) (len : ℕ) (page after : Page T) (item : T) → IsLaidOut (pieces_of base pages) len → (len % 32 ≡ 0 → ⊥)
    → page ≡ get_or pages (len / 32) page → items_of base after ≡ items_of base page ++ item ∷ []
    → ArePages (pieces_of base (set pages (len / 32) after)) × (joined (pieces_of base (set pages (len / 32) after)) ≡ joined (pieces_of base pages) ++ item ∷ [])
grown base pages len page after item store room page_here is =
    let last = last_page (pieces_of base pages) (len / 32) (len % 32) store.paged (omega (arith, store.counted)) (omega (arith, room)) (omega arith) in
    let there : len / 32 < length pages = omega (arith, last_is_there base pages len store room) in
    let piece : items_of base after ≡ get_or (pieces_of base pages) (len / 32) [] ++ item ∷ [] =
    is ∙ ap (λ items. items ++ item ∷ []) (sym (page_is base pages (len / 32) page there page_here)) in
    let same : pieces_of base (set pages (len / 32) after) ≡ set (pieces_of base pages) (len / 32) (get_or (pieces_of base pages) (len / 32) [] ++ item ∷ []) =
    map-set (items_of base) pages (len / 32) after ∙ ap (λ items. set (pieces_of base pages) (len / 32) items) piece in
    let longer = length-append (get_or (pieces_of base pages) (len / 32) []) (item ∷ []) in (
      rw same (ArePages_grown (pieces_of base pages) (len / 32) (get_or (pieces_of base pages) (len / 32) [] ++ item ∷ []) store.paged last.0 (omega (arith, longer)) (omega (arith, longer, last.1))),
      rw same (joined_grown (pieces_of base pages) (len / 32) (item ∷ []) last.0),
    )

-- The pages over a list, one after the other: all pages so far are full, and the next one takes what comes next.
pub under_more : {T : Type 0} (under : List T) (pages : List (Page T)) (k : ℕ) → ArePages (pieces_of under pages)
    → joined (pieces_of under pages) ≡ take (32 * k) under → 32 * k < length under
    → ArePages (pieces_of under (pages ++ Under (32 * k) ∷ [])) × (joined (pieces_of under (pages ++ Under (32 * k) ∷ [])) ≡ take (32 * (k + 1)) under)
under_more under pages k paged so_far there =
    let piece : items_of under (Under (32 * k)) ≡ take 32 (drop (32 * k) under) =
    ap (λ n. take 32 (drop n under)) (let e : 32 * (32 * k / 32) ≡ 32 * k = omega arith in e) in
    let same : pieces_of under (pages ++ Under (32 * k) ∷ []) ≡ pieces_of under pages ++ take 32 (drop (32 * k) under) ∷ [] =
    map-append (items_of under) pages (Under (32 * k) ∷ []) ∙ ap (λ items. pieces_of under pages ++ items ∷ []) piece in
    let full : length (joined (pieces_of under pages)) ≡ 32 * k = omega (arith, ap length so_far, length-take (32 * k) under) in
    let size = length-take 32 (drop (32 * k) under) in
    let left = length-drop (32 * k) under in (
      rw same (ArePages-push (pieces_of under pages) k (take 32 (drop (32 * k) under)) paged full (omega (arith, size, left)) (omega (arith, size))),
      rw same (
          flat_map-append (λ piece. piece) (pieces_of under pages) (take 32 (drop (32 * k) under) ∷ [])
          ∙ ap (λ items. joined (pieces_of under pages) ++ items) (append-nil (take 32 (drop (32 * k) under)))
          ∙ ap (λ items. items ++ take 32 (drop (32 * k) under)) so_far
          ∙ sym (take-add (32 * k) 32 under)
          ∙ ap (λ n. take n under) (let e : 32 * k + 32 ≡ 32 * (k + 1) = omega arith in e)),
    )

-- one more page is named
pub named_more : {T : Type 0} (base under : List T) (named : List (Named T)) (pieces : List (List T)) (k : ℕ) (pages : List (Page T)) (page : Page T) (more : Named T)
    → named_pieces base named ≡ take k pieces → pieces_of under pages ≡ pieces → k < length pages → page ≡ get_or pages k page → named_items base more ≡ items_of under page
    → named_pieces base (named ++ more ∷ []) ≡ take (k + 1) pieces
named_more base under named pieces k pages page more so_far same there page_here is =
    let within : k < length pieces = omega (arith, ap length same, length-map pages (items_of under)) in
    map-append (named_items base) named (more ∷ [])
    ∙ ap (λ items. items ++ named_items base more ∷ []) so_far
    ∙ ap (λ items. take k pieces ++ items ∷ []) (is ∙ sym (page_is under pages k page there page_here) ∙ ap (λ items. get_or items k []) same)
    ∙ sym (take_more pieces k [] within)

-- a fact that holds at an error
pub on_err : {T E : Type 0} {P : Type 0} (r : Result T E) → P → OnErr r P
on_err (Ok x) holds = tt
on_err (Err e) holds = holds

-- ---- a store with pages, and one that has none yet

-- with pages that have all its items, a store has the items of the pages
pub seen-laid_out : {T : Type 0} (base : List T) (pages : List (Page T)) (len : ℕ) → length (joined (pieces_of base pages)) ≡ len → seen_in base pages len ≡ joined (pieces_of base pages)
seen-laid_out base [] len counted = rw (eq-eqb len 0 (sym counted)) refl
seen-laid_out base (page ∷ pages) len counted = refl

pub is-laid_out : {T : Type 0} (base : List T) (pages : List (Page T)) (len : ℕ) → ArePages (pieces_of base pages) → length (joined (pieces_of base pages)) ≡ len → IsStore base pages len
is-laid_out base pages len paged counted = record { paged = paged; counted = ap length (seen-laid_out base pages len counted) ∙ counted }

-- a store that has pages, or no items
pub laid_out : {T : Type 0} (base : List T) (pages : List (Page T)) (len : ℕ) → IsStore base pages len → (length pages ≡ 0 → len ≡ 0) → joined (pieces_of base pages) ≡ seen_in base pages len
laid_out base [] len store none = rw (eq-eqb len 0 (none refl)) refl
laid_out base (page ∷ pages) len store none = refl

-- a store without pages that has items has those of its base
pub seen-base : {T : Type 0} (base : List T) (pages : List (Page T)) (len : ℕ) → length pages ≡ 0 → len ≢ 0 → seen_in base pages len ≡ base
seen-base base [] len none more = rw (ne_eqb len 0 more) refl
seen-base base (page ∷ pages) len none more = absurd (omega (arith, none))

-- a store of a base alone
pub is-base : {T : Type 0} (base : List T) (pages : List (Page T)) (len : ℕ) → length pages ≡ 0 → length base ≡ len → (seen_in base pages len ≡ base) × IsStore base pages len
is-base [] [] len none counted = (rw (eq-eqb len 0 (sym counted)) refl, record { paged = tt; counted = rw (eq-eqb len 0 (sym counted)) counted })
is-base (x ∷ base) [] len none counted =
    let more : len ≢ 0 = omega (arith, counted) in
    (rw (ne_eqb len 0 more) refl, record { paged = tt; counted = rw (ne_eqb len 0 more) counted })
is-base base (page ∷ pages) len none counted = absurd (omega (arith, none))

-- ---- a store whose pages were written

module _ {T : Type 0} (base : List T) (before after : List (Page T)) (len : ℕ) (seen : List T) (laid : joined (pieces_of base before) ≡ seen) (counted : length seen ≡ len) (paged : ArePages (pieces_of base after)) where
  pub wrote : (i : ℕ) (item : T) → joined (pieces_of base after) ≡ set (joined (pieces_of base before)) i item → IsStore base after len × (seen_in base after len ≡ set seen i item)
  wrote i item is =
      let whole : joined (pieces_of base after) ≡ set seen i item = is ∙ ap (λ xs. set xs i item) laid in
      let long : length (joined (pieces_of base after)) ≡ len = ap length whole ∙ (length-set seen i item ∙ counted) in
      (is-laid_out base after len paged long, seen-laid_out base after len long ∙ whole)

  pub stayed : joined (pieces_of base after) ≡ joined (pieces_of base before) → IsStore base after len × (seen_in base after len ≡ seen)
  stayed is =
      let whole : joined (pieces_of base after) ≡ seen = is ∙ laid in
      let long : length (joined (pieces_of base after)) ≡ len = ap length whole ∙ counted in
      (is-laid_out base after len paged long, seen-laid_out base after len long ∙ whole)

  pub appended : (item : T) → joined (pieces_of base after) ≡ joined (pieces_of base before) ++ item ∷ [] → IsStore base after (len + 1) × (seen_in base after (len + 1) ≡ seen ++ item ∷ [])
  appended item is =
      let whole : joined (pieces_of base after) ≡ seen ++ item ∷ [] = is ∙ ap (λ xs. xs ++ item ∷ []) laid in
      let long : length (joined (pieces_of base after)) ≡ len + 1 = omega (arith, ap length whole, length-append seen (item ∷ []), counted) in
      (is-laid_out base after (len + 1) paged long, seen-laid_out base after (len + 1) long ∙ whole)

-- a store has no more pages than its items take
pub few_pages : {T : Type 0} (base : List T) (pages : List (Page T)) (len : ℕ) → IsStore base pages len → length pages ≤ page_count (length (seen_in base pages len))
few_pages base [] len store = omega arith
few_pages base (page ∷ pages) len store = omega (arith, length-pages (pieces_of base (page ∷ pages)) store.paged, length-map (page ∷ pages) (items_of base))

-- pages with the same items
pub seen-same : {T : Type 0} (base : List T) (pages other : List (Page T)) (len : ℕ) → pieces_of base other ≡ pieces_of base pages → seen_in base other len ≡ seen_in base pages len
seen-same base [] [] len same = refl
seen-same base [] (other ∷ others) len same = absurd cc
seen-same base (page ∷ pages) [] len same = absurd cc
seen-same base (page ∷ pages) (other ∷ others) len same = ap joined same

pub store-same : {T : Type 0} (base : List T) (pages other : List (Page T)) (len : ℕ) → pieces_of base other ≡ pieces_of base pages → IsStore base pages len → IsStore base other len
store-same base pages other len same store = record { paged = rw same store.paged; counted = ap length (seen-same base pages other len same) ∙ store.counted }

-- ---- tables that a list keeps, none or one

module _ {T A : Type 0} (items : A → List (Named T)) (base : List T) where
  pub none_under : (tables : List A) → length tables ≡ 0 → laid_under base (map items tables) ≡ base
  none_under [] none = refl
  none_under (table ∷ tables) none = absurd (omega (arith, none))

  pub none_tabled : (tables : List A) → length tables ≡ 0 → AreTabled base (map items tables)
  none_tabled [] none = tt
  none_tabled (table ∷ tables) none = absurd (omega (arith, none))

  pub one_under : (tables : List A) (table : A) → (length tables ≡ 0 → ⊥) → table ≡ get_or tables 0 table
      → laid_under base (map items tables) ≡ joined (named_pieces base (items table))
  one_under [] table some is = absurd (some refl)
  one_under (first ∷ tables) table some is = ap (λ t. joined (named_pieces base (items t))) (sym is)

  pub one_tabled : (tables : List A) (table : A) → (length tables ≡ 0 → ⊥) → table ≡ get_or tables 0 table
      → AreTabled base (map items tables) → ArePages (named_pieces base (items table))
  one_tabled [] table some is paged = absurd (some refl)
  one_tabled (first ∷ tables) table some is paged = subst (λ t. ArePages (named_pieces base (items t))) (sym is) paged

-- ---- a list whose pages were settled

-- it has the items of the table, and no pages
pub settled_whole : {T : Type 0} (before after : List T) (pages none : List (Page T)) (len : ℕ) → IsStore before pages len → (length pages ≡ 0 → ⊥)
    → after ≡ joined (pieces_of before pages) → none ≡ [] → (seen_in after none len ≡ seen_in before pages len) × IsStore after none len
settled_whole before after pages none len store some is empty =
    let whole : after ≡ seen_in before pages len = is ∙ laid_out before pages len store (λ no_pages. absurd (some no_pages)) in
    let both = is-base after none len (ap length empty) (ap length whole ∙ store.counted) in
    (both.0 ∙ whole, both.1)

-- a list over the same items
pub seen_over : {T : Type 0} (before after : List T) (pages other : List (Page T)) (len : ℕ) → after ≡ before → other ≡ pages → seen_in after other len ≡ seen_in before pages len
seen_over before after pages other len same alike = ap (λ xs. seen_in xs other len) same ∙ ap (λ xs. seen_in before xs len) alike

pub store_over : {T : Type 0} (before after : List T) (pages other : List (Page T)) (len : ℕ) → after ≡ before → other ≡ pages → IsStore before pages len → IsStore after other len
store_over before after pages other len same alike store = subst (λ xs. IsStore xs other len) (sym same) (subst (λ xs. IsStore before xs len) (sym alike) store)

-- a list that keeps one table
module _ {T A : Type 0} (items : A → List (Named T)) (base : List T) (tables : List A) (table : A) (is : tables ≡ table ∷ []) where
  pub single_under : laid_under base (map items tables) ≡ joined (named_pieces base (items table))
  single_under = ap (λ kept. laid_under base (map items kept)) is

  pub single_tabled : ArePages (named_pieces base (items table)) → AreTabled base (map items tables)
  single_tabled paged = subst (λ kept. AreTabled base (map items kept)) (sym is) paged
