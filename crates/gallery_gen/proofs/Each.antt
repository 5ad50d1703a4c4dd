-- One number more, and what it gives.
use Rattle.std.proofs.Common.{◌≡◌, ℕ, ◌+◌, suc, ◌-◌, ◌<◌, List, [], ◌∷◌, ◌++◌, length, drop, get_or, map, refl, sym, ap, ◌∙◌, append_assoc, arith}
use Rattle.std.proofs.Math.Seq.{drop-cons}
use Rattle.gallery_gen.specs.declared.plan.Room.{Room}
use Rattle.gallery_gen.specs.Draws.{next_state, drawn, draws, state_after}
use Rattle.gallery_gen.specs.Lumps.{sector, sectors_from}
use Rattle.std.specs.List.{flat_map, range_with_len}
use Rattle.std.proofs.lemmas.List.{flat_map_more}
use Rattle.std.proofs.lemmas.List.Concat.{flat_map_single}
use Rattle.std.proofs.lemmas.List.FromFn.{map-range_with_len_more}

same_map : {A : Type 0} (xs : List A) → map (λ x. x) xs ≡ xs
same_map [] = refl
same_map (x ∷ xs) = ap (λ rest. x ∷ rest) (same_map xs)

-- the numbers up to one, and that one
pub range_more : (i : ℕ) → range_with_len 0 (i + 1) ≡ range_with_len 0 i ++ i ∷ []
range_more i =
    sym (same_map (range_with_len 0 (i + 1))) ∙ (map-range_with_len_more (λ k. k) 0 i i (omega arith) ∙ ap (λ xs. xs ++ i ∷ []) (same_map (range_with_len 0 i)))

-- what they give
pub each_more : {A : Type 0} (f : ℕ → List A) (before : List A) (i : ℕ) → (before ++ flat_map f (range_with_len 0 i)) ++ f i ≡ before ++ flat_map f (range_with_len 0 (i + 1))
each_more f before i = flat_map_more f before (range_with_len 0 i) i ∙ ap (λ xs. before ++ flat_map f xs) (sym (range_more i))

pub each_first : {A : Type 0} (f : ℕ → List A) (i : ℕ) → flat_map f (range_with_len 0 i) ++ f i ≡ flat_map f (range_with_len 0 (i + 1))
each_first f i = each_more f [] i

-- ---- sectors

abbrev pub no_room : Room
no_room = record { floor = 0; light = 0; special = 0 }

-- the sector of the next room, and those behind it
pub sectors_next : (rooms : List Room) (i : ℕ) → i < length rooms → sectors_from i (drop i rooms) ≡ sector i (get_or rooms i no_room) ++ sectors_from (i + 1) (drop (i + 1) rooms)
sectors_next rooms i below =
    let next : suc i ≡ i + 1 = omega arith in
    ap (sectors_from i) (drop-cons rooms i no_room below)
    ∙ ap (λ n. sector i (get_or rooms i no_room) ++ sectors_from (i + 1) (drop n rooms)) next
