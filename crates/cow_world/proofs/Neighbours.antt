-- What is gathered along lines is what is gathered among neighbours.
use Rattle.std.proofs.Common.{◌≡◌, ◌≢◌, ℕ, ◌+◌, ◌-◌, ◌<◌, length, sub-one, zero, suc, ℤ, List, [], ◌∷◌, take, drop, get_or, map, Option, Some, None, refl, ap, ◌∙◌, inl, inr}
use Rattle.std.specs.Prelude.{fold, filter, unwrap_or, int_lt}
use Rattle.std.specs.Option.{option_map_or}
use Rattle.std.specs.Int.{int_min}
use Rattle.std.specs.List.{filter_map}
use Rattle.std.proofs.lemmas.Bool.{cases_Bool}
use Rattle.std.proofs.lemmas.List.{drop_more}
use Rattle.map_geometry.specs.Lists.{Lists, nth_line}
use Rattle.map_geometry.specs.Sectors.{neighbour_across, lines_of}
use Rattle.cow_world.specs.Flat.{Gridded, sector_at}
use Rattle.cow_world.specs.Around.{lesser, least_of, higher_across, next_floor}

-- a fold over what some of a list have
pub fold_some : {X Y A : Type 0} (part : A → Y → A) (of : X → Option Y) (a : A) (xs : List X) → fold (λ so_far x. option_map_or (part so_far) (of x) so_far) a xs ≡ fold part a (filter_map of xs)
fold_some part of a [] = refl
fold_some part of a (x ∷ xs) = on_first (of x) refl (λ next. fold_some part of next xs)
  where
    on_first : (first : Option _) → of x ≡ first → ((next : _) → fold (λ so_far x. option_map_or (part so_far) (of x) so_far) next xs ≡ fold part next (filter_map of xs))
        → fold (λ so_far x. option_map_or (part so_far) (of x) so_far) a (x ∷ xs) ≡ fold part a (filter_map of (x ∷ xs))
    on_first None is rest = rw is (rest a)
    on_first (Some y) is rest = rw is (rest (part a y))

-- the least of a list, number by number
fold_lesser : (least : ℤ) (xs : List ℤ) → fold lesser (Some least) xs ≡ Some (fold int_min least xs)
fold_lesser least [] = refl
fold_lesser least (x ∷ xs) = fold_lesser (int_min least x) xs

least_is : (xs : List ℤ) → fold lesser None xs ≡ least_of xs
least_is [] = refl
least_is (x ∷ xs) = fold_lesser x xs

-- the higher floors, line by line
higher_are : (level : Lists) (world : Gridded) (sector : ℕ) (own : ℤ) (lines : List ℕ)
    → filter_map (higher_across level world sector own) lines ≡ filter (λ floor. int_lt own floor) (map (λ other. (sector_at world other).floor) (filter_map (λ i. neighbour_across sector (nth_line level i)) lines))
higher_are level world sector own [] = refl
higher_are level world sector own (line ∷ lines) = on_line (neighbour_across sector (nth_line level line)) refl (higher_are level world sector own lines)
  where
    on_line : (across : Option ℕ) → neighbour_across sector (nth_line level line) ≡ across
        → filter_map (higher_across level world sector own) lines ≡ filter (λ floor. int_lt own floor) (map (λ other. (sector_at world other).floor) (filter_map (λ i. neighbour_across sector (nth_line level i)) lines))
        → filter_map (higher_across level world sector own) (line ∷ lines) ≡ filter (λ floor. int_lt own floor) (map (λ other. (sector_at world other).floor) (filter_map (λ i. neighbour_across sector (nth_line level i)) (line ∷ lines)))
    on_line None is rest = rw is rest
    on_line (Some other) is rest = elim (cases_Bool (int_lt own (sector_at world other).floor)) [
      | inl higher ↦ rw (is, higher) (ap (λ xs. (sector_at world other).floor ∷ xs) rest)
      | inr lower ↦ rw (is, lower) rest
    ]

pub next_floor_is : (level : Lists) (world : Gridded) (sector : ℕ) (least : Option ℤ)
    → least ≡ fold lesser None (take 20 (filter_map (higher_across level world sector (sector_at world sector).floor) (lines_of level sector)))
    → unwrap_or least (sector_at world sector).floor ≡ next_floor level world sector
next_floor_is level world sector least is =
    ap (λ o. unwrap_or o (sector_at world sector).floor)
    (is ∙ (least_is (take 20 (filter_map (higher_across level world sector (sector_at world sector).floor) (lines_of level sector)))
    ∙ ap (λ xs. least_of (take 20 xs)) (higher_are level world sector (sector_at world sector).floor (lines_of level sector))))

-- one line more: its floor is higher, or is not
pub lesser_some : (of : ℕ → Option ℤ) (lines : List ℕ) (at left : ℕ) (least : Option ℤ) (floor : ℤ) → at < length lines → of (get_or lines at 0) ≡ Some floor → left ≢ 0
    → fold lesser (lesser least floor) (take (left - 1) (filter_map of (drop (at + 1) lines))) ≡ fold lesser least (take left (filter_map of (drop at lines)))
lesser_some of lines at zero least floor below is more = absurd (more refl)
lesser_some of lines at (suc left) least floor below is more = rw (drop_more lines at 0 below, is, sub-one) refl

pub lesser_none : (of : ℕ → Option ℤ) (lines : List ℕ) (at left : ℕ) (least : Option ℤ) → at < length lines → of (get_or lines at 0) ≡ None
    → fold lesser least (take left (filter_map of (drop (at + 1) lines))) ≡ fold lesser least (take left (filter_map of (drop at lines)))
lesser_none of lines at left least below is = rw (drop_more lines at 0 below, is) refl
