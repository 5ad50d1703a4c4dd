-- What an open search keeps.
use Rattle.std.proofs.Common.{◌≡◌, ℕ, suc, ◌+◌, Bool, true, false, List, [], ◌∷◌, length, refl, ap, ◌∙◌, if◌then◌else◌}
use Rattle.std.specs.Prelude.{All}
use Rattle.std.proofs.lemmas.List.Elements.{All-nil, All-cons, All-head, All-tail}
use Rattle.brute_ranges.specs.declared.ranges.Range.{Range}
use Rattle.brute_ranges.specs.declared.ranges.TicRanges.{TicRanges}
use Rattle.brute_ranges.specs.Tics.{IsSound}
use Rattle.brute_ranges.specs.Space.{ranges_with}
use Rattle.brute_targets.specs.declared.want.Want.{Want}
use Rattle.build_script.specs.declared.names.Axis.{Axis}
use Rattle.build_script.specs.declared.names.Axis.TheVariants.{Forward, Side, Turn, Using}
use Rattle.build_script.specs.declared.search.Chosen.{Chosen}
use Rattle.build_script.specs.Opened.{IsOpened}
use Rattle.build_script.specs.Searches.{is_chosen, with_range, narrowed_one, narrowed_from, narrowed, IsRangeOn}

length-narrowed_from : (number : ℕ) (tics : Chosen) (axis : Axis) (range : Range) (all : List TicRanges) → length (narrowed_from number tics axis range all) ≡ length all
length-narrowed_from number tics axis range [] = refl
length-narrowed_from number tics axis range (ranges ∷ rest) = ap suc (length-narrowed_from (number + 1) tics axis range rest)

with_range_sound : (long : Bool) (axis : Axis) (range : Range) (ranges : TicRanges) → IsRangeOn long axis range → IsSound long ranges → IsSound long (with_range axis range ranges)
with_range_sound long Forward range ranges one all = record {
  bounds = record { forward = one.bounds; side = all.bounds.side; turn = all.bounds.turn; turns = all.bounds.turns; using = all.bounds.using };
  filled = record { forward = one.filled; side = all.filled.side; turn = all.filled.turn; using = all.filled.using };
}
with_range_sound long Side range ranges one all = record {
  bounds = record { forward = all.bounds.forward; side = one.bounds; turn = all.bounds.turn; turns = all.bounds.turns; using = all.bounds.using };
  filled = record { forward = all.filled.forward; side = one.filled; turn = all.filled.turn; using = all.filled.using };
}
with_range_sound long Turn range ranges one all = record {
  bounds = record { forward = all.bounds.forward; side = all.bounds.side; turn = one.bounds; turns = one.few; using = all.bounds.using };
  filled = record { forward = all.filled.forward; side = all.filled.side; turn = one.filled; using = all.filled.using };
}
with_range_sound long Using range ranges one all = record {
  bounds = record { forward = all.bounds.forward; side = all.bounds.side; turn = all.bounds.turn; turns = all.bounds.turns; using = one.bounds };
  filled = record { forward = all.filled.forward; side = all.filled.side; turn = all.filled.turn; using = one.filled };
}

either_sound : (long test : Bool) (axis : Axis) (range : Range) (ranges : TicRanges) → IsRangeOn long axis range → IsSound long ranges → IsSound long (if test then with_range axis range ranges else ranges)
either_sound long true axis range ranges one all = with_range_sound long axis range ranges one all
either_sound long false axis range ranges one all = all

narrowed_sound : (long : Bool) (number : ℕ) (tics : Chosen) (axis : Axis) (range : Range) (all : List TicRanges) → IsRangeOn long axis range
    → All (IsSound long) all → All (IsSound long) (narrowed_from number tics axis range all)
narrowed_sound long number tics axis range [] one each = All-nil (IsSound long)
narrowed_sound long number tics axis range (ranges ∷ rest) one each =
    All-cons (IsSound long) (narrowed_one number tics axis range ranges) (narrowed_from (number + 1) tics axis range rest)
    (either_sound long (is_chosen tics number) axis range ranges one (All-head (IsSound long) ranges rest each))
    (narrowed_sound long (number + 1) tics axis range rest one (All-tail (IsSound long) ranges rest each))

-- a search whose chosen tics have another range may be one as before
pub narrowed_opened : (line : ℕ) (long : Bool) (wants : List Want) (tics : Chosen) (axis : Axis) (range : Range) (all new : List TicRanges) → new ≡ narrowed tics axis range all → IsRangeOn long axis range
    → IsOpened (record { line = line; ranges = ranges_with all long; wants = wants }) → IsOpened (record { line = line; ranges = ranges_with new long; wants = wants })
narrowed_opened line long wants tics axis range all new is one good =
    let long_as : length new ≡ length all = ap length is ∙ length-narrowed_from 1 tics axis range all in
    record {
      deep = rw long_as good.deep;
      each = rw is (narrowed_sound long 1 tics axis range all one good.each);
      few = good.few;
    }
