-- Whether a line stops the player, by the line's flag.
use Rattle.std.proofs.Common.{◌≡◌, ℕ, true, false, subst}
use Rattle.std.specs.Prelude.{refl}
use Rattle.map_geometry.specs.declared.records.Line.{Line}
use Rattle.map_geometry.specs.Lists.{Lists, nth_line}
use Rattle.map_geometry.specs.Sectors.{has_flag}
use Rattle.cow_world.specs.declared.records.Thing.{Thing}
use Rattle.cow_world.specs.Flat.{Gridded}
use Rattle.cow_world.specs.Gaps.{gap_of}
use Rattle.slide_geom.specs.Stops.{is_narrow, is_in_front, stops}

module _ (level : Lists) (world : Gridded) (player : Thing) (number : ℕ) (line : Line) (is : line ≡ nth_line level number) where
  pub stops_by_gap : has_flag line 4 ≡ true → stops level world player number ≡ is_narrow player.z (gap_of level world number)
  stops_by_gap two =
      let P : Line → Type 0 = λ it. has_flag it 4 ≡ true in
      let here : has_flag (nth_line level number) 4 ≡ true = subst P is two in
      rw here refl

  pub stops_by_front : has_flag line 4 ≡ false → stops level world player number ≡ is_in_front player line
  stops_by_front one =
      let P : Line → Type 0 = λ it. has_flag it 4 ≡ false in
      let here : has_flag (nth_line level number) 4 ≡ false = subst P is one in
      rw (is, here) refl
