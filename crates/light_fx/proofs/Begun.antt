-- Lights and doors that begin in one sector after another.
use Rattle.std.proofs.Common.{◌≡◌, ℕ, suc, ◌+◌, ◌-◌, ◌<◌, ℤ, length, refl, arith}
use Rattle.std.specs.Prelude.{fold}
use Rattle.std.specs.List.{range_with_len}
use Rattle.fixed_angle.specs.Tables.{Tables}
use Rattle.map_geometry.specs.Lists.{Lists}
use Rattle.cow_world.specs.Flat.{Gridded}
use Rattle.cow_world.specs.Fits.{KeepsFit}
use Rattle.light_fx.specs.Begins.{begun_in, spawn_lights_of}
use Rattle.light_fx.specs.Lights.{lit}
use Rattle.light_fx.specs.LineLights.{greatest_so_far, turned_to_greatest}
use Rattle.cow_world.proofs.Keeps.{keeps_same, keeps_two}

-- what begins in the sectors from number i on gives what all gives from the first
pub record Begun (level : Lists) (tables : Tables) (first now : Gridded) (i : ℕ) : Type 0 where
  pub left : fold (begun_in level tables) now (range_with_len i (length level.sectors - i)) ≡ spawn_lights_of level tables first
  pub keeps : KeepsFit first now

pub begun_first : (level : Lists) (tables : Tables) (first : Gridded) → Begun level tables first first 0
unfolding spawn_lights_of
begun_first level tables first =
    let all : length level.sectors - 0 ≡ length level.sectors = omega arith in
    record { left = rw all refl; keeps = keeps_same first }

pub begun_next : (level : Lists) (tables : Tables) (first now next : Gridded) (i : ℕ) → Begun level tables first now i → i < length level.sectors → next ≡ begun_in level tables now i → KeepsFit now next → Begun level tables first next (i + 1)
begun_next level tables first now next i begun below is keeps =
    let more : length level.sectors - i ≡ suc (length level.sectors - (i + 1)) = omega arith in
    record { left = rw is (rw more at begun.left); keeps = keeps_two first now next begun.keeps keeps }

pub begun_all : (level : Lists) (tables : Tables) (first now : Gridded) (i : ℕ) → Begun level tables first now i → length level.sectors ≡ i → now ≡ spawn_lights_of level tables first
begun_all level tables first now i begun end =
    let none : length level.sectors - i ≡ 0 = omega arith in
    rw none at begun.left

-- the greatest light so far goes on with the world that has it
pub greatest_next : (level : Lists) (world next : Gridded) (greatest light : ℤ) (number : ℕ) → light ≡ greatest_so_far level world greatest number → next ≡ lit world number light → (next, light) ≡ turned_to_greatest level (world, greatest) number
greatest_next level world next greatest light number is next-is = rw next-is (rw is refl)
