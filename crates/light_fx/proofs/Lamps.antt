-- A light adds no thinker, and the loops over lights.
use Rattle.std.proofs.Common.{◌≡◌, ℕ, suc, ◌+◌, ◌-◌, ◌<◌, Bool, length, length-set, refl, ◌∙◌, inl, inr, arith, ℤ, pos}
use Rattle.std.specs.Prelude.{fold}
use Rattle.std.specs.List.{range_with_len}
use Rattle.std.specs.Ordering.{int_eq}
use Rattle.std.proofs.lemmas.Bool.{cases_Bool}
use Rattle.map_geometry.specs.Sides.{less}
use Rattle.fixed_angle.specs.Tables.{Tables}
use Rattle.cow_world.specs.declared.kinds.GlowKind.{GlowKind}
use Rattle.cow_world.specs.declared.kinds.GlowKind.TheVariants.{Flash, Strobe, Flicker, Glow}
use Rattle.cow_world.specs.declared.records.Thinker.{Thinker}
use Rattle.cow_world.specs.declared.records.Thinker.TheVariants.{Light, Door, Lift, Floor, Ended}
use Rattle.cow_world.specs.Flat.{Gridded, parts, thinker_at}
use Rattle.cow_world.specs.Random.{draw}
use Rattle.light_fx.specs.declared.lamp.Lamp.{Lamp}
use Rattle.light_fx.specs.Lights.{lit, light_at, with_count, with_way, short_count, long_count, flicker_light, flicker_step, glow_light, is_glow_end, turned_round, counts_down, flash_turned, strobe_turned, flicker_turned, glow_moved, lamp_moved, light_moved, run_light_of, run_lights_of}
use Rattle.cow_world.specs.Fits.{KeepsFit}
use Rattle.cow_world.proofs.Keeps.{keeps_same, keeps_two}

abbrev count : Gridded → ℕ
count world = length (parts world).thinkers

with_same : (world : Gridded) (lamp : Lamp) (left : ℤ) → count (with_count world lamp left) ≡ count world
with_same world lamp left = length-set (parts world).thinkers lamp.place (Light lamp.sector lamp.kind lamp.min lamp.max left lamp.dark lamp.up)

way_same : (world : Gridded) (lamp : Lamp) (up : Bool) → count (with_way world lamp up) ≡ count world
way_same world lamp up = length-set (parts world).thinkers lamp.place (Light lamp.sector lamp.kind lamp.min lamp.max lamp.count lamp.dark up)

count-flash : (tables : Tables) (lamp : Lamp) (world : Gridded) → count (flash_turned tables lamp world) ≡ count world
count-flash tables lamp world =
    elim (cases_Bool (int_eq (light_at world lamp.sector) lamp.max)) [
      | inl e ↦ rw e (with_same (draw (lit world lamp.sector lamp.min)) lamp (short_count tables world))
      | inr e ↦ rw e (with_same (draw (lit world lamp.sector lamp.max)) lamp (long_count tables world))
    ]

count-strobe : (lamp : Lamp) (world : Gridded) → count (strobe_turned lamp world) ≡ count world
count-strobe lamp world =
    elim (cases_Bool (int_eq (light_at world lamp.sector) lamp.min)) [
      | inl e ↦ rw e (with_same (lit world lamp.sector lamp.max) lamp (pos 5))
      | inr e ↦ rw e (with_same (lit world lamp.sector lamp.min) lamp lamp.dark)
    ]

count-flicker : (tables : Tables) (lamp : Lamp) (world : Gridded) → count (flicker_turned tables lamp world) ≡ count world
count-flicker tables lamp world =
    with_same (lit (draw world) lamp.sector (flicker_light lamp.min lamp.max (light_at world lamp.sector) (flicker_step tables world))) lamp (pos 4)

count-glow : (lamp : Lamp) (world : Gridded) → count (glow_moved lamp world) ≡ count world
count-glow lamp world =
    elim (cases_Bool (is_glow_end lamp.up lamp (glow_light lamp.up (light_at world lamp.sector)))) [
      | inl e ↦ rw e (way_same world lamp (turned_round lamp.up))
      | inr e ↦ rw e refl
    ]

count-down : (lamp : Lamp) (turned : Gridded → Gridded) (world : Gridded) → count (turned world) ≡ count world → count (counts_down lamp turned world) ≡ count world
count-down lamp turned world same =
    elim (cases_Bool (int_eq (less lamp.count (pos 1)) (pos 0))) [
      | inl e ↦ rw e same
      | inr e ↦ rw e (with_same world lamp (less lamp.count (pos 1)))
    ]

count-lamp : (kind : GlowKind) (tables : Tables) (lamp : Lamp) (world : Gridded) → count (lamp_moved kind tables lamp world) ≡ count world
count-lamp Flash tables lamp world = count-down lamp (flash_turned tables lamp) world (count-flash tables lamp world)
count-lamp Strobe tables lamp world = count-down lamp (strobe_turned lamp) world (count-strobe lamp world)
count-lamp Flicker tables lamp world = count-down lamp (flicker_turned tables lamp) world (count-flicker tables lamp world)
count-lamp Glow tables lamp world = count-glow lamp world

count-light : (tables : Tables) (i : ℕ) (thinker : Thinker) (world : Gridded) → count (light_moved tables i thinker world) ≡ count world
count-light tables i (Light sector kind min max left dark up) world =
    count-lamp kind tables (record { place = i; sector = sector; kind = kind; min = min; max = max; count = left; dark = dark; up = up }) world
count-light tables i (Door sector kind phase top left) world = refl
count-light tables i (Lift sector kind phase stopped low high wait left) world = refl
count-light tables i (Floor sector kind dest) world = refl
count-light tables i Ended world = refl

-- there are as many thinkers after a light's tic as before
pub count_run : (tables : Tables) (i : ℕ) (world : Gridded) → length (parts (run_light_of tables i world)).thinkers ≡ length (parts world).thinkers
unfolding run_light_of
count_run tables i world = count-light tables i (thinker_at world i) world

-- ---- the lights one after the other

-- the lights from number i on, played from this world, give what all give from the first
pub record Played (tables : Tables) (first now : Gridded) (i : ℕ) : Type 0 where
  pub left : fold (λ so_far k. run_light_of tables k so_far) now (range_with_len i (length (parts first).thinkers - i)) ≡ run_lights_of tables first
  pub many : length (parts now).thinkers ≡ length (parts first).thinkers
  pub keeps : KeepsFit first now

pub played_first : (tables : Tables) (first : Gridded) → Played tables first first 0
unfolding run_lights_of
played_first tables first =
    let all : length (parts first).thinkers - 0 ≡ length (parts first).thinkers = omega arith in
    record { left = rw all refl; many = refl; keeps = keeps_same first }

pub played_next : (tables : Tables) (first now next : Gridded) (i : ℕ) → Played tables first now i → i < length (parts now).thinkers → next ≡ run_light_of tables i now → KeepsFit now next → Played tables first next (i + 1)
played_next tables first now next i played below is keeps =
    let more : length (parts first).thinkers - i ≡ suc (length (parts first).thinkers - (i + 1)) = omega (arith, played.many) in
    record {
      left = rw is (rw more at played.left);
      many = rw is (count_run tables i now ∙ played.many);
      keeps = keeps_two first now next played.keeps keeps;
    }

pub played_all : (tables : Tables) (first now : Gridded) (i : ℕ) → Played tables first now i → length (parts now).thinkers ≡ i → now ≡ run_lights_of tables first
played_all tables first now i played end =
    let none : length (parts first).thinkers - i ≡ 0 = omega (arith, played.many) in
    rw none at played.left
