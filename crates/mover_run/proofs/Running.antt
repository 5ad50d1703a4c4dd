-- The thinkers of a world, from the first on.
use Rattle.std.proofs.Common.{◌≡◌, ℕ, ◌-◌, length, refl, ap, arith}
use Rattle.std.specs.List.{range_with_len}
use Rattle.fixed_angle.specs.Tables.{Tables}
use Rattle.map_geometry.specs.Lists.{Lists}
use Rattle.cow_world.specs.declared.records.Thinker.{Thinker}
use Rattle.cow_world.specs.declared.records.Thinker.TheVariants.{Ended}
use Rattle.cow_world.specs.Flat.{Gridded, parts, thinker_at}
use Rattle.cow_world.specs.Outcome.{each_from, goes}
use Rattle.mover_run.specs.Runs.{run_by, run_thinker_of, run_thinkers_of}

pub runs_first : (level : Lists) (tables : Tables) (world : Gridded) → each_from (run_thinker_of level tables) world (range_with_len 0 (length (parts world).thinkers - 0)) ≡ run_thinkers_of level tables world
unfolding run_thinkers_of
runs_first level tables world =
    let all : length (parts world).thinkers - 0 ≡ length (parts world).thinkers = omega arith in
    rw all refl

-- one that has ended does nothing
pub runs_idle : (level : Lists) (tables : Tables) (world : Gridded) (i : ℕ) → thinker_at world i ≡ Ended → run_thinker_of level tables i world ≡ goes world
runs_idle level tables world i ended = ap (λ (thinker : Thinker). run_by thinker level tables i world) ended
