-- What starting a level answers is a right answer.
use Rattle.std.proofs.Common.{◌≡◌, ℕ, List, None, Ok, Err, ap, ◌∙◌, sym}
use Rattle.fixed_angle.specs.Tables.{Tables}
use Rattle.map_geometry.specs.Lists.{Lists}
use Rattle.cow_world.specs.Flat.{Gridded}
use Rattle.level_start.specs.Start.{start_fault, start_of, Blames}
use Rattle.level_start.specs.declared.fault.StartFault.{StartFault}
use Rattle.level_start.specs.declared.fault.StartFault.TheVariants.{NoStart, Voodoo, ThingUnknown, Doom2Thing, Spitter, Memory}
use Rattle.dsda_cli.specs.Meaning.{started, begun}
use Rattle.dsda_cli.specs.Inside.{Gives, stop_of_start}
use Rattle.dsda_cli.specs.declared.product.Stop.{Stop}

module _ {X : Type 0} (view : X → Gridded) (level : Lists) (tables : Tables) (header : List ℕ) where
  stops_as : (fault : StartFault) → Blames (start_fault level tables header) fault → Gives view (Err (stop_of_start fault)) (begun level tables header)
  unfolding begun
  stops_as NoStart is = record { right = ap (λ first. started first (start_of level tables header)) is }
  stops_as Voodoo is = record { right = ap (λ first. started first (start_of level tables header)) is }
  stops_as (ThingUnknown i number) is = record { right = ap (λ first. started first (start_of level tables header)) is }
  stops_as (Doom2Thing i) is = record { right = ap (λ first. started first (start_of level tables header)) is }
  stops_as (Spitter i) is = record { right = ap (λ first. started first (start_of level tables header)) is }
  stops_as Memory is = record { right = tt }

  -- why a level can't be started, or want of memory, as an end of the work
  pub start_stops : (fault : StartFault) (stopped : Stop) → stopped ≡ stop_of_start fault → Blames (start_fault level tables header) fault → Gives view (Err stopped) (begun level tables header)
  start_stops fault stopped is blame = rw is (stops_as fault blame)

  -- what was started
  pub start_gives : (given : X) → start_fault level tables header ≡ None → view given ≡ start_of level tables header → Gives view (Ok given) (begun level tables header)
  unfolding begun
  start_gives given sound is = record { right = ap (λ first. started first (start_of level tables header)) sound ∙ ap Ok (sym is) }
