-- Fits that are kept by one write after another.
use Rattle.cow_world.specs.Flat.{Gridded}
use Rattle.cow_world.specs.Fits.{KeepsFit}

pub keeps_same : (world : Gridded) → KeepsFit world world
keeps_same world = record { level = λ level fits. fits; but = λ level tables place fits. fits; whole = λ level tables fits. fits }

pub keeps_two : (a b c : Gridded) → KeepsFit a b → KeepsFit b c → KeepsFit a c
keeps_two a b c first second = record {
  level = λ level fits. second.level level (first.level level fits);
  but = λ level tables place fits. second.but level tables place (first.but level tables place fits);
  whole = λ level tables fits. second.whole level tables (first.whole level tables fits);
}

pub keeps_three : (a b c d : Gridded) → KeepsFit a b → KeepsFit b c → KeepsFit c d → KeepsFit a d
keeps_three a b c d first second third = keeps_two a c d (keeps_two a b c first second) third
