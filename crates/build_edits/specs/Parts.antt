-- What a tape is seen as. This file names no type of the crate.
use Rattle.std.specs.Prelude.{ℕ, ◌++◌, List, take, drop}
use Rattle.lmp_codec.specs.declared.input.Tic.{Tic}

-- two lists of tics: those before the cursor, and those from it on
pub record Parts : Type 0 where
  pub before : List Tic
  pub after : List Tic

-- all the tics, in order
abbrev pub all_tics : Parts → List Tic
all_tics parts = parts.before ++ parts.after

-- a list of tics, with the cursor at a place of it
abbrev pub parts_at : List Tic → ℕ → Parts
parts_at tics place = record { before = take place tics; after = drop place tics }
