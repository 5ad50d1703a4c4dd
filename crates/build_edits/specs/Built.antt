-- A build as it is seen, and what an edit of its tape makes of it.
use Rattle.std.specs.Prelude.{ℕ, length, Result, Ok, Err}
use Rattle.key_frames.specs.Frames.{frame_below}
use Rattle.build_edits.specs.Parts.{Parts}
use Rattle.build_edits.specs.Edits.{Outcome}
use Rattle.build_edits.specs.declared.fault.EditFault.{EditFault}

-- A game, a tape, and the tic of the last world that is kept. There is one for each 256th tic up to that one,
-- and each is the plain replay of the tics before it, so nothing else needs to be said of them.
pub record Built (G : Type 0) : Type 0 where
  pub game : G
  pub tape : Parts
  pub reach : ℕ

-- the tic at which the cursor stands
abbrev pub cursor_of : {G : Type 0} → Built G → ℕ
cursor_of build = length build.tape.before

-- the build with the tape that an edit comes to, and with worlds kept up to this tic
abbrev pub with_tape : {G : Type 0} → Built G → ℕ → Outcome → Result (Built G) EditFault
with_tape build reach (Ok tape) = Ok (record build { tape = tape; reach = reach })
with_tape build reach (Err fault) = Err fault

-- After a move of the cursor all worlds are kept.
abbrev pub after_seek : {G : Type 0} → Built G → Outcome → Result (Built G) EditFault
after_seek build outcome = with_tape build build.reach outcome

-- After an edit at the cursor the worlds past the cursor are gone.
abbrev pub after_edit : {G : Type 0} → Built G → Outcome → Result (Built G) EditFault
after_edit build outcome = with_tape build (frame_below build.reach (cursor_of build)) outcome
