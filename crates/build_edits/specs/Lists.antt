-- Whole lists of edits, one after the other, with worlds shown between them.
use Rattle.std.specs.Prelude.{ℕ, ◌≡◌, ◌≢◌, List, [], ◌∷◌, Result, Err}
use Rattle.std.specs.Result.{result_unwrap_or}
use Rattle.lmp_codec.specs.declared.input.Tic.{Tic}
use Rattle.build_edits.specs.Parts.{Parts}
use Rattle.build_edits.specs.Edits.{Outcome, MayEdit, seek_outcome, put_outcome, insert_outcome, delete_outcome, cut_outcome, repeat_outcome, accept_outcome}
use Rattle.build_edits.specs.Built.{Built, after_seek, after_edit}
use Rattle.build_edits.specs.declared.fault.EditFault.{EditFault}
use Rattle.build_edits.specs.declared.fault.EditFault.TheVariants.{Memory}

-- an edit, as data
pub data Edit : Type 0 where
  Seek : ℕ → Edit
  Put : Tic → Edit
  Insert : Tic → Edit
  Delete : Edit
  Cut : Edit
  Repeat : ℕ → Edit
  Accept : List Tic → Edit

-- what an edit of a tape comes to
abbrev pub outcome_of : Edit → Parts → Outcome
outcome_of (Seek place) parts = seek_outcome place parts
outcome_of (Put tic) parts = put_outcome tic parts
outcome_of (Insert tic) parts = insert_outcome tic parts
outcome_of Delete parts = delete_outcome parts
outcome_of Cut parts = cut_outcome parts
outcome_of (Repeat count) parts = repeat_outcome count parts
outcome_of (Accept tics) parts = accept_outcome tics parts

-- what an edit of a build comes to
abbrev pub built_outcome : {G : Type 0} → Edit → Built G → Result (Built G) EditFault
built_outcome (Seek place) build = after_seek build (seek_outcome place build.tape)
built_outcome edit build = after_edit build (outcome_of edit build.tape)

-- a tape after these edits: a refused one leaves what stood
abbrev pub after_edits : List Edit → Parts → Parts
after_edits [] parts = parts
after_edits (edit ∷ edits) parts = after_edits edits (result_unwrap_or (outcome_of edit parts) parts)

-- No edit was made. A world may have been shown, and others kept.
abbrev pub Shown : {G : Type 0} → Built G → Built G → Type 0
Shown old new = new ≡ record old { reach = new.reach }

-- The call for this edit has answered, and not for want of memory.
abbrev pub Edited : {G : Type 0} → Edit → Built G → Built G → Type 0
Edited edit old new =
    (result : Result (Unit {0}) EditFault)
    × (result ≢ Err Memory)
    × MayEdit result old new (built_outcome edit old)

-- These edits were made, in order, and worlds were shown before, between and after them.
abbrev pub WentThrough : {G : Type 0} → List Edit → Built G → Built G → Type 0
WentThrough [] old new = Shown old new
WentThrough {G} (edit ∷ edits) old new =
    (shown edited : Built G) × Shown old shown × Edited edit shown edited × WentThrough edits edited new
