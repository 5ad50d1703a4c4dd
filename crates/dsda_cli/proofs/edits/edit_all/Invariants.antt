use Rattle.std.proofs.Common.{Bool, ◌≡◌, take, Ok}
use Rattle.lmp_codec.specs.Tics.{HoldsTurns}
use Rattle.build_script.specs.Script.{HoldsTics}
use Rattle.build_edits.specs.Parts.{all_tics}
use Rattle.dsda_cli.specs.Meaning.{edits_of}
use Rattle.dsda_cli.proofs.edits.edit_all.Given as goal

-- the commands so far came to this tape, and it has only tics that a demo holds if they and the first tape have
abbrev pub invariant-loop-place : goal.invariant-loop-place
invariant-loop-place l = record {
  same : edits_of (take l.place l.script) l.fn.tape ≡ Ok l.tape;
  turns : ((long : Bool) → HoldsTics long l.script → HoldsTurns long (all_tics l.fn.tape) → HoldsTurns long (all_tics l.tape));
}
