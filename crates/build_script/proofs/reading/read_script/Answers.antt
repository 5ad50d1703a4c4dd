use Rattle.std.proofs.Common.{◌≡◌, ◌+◌, ◌∷◌, Ok, arith}
use Rattle.std.specs.List.{enumerate_from}
use Rattle.build_script.specs.Script.{script_of, script_from, reading}
use Rattle.build_script.proofs.ScriptLemmas.{stopped}
use Rattle.build_script.proofs.reading.read_script.Goals as goal

pub returns-in_err-search-clause-script : goal.returns-in_err-search-clause-script
returns-in_err-search-clause-script c =
    let count : c.in_ok-number.number ≡ c.loop-line.number + 1 = grind (arith, c.in_ok-number.ensures.value, c.checked_add.ensures) in
    let before : script_from c.args.worlds c.args.long (Ok (reading c.loop-line.search c.loop-line.entries.items)) (enumerate_from c.in_ok-number.number (c.in-Some.line.now ∷ c.next.new.self)) ≡ script_of c.args.worlds c.args.long c.args.bytes.now
    = rw count (rw c.in-Some.ensures.steps at c.loop-line.invariant.same) in
    stopped c.args.worlds c.args.long (reading c.loop-line.search c.loop-line.entries.items) (c.in_ok-number.number, c.in-Some.line.now) (enumerate_from (c.in_ok-number.number + 1) c.next.new.self)
    c.read_line.new.entries.items (script_of c.args.worlds c.args.long c.args.bytes.now) c.in_err-search.field-0.0 c.from_residual-in_err-search.result before c.in_err-search.ensures.read c.from_residual-in_err-search.ensures.1
