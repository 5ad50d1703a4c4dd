-- The lines that a trace meets, and what a call answers that looks for one among them.
use Rattle.std.specs.Prelude.{◌≡◌, ℕ, ℤ, nat_lt, length, List, Result, Ok, Err, if◌then◌else◌}
use Rattle.game_trait.specs.declared.shown.Halt.TheVariants as halt
use Rattle.map_geometry.specs.declared.records.DivLine.{DivLine}
use Rattle.map_geometry.specs.Lists.{Lists}
use Rattle.map_geometry.specs.Sides.{plus}
use Rattle.block_walk.specs.declared.fault.TraceFault.{TraceFault}
use Rattle.block_walk.specs.declared.fault.TraceFault.TheVariants as fault
use Rattle.block_walk.specs.Traces.{intercepts_of, in_order, reached}
use Rattle.cow_world.specs.Outcome.{Outcome, goes, halts}

-- The lines that a trace from (x1, y1) to (x2, y2) meets, in the order of their fractions. One that meets more than 128
-- lines, those behind its end with them, halts.
unfoldable pub trace_of : Lists → (x1 y1 x2 y2 : ℤ) → Outcome (List (ℤ × ℕ))
trace_of level x1 y1 x2 y2 =
    if nat_lt 128 (length (intercepts_of level x1 y1 x2 y2)) then halts halt.Intercepts
    else goes (reached (in_order (intercepts_of level x1 y1 x2 y2)))

-- the same of a trace along a way
abbrev pub trace_along : Lists → DivLine → Outcome (List (ℤ × ℕ))
trace_along level way = trace_of level way.x way.y (plus way.x way.dx) (plus way.y way.dy)

-- A call's result is what a trace comes to: it left the lines that the trace meets where that goes on, and is a fault
-- where it halts. Of want of memory nothing is said.
abbrev pub Traces : {D A : Type 0} → Result D TraceFault → A → Outcome A → Type 0
Traces (Ok done) met outcome = outcome ≡ goes met
Traces (Err fault.Intercepts) met outcome = outcome ≡ halts halt.Intercepts
Traces (Err fault.Memory) met outcome = Unit {0}

-- the same of a call that answers what was found
abbrev pub Finds : {A : Type 0} → Result A TraceFault → Outcome A → Type 0
Finds (Ok answer) outcome = outcome ≡ goes answer
Finds (Err fault.Intercepts) outcome = outcome ≡ halts halt.Intercepts
Finds (Err fault.Memory) outcome = Unit {0}
