use Rattle.std.proofs.Common.{◌≡◌, ℕ, get_or, w32, FitsSigned, rules, Option, ℤ, None, Some, sym, ◌∙◌}
use Rattle.std.proofs.lemmas.Int.{to_z-of_z}
use Rattle.cow_world.specs.Around.{higher_across}
use Rattle.cow_world.proofs.Neighbours.{lesser_some, lesser_none}
use Rattle.cow_world.proofs.world.World.least_higher.Goals as goal
use Rattle.cow_world.proofs.world.World.least_higher.Goals.{in-Some, in_default}

pub loop-line-preserved : goal.loop-line-preserved
loop-line-preserved c =
    let of : ℕ → Option ℤ = higher_across c.args.level.now c.args.self.now c.args.sector c.args.own in
    let lines = c.sector_lines-line-items.result.now in
    let at = c.loop-line.line-index in
    let own = to_z-of_z w32 c.args.own c.ranges.own in
    elim c.match-higher_across.branch [
      | in-Some w ↦
          let fits : FitsSigned w32 w.in-Some.floor = search rules in
          let floor = to_z-of_z w32 w.in-Some.floor fits in
          let here : of (get_or lines at 0) ≡ Some w.in-Some.floor = sym (rw own at w.in-Some.ensures) in
          rw (w.least-is, w.left-is, w.lesser-least.ensures, own, floor) (lesser_some of lines at c.loop-line.left c.loop-line.least w.in-Some.floor c.loop-line-test.true here c.if-left-eq0.false ∙ (simp own at c.loop-line.invariant))
      | in_default w ↦
          let none = rw own at w.in_default.ensures in
          let here : of (get_or lines at 0) ≡ None = sym none in
          rw (w.least-is, w.left-is, own) (lesser_none of lines at c.loop-line.left c.loop-line.least c.loop-line-test.true here ∙ (simp own at c.loop-line.invariant))
    ]
