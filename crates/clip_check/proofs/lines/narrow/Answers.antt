use Rattle.std.proofs.Common.{w32, FitsSigned, refl, rules}
use Rattle.std.proofs.lemmas.Int.{to_z-of_z}
use Rattle.clip_check.proofs.lines.narrow.Goals as goal

pub returns : goal.returns
returns c =
    let f = to_z-of_z w32 c.max-found.result (record { sfits = c.max-found.type_inv }) in
    let g = to_z-of_z w32 c.min-found.result (record { sfits = c.min-found.type_inv }) in
    let h = to_z-of_z w32 c.min-found-2.result (record { sfits = c.min-found-2.type_inv }) in
    let floor : FitsSigned w32 c.args.found.now.floor = search rules in
    let ceiling : FitsSigned w32 c.args.found.now.ceiling = search rules in
    let dropoff : FitsSigned w32 c.args.found.now.dropoff = search rules in
    let bottom : FitsSigned w32 c.args.gap.now.bottom = search rules in
    let top : FitsSigned w32 c.args.gap.now.top = search rules in
    let low : FitsSigned w32 c.args.gap.now.low = search rules in
    rw (
      f,
      g,
      h,
      c.max-found.ensures.value,
      c.min-found.ensures.value,
      c.min-found-2.ensures.value,
      to_z-of_z w32 c.args.found.now.floor floor,
      to_z-of_z w32 c.args.found.now.ceiling ceiling,
      to_z-of_z w32 c.args.found.now.dropoff dropoff,
      to_z-of_z w32 c.args.gap.now.bottom bottom,
      to_z-of_z w32 c.args.gap.now.top top,
      to_z-of_z w32 c.args.gap.now.low low,
    ) refl
