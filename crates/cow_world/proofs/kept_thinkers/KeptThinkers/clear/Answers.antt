use Rattle.std.proofs.Common.{arith}
use Rattle.cow_world.proofs.kept_thinkers.KeptThinkers.clear.Goals as goal

pub returns-clause-list : goal.returns-clause-list
returns-clause-list c = λ base. (
  c.clear.ensures.over base,
  rw (c.clear.ensures.seen base, c.clear-2.ensures.items) (record {
    rise = λ i j d before below. absurd (omega (arith, below));
    places = λ k d below. absurd (omega (arith, below));
    others = λ k d below. absurd (omega (arith, below));
    few = omega arith;
  }),
)
