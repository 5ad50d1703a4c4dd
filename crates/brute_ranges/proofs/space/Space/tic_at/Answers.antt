use Rattle.std.proofs.Common.{◌∙◌}
use native.Mathlib.Nat.{mod-lt}
use Rattle.brute_ranges.proofs.Sequences.{wheel_facts, tic_is}
use Rattle.brute_ranges.proofs.space.Space.tic_at.Goals as goal

pub nonzero_div-k : goal.nonzero_div-k
nonzero_div-k c =
    (wheel_facts c.self.inside.long c.args.self.now c.self.inside.wheels.items c.self.inside.count c.args.i c.index.result.now c.self.view_is c.self.invariant.0 c.self.invariant.1 c.requires.place c.index.ensures).later

pub nonzero_rem-k : goal.nonzero_rem-k
nonzero_rem-k c =
    (wheel_facts c.self.inside.long c.args.self.now c.self.inside.wheels.items c.self.inside.count c.args.i c.index.result.now c.self.view_is c.self.invariant.0 c.self.invariant.1 c.requires.place c.index.ensures).some_tic

pub tic_numbered-requires-clause-sound : goal.tic_numbered-requires-clause-sound
tic_numbered-requires-clause-sound c =
    (wheel_facts c.self.inside.long c.args.self.now c.self.inside.wheels.items c.self.inside.count c.args.i c.index.result.now c.self.view_is c.self.invariant.0 c.self.invariant.1 c.requires.place c.index.ensures).sound

pub tic_numbered-requires-clause-place : goal.tic_numbered-requires-clause-place
tic_numbered-requires-clause-place c =
    let facts = wheel_facts c.self.inside.long c.args.self.now c.self.inside.wheels.items c.self.inside.count c.args.i c.index.result.now c.self.view_is c.self.invariant.0 c.self.invariant.1 c.requires.place c.index.ensures in
    rw (← facts.tics) (mod-lt _ facts.some_tic)

pub returns : goal.returns
returns c =
    record {
      tic = tic_is c.self.inside.long c.args.self.now c.self.inside.wheels.items c.self.inside.count c.args.i c.args.k c.index.result.now c.self.view_is c.self.invariant.0 c.self.invariant.1 c.requires.place c.index.ensures c.requires.number
          ∙ c.tic_numbered.ensures;
    }
