use Rattle.map_geometry.specs.Level.{lists_of}
use Rattle.map_geometry.proofs.Told.{in_order}
use Rattle.map_geometry.proofs.level.Level.know.Goals as goal

pub invariant_of-self : goal.invariant_of-self
invariant_of-self c = record {
  parts = c.self.invariant.parts;
  known = in_order (lists_of c.self.inside.parts) c.args.self.now c.args.known.items c.sort_unstable_by_key.new.self.items c.self.view_is c.sort_unstable_by_key.ensures.permutation c.requires;
}
