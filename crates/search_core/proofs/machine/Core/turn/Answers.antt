-- Each arm makes the machine that the table's row makes, and a row keeps what is claimed.
use Rattle.search_core.specs.contracts.machine.Core.{the_view}
use Rattle.search_core.proofs.Steps.{claims, looks, posts}
use Rattle.search_core.proofs.machine.Core.turn.Goals as goal

pub invariant_of-self : goal.invariant_of-self
invariant_of-self c = (claims c.args.self.now (the_view c.self.inside) c.args.hand c.index.result.now c.index_mut.result.now c.told.new.self c.self.view_is c.self.invariant c.requires c.index.ensures c.in-Claim.ensures.phase c.index_mut.ensures.value c.told.ensures.told).sound

pub invariant_of-self-in-Post : goal.invariant_of-self-in-Post
invariant_of-self-in-Post c = (posts c.args.self.now (the_view c.self.inside) c.args.hand c.in-Post.number c.min-self-inside.result c.index.result.now c.index_mut-in-Post.result.now c.told-in-Post.new.self c.self.view_is c.self.invariant c.requires c.index.ensures c.in-Post.ensures.phase c.index_mut-in-Post.ensures.value c.told-in-Post.ensures.told c.min-self-inside.ensures).sound

pub returns-in-Claim-clause-sound : goal.returns-in-Claim-clause-sound
returns-in-Claim-clause-sound c = (claims c.args.self.now (the_view c.self.inside) c.args.hand c.index.result.now c.index_mut.result.now c.told.new.self c.self.view_is c.self.invariant c.requires c.index.ensures c.in-Claim.ensures.phase c.index_mut.ensures.value c.told.ensures.told).sound

pub returns-in-Claim-clause-fits : goal.returns-in-Claim-clause-fits
returns-in-Claim-clause-fits c = (claims c.args.self.now (the_view c.self.inside) c.args.hand c.index.result.now c.index_mut.result.now c.told.new.self c.self.view_is c.self.invariant c.requires c.index.ensures c.in-Claim.ensures.phase c.index_mut.ensures.value c.told.ensures.told).fits

pub returns-in-Claim-clause-covers : goal.returns-in-Claim-clause-covers
returns-in-Claim-clause-covers c = (claims c.args.self.now (the_view c.self.inside) c.args.hand c.index.result.now c.index_mut.result.now c.told.new.self c.self.view_is c.self.invariant c.requires c.index.ensures c.in-Claim.ensures.phase c.index_mut.ensures.value c.told.ensures.told).covers

pub returns-in-Look-clause-fits : goal.returns-in-Look-clause-fits
returns-in-Look-clause-fits c = (looks c.args.self.now (the_view c.self.inside) c.args.hand c.in-Look.ensures.phase.0 c.index.result.now c.index_mut-in-Look.result.now c.told-in-Look.new.self c.self.view_is c.self.invariant c.requires c.index.ensures c.in-Look.ensures.phase.1 c.index_mut-in-Look.ensures.value c.told-in-Look.ensures.told).fits

pub returns-in-Look-clause-covers : goal.returns-in-Look-clause-covers
returns-in-Look-clause-covers c = (looks c.args.self.now (the_view c.self.inside) c.args.hand c.in-Look.ensures.phase.0 c.index.result.now c.index_mut-in-Look.result.now c.told-in-Look.new.self c.self.view_is c.self.invariant c.requires c.index.ensures c.in-Look.ensures.phase.1 c.index_mut-in-Look.ensures.value c.told-in-Look.ensures.told).covers

pub returns-in-Post-clause-sound : goal.returns-in-Post-clause-sound
returns-in-Post-clause-sound c = (posts c.args.self.now (the_view c.self.inside) c.args.hand c.in-Post.number c.min-self-inside.result c.index.result.now c.index_mut-in-Post.result.now c.told-in-Post.new.self c.self.view_is c.self.invariant c.requires c.index.ensures c.in-Post.ensures.phase c.index_mut-in-Post.ensures.value c.told-in-Post.ensures.told c.min-self-inside.ensures).sound

pub returns-in-Post-clause-fits : goal.returns-in-Post-clause-fits
returns-in-Post-clause-fits c = (posts c.args.self.now (the_view c.self.inside) c.args.hand c.in-Post.number c.min-self-inside.result c.index.result.now c.index_mut-in-Post.result.now c.told-in-Post.new.self c.self.view_is c.self.invariant c.requires c.index.ensures c.in-Post.ensures.phase c.index_mut-in-Post.ensures.value c.told-in-Post.ensures.told c.min-self-inside.ensures).fits

pub returns-in-Post-clause-covers : goal.returns-in-Post-clause-covers
returns-in-Post-clause-covers c = (posts c.args.self.now (the_view c.self.inside) c.args.hand c.in-Post.number c.min-self-inside.result c.index.result.now c.index_mut-in-Post.result.now c.told-in-Post.new.self c.self.view_is c.self.invariant c.requires c.index.ensures c.in-Post.ensures.phase c.index_mut-in-Post.ensures.value c.told-in-Post.ensures.told c.min-self-inside.ensures).covers
