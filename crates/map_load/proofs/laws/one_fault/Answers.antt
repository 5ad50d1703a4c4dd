use Rattle.fixed_angle.proofs.Order.{one_outcome}
use Rattle.map_load.specs.Load.{level_conditions}
use Rattle.map_load.proofs.laws.one_fault.Goals as goal

pub returns : goal.returns
returns c = λ w spans other_form episode_form a b p q. one_outcome (level_conditions w spans other_form episode_form) a b p q
