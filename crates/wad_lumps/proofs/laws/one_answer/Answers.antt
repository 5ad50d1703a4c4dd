use Rattle.fixed_angle.proofs.Order.{one_outcome}
use Rattle.wad_lumps.specs.Directory.{file_conditions}
use Rattle.wad_lumps.specs.Map.{map_conditions}
use Rattle.wad_lumps.proofs.Labels.{one_map}
use Rattle.wad_lumps.proofs.laws.one_answer.Goals as goal

pub returns-clause-file : goal.returns-clause-file
returns-clause-file c = λ w a b p q. one_outcome (file_conditions w) a b p q

pub returns-clause-fault : goal.returns-clause-fault
returns-clause-fault c = λ w episode map a b p q. one_outcome (map_conditions w episode map) a b p q

pub returns-clause-found : goal.returns-clause-found
returns-clause-found c = λ w episode map a b p q. one_map w episode map a b p q
