use Rattle.alike_files.proofs.AlikeTrees.{catalogues_alike, ids_alike}
use Rattle.alike_files.proofs.laws.law_alike_ids.Goals as goal

pub returns-clause-ids : goal.returns-clause-ids
returns-clause-ids c = ids_alike

pub returns-clause-rows : goal.returns-clause-rows
returns-clause-rows c = catalogues_alike
