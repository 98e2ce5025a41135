use Rattle.fuse_image.proofs.InMap.{read_backs_in_map, sets_stay, tables_stay}
use Rattle.fuse_image.proofs.laws.stay_in_map.Goals as goal

pub returns-clause-sets : goal.returns-clause-sets
returns-clause-sets c = sets_stay

pub returns-clause-tables : goal.returns-clause-tables
returns-clause-tables c = tables_stay

pub returns-clause-readbacks : goal.returns-clause-readbacks
returns-clause-readbacks c = read_backs_in_map
