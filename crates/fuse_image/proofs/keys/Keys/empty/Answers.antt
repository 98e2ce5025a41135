use Rattle.fuse_image.proofs.Tables.{table-none}
use Rattle.fuse_image.proofs.keys.Keys.empty.Goals as goal

pub returns : goal.returns
returns c = table-none
