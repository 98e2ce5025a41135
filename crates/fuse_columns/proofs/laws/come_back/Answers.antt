use Rattle.fuse_columns.proofs.LawProofs.{plain_bits_come_back, bits_come_back, keys_come_back, image_comes_back, work_comes_back}
use Rattle.fuse_columns.proofs.laws.come_back.Goals as goal

pub returns-clause-plain : goal.returns-clause-plain
returns-clause-plain c = plain_bits_come_back

pub returns-clause-bits : goal.returns-clause-bits
returns-clause-bits c = bits_come_back

pub returns-clause-keys : goal.returns-clause-keys
returns-clause-keys c = keys_come_back

pub returns-clause-image : goal.returns-clause-image
returns-clause-image c = image_comes_back

pub returns-clause-work : goal.returns-clause-work
returns-clause-work c = work_comes_back
