-- What a crash may leave of files is what the store that had them could leave.
use Rattle.std.proofs.Common.{◌≡◌, IsTrue}
use Rattle.sqlite.specs.View.{doubt}
use Rattle.sqlite.specs.WalReads.{AreClean}
use Rattle.sqlite_disk.specs.declared.Disk.{Ghosts}
use Rattle.sqlite_pool.specs.Pool.{files, state}
use Rattle.sqlite_pool.specs.declared.pool.Pool.{Pool}
use Rattle.sqlite_trees.proofs.Doubt.{no_doubt}

module _ {D : Type 0} {g : Ghosts D} (it : Pool D g) (clean : AreClean g (files it).0 (files it).1) where
  pub is_sure : IsTrue (state it).is_clean
  unfolding state files
  is_sure = clean

  pub is_clean : doubt (state it).is_clean ≡ 0
  unfolding state files
  is_clean = no_doubt (state it).is_clean clean
