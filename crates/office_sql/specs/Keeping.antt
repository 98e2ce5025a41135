-- When a connection is ready for a keeper.
use Rattle.std.specs.Prelude.{◌≡◌, false, IsTrue}
use Rattle.sqlite.specs.State.{State}
use Rattle.office_sql.specs.Tables.{IsOffice}

-- no transaction is under way, and an open connection has the tables of the office, as they were last committed
pub record IsReady (s : State) : Type 0 where
  pub mode : s.in_transaction ≡ false
  pub office : IsTrue s.is_open → IsOffice s.now
  pub shows_committed : IsTrue s.is_open → s.now ≡ s.committed
