-- What the functions that read by a keeper have in common.
use Rattle.std.specs.Prelude.{Result}
use Rattle.office_tables.specs.Tables.{Tables}
use Rattle.office_tables.specs.Keeping.{LooksUp}
use Rattle.office_tables.specs.declared.keep.Keep.{Ghosts}

-- An answer that says this of the tables, read by a keeper.
abbrev pub ReadsOnly : {K A E : Type 0} → Ghosts K → K → K → Result A E → (Tables → A → Type 0) → Type 0
ReadsOnly k old new result Says = LooksUp k.is_open k.is_honest k.may_leave k.tells_text k.tables k.commits old new result Says
