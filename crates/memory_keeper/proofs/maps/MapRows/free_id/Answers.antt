use Rattle.std.proofs.Common.{◌∙◌, ap, sym}
use Rattle.office_tables.specs.Prelude.{one_more}
use Rattle.office_tables.specs.declared.rows.MapRow.{MapRow}
use Rattle.memory_keeper.proofs.Greatest.{IfSome-one_more, no_rows}
use Rattle.memory_keeper.proofs.MapNumbers.{free_of_none, free_above, last_map}
use Rattle.memory_keeper.proofs.maps.MapRows.free_id.Goals as goal

pub returns-in-None-clause-exact : goal.returns-in-None-clause-exact
returns-in-None-clause-exact c =
    rw (← c.self.view_is) (c.one_more.ensures ∙ ap one_more (no_rows (λ (m : MapRow). m.id) c.self.inside.rows c.in-None.ensures.last))

pub returns-in-None-clause-free : goal.returns-in-None-clause-free
returns-in-None-clause-free c = rw (← c.self.view_is, c.one_more.ensures) (free_of_none 1 c.self.inside.rows (sym c.in-None.ensures.last))

pub returns-in-Some-clause-exact : goal.returns-in-Some-clause-exact
returns-in-Some-clause-exact c =
    rw (← c.self.view_is) (c.one_more-in-Some.ensures
    ∙ ap one_more (last_map c.in-Some.map.now c.self.inside.rows c.in-Some.ensures.last c.in-Some.ensures.greatest))

pub returns-in-Some-clause-free : goal.returns-in-Some-clause-free
returns-in-Some-clause-free c =
    rw (← c.self.view_is, c.one_more-in-Some.ensures) (IfSome-one_more _ c.in-Some.map.now.id
    (free_above c.in-Some.map.now.id c.self.inside.rows c.in-Some.ensures.greatest))
