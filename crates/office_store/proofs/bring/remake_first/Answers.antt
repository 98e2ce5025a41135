use Rattle.std.proofs.Common.{drop}
use Rattle.sqlite.specs.Held.{state}
use Rattle.office_sql.proofs.MapChanges.{changes_then}
use Rattle.office_store.specs.Prelude.{all_steps, first_step_of, Brings, CanBring, HaveRun, IsRemade}
use Rattle.office_store.proofs.Brought.{remakes, sees_early}
use Rattle.office_store.proofs.Changing.{said_if_open}
use Rattle.office_store.proofs.bring.remake_first.Goals as goal

pub remake_tables-requires : goal.remake_tables-requires
remake_tables-requires g c =
    sees_early c.args.found c.args.site.now (state g.S.Store c.args.tx.now.conn.now) c.requires.early c.requires.can

pub returns-clause-changes : goal.returns-clause-changes
returns-clause-changes g c =
    let found = c.args.found in
    let site = c.args.site.now in
    let text = site.text in
    let old = c.args.tx.now.conn.now in
    let mid = c.remake_tables.new.tx.conn.now in
    let new = c.take_steps.new.tx.conn.now in
    said_if_open g.S.Store old new c.take_steps.result (CanBring found site) (λ x z _. Brings found text x.trees z) c.requires.can
    (changes_then g.S.Store old mid new c.in_ok-remake_tables.field-0 c.take_steps.result (λ x y _. IsRemade x y)
    (λ y z _. HaveRun g.S.Store (drop (first_step_of found) all_steps) text y z) (λ x z _. CanBring found site x → Brings found text x.trees z)
    c.in_ok-remake_tables.ensures.changes c.take_steps.ensures.changes
    (λ x y z _ remade run can. remakes g.S.Store site found c.requires.early x y z can remade run))
