use Rattle.std.proofs.Common.{rules, Ok}
use Rattle.sqlite.specs.Held.{state}
use Rattle.store_inspection.proofs.FoundAsked.{tests_more}
use Rattle.store_inspection.proofs.MetaShows.{same_meta}
use Rattle.store_inspection.proofs.meta.meta_row.Goals as goal

pub returns : goal.returns
returns g c =
    let rows = c.in_ok-rows.rows in
    tests_more g.S.Store c.args.conn.now c.meta_rows.new.conn (Ok rows) (Ok c.only_meta.result) _ _ c.in_ok-rows.ensures
    (λ shown. same_meta (state g.S.Store c.args.conn.now).now.trees rows.items c.only_meta.result shown (search rules) (search rules))
    (λ same. same)
