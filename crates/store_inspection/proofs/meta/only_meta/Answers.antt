use Rattle.store_inspection.proofs.MetaShows.{none_alone, only_row}
use Rattle.store_inspection.proofs.meta.only_meta.Goals as goal

pub returns-in-len1-clause-none : goal.returns-in-len1-clause-none
returns-in-len1-clause-none c =
    let row = c.row-item.result in
    none_alone c.args.rows.now row c.read_meta.result
    (only_row c.args.rows.now row c.in-len1.len_at_least c.in-len1.len_below c.row-item.is)
    c.read_meta.ensures.none
