use Rattle.std.proofs.Common.{take}
use Rattle.office_tables.specs.Prelude.{Reads}
use Rattle.yield_report.proofs.SiteLines.{IsReported}
use Rattle.yield_report.proofs.sites.site_report.Given as goal

-- the keeper was only read, and the text has the lines of the customers so far, by the tables at the start
abbrev pub invariant-loop-customer : goal.invariant-loop-customer
invariant-loop-customer g l =
    let k = g.K.Keep in
    record {
      read_only : Reads k.is_open k.is_honest k.may_leave k.tells_text k.tables k.commits l.fn.keep l.keep;
      stays_open : k.is_honest l.keep → k.is_open l.keep;
      reported : k.is_open l.keep → IsReported (k.tables l.fn.keep) (take l.customer-index l.customer-items) l.text.items;
    }
