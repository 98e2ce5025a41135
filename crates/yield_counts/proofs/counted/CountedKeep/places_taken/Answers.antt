use Rattle.std.proofs.Common.{◌∙◌, rules}
use Rattle.office_tables.specs.Prelude.{rows_of}
use Rattle.office_tables.proofs.Reading.{reads_more}
use Rattle.yield_counts.proofs.Placed.{places_counted}
use Rattle.yield_counts.proofs.counted.CountedKeep.places_taken.Goals as goal

pub returns : goal.returns
returns g c =
    let first = rw c.self.view_is at c.map.ensures.read_only in
    record {
      read_only = reads_more first c.columns.ensures.read_only;
      stays_open = search rules;
      answer = λ is.
          let was = c.columns.ensures.read_only.was_open is in
          let each = rw (first.same was) at (c.in_ok-numbers.ensures.answer is) in
          let rows = rows_of c.args.customer.now (g.K.Keep.tables c.args.self.now).devices in
          c.in-Some.ensures.places ∙ places_counted c.args.order.now rows _ each;
    }
