use Rattle.std.proofs.Common.{◌≡◌, ◌∙◌, true, Some, Ok, Err, inl, sym, rules}
use Rattle.office_rules.specs.Prelude.{import_result, issued_in, has_issuer}
use Rattle.office_judges.proofs.ImportedRows.{conflict_refused, import_ruled}
use Rattle.office_judges.proofs.import.judge_import.Goals as goal

pub returns-in-Err : goal.returns-in-Err
returns-in-Err g c = record {
  read_only = search rules;
  stays_open = search rules;
  answer = λ is seat.
      let s = c.args.customer.now in
      let t = g.K.Keep.tables c.args.keep.now in
      let n = c.args.import.now in
      let given : n.rows ≡ Some c.in_ok-rows.rows.now = search (rules, c.in_ok-rows.ensures.ok_part) in
      let own : has_issuer s n.issuer ≡ true =
      sym c.has_issuer.ensures ∙ c.if-not-has_issuer.false in
      let found : import_result (issued_in n.issuer t) c.in_ok-rows.rows.now ≡ Err c.in-Err.serial =
      sym (rw c.as_slice.ensures at (c.in_ok-merged.ensures.answer is)) ∙ c.in-Err.is in
      inl (conflict_refused s seat t n c.in_ok-rows.rows.now given own c.in-Err.serial found);
}

pub returns : goal.returns
returns g c = record {
  read_only = search rules;
  stays_open = search rules;
  answer = λ is seat.
      let s = c.args.customer.now in
      let t = g.K.Keep.tables c.args.keep.now in
      let n = c.args.import.now in
      let given : n.rows ≡ Some c.in_ok-rows.rows.now = search (rules, c.in_ok-rows.ensures.ok_part) in
      let own : has_issuer s n.issuer ≡ true =
      sym c.has_issuer.ensures ∙ c.if-not-has_issuer.false in
      let found : import_result (issued_in n.issuer t) c.in_ok-rows.rows.now ≡ Ok c.in-Ok.merged =
      sym (rw c.as_slice.ensures at (c.in_ok-merged.ensures.answer is)) ∙ c.in-Ok.is in
      import_ruled s seat t n c.in_ok-rows.rows.now given own c.in-Ok.merged
      (record { body = c.in_ok-body.body; writes = c.in_ok-writes.writes }) found
      (search rules) (search rules);
}
