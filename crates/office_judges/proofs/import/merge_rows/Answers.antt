use Rattle.std.proofs.Common.{◌≡◌, ◌+◌, ◌++◌, ◌∙◌, [], ◌∷◌, sym, ap, arith, rules, List, drop}
use Rattle.id_ranges.specs.declared.rows.ImportRow.{ImportRow}
use Rattle.office_tables.proofs.Reading.{reads_more}
use Rattle.office_rules.specs.Prelude.{import_result, issued_in}
use Rattle.office_judges.specs.Prelude.{resumed, with_rows, verdict_of_row}
use Rattle.office_judges.proofs.MergedRows.{new_is_added, present_counts, row_is_met, with_rows_last}
use Rattle.office_judges.proofs.import.merge_rows.Goals as goal
use Rattle.office_judges.proofs.import.merge_rows.Goals.{in-Present, in-New+in_ok-push-in-New}

pub loop-row-preserved : goal.loop-row-preserved
loop-row-preserved g c =
    let row = c.row-item.result in
    let added = c.loop-row.added.items in
    let present = c.loop-row.present in
    let given = issued_in c.args.issuer.now (g.K.Keep.tables c.args.keep.now) in
    let rest = drop (c.loop-row.row-index + 1) c.args.rows.now in
    let met = row_is_met c.args.rows.now c.loop-row.row-index row c.loop-row-test.true c.row-item.is in
    let left : g.K.Keep.is_open c.look_up.new.keep
    → resumed added present (import_result (with_rows added given) (row ∷ rest))
    ≡ import_result given c.args.rows.now =
    λ is. ap (λ (rs : List ImportRow). resumed added present (import_result (with_rows added given) rs)) (sym met)
    ∙ c.loop-row.invariant.left (c.look_up.ensures.read_only.was_open is) in
    let verdict : g.K.Keep.is_open c.look_up.new.keep → c.in_ok-look_up.field-0 ≡ verdict_of_row (with_rows added given) row =
    λ is. rw (c.as_slice.ensures.value, c.loop-row.invariant.read_only.same (c.look_up.ensures.read_only.was_open is)) at (c.in_ok-look_up.ensures.answer is) in
    elim c.match-branch-2.branch [
      | in-Present w ↦ record {
        read_only = reads_more c.loop-row.invariant.read_only c.look_up.ensures.read_only;
        stays_open = c.in_ok-look_up.ensures.stays_open;
        left =
            λ is. rw (w.added-is, w.present-is) (sym (present_counts added present (with_rows added given) row rest (sym (verdict is) ∙ w.in-Present.is))
            ∙ left is);
        fits = omega arith;
      }
      | in-New+in_ok-push-in-New w ↦ record {
        read_only = reads_more c.loop-row.invariant.read_only c.look_up.ensures.read_only;
        stays_open = c.in_ok-look_up.ensures.stays_open;
        left = λ is.
            let pushed : c.match-branch-2.added.items ≡ added ++ row ∷ [] = search rules in
            rw (pushed, w.present-is, with_rows_last added row given)
            (sym (new_is_added added present (with_rows added given) row rest (sym (verdict is) ∙ w.in-New.is)) ∙ left is);
        fits = omega arith;
      }
    ]
