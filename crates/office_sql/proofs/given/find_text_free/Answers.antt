use Rattle.std.proofs.Common.{◌≡◌, length, sym, ◌∙◌, vec_len, eqb-true}
use Rattle.id_ranges.specs.Prelude.{mac_of_text}
use Rattle.office_sql.proofs.GivenTexts.{none_shown}
use Rattle.office_sql.proofs.Looking.{looks_more}
use Rattle.office_sql.proofs.given.find_text_free.Goals as goal

pub returns-then-is_empty-clause-looks : goal.returns-then-is_empty-clause-looks
returns-then-is_empty-clause-looks g c =
    let rows = c.in_ok-rows.rows in
    let empty : length rows.items ≡ 0 = sym rows.ok.0 ∙ eqb-true (vec_len rows) 0 (sym c.is_empty.ensures ∙ c.if-is_empty.true) in
    looks_more g.S.Store c.args.tx.now.conn.now c.rows_with_address.new.tx.conn.now rows tt _ _
    c.in_ok-rows.ensures.looks (λ t is.
    none_shown (mac_of_text c.args.text.now) rows.items t.given empty is)
