use Rattle.std.proofs.Common.{◌≡◌, ◌≤◌, ◌∷◌, Some, ap, arith, length, map, option_map, sym, true, ◌∙◌}
use Rattle.std.proofs.lemmas.List.{length-map}
use Rattle.csv.specs.Records.{fields_of}
use Rattle.text_core.specs.Prelude.{all_of}
use Rattle.id_ranges.specs.Prelude.{found_row, with_serial, fields_of_row, is_header, row_with_serial, import_table, row_limit}
use Rattle.id_ranges.proofs.Tables.{rows_read, table_under}
use Rattle.id_ranges.proofs.read.read_records.Goals as goal

pub returns : goal.returns
returns c =
    let is : is_header (fields_of c.in-Some.first.now) ≡ true = sym c.is_header.ensures ∙ c.if-not-is_header.false in
    let few : length (map fields_of c.in-Some.rows.now) ≤ row_limit = omega (arith, length-map c.in-Some.rows.now fields_of) in
    let records : c.args.records.now ≡ c.in-Some.first.now ∷ c.in-Some.rows.now = c.in-Some.ensures.cases.0 in
    let found : Some c.in-Some-2.table.items ≡ option_map (map found_row) (all_of fields_of_row (map fields_of c.in-Some.rows.now)) =
    rw c.in-Some-2.is at c.in_ok-table.ensures in
    let table = ap (λ all. import_table (map fields_of all)) records ∙ table_under (fields_of c.in-Some.first.now) (map fields_of c.in-Some.rows.now) is few in
    ap Some (c.in_ok-read_serials.ensures ∙ ap (all_of with_serial) c.as_slice.ensures.value) ∙ rows_read _ _ found
    ∙ ap (option_map (all_of row_with_serial)) (sym table)
