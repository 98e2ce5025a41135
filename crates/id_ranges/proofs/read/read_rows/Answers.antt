use Rattle.text_core.proofs.Kit.{ap, arith, map, option_map, take, ◌∙◌, IfOk-weaker}
use Rattle.csv.specs.Reading.{default_config, records, strip_bom}
use Rattle.csv.specs.Records.{fields_of}
use Rattle.text_core.specs.Prelude.{all_of}
use Rattle.id_ranges.specs.Prelude.{row_with_serial, import_rows_of, import_table}
use Rattle.id_ranges.proofs.Tables.{table_of_first}
use Rattle.id_ranges.proofs.read.read_rows.Goals as goal

pub returns : goal.returns
unfolding import_rows_of
returns c =
    let first = ap (map fields_of) c.as_slice.ensures.value ∙ c.in_ok-records.ensures
    ∙ ap (λ text. take 502 (records default_config (strip_bom text))) c.as_bytes.ensures.value in
    IfOk-weaker c.read_records.result _ _ (λ found read.
    read ∙ ap (λ rs. option_map (all_of row_with_serial) (import_table rs)) first
    ∙ ap (option_map (all_of row_with_serial)) (table_of_first (records default_config (strip_bom c.args.text.now)) 502 (omega arith)))
    c.read_records.ensures
