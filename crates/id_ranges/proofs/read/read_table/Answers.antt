use Rattle.text_core.proofs.Kit.{ap, map, option_map, sym, ◌∙◌, IfOk-weaker}
use Rattle.csv.specs.Records.{Row, fields_of}
use Rattle.text_core.proofs.Lists.{all_of-map}
use Rattle.id_ranges.specs.Prelude.{found_row, fields_of_row}
use Rattle.id_ranges.proofs.Tables.{found_table}
use Rattle.id_ranges.proofs.read.read_table.Goals as goal

pub returns : goal.returns
returns c =
    let item_in = λ (row : Row). option_map found_row (fields_of_row (fields_of row)) in
    IfOk-weaker c.read_all.result _ _ (λ found all.
    all ∙ sym (all_of-map (λ fields. option_map found_row (fields_of_row fields)) fields_of c.args.rows.now) ∙ found_table (map fields_of c.args.rows.now))
    (c.read_all.ensures item_in (λ row item returned. returned.says.met ∙ ap item_in returned.shows))
