use Rattle.std.proofs.Common.{◌≡◌, ℕ, List, length, map, Some}
use Rattle.csv.specs.Reading.{Reached, Ready, default_config, source_of, strip_bom}
use Rattle.csv.specs.Records.{fields_of}
use Rattle.csv.specs.declared.parser.State.TheVariants as st
use Rattle.csv.specs.declared.reader.Trim.TheVariants as trim
use Rattle.id_ranges.proofs.records.first_records.Given as goal

abbrev pub invariant-loop-turn : goal.invariant-loop-turn
invariant-loop-turn l = record {
  trim : l.reader.trim ≡ trim.None;
  ready : Ready l.reader;
  config : l.reader.config ≡ default_config;
  count : length l.first.items ≡ l._turn;
  reached : (rest : List ℕ) × (source_of (λ s. Some s.now) l.reader ≡ Some rest)
      × Reached default_config st.StartRecord (strip_bom l.fn.text) (map fields_of l.first.items) l.reader.state rest;
}
