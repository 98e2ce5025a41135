use Rattle.std.proofs.Common.{Bor, List, ℕ, ◌+◌, ap, length-append, ◌∷◌, [], map, Some, inl, inr, refl, sym, ◌∙◌, arith}
use Rattle.std.proofs.lemmas.List.{map-append, length-map}
use Rattle.csv.specs.Reading.{Reached, default_config, strip_bom}
use Rattle.csv.specs.Records.{fields_of}
use Rattle.csv.specs.declared.parser.State.TheVariants as st
use Rattle.csv.proofs.ReadFacts.{rows-end, rows-more}
use Rattle.id_ranges.proofs.FirstRecords.{all_reached, first_reached}
use Rattle.id_ranges.proofs.records.first_records.Goals as goal

pub loop-turn-init : goal.loop-turn-init
unfolding Reached
loop-turn-init c =
    let reader = c.from_reader-reader.ensures in
    rw c.new-first.ensures.items (record {
      trim = rw (c.flexible.ensures, c.has_headers.ensures) at reader.trim ∙ c.new.ensures.trim;
      ready = inr (inr (rw (c.flexible.ensures, c.has_headers.ensures) at reader.has_headers, reader.headers));
      config = rw (c.flexible.ensures, c.has_headers.ensures) at reader.config ∙ c.new.ensures.config;
      count = refl;
      reached = (strip_bom c.args.text.now, reader.source, (sym reader.state, refl));
    })

pub loop-turn-preserved : goal.loop-turn-preserved
loop-turn-preserved c =
    let old = c.loop-turn.invariant in
    let read = rw c.if-not-found.false at (c.in-Ok.ensures.reads old.trim old.ready) in
    let more = rows-more (λ (s : Bor (List ℕ)). Some s.now) c.loop-turn.reader c.read_byte_record.new.self (fields_of c.read_byte_record.new.row)
    default_config st.StartRecord (strip_bom c.args.text.now) old.reached.0 (map fields_of c.loop-turn.first.items) old.config old.reached.1 old.reached.2 read
    in
    record {
      trim = read.3 ∙ old.trim;
      ready = inl (c.in-Ok.ensures.ready old.trim);
      config = read.2 ∙ old.config;
      count = rw c.in_ok-push.ensures.items (length-append c.loop-turn.first.items (c.read_byte_record.new.row ∷ []) ∙ ap (λ n. n + 1) old.count);
      reached = (more.0, more.1, rw (c.in_ok-push.ensures.items, map-append fields_of c.loop-turn.first.items (c.read_byte_record.new.row ∷ [])) more.2);
    }

pub returns-then-not-found : goal.returns-then-not-found
returns-then-not-found c =
    let old = c.loop-turn.invariant in
    let ended = rows-end (λ (s : Bor (List ℕ)). Some s.now) c.loop-turn.reader c.read_byte_record.new.self (fields_of c.read_byte_record.new.row)
    default_config old.reached.0 old.config old.reached.1 (rw c.if-not-found.true at (c.in-Ok.ensures.reads old.trim old.ready)) in
    all_reached (map fields_of c.loop-turn.first.items) c.args.most c.loop-turn.reader.state (strip_bom c.args.text.now) old.reached.0 old.reached.2 ended
    (omega (arith, length-map c.loop-turn.first.items fields_of, c.loop-turn-test.true))

pub returns : goal.returns
returns c =
    let old = c.loop-turn.invariant in
    first_reached (map fields_of c.loop-turn.first.items) c.args.most c.loop-turn.reader.state (strip_bom c.args.text.now) old.reached.0 old.reached.2
    (omega (arith, length-map c.loop-turn.first.items fields_of, c.loop-turn-test.false))
