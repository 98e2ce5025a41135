use Rattle.std.proofs.Common.{◌≢◌, sym, true≢false, ◌∙◌}
use Rattle.office_sql.proofs.Kit.{Database}
use Rattle.sha2.specs.Sha256.{sha256}
use Rattle.site_core.specs.Prelude.{TextOfSite}
use Rattle.office_store.proofs.Types.{Version}
use Rattle.office_store.specs.Prelude.{IsFoundApart, IsTestedFor}
use Rattle.store_inspection.specs.Prelude.{HasMeta, number_of_version}
use Rattle.office_store.proofs.ReadAnswers.{clean_at}
use Rattle.office_store.proofs.Refusals.{are_asked, examines_of, found_after, says_nothing, validity_asked}
use Rattle.office_store.proofs.adopting.test_earlier.Goals as goal

-- what the first test says
abbrev Known : Version → TextOfSite → Database → Type 0
Known version site db = IsFoundApart version db × HasMeta version (sha256 site.text) db.trees

-- what both tests say
abbrev Whole : Version → TextOfSite → Database → Type 0
Whole version site = IsTestedFor (sha256 site.text) version

pub has_validity_rows-requires : goal.has_validity_rows-requires
has_validity_rows-requires g c up = (
  c.args.version,
  (λ e. true≢false (sym (c.has_no_validity_row.ensures.1 e) ∙ c.if-has_no_validity_row.false)),
  (found_after g.S.Store c.args.site.now c.args.version c.in_ok-test_tables.ensures c.requires.can.shows_committed (λ calm both. both.0.0)).found
      (clean_at g.S.Store g.met.S.Store.shut_if_dirty c.test_tables.new.conn up),
)

pub returns : goal.returns
returns g c =
    let v = c.args.version in
    let site = c.args.site.now in
    let new = c.has_validity_rows.new.conn in
    let later : number_of_version v ≢ 1 = λ e. true≢false (sym (c.has_no_validity_row.ensures.1 e) ∙ c.if-has_no_validity_row.false) in
    validity_asked g.S.Store site c.args.conn.now c.test_tables.new.conn new
    (clean_at g.S.Store g.met.S.Store.shut_if_dirty new) c.requires.can.shows_committed
    v (Known v site) (Whole v site) c.in_ok-test_tables.ensures
    (λ db known. (known.0.0, are_asked (sha256 site.text) v db.trees c.requires.earlier later known.1))
    (λ db known has. (known.0, known.1, λ _. has)) _ c.has_validity_rows.ensures _ c.judge_answer.ensures

pub returns-then-has_no_validity_row : goal.returns-then-has_no_validity_row
returns-then-has_no_validity_row g c = examines_of g.S.Store c.args.site.now c.in_ok-test_tables.ensures
    (λ known. (known.0, known.1, λ later. absurd (later (c.has_no_validity_row.ensures.0 c.if-has_no_validity_row.true))))

pub returns-in_err-test_tables : goal.returns-in_err-test_tables
returns-in_err-test_tables g c = says_nothing g.S.Store c.args.site.now _ c.from_residual.ensures.1 c.in_err-test_tables.ensures
