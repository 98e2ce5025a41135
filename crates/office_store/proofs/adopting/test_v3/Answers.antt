use Rattle.std.proofs.Common.{Ok}
use Rattle.office_sql.proofs.Kit.{Database}
use Rattle.store_inspection.specs.declared.version.Version.TheVariants.{V3}
use Rattle.office_store.specs.Prelude.{IsFoundApart}
use Rattle.store_inspection.specs.Prelude.{HasValidityRows}
use Rattle.office_store.proofs.ReadAnswers.{clean_at}
use Rattle.office_store.proofs.Refusals.{examines_then, found_after, says_nothing, validity_asked}
use Rattle.office_store.proofs.adopting.test_v3.Goals as goal

-- what the first two tests say
abbrev Whole : Database → Type 0
Whole db = IsFoundApart V3 db × HasValidityRows db.trees

pub has_validity_rows-requires : goal.has_validity_rows-requires
has_validity_rows-requires g c up = (
  V3,
  (λ e. cc),
  (found_after g.S.Store c.args.site.now V3 (c.in_ok-test_rows.ensures c.args.site.now) c.requires.can.shows_committed (λ calm found. found.0)).found
      (clean_at g.S.Store g.met.S.Store.shut_if_dirty c.test_rows.new.conn up),
)

pub test_growth-requires : goal.test_growth-requires
test_growth-requires g c =
    let site = c.args.site.now in
    let new = c.has_validity_rows.new.conn in
    found_after g.S.Store site V3
    (validity_asked g.S.Store site c.args.conn.now c.test_rows.new.conn new
    (clean_at g.S.Store g.met.S.Store.shut_if_dirty new) c.requires.can.shows_committed
    V3 (IsFoundApart V3) Whole (c.in_ok-test_rows.ensures site) (λ db known. (known.0, tt)) (λ db known has. (known, has))
    _ c.has_validity_rows.ensures (Ok tt) c.in_ok-judge_answer.ensures) c.requires.can.shows_committed (λ calm whole. whole.0.0)

pub returns : goal.returns
returns g c =
    let site = c.args.site.now in
    let last = c.has_validity_rows.new.conn in
    examines_then g.S.Store site
    (validity_asked g.S.Store site c.args.conn.now c.test_rows.new.conn last
    (clean_at g.S.Store g.met.S.Store.shut_if_dirty last) c.requires.can.shows_committed
    V3 (IsFoundApart V3) Whole (c.in_ok-test_rows.ensures site) (λ db known. (known.0, tt)) (λ db known has. (known, has))
    _ c.has_validity_rows.ensures (Ok tt) c.in_ok-judge_answer.ensures)
    c.test_growth.ensures (λ calm whole can. (whole.0, (whole.1, can)))

pub returns-in_err-test_rows : goal.returns-in_err-test_rows
returns-in_err-test_rows g c = says_nothing g.S.Store c.args.site.now _ c.from_residual.ensures.1 (c.in_err-test_rows.ensures c.args.site.now)

pub returns-in_err-judge_answer : goal.returns-in_err-judge_answer
returns-in_err-judge_answer g c =
    let site = c.args.site.now in
    let new = c.has_validity_rows.new.conn in
    says_nothing g.S.Store site _ c.from_residual-in_err-judge_answer.ensures.1
    (validity_asked g.S.Store site c.args.conn.now c.test_rows.new.conn new
    (clean_at g.S.Store g.met.S.Store.shut_if_dirty new) c.requires.can.shows_committed
    V3 (IsFoundApart V3) Whole (c.in_ok-test_rows.ensures site) (λ db known. (known.0, tt)) (λ db known has. (known, has))
    _ c.has_validity_rows.ensures _ c.in_err-judge_answer.ensures)
