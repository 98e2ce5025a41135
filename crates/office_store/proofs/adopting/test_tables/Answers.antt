use Rattle.office_store.proofs.ReadAnswers.{clean_at}
use Rattle.office_store.proofs.Refusals.{examines_then, found_after, judged, says_nothing, unread}
use Rattle.office_store.proofs.adopting.test_tables.Goals as goal

pub meta_row-requires : goal.meta_row-requires
meta_row-requires g c =
    let v = c.args.version in
    let found = found_after g.S.Store c.args.site.now v (c.in_ok-test_rows.ensures c.args.site.now)
    c.requires.can.shows_committed (λ clean found. found.0) in
    (v, λ up. found.found (clean_at g.S.Store g.met.S.Store.shut_if_dirty c.test_rows.new.conn up))

pub returns : goal.returns
returns g c =
    let v = c.args.version in
    let site = c.args.site.now in
    let new = c.meta_row.new.conn in
    let one = c.in_ok-test_rows.ensures site in
    let found = found_after g.S.Store site v one c.requires.can.shows_committed (λ clean found. found.0) in
    examines_then g.S.Store site one
    (judged g.S.Store site c.test_rows.new.conn new (clean_at g.S.Store g.met.S.Store.shut_if_dirty new) v
    found.mode found.shows_committed (λ clean. (found.found clean).schema)
    c.in_ok-meta.meta c.in_ok-meta.ensures c.requires.earlier c.digest.result c.digest.ensures.of_text
    c.judge_meta.result c.judge_meta.ensures.same_site c.judge_meta.ensures.other_site c.judge_meta.ensures.other_tables)
    (λ clean found told. (found, told))

pub returns-in_err-test_rows : goal.returns-in_err-test_rows
returns-in_err-test_rows g c = says_nothing g.S.Store c.args.site.now _ c.from_residual.ensures.1 (c.in_err-test_rows.ensures c.args.site.now)

pub returns-in_err-meta : goal.returns-in_err-meta
returns-in_err-meta g c =
    let v = c.args.version in
    let site = c.args.site.now in
    let conn = c.meta_row.new.conn in
    let rows = c.in_ok-test_rows.ensures site in
    let found = found_after g.S.Store site v rows c.requires.can.shows_committed (λ clean found. found.0) in
    says_nothing g.S.Store site _ c.from_residual-in_err-meta.ensures.1 (examines_then g.S.Store site {R = λ _. Unit {0}} rows
    (unread g.S.Store site c.test_rows.new.conn conn (clean_at g.S.Store g.met.S.Store.shut_if_dirty conn) v
    found.mode found.shows_committed (λ clean. (found.found clean).schema) _ _ c.in_err-meta.ensures (λ _. Unit {0})) (λ _ _ _. tt))
