use Rattle.std.proofs.Common.{rules, arith, true, false, refl, inl, inr, [], ◌∷◌, ◌++◌, ◌∙◌}
use Rattle.office_sql.proofs.Kit.{state, HasCleanDisk, bound, given_begin, unchanged_then, survives_then}
use Rattle.office_sql.specs.Prelude.{HasVisited}
use Rattle.office_sql.proofs.Visiting.{commits_nothing, refused_rests, shown_from, begun, one_more, no_more}
use Rattle.office_sql.proofs.visit.visit_rows.Goals as goal

pub returns-in_err-rows-clause-rests : goal.returns-in_err-rows-clause-rests
returns-in_err-rows-clause-rests g c clean =
    let held = rw c.in_err-rows.was at c.query.follows.holds-at-none in
    refused_rests c.args.sql.now (bound c.args.params.now) (state g.S.Store c.args.conn.now)
    (state g.S.Store c.query.follows.lender-at-none) c.requires _ (held.err clean)

pub returns-in_err-rows-clause-crash : goal.returns-in_err-rows-clause-crash
returns-in_err-rows-clause-crash g c =
    let held = rw c.in_err-rows.was at c.query.follows.holds-at-none in
    commits_nothing c.args.sql.now (bound c.args.params.now) (state g.S.Store c.args.conn.now)
    (state g.S.Store c.query.follows.lender-at-none) c.requires held.survives

pub rows-init : goal.rows-init
rows-init g c =
    let made = c.in_ok-rows.ensures in
    let sql = c.args.sql.now in
    let params = bound c.args.params.now in (
      refl,
      made.mode,
      commits_nothing sql params (state g.S.Store c.args.conn.now) (state g.S.Store c.in_ok-rows.rows.conn.now) c.requires made.survives,
      λ clean. let it = begun g.S.Store sql params c.args.conn.now c.in_ok-rows.rows.conn.now
          c.requires (made.begun clean) in (it.1, [], it.0, λ more end v. v),
    )

pub returns-in_default-clause-visited : goal.returns-in_default-clause-visited
returns-in_default-clause-visited g c clean =
    let moved = c.next.follows.holds-at-none in
    let now = c.next.follows.lender-at-none.conn.now in
    let old = state g.S.Store c.args.conn.now in
    let sql = c.args.sql.now in
    let params = bound c.args.params.now in
    let late : HasCleanDisk (state g.S.Store now) = search rules in
    let was = c.rows.invariant.3 (omega (arith, moved.survives.clean)) in
    let shown = (rw (c.in_ok-row.was, c.in_default.is) at (moved.ok late)) sql params was.1 was.2 in
    let visited : HasVisited g.K.Sink.takes g.R.ReadRow.reads sql params old (state g.S.Store now) c.args.sink.now c.rows.sink = (
      was.1,
      inl (
        shown_from sql params old (state g.S.Store c.rows.rows.conn.now) (state g.S.Store now)
            was.1 c.requires was.0 shown,
        no_more g.K.Sink.takes g.R.ReadRow.reads c.args.sink.now
            c.rows.sink was.1 was.3,
      ),
    ) in
    search rules

pub returns-then-not-take-clause-visited : goal.returns-then-not-take-clause-visited
returns-then-not-take-clause-visited g c clean =
    let moved = c.next.follows.holds-at-none in
    let now = c.next.follows.lender-at-none.conn.now in
    let old = state g.S.Store c.args.conn.now in
    let sql = c.args.sql.now in
    let params = bound c.args.params.now in
    let late : HasCleanDisk (state g.S.Store now) = search rules in
    let was = c.rows.invariant.3 (omega (arith, moved.survives.clean)) in
    let row = c.in-Some.row.now in
    let given = (rw (c.in_ok-row.was, c.in-Some.is) at (moved.ok late)) sql params was.1 was.2 in
    let visited : HasVisited g.K.Sink.takes g.R.ReadRow.reads sql params old (state g.S.Store now) c.args.sink.now c.take.new.self = (
      was.1 ++ row ∷ [],
      inr (
        given_begin g.S.Store sql params now (was.1 ++ row ∷ []) given,
        λ more. one_more g.K.Sink.takes g.R.ReadRow.reads c.args.sink.now c.rows.sink was.1 was.3
            row c.in_ok-item.item false c.take.new.self c.in_ok-item.ensures c.if-not-take.ensures
            more c.take.new.self refl,
      ),
    ) in
    search rules

pub rows-preserved : goal.rows-preserved
rows-preserved g c =
    let moved = c.next.follows.holds-at-none in
    let mid = state g.S.Store c.rows.rows.conn.now in
    let now = c.next.follows.lender-at-none.conn.now in
    let old = state g.S.Store c.args.conn.now in
    let sql = c.args.sql.now in
    let params = bound c.args.params.now in (
      moved.same_reference ∙ c.rows.invariant.0,
      λ m. moved.mode (c.rows.invariant.1 m),
      survives_then old mid (state g.S.Store now) _ _ _ (λ _ db none. none) (λ _ db none. none) c.rows.invariant.2 moved.survives,
      λ late.
          let was = c.rows.invariant.3 (omega (arith, moved.survives.clean, late)) in
          let row = c.in-Some.row.now in
          let given = (rw (c.in_ok-row.was, c.in-Some.is) at (moved.ok late)) sql params was.1 was.2 in
          let same = rw c.in_ok-row.was at (moved.same late) in (
            unchanged_then old mid (state g.S.Store now) was.0 same,
            was.1 ++ row ∷ [],
            given,
            λ more end v.
                one_more g.K.Sink.takes g.R.ReadRow.reads c.args.sink.now c.rows.sink was.1 was.3
                row c.in_ok-item.item true c.take.new.self c.in_ok-item.ensures
                c.if-not-take.ensures more end v,
          ),
    )
