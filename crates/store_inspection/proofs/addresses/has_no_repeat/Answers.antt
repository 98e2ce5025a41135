use Rattle.std.proofs.Common.{rules, arith, true, false, refl, sym, inl, inr, [], ◌∷◌, ◌++◌, ◌∙◌, None, subst, append-nil}
use Rattle.office_sql.proofs.Kit.{state, HasCleanDisk, given_begin, unchanged_then, survives_then}
use Rattle.office_sql.proofs.Visiting.{commits_nothing, refused_rests, shown_from, begun}
use Rattle.store_inspection.specs.Prelude.{HasNoRepeat, HasWalked}
use Rattle.store_inspection.proofs.AddressWalk.{one_again, one_more}
use Rattle.store_inspection.proofs.addresses.has_no_repeat.Goals as goal

pub returns-in_err-rows-clause-rests : goal.returns-in_err-rows-clause-rests
returns-in_err-rows-clause-rests g c clean =
    let held = rw c.in_err-rows.was at c.query.follows.holds-at-none in
    refused_rests c.args.sql.now [] (state g.S.Store c.args.conn.now)
    (state g.S.Store c.query.follows.lender-at-none) c.requires _ (held.err clean)

pub returns-in_err-rows-clause-crash : goal.returns-in_err-rows-clause-crash
returns-in_err-rows-clause-crash g c =
    let held = rw c.in_err-rows.was at c.query.follows.holds-at-none in
    commits_nothing c.args.sql.now [] (state g.S.Store c.args.conn.now)
    (state g.S.Store c.query.follows.lender-at-none) c.requires held.survives

pub rows-init : goal.rows-init
rows-init g c =
    let made = c.in_ok-rows.ensures in
    let sql = c.args.sql.now in (
      refl,
      made.mode,
      commits_nothing sql [] (state g.S.Store c.args.conn.now) (state g.S.Store c.in_ok-rows.rows.conn.now) c.requires made.survives,
      λ clean. let it = begun g.S.Store sql [] c.args.conn.now c.in_ok-rows.rows.conn.now
          c.requires (made.begun clean) in (it.1, [], it.0, λ more. (λ h. h, λ h. h)),
    )

pub returns-in_default-clause-walked : goal.returns-in_default-clause-walked
returns-in_default-clause-walked g c clean =
    let moved = c.next.follows.holds-at-none in
    let now = c.next.follows.lender-at-none.conn.now in
    let old = state g.S.Store c.args.conn.now in
    let sql = c.args.sql.now in
    let late : HasCleanDisk (state g.S.Store now) = search rules in
    let was = c.rows.invariant.3 (omega (arith, moved.survives.clean)) in
    let shown = (rw (c.in_ok-row.was, c.in_default.is) at (moved.ok late)) sql [] was.1 was.2 in
    let walked : HasWalked sql old (state g.S.Store now) true = (
      was.1,
      inl (
        refl,
        shown_from sql [] old (state g.S.Store c.rows.rows.conn.now) (state g.S.Store now) was.1 c.requires was.0 shown,
        subst (HasNoRepeat None) (append-nil was.1) ((was.3 []).1 tt),
      ),
    ) in
    search rules

pub returns-then-branch-clause-walked : goal.returns-then-branch-clause-walked
returns-then-branch-clause-walked g c clean =
    let moved = c.next.follows.holds-at-none in
    let now = c.next.follows.lender-at-none.conn.now in
    let old = state g.S.Store c.args.conn.now in
    let sql = c.args.sql.now in
    let late : HasCleanDisk (state g.S.Store now) = search rules in
    let was = c.rows.invariant.3 (omega (arith, moved.survives.clean)) in
    let row = c.in-Some.row.now in
    let given = (rw (c.in_ok-row.was, c.in-Some.is) at (moved.ok late)) sql [] was.1 was.2 in
    let walked : HasWalked sql old (state g.S.Store now) false = (
      was.1 ++ row ∷ [],
      inr (
        refl,
        given_begin g.S.Store sql [] now (was.1 ++ row ∷ []) given,
        one_again was.1 c.rows.last row was.3 (sym c.in_ok-is_again.ensures ∙ c.if-branch.true),
      ),
    ) in
    search rules

pub rows-preserved : goal.rows-preserved
rows-preserved g c =
    let moved = c.next.follows.holds-at-none in
    let mid = state g.S.Store c.rows.rows.conn.now in
    let now = c.next.follows.lender-at-none.conn.now in
    let old = state g.S.Store c.args.conn.now in
    let sql = c.args.sql.now in (
      moved.same_reference ∙ c.rows.invariant.0,
      λ m. moved.mode (c.rows.invariant.1 m),
      survives_then old mid (state g.S.Store now) _ _ _ (λ _ db none. none) (λ _ db none. none) c.rows.invariant.2 moved.survives,
      λ late.
          let was = c.rows.invariant.3 (omega (arith, moved.survives.clean, late)) in
          let row = c.in-Some.row.now in
          let given = (rw (c.in_ok-row.was, c.in-Some.is) at (moved.ok late)) sql [] was.1 was.2 in
          let same = rw c.in_ok-row.was at (moved.same late) in (
            unchanged_then old mid (state g.S.Store now) was.0 same,
            was.1 ++ row ∷ [],
            given,
            one_more was.1 c.rows.last row c.in_ok-copy_of.field-0 was.3
                (sym c.in_ok-is_again.ensures ∙ c.if-branch.false) c.in_ok-copy_of.ensures,
          ),
    )
