use Rattle.text_core.proofs.Kit.{[], subst, sym, ⊤}
use Rattle.office_sql.specs.Prelude.{SqlReads}
use Rattle.office_sql.proofs.Asked.{not_run_rests, unchanged_rests}
use Rattle.office_sql.proofs.ask.ask_open.Goals as goal
use Rattle.office_sql.proofs.ask.ask_open.Goals.{in-Ok, in-Err}

pub returns : goal.returns
returns g c =
    let old = c.args.conn.now in
    let new = c.prepare.new.self in
    elim c.match-prepare.branch [
      | in-Ok w ↦ subst (λ r. SqlReads g.S.Store old new r (λ _ _. ⊤)) (sym w.result-is) (record {
        answer = λ clean. tt;
        same = λ clean. (w.in-Ok.ensures.ok clean).1;
        rests = λ clean. unchanged_rests _ _ (w.in-Ok.ensures.ok clean).1;
        mode = c.prepare.ensures.mode;
        crash = c.prepare.ensures.survives;
      })
      | in-Err w ↦ subst (λ r. SqlReads g.S.Store old new r (λ _ _. ⊤)) (sym w.result-is) (record {
        answer = λ clean. tt;
        same = λ clean. tt;
        rests = λ clean. not_run_rests _ [] _ _ w.in-Err.error (w.in-Err.ensures.err clean []);
        mode = c.prepare.ensures.mode;
        crash = c.prepare.ensures.survives;
      })
    ]
