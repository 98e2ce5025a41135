use Rattle.std.proofs.Common.{◌++◌, List, [], ◌∷◌, None, refl, sym, append-nil}
use Rattle.office_laws.specs.Prelude.{Exchange, IsStoppedRun, Leaves, Session}
use Rattle.office_laws.proofs.Grown.{growth_itself}
use Rattle.office_laws.proofs.Leaving.{stop_leaves}
use Rattle.office_laws.proofs.Promising.{promises}
use Rattle.office_laws.proofs.Stopping.{stopped_runs, stopped_seats}
use Rattle.office_core.proofs.restarts.stopped_stores_go_on.Goals as goal

pub returns : goal.returns
returns g c = λ site grown opened stopped again later xs ys t t2 left t3 growth apart others_apart seats others life after.
    let before : Session = record { exchanges = xs; cut_off = None } in
    let behind : Session = record { exchanges = ys; cut_off = None } in
    let made : Leaves xs t2 left = life.answered.crash [] (λ other is. ([], life.fresh other is)) left life.leaves in
    let all : List Exchange = xs ++ (made.0 ++ ys) in
    let run : IsStoppedRun (before ∷ behind
    ∷ []) all t t3 = (
      t2,
      life.answered.run,
      made.0,
      left,
      stop_leaves before t2 made.0 left made.1,
      ys,
      (t3, after.run, [], t3, refl, [], (refl, refl), sym (append-nil ys)),
      refl,
    ) in (
      made.0,
      made.1,
      λ first begun sound. promises first all grown t t3 sound
          (stopped_seats first (before ∷ behind ∷ []) all grown t t3
          (site, begun, apart, seats, tt, (grown, growth, others_apart, others, tt, growth_itself grown)) run)
          (stopped_runs (before ∷ behind ∷ []) all t t3 run),
    )
