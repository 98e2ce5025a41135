use Rattle.std.proofs.Common.{ℕ, Bool, true, false, cond, List, ap₂, inl, inr, refl}
use Rattle.sqlite_disk.specs.Events.{Event, replay}
use Rattle.sqlite_store.specs.Laws.{settled_at}
use Rattle.office_sql.proofs.Asked.{was_clean}
use Rattle.office_sql.proofs.Kit.{file_state, image_at, over_files, Image}
use Rattle.office_store.specs.Prelude.{IsFoundOver}
use Rattle.office_store.proofs.FoundFiles.{can_prepare}
use Rattle.office_store.proofs.Opened.{held_before, opened_of}
use Rattle.office_store.proofs.Spared.{alone, spared}
use Rattle.office_store.proofs.TurnedAway.{kept_for, told_for}
use Rattle.office_store.proofs.opening.open_file.Goals as goal

abbrev image : List ℕ → List ℕ → Image
image log db = record { log = log; db = db }

abbrev seen : List ℕ → List ℕ → Bool → List Event → List ℕ
seen log db is_log history = (replay (cond is_log log db) history).seen

pub prepare_or_hand_back-requires : goal.prepare_or_hand_back-requires
prepare_or_hand_back-requires g c = can_prepare (image_at g.S.Start) (file_state c.in-Ok.conn)
    c.in-Ok.ensures.fresh.autocommit c.in-Ok.ensures.opened c.in-Ok.ensures.found

pub returns-in-Ok-prepare_or_hand_back-clause-opened : goal.returns-in-Ok-prepare_or_hand_back-clause-opened
returns-in-Ok-prepare_or_hand_back-clause-opened g c =
    let it = c.in-Ok-prepare_or_hand_back.ensures in
    opened_of over_files c.args.site.now c.args.absent it.opened (λ clean Says is. held_before (image_at g.S.Start) c.in-Ok.conn
    (record { finds = c.in-Ok.ensures.found; opened = c.in-Ok.ensures.opened; plain = c.in-Ok.ensures.sums })
    (was_clean (file_state c.in-Ok.conn) (file_state c.in-Ok-prepare_or_hand_back.keep.conn) _ it.crash clean) Says is)

pub returns-in-Ok-prepare_or_hand_back-clause-taken : goal.returns-in-Ok-prepare_or_hand_back-clause-taken
returns-in-Ok-prepare_or_hand_back-clause-taken g c = record {
  conn = c.in-Ok.conn;
  found = record { finds = c.in-Ok.ensures.found; opened = c.in-Ok.ensures.opened; plain = c.in-Ok.ensures.sums };
  crash = c.in-Ok-prepare_or_hand_back.ensures.crash;
}

pub returns-in-Err-clause-refused : goal.returns-in-Err-clause-refused
returns-in-Err-clause-refused g c =
    let it = c.in-Err in
    let away = it.ensures.turned_away in
    let held = image_at g.S.Start in
    let found : IsFoundOver held c.in-Ok.conn =
    record { finds = c.in-Ok.ensures.found; opened = c.in-Ok.ensures.opened; plain = c.in-Ok.ensures.sums } in
    let site = c.args.site.now in
    inr (record {
      away = record { conn = c.in-Ok.conn; left = it.conn; found = found; turned_away = away };
      told = λ clean. told_for held c.args.absent site it.fault c.in-Ok.conn it.conn found away (c.close.ensures.was_clean clean);
      kept = λ clean left may. kept_for held c.args.absent site it.fault c.in-Ok.conn it.conn found away
          (c.close.ensures.was_clean clean) (settled_at c.in-Ok.conn.store (λ f. inl refl)) left (c.close.ensures.left clean left may);
    })

pub returns-in-Err-default-Some-clause-refused : goal.returns-in-Err-default-Some-clause-refused
returns-in-Err-default-Some-clause-refused g c =
    let cause = rw c.in-Err-default-Some.field-0-1-is at c.in-Err-default-Some.ensures.cause in
    let back = rw c.in-Err-default-Some.field-0-1-is at c.into_files.ensures in
    let log = cause.1 in
    let db = cause.2 in
    let start = g.S.Start in
    inl (record {
      failed = refl;
      spared = spared cause.0 (image_at start)
          (ap₂ image (ap₂ (seen start.log start.db) log.0 log.1) (ap₂ (seen start.log start.db) db.0 db.1))
          (λ left may. ap₂ image (alone start.is_mixing start.log start.db _ true _ _ left.log log.0 log.1 may.0)
          (alone start.is_mixing start.log start.db _ false _ _ left.db db.0 db.1 may.1))
          c.in-Err-default-Some.left c.into_files.result back (λ clean. (cause.3 clean).1);
    })
