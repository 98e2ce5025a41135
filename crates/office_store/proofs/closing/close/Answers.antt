-- What a close leaves of the two files, as the kit says it of the connection with which the keeper ends.
use Rattle.text_core.proofs.Kit.{arith, subst}
use Rattle.sqlite.specs.Closing.{IsCopied}
use Rattle.sqlite.specs.Files.{IsClosed}
use Rattle.office_sql.proofs.Kit.{HasCleanDisk, file_state}
use Rattle.office_store.proofs.closing.close.Goals as goal

pub returns-in-Ok : goal.returns-in-Ok
returns-in-Ok g c = λ calm.
    let conn = c.connection_of-conn.ensures in
    let is = subst (λ h. IsCopied h c.in-Ok.files) conn.same (c.in-Ok.ensures.copied calm) in
    let may = conn.may is.was_open in
    record {
      was_honest = is.was_clean;
      was_open = is.was_open;
      last = (may, conn.left is.was_clean (file_state c.args.keep.conn).committed.trees may);
      held = is.left;
    }

pub returns-in-Err : goal.returns-in-Err
returns-in-Err g c = λ clean.
    let conn = c.connection_of-conn.ensures in
    let is = subst (λ h. IsClosed h c.in-Err.store) conn.same c.in-Err.ensures.err.0 in
    let calm : HasCleanDisk (file_state c.args.keep.conn) = omega (arith, is.quiet.clean, clean) in
    record {
      was_honest = calm;
      found = λ db recovers.
          let may = is.quiet.outcomes db recovers in
          (may, conn.left calm db may);
    }
