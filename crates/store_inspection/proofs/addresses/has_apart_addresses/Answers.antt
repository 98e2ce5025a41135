use Rattle.sqlite.specs.Held.{state}
use Rattle.office_sql.proofs.Visiting.{bare_returns}
use Rattle.store_inspection.proofs.AddressRows.{addresses_read}
use Rattle.store_inspection.proofs.AddressWalk.{walk_tells}
use Rattle.store_inspection.specs.declared.version.Version.TheVariants.{V1}
use Rattle.store_inspection.proofs.addresses.has_apart_addresses.Goals as goal

pub has_no_repeat-requires : goal.has_no_repeat-requires
has_no_repeat-requires g c = bare_returns _ (addresses_read V1).bare c.args.conn.now.schema

pub returns : goal.returns
returns g c =
    let old = state g.S.Store c.args.conn.now in
    let new = state g.S.Store c.has_no_repeat.new.conn in
    let it = c.has_no_repeat.ensures in
    record {
      answer = λ clean. walk_tells old new c.requires.0 c.requires.1 c.has_no_repeat.result (it.walked clean) (it.same clean);
      same = it.same;
      rests = it.rests;
      mode = it.mode;
      crash = it.crash;
    }
