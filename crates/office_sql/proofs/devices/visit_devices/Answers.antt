use Rattle.std.proofs.Common.{refl, [], ◌∷◌, filter}
use Rattle.sqlite.specs.declared.types.Value.TheVariants.{Null, Text}
use Rattle.office_tables.specs.Prelude.{is_of}
use Rattle.office_sql.specs.Prelude.{devices, device_in_row}
use Rattle.office_sql.proofs.DeviceTexts.{own_read, own_shown}
use Rattle.office_sql.proofs.Visiting.{bare_returns, visits}
use Rattle.office_sql.proofs.devices.visit_devices.Goals as goal

pub visit_rows-requires : goal.visit_rows-requires
visit_rows-requires g c = bare_returns _ own_read.bare c.args.conn.now.schema

pub returns : goal.returns
returns g c =
    let customer = c.args.customer.now in
    visits g.S.Store own_read _ (Text customer
    ∷ []) (rw (c.params-to_sql.ensures, c.as_str.ensures.same) refl)
    c.args.conn.now c.visit_rows.new.conn
    g.K.Sink.takes (λ r. device_in_row (Null ∷ r)) c.visit_rows.result c.args.sink.now c.visit_rows.new.sink (λ t. filter (is_of customer) t.devices) c.requires
    (λ rows office s. own_shown customer _ rows (office.rows devices) s)
    c.visit_rows.ensures.visited c.visit_rows.ensures.same c.visit_rows.ensures.rests c.visit_rows.ensures.mode c.visit_rows.ensures.crash
