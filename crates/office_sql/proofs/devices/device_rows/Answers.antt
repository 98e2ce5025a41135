-- What the query of a device shows is that device.
use Rattle.std.proofs.Common.{refl, [], ◌∷◌}
use Rattle.sqlite.specs.declared.types.Value.TheVariants.{Text}
use Rattle.office_sql.specs.Prelude.{devices}
use Rattle.office_sql.proofs.Reading.{asked}
use Rattle.office_sql.proofs.DeviceTexts.{one_read, one_shown}
use Rattle.office_sql.proofs.devices.device_rows.Goals as goal

pub returns : goal.returns
returns g c =
    let customer = c.args.customer.now in
    let chip = c.args.chip.now in
    asked g.S.Store one_read _ (Text customer ∷ Text chip ∷ [])
    (rw (
      c.params-to_sql.ensures,
      c.params-to_sql-2.ensures,
      c.as_str.ensures.same,
      c.as_str-2.ensures.same,
    ) refl)
    c.args.conn.now c.query_all.new.self c.query_all.result _ c.requires
    (λ rows office s. one_shown customer chip _ rows.items (office.rows devices) s)
    c.query_all.ensures.ok c.query_all.ensures.err c.query_all.ensures.mode c.query_all.ensures.survives
