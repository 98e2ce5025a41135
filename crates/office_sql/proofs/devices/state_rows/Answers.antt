-- What the query of a customer's devices shows are their orders and states.
use Rattle.std.proofs.Common.{refl, [], ◌∷◌}
use Rattle.sqlite.specs.declared.types.Value.TheVariants.{Text}
use Rattle.office_sql.specs.Prelude.{devices}
use Rattle.office_sql.proofs.Reading.{asked}
use Rattle.office_sql.proofs.DeviceTexts.{states_read, states_shown_are}
use Rattle.office_sql.proofs.devices.state_rows.Goals as goal

pub returns : goal.returns
returns g c =
    let customer = c.args.customer.now in
    asked g.S.Store states_read _ (Text customer
    ∷ []) (rw (c.params-to_sql.ensures, c.as_str.ensures.same) refl)
    c.args.conn.now c.query_all.new.self c.query_all.result _ c.requires
    (λ rows office s. states_shown_are customer _ rows.items (office.rows devices) s)
    c.query_all.ensures.ok c.query_all.ensures.err c.query_all.ensures.mode c.query_all.ensures.survives
