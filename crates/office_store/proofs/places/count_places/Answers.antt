-- The states of the customer's devices tell how many places of the order are taken.
use Rattle.std.proofs.Common.{◌≡◌, ◌∙◌, List, ap, length, map, filter, Vec}
use Rattle.std.specs.declared.alloc.Global.{Global}
use Rattle.office_tables.specs.Prelude.{places_taken, is_of, rows_of}
use Rattle.office_store.proofs.KeepTypes.{OrderState}
use Rattle.office_sql.specs.Prelude.{order_state}
use Rattle.office_store.specs.Prelude.{takes}
use Rattle.office_store.proofs.MadeAnswers.{asks_of}
use Rattle.office_store.proofs.Taken.{states_tell}
use Rattle.office_store.proofs.places.count_places.Goals as goal

pub returns-in-Ok : goal.returns-in-Ok
returns-in-Ok g c =
    let customer = c.args.customer.now in
    let order = c.args.order.now in
    asks_of g.S.Store c.args.conn.now c.order_states.new.conn c.order_states.result c.in-Ok.states c.places_in.result
    (λ t (states : Vec OrderState Global). states.items
    ≡ map order_state (filter (is_of customer) t.devices)) (λ t count. count
    ≡ places_taken order (rows_of customer t.devices))
    c.in-Ok.is c.order_states.ensures
    (λ t is. c.places_in.ensures
    ∙ ap (λ (l : List OrderState).
    length (filter (takes order) l)) c.as_slice.ensures.value
    ∙ states_tell customer order t.devices c.in-Ok.states.items is)
