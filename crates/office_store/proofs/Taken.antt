-- The states of a customer's devices tell how many places of an order are taken.
use Rattle.std.proofs.Common.{◌≡◌, ◌∷◌}
use Rattle.text_core.proofs.Kit.{◌∙◌, ℕ, suc, true, false, cond, List, [], length, refl, ap, filter, map}
use Rattle.office_tables.specs.Prelude.{places_taken, takes_place, is_of, rows_of}
use Rattle.office_store.proofs.KeepTypes.{OfCustomer, Device, OrderState}
use Rattle.office_sql.specs.Prelude.{order_state}
use Rattle.office_store.specs.Prelude.{takes}

states_taken : (order : List ℕ) (l : List (OfCustomer Device)) → length (filter (takes order) (map order_state l)) ≡ places_taken order (map (λ d. d.row) l)
states_taken order [] = refl
states_taken order (d ∷ l) =
    elim (takes_place order d.row) as (λ b.
    length (cond b (order_state d
    ∷ filter (takes order) (map order_state l)) (filter (takes order) (map order_state l)))
    ≡ length (cond b (d.row
    ∷ filter (takes_place order) (map (λ d. d.row) l)) (filter (takes_place order) (map (λ d.
    d.row) l)))) [
      | true ↦ ap suc (states_taken order l)
      | false ↦ states_taken order l
    ]

-- the states of a customer's devices tell how many places of an order are taken
pub states_tell : (customer order : List ℕ) (rows : List (OfCustomer Device))
    (states : List OrderState) → states ≡ map order_state (filter (is_of customer) rows)
    → length (filter (takes order) states) ≡ places_taken order (rows_of customer rows)
states_tell customer order rows states is = ap (λ l. length (filter (takes order) l)) is ∙ states_taken order (filter (is_of customer) rows)
