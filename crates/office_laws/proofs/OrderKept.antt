-- A new order keeps the tables sound, and forgets nothing.
use Rattle.std.proofs.Common.{◌≡◌, ◌∙◌, ℕ, List, None, Some, arith, refl, sym, ap, subst}
use Rattle.std.specs.List.{AllByRecursion}
use Rattle.text_core.specs.Prelude.{first_that_holds}
use Rattle.text_core.proofs.Kit.{none_from_test}
use Rattle.site_core.specs.Prelude.{PoolsDisjoint, IsSection, Ownership, Section}
use Rattle.office_laws.proofs.Types.{Order, OfCustomer, NewOrder}
use Rattle.office_tables.specs.Prelude.{Tables, is_order, order_at, order_cmp, rows_of, with_order}
use Rattle.office_tables.proofs.Finding.{still_there}
use Rattle.office_commands.specs.Prelude.{IsNewOrder}
use Rattle.office_rules.specs.Prelude.{Effect, MakesPuts, at_first, its, office_order_sight, office_sight, order_effect, order_refusals, order_of_request}
use Rattle.office_rules.specs.Prelude.{made_order, Sight}
use Rattle.office_rules.proofs.Refusing.{is_some_map, lowest_none}
use Rattle.office_laws.specs.Prelude.{AreDisjoint, IsInPool, IsOrder, IsSound}
use Rattle.office_laws.proofs.Addresses.{wanted_apart, wanted_in_pool}
use Rattle.office_laws.proofs.Growing.{order_grows}
use Rattle.office_laws.proofs.Lasting.{Lasts, lasts_named}
use Rattle.office_laws.proofs.Looking.{gave, issuer_found, puts_of}
use Rattle.office_laws.proofs.Placed.{pairwise_placed}
use Rattle.office_laws.proofs.Readings.{issuer_owner, wanted_at_first}
use Rattle.office_laws.proofs.RecordRows.{record_after_order}
use Rattle.office_laws.proofs.SoundRows.{order_placed}
use Rattle.office_laws.proofs.Terms.{wanted_terms}
use Rattle.office_laws.proofs.TextKeys.{customer_of, each_same}

-- a new order whose addresses are its own
order_sound : {owners : Ownership} {t : Tables} → IsSound owners t → (o : OfCustomer Order)
    → owners.issuer o.row.issuer ≡ Some o.customer → IsOrder o.row → IsInPool owners o
    → AllByRecursion (λ other. AreDisjoint o.row other.row) t.orders
    → order_at o.customer o.row.name t ≡ None → at_first o.row ≡ o.row
    → IsSound owners (with_order o t)
order_sound {t = t} sound o mine terms in_pool apart new first =
    let at_cursor : o.row.range.first ≡ o.row.cursor = ap (λ (x : Order). x.cursor) first in
    order_placed sound o mine terms in_pool
    (pairwise_placed order_cmp o (λ o other. AreDisjoint o.row other.row)
    (λ other apart mac here there. apart mac there here) t.orders apart sound.orders.apart)
    (λ g is. record_after_order t.orders t.devices g o new g.row.chip is)
    (λ customer name there. still_there (is_order customer name) order_cmp o t.orders
    (each_same customer_of (λ (x : OfCustomer Order). x.row.name) customer name o t.orders) there)
    (λ n least below. absurd (omega (arith, least, below, at_cursor)))

-- an order that is asked for, where nothing refuses it
module _ {owners : Ownership} {t : Tables} (sound : IsSound owners t) (apart : PoolsDisjoint owners)
    (s : Section) (section : IsSection owners s) (seat : List ℕ) where
  abbrev v : Sight
  v = office_sight s seat t

  pub order_kept : (n : NewOrder) (e : Effect) (mid : Tables) → IsNewOrder n
      → first_that_holds (order_refusals s v n) ≡ None → order_effect s v n ≡ Some e
      → MakesPuts s e.puts t mid → Lasts owners t mid
  order_kept n e mid asked free is puts =
      let none = lowest_none (order_refusals s v n) free in
      let given = gave (v.issuer n.issuer) _ e is in
      let mine = issuer_owner s section n.issuer
      (issuer_found s t n.issuer given.0 given.1).0 in
      let w : Order = made_order s v n in
      let same : order_of_request s.pools (rows_of s.name t.orders) n ≡ w = wanted_at_first s t n in
      let new : order_at s.name n.name t ≡ None = none_from_test _
      (sym (is_some_map (office_order_sight s.name t) (order_at s.name n.name t)) ∙ none.0) in
      let change = puts_of s t mid given.2 puts in
      lasts_named (change.2 ∙ change.1) (record {
        sound = order_sound sound (its s w) mine (wanted_terms s v n asked none)
            (subst (λ (o : Order). IsInPool owners (its s o)) same
            (wanted_in_pool owners s section t n))
            (subst (λ (o : Order). AllByRecursion (λ other. AreDisjoint o other.row) t.orders)
            same (wanted_apart owners apart s section t n sound.orders.in_pools)) new refl;
        grows = order_grows t (its s w) new sound.references;
      })
