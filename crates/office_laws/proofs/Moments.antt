-- What holds at each moment of a run.
use Rattle.std.proofs.Common.{◌≡◌, ◌∙◌, ℕ, false, List, [], ◌∷◌, ◌++◌, Option, Some, None, refl, ap, subst, IfSome, IsSomeAnd}
use Rattle.std.specs.List.{AllByRecursion}
use Rattle.site_core.specs.Prelude.{Ownership}
use Rattle.office_tables.specs.Prelude.{Tables, device_at, given_at, is_serial_of, order_at}
use Rattle.office_laws.proofs.Types.{Device, Given, Order, OfCustomer}
use Rattle.office_rules.specs.Prelude.{map_named, block_from}
use Rattle.office_laws.specs.Prelude.{addresses_of, Grows, DeviceStays, IsSound, IsOfDevice, IsOfOrder, IsRecordOf}
use Rattle.office_laws.specs.Prelude.{Call, Exchange, IsCut, SeatRun, calls_of, AreNotImported, AreSeats}
use Rattle.office_laws.proofs.Growing.{OrderStays}
use Rattle.office_laws.proofs.Readings.{find_holds}
use Rattle.office_laws.proofs.RecordAddresses.{addresses_for, addresses_in, addresses_with}
use Rattle.office_laws.proofs.Grown.{growth_itself}
use Rattle.office_laws.proofs.Stopping.{calls_joined}
use Rattle.office_laws.proofs.RunLaws.{run_grows, run_sound}

-- seats that make some calls and then others, by the site in between
seats_parted : (first : Ownership) (cs ds : List Call) (last : Ownership) → AreSeats first (cs ++ ds) last
    → (site : Ownership) × AreSeats first cs site × AreSeats site ds last
seats_parted first [] ds last seats = (first, growth_itself first, seats)
seats_parted first (c ∷ cs) ds last seats =
    let later = seats_parted seats.0 cs ds last seats.4 in
    (later.0, (seats.0, seats.1, seats.2, seats.3, later.1), later.2)

-- the tables at a moment of a run are sound for the site as it stands then, and keep what they have
-- to its end
pub moment : (r : SeatRun) (front back : List Exchange) (middle : Tables)
    → IsCut r front middle back
    → (site : Ownership) × IsSound site middle × Grows middle r.new
moment r front back middle cut =
    let joined : AreSeats r.first (calls_of front ++ calls_of back) r.last =
    subst (λ (cs : List Call). AreSeats r.first cs r.last)
    (ap (λ (xs : List Exchange). calls_of xs) cut.0 ∙ calls_joined front back) r.are_seats in
    let parts = seats_parted r.first (calls_of front) (calls_of back) r.last joined in
    let now : IsSound parts.0 middle =
    run_sound r.first front parts.0 r.old middle r.is_sound parts.1 cut.1 in
    (parts.0, now, run_grows parts.0 back r.last middle r.new now parts.2 cut.2)

-- what an import recorded stays so
pub not_imported_before : (mid t2 : Tables) (gifts : List (OfCustomer Given)) → Grows mid t2
    → AreNotImported t2 gifts → AreNotImported mid gifts
not_imported_before mid t2 gifts grows none issuer serial =
    by (given_at issuer serial mid) (grows.given issuer serial)
  where
    by : (found : Option (OfCustomer Given)) → IfSome found (λ g. given_at issuer serial t2 ≡ Some g)
        → IfSome found (λ r. r.row.chip ≡ None
        → AllByRecursion (λ g. is_serial_of issuer serial g ≡ false) gifts)
    by None stands = tt
    by (Some r) stands = let later = none issuer serial in rw stands at later

-- the addresses of a record that stands stay: its device keeps its order, and the order the count
-- of its addresses
module _ {owners : Ownership} (t t2 : Tables) (sound : IsSound owners t) (grows : Grows t t2)
    (g : OfCustomer Given) where
  by_order : (before after : Option (OfCustomer Order)) → IsSomeAnd before (λ o. IsOfOrder o.row g.row)
      → OrderStays before after → addresses_in after g.row ≡ addresses_in before g.row
  by_order None after there stays = absurd there
  by_order (Some o) None there stays = absurd stays
  by_order (Some o) (Some later) there stays = ap (λ (o : Order). block_from g.row.mac o.macs) stays

  by_device : (before after : Option (OfCustomer Device)) → IsSomeAnd before (IsOfDevice t.orders g)
      → IfSome before (λ old. IsSomeAnd after
      (λ new. DeviceStays (map_named g.customer old.row.map t) old.row new.row))
      → addresses_with t2 g after ≡ addresses_with t g before
  by_device None after there stays = absurd there
  by_device (Some d) None there stays = absurd stays
  by_device (Some d) (Some later) there stays =
      ap (λ name. addresses_in (order_at g.customer name t2) g.row) stays.order
      ∙ by_order (order_at g.customer d.row.order t) (order_at g.customer d.row.order t2) there.1
      (grows.orders g.customer d.row.order)

  by_chip : (chip : Option (List ℕ)) → IsRecordOf t.orders t.devices g chip
      → addresses_for t2 g chip ≡ addresses_for t g chip
  by_chip None is = refl
  by_chip (Some chip) is =
      by_device (device_at g.customer chip t) (device_at g.customer chip t2) is
      (grows.devices g.customer chip)

  pub addresses_stay : given_at g.row.issuer g.row.serial t ≡ Some g
      → addresses_of t2 g ≡ addresses_of t g
  addresses_stay found =
      by_chip g.row.chip (find_holds (λ (g : OfCustomer Given). IsRecordOf t.orders t.devices g
      g.row.chip) (is_serial_of g.row.issuer g.row.serial) t.given g sound.origins found).0
