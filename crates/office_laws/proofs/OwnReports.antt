-- The report of a customer's orders tells what the customer's own rows tell.
use Rattle.std.proofs.Common.{◌≡◌, ℕ, Bool, List, [], ◌∷◌, map, refl, ap, is_some, decimal}
use Rattle.std.specs.List.{AllByRecursion}
use Rattle.site_core.specs.Prelude.{Ownership}
use Rattle.office_tables.specs.Prelude.{Tables, given_at, rows_of}
use Rattle.office_laws.proofs.Types.{Device, Order}
use Rattle.office_laws.specs.Prelude.{is_issued, IsSound, view}
use Rattle.office_rules.specs.Prelude.{at_first}
use Rattle.office_laws.proofs.Readings.{own_given}
use Rattle.yield_report.specs.Prelude.{order_report_text, has_issued_in, order_report_in, HasIssued, order_header, report_text, yield_of}

-- an order's line
abbrev order_line : HasIssued → List Device → Order → List (List ℕ)
order_line given devices o = o.name ∷ map decimal (yield_of given devices o)

-- an order's line, by the serial numbers that are given in its issuer
abbrev line_with : List Device → Order → (List ℕ → Bool) → List (List ℕ)
line_with devices o given = order_line (λ issuer. given) devices o

-- it reads no cursor, and asks for serial numbers of the order's own issuer alone
lines_own : (c : List ℕ) (t : Tables) (devices : List Device) (orders : List Order)
    → AllByRecursion (λ o. (serial : List ℕ) → is_some (given_at o.issuer serial t) ≡ is_issued (view c t) o.issuer serial) orders
    → map (order_line (has_issued_in t) devices) orders ≡ map (order_line (is_issued (view c t)) devices) (map at_first orders)
lines_own c t devices [] given = refl
lines_own c t devices (o ∷ orders) given = λ i. line_with devices o (λ serial. given.0 serial i) ∷ lines_own c t devices orders given.1 i

-- the report over the tables is the one by the customer's own rows
pub report_own : {owners : Ownership} {t : Tables} → IsSound owners t → (c : List ℕ) → order_report_in c t
    ≡ order_report_text (is_issued (view c t)) (view c t).orders (view c t).devices
report_own {t = t} sound c = ap (λ lines. report_text (order_header ∷ lines)) (lines_own c t (rows_of c t.devices) (rows_of c t.orders) (own_given sound c))
