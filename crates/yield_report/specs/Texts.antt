-- The texts of reports: lines of fields with commas between them (RFC 4180), each with a line feed behind it.
use Rattle.std.specs.Prelude.{ℕ, ◌≤◌, List, [], ◌∷◌, ◌++◌, codes, decimal, flat_map, length, map, Option, Some, None, nat_le, if◌then◌else◌}
use Rattle.std.specs.List.{AllByRecursion}
use Rattle.csv.specs.Writing.{default_writer, row_text}
use Rattle.office_tables.specs.Prelude.{largest_number}
use Rattle.office_tables.specs.declared.rows.Order.{Order}
use Rattle.office_tables.specs.declared.rows.Device.{Device}
use Rattle.yield_report.specs.Counts.{HasIssued, Yield, state_names, total, yield_of}

-- the names of the numbers, in their order
abbrev pub number_names : List (List ℕ)
number_names = codes "quantity" ∷ (state_names ++ codes "serials_left" ∷ [])

-- a text of these lines
abbrev pub report_text : List (List (List ℕ)) → List ℕ
report_text lines = flat_map (row_text default_writer) lines

-- the header of a customer's report
abbrev pub order_header : List (List ℕ)
order_header = codes "order" ∷ number_names

-- a customer's report: its header, and a line for each order
abbrev pub order_report_text : HasIssued → List Order → List Device → List ℕ
order_report_text given orders devices = report_text (order_header ∷ map (λ o. o.name ∷ map decimal (yield_of given devices o)) orders)

-- the header of the manager's report
abbrev pub site_header : List (List ℕ)
site_header = codes "customer" ∷ codes "orders" ∷ number_names

-- the sums of the numbers of a customer's orders
abbrev pub customer_total : HasIssued → List Order → List Device → Yield
customer_total given orders devices = total (map (yield_of given devices) orders)

-- a customer's line in the manager's report: the number of its orders, and the sums of their numbers
abbrev pub customer_line : List ℕ → HasIssued → List Order → List Device → List (List ℕ)
customer_line customer given orders devices = customer ∷ map decimal (length orders ∷ customer_total given orders devices)

-- a number, where the tables have room for it
abbrev pub storable : ℕ → Option ℕ
storable n = if nat_le n largest_number then Some n else None

-- numbers that the tables have room for
abbrev pub AreStorable : List ℕ → Type 0
AreStorable ns = AllByRecursion (λ n. n ≤ largest_number) ns
