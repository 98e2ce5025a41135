-- The reports of the tables of all customers.
use Rattle.std.specs.Prelude.{◌≡◌, ℕ, List, [], ◌∷◌, length, map}
use Rattle.std.specs.List.{AllByRecursion}
use Rattle.site_core.specs.Prelude.{SiteValue}
use Rattle.office_tables.specs.Prelude.{Tables, rows_of, with_row, text_cmp}
use Rattle.yield_report.specs.Counts.{has_issued_in, yield_of}
use Rattle.yield_report.specs.Texts.{AreStorable, customer_line, customer_total, order_report_text, report_text, site_header}

-- a customer's report, its orders in the order of their names
abbrev pub order_report_in : List ℕ → Tables → List ℕ
order_report_in customer t = order_report_text (has_issued_in t) (rows_of customer t.orders) (rows_of customer t.devices)

-- the report of a customer, of numbers that the tables have room for
abbrev pub IsOrderReport : List ℕ → Tables → List ℕ → Type 0
IsOrderReport customer t text =
    (text ≡ order_report_in customer t)
    × AllByRecursion (λ o. AreStorable (yield_of (has_issued_in t) (rows_of customer t.devices) o)) (rows_of customer t.orders)

-- names in the order of their bytes
abbrev pub sorted_names : List (List ℕ) → List (List ℕ)
sorted_names [] = []
sorted_names (name ∷ names) = with_row text_cmp name (sorted_names names)

-- the site's customers in the order of their names' bytes
abbrev pub sorted_customers : SiteValue → List (List ℕ)
sorted_customers site = sorted_names (map (λ c. c.name) site.customers)

-- the line of a customer in the site's report, by the tables
abbrev pub customer_line_in : Tables → List ℕ → List (List ℕ)
customer_line_in t customer = customer_line customer (has_issued_in t) (rows_of customer t.orders) (rows_of customer t.devices)

-- the manager's report: a line for each customer of the site
abbrev pub site_report_in : SiteValue → Tables → List ℕ
site_report_in site t = report_text (site_header ∷ map (customer_line_in t) (sorted_customers site))

-- the report of a site, of numbers that the tables have room for
abbrev pub IsSiteReport : SiteValue → Tables → List ℕ → Type 0
IsSiteReport site t text =
    (text ≡ site_report_in site t)
    × AllByRecursion (λ customer. AreStorable (length (rows_of customer t.orders)
    ∷ customer_total (has_issued_in t) (rows_of customer t.orders) (rows_of customer t.devices)))
    (sorted_customers site)
