-- Rows of a report, as the program makes them.
use Rattle.std.specs.Prelude.{◌≡◌, ℕ, ◌++◌, List, ◌∷◌, All, decimal, length, map}
use Rattle.csv.specs.Writing.{default_writer, row_text}
use Rattle.office_tables.specs.Prelude.{Tables, rows_of}
use Rattle.yield_report.specs.Lines.{whole_line}
use Rattle.yield_report.specs.Counts.{has_issued_in}
use Rattle.yield_report.specs.Texts.{customer_total, order_header, report_text, AreStorable}
use Rattle.yield_report.specs.declared.lines.OrderLine.{OrderLine}
use Rattle.yield_report.specs.Counts.{Yield}

-- a text with one row more
abbrev pub with_report_row : List ℕ → List (List ℕ) → List ℕ
with_report_row text fields = text ++ row_text default_writer fields

-- a name and the numbers of its line
abbrev pub named_numbers : List ℕ → List ℕ → List (List ℕ)
named_numbers name numbers = name ∷ map decimal numbers

-- the fields of an order's line
abbrev pub line_fields : OrderLine → List (List ℕ)
line_fields line = named_numbers line.name line.numbers

-- the report of these lines
abbrev pub lines_text : List OrderLine → List ℕ
lines_text lines = report_text (order_header ∷ map line_fields lines)

-- the numbers of each line
abbrev pub numbers_in : List OrderLine → List Yield
numbers_in lines = map (λ line. line.numbers) lines

-- these are the whole lines of a customer's orders, with numbers that the tables have room for
abbrev pub AreWhole : List ℕ → Tables → List OrderLine → Type 0
AreWhole customer t lines =
    (lines ≡ map (whole_line (has_issued_in t) (rows_of customer t.devices)) (rows_of customer t.orders))
    × All (λ line. AreStorable line.numbers) lines

-- the tables have room for the numbers of a customer's line
abbrev pub FitsCustomer : Tables → List ℕ → Type 0
FitsCustomer t customer =
    AreStorable (length (rows_of customer t.orders) ∷ customer_total (has_issued_in t) (rows_of customer t.orders) (rows_of customer t.devices))
