-- The lines of orders, once all rows were read, and their report.
use Rattle.std.proofs.Common.{◌≡◌, ◌∷◌, ◌++◌, ◌+◌, ◌<◌, All, get_or}
use Rattle.text_core.proofs.Kit.{ℕ, List, [], map, refl, sym, ap, ◌∙◌, AllByRecursion, flat_map_more, map_push, recursion_from_All, length, take}
use Rattle.std.proofs.lemmas.List.{take_more}
use Rattle.std.proofs.lemmas.List.Elements.{All-push}
use Rattle.csv.specs.Writing.{default_writer, row_text}
use Rattle.office_tables.specs.declared.rows.Device.{Device}
use Rattle.office_tables.specs.declared.rows.Order.{Order}
use Rattle.office_tables.specs.Prelude.{Tables, rows_of}
use Rattle.yield_report.specs.Prelude.{has_issued_in, line_fields, lines_text, order_header, report_text, whole_line, yield_of, head_of, line_of}
use Rattle.yield_report.specs.Prelude.{AreStorable, AreWhole, HasIssued}
use Rattle.yield_report.specs.Prelude.{IsOrderReport}
use Rattle.yield_report.specs.declared.lines.OrderHead.{OrderHead}
use Rattle.yield_report.specs.declared.lines.OrderLine.{OrderLine}

-- one function after another, element by element
pub map_both : {X Y Z : Type 0} (f : Y → Z) (g : X → Y) (h : X → Z) → ((x : X) → f (g x) ≡ h x) → (xs : List X) → map f (map g xs) ≡ map h xs
map_both f g h same [] = refl
map_both f g h same (x ∷ xs) = λ i. same x i ∷ map_both f g h same xs i

numbers_fit : (given : HasIssued) (devices : List Device) (orders : List Order)
    → AllByRecursion (λ (line : OrderLine). AreStorable line.numbers) (map (whole_line given devices) orders)
    → AllByRecursion (λ o. AreStorable (yield_of given devices o)) orders
numbers_fit given devices [] are = tt
numbers_fit given devices (o ∷ os) are = (are.0, numbers_fit given devices os are.1)

-- the report of these lines
pub report_of_lines : (customer : List ℕ) (t : Tables) (lines : List OrderLine) (text : List ℕ) → AreWhole customer t lines → text ≡ lines_text lines
    → IsOrderReport customer t text
report_of_lines customer t lines text are answer =
    let given = has_issued_in t in
    let devices = rows_of customer t.devices in
    let fields = map_both line_fields (whole_line given devices) _ (λ o. refl) (rows_of customer t.orders) in
    let fit : All (λ (line : OrderLine). AreStorable line.numbers) (map (whole_line given devices) (rows_of customer t.orders)) = rw are.0 at are.1 in (
      answer ∙ (ap lines_text are.0 ∙ ap (λ rows. report_text (order_header ∷ rows)) fields),
      numbers_fit given devices (rows_of customer t.orders) (recursion_from_All (λ (line : OrderLine). AreStorable line.numbers) _ fit),
    )

-- a report with one row more
pub report_more : (first : List (List ℕ)) (rows : List (List (List ℕ))) (row : List (List ℕ))
    → report_text (first ∷ rows) ++ row_text default_writer row ≡ report_text (first ∷ (rows ++ row ∷ []))
report_more first rows row = flat_map_more (row_text default_writer) (row_text default_writer first) rows row

pub lines_text_more : (lines : List OrderLine) (line : OrderLine)
    → lines_text lines ++ row_text default_writer (line_fields line) ≡ lines_text (lines ++ line ∷ [])
lines_text_more lines line =
    report_more order_header (map line_fields lines) (line_fields line)
    ∙ ap (λ (rows : List (List (List ℕ))). report_text (order_header ∷ rows)) (sym (map_push line_fields lines line))

-- these are the lines of these
abbrev pub AreLinesOf : HasIssued → List Device → List OrderHead → List OrderLine → Type 0
AreLinesOf given devices heads lines = (lines ≡ map (line_of given devices) heads) × All (λ (line : OrderLine). AreStorable line.numbers) lines

-- one order more
pub lines_more : (given : HasIssued) (devices : List Device) (heads : List OrderHead) (i : ℕ) (h : OrderHead) (before : List OrderLine) (line : OrderLine)
    → i < length heads → h ≡ get_or heads i h → AreLinesOf given devices (take i heads) before
    → (line ≡ line_of given devices h) × AreStorable line.numbers → AreLinesOf given devices (take (i + 1) heads) (before ++ line ∷ [])
lines_more given devices heads i h before line within here was answer =
    let more : take (i + 1) heads ≡ take i heads ++ h ∷ [] =
    take_more heads i h within ∙ ap (λ (x : OrderHead). take i heads ++ x ∷ []) (sym here) in (
      ap (λ ls. ls ++ line ∷ []) was.0 ∙ ap (λ (l : OrderLine). map (line_of given devices) (take i heads) ++ l ∷ []) answer.0
          ∙ sym (map_push (line_of given devices) (take i heads) h) ∙ ap (map (line_of given devices)) (sym more),
      All-push (λ (l : OrderLine). AreStorable l.numbers) before line was.1 answer.1,
    )

-- the lines of all orders of a customer
pub all_lines : (customer : List ℕ) (t : Tables) (heads : List OrderHead) (lines : List OrderLine) → heads ≡ map head_of (rows_of customer t.orders)
    → AreLinesOf (has_issued_in t) (rows_of customer t.devices) heads lines → AreWhole customer t lines
all_lines customer t heads lines is are =
    let given = has_issued_in t in
    let devices = rows_of customer t.devices in
    let each = map_both (line_of given devices) head_of (whole_line given devices) (λ o. refl) (rows_of customer t.orders) in (
      are.0 ∙ (ap (map (line_of given devices)) is ∙ each),
      are.1,
    )
