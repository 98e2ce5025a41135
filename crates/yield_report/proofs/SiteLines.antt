-- The sums of lines, and the lines of a site's report.
use Rattle.std.proofs.Common.{◌≡◌, ℕ, ◌+◌, ◌<◌, ◌≤◌, List, [], ◌∷◌, ◌++◌, length, take, get_or, map, subst, refl, sym, ap, ap₂, ◌∙◌, All}
use Rattle.std.proofs.lemmas.List.{length-map, map_push, take_more}
use Rattle.std.proofs.lemmas.List.Elements.{recursion_from_All, All-push}
use Rattle.site_core.specs.Prelude.{SiteValue}
use Rattle.office_tables.specs.Prelude.{Tables, rows_of}
use Rattle.yield_report.specs.Prelude.{Yield, total, whole_line, customer_line_in, sorted_customers, has_issued_in, IsSiteReport, named_numbers, numbers_in}
use Rattle.yield_report.specs.Prelude.{with_report_row, AreWhole, FitsCustomer, customer_total, report_text, site_header, AreStorable}
use Rattle.yield_report.specs.declared.lines.OrderLine.{OrderLine}
use Rattle.yield_report.proofs.WholeLines.{map_both, report_more}

-- the line of a customer, and that the tables have room for its numbers
pub customer_is : (customer : List ℕ) (t : Tables) (lines : List OrderLine) (sums : Yield) (count : ℕ) (before after : List ℕ)
    → AreWhole customer t lines → sums ≡ total (numbers_in lines) → count ≡ length lines → count ≤ 9223372036854775807 → AreStorable sums
    → after ≡ with_report_row before (named_numbers customer (count ∷ sums))
    → (after ≡ with_report_row before (customer_line_in t customer)) × FitsCustomer t customer
customer_is customer t lines sums count before after is summed counted low fit text =
    let given = has_issued_in t in
    let orders = rows_of customer t.orders in
    let devices = rows_of customer t.devices in
    let whole = map_both (λ (l : OrderLine). l.numbers) (whole_line given devices) _ (λ o. refl) orders in
    let all : sums ≡ customer_total given orders devices =
    summed ∙ (ap (λ (ls : List OrderLine). total (numbers_in ls)) is.0 ∙ ap total whole) in
    let number : count ≡ length orders = counted ∙ (ap length is.0 ∙ length-map orders (whole_line given devices)) in
    let both : AreStorable (count ∷ sums) = (low, fit) in
    (text ∙ ap₂ (λ (n : ℕ) (y : Yield). with_report_row before (named_numbers customer (n ∷ y))) number all, rw (number, all) at both)

-- the report of these customers, of numbers that the tables have room for
abbrev pub IsReported : Tables → List (List ℕ) → List ℕ → Type 0
IsReported t names text = (text ≡ report_text (site_header ∷ map (customer_line_in t) names)) × All (FitsCustomer t) names

-- the report with one customer more, by tables that didn't change
pub site_more : (t u : Tables) (names : List (List ℕ)) (i : ℕ) (customer before after : List ℕ) → i < length names → customer ≡ get_or names i customer
    → IsReported t (take i names) before → u ≡ t → (after ≡ with_report_row before (customer_line_in u customer)) × FitsCustomer u customer
    → IsReported t (take (i + 1) names) after
site_more t u names i customer before after within here was same answer =
    let line = subst (λ v. (after ≡ with_report_row before (customer_line_in v customer)) × FitsCustomer v customer) same answer in
    let rows = map (customer_line_in t) (take i names) in
    let more : take (i + 1) names ≡ take i names ++ customer ∷ [] =
    take_more names i customer within ∙ ap (λ (c : List ℕ). take i names ++ c ∷ []) (sym here) in
    subst (λ ns. IsReported t ns after) (sym more) (
      line.0 ∙ (ap (λ text. with_report_row text (customer_line_in t customer)) was.0 ∙ (report_more site_header rows (customer_line_in t customer)
          ∙ ap (λ (rs : List (List (List ℕ))). report_text (site_header ∷ rs)) (sym (map_push (customer_line_in t) (take i names) customer)))),
      All-push (FitsCustomer t) (take i names) customer was.1 line.1,
    )

-- the whole report
pub site_is : (site : SiteValue) (t : Tables) (names : List (List ℕ)) (text : List ℕ) → names ≡ sorted_customers site → IsReported t names text
    → IsSiteReport site t text
site_is site t names text is all =
    let whole = subst (λ ns. IsReported t ns text) is all in (whole.0, recursion_from_All (FitsCustomer t) (sorted_customers site) whole.1)
