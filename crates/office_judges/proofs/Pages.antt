-- What a page holds once a list of devices was met.
use Rattle.std.proofs.Common.{◌≡◌, ◌<◌, ◌≤◌, ◌+◌, ◌++◌, ◌∷◌}
use Rattle.std.proofs.lemmas.List.{take-append-le}
use Rattle.text_core.proofs.Kit.{ℕ, suc, is_some, true, false, List, [], map, Option, Some, None, refl, sym, ap, ◌∙◌, length, take, take_all, subst, arith}
use Rattle.text_core.proofs.Kit.{append-nil, append_assoc, length-append, nat_lt, le-ltb, lt-ltb}
use Rattle.office_judges.proofs.Types.{OfCustomer, Device, PageScan}
use Rattle.office_tables.specs.Prelude.{rows_of, text_cmp, Visits}
use Rattle.office_tables.proofs.Placing.{filter_own}
use Rattle.office_rules.specs.Prelude.{devices_behind, page_limit}
use Rattle.office_judges.specs.Prelude.{visited_behind, GathersPage}
use Rattle.std.specs.Ordering.{is_lt}

abbrev devices_in : List (OfCustomer Device) → List Device
devices_in rows = map (λ o. o.row) rows

-- the rows that are met are the customer's devices behind the chip
pub met : (customer : List ℕ) (after : Option (List ℕ)) (rows : List (OfCustomer Device))
    → devices_in (visited_behind customer after rows) ≡ devices_behind after (rows_of customer rows)
met customer None rows = refl
met customer (Some chip) rows = filter_own customer (λ d. is_lt (text_cmp chip d.chip)) rows

-- a walk that didn't run out of memory has filled the page
pub page_shown : (old : PageScan) (rows : List (OfCustomer Device)) (new : PageScan) → Visits GathersPage old rows new → is_some new.failed ≡ false
    → length old.devices.items ≤ page_limit
    → new.devices.items ≡ take page_limit (old.devices.items ++ devices_in rows)
page_shown old [] new v room low =
    let short : length (old.devices.items ++ []) ≤ page_limit = subst (λ l. length l ≤ page_limit) (sym (append-nil old.devices.items)) low in
    ap (λ (s : PageScan). s.devices.items) v ∙ sym (append-nil old.devices.items) ∙ sym (take_all page_limit (old.devices.items ++ []) short)
page_shown old (row ∷ rows) new (true, mid, taken, later) room low =
    let place : length (old.devices.items ++ row.row ∷ []) ≡ length old.devices.items + 1 = length-append old.devices.items (row.row ∷ []) in
    let free = taken.room refl in
    let short : length mid.devices.items ≤ page_limit = subst (λ l. length l ≤ page_limit) (sym (taken.devices refl)) (omega (arith, place, free)) in
    page_shown mid rows new later room short
    ∙ ap (take page_limit) (ap (λ l. l ++ devices_in rows) (taken.devices refl) ∙ append_assoc old.devices.items (row.row ∷ []) (devices_in rows))
page_shown old (row ∷ rows) new (false, mid, taken, later) room low =
    let fits = sym (ap (λ (s : PageScan). is_some s.failed) later) ∙ room in
    ap (λ (s : PageScan). s.devices.items) later ∙ taken.kept refl fits
    ∙ sym (take-append-le page_limit old.devices.items (devices_in (row ∷ rows)) (taken.full refl fits)
    ∙ take_all page_limit old.devices.items low)

-- a walk that didn't run out of memory knows whether it leaves devices behind the page
pub page_left : (old : PageScan) (rows : List (OfCustomer Device)) (new : PageScan) → Visits GathersPage old rows new → is_some new.failed ≡ false
    → length old.devices.items ≤ page_limit → old.has_more ≡ false
    → new.has_more ≡ nat_lt page_limit (length (old.devices.items ++ devices_in rows))
page_left old [] new v room low none =
    let short : length (old.devices.items ++ []) ≤ page_limit = subst (λ l. length l ≤ page_limit) (sym (append-nil old.devices.items)) low in
    ap (λ (s : PageScan). s.has_more) v ∙ none ∙ sym (le-ltb page_limit (length (old.devices.items ++ [])) short)
page_left old (row ∷ rows) new (true, mid, taken, later) room low none =
    let place : length (old.devices.items ++ row.row ∷ []) ≡ length old.devices.items + 1 = length-append old.devices.items (row.row ∷ []) in
    let free = taken.room refl in
    let short : length mid.devices.items ≤ page_limit = subst (λ l. length l ≤ page_limit) (sym (taken.devices refl)) (omega (arith, place, free)) in
    page_left mid rows new later room short (taken.same refl ∙ none)
    ∙ ap (λ l. nat_lt page_limit (length l)) (ap (λ l. l ++ devices_in rows) (taken.devices refl)
    ∙ append_assoc old.devices.items (row.row ∷ []) (devices_in rows))
page_left old (row ∷ rows) new (false, mid, taken, later) room low none =
    let fits = sym (ap (λ (s : PageScan). is_some s.failed) later) ∙ room in
    let place : length (old.devices.items ++ devices_in (row ∷ rows)) ≡ length old.devices.items + suc (length (devices_in rows)) =
    length-append old.devices.items (devices_in (row ∷ rows)) in
    let high = taken.full refl fits in
    let past : page_limit < length (old.devices.items ++ devices_in (row ∷ rows)) = omega (arith, place, high) in
    ap (λ (s : PageScan). s.has_more) later ∙ taken.more refl fits ∙ sym (lt-ltb page_limit _ past)
