-- Pages one after another are all devices, each once.
use Rattle.std.proofs.Common.{◌≡◌, ◌<◌, ◌≤◌, ◌-◌, ◌*◌, ◌++◌, ◌∷◌, Ordering, if◌then◌else◌}
use Rattle.text_core.proofs.Kit.{ℕ, zero, suc, Bool, true, false, cond, List, [], length, take, filter, Option, Some, None, Less, Equal, Greater, refl, sym, ap}
use Rattle.text_core.proofs.Kit.{◌∙◌, subst, arith, nat_tests, nat_lt, is_lt, ordering_reverse, AllByRecursion, nat_list_cmp_total, tied_itself, take_all}
use Rattle.text_core.proofs.Kit.{length-take-le, length-append, append-nil, nil_from_length, option_map, option_map_or, slice_get, same_Some}
use Rattle.text_core.proofs.Kit.{recursion_from_All, All-from_recursion, All-take}
use Rattle.office_laws.proofs.Types.{Device}
use Rattle.office_tables.specs.Prelude.{rows_of, text_cmp, AreAscendingByKey, IsAscending, Tables, device_cmp}
use Rattle.office_tables.proofs.Placing.{all_map, own_ascending}
use Rattle.office_rules.specs.Prelude.{devices_behind, last_chip, next_page, on_page, page_limit}
use Rattle.office_laws.specs.Prelude.{by_text, on_pages}
use Rattle.office_laws.proofs.Acting.{filter_all}
use Rattle.office_laws.proofs.TextKeys.{own_texts_agree}

abbrev chip_cmp : Device → Device → Ordering
chip_cmp = by_text (λ (d : Device). d.chip)

abbrev comes_behind : List ℕ → Device → Bool
comes_behind chip d = is_lt (text_cmp chip d.chip)

-- ---- lists

filter_each : {A : Type 0} (p : A → Bool) (xs : List A) → AllByRecursion (λ x. p x ≡ true) xs
    → filter p xs ≡ xs
filter_each p [] all = refl
filter_each p (x ∷ xs) all = rw all.0 (ap (λ rest. x ∷ rest) (filter_each p xs all.1))

all_taken : {A : Type 0} (P : A → Type 0) (n : ℕ) (xs : List A) → AllByRecursion P xs
    → AllByRecursion P (take n xs)
all_taken P n xs all = recursion_from_All P (take n xs) (All-take P n xs (All-from_recursion P xs all))

filtered_ascending : {A : Type 0} (cmp : A → A → Ordering) (p : A → Bool) (xs : List A)
    → IsAscending cmp xs → IsAscending cmp (filter p xs)
filtered_ascending cmp p [] up = tt
filtered_ascending cmp p (x ∷ xs) up =
    elim (p x) as (λ b. IsAscending cmp (cond b (x ∷ filter p xs) (filter p xs))) [
      | true ↦ (filter_all (λ y. cmp x y ≡ Less) p xs up.0, filtered_ascending cmp p xs up.1)
      | false ↦ filtered_ascending cmp p xs up.1
    ]

-- ---- the last device of a page

-- the last of two devices and more is that of those behind the first
last_later : (d f : Device) (ds : List Device) → last_chip (d ∷ (f ∷ ds)) ≡ last_chip (f ∷ ds)
last_later d f ds =
    let back : suc (suc (length ds)) - 1 ≡ suc (suc (length ds) - 1) = omega arith in
    ap (λ k. option_map (λ (x : Device). x.chip) (slice_get (d ∷ (f ∷ ds)) k)) back

-- it comes behind what all of them come behind
last_is_behind : (x : List ℕ) (ds : List Device) (chip : List ℕ)
    → AllByRecursion (λ d. text_cmp x d.chip ≡ Less) ds → last_chip ds ≡ Some chip
    → text_cmp x chip ≡ Less
last_is_behind x [] chip all e = cc
last_is_behind x (d ∷ []) chip all e = subst (λ c. text_cmp x c ≡ Less) (same_Some _ _ e) all.0
last_is_behind x (d ∷ (f ∷ ds)) chip all e =
    last_is_behind x (f ∷ ds) chip all.1 (sym (last_later d f ds) ∙ e)

-- it is there where a device is
last_there : (ds : List Device) → last_chip ds ≡ None → ds ≡ []
last_there [] e = refl
last_there (d ∷ []) e = cc
last_there (d ∷ (f ∷ ds)) e =
    let none : f ∷ ds ≡ [] = last_there (f ∷ ds) (sym (last_later d f ds) ∙ e) in cc

-- ---- what a page leaves

only_first : (d : Device) (ds : List Device) → AllByRecursion (λ y. chip_cmp d y ≡ Less) ds
    → filter (comes_behind d.chip) (d ∷ ds) ≡ ds
only_first d ds all = rw (tied_itself nat_list_cmp_total d.chip)
    (filter_each (comes_behind d.chip) ds (all_map (λ y. chip_cmp d y ≡ Less)
    (λ y. comes_behind d.chip y ≡ true) (λ y less. ap is_lt less) ds all))

not_behind_greater : (chip : List ℕ) (d : Device) → text_cmp d.chip chip ≡ Less
    → comes_behind chip d ≡ false
not_behind_greater chip d less =
    ap is_lt (nat_list_cmp_total.antisymm chip d.chip ∙ ap ordering_reverse less)

left_behind : (n : ℕ) (ds : List Device) (chip : List ℕ) → IsAscending chip_cmp ds → n < length ds
    → last_chip (take n ds) ≡ Some chip → ds ≡ take n ds ++ filter (comes_behind chip) ds
left_behind zero ds chip up more e = cc
left_behind (suc n) [] chip up more e = cc
left_behind (suc zero) (d ∷ ds) chip up more e =
    ap (λ rest. d ∷ rest) (sym (subst (λ c. filter (comes_behind c) (d ∷ ds) ≡ ds) (same_Some _ _ e)
    (only_first d ds up.0)))
left_behind (suc (suc n)) (d ∷ []) chip up more e = absurd (omega (arith, more))
left_behind (suc (suc n)) (d ∷ (f ∷ gs)) chip up more e =
    let last : last_chip (take (suc n) (f ∷ gs)) ≡ Some chip =
    sym (last_later d f (take n gs)) ∙ e in
    let later = left_behind (suc n) (f ∷ gs) chip up.1 (omega (arith, more)) last in
    let low = last_is_behind d.chip (take (suc n) (f ∷ gs)) chip
    (all_taken (λ y. text_cmp d.chip y.chip ≡ Less) (suc n) (f ∷ gs) up.0) last in
    let out : filter (comes_behind chip) (d ∷ (f ∷ gs)) ≡ filter (comes_behind chip) (f ∷ gs) =
    rw (not_behind_greater chip d low) refl in
    ap (λ l. d ∷ l) (later ∙ ap (λ l. take (suc n) (f ∷ gs) ++ l) (sym out))

-- ---- behind a chip that comes behind another

all_behind : (after : List ℕ) (ds : List Device)
    → AllByRecursion (λ d. text_cmp after d.chip ≡ Less) (filter (comes_behind after) ds)
all_behind after [] = tt
all_behind after (d ∷ ds) =
    elim (text_cmp after d.chip) as (λ o. text_cmp after d.chip ≡ o
    → AllByRecursion (λ y. text_cmp after y.chip ≡ Less)
    (cond (is_lt o) (d ∷ filter (comes_behind after) ds) (filter (comes_behind after) ds))) [
      | Less ↦ λ e. (e, all_behind after ds)
      | Equal ↦ λ _. all_behind after ds
      | Greater ↦ λ _. all_behind after ds
    ] refl

not_behind : (after chip : List ℕ) (d : Device) → text_cmp after chip ≡ Less
    → comes_behind after d ≡ false → comes_behind chip d ≡ false
not_behind after chip d low out =
    elim (text_cmp chip d.chip) as (λ o. text_cmp chip d.chip ≡ o → is_lt o ≡ false) [
      | Less ↦ λ e. sym (ap is_lt (nat_list_cmp_total.trans after chip d.chip low e)) ∙ out
      | Equal ↦ λ _. refl
      | Greater ↦ λ _. refl
    ] refl

behind_twice : (after chip : List ℕ) → text_cmp after chip ≡ Less → (ds : List Device)
    → filter (comes_behind chip) (filter (comes_behind after) ds) ≡ filter (comes_behind chip) ds
behind_twice after chip low [] = refl
behind_twice after chip low (d ∷ ds) =
    let later = behind_twice after chip low ds in
    elim (comes_behind after d) as (λ b. comes_behind after d ≡ b → filter (comes_behind chip)
    (cond b (d ∷ filter (comes_behind after) ds) (filter (comes_behind after) ds))
    ≡ cond (comes_behind chip d) (d ∷ filter (comes_behind chip) ds) (filter (comes_behind chip) ds)) [
      | true ↦ λ _. elim (comes_behind chip d) as (λ b.
          cond b (d ∷ filter (comes_behind chip) (filter (comes_behind after) ds))
          (filter (comes_behind chip) (filter (comes_behind after) ds))
          ≡ cond b (d ∷ filter (comes_behind chip) ds) (filter (comes_behind chip) ds)) [
            | true ↦ ap (λ l. d ∷ l) later
            | false ↦ later
          ]
      | false ↦ λ out. rw (not_behind after chip d low out) later
    ] refl

-- ---- the law

next_is : (ds : List Device) (chip : List ℕ) → next_page ds ≡ Some chip
    → (page_limit < length ds) × (last_chip (on_page ds) ≡ Some chip)
next_is ds chip e =
    elim (nat_lt page_limit (length ds)) as (λ b. nat_lt page_limit (length ds) ≡ b
    → (if b then last_chip (on_page ds) else None) ≡ Some chip
    → (page_limit < length ds) × (last_chip (on_page ds) ≡ Some chip)) [
      | true ↦ λ more is. (grind (arith, nat_tests, more), is)
      | false ↦ λ _ is. cc
    ] refl e

pub page_leaves : (devices : List Device) (after : Option (List ℕ)) (chip : List ℕ)
    → IsAscending chip_cmp devices → next_page (devices_behind after devices) ≡ Some chip
    → devices_behind after devices
    ≡ on_page (devices_behind after devices) ++ devices_behind (Some chip) devices
page_leaves devices None chip up e =
    let next = next_is devices chip e in left_behind page_limit devices chip up next.0 next.1
page_leaves devices (Some after) chip up e =
    let behind = filter (comes_behind after) devices in
    let next = next_is behind chip e in
    let low = last_is_behind after (take page_limit behind) chip
    (all_taken (λ d. text_cmp after d.chip ≡ Less) page_limit behind (all_behind after devices))
    next.1 in
    left_behind page_limit behind chip (filtered_ascending chip_cmp (comes_behind after) devices up)
    next.0 next.1
    ∙ ap (λ l. take page_limit behind ++ l) (behind_twice after chip low devices)

pub page_ends : (ds : List Device) → next_page ds ≡ None → on_page ds ≡ ds
page_ends ds e =
    elim (nat_lt page_limit (length ds)) as (λ b. nat_lt page_limit (length ds) ≡ b
    → (if b then last_chip (on_page ds) else None) ≡ None → on_page ds ≡ ds) [
      | true ↦ λ more is.
          let past : page_limit < length ds = grind (arith, nat_tests, more) in
          let none : length (on_page ds) ≡ 0 = ap length (last_there (on_page ds) is) in
          let full : length (on_page ds) ≡ page_limit =
          length-take-le page_limit ds (omega (arith, past)) in
          absurd (omega (arith, none, full))
      | false ↦ λ few _.
          let short : length ds ≤ page_limit = grind (arith, nat_tests, few) in
          take_all page_limit ds short
    ] refl e

pub pages_are_all : (n : ℕ) (devices : List Device) (after : Option (List ℕ))
    → IsAscending chip_cmp devices → length (devices_behind after devices) ≤ n * page_limit
    → on_pages n after devices ≡ devices_behind after devices
pages_are_all zero devices after up few =
    sym (nil_from_length (devices_behind after devices) (omega (arith, few)))
pages_are_all (suc n) devices after up few =
    elim (next_page (devices_behind after devices)) as (λ next.
    next_page (devices_behind after devices) ≡ next → on_page (devices_behind after devices)
    ++ option_map_or (λ chip. on_pages n (Some chip) devices) next []
    ≡ devices_behind after devices) [
      | None ↦ λ e. append-nil (on_page (devices_behind after devices))
          ∙ page_ends (devices_behind after devices) e
      | Some chip ↦ λ e.
          let parts = page_leaves devices after chip up e in
          let past = (next_is (devices_behind after devices) chip e).0 in
          let full : length (on_page (devices_behind after devices)) ≡ page_limit =
          length-take-le page_limit (devices_behind after devices) (omega (arith, past)) in
          let whole = ap length parts ∙ length-append (on_page (devices_behind after devices))
          (devices_behind (Some chip) devices) in
          let fewer : length (devices_behind (Some chip) devices) ≤ n * page_limit =
          omega (arith, few, full, whole) in
          ap (λ l. on_page (devices_behind after devices) ++ l)
          (pages_are_all n devices (Some chip) up fewer) ∙ sym parts
    ] refl

pub devices_ascending : (customer : List ℕ) (t : Tables) → AreAscendingByKey t
    → IsAscending chip_cmp (rows_of customer t.devices)
devices_ascending customer t ascending =
    own_ascending customer device_cmp chip_cmp (own_texts_agree (λ (d : Device). d.chip) customer) t.devices ascending.devices
