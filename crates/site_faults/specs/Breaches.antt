-- The first place of a site's text that has a fault.
use Rattle.std.specs.Prelude.{◌≡◌, ◌⊎◌, ◌+◌, ◌-◌, ◌++◌, ◌∷◌, not, ℕ, Bool, List, [], length, nat_lt, map, bytes_eq, codes, decimal, position}
use Rattle.std.specs.Prelude.{true, false, Option, Some, None, is_some, option_map, if◌then◌else◌, unwrap_or, Result, Ok, Err}
use Rattle.std.specs.Option.{option_map_or, option_or}
use Rattle.std.specs.List.{list_any, slice_get}
use Rattle.toml.specs.Data.{Data, as_str, get}
use Rattle.text_core.specs.Prelude.{◌>>=◌}
use Rattle.id_ranges.specs.Prelude.{mac_of_text, Pool}
use Rattle.members.specs.Prelude.{document_of, items_in, name_in, whole_within}
use Rattle.site_core.specs.Prelude.{IsGrowth, Section, SeatOf, SiteValue, is_bad_pool, is_same_pool, is_same_seat, is_section_over}
use Rattle.site_core.specs.Prelude.{pools_meet, site_fault_number}
use Rattle.site_core.specs.Prelude.{issuers_of, names_of, pools_of, seat_names_of, seats_of, site_of, site_read, site_text_limit, token_in}
use Rattle.site_core.specs.declared.fault.SiteFault.{SiteFault}
use Rattle.site_core.specs.declared.fault.SiteFault.TheVariants.{Repeated, PoolsMeet, BadPool, OutOfMemory}
use Rattle.site_faults.specs.Words.{item_limit, place_words, rule_words}
use Rattle.site_faults.specs.declared.item.Item.{Item}
use Rattle.site_faults.specs.declared.item.Item.TheVariants.{Issuer, Pool as PoolItem, Seat}
use Rattle.site_faults.specs.declared.place.Title.{Title}
use Rattle.site_faults.specs.declared.place.Title.TheVariants.{Named, Numbered}
use Rattle.site_faults.specs.declared.place.SitePlace.{SitePlace}
use Rattle.site_faults.specs.declared.place.SitePlace.TheVariants.{Whole, Customers, Manager, Customer, Part}
use Rattle.site_faults.specs.declared.rule.SiteRule.{SiteRule}
use Rattle.site_faults.specs.declared.rule.SiteRule.TheVariants as rule
use Rattle.site_faults.specs.declared.breach.SiteBreach.{SiteBreach}
use Rattle.site_faults.specs.declared.told.ToldFault.{ToldFault}
use Rattle.site_faults.specs.declared.told.ToldFault.TheVariants.{At, NoGrowth, NoMemory}

-- ---- the members

-- the rule is broken where something doesn't hold
abbrev pub broken_unless : Bool → SiteRule → Option SiteRule
broken_unless true rule = None
broken_unless false rule = Some rule

-- the rule that a part breaks first: a member isn't of its type or range
abbrev pub item_rule : Item → Data → Option SiteRule
item_rule Issuer d = broken_unless (is_some (name_in d)) rule.Name
item_rule PoolItem d =
    option_or (broken_unless (is_some (get (codes "first") d >>= as_str >>= mac_of_text)) rule.First)
    (broken_unless (is_some (get (codes "count") d >>= whole_within 1 16777216)) rule.Count)
item_rule Seat d = option_or (broken_unless (is_some (get (codes "name") d >>= name_in)) rule.Name) (broken_unless (is_some (token_in d)) rule.Token)

-- the breach of a rule by a part
abbrev pub item_breach : Item → Title → ℕ → Option SiteRule → Option SiteBreach
item_breach item title number broken = option_map (λ rule. record { place = Part title item number; rule = rule }) broken

-- of parts with the numbers from one on
abbrev pub items_breach : Item → Title → ℕ → List Data → Option SiteBreach
items_breach item title number [] = None
items_breach item title number (d ∷ ds) = option_or (item_breach item title number (item_rule item d)) (items_breach item title (number + 1) ds)

-- the parts of a kind, where they are an array
abbrev pub parts_in : Item → Data → Option (List Data)
parts_in Issuer d = get (codes "issuer") d >>= items_in
parts_in PoolItem d = option_map_or items_in (get (codes "pool") d) (Some [])
parts_in Seat d = option_map_or items_in (get (codes "seat") d) (Some [])

-- of the parts of a kind, which are an array
abbrev pub kind_breach : Item → Title → Option (List Data) → Option SiteBreach
kind_breach item title None = Some (record { place = Customer title; rule = rule.ItemArray item })
kind_breach item title (Some ds) = items_breach item title 1 ds

-- of the parts of a customer with a title
abbrev pub parts_breach : Title → Data → Option SiteBreach
parts_breach title d =
    option_or (kind_breach Issuer title (parts_in Issuer d))
    (option_or (kind_breach PoolItem title (parts_in PoolItem d)) (kind_breach Seat title (parts_in Seat d)))

-- of a customer with a number: its name, or its parts
abbrev pub customer_breach : ℕ → Data → Option SiteBreach
customer_breach number d =
    option_map_or (λ name. parts_breach (Named name) d) (get (codes "name") d >>= name_in)
    (Some (record { place = Customer (Numbered number); rule = rule.Name }))

-- of customers with the numbers from one on
abbrev pub customers_breach : ℕ → List Data → Option SiteBreach
customers_breach number [] = None
customers_breach number (d ∷ ds) = option_or (customer_breach number d) (customers_breach (number + 1) ds)

-- of a document: of its customers, else of its manager
abbrev pub members_breach : Option (List Data) → SiteBreach
members_breach None = record { place = Customers; rule = rule.CustomerArray }
members_breach (Some ds) = unwrap_or (customers_breach 1 ds) (record { place = Manager; rule = rule.Token })

-- ---- how the parts fit together

-- the place of the first element that goes with one before it, behind these
abbrev pub first_again : {A : Type 0} → (A → A → Bool) → List A → List A → Option ℕ
first_again goes_with seen [] = None
first_again goes_with seen (x ∷ xs) =
    if list_any (goes_with x) seen then Some (length seen) else first_again goes_with (seen ++ x ∷ []) xs

-- how many parts of a kind a customer has
abbrev pub item_count : Item → Section → ℕ
item_count Issuer s = length s.issuers
item_count PoolItem s = length s.pools
item_count Seat s = length s.seats

-- where a part of a kind is, by its place among those of all customers; past them is the last place
abbrev pub part_at : Item → SitePlace → ℕ → List Section → SitePlace
part_at item last place [] = last
part_at item last place (s ∷ ss) =
    if nat_lt place (item_count item s) then Part (Named s.name) item (place + 1) else part_at item last (place - item_count item s) ss

-- the breach at a part that was found
abbrev pub breach_at : Item → SitePlace → SiteRule → List Section → Option ℕ → Option SiteBreach
breach_at item last rule customers found =
    option_map (λ place. record { place = part_at item last place customers; rule = rule }) found

-- the title of the customer at a place
abbrev pub customer_at : ℕ → List Section → SitePlace
customer_at place customers = option_map_or (λ s. Customer (Named s.name)) (slice_get customers place) Whole

-- the digests of all tokens, the manager's last
abbrev pub tokens_in_order : List SeatOf → Option (List ℕ) → List (List ℕ)
tokens_in_order seats None = map (λ seat. seat.token) seats
tokens_in_order seats (Some token) = map (λ seat. seat.token) seats ++ token ∷ []

-- the first name or token that is there already: a customer's, an issuer, a seat's, a token
abbrev pub repeat_breach : SiteValue → Option SiteBreach
repeat_breach site =
    option_or (option_map (λ place. record { place = customer_at place site.customers; rule = rule.OnceNamed }) (first_again bytes_eq [] (names_of site)))
    (option_or (breach_at Issuer Whole rule.OnceNamed site.customers (first_again bytes_eq [] (issuers_of site)))
    (option_or (breach_at Seat Whole rule.OnceNamed site.customers (first_again bytes_eq [] (seat_names_of site)))
    (breach_at Seat Manager rule.OnceHeld site.customers (first_again bytes_eq [] (tokens_in_order (seats_of site) site.manager)))))

-- a customer has too many parts of a kind
abbrev pub is_over : Item → Section → Bool
is_over item s = nat_lt (item_limit item) (item_count item s)

-- the kind of which a customer has too many: seats, issuers, else pools
abbrev pub over_item : Section → Item
over_item s = if is_over Seat s then Seat else if is_over Issuer s then Issuer else PoolItem

-- the breach of the customer at a place, which has too many parts
abbrev pub over_at : List Section → ℕ → Option SiteBreach
over_at customers place =
    option_map (λ s. record { place = Customer (Named s.name); rule = rule.ItemLimit (over_item s) }) (slice_get customers place)

-- too many customers, or the first one that has too many parts
abbrev pub limit_breach : List Section → Option SiteBreach
limit_breach customers =
    if nat_lt 64 (length customers) then Some (record { place = Customers; rule = rule.CustomerLimit })
    else (position is_section_over customers >>= over_at customers)

-- the first place of a site's parts that has a fault
abbrev pub site_breach : SiteFault → SiteValue → Option SiteBreach
site_breach Repeated site = repeat_breach site
site_breach PoolsMeet site = breach_at PoolItem Whole rule.Apart site.customers (first_again pools_meet [] (pools_of site))
site_breach BadPool site = breach_at PoolItem Whole rule.Individual site.customers (position is_bad_pool (pools_of site))
site_breach fault site = limit_breach site.customers

-- ---- the text

-- the whole text breaks a rule
abbrev pub of_whole : SiteRule → SiteBreach
of_whole rule = record { place = Whole; rule = rule }

-- the first place of a document that has a fault: of its parts where all its members are there, else of its members
abbrev pub document_breach : SiteFault → Data → SiteBreach
document_breach fault d =
    option_map_or (λ site. unwrap_or (site_breach fault site) (of_whole rule.Kept)) (site_of d)
    (members_breach (get (codes "customer") d >>= items_in))

-- the first place of a text that has a fault
abbrev pub text_breach : SiteFault → List ℕ → SiteBreach
text_breach fault text =
    if nat_lt site_text_limit (length text) then of_whole rule.Length
    else option_map_or (document_breach fault) (document_of text) (of_whole rule.Document)

-- a breach in words
abbrev pub breach_words : SiteBreach → List ℕ
breach_words breach = place_words breach.place ++ rule_words breach.rule

-- why a site isn't accepted, in words
abbrev pub fault_words : ToldFault → List ℕ
fault_words (At number breach) = codes "site fault " ++ decimal number ++ codes ": " ++ breach_words breach
fault_words (NoGrowth breach) = codes "store fault 1: " ++ breach_words breach
fault_words NoMemory = codes "no memory"

-- the fault of a text over its limit
abbrev pub too_long : ToldFault
too_long = At 6 (of_whole rule.Length)

-- a fault of a text with its place
abbrev pub told_of : List ℕ → SiteFault → ToldFault
told_of text OutOfMemory = NoMemory
told_of text fault = At (site_fault_number fault) (text_breach fault text)

-- the site that was read from a text, or its fault with the first place that has it
abbrev pub told_if_faulty : List ℕ → Result SiteValue SiteFault → Result SiteValue ToldFault
told_if_faulty text (Ok site) = Ok site
told_if_faulty text (Err fault) = Err (told_of text fault)

-- the site that a text is, or its lowest fault with the first place that has it
abbrev pub site_told : List ℕ → Result SiteValue ToldFault
site_told text = told_if_faulty text (site_read text)

-- ---- growth

-- the breach of a part of a kind that was found gone or changed
abbrev pub part_lost : Section → Item → Option ℕ → Option SiteBreach
part_lost old item found = option_map (λ place. record { place = Part (Named old.name) item (place + 1); rule = rule.Kept }) found

-- the place of the first pool that isn't as it was, counted from a place on
abbrev pub pool_changed : ℕ → List Pool → List Pool → Option ℕ
pool_changed place [] new = None
pool_changed place (p ∷ ps) [] = Some place
pool_changed place (p ∷ ps) (q ∷ qs) = if is_same_pool p q then pool_changed (place + 1) ps qs else Some place

-- the first part of a customer that another one of its name hasn't
abbrev pub section_lost : Section → Section → Option SiteBreach
section_lost old new =
    option_or (part_lost old Issuer (position (λ issuer. not (list_any (bytes_eq issuer) new.issuers)) old.issuers))
    (option_or (part_lost old Seat (position (λ seat. not (list_any (is_same_seat seat) new.seats)) old.seats))
    (part_lost old PoolItem (pool_changed 0 old.pools new.pools)))

-- a customer is gone
abbrev pub gone : Section → SiteBreach
gone old = record { place = Customer (Named old.name); rule = rule.Kept }

-- the first part of a customer that the one at a place hasn't
abbrev pub lost_at : List Section → Section → ℕ → Option SiteBreach
lost_at new old place = option_map_or (section_lost old) (slice_get new place) (Some (gone old))

-- the first part of a customer that others haven't: the whole of it where none has its name
abbrev pub customer_lost : List Section → Section → Option SiteBreach
customer_lost new old = option_map_or (lost_at new old) (position (λ s. bytes_eq old.name s.name) new) (Some (gone old))

abbrev pub customers_lost : List Section → List Section → Option SiteBreach
customers_lost new [] = None
customers_lost new (s ∷ ss) = option_or (customer_lost new s) (customers_lost new ss)

-- the first part of a site that another one hasn't: a customer's, else the manager's token
abbrev pub first_lost : SiteValue → SiteValue → SiteBreach
first_lost old new =
    unwrap_or (customers_lost new.customers old.customers) (record { place = Manager; rule = rule.Kept })

-- a site is accepted where it grew from an old one; else the first part of the old one that it hasn't is told
abbrev pub IsToldGrowth : SiteValue → SiteValue → Result SiteValue ToldFault → Type 0
IsToldGrowth old new result =
    (IsGrowth old new × (result ≡ Ok new)) ⊎ ((¬ IsGrowth old new) × (result ≡ Err (NoGrowth (first_lost old new))))
