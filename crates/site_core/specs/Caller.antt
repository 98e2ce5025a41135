-- Who sent a request.
use Rattle.std.specs.Prelude.{◌≡◌, ℕ, ◌<◌, List, [], length, Bool, true, Option, Some, None, bytes_eq, slice_index_or, is_some, if◌then◌else◌, position}
use Rattle.std.specs.List.{list_any}
use Rattle.sha2.specs.Sha256.{sha256}
use Rattle.text_core.specs.Prelude.{◌>>=◌}
use Rattle.site_core.specs.Section.{SeatOf, Section, SiteValue, has_token}
use Rattle.site_core.specs.declared.site.SeatCaller.{SeatCaller}
use Rattle.site_core.specs.declared.site.Caller.{Caller}
use Rattle.site_core.specs.declared.site.Caller.TheVariants.{Seat, Manager}

-- what stands past the end of the sections
abbrev pub no_section : Section
no_section = record { name = []; issuers = []; pools = []; seats = [] }

-- what stands past the end of a section's seats
abbrev pub no_seat : SeatOf
no_seat = record { name = []; token = [] }

-- the customer at a place
abbrev pub section_in : List Section → ℕ → Section
section_in customers place = slice_index_or customers place no_section

-- the customer of a seat
abbrev pub section_at : SiteValue → SeatCaller → Section
section_at site caller = section_in site.customers caller.customer

-- the seat of a caller
abbrev pub seat_of : SiteValue → SeatCaller → SeatOf
seat_of site caller = slice_index_or (section_at site caller).seats caller.seat no_seat

-- the name of a caller's seat
abbrev pub seat_name_at : SiteValue → SeatCaller → List ℕ
seat_name_at site caller = (seat_of site caller).name

-- the seat's customer is one of the site's, and the seat one of the customer's
pub record IsSeatCaller (site : SiteValue) (caller : SeatCaller) : Type 0 where
  pub customer_in : caller.customer < length site.customers
  pub seat_in : caller.seat < length (section_at site caller).seats

-- a seat of the site, or its manager
abbrev pub IsCaller : SiteValue → Caller → Type 0
IsCaller site (Seat caller) = IsSeatCaller site caller
IsCaller site Manager = is_some site.manager ≡ true

-- the caller's token has this digest
abbrev pub HoldsToken : List ℕ → SiteValue → Caller → Type 0
HoldsToken digest site (Seat caller) = (seat_of site caller).token ≡ digest
HoldsToken digest site Manager = site.manager ≡ Some digest

-- the place of a customer's first seat whose token has the digest
abbrev pub seat_with : List ℕ → Section → Option ℕ
seat_with digest section = position (has_token digest) section.seats

-- a customer has a seat whose token has the digest
abbrev pub has_seat_with : List ℕ → Section → Bool
has_seat_with digest section = list_any (has_token digest) section.seats

-- the first customer that has a seat whose token has the digest, and its first such seat
abbrev pub seat_caller_with : List ℕ → List Section → Option SeatCaller
seat_caller_with digest customers =
    position (has_seat_with digest) customers >>= (λ customer.
    seat_with digest (section_in customers customer) >>= (λ seat.
    Some (record { customer = customer; seat = seat })))

-- the manager, where this is the digest of its token
abbrev pub manager_with : List ℕ → Option (List ℕ) → Option Caller
manager_with digest None = None
manager_with digest (Some token) = if bytes_eq token digest then Some Manager else None

-- the seat that was found, or else the manager
abbrev pub caller_or : Option SeatCaller → Option Caller → Option Caller
caller_or None other = other
caller_or (Some caller) other = Some (Seat caller)

-- the caller whose token this is
abbrev pub caller_of : SiteValue → List ℕ → Option Caller
caller_of site token = caller_or (seat_caller_with (sha256 token) site.customers) (manager_with (sha256 token) site.manager)
