-- What the identities of a run give.
use Rattle.std.specs.Prelude.{◌≡◌, ◌&&◌, Bool, true, false, ℕ, List, [], ◌∷◌, filter, Option, Some}
use Rattle.std.specs.Prelude.{None, is_some, IfSome}
use Rattle.std.specs.List.{AllByRecursion}
use Rattle.id_ranges.specs.Prelude.{Idevid}
use Rattle.office_tables.specs.declared.rows.Given.{Given}
use Rattle.office_tables.specs.declared.rows.OfCustomer.{OfCustomer}
use Rattle.office_tables.specs.Prelude.{Tables, given_at, is_serial_of}
use Rattle.office_commands.specs.Prelude.{identity_body, acceptance}
use Rattle.office_commands.specs.declared.command.Command.{Command}
use Rattle.office_commands.specs.declared.command.Change.TheVariants.{Identify}
use Rattle.office_commands.specs.declared.new_identity.NewIdentity.{NewIdentity}
use Rattle.office_commands.specs.declared.command.Command.TheVariants.{Change}
use Rattle.office_rules.specs.Prelude.{row_of}
use Rattle.office_laws.specs.Fresh.{BlocksDisjoint, IsFreshRecord, addresses_of}
use Rattle.office_laws.specs.Exchanges.{Exchange, Wanted, asks}
use Rattle.office_laws.specs.Once.{is_accepted, is_no_repeat, once}
use Rattle.office_laws.specs.Pairs.{Pairwise}

-- the identity that a command asks for, if that is what it asks for
abbrev pub identity_of_command : Command → Option NewIdentity
identity_of_command (Change (Identify i)) = Some i
identity_of_command other = None

-- the identity that is wanted, if there is one
abbrev pub identity_wanted : Wanted → Option NewIdentity
identity_wanted (asks request) = identity_of_command request.command
identity_wanted other = None

-- The exchange is that of an identity that is no repeat of one before the run. A seat without an
-- accepted request counts as 0 there, which no number of a request is.
abbrev pub is_new_identity : Tables → Exchange → Bool
is_new_identity t x = is_some (identity_wanted x.0.wanted) && is_no_repeat t x

-- the identity's reply shows this record, for the key and the chip that it asked for
abbrev pub IsGift : Exchange → OfCustomer Given → Type 0
IsGift x g = (i : NewIdentity) × (shown : Idevid)
    × (identity_wanted x.0.wanted ≡ Some i)
    × (shown.key ≡ i.key)
    × (x.1 ≡ acceptance (identity_body i.chip shown))
    × (g ≡ record { customer = x.0.section.name; row = row_of shown (Some i.chip) })

-- where an accepted exchange is that of an identity that is no repeat, its reply shows a record
-- that is new
abbrev pub IssuesFresh : Exchange → Tables → Tables → Type 0
IssuesFresh x t t2 = is_accepted x ≡ true → is_new_identity t x ≡ true
    → (g : OfCustomer Given) × IsGift x g × IsFreshRecord t t2 g

-- the replies show these records, one each, in turn
abbrev pub AreGifts : List Exchange → List (OfCustomer Given) → Type 0
AreGifts [] [] = Unit {0}
AreGifts (x ∷ xs) (g ∷ gs) = IsGift x g × AreGifts xs gs
AreGifts xs gs = ⊥

-- none of the records has the serial number of one that an import recorded, which has no chip
abbrev pub AreNotImported : Tables → List (OfCustomer Given) → Type 0
AreNotImported t gifts = (issuer serial : List ℕ)
    → IfSome (given_at issuer serial t) (λ r. r.row.chip ≡ None
    → AllByRecursion (λ g. is_serial_of issuer serial g ≡ false) gifts)

-- Each accepted identity that is no repeat gives a record. Its serial number was given to nobody
-- before the run, it stands after the run, and its addresses are no other record's. No two records
-- have one serial number of one issuer, or one address. None has the serial number of one that an
-- import recorded.
pub record IssuesOnce (xs : List Exchange) (t t2 : Tables) : Type 0 where
  pub gifts : List (OfCustomer Given)
  pub shown : AreGifts (filter (is_new_identity t) (once xs)) gifts
  pub new : AllByRecursion (IsFreshRecord t t2) gifts
  pub apart : Pairwise (λ g other. (is_serial_of g.row.issuer g.row.serial other ≡ false)
      × BlocksDisjoint (addresses_of t2 g) (addresses_of t2 other)) gifts
  pub imported : AreNotImported t2 gifts
