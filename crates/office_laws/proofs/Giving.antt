-- What an identity gives in a run is given once.
use Rattle.std.proofs.Common.{◌≡◌, ◌+◌, ◌==◌, ◌⊎◌, ◌∷◌, ◌&&◌}
use Rattle.text_core.proofs.Kit.{◌∙◌, ℕ, inl, inr, arith, Bool, true, false, cond, List, [], Option, Some, None, refl, sym, ap, subst, bytes_eq, filter}
use Rattle.text_core.proofs.Kit.{is_some, nat_lt, not, IfSome, MatchBool, AllByRecursion, and_parts, nat_tests, same_text, filter_agree}
use Rattle.http_replies.specs.Prelude.{code_of, is_unavailable}
use Rattle.site_core.specs.Prelude.{Ownership}
use Rattle.office_laws.proofs.Types.{Given, OfCustomer, SeatState, NewIdentity, unkept}
use Rattle.office_tables.specs.Prelude.{Tables, given_at, is_serial_of}
use Rattle.office_commands.specs.Prelude.{refusal}
use Rattle.office_rules.specs.Prelude.{row_of}
use Rattle.office_laws.specs.Prelude.{BlocksDisjoint, IsFreshRecord, addresses_of, Grows, SoloState, IsSound, view, Exchange, IsRun, FulfilsWanted, Passes}
use Rattle.office_laws.specs.Prelude.{Wanted, asks, reports, refused, calls_of, AreSeats, IsSeat, is_own, AreGifts, IssuesOnce, IsGift, identity_wanted}
use Rattle.office_laws.specs.Prelude.{is_new_identity, last_number_of_seat, is_accepted, is_again, number_of_wanted, once, writes}
use Rattle.office_laws.proofs.Fresh.{Shows}
use Rattle.office_laws.proofs.Issuing.{identity_shows as request_shows}
use Rattle.office_laws.proofs.Readings.{find_holds}
use Rattle.office_laws.proofs.RecordAddresses.{addresses_apart, addresses_begin}
use Rattle.office_laws.proofs.Acting.{accepts, last_at, last_is, unaccepted}
use Rattle.office_laws.proofs.Grown.{sound_grown}
use Rattle.office_laws.proofs.OwnRetries.{Accepts}
use Rattle.office_laws.proofs.Passing.{Serves as IsServed}
use Rattle.office_laws.proofs.RunLaws.{run_grows, run_sound, serves_grown}

-- a number comes after a seat's last one
abbrev is_after : List ℕ → SoloState → ℕ → Bool
is_after seat s number = nat_lt (last_at seat s) number

-- the exchange's number does
abbrev is_past : SoloState → Exchange → Bool
is_past s x = is_after x.0.seat s (number_of_wanted x.0.wanted)

-- an accepted identity that is no repeat shows a record that is new
module _ {site : Ownership} (t mid : Tables) (sound : IsSound site t) (later : IsSound site mid)
    (x : Exchange) (seat : IsSeat site x.0) (passes : Passes t x.0 x.1 mid)
    (is : is_accepted x ≡ true) where
  accepted : (code_of x.1.status == 200) ≡ true
  accepted = (and_parts (writes x.0.wanted) (code_of x.1.status == 200) is).1

  available : is_unavailable x.1.status ≡ false
  available = grind (arith, nat_tests, accepted)

  meets : FulfilsWanted x.0 x.0.wanted t x.1 mid
  meets = let p : MatchBool (is_unavailable x.1.status) ((x.1 ≡ refusal unkept) × (mid ≡ t))
      (FulfilsWanted x.0 x.0.wanted t x.1 mid) = passes in rw available at p

  of_wanted : (w : Wanted) (i : NewIdentity) → identity_wanted w ≡ Some i
      → is_after x.0.seat (view x.0.section.name t) (number_of_wanted w) ≡ true
      → FulfilsWanted x.0 w t x.1 mid → Shows x.0.section x.0.seat t i x.1 mid
  of_wanted (refused reason) i is past made = cc
  of_wanted reports i is past made = cc
  of_wanted (asks r) i is past made =
      request_shows t mid sound later x.0.section x.0.seat seat.seat x.1 accepted r.number r.digest
      r.command i is past made

  pub identity_shows : (i : NewIdentity) → identity_wanted x.0.wanted ≡ Some i
      → is_past (view x.0.section.name t) x ≡ true → Shows x.0.section x.0.seat t i x.1 mid
  identity_shows i wanted past = of_wanted x.0.wanted i wanted past meets

-- what is past a number and isn't it
past_next : (last n m : ℕ) → n ≡ last + 1 → (not (m == n) && nat_lt last m) ≡ nat_lt n m
past_next last n m next = grind (arith, nat_tests)

past_again : (last n m : ℕ) → n ≡ last → (not (m == n) && nat_lt last m) ≡ nat_lt n m
past_again last n m again = grind (arith, nat_tests)

and_turned : (a b c : Bool) → (a && (b && c)) ≡ (b && (a && c))
and_turned true b c = refl
and_turned false true c = refl
and_turned false false c = refl

-- what is new before an exchange, and is none that it repeats, is what is new after it
module _ {site : Ownership} (x : Exchange) (t mid : Tables) (one : IsServed site x t mid)
    (is : is_accepted x ≡ true) where
  mine : is_own x.0.section.name x ≡ true
      → Accepts x.0.seat (number_of_wanted x.0.wanted) x.1 (view x.0.section.name t)
      (view x.0.section.name mid)
  mine own =
      accepts x (view x.0.section.name t) (view x.0.section.name mid)
      (one.own x.0.section.name own) is

  past_at : (own : is_own x.0.section.name x ≡ true) (m : ℕ)
      → (not (m == number_of_wanted x.0.wanted) && is_after x.0.seat (view x.0.section.name t) m)
      ≡ nat_lt (number_of_wanted x.0.wanted) m
  past_at own m = by (mine own).before
    where
      by : ((number_of_wanted x.0.wanted ≡ last_at x.0.seat (view x.0.section.name t))
          × (view x.0.section.name mid ≡ view x.0.section.name t))
          ⊎ (number_of_wanted x.0.wanted ≡ last_at x.0.seat (view x.0.section.name t) + 1)
          → (not (m == number_of_wanted x.0.wanted) && is_after x.0.seat (view x.0.section.name t) m)
          ≡ nat_lt (number_of_wanted x.0.wanted) m
      by (inl again) = past_again _ _ m again.0
      by (inr next) = past_next _ _ m next

  -- a number of a seat of the exchange's customer is new after the exchange where it was new before and isn't its own
  same_customer : (own : is_own x.0.section.name x ≡ true) (seat : List ℕ) (m : ℕ)
      → (not (bytes_eq seat x.0.seat && m == number_of_wanted x.0.wanted)
      && is_after seat (view x.0.section.name t) m)
      ≡ is_after seat (view x.0.section.name mid) m
  same_customer own seat m =
      elim (bytes_eq seat x.0.seat) as
      (λ b. bytes_eq seat x.0.seat ≡ b
      → (not (b && m == number_of_wanted x.0.wanted) && is_after seat (view x.0.section.name t) m)
      ≡ is_after seat (view x.0.section.name mid) m) [
        | true ↦ λ same.
            subst (λ (seat : List ℕ).
            (not (m == number_of_wanted x.0.wanted) && is_after seat (view x.0.section.name t) m)
            ≡ is_after seat (view x.0.section.name mid) m) (sym (same_text seat x.0.seat same))
            (past_at own m ∙ ap (λ (n : ℕ). nat_lt n m)
            (sym (last_is x (view x.0.section.name t) (view x.0.section.name mid) (mine own))))
        | false ↦ λ differs. ap (λ (found : Option SeatState). nat_lt (last_number_of_seat found) m)
            (sym ((mine own).others seat differs))
      ] refl

  any_customer : is_unavailable x.1.status ≡ false → (customer seat : List ℕ) (m : ℕ)
      → (not (bytes_eq customer x.0.section.name && bytes_eq seat x.0.seat
      && m == number_of_wanted x.0.wanted) && is_after seat (view customer t) m)
      ≡ is_after seat (view customer mid) m
  any_customer available customer seat m =
      elim (bytes_eq customer x.0.section.name) as
      (λ b. bytes_eq customer x.0.section.name ≡ b
      → (not (b && bytes_eq seat x.0.seat && m == number_of_wanted x.0.wanted)
      && is_after seat (view customer t) m) ≡ is_after seat (view customer mid) m) [
        | true ↦ λ same.
            let own : is_own x.0.section.name x ≡ true =
            subst (λ (c : List ℕ). is_own c x ≡ true) (same_text customer x.0.section.name same)
            (rw (same, available) refl) in
            subst (λ (c : List ℕ).
            (not (bytes_eq seat x.0.seat && m == number_of_wanted x.0.wanted)
            && is_after seat (view c t) m) ≡ is_after seat (view c mid) m)
            (sym (same_text customer x.0.section.name same))
            (same_customer own seat m)
        | false ↦ λ differs. ap (λ (s : SoloState). is_after seat s m)
            (sym (one.other customer (rw differs refl)))
      ] refl

  pub new_after : is_unavailable x.1.status ≡ false → (y : Exchange)
      → (not (is_again x y) && is_new_identity t y) ≡ is_new_identity mid y
  new_after available y =
      and_turned (not (is_again x y)) (is_some (identity_wanted y.0.wanted))
      (is_past (view y.0.section.name t) y)
      ∙ ap (λ (b : Bool). is_some (identity_wanted y.0.wanted) && b)
      (any_customer available y.0.section.name y.0.seat (number_of_wanted y.0.wanted))

-- two filters as one
filter_twice : {A : Type 0} (p q r : A → Bool) → ((x : A) → (q x && p x) ≡ r x) → (xs : List A)
    → filter p (filter q xs) ≡ filter r xs
filter_twice p q r same [] = refl
filter_twice p q r same (x ∷ xs) =
    elim (q x) as (λ b. (b && p x) ≡ r x → filter p (cond b (x ∷ filter q xs) (filter q xs))
    ≡ cond (r x) (x ∷ filter r xs) (filter r xs)) [
      | true ↦ λ e. (λ i. cond (e i) (x ∷ filter_twice p q r same xs i)
          (filter_twice p q r same xs i))
      | false ↦ λ e. filter_twice p q r same xs
          ∙ ap (λ (b : Bool). cond b (x ∷ filter r xs) (filter r xs)) e
    ] (same x)

-- a record that is there stands on, and one that isn't there later wasn't before
free_before : (issuer serial : List ℕ) (before : Option (OfCustomer Given))
    (after : Option (OfCustomer Given))
    → IfSome before (λ g. after ≡ Some g) → after ≡ None → before ≡ None
free_before issuer serial None after kept free = refl
free_before issuer serial (Some g) after kept free = cc (kept, free)

new_before : (t mid t2 : Tables) → Grows t mid → (g : OfCustomer Given) → IsFreshRecord mid t2 g → IsFreshRecord t t2 g
new_before t mid t2 grows g new = record {
  was_free = free_before g.row.issuer g.row.serial (given_at g.row.issuer g.row.serial t)
      (given_at g.row.issuer g.row.serial mid) (grows.given g.row.issuer g.row.serial) new.was_free;
  stands = new.stands;
  begins = new.begins;
  addresses = new.addresses;
}

all_before : (t mid t2 : Tables) → Grows t mid → (gs : List (OfCustomer Given))
    → AllByRecursion (IsFreshRecord mid t2) gs → AllByRecursion (IsFreshRecord t t2) gs
all_before t mid t2 grows [] all = tt
all_before t mid t2 grows (g ∷ gs) all =
    (new_before t mid t2 grows g all.0, all_before t mid t2 grows gs all.1)

new_at_end : {last : Ownership} (t mid t2 : Tables) → IsSound last t2 → Grows mid t2
    → (g : OfCustomer Given) → IsFreshRecord t mid g → IsFreshRecord t t2 g
new_at_end t mid t2 sound grows g new =
    let stands : given_at g.row.issuer g.row.serial t2 ≡ Some g =
    (let kept = grows.given g.row.issuer g.row.serial in rw new.stands at kept) in
    record {
      was_free = new.was_free;
      stands = stands;
      begins = addresses_begin sound g stands;
      addresses = addresses_apart sound g stands;
    }

-- a record that stands at one moment, and one that isn't there at that moment
apart_from : (mid t2 : Tables) (g other : OfCustomer Given)
    → given_at g.row.issuer g.row.serial mid ≡ Some g
    → AllByRecursion (λ other. is_serial_of g.row.issuer g.row.serial other ≡ false
    → BlocksDisjoint (addresses_of t2 g) (addresses_of t2 other)) t2.given
    → IsFreshRecord mid t2 other
    → (is_serial_of g.row.issuer g.row.serial other ≡ false)
    × BlocksDisjoint (addresses_of t2 g) (addresses_of t2 other)
apart_from mid t2 g other stands addresses there =
    let differs : is_serial_of g.row.issuer g.row.serial other ≡ false =
    by (is_serial_of g.row.issuer g.row.serial other) refl in (
      differs,
      (find_holds (λ (other : OfCustomer Given). is_serial_of g.row.issuer g.row.serial other ≡ false
          → BlocksDisjoint (addresses_of t2 g) (addresses_of t2 other))
          (is_serial_of other.row.issuer other.row.serial) t2.given other addresses there.stands).0
          differs,
    )
  where
    by : (b : Bool) → is_serial_of g.row.issuer g.row.serial other ≡ b → b ≡ false
    by false is = refl
    by true is =
        let parts = and_parts (bytes_eq g.row.issuer other.row.issuer)
        (bytes_eq g.row.serial other.row.serial) is in
        let issuer : g.row.issuer ≡ other.row.issuer = same_text _ _ parts.0 in
        let serial : g.row.serial ≡ other.row.serial = same_text _ _ parts.1 in
        let same : given_at g.row.issuer g.row.serial mid
        ≡ given_at other.row.issuer other.row.serial mid =
        (λ i. given_at (issuer i) (serial i) mid) in
        let free : given_at other.row.issuer other.row.serial mid ≡ None = there.was_free in
        let here : Some g ≡ None = sym stands ∙ (same ∙ free) in
        cc here

all_apart_from : (mid t2 : Tables) (g : OfCustomer Given)
    → given_at g.row.issuer g.row.serial mid ≡ Some g
    → AllByRecursion (λ other. is_serial_of g.row.issuer g.row.serial other ≡ false
    → BlocksDisjoint (addresses_of t2 g) (addresses_of t2 other)) t2.given
    → (gs : List (OfCustomer Given)) → AllByRecursion (IsFreshRecord mid t2) gs
    → AllByRecursion (λ other. (is_serial_of g.row.issuer g.row.serial other ≡ false)
    × BlocksDisjoint (addresses_of t2 g) (addresses_of t2 other)) gs
all_apart_from mid t2 g stands addresses [] all = tt
all_apart_from mid t2 g stands addresses (other ∷ others) all = (
  apart_from mid t2 g other stands addresses all.0,
  all_apart_from mid t2 g stands addresses
      others all.1,
)

-- a record that an import made has no chip, and that of an identity has one
gift_chip : (x : Exchange) (g : OfCustomer Given) → IsGift x g → is_some g.row.chip ≡ true
gift_chip x g gift = ap (λ (h : OfCustomer Given). is_some h.row.chip) gift.5

not_imported : (t t2 : Tables) (issuer serial : List ℕ) (r g : OfCustomer Given)
    → given_at issuer serial t2 ≡ Some r → r.row.chip ≡ None → is_some g.row.chip ≡ true
    → IsFreshRecord t t2 g → is_serial_of issuer serial g ≡ false
not_imported t t2 issuer serial r g stands none chip new = by (is_serial_of issuer serial g) refl
  where
    by : (b : Bool) → is_serial_of issuer serial g ≡ b → b ≡ false
    by false is = refl
    by true is =
        let parts = and_parts (bytes_eq issuer g.row.issuer) (bytes_eq serial g.row.serial) is in
        let issuer_is : issuer ≡ g.row.issuer = same_text _ _ parts.0 in
        let serial_is : serial ≡ g.row.serial = same_text _ _ parts.1 in
        let same : given_at issuer serial t2 ≡ given_at g.row.issuer g.row.serial t2 =
        (λ i. given_at (issuer_is i) (serial_is i) t2) in
        let there : given_at g.row.issuer g.row.serial t2 ≡ Some g = new.stands in
        let one : Some r ≡ Some g = sym stands ∙ (same ∙ there) in
        let row : r ≡ g = cc one in
        let chip_none : is_some g.row.chip ≡ false =
        ap (λ (h : OfCustomer Given). is_some h.row.chip) (sym row) ∙ ap is_some none in
        cc (chip, chip_none)

none_imported : (t t2 : Tables) (xs : List Exchange) (gs : List (OfCustomer Given)) → AreGifts xs gs
    → AllByRecursion (IsFreshRecord t t2) gs
    → (issuer serial : List ℕ) (found : Option (OfCustomer Given)) → given_at issuer serial t2 ≡ found
    → IfSome found (λ r. r.row.chip ≡ None
    → AllByRecursion (λ g. is_serial_of issuer serial g ≡ false) gs)
none_imported t t2 xs gs gifts new issuer serial None is = tt
none_imported t t2 xs gs gifts new issuer serial (Some r) is = λ none. all none xs gs gifts new
  where
    all : r.row.chip ≡ None → (xs : List Exchange) (gs : List (OfCustomer Given)) → AreGifts xs gs
        → AllByRecursion (IsFreshRecord t t2) gs → AllByRecursion (λ g. is_serial_of issuer serial g ≡ false) gs
    all none [] [] gifts new = tt
    all none [] (g ∷ gs) gifts new = absurd gifts
    all none (x ∷ xs) [] gifts new = absurd gifts
    all none (x ∷ xs) (g ∷ gs) gifts new = (
      not_imported t t2 issuer serial r g is none
          (gift_chip x g gifts.0) new.0,
      all none xs gs gifts.1 new.1,
    )

-- what is accepted each once, by whether the first is
once_accepted : (x : Exchange) (xs : List Exchange) → is_accepted x ≡ true
    → once (x ∷ xs) ≡ x ∷ filter (λ later. not (is_again x later)) (once xs)
once_accepted x xs is = rw is refl

once_unaccepted : (x : Exchange) (xs : List Exchange) → is_accepted x ≡ false
    → once (x ∷ xs) ≡ once xs
once_unaccepted x xs is = rw is refl

-- the accepted identities of a run from these tables, none of them a repeat
abbrev new_identities : Tables → List Exchange → List Exchange
new_identities t xs = filter (is_new_identity t) (once xs)

-- one exchange more before a run
module _ {site last : Ownership} (x : Exchange) (xs : List Exchange) (t mid t2 : Tables)
    (sound : IsSound site t) (one : IsServed site x t mid) (seat : IsSeat site x.0)
    (passes : Passes t x.0 x.1 mid) (end : IsSound last t2) (grows : Grows mid t2)
    (later : IssuesOnce xs mid t2) where
  -- what is new in the run is what is new after the exchange, and the exchange itself where it is
  -- new
  same_identities : is_accepted x ≡ true
      → new_identities t (x ∷ xs)
      ≡ cond (is_new_identity t x) (x ∷ new_identities mid xs) (new_identities mid xs)
  same_identities is =
      ap (filter (is_new_identity t)) (once_accepted x xs is)
      ∙ ap (λ (ys : List Exchange). cond (is_new_identity t x) (x ∷ ys) ys)
      (filter_twice (is_new_identity t) (λ y. not (is_again x y)) (is_new_identity mid)
      (new_after x t mid one is (available t mid sound one.sound x seat passes is)) (once xs))

  -- what isn't accepted leaves each view
  same_views : is_accepted x ≡ false → (customer : List ℕ) → view customer mid ≡ view customer t
  same_views is customer =
      elim (is_own customer x) as
      (λ b. is_own customer x ≡ b → view customer mid ≡ view customer t) [
        | true ↦ λ own. unaccepted x (view customer t) (view customer mid) (one.own customer own) is
        | false ↦ λ other. one.other customer other
      ] refl

  without : new_identities t (x ∷ xs) ≡ new_identities mid xs → IssuesOnce (x ∷ xs) t t2
  without same = record {
    gifts = later.gifts;
    shown = rw same later.shown;
    new = all_before t mid t2 one.grows later.gifts later.new;
    apart = later.apart;
    imported = later.imported;
  }

  with_gift : new_identities t (x ∷ xs) ≡ x ∷ new_identities mid xs → (i : NewIdentity)
      → identity_wanted x.0.wanted ≡ Some i → Shows x.0.section x.0.seat t i x.1 mid
      → IssuesOnce (x ∷ xs) t t2
  with_gift same i wanted shows =
      let g : OfCustomer Given =
      record { customer = x.0.section.name; row = row_of shows.0 (Some i.chip) } in
      let new : IsFreshRecord t t2 g = new_at_end t mid t2 end grows g shows.3 in
      let all : AllByRecursion (IsFreshRecord t t2) (g ∷ later.gifts) =
      (new, all_before t mid t2 one.grows later.gifts later.new) in
      let shown : AreGifts (x ∷ new_identities mid xs) (g ∷ later.gifts) =
      ((i, shows.0, wanted, shows.1, shows.2, refl), later.shown) in
      record {
        gifts = g ∷ later.gifts;
        shown = rw same shown;
        new = all;
        apart = (
          all_apart_from mid t2 g shows.3.stands new.addresses later.gifts later.new,
          later.apart,
        );
        imported = λ issuer serial. none_imported t t2 (x ∷ new_identities mid xs)
            (g ∷ later.gifts) shown all issuer serial (given_at issuer serial t2) refl;
      }

  wanted_is : (found : Option NewIdentity) → identity_wanted x.0.wanted ≡ found
      → is_some found ≡ true → is_past (view x.0.section.name t) x ≡ true → is_accepted x ≡ true
      → new_identities t (x ∷ xs) ≡ x ∷ new_identities mid xs → IssuesOnce (x ∷ xs) t t2
  wanted_is None is some past accepted same = cc
  wanted_is (Some i) is some past accepted same =
      with_gift same i is (identity_shows t mid sound one.sound x seat passes accepted i is past)

  pub gives_more : IssuesOnce (x ∷ xs) t t2
  gives_more = elim (is_accepted x) as (λ b. is_accepted x ≡ b → IssuesOnce (x ∷ xs) t t2) [
    | true ↦ λ is. elim (is_new_identity t x) as
        (λ b. is_new_identity t x ≡ b → new_identities t (x ∷ xs)
        ≡ cond b (x ∷ new_identities mid xs) (new_identities mid xs) → IssuesOnce (x ∷ xs) t t2) [
          | true ↦ λ new same.
              let parts = and_parts (is_some (identity_wanted x.0.wanted))
              (is_past (view x.0.section.name t) x) new in
              wanted_is (identity_wanted x.0.wanted) refl parts.0 parts.1 is same
          | false ↦ λ _ same. without same
        ] refl (same_identities is)
    | false ↦ λ is. without
        (ap (filter (is_new_identity t)) (once_unaccepted x xs is)
        ∙ filter_agree (is_new_identity t) (is_new_identity mid)
        (λ y. ap (λ (s : SoloState). is_some (identity_wanted y.0.wanted) && is_past s y)
        (sym (same_views is y.0.section.name))) (once xs))
  ] refl

-- no identity of a run gives what another gave
pub gives_once : (first : Ownership) (xs : List Exchange) (last : Ownership) (t t2 : Tables)
    → IsSound first t → AreSeats first (calls_of xs) last → IsRun xs t t2 → IssuesOnce xs t t2
gives_once first [] last t t2 sound seats run =
    record {
      gifts = [];
      shown = tt;
      new = tt;
      apart = tt;
      imported =
          λ issuer serial. none_imported t t2 [] [] tt tt issuer serial
          (given_at issuer serial t2) refl;
    }
gives_once first (x ∷ xs) last t t2 sound seats run =
    let one : IsServed seats.0 x t run.0 = serves_grown first x xs last t run.0 sound seats run.1 in
    gives_more x xs t run.0 t2 (sound_grown first seats.0 t seats.1 sound) one seats.3 run.1
    (run_sound seats.0 xs last run.0 t2 one.sound seats.4 run.2)
    (run_grows seats.0 xs last run.0 t2 one.sound seats.4 run.2)
    (gives_once seats.0 xs last run.0 t2 one.sound seats.4 run.2)
