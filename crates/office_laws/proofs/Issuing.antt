-- An identity that is accepted, and is no repeat, gives a record that is new.
use Rattle.std.proofs.Common.{◌≡◌, ◌==◌, ℕ, true, List, Option, Some, None, refl, subst, is_some}
use Rattle.std.proofs.lemmas.Bool.{and_parts}
use Rattle.text_core.proofs.Kit.{nat_lt}
use Rattle.http_replies.specs.Prelude.{Answer, code_of}
use Rattle.site_core.specs.Prelude.{Ownership, Section}
use Rattle.office_laws.proofs.Types.{Command, Given, Identify, NewIdentity, OfCustomer, Request}
use Rattle.office_tables.specs.Prelude.{Tables}
use Rattle.office_commands.specs.Prelude.{IsCommand}
use Rattle.office_commands.specs.declared.command.Command.TheVariants.{Change}
use Rattle.office_rules.specs.Prelude.{Step, its, row_of}
use Rattle.office_laws.specs.Prelude.{Exchange, IsFreshRecord, IsGift, IssuesFresh, IsSound, call_by, identity_of_command, is_change, is_no_repeat}
use Rattle.office_laws.specs.Prelude.{last_number_of_seat, seat_named, view}
use Rattle.office_laws.proofs.Anew.{accepted_anew}
use Rattle.office_laws.proofs.Fresh.{Shows, gives_anew}

-- every identity can be asked for
pub identity_is_asked : (command : Command) → is_some (identity_of_command command) ≡ true
    → IsCommand command
identity_is_asked (Change (Identify i)) is = tt
identity_is_asked _ is = cc

module _ {site : Ownership} (t t2 : Tables) (sound : IsSound site t) (later : IsSound site t2)
    (s : Section) (seat : List ℕ) (mine : site.seat seat ≡ Some s.name) (reply : Answer)
    (accepted : (code_of reply.status == 200) ≡ true) where
  pub identity_shows : (number : ℕ) (digest : List ℕ) (command : Command) (i : NewIdentity)
      → identity_of_command command ≡ Some i
      → nat_lt (last_number_of_seat (seat_named seat (view s.name t))) number ≡ true
      → Step s seat t (record { number = number; digest = digest; command = command }) reply t2
      → Shows s seat t i reply t2
  identity_shows number digest (Change (Identify j)) i is past step =
      let same : j ≡ i = cc in
      let anew = accepted_anew t sound s seat mine reply accepted number digest (Identify j) t2 past step in
      subst (λ (i : NewIdentity). Shows s seat t i reply t2) same
      (gives_anew s seat t j number digest reply t2 later step anew.0 anew.1)
  identity_shows number digest _ i is past step = cc

-- a request that asks for an identity is given what was nobody's
pub issues_fresh : {site : Ownership} (t t2 : Tables) → IsSound site t → (s : Section) (seat : List ℕ)
    → site.seat seat ≡ Some s.name → (r : Request) (reply : Answer) → Step s seat t r reply t2
    → (IsCommand r.command → IsSound site t2) → IssuesFresh (call_by s seat r, reply) t t2
issues_fresh {site} t t2 sound s seat mine r reply step later accepted new =
    by (identity_of_command r.command) refl parts.0
  where
    x : Exchange
    x = (call_by s seat r, reply)

    parts : (is_some (identity_of_command r.command) ≡ true) × (is_no_repeat t x ≡ true)
    parts = and_parts (is_some (identity_of_command r.command)) (is_no_repeat t x) new

    by : (found : Option NewIdentity) → identity_of_command r.command ≡ found → is_some found ≡ true
        → (g : OfCustomer Given) × IsGift x g × IsFreshRecord t t2 g
    by None is some = cc
    by (Some i) is some =
        let shows : Shows s seat t i reply t2 =
        identity_shows t t2 sound (later (identity_is_asked r.command parts.0)) s seat mine reply
        (and_parts (is_change r.command) (code_of reply.status == 200) accepted).1 r.number r.digest
        r.command i is parts.1 step in
        (its s (row_of shows.0 (Some i.chip)), (i, shows.0, is, shows.1, shows.2, refl), shows.3)
