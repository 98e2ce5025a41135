-- What an exchange of the customer's own machine makes.
use Rattle.std.proofs.Common.{◌≡◌, ◌⊎◌, ◌&&◌, ◌==◌}
use Rattle.text_core.proofs.Kit.{◌∙◌, ℕ, inl, inr, Bool, true, false, List, Some, refl, ap, arith, lt-ltb, ltb-true, nat_lt}
use Rattle.http_replies.specs.Prelude.{Answer as Response, code_of}
use Rattle.office_tables.specs.declared.rows.Device.{Device}
use Rattle.office_commands.specs.declared.command.Change.{Change as Changing}
use Rattle.office_commands.specs.declared.command.Command.{Command}
use Rattle.office_commands.specs.declared.command.Command.TheVariants.{Change, Show}
use Rattle.office_commands.specs.declared.command.Request.{Request}
use Rattle.office_commands.specs.declared.refusal.Refusal.{Refusal}
use Rattle.office_commands.specs.Prelude.{acceptance, refusal}
use Rattle.office_rules.specs.Prelude.{respond_to}
use Rattle.office_laws.specs.Prelude.{Call, SoloState, Wanted, alone_on, asks, is_change}
use Rattle.office_laws.specs.Prelude.{number_of_wanted, refused, reports, solo_sight, writes}
use Rattle.office_laws.proofs.OwnRetries.{not_success}
use Rattle.seat_runs.specs.Prelude.{IsAwaiting, asks_for, is_end}
use Rattle.seat_runs.proofs.Coming.{Comes, IsMade, Responds, comes_to, row_number}
use Rattle.seat_runs.proofs.Devices.{made_keeps, own_device}

-- it was answered 200
abbrev pub is_success : Response → Bool
is_success reply = code_of reply.status == 200

refused_fails : (reply : Response) (reason : Refusal) → reply ≡ refusal reason → is_success reply ≡ false
refused_fails reply reason e = ap is_success e ∙ not_success reason

pub accepted_succeeds : (reply : Response) (body : List ℕ) → reply ≡ acceptance body → is_success reply ≡ true
accepted_succeeds reply body e = ap is_success e

-- what is wanted is a command, which is made
pub record IsMadeOf (c : Call) (wanted : Wanted) (s mid : SoloState) (reply : Response) : Type 0 where
  pub request : Request
  pub change : Changing
  pub asked : wanted ≡ asks request
  pub command : request.command ≡ Change change
  pub made : IsMade c.section c.seat s mid reply request change

module _ (c : Call) (s mid : SoloState) (reply : Response) where
  abbrev Answers : Wanted → Type 0
  Answers w = ◌≡◌ {A = Response × SoloState} (reply, mid) (alone_on c s w)

  abbrev IsNew : Wanted → Type 0
  IsNew w = nat_lt (row_number c.seat s) (number_of_wanted w) ≡ true

  of_command : (r : Request) (command : Command) → r.command ≡ command
      → Responds c.section c.seat s mid reply (respond_to c.section c.seat (solo_sight c.section c.seat s) r command)
      → (is_change command && is_success reply) ≡ true → IsNew (asks r) → IsMadeOf c (asks r) s mid reply
  of_command r (Show showing) is e accepted new = cc
  of_command r (Change change) is e accepted new = by (comes_to c.section c.seat s mid reply r change e)
    where
      by : Comes c.section c.seat s mid reply r change → IsMadeOf c (asks r) s mid reply
      by (inl made) = record { request = r; change = change; asked = refl; command = is; made = made }
      by (inr (inl again)) =
          let less = ltb-true (row_number c.seat s) r.number new in
          let same = again.number in absurd (omega arith)
      by (inr (inr denied)) =
          let f = refused_fails reply denied.reason denied.shown in absurd (cc (f, accepted))

  -- an accepted command that is no repeat is made
  pub done_made : (w : Wanted) → Answers w → (writes w && is_success reply) ≡ true → IsNew w
      → IsMadeOf c w s mid reply
  done_made reports e accepted new = cc
  done_made (refused reason) e accepted new = cc
  done_made (asks r) e accepted new = of_command r r.command refl e accepted new

  module _ (chip : List ℕ) (d : Device) (there : own_device chip s ≡ Some d) (awaits : IsAwaiting d) where
    -- a read-back or a scrapping of the chip is done
    abbrev Ends : Wanted → Type 0
    Ends w = (asks_for (is_end chip) w ≡ true) × ((writes w && is_success reply) ≡ true) × IsNew w

    abbrev Stays : Wanted → Type 0
    Stays w = (own_device chip mid ≡ Some d) ⊎ Ends w

    same_state : (w : Wanted) → mid ≡ s → Stays w
    same_state w same = inl (ap (own_device chip) same ∙ there)

    stays_at : (r : Request) (command : Command) → r.command ≡ command
        → Responds c.section c.seat s mid reply
        (respond_to c.section c.seat (solo_sight c.section c.seat s) r command) → Stays (asks r)
    stays_at r (Show showing) is e = same_state (asks r) (ap (λ (p : Response × SoloState). p.1) e)
    stays_at r (Change change) is e = by (comes_to c.section c.seat s mid reply r change e)
      where
        by : Comes c.section c.seat s mid reply r change → Stays (asks r)
        by (inl made) =
            of_made made (made_keeps c.section c.seat chip s d there awaits mid reply r change made)
          where
            of_made : IsMade c.section c.seat s mid reply r change
                → (own_device chip mid ≡ Some d) ⊎ (is_end chip (Change change) ≡ true) → Stays (asks r)
            of_made made (inl same) = inl same
            of_made made (inr ends) =
                let n = made.next in
                inr (
                  rw is ends,
                  rw (is, accepted_succeeds reply made.made.body made.shown) refl,
                  lt-ltb (row_number c.seat s) r.number (omega arith),
                )
        by (inr (inl again)) = same_state (asks r) again.same
        by (inr (inr denied)) = same_state (asks r) denied.same

    -- the device of the chip stays, or a read-back or a scrapping of it is done
    pub device_stays : (w : Wanted) → Answers w → Stays w
    device_stays reports e = same_state reports (ap (λ (p : Response × SoloState). p.1) e)
    device_stays (refused reason) e = same_state (refused reason) (ap (λ (p : Response × SoloState). p.1) e)
    device_stays (asks r) e = stays_at r r.command refl e
