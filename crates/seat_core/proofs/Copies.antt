-- A refusal of the request under way takes no number, and a copy of the request may still come.
use Rattle.std.proofs.Common.{◌≡◌, ℕ, Bool, true, false, List, [], Option, None, Some, refl, inl, inr, length, ◌-◌}
use Rattle.std.proofs.lemmas.Bool.{eq-eqb}
use Rattle.std.specs.Prelude.{◌==◌, ◌&&◌, not, filter, nat_lt, if◌then◌else◌}
use Rattle.std.specs.List.{list_all}
use Rattle.seat_core.specs.declared.event.Event.TheVariants.{Refuse}
use Rattle.seat_core.specs.declared.request.Sent.{Sent}
use Rattle.seat_core.specs.declared.request.Stop.{Stop}
use Rattle.seat_core.specs.declared.station.SeatFile.{SeatFile}
use Rattle.seat_core.specs.declared.station.Waiting.{Waiting}
use Rattle.seat_core.specs.declared.station.Waiting.TheVariants.{Once, Again, Kept, Number}
use Rattle.seat_core.specs.Aside.{aside_with, newest_of}
use Rattle.seat_core.specs.Steps.{Step}
use Rattle.seat_core.specs.Replies.{probe_silence, untried_request}
use Rattle.seat_core.specs.Refusals.{probe_of, probe_refusal, probe_step, request_refusal, stop_step}
use Rattle.seat_core.specs.Events.{step_of}
use Rattle.seat_core.specs.Copies.{IsKept, IsSure, is_sure, with_request}

-- of either of two, by the test
either : (P : Step → Type 0) (b : Bool) (x y : Step) → (b ≡ true → P x) → (b ≡ false → P y)
    → P (if b then x else y)
either P true x y p q = p refl
either P false x y p q = q refl

stop_kept : (f : SeatFile) (sent : Sent) (waiting : Waiting) (again : Bool) (code : ℕ) (stop : Stop)
    → IsKept sent (stop_step (with_request f sent waiting) sent again code stop)
stop_kept f sent waiting true code stop = record { number = refl; kept = inl refl }
stop_kept f sent waiting false code stop = record { number = refl; kept = inr (_, refl) }

probe_of_kept : (f : SeatFile) (sent : Sent) (waiting : Waiting) (again : Bool) (untried : ℕ) (found : Option ℕ)
    → IsKept sent (probe_of (with_request f sent waiting) sent again untried found)
probe_of_kept f sent waiting again untried None = stop_kept f sent waiting again 12 _
probe_of_kept f sent waiting again untried (Some request) = record { number = refl; kept = inl refl }

probe_step_kept : (f : SeatFile) (sent : Sent) (waiting : Waiting) (again : Bool) (untried : ℕ)
    → IsKept sent (probe_step (with_request f sent waiting) sent again untried)
probe_step_kept f sent waiting again untried =
    probe_of_kept f sent waiting again untried (untried_request f.aside untried)

request_refusal_kept : (f : SeatFile) (sent : Sent) (waiting : Waiting) (again : Bool) (refusal : Stop)
    → IsKept sent (request_refusal (with_request f sent waiting) sent again refusal)
request_refusal_kept f sent waiting again refusal = either (IsKept sent) (refusal.code == 11) _ _
    (λ _. stop_kept f sent waiting again 11 refusal)
    (λ _. either (IsKept sent) (refusal.code == 12) _ _
    (λ _. probe_step_kept f sent waiting again (length f.aside))
    (λ _. either (IsKept sent) (again && nat_lt refusal.code 11) _ _
    (λ _. record { number = refl; kept = inl refl }) (λ _. record { number = refl; kept = inr (_, refl) })))

pub once_kept : (f : SeatFile) (sent : Sent) (code expected : ℕ)
    → IsKept sent (step_of (with_request f sent Once) (Refuse code expected))
once_kept f sent code expected = either (IsKept sent) (code == 50) _ _
    (λ _. record { number = refl; kept = inl refl })
    (λ _. request_refusal_kept f sent Once false (record { code = code; expected = expected }))

again_kept : (f : SeatFile) (sent : Sent) (code expected : ℕ)
    → IsKept sent (step_of (with_request f sent Again) (Refuse code expected))
again_kept f sent code expected = either (IsKept sent) (code == 50) _ _
    (λ _. record { number = refl; kept = inl refl })
    (λ _. request_refusal_kept f sent Again true (record { code = code; expected = expected }))

-- the log has no refusal of 1 to 10 of what may have been sent before
abbrev LogIsSure : Step → Type 0
LogIsSure step = list_all is_sure step.acts ≡ true

probe_of_sure : (f : SeatFile) (sent : Sent) (untried : ℕ) (found : Option ℕ)
    → LogIsSure (probe_of (with_request f sent Again) sent true untried found)
probe_of_sure f sent untried None = refl
probe_of_sure f sent untried (Some request) = refl

request_refusal_sure : (f : SeatFile) (sent : Sent) (refusal : Stop)
    → LogIsSure (request_refusal (with_request f sent Again) sent true refusal)
request_refusal_sure f sent refusal = either LogIsSure (refusal.code == 11) _ _ (λ _. refl)
    (λ _. either LogIsSure (refusal.code == 12) _ _
    (λ _. probe_of_sure f sent (length f.aside) (untried_request f.aside (length f.aside)))
    (λ _. either LogIsSure (true && nat_lt refusal.code 11) _ _ (λ _. refl)
    (λ above. let other : nat_lt refusal.code 11 ≡ false = above in rw other refl)))

pub again_sure : (f : SeatFile) (sent : Sent) (code expected : ℕ)
    → IsSure sent (step_of (with_request f sent Again) (Refuse code expected))
again_sure f sent code expected = record {
  copies = again_kept f sent code expected;
  log = either LogIsSure (code == 50) _ _ (λ _. refl)
      (λ _. request_refusal_sure f sent (record { code = code; expected = expected }));
}

probe_refusal_kept : (f : SeatFile) (sent : Sent) (waiting : Waiting) (untried : ℕ) (again : Bool) (refusal : Stop)
    → IsKept sent (probe_refusal (with_request f sent waiting) sent untried again refusal)
probe_refusal_kept f sent waiting untried again refusal = either (IsKept sent) (nat_lt refusal.code 11) _ _
    (λ _. record { number = refl; kept = inl refl })
    (λ _. either (IsKept sent) (refusal.code == 12) _ _
    (λ _. probe_step_kept f sent waiting again (untried - 1)) (λ _. stop_kept f sent waiting again 12 refusal))

-- no reply to a request that was kept aside
silence_kept : (f : SeatFile) (sent : Sent) (untried : ℕ) (again : Bool) (found : Option ℕ)
    → IsKept sent (probe_silence (with_request f sent (Kept untried again)) sent.number found)
silence_kept f sent untried again None = record { number = refl; kept = inl refl }
silence_kept f sent untried again (Some request) = record { number = refl; kept = inl refl }

pub probe_kept : (f : SeatFile) (sent : Sent) (untried : ℕ) (again : Bool) (code expected : ℕ)
    → IsKept sent (step_of (with_request f sent (Kept untried again)) (Refuse code expected))
probe_kept f sent untried again code expected = either (IsKept sent) (code == 50) _ _
    (λ _. silence_kept f sent untried again (untried_request f.aside untried))
    (λ _. probe_refusal_kept f sent (Kept untried again) untried again
    (record { code = code; expected = expected }))

-- what is kept aside stays with its number
stays : (number : ℕ) (aside : List ℕ) → (if number == number then aside else []) ≡ aside
stays number aside = rw (eq-eqb number number refl) refl

pub look_kept : (f : SeatFile) (sent : Sent) (code : ℕ)
    → IsKept sent (step_of (with_request f sent Number) (Refuse code sent.number))
look_kept f sent code = either (IsKept sent) (code == 50) _ _
    (λ _. record { number = refl; kept = inl refl })
    (λ _. either (IsKept sent) (code == 11) _ _
    (λ _. record {
      number = refl;
      kept = inr (
        newest_of (filter (λ kept. not (kept == sent.request)) f.aside),
        stays sent.number (aside_with sent.request f.aside),
      );
    })
    (λ _. record { number = refl; kept = inl refl }))
