-- From sound tables there is a run of any calls.
use Rattle.std.proofs.Common.{◌≡◌, List, [], ◌∷◌, true, false, refl, ap, MatchBool}
use Rattle.std.specs.List.{AllByRecursion}
use Rattle.http_replies.specs.Prelude.{Answer, is_unavailable}
use Rattle.site_core.specs.Prelude.{Ownership}
use Rattle.office_laws.proofs.Types.{Refusal, Unkept, unkept}
use Rattle.office_tables.specs.Prelude.{Tables}
use Rattle.office_commands.specs.Prelude.{refusal, refusal_status}
use Rattle.yield_report.specs.Prelude.{order_report_in}
use Rattle.office_laws.specs.Prelude.{AreSeats, Call, calls_of, Exchange, FulfilsWanted, IsRun, IsSound, Passes, Wanted, asks, refused, report_reply, reports}
use Rattle.office_laws.proofs.Grown.{sound_grown}
use Rattle.office_laws.proofs.Passing.{serves}
use Rattle.office_laws.proofs.Served.{step_is_served}
use Rattle.office_laws.proofs.Steps.{step_exists}

-- an answer to what is wanted, by what it does
abbrev IsAnswer : Call → Wanted → Tables → Answer → Tables → Type 0
IsAnswer c w t reply mid = MatchBool (is_unavailable reply.status) ((reply ≡ refusal unkept) × (mid ≡ t)) (FulfilsWanted c w t reply mid)

-- it is 503 for what was refused so as it came alone
abbrev IsServed : Wanted → Answer → Type 0
IsServed w reply = is_unavailable reply.status ≡ true → w ≡ refused unkept

refused_is : (c : Call) (t : Tables) (reason : Refusal) → IsAnswer c (refused reason) t (refusal reason) t
refused_is c t (Unkept _) = (refl, refl)
refused_is c t _ = (refl, refl)

refused_served : (reason : Refusal) → is_unavailable (refusal_status reason) ≡ true → refused reason ≡ refused unkept
refused_served (Unkept _) is = refl
refused_served _ is = cc

answer_exists : {site : Ownership} (t : Tables) → IsSound site t → (c : Call) (w : Wanted)
    → (reply : Answer) × (mid : Tables) × IsAnswer c w t reply mid × IsServed w reply
answer_exists t sound c (asks r) =
    let made = step_exists sound c.section c.seat r in
    let served : is_unavailable made.0.status ≡ false = step_is_served c.section c.seat t r made.0 made.1 made.2 in
    (made.0, made.1, rw served made.2, λ is. cc (is, served))
answer_exists t sound c reports = (report_reply (order_report_in c.section.name t), t, (refl, refl), λ is. cc)
answer_exists t sound c (refused reason) = (refusal reason, t, refused_is c t reason, refused_served reason)

pub run_exists : (first : Ownership) (cs : List Call) (last : Ownership) (t : Tables) → IsSound first t → AreSeats first cs last
    → (xs : List Exchange) × (t2 : Tables) × (calls_of xs ≡ cs) × IsRun xs t t2 × AllByRecursion (λ x. IsServed x.0.wanted x.1) xs
run_exists first [] last t sound seats = ([], t, refl, refl, tt)
run_exists first (c ∷ cs) last t sound seats =
    let now : IsSound seats.0 t = sound_grown first seats.0 t seats.1 sound in
    let one = answer_exists t now c c.wanted in
    let x : Exchange = (c, one.0) in
    let passes : Passes t c one.0 one.1 = one.2 in
    let rest = run_exists seats.0 cs last one.1 (serves seats.0 t now seats.2 x seats.3 one.1 passes).sound seats.4 in
    (x ∷ rest.0, rest.1, ap (λ (others : List Call). c ∷ others) rest.2, (one.1, passes, rest.3), (one.3, rest.4))
