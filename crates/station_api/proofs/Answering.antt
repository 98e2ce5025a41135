-- What a request comes to, from what its parts came to.
use Rattle.std.proofs.Common.{◌≡◌, ◌⊎◌, inl, inr, true, false, List, ℕ, Option, Some, Result, Ok, Err, refl, sym, ap, subst, ◌∙◌, IfOk, OnErr}
use Rattle.std.specs.List.{AllByRecursion}
use Rattle.http_frames.specs.Prelude.{Request as HttpRequest}
use Rattle.http_replies.specs.Prelude.{Answer, is_unavailable}
use Rattle.site_core.specs.Prelude.{seat_name_at, section_at, SiteValue}
use Rattle.station_api.proofs.Types.{Caller, Seat, Manager, Ghosts, Refusal, Parsed}
use Rattle.office_tables.specs.Prelude.{Tables, ReadsOnly}
use Rattle.office_tables.specs.declared.unkept.Unkept.{Unkept as NoAnswer}
use Rattle.office_commands.specs.declared.refusal.Refusal.TheVariants.{Unkept}
use Rattle.office_commands.specs.Prelude.{refusal_status, refusal, unkept}
use Rattle.office_laws.specs.Prelude.{Exchange, report_reply}
use Rattle.office_laws.proofs.Leaving.{AnswersNothing, leaves_unanswered, answers_nothing}
use Rattle.station_api.specs.Prelude.{AnswersAnyCaller, ParsedOrUnkept, AnswersParsed, AnswersKnownCaller, HandlerSteps, Says, SaysAny, SaysRefusal}
use Rattle.station_api.specs.Prelude.{AnswersHttp, caller_at, exchange_any, exchange_asked, exchange_of}
use Rattle.station_requests.specs.Prelude.{parse_request, kind_of_caller}

-- only one refusal is answered 503
unavailable_is_unkept : (reason : Refusal) → is_unavailable (refusal_status reason) ≡ true → reason ≡ unkept
unavailable_is_unkept (Unkept _) e = refl
unavailable_is_unkept _ e = cc

-- a reply of 503
pub unkept_asked : (site : SiteValue) (caller : Caller) (wanted : Result Parsed Refusal)
    (t : Tables) (reply : Answer) → reply ≡ refusal unkept
    → ParsedOrUnkept site caller wanted t reply t
unkept_asked site caller wanted t reply is =
    let unavailable : is_unavailable reply.status ≡ true = ap (λ (a : Answer). is_unavailable a.status) is in
    rw unavailable (is, refl)

unkept_said : (wanted : Result Parsed Refusal) (reply : Answer) → reply ≡ refusal unkept → SaysRefusal wanted reply
unkept_said (Ok parsed) reply is = tt
unkept_said (Err reason) reply is = inr is

refused_asked : (site : SiteValue) (caller : Caller) (wanted : Result Parsed Refusal) (t : Tables)
    (reply : Answer) (reason : Refusal) → wanted ≡ Err reason → reply ≡ refusal reason
    → ParsedOrUnkept site caller wanted t reply t
refused_asked site caller wanted t reply reason refused is =
    elim (is_unavailable (refusal_status reason)) as (λ b. is_unavailable (refusal_status reason) ≡ b → ParsedOrUnkept site caller wanted t reply t) [
      | true ↦ λ e. unkept_asked site caller wanted t reply (is ∙ ap refusal (unavailable_is_unkept reason e))
      | false ↦ λ e.
          let served : is_unavailable reply.status ≡ false = ap (λ (a : Answer). is_unavailable a.status) is ∙ e in
          rw (served, refused) (is, refl)
    ] refl

-- a request that is refused as it came
pub refused_caller : (site : SiteValue) (caller : Caller) (wanted : Result Parsed Refusal) (t : Tables) (reply : Answer) (reason : Refusal)
    → (Err reason ≡ wanted) ⊎ (◌≡◌ {A = Result Parsed Refusal} (Err reason) (Err unkept))
    → (reply ≡ refusal reason) ⊎ (reply ≡ refusal unkept)
    → ParsedOrUnkept site caller wanted t reply t
refused_caller site caller wanted t reply reason is (inr said) = unkept_asked site caller wanted t reply said
refused_caller site caller wanted t reply reason (inl is) (inl said) = refused_asked site caller wanted t reply reason (sym is) said
refused_caller site caller wanted t reply reason (inr is) (inl said) = let same : reason
    ≡ unkept = cc in unkept_asked site caller wanted t reply (said ∙ ap refusal same)

pub refused_said : (wanted : Result Parsed Refusal) (reply : Answer) (reason : Refusal)
    → (Err reason ≡ wanted) ⊎ (◌≡◌ {A = Result Parsed Refusal} (Err reason) (Err unkept))
    → (reply ≡ refusal reason) ⊎ (reply ≡ refusal unkept) → SaysRefusal wanted reply
refused_said wanted reply reason is (inr said) = unkept_said wanted reply said
refused_said wanted reply reason (inl is) (inl said) = subst (λ w. SaysRefusal w reply) is (inl said)
refused_said wanted reply reason (inr is) (inl said) = let same : reason ≡ unkept = cc in unkept_said wanted reply (said ∙ ap refusal same)

pub asked_is : {A E : Type 0} (wanted : Result A E) (x : A) (e : E) → (Ok x ≡ wanted) ⊎ (Ok x ≡ Err e) → wanted ≡ Ok x
asked_is wanted x e (inl is) = sym is
asked_is wanted x e (inr is) = cc

-- a request that is refused as it came answers nothing
pub refused_answers_nothing : (site : SiteValue) (caller : Caller) (wanted : Result Parsed Refusal)
    (reply : Answer) (reason : Refusal)
    → (Err reason ≡ wanted) ⊎ (◌≡◌ {A = Result Parsed Refusal} (Err reason) (Err unkept))
    → (reply ≡ refusal reason) ⊎ (reply ≡ refusal unkept)
    → AllByRecursion AnswersNothing (exchange_asked site caller wanted reply)
refused_answers_nothing site Manager wanted reply reason is said = tt
refused_answers_nothing site (Seat caller) wanted reply reason (inl is) said =
    (subst (λ (w : Result Parsed Refusal). AnswersNothing (exchange_of (section_at site caller) (seat_name_at site caller) w reply)) is refl, tt)
refused_answers_nothing site (Seat caller) wanted reply reason (inr same_refusal) said =
    (answers_nothing (exchange_of (section_at site caller) (seat_name_at site caller) wanted reply) (unavailable said), tt)
  where
    unavailable : (reply ≡ refusal reason) ⊎ (reply ≡ refusal unkept) → is_unavailable reply.status ≡ true
    unavailable (inl is) = let same : reason ≡ unkept = cc in ap (λ (a : Answer). is_unavailable a.status) (is ∙ ap refusal same)
    unavailable (inr is) = ap (λ (a : Answer). is_unavailable a.status) is

-- a keeper that isn't asked
pub unchanged : {K : Type 0} (k : Ghosts K) (Said : Answer → Type 0) (exchanges : Answer → List Exchange)
    (step : Tables → Answer → Tables → Type 0) (keep : K) (reply : Answer)
    → Said reply → AllByRecursion AnswersNothing (exchanges reply) → ((t : Tables) → step t reply t)
    → HandlerSteps k Said exchanges step keep reply keep
unchanged k Said exchanges step keep reply said unanswered same = record {
  was_open = λ is. is;
  was_honest = λ honest. honest;
  text = λ _ _ told. told;
  said = said;
  answered = λ _ t stands. (
    t,
    same t,
    leaves_unanswered (exchanges reply) t t (k.may_leave keep) (k.may_leave keep) unanswered refl (λ left is. is),
    stands,
  );
}

-- a request with the token of a caller
pub known_caller : {K : Type 0} (k : Ghosts K) (site : SiteValue) (caller : Caller) (r : HttpRequest) (old : K) (reply : Answer) (new : K)
    → caller_at site r ≡ Some caller
    → HandlerSteps k (SaysRefusal (parse_request (kind_of_caller caller) r))
    (exchange_asked site caller (parse_request (kind_of_caller caller) r))
    (AnswersKnownCaller site caller r) old reply new
    → HandlerSteps k (Says site r) (λ said. exchange_any site (caller_at site r) r said) (λ t. AnswersHttp site t r) old reply new
known_caller k site caller r old reply new is made =
    subst (λ (found : Option Caller).
    HandlerSteps k (SaysAny found r) (λ said. exchange_any site found r said) (λ t said t2.
    AnswersAnyCaller site found r t said t2) old reply new) (sym is) made

-- a report is no 503
pub report_answers : (site : SiteValue) (caller : Caller) (wanted : Result Parsed Refusal) (t : Tables) (reply : Answer) (text : List ℕ)
    → reply ≡ report_reply text → AnswersParsed site caller wanted t reply t → ParsedOrUnkept site caller wanted t reply t
report_answers site caller wanted t reply text is asked_for =
    let served : is_unavailable reply.status ≡ false = ap (λ (a : Answer). is_unavailable a.status) is in
    rw served asked_for

-- a report that is read by a keeper, and told
module _ {K A : Type 0} (k : Ghosts K) (site : SiteValue) (caller : Caller) (parsed : Parsed)
    (bytes : A → List ℕ) (text : Tables → List ℕ) (Says : Tables → A → Type 0)
    (unanswered : (reply : Answer) → AllByRecursion AnswersNothing (exchange_asked site caller (Ok parsed) reply))
    (answer : (t : Tables) (v : A) → Says t v → bytes v ≡ text t)
    (answers : (t : Tables) (reply : Answer) → reply ≡ report_reply (text t) → ParsedOrUnkept site caller (Ok parsed) t reply t) where
  pub report_told : (old new : K) (result : Result A NoAnswer) (reply : Answer) → ReadsOnly k old new result Says
      → IfOk result (λ v. reply ≡ report_reply (bytes v)) → OnErr result (reply ≡ refusal unkept)
      → HandlerSteps k (SaysRefusal (Ok parsed)) (exchange_asked site caller (Ok parsed)) (ParsedOrUnkept site caller (Ok parsed)) old reply new
  report_told old new (Ok v) reply read told none = record {
    was_open = read.read_only.was_open;
    was_honest = read.read_only.was_honest;
    text = read.read_only.text;
    said = tt;
    answered = λ honest t stands.
        let opened = read.stays_open honest in
        let is : bytes v ≡ text t = answer (k.tables old) v (read.answer opened) ∙ ap text (stands (read.read_only.was_open opened)) in (
          t,
          answers t reply (told ∙ ap report_reply is),
          leaves_unanswered (exchange_asked site caller (Ok parsed) reply) t t (k.may_leave old)
              (k.may_leave new) (unanswered reply) refl (read.read_only.crash honest),
          (λ after. read.read_only.same after ∙ stands (read.read_only.was_open after)),
        );
  }
  report_told old new (Err unkept) reply read told none = record {
    was_open = read.read_only.was_open;
    was_honest = read.read_only.was_honest;
    text = read.read_only.text;
    said = tt;
    answered = λ honest t stands. (
      t,
      unkept_asked site caller (Ok parsed) t reply none,
      leaves_unanswered (exchange_asked site caller (Ok parsed) reply) t t (k.may_leave old) (k.may_leave new)
          (unanswered reply) refl (read.read_only.crash honest),
      (λ after. read.read_only.same after ∙ stands (read.read_only.was_open after)),
    );
  }
