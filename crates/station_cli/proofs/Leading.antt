-- How the tables that stand are led on by one stream after another.
use Rattle.std.proofs.Common.{◌≡◌, ℕ, Option, List, [], ◌∷◌, ◌++◌, ◌∙◌, refl, sym, subst}
use Rattle.std.proofs.lemmas.Grind.{flat_map-append}
use Rattle.http_frames.specs.Prelude.{Request}
use Rattle.http_replies.specs.Prelude.{Answer}
use Rattle.http_frames.specs.declared.serving.Served.{Served}
use Rattle.text_core.proofs.MachineLemmas.{runs_both}
use Rattle.office_laws.specs.Prelude.{Exchange, LeavesAfter}
use Rattle.office_laws.proofs.Leaving.{leaves_joined, leaves_none}
use Rattle.office_tables.specs.declared.keep.Keep.{Ghosts}
use Rattle.office_tables.specs.Keeping.{Reads}
use Rattle.site_core.specs.Prelude.{SiteValue, IsSite}
use Rattle.station_api.specs.Prelude.{AreSaid, AnswersHttp, exchange_in, exchanges_with_seats, ServesOver}
use Rattle.station_api.proofs.KeptRuns.{led}
use Rattle.station_cli.specs.Prelude.{LeadsOn}

said_both : (site : SiteValue) (first second : List (Request × Answer)) → AreSaid site first → AreSaid site second → AreSaid site (first ++ second)
said_both site [] second one other = other
said_both site (exchange ∷ exchanges) second one other = (one.0, said_both site exchanges second one.1 other)

-- a read leads to the tables that stood
pub leads_by_read : {K : Type 0} (k : Ghosts K) (site : SiteValue) → IsSite site → (old new : K)
    → Reads k.is_open k.is_honest k.may_leave k.tells_text k.tables k.commits old new → LeadsOn k site old new
leads_by_read k site w old new read = (
  [],
  tt,
  (λ honest t stands. (
    t,
    led k site old new w [] t t refl (λ front starts left leaves. leaves_none (k.may_leave old) t front starts left (read.crash honest left leaves))
        read.text (λ is. read.same is ∙ stands (read.was_open is)),
  )),
)

-- no stream leads to the tables that stood
pub leads_itself : {K : Type 0} (k : Ghosts K) (site : SiteValue) → IsSite site → (keep : K) → LeadsOn k site keep keep
leads_itself k site w keep = leads_by_read k site w keep keep (record {
  was_open = λ is. is;
  same = λ _. refl;
  was_honest = λ is. is;
  crash = λ _ _ leaves. leaves;
  text = λ _ _ told. told;
  uncommitted = refl;
})

-- for the same site under another name
pub leads_for : {K : Type 0} {k : Ghosts K} {site other : SiteValue} {old new : K} → site ≡ other → LeadsOn k site old new → LeadsOn k other old new
leads_for {k = k} {old = old} {new = new} same led = subst (λ (s : SiteValue). LeadsOn k s old new) same led

pub serves_for : {K : Type 0} {k : Ghosts K} {site other : SiteValue} (left_old left_new written_old written_new : Option (List ℕ))
    (ended : Served) {old new : K} → site ≡ other
    → ServesOver k site left_old left_new written_old written_new ended old new → ServesOver k other left_old left_new written_old written_new ended old new
serves_for {k = k} left_old left_new written_old written_new ended {old = old} {new = new} same served =
    subst (λ (s : SiteValue). ServesOver k s left_old left_new written_old written_new ended old new) same served

-- streams, and then others
pub leads_both : {K : Type 0} (k : Ghosts K) (site : SiteValue) (old middle new : K) → IsSite site
    → (k.is_honest new → k.is_honest middle)
    → LeadsOn k site old middle → LeadsOn k site middle new → LeadsOn k site old new
leads_both k site old middle new w was_honest first second = (
  first.0 ++ second.0,
  said_both site first.0 second.0 first.1 second.1,
  (λ honest t stands.
      let before = first.2 (was_honest honest) t stands in
      let after = second.2 honest before.0 before.1.answered.stands in (
        after.0,
        led k site old new w (first.0 ++ second.0) t after.0
            (runs_both (AnswersHttp site) t first.0 before.0 second.0 after.0 before.1.run after.1.run)
            (subst (λ (xs : List Exchange). LeavesAfter xs (k.may_leave old) t (k.may_leave new) after.0)
            (sym (flat_map-append (exchange_in site) first.0 second.0))
            (leaves_joined (exchanges_with_seats site first.0) (exchanges_with_seats site second.0) (k.may_leave old)
            (k.may_leave middle) (k.may_leave new) t before.0 after.0 before.1.answered.crash after.1.answered.crash))
            (λ honest text told. after.1.answered.text honest text (before.1.answered.text (was_honest honest) text told))
            after.1.answered.stands,
      )),
)
