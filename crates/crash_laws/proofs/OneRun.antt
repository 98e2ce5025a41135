-- A run, the step that a stop may have left, and a run after it are one run.
use Rattle.std.proofs.Common.{◌≡◌, ◌∙◌, ◌++◌, List, [], ◌∷◌, None, length, map, refl, sym, subst, append-nil}
use Rattle.std.specs.List.{AllByRecursion}
use Rattle.std.proofs.lemmas.List.{length-map}
use Rattle.http_replies.specs.declared.Reply.{Reply}
use Rattle.site_core.specs.Prelude.{Ownership, OwnershipGrows, ownership_of, PoolsDisjoint, SiteValue}
use Rattle.office_tables.specs.Prelude.{Tables}
use Rattle.office_laws.specs.Prelude.{calls_of, Exchange, IsLeft, IsRun, IsSeat, IsSound, IsStoppedRun, StaysInDoubt, Promises, Session}
use Rattle.office_laws.proofs.Grown.{growth_itself}
use Rattle.office_laws.proofs.Leaving.{stop_leaves}
use Rattle.office_laws.proofs.Promising.{promises}
use Rattle.office_laws.proofs.Stopping.{stopped_runs, stopped_seats}
use Rattle.office_core.specs.Prelude.{call_of, calls_in, exchanges_in}
use Rattle.office_core.specs.declared.requests.SeatRequest.{SeatRequest}
use Rattle.office_core.proofs.Replaying.{exchanges_calls}

-- the seats of requests are those of their exchanges
pub seats_of : (site : SiteValue) (requests : List SeatRequest) (replies : List Reply) → length replies ≡ length requests
    → AllByRecursion (IsSeat (ownership_of site)) (calls_in site requests)
    → AllByRecursion (IsSeat (ownership_of site))
    (calls_of (exchanges_in site requests replies))
seats_of site requests replies count = subst (AllByRecursion (IsSeat (ownership_of site)))
    (sym (exchanges_calls (calls_in site requests) replies (count
    ∙ sym (length-map requests (call_of site)))))

pub one_run : (site grown : Ownership) (xs more ys : List Exchange) (t stood left last : Tables)
    → OwnershipGrows site grown → PoolsDisjoint site → PoolsDisjoint grown
    → AllByRecursion (IsSeat site) (calls_of xs) → AllByRecursion (IsSeat grown) (calls_of ys)
    → IsRun xs t stood → IsLeft (StaysInDoubt xs) stood more left → IsRun ys left last
    → (first : Ownership) → OwnershipGrows first site → IsSound first t → Promises grown (xs ++ (more ++ ys)) t last
one_run site grown xs more ys t stood left last growth apart others_apart seats others before leaves after first begun sound =
    let early : Session = record { exchanges = xs; cut_off = None } in
    let late : Session = record { exchanges = ys; cut_off = None } in
    let all : List Exchange = xs ++ (more ++ ys) in
    let run : IsStoppedRun (early ∷ late ∷ []) all t last = (
      stood,
      before,
      more,
      left,
      stop_leaves early stood more left leaves,
      ys,
      (last, after, [], last, refl, [], (refl, refl), sym (append-nil ys)),
      refl,
    ) in
    promises first all grown t last sound
    (stopped_seats first (early ∷ late ∷ []) all grown t last
    (site, begun, apart, seats, tt, (grown, growth, others_apart, others, tt, growth_itself grown)) run)
    (stopped_runs (early ∷ late ∷ []) all t last run)
