-- From one exchange to a run of them.
use Rattle.std.proofs.Common.{◌≡◌, ◌∙◌, ℕ, true, false, cond, List, [], ◌∷◌, refl, sym, subst}
use Rattle.site_core.specs.Prelude.{Ownership}
use Rattle.office_tables.specs.Prelude.{Tables}
use Rattle.office_laws.specs.Prelude.{Grows, SoloState, IsSound, view, Exchange, IsRun, Passes, calls_of, replies_of, AreSeats, is_own, exchanges_of}
use Rattle.office_laws.specs.Prelude.{solo_replies, solo_state, IsAsAlone, IsIsolated}
use Rattle.office_laws.proofs.Growing.{grows_both, grows_itself}
use Rattle.office_laws.proofs.Grown.{sound_grown}
use Rattle.office_laws.proofs.Passing.{Serves, serves}
use Rattle.office_laws.proofs.RunsAlone.{RunsAlone, alone_replies, alone_state}

-- an exchange in a run, from tables that are sound for the site before it
pub serves_grown : (first : Ownership) (x : Exchange) (xs : List Exchange) (last : Ownership)
    (t mid : Tables)
    → IsSound first t → (seats : AreSeats first (calls_of (x ∷ xs)) last) → Passes t x.0 x.1 mid
    → Serves seats.0 x t mid
serves_grown first x xs last t mid sound seats passes =
    serves seats.0 t (sound_grown first seats.0 t seats.1 sound) seats.2 x seats.3 mid passes

pub run_sound : (first : Ownership) (xs : List Exchange) (last : Ownership) (t t2 : Tables)
    → IsSound first t → AreSeats first (calls_of xs) last → IsRun xs t t2 → IsSound last t2
run_sound first [] last t t2 sound seats run =
    subst (IsSound last) (sym run) (sound_grown first last t seats sound)
run_sound first (x ∷ xs) last t t2 sound seats run =
    run_sound seats.0 xs last run.0 t2
    (serves_grown first x xs last t run.0 sound seats run.1).sound seats.4 run.2

pub run_grows : (first : Ownership) (xs : List Exchange) (last : Ownership) (t t2 : Tables)
    → IsSound first t → AreSeats first (calls_of xs) last → IsRun xs t t2 → Grows t t2
run_grows first [] last t t2 sound seats run = subst (Grows t) (sym run) (grows_itself t)
run_grows first (x ∷ xs) last t t2 sound seats run =
    let one : Serves seats.0 x t run.0 = serves_grown first x xs last t run.0 sound seats run.1 in
    grows_both t run.0 t2 one.grows (run_grows seats.0 xs last run.0 t2 one.sound seats.4 run.2)

pub run_alone : (customer : List ℕ) (first : Ownership) (xs : List Exchange) (last : Ownership)
    (t t2 : Tables)
    → IsSound first t → AreSeats first (calls_of xs) last → IsRun xs t t2
    → RunsAlone (exchanges_of customer xs) (view customer t) (view customer t2)
run_alone customer first [] last t t2 sound seats run = λ i. view customer (run i)
run_alone customer first (x ∷ xs) last t t2 sound seats run =
    let one : Serves seats.0 x t run.0 = serves_grown first x xs last t run.0 sound seats run.1 in
    let later : RunsAlone (exchanges_of customer xs) (view customer run.0) (view customer t2) =
    run_alone customer seats.0 xs last run.0 t2 one.sound seats.4 run.2 in
    elim (is_own customer x) as
    (λ b. is_own customer x ≡ b
    → RunsAlone (cond b (x ∷ exchanges_of customer xs) (exchanges_of customer xs)) (view customer t)
    (view customer t2)) [
      | true ↦ λ own. (view customer run.0, one.own customer own, later)
      | false ↦ λ other. subst (λ (s : SoloState). RunsAlone (exchanges_of customer xs) s (view customer t2))
          (one.other customer other) later
    ] refl

pub isolated : (customer : List ℕ) (first : Ownership) (xs : List Exchange) (last : Ownership)
    (t t2 : Tables)
    → IsSound first t → AreSeats first (calls_of xs) last → IsRun xs t t2
    → IsIsolated customer xs t t2
isolated customer first xs last t t2 sound seats run =
    let alone_run : RunsAlone (exchanges_of customer xs) (view customer t) (view customer t2) =
    run_alone customer first xs last t t2 sound seats run in
    record {
      replies = alone_replies (exchanges_of customer xs) _ _ alone_run;
      rows =
          alone_state (exchanges_of customer xs) _ _ alone_run;
    }

-- from equal views and equal calls the own machine goes one way
pub same_from_same : (customer : List ℕ) (own : List Exchange) (t t2 : Tables)
    (others : List Exchange) (u u2 : Tables)
    → IsAsAlone customer own t t2 → IsAsAlone customer others u u2
    → view customer t ≡ view customer u → calls_of own ≡ calls_of others
    → (replies_of own ≡ replies_of others) × (view customer t2 ≡ view customer u2)
same_from_same customer own t t2 others u u2 one other views calls = (
  one.replies ∙ (λ i. solo_replies (calls i) (views i)) ∙ sym other.replies,
  one.rows ∙ (λ i. solo_state (calls i) (views i)) ∙ sym other.rows,
)
