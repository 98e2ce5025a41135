-- A request that comes again acts once.
use Rattle.std.proofs.Common.{◌≡◌, ◌+◌, ◌≤◌, ◌<◌, ◌==◌, ◌⊎◌, ◌∷◌, ◌&&◌}
use Rattle.std.proofs.lemmas.List.Elements.{All-filter}
use Rattle.text_core.proofs.Kit.{◌∙◌, ℕ, inl, inr, arith, Bool, true, false, cond, List, [], Option, Some, None, refl, sym, ap, subst, bytes_eq, filter, not}
use Rattle.text_core.proofs.Kit.{AllByRecursion, and_parts, eqb-true, same_text, kept_pass, recursion_from_All, All-from_recursion}
use Rattle.office_tables.specs.declared.rows.SeatState.{SeatState}
use Rattle.office_tables.specs.Prelude.{Tables}
use Rattle.office_commands.specs.Prelude.{acceptance}
use Rattle.office_laws.specs.Prelude.{SoloState, seat_named, view, Exchange, exchanges_of, last_number_of_seat, ActsOnce, firsts, is_accepted}
use Rattle.office_laws.specs.Prelude.{is_again, number_of_wanted, once, Pairwise}
use Rattle.office_laws.proofs.OwnRetries.{Accepts, takes}
use Rattle.office_laws.proofs.RunsAlone.{Own, RunsAlone, alone_state}

abbrev AreAccepted : List Exchange → Type 0
AreAccepted = AllByRecursion (λ x. is_accepted x ≡ true)

-- what an accepted exchange of the own machine does
pub accepts : (x : Exchange) (s mid : SoloState) → Own s x.0 x.1 mid → is_accepted x ≡ true
    → Accepts x.0.seat (number_of_wanted x.0.wanted) x.1 s mid
accepts x s mid own is = rw is at (takes x s mid own)

-- one that isn't accepted changes nothing
pub unaccepted : (x : Exchange) (s mid : SoloState) → Own s x.0 x.1 mid → is_accepted x ≡ false
    → mid ≡ s
unaccepted x s mid own is = rw is at (takes x s mid own)

-- the number of a seat's last request
abbrev pub last_at : List ℕ → SoloState → ℕ
last_at seat s = last_number_of_seat (seat_named seat s)

-- it is that of the last that was accepted
pub last_is : (x : Exchange) (s mid : SoloState) → Accepts x.0.seat (number_of_wanted x.0.wanted) x.1 s mid
    → last_at x.0.seat mid ≡ number_of_wanted x.0.wanted
last_is x s mid a = ap last_number_of_seat a.there ∙ a.last

-- what an accepted request leaves of a seat: nothing changed, or the number is greater
later_last : (x : Exchange) (s mid : SoloState) (seat : List ℕ)
    → Accepts x.0.seat (number_of_wanted x.0.wanted) x.1 s mid
    → (seat_named seat mid ≡ seat_named seat s) ⊎ (last_at seat s < last_at seat mid)
later_last x s mid seat a =
    elim (bytes_eq seat x.0.seat) as
    (λ b. bytes_eq seat x.0.seat ≡ b → (seat_named seat mid ≡ seat_named seat s)
    ⊎ (last_at seat s < last_at seat mid)) [
      | false ↦ λ differs. inl (a.others seat differs)
      | true ↦ λ same. subst
          (λ (seat : List ℕ). (seat_named seat mid ≡ seat_named seat s)
          ⊎ (last_at seat s < last_at seat mid)) (sym (same_text seat x.0.seat same)) (by a.before)
    ] refl
  where
    by : ((number_of_wanted x.0.wanted ≡ last_at x.0.seat s) × (mid ≡ s))
        ⊎ (number_of_wanted x.0.wanted ≡ last_at x.0.seat s + 1)
        → (seat_named x.0.seat mid ≡ seat_named x.0.seat s)
        ⊎ (last_at x.0.seat s < last_at x.0.seat mid)
    by (inl again) = inl (ap (seat_named x.0.seat) again.1)
    by (inr next) = let now : last_at x.0.seat mid ≡ number_of_wanted x.0.wanted = last_is x s mid a in
        inr (omega (arith, now, next))

pub last_grows : (x : Exchange) (s mid : SoloState) (seat : List ℕ)
    → Accepts x.0.seat (number_of_wanted x.0.wanted) x.1 s mid → last_at seat s ≤ last_at seat mid
last_grows x s mid seat a = by (later_last x s mid seat a)
  where
    by : (seat_named seat mid ≡ seat_named seat s) ⊎ (last_at seat s < last_at seat mid)
        → last_at seat s ≤ last_at seat mid
    by (inl same) = let e : last_at seat mid ≡ last_at seat s = ap last_number_of_seat same in omega (arith, e)
    by (inr less) = omega (arith, less)

-- one whose number isn't greater is the last one again
again_same : (x : Exchange) (s mid : SoloState) → Accepts x.0.seat (number_of_wanted x.0.wanted) x.1 s mid
    → number_of_wanted x.0.wanted ≤ last_at x.0.seat s
    → (number_of_wanted x.0.wanted ≡ last_at x.0.seat s) × (mid ≡ s)
again_same x s mid a old = by a.before
  where
    by : ((number_of_wanted x.0.wanted ≡ last_at x.0.seat s) × (mid ≡ s))
        ⊎ (number_of_wanted x.0.wanted ≡ last_at x.0.seat s + 1)
        → (number_of_wanted x.0.wanted ≡ last_at x.0.seat s) × (mid ≡ s)
    by (inl again) = again
    by (inr next) = absurd (omega (arith, next, old))

-- a filter of what holds of each
pub filter_all : {A : Type 0} (P : A → Type 0) (p : A → Bool) (xs : List A) → AllByRecursion P xs
    → AllByRecursion P (filter p xs)
filter_all P p xs all = recursion_from_All P (filter p xs) (All-filter p P xs (All-from_recursion P xs all))

firsts_all : (P : Exchange → Type 0) (xs : List Exchange) → AllByRecursion P xs
    → AllByRecursion P (firsts xs)
firsts_all P [] all = tt
firsts_all P (x ∷ xs) all =
    (all.0, filter_all P (λ later. not (is_again x later)) (firsts xs) (firsts_all P xs all.1))

-- what wasn't accepted can be left out
accepted_alone : (xs : List Exchange) (s s2 : SoloState) → RunsAlone xs s s2
    → RunsAlone (filter is_accepted xs) s s2
accepted_alone [] s s2 run = run
accepted_alone (x ∷ xs) s s2 run =
    let later : RunsAlone (filter is_accepted xs) run.0 s2 = accepted_alone xs run.0 s2 run.2 in
    elim (is_accepted x) as
    (λ b. is_accepted x ≡ b
    → RunsAlone (cond b (x ∷ filter is_accepted xs) (filter is_accepted xs)) s s2) [
      | true ↦ λ _. (run.0, run.1, later)
      | false ↦ λ is. subst (λ (m : SoloState). RunsAlone (filter is_accepted xs) m s2)
          (unaccepted x s run.0 run.1 is) later
    ] refl

-- exchanges that come again can be left out
drop_again : (x : Exchange) (ys : List Exchange) (s s2 : SoloState) → AreAccepted ys
    → number_of_wanted x.0.wanted ≤ last_at x.0.seat s → RunsAlone ys s s2
    → RunsAlone (filter (λ later. not (is_again x later)) ys) s s2
drop_again x [] s s2 all reached run = run
drop_again x (y ∷ ys) s s2 all reached run =
    let a : Accepts y.0.seat (number_of_wanted y.0.wanted) y.1 s run.0 = accepts y s run.0 run.1 all.0 in
    let more : last_at x.0.seat s ≤ last_at x.0.seat run.0 = last_grows y s run.0 x.0.seat a in
    let later : RunsAlone (filter (λ later. not (is_again x later)) ys) run.0 s2 =
    drop_again x ys run.0 s2 all.1 (omega (arith, reached, more)) run.2 in
    elim (is_again x y) as
    (λ b. is_again x y ≡ b
    → RunsAlone (cond (not b) (y ∷ filter (λ later. not (is_again x later)) ys)
    (filter (λ later. not (is_again x later)) ys)) s s2) [
      | true ↦ λ again.
          let parts = and_parts (bytes_eq y.0.section.name x.0.section.name
          && bytes_eq y.0.seat x.0.seat) (number_of_wanted y.0.wanted == number_of_wanted x.0.wanted) again in
          let seat : y.0.seat ≡ x.0.seat =
          same_text _ _ (and_parts (bytes_eq y.0.section.name x.0.section.name)
          (bytes_eq y.0.seat x.0.seat) parts.0).1 in
          let number : number_of_wanted y.0.wanted ≡ number_of_wanted x.0.wanted = eqb-true _ _ parts.1 in
          let at_seat : last_at y.0.seat s ≡ last_at x.0.seat s =
          ap (λ (seat : List ℕ). last_at seat s) seat in
          subst (λ (m : SoloState). RunsAlone (filter (λ later. not (is_again x later)) ys) m s2)
          (again_same y s run.0 a (omega (arith, number, at_seat, reached))).1 later
      | false ↦ λ _. (run.0, run.1, later)
    ] refl

firsts_alone : (xs : List Exchange) (s s2 : SoloState) → AreAccepted xs → RunsAlone xs s s2
    → RunsAlone (firsts xs) s s2
firsts_alone [] s s2 all run = run
firsts_alone (x ∷ xs) s s2 all run =
    let a : Accepts x.0.seat (number_of_wanted x.0.wanted) x.1 s run.0 = accepts x s run.0 run.1 all.0 in
    let now : last_at x.0.seat run.0 ≡ number_of_wanted x.0.wanted = last_is x s run.0 a in (
      run.0,
      run.1,
      drop_again x (firsts xs) run.0 s2
          (firsts_all (λ y. is_accepted y ≡ true) xs all.1) (omega (arith, now))
          (firsts_alone xs run.0 s2 all.1 run.2),
    )

-- the own machine's state is that after each accepted command once
pub once_alone : (xs : List Exchange) (s s2 : SoloState) → RunsAlone xs s s2 → RunsAlone (once xs) s s2
once_alone xs s s2 run =
    firsts_alone (filter is_accepted xs) s s2 (kept_pass is_accepted xs)
    (accepted_alone xs s s2 run)

-- the reply is kept for the seat's number, or the seat is past it
abbrev reply_in : Option SeatState → List ℕ
reply_in None = []
reply_in (Some row) = row.reply

record IsKept (x : Exchange) (s : SoloState) : Type 0 where
  reached : number_of_wanted x.0.wanted ≤ last_at x.0.seat s
  kept : last_at x.0.seat s ≡ number_of_wanted x.0.wanted
      → x.1 ≡ acceptance (reply_in (seat_named x.0.seat s))

kept_more : (x y : Exchange) (s mid : SoloState) → Accepts y.0.seat (number_of_wanted y.0.wanted) y.1 s mid
    → IsKept x s → IsKept x mid
kept_more x y s mid a is = record {
  reached = let more : last_at x.0.seat s ≤ last_at x.0.seat mid = last_grows y s mid x.0.seat a in
      omega (arith, is.reached, more);
  kept = by (later_last y s mid x.0.seat a);
}
  where
    by : (seat_named x.0.seat mid ≡ seat_named x.0.seat s)
        ⊎ (last_at x.0.seat s < last_at x.0.seat mid)
        → last_at x.0.seat mid ≡ number_of_wanted x.0.wanted
        → x.1 ≡ acceptance (reply_in (seat_named x.0.seat mid))
    by (inl same) now = rw same (is.kept (ap last_number_of_seat (sym same) ∙ now))
    by (inr less) now = absurd (omega (arith, less, now, is.reached))

-- one that comes again has the reply that is kept
again_kept : (x y : Exchange) (s mid : SoloState) → Accepts y.0.seat (number_of_wanted y.0.wanted) y.1 s mid
    → IsKept x s → is_again x y ≡ true → y.1 ≡ x.1
again_kept x y s mid a is again =
    let parts = and_parts (bytes_eq y.0.section.name x.0.section.name && bytes_eq y.0.seat x.0.seat)
    (number_of_wanted y.0.wanted == number_of_wanted x.0.wanted) again in
    let seat : y.0.seat ≡ x.0.seat =
    same_text _ _ (and_parts (bytes_eq y.0.section.name x.0.section.name)
    (bytes_eq y.0.seat x.0.seat) parts.0).1 in
    let number : number_of_wanted y.0.wanted ≡ number_of_wanted x.0.wanted = eqb-true _ _ parts.1 in
    let at_seat : last_at y.0.seat s ≡ last_at x.0.seat s =
    ap (λ (seat : List ℕ). last_at seat s) seat in
    let same = again_same y s mid a (omega (arith, number, at_seat, is.reached)) in
    let there : seat_named x.0.seat s ≡ Some a.row = ap (seat_named x.0.seat) (sym same.1)
    ∙ (ap (λ (seat : List ℕ). seat_named seat mid) (sym seat) ∙ a.there) in
    let kept : x.1 ≡ acceptance (reply_in (seat_named x.0.seat s)) =
    is.kept (sym at_seat ∙ (sym same.0 ∙ number)) in
    a.shown ∙ (ap (λ (o : Option SeatState). acceptance (reply_in o)) (sym there) ∙ sym kept)

agree_with : (x : Exchange) (ys : List Exchange) (s s2 : SoloState) → AreAccepted ys → IsKept x s
    → RunsAlone ys s s2 → AllByRecursion (λ later. is_again x later ≡ true → later.1 ≡ x.1) ys
agree_with x [] s s2 all is run = tt
agree_with x (y ∷ ys) s s2 all is run =
    let a : Accepts y.0.seat (number_of_wanted y.0.wanted) y.1 s run.0 = accepts y s run.0 run.1 all.0 in
    (again_kept x y s run.0 a is, agree_with x ys run.0 s2 all.1 (kept_more x y s run.0 a is) run.2)

agree : (xs : List Exchange) (s s2 : SoloState) → AreAccepted xs → RunsAlone xs s s2
    → Pairwise (λ x later. is_again x later ≡ true → later.1 ≡ x.1) xs
agree [] s s2 all run = tt
agree (x ∷ xs) s s2 all run =
    let a : Accepts x.0.seat (number_of_wanted x.0.wanted) x.1 s run.0 = accepts x s run.0 run.1 all.0 in
    let now : last_at x.0.seat run.0 ≡ number_of_wanted x.0.wanted = last_is x s run.0 a in
    let kept : IsKept x run.0 = record {
      reached = omega (arith, now);
      kept = λ _. a.shown ∙ ap (λ (o : Option SeatState). acceptance (reply_in o)) (sym a.there);
    } in
    (agree_with x xs run.0 s2 all.1 kept run.2, agree xs run.0 s2 all.1 run.2)

pub acts_once : (customer : List ℕ) (xs : List Exchange) (t t2 : Tables)
    → RunsAlone (exchanges_of customer xs) (view customer t) (view customer t2)
    → ActsOnce customer xs t t2
acts_once customer xs t t2 run = record {
  rows = alone_state (once (exchanges_of customer xs)) (view customer t) (view customer t2)
      (once_alone (exchanges_of customer xs) (view customer t) (view customer t2) run);
  repeats = agree (filter is_accepted (exchanges_of customer xs)) (view customer t) (view customer t2)
      (kept_pass is_accepted (exchanges_of customer xs))
      (accepted_alone (exchanges_of customer xs) (view customer t) (view customer t2) run);
}
