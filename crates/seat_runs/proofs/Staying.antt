-- What is to be burnt of a chip stays over a run, until the chip is read back or scrapped.
use Rattle.std.proofs.Common.{◌≡◌, ◌⊎◌, ◌∷◌, ◌++◌, ◌&&◌, ◌==◌}
use Rattle.text_core.proofs.Kit.{◌∙◌, ℕ, inl, inr, Bool, true, false, List, [], Some, refl, sym, ap, subst, bytes_eq, not, and_parts, and_right, nat_lt}
use Rattle.text_core.proofs.Kit.{same_text}
use Rattle.http_replies.specs.Prelude.{Answer as Response, code_of, is_unavailable}
use Rattle.site_core.specs.Prelude.{Ownership}
use Rattle.office_tables.specs.declared.rows.Device.{Device}
use Rattle.office_tables.specs.Prelude.{Tables}
use Rattle.fusemap_core.specs.Prelude.{Map}
use Rattle.office_rules.specs.Prelude.{map_named}
use Rattle.office_commands.specs.Prelude.{unkept}
use Rattle.office_laws.specs.Prelude.{AreSeats, Exchange, IsRun, IsSound, Passes, SeatRun, calls_of, is_accepted, is_own}
use Rattle.office_laws.specs.Prelude.{number_of_wanted, view, writes}
use Rattle.office_laws.proofs.OwnRetries.{not_success}
use Rattle.office_laws.proofs.Passing.{Serves}
use Rattle.office_laws.proofs.Readings.{device_own}
use Rattle.office_laws.proofs.RunLaws.{serves_grown}
use Rattle.seat_runs.specs.Prelude.{HasEnd, IsAwaiting, IsDoneThen, IsRecorded, Moment, StaysExpected, StaysUntilEnd, asks_for, device_of}
use Rattle.seat_runs.specs.Prelude.{is_end, is_plan}
use Rattle.seat_runs.proofs.Coming.{row_number}
use Rattle.seat_runs.proofs.Devices.{own_device}
use Rattle.seat_runs.proofs.Following.{IsUnkept, not_own, passes_unkept}
use Rattle.seat_runs.proofs.Making.{device_stays}
use Rattle.seat_runs.proofs.Moving.{expected_stays}
use Rattle.seat_runs.proofs.Recording.{plan_recorded}

-- the first exchange of a run, and one of those behind it
abbrev pub first_moment : (x : Exchange) (xs : List Exchange) (t mid t2 : Tables) → Passes t x.0 x.1 mid
    → IsRun xs mid t2 → Moment (x ∷ xs) t t2
first_moment x xs t mid t2 passes run = record {
  before = [];
  exchange = x;
  behind = xs;
  old = t;
  new = mid;
  are = refl;
  reached = refl;
  passes = passes;
  goes_on = run;
}

abbrev pub later_moment : (x : Exchange) (xs : List Exchange) (t mid t2 : Tables) → Passes t x.0 x.1 mid
    → Moment xs mid t2 → Moment (x ∷ xs) t t2
later_moment x xs t mid t2 passes m = record {
  before = x ∷ m.before;
  exchange = m.exchange;
  behind = m.behind;
  old = m.old;
  new = m.new;
  are = ap (λ (ys : List Exchange). x ∷ ys) m.are;
  reached = (mid, passes, m.reached);
  passes = m.passes;
  goes_on = m.goes_on;
}

later_end : (customer chip : List ℕ) (x : Exchange) (xs : List Exchange) (t mid t2 : Tables)
    → Passes t x.0 x.1 mid → HasEnd customer chip xs mid t2 → HasEnd customer chip (x ∷ xs) t t2
later_end customer chip x xs t mid t2 passes ends = record {
  moment = later_moment x xs t mid t2 passes ends.moment;
  its = ends.its;
  ends = ends.ends;
  done = ends.done;
}

-- the device is as it was, or the chip was read back or scrapped
abbrev Later : List ℕ → List ℕ → Device → List Exchange → Tables → Tables → Type 0
Later customer chip d xs t t2 = (device_of customer chip t2 ≡ Some d) ⊎ HasEnd customer chip xs t t2

-- over the first exchange of a run, where it is so over the others
module _ (customer chip : List ℕ) (d : Device) (awaits : IsAwaiting d) (x : Exchange) (xs : List Exchange)
    (t mid t2 : Tables) (site : Ownership) (one : Serves site x t mid) (passes : Passes t x.0 x.1 mid)
    (run : IsRun xs mid t2) (there : device_of customer chip t ≡ Some d)
    (next : device_of customer chip mid ≡ Some d → Later customer chip d xs mid t2) where
  longer : Later customer chip d xs mid t2 → Later customer chip d (x ∷ xs) t t2
  longer (inl same) = inl same
  longer (inr ends) = inr (later_end customer chip x xs t mid t2 passes ends)

  ended : customer ≡ x.0.section.name → (own_device chip (view customer mid) ≡ Some d)
      ⊎ ((asks_for (is_end chip) x.0.wanted ≡ true) × (is_accepted x ≡ true)
      × (nat_lt (row_number x.0.seat (view customer t)) (number_of_wanted x.0.wanted) ≡ true))
      → Later customer chip d (x ∷ xs) t t2
  ended named (inl same) = longer (next (device_own customer chip mid ∙ same))
  ended named (inr ends) = inr (record {
    moment = first_moment x xs t mid t2 passes run;
    its = sym named;
    ends = ends.0;
    done = (
      ends.1,
      subst (λ name. nat_lt (row_number x.0.seat (view name t)) (number_of_wanted x.0.wanted) ≡ true)
          named ends.2,
    );
  })

  of_own : (b : Bool) → is_own customer x ≡ b → Later customer chip d (x ∷ xs) t t2
  of_own false other =
      longer (next (device_own customer chip mid
      ∙ (ap (own_device chip) (one.other customer other) ∙ (sym (device_own customer chip t) ∙ there))))
  of_own true own =
      ended (same_text customer x.0.section.name
      (and_parts (bytes_eq customer x.0.section.name) (not (is_unavailable x.1.status)) own).0)
      (device_stays x.0 (view customer t) (view customer mid) x.1 chip d
      (sym (device_own customer chip t) ∙ there) awaits x.0.wanted (one.own customer own))

  stays_by : Later customer chip d (x ∷ xs) t t2
  stays_by = of_own (is_own customer x) refl

pub stays : (customer chip : List ℕ) (d : Device) → IsAwaiting d → (first : Ownership) (xs : List Exchange)
    (last : Ownership) (t t2 : Tables) → IsSound first t → AreSeats first (calls_of xs) last → IsRun xs t t2
    → device_of customer chip t ≡ Some d → Later customer chip d xs t t2
stays customer chip d awaits first [] last t t2 sound seats run there =
    inl (ap (device_of customer chip) run ∙ there)
stays customer chip d awaits first (x ∷ xs) last t t2 sound seats run there =
    stays_by customer chip d awaits x xs t run.0 t2 seats.0 one run.1 run.2 there
    (stays customer chip d awaits seats.0 xs last run.0 t2 one.sound seats.4 run.2)
  where
    one : Serves seats.0 x t run.0
    one = serves_grown first x xs last t run.0 sound seats run.1

-- behind some exchanges of a run the tables are sound for the site as it stands then
pub reached_sound : (first : Ownership) (before rest : List Exchange) (last : Ownership) (t mid : Tables)
    → IsSound first t → AreSeats first (calls_of (before ++ rest)) last → IsRun before t mid
    → (site : Ownership) × IsSound site mid × AreSeats site (calls_of rest) last
reached_sound first [] rest last t mid sound seats run = (first, subst (IsSound first) (sym run) sound, seats)
reached_sound first (x ∷ xs) rest last t mid sound seats run =
    reached_sound seats.0 xs rest last run.0 mid
    (serves_grown first x (xs ++ rest) last t run.0 sound seats run.1).sound seats.4 run.2

-- an accepted exchange is its customer's own
accepted_own : (x : Exchange) → IsUnkept x → is_accepted x ≡ true → is_own x.0.section.name x ≡ true
accepted_own x kept accepted = by (is_own x.0.section.name x) refl
  where
    by : (b : Bool) → is_own x.0.section.name x ≡ b → b ≡ true
    by true e = refl
    by false e =
        let same = kept (not_own x.0.section.name x refl e) in
        let fails : is_accepted x ≡ false =
        ap (λ (reply : Response). writes x.0.wanted && (code_of reply.status == 200)) same
        ∙ and_right (writes x.0.wanted) _ (not_success unkept) in
        cc (accepted, fails)

module _ (r : SeatRun) where
  pub recorded_at : (m : Moment r.exchanges r.old r.new) (chip : List ℕ)
      → asks_for (is_plan chip) m.exchange.0.wanted ≡ true → IsDoneThen m
      → IsRecorded m.exchange.0.section.name chip m.exchange.1 m.new
  recorded_at m chip plans_it done =
      let seats = subst (λ (xs : List Exchange). AreSeats r.first (calls_of xs) r.last) m.are r.are_seats in
      let here = reached_sound r.first m.before (m.exchange ∷ m.behind) r.last r.old m.old r.is_sound seats m.reached in
      plan_recorded here.1 here.2.0 m.exchange
      (serves_grown here.0 m.exchange m.behind r.last m.old m.new here.1 here.2 m.passes) here.2.3.wanted
      (accepted_own m.exchange (passes_unkept m.exchange m.old m.new m.passes) done.0) chip plans_it done.0 done.1

  pub stays_from : (m : Moment r.exchanges r.old r.new) (customer chip : List ℕ) (d : Device)
      → device_of customer chip m.new ≡ Some d → StaysUntilEnd customer chip d m.behind m.new r.new
  stays_from m customer chip d there awaits =
      let seats = subst (λ (xs : List Exchange). AreSeats r.first (calls_of xs) r.last) m.are r.are_seats in
      let here = reached_sound r.first m.before (m.exchange ∷ m.behind) r.last r.old m.old r.is_sound seats m.reached in
      let one = serves_grown here.0 m.exchange m.behind r.last m.old m.new here.1 here.2 m.passes in
      stays customer chip d awaits here.2.0 m.behind r.last m.new r.new one.sound here.2.4 m.goes_on there

  pub expected_from : (m : Moment r.exchanges r.old r.new) (customer chip : List ℕ) (d : Device) (by_map : Map)
      → device_of customer chip m.new ≡ Some d → map_named customer d.map m.new ≡ Some by_map
      → StaysExpected customer chip by_map d r.new
  expected_from m customer chip d by_map there named =
      let seats = subst (λ (xs : List Exchange). AreSeats r.first (calls_of xs) r.last) m.are r.are_seats in
      let here = reached_sound r.first m.before (m.exchange ∷ m.behind) r.last r.old m.old r.is_sound seats m.reached in
      let one = serves_grown here.0 m.exchange m.behind r.last m.old m.new here.1 here.2 m.passes in
      expected_stays customer chip by_map here.2.0 m.behind r.last m.new r.new one.sound here.2.4 m.goes_on d there named
