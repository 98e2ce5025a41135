-- What holds before a step holds between its acts, and behind it.
use Rattle.std.proofs.Common.{◌≡◌, ℕ, suc, zero, Bool, true, false, List, [], ◌∷◌, take, refl, sym, subst}
use Rattle.std.specs.Prelude.{if◌then◌else◌, MatchBool}
use Rattle.seat_core.specs.declared.act.Act.{Act}
use Rattle.seat_core.specs.declared.act.Act.TheVariants.{Write, Show}
use Rattle.seat_core.specs.declared.act.Trouble.{Trouble}
use Rattle.seat_core.specs.declared.station.SeatFile.{SeatFile}
use Rattle.seat_core.specs.declared.station.Station.{Station}
use Rattle.seat_core.specs.Prelude.{IsSafe, Step, does, writes}
use Rattle.seat_laws.specs.Runs.{World, after_act, after_acts}

-- it holds before each of these acts, and behind the last
abbrev pub Lasts : (SeatFile → World → Type 0) → SeatFile → SeatFile → List Act → World → Type 0
Lasts Q f left [] w = Q f w
Lasts Q f left (Write ∷ acts) w = Q f w × Lasts Q left left acts w
Lasts Q f left (act ∷ acts) w = Q f w × Lasts Q f left acts (after_act act w)

-- what holds in a step, and of what the station waits for behind it
pub record Keeps (Q : SeatFile → World → Type 0) (V : Station → World → Type 0) (s : Station) (w : World)
    (step : Step) : Type 0 where
  pub lasts : Lasts Q s.file step.left.file step.acts w
  pub waits : V step.left (after_acts step.acts w)

holds_first : (Q : SeatFile → World → Type 0) (f left : SeatFile) (acts : List Act) (w : World)
    → Lasts Q f left acts w → Q f w
holds_first Q f left [] w lasts = lasts
holds_first Q f left (Write ∷ acts) w lasts = lasts.0
holds_first Q f left (act ∷ acts) w lasts = lasts.0

-- the file is written already
cut_written : (Q : SeatFile → World → Type 0) (left : SeatFile) (acts : List Act) (w : World) (count : ℕ)
    → Lasts Q left left acts w → Q left (after_acts (take count acts) w)
cut_written Q left acts w zero lasts = holds_first Q left left acts w lasts
cut_written Q left [] w (suc count) lasts = lasts
cut_written Q left (Write ∷ acts) w (suc count) lasts = cut_written Q left acts w count lasts.1
cut_written Q left (act ∷ acts) w (suc count) lasts = cut_written Q left acts (after_act act w) count lasts.1

-- a stop between two acts
pub cut_holds : (Q : SeatFile → World → Type 0) (f left : SeatFile) (acts : List Act) (w : World) (count : ℕ)
    → Lasts Q f left acts w → Q (if writes (take count acts) then left else f) (after_acts (take count acts) w)
cut_holds Q f left acts w zero lasts = holds_first Q f left acts w lasts
cut_holds Q f left [] w (suc count) lasts = lasts
cut_holds Q f left (Write ∷ acts) w (suc count) lasts = cut_written Q left acts w count lasts.1
cut_holds Q f left (act ∷ acts) w (suc count) lasts = cut_holds Q f left acts (after_act act w) count lasts.1

ends_written : (Q : SeatFile → World → Type 0) (left : SeatFile) (acts : List Act) (w : World)
    → Lasts Q left left acts w → Q left (after_acts acts w)
ends_written Q left [] w lasts = lasts
ends_written Q left (Write ∷ acts) w lasts = ends_written Q left acts w lasts.1
ends_written Q left (act ∷ acts) w lasts = ends_written Q left acts (after_act act w) lasts.1

ends_holds : (Q : SeatFile → World → Type 0) (f left : SeatFile) (acts : List Act) (w : World)
    → Lasts Q f left acts w → Q (if writes acts then left else f) (after_acts acts w)
ends_holds Q f left [] w lasts = lasts
ends_holds Q f left (Write ∷ acts) w lasts = ends_written Q left acts w lasts.1
ends_holds Q f left (act ∷ acts) w lasts = ends_holds Q f left acts (after_act act w) lasts.1

-- what a step leaves is written, where it differs
written : (Q : SeatFile → World → Type 0) (f left : SeatFile) (w : World) (b : Bool)
    → MatchBool b (Unit {0}) (left ≡ f) → Q (if b then left else f) w → Q left w
written Q f left w true is holds = holds
written Q f left w false is holds = subst (λ g. Q g w) (sym is) holds

-- the whole step
pub step_holds : (Q : SeatFile → World → Type 0) (V : Station → World → Type 0) (s : Station) (w : World)
    (step : Step) → IsSafe s step → Keeps Q V s w step → Q step.left.file (after_acts step.acts w)
step_holds Q V s w step safe keeps = written Q s.file step.left.file (after_acts step.acts w) (writes step.acts)
    safe.written (ends_holds Q s.file step.left.file step.acts w keeps.lasts)

-- nothing is done, or shown
pub quiet : {Q : SeatFile → World → Type 0} {V : Station → World → Type 0} {s : Station} {w : World}
    → Q s.file w → V s w → Keeps Q V s w (does [] s)
quiet holds waits = record { lasts = holds; waits = waits }

pub shows : {Q : SeatFile → World → Type 0} {V : Station → World → Type 0} {s : Station} {w : World}
    → (trouble : Trouble) → Q s.file w → V s w → Keeps Q V s w (does (Show trouble ∷ []) s)
shows trouble holds waits = record { lasts = (holds, holds); waits = waits }

-- either of two steps, by the test
pub either : (Q : SeatFile → World → Type 0) (V : Station → World → Type 0) (s : Station) (w : World) (b : Bool)
    (x y : Step) → (b ≡ true → Keeps Q V s w x) → (b ≡ false → Keeps Q V s w y)
    → Keeps Q V s w (if b then x else y)
either Q V s w true x y p q = p refl
either Q V s w false x y p q = q refl
