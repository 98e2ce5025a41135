-- What was told, and the books.
use Rattle.std.proofs.Common.{◌≡◌, ℕ, ◌+◌, Bool, true, false, List, [], ◌∷◌, refl, sym, subst, inl, inr, arith}
use Rattle.std.specs.Prelude.{◌==◌, if◌then◌else◌}
use Rattle.std.proofs.lemmas.Bool.{eq-eqb, ne_eqb}
use Rattle.seat_core.specs.declared.request.Answered.{Answered}
use Rattle.seat_core.specs.declared.station.Place.{Place}
use Rattle.seat_core.specs.declared.station.Place.TheVariants.{Free, UnderWay, Unknown}
use Rattle.seat_laws.specs.Concludes.{AreToldOf, IsToldOf}
use Rattle.seat_laws.specs.Served.{Entry}

-- those that were accepted before this number
abbrev pub before_number : ℕ → List Entry → List Entry
before_number number [] = []
before_number number (entry ∷ books) = if entry.number == number then books else entry ∷ books

-- those that were accepted before what is under way, or before the next one
abbrev pub before_place : Place → List Entry → List Entry
before_place Unknown books = books
before_place (Free number) books = before_number number books
before_place (UnderWay sent) books = before_number sent.number books

pub told_more : (entry : Entry) (books : List Entry) (told : List Answered) → AreToldOf books told
    → AreToldOf (entry ∷ books) told
told_more entry books [] are = tt
told_more entry books (told ∷ others) are = inr are

pub told_all : (number : ℕ) (books : List Entry) (told : List Answered) → AreToldOf (before_number number books) told
    → AreToldOf books told
told_all number [] told are = are
told_all number (entry ∷ books) told are = by (entry.number == number) are
  where
    by : (b : Bool) → AreToldOf (if b then books else entry ∷ books) told → AreToldOf (entry ∷ books) told
    by true are = told_more entry books told are
    by false are = are

pub told_placed : (place : Place) (books : List Entry) (told : List Answered) → AreToldOf (before_place place books) told
    → AreToldOf books told
told_placed Unknown books told are = are
told_placed (Free number) books told are = told_all number books told are
told_placed (UnderWay sent) books told are = told_all sent.number books told are

-- the newest has the number, or another one
pub before_newest : (number : ℕ) (newest : Entry) (older : List Entry) → newest.number ≡ number
    → before_number number (newest ∷ older) ≡ older
before_newest number newest older is =
    let t = eq-eqb newest.number number is in rw t refl

pub before_other : (number : ℕ) (newest : Entry) (older : List Entry) → (newest.number ≡ number → ⊥)
    → before_number number (newest ∷ older) ≡ newest ∷ older
before_other number newest older other =
    let t = ne_eqb newest.number number other in rw t refl

-- the next number
pub told_next : (number next : ℕ) (newest : Entry) (older : List Entry) (books : List Entry) (told : List Answered)
    → books ≡ newest ∷ older → newest.number ≡ number → next ≡ number + 1
    → AreToldOf (before_number number books) told → AreToldOf (before_number next books) told
told_next number next newest older books told are is after was =
    let now = subst (λ b. AreToldOf (before_number number b) told) are was in
    let all : AreToldOf (newest ∷ older) told = told_more newest older told
    (subst (λ b. AreToldOf b told) (before_newest number newest older is) now) in
    subst (λ b. AreToldOf (before_number next b) told) (sym are)
    (subst (λ b. AreToldOf b told) (sym (before_other next newest older (λ e. omega arith))) all)

-- the newest is told
pub told_newest : (number : ℕ) (newest : Entry) (older : List Entry) (books : List Entry) (told : Answered)
    (others : List Answered) → books ≡ newest ∷ older → newest.number ≡ number → IsToldOf newest told
    → AreToldOf (before_number number books) others → AreToldOf books (told ∷ others)
told_newest number newest older books told others are is its was =
    let now = subst (λ b. AreToldOf (before_number number b) others) are was in
    subst (λ b. AreToldOf b (told ∷ others)) (sym are)
    (inl (its, subst (λ b. AreToldOf b others) (before_newest number newest older is) now))
