-- What a text is read to be, for values that the members of a document are and that are judged.
use Rattle.std.proofs.Common.{◌≡◌, ◌≢◌, ◌≤◌, ℕ, Bool, true, false, nat_lt, List, length, Option, Some, None, Result, Ok, Err, IfOk, IfErr, arith, inl, inr}
use Rattle.std.proofs.Common.{IsErrAnd, refl, sym, ap, if◌then◌else◌, ok_or, ltb-false}
use Rattle.std.proofs.lemmas.Bool.Decides.{nat_tests}
use Rattle.toml.specs.Data.{Data}
use Rattle.text_core.specs.Prelude.{GivesUnless, result_and_then, result_map, ◌>>=◌}
use Rattle.members.specs.Prelude.{document_of}

module _ {A E : Type 0} (members : Data → Option A) (judge : A → Result A E)
    (not_toml bad_member over_limit : E) (limit : ℕ) where
  -- what a document's members are judged to be
  abbrev members_judged : Option A → Result A E
  members_judged found = result_and_then judge (ok_or found bad_member)

  abbrev document_judged : Option Data → Result A E
  document_judged document =
      result_and_then (λ d. members_judged (members d)) (ok_or document not_toml)

  abbrev text_judged : List ℕ → Result A E
  text_judged text =
      if nat_lt limit (length text) then Err over_limit else document_judged (document_of text)

  -- a text within the limit whose document has all members is judged as what they make
  pub judged_of_members : (text : List ℕ) (x : A) → length text ≤ limit
      → (document_of text >>= members) ≡ Some x → text_judged text ≡ judge x
  judged_of_members text x within has =
      let under : nat_lt limit (length text) ≡ false = grind (arith, nat_tests, within) in
      rw under (by (document_of text) has)
    where
      by : (document : Option Data) → (document >>= members) ≡ Some x
          → document_judged document ≡ judge x
      by None e = cc
      by (Some d) e = rw e refl

  -- a text that is judged to be something has all its members
  module _ (IsGood : A → Type 0)
      (good : (d : Data) (found x : A) → members d ≡ Some found → judge found ≡ Ok x
      → (found ≡ x) × IsGood x) where
    document_is : (document : Option Data) (x : A) → document_judged document ≡ Ok x
        → ((document >>= members) ≡ Some x) × IsGood x
    document_is None x e = cc
    document_is (Some d) x e = by (members d) refl e
      where
        by : (found : Option A) → members d ≡ found → members_judged found ≡ Ok x
            → (found ≡ Some x) × IsGood x
        by None is e = cc
        by (Some y) is e = let so = good d y x is e in (ap Some so.0, so.1)

    pub text_is : (text : List ℕ) (x : A) → text_judged text ≡ Ok x
        → (length text ≤ limit) × ((document_of text >>= members) ≡ Some x) × IsGood x
    text_is text x e = by (nat_lt limit (length text)) refl e
      where
        by : (over : Bool) → nat_lt limit (length text) ≡ over
            → (if over then Err over_limit else document_judged (document_of text)) ≡ Ok x
            → (length text ≤ limit) × ((document_of text >>= members) ≡ Some x) × IsGood x
        by true over e = cc
        by false under e =
            let known = document_is (document_of text) x e in
            (ltb-false _ _ under, known.0, known.1)

-- what is given is what was wanted
pub wanted_from_given : {A E : Type 0} (wanted : Option A) (x : A) (bad memory : E)
    → GivesUnless memory (Ok x) (ok_or wanted bad) → wanted ≡ Some x
wanted_from_given None x bad memory (inl e) = cc
wanted_from_given None x bad memory (inr e) = cc
wanted_from_given (Some y) x bad memory (inl e) = cc
wanted_from_given (Some y) x bad memory (inr e) = cc

ends_at : {A C E : Type 0} (step : Option A) (whole : Option C) (e bad memory : E) → (step ≡ None → whole ≡ None)
    → GivesUnless memory (Err e) (ok_or step bad) → GivesUnless memory (Err e) (ok_or whole bad)
ends_at None whole e bad memory none (inl same) = let is : e ≡ bad = cc in inl (rw (none refl) (ap Err is))
ends_at (Some x) whole e bad memory none (inl same) = cc
ends_at step whole e bad memory none (inr out) = let is : e ≡ memory = cc in inr (ap Err is)

-- a reader passes the fault of a step on: without the step there is nothing to be given
pub stopped_at : {A B C E : Type 0} (step : Option A) (whole : Option C) (e bad memory : E) (f : B → C) (r : Result B E)
    → IsErrAnd r (λ y. y ≡ e) → (step ≡ None → whole ≡ None)
    → GivesUnless memory (Err e) (ok_or step bad) → GivesUnless memory (result_map f r) (ok_or whole bad)
stopped_at step whole e bad memory f (Ok x) is none given = absurd is
stopped_at step whole e bad memory f (Err y) is none given = rw is (ends_at step whole e bad memory none given)

-- an answer that is as a text is judged, or want of memory
module _ {A E : Type 0} (memory : E) (judged answer : Result A E)
    (exact : GivesUnless memory answer judged) where
  -- is what the text is
  pub valid_from_exact : (Is : A → Type 0) → ((x : A) → judged ≡ Ok x → Is x) → IfOk answer Is
  valid_from_exact Is is = by answer exact
    where
      by : (a : Result A E) → GivesUnless memory a judged → IfOk a Is
      by (Ok x) (inl e) = is x (sym e)
      by (Ok x) (inr e) = cc
      by (Err fault) e = tt

  -- a text of which a fault is told, and not want of memory, is nothing
  pub refused_from_exact : (Is : A → Type 0) → ((x : A) → Is x → judged ≡ Ok x)
      → IfErr answer (λ fault. fault ≢ memory → (x : A) → ¬ Is x)
  refused_from_exact Is read = by answer exact
    where
      by : (a : Result A E) → GivesUnless memory a judged
          → IfErr a (λ fault. fault ≢ memory → (x : A) → ¬ Is x)
      by (Ok x) e = tt
      by (Err fault) (inl e) = λ other x is. let found = read x is in cc
      by (Err fault) (inr e) = λ other x is. other cc

  -- the fault that is told is the lowest of what the members make
  pub lowest_from_exact : (Has : A → Type 0) (IsLowest : E → A → Type 0)
      → ((x : A) → Has x → (fault : E) → judged ≡ Err fault → IsLowest fault x)
      → IfErr answer (λ fault. fault ≢ memory → (x : A) → Has x → IsLowest fault x)
  lowest_from_exact Has IsLowest lowest = by answer exact
    where
      by : (a : Result A E) → GivesUnless memory a judged
          → IfErr a (λ fault. fault ≢ memory → (x : A) → Has x → IsLowest fault x)
      by (Ok x) e = tt
      by (Err fault) (inl e) = λ other x has. lowest x has fault (sym e)
      by (Err fault) (inr e) = λ other x has. absurd (other cc)
