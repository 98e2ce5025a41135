-- What follows of an answer from facts about it, and of a list without a length.
use Rattle.std.proofs.Common.{◌≡◌, ◌↔◌, ℕ, ◌==◌, List, [], ◌∷◌, length, true, true≢false, refl, sym, ap, ◌∙◌, arith, Result, Ok, Err, IfOk}

pub all_three : {A E : Type 0} (r : Result A E) (P Q R T : A → Type 0) → ((x : A) → P x → Q x → R x → T x) → IfOk r P → IfOk r Q → IfOk r R → IfOk r T
all_three (Ok x) P Q R T f p q r = f x p q r
all_three (Err e) P Q R T f p q r = tt

pub no_items : {A : Type 0} (xs : List A) (n : ℕ) → n ≡ length xs → (n == 0) ≡ true → xs ≡ []
no_items [] n is e = refl
no_items (x ∷ xs) n is e = absurd (true≢false (sym e ∙ grind arith))

pub iff_then : {P Q R : Type 0} → P ↔ Q → Q ↔ R → P ↔ R
iff_then h k = (λ p. k.0 (h.0 p), λ r. h.1 (k.1 r))

pub of_none : {A : Type 0} (xs : List A) (n : ℕ) → n ≡ length xs → xs ≡ [] → (n == 0) ≡ true
of_none xs n is e = ap (λ m. m == 0) (is ∙ ap length e)
