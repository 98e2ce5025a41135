-- What stands at the place of the first that passes a test.
use Rattle.std.proofs.Common.{◌≡◌, ◌<◌, get_or}
use Rattle.text_core.proofs.Kit.{ℕ, nat_lt, Bool, true, false, cond, List, length, Option, Some, None, refl, sym, ap, subst, ◌∙◌, bytes_eq, position, IfSome}
use Rattle.text_core.proofs.Kit.{IfNone, position_or_len, ltb-true, passes_at_first, bytes_eq-Decides}

at_first : {X : Type 0} (p : X → Bool) (xs : List X) (first place : ℕ) (d : X) (is_low : Bool) → first ≡ position_or_len p xs
    → nat_lt first (length xs) ≡ is_low → cond is_low (Some first) None ≡ Some place
    → p (get_or xs place d) ≡ true
at_first p xs first place d true is low same =
    let at_first : nat_lt (position_or_len p xs) (length xs) ≡ true = ap (λ i. nat_lt i (length xs)) (sym is) ∙ low in
    let passes = passes_at_first p xs d (ltb-true (position_or_len p xs) (length xs) at_first) in
    let place_is : place ≡ position_or_len p xs = cc in
    ap (λ i. p (get_or xs i d)) place_is ∙ passes
at_first p xs first place d false is low same = cc

-- it passes
pub passes_at_place : {X : Type 0} (p : X → Bool) (xs : List X) (place : ℕ) (d : X) → position p xs ≡ Some place → p (get_or xs place d) ≡ true
passes_at_place p xs place d found =
    let first = position_or_len p xs in
    at_first p xs first place d (nat_lt first (length xs)) refl refl found

-- the text at the place of a text is the text itself
pub text_at_place : (text : List ℕ) (texts : List (List ℕ)) (place : ℕ) (d : List ℕ) → position (bytes_eq text) texts ≡ Some place → get_or texts place d ≡ text
text_at_place text texts place d found = sym ((bytes_eq-Decides text (get_or texts place d)).0 (passes_at_place (bytes_eq text) texts place d found))

within : (first len place : ℕ) (is_low : Bool) → nat_lt first len ≡ is_low → cond is_low (Some first) None ≡ Some place → place < len
within first len place true low same = let is : first ≡ place = cc in subst (λ n. n < len) is (ltb-true first len low)
within first len place false low same = cc

-- it lies within the list
pub place_within : {X : Type 0} (p : X → Bool) (xs : List X) (place : ℕ) → position p xs ≡ Some place → place < length xs
place_within p xs place found = within (position_or_len p xs) (length xs) place (nat_lt (position_or_len p xs) (length xs)) refl found

-- what holds at the place that was found
pub at_found : (P : ℕ → Type 0) (found : Option ℕ) (place : ℕ) → found ≡ Some place → P place → IfSome found P
at_found P None place is holds = cc
at_found P (Some n) place is holds = let same : place ≡ n = cc in subst P same holds

-- where none was found, nothing is said of its place
pub at_none : (P : ℕ → Type 0) (found : Option ℕ) → found ≡ None → IfSome found P
at_none P None is = tt
at_none P (Some n) is = cc

-- where one was found, nothing is said of the other case
pub not_none : (P : Type 0) (found : Option ℕ) (place : ℕ) → found ≡ Some place → IfNone found P
not_none P None place is = cc
not_none P (Some n) place is = tt
