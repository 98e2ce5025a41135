-- What a result is, by what is read of it.
use Rattle.std.proofs.Common.{◌≡◌, Some, Result, Ok, Err, IsOk, MatchResult, refl, ap}
use Rattle.std.specs.Result.{result_ok}

pub ok_is : {A E : Type 0} (r : Result A E) (x : A) → result_ok r ≡ Some x → r ≡ Ok x
ok_is (Ok y) x e = ap Ok (cc)
ok_is (Err y) x e = cc

-- a result whose error can't be is a value
pub IsOk-from_cases : {T E : Type 0} (r : Result T E) (P : T → Type 0) (Q : E → Type 0) → MatchResult r P Q → ((e : E) → ¬ Q e) → IsOk r
IsOk-from_cases (Ok x) P Q h none = refl
IsOk-from_cases (Err e) P Q h none = absurd (none e h)
