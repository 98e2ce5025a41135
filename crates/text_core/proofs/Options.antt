-- What a value that may be there is, by what is read of it.
use Rattle.std.proofs.Common.{◌≡◌, false, Option, Some, None, refl, is_some, option_map}
use Rattle.std.proofs.lemmas.Option.{same_Some}

pub none_from_test : {A : Type 0} (o : Option A) → is_some o ≡ false → o ≡ None
none_from_test None e = refl
none_from_test (Some x) e = cc

-- what was made of what
pub mapped : {A B : Type 0} (o : Option A) (f : A → B) (y : B) → option_map f o ≡ Some y → (x : A) × (o ≡ Some x) × (f x ≡ y)
mapped None f y e = cc
mapped (Some x) f y e = (x, refl, same_Some (f x) y e)
