-- A text that may be missing, as a parameter and in a column.
use Rattle.std.proofs.Common.{◌≡◌, ℕ, true, List, Option, Some, None, refl, option_map}
use Rattle.sqlite.specs.declared.types.Value.TheVariants.{Text as Words}
use Rattle.sqlite.specs.Kind.TheVariants.{Text}
use Rattle.office_sql.proofs.Kit.{cast, bound_value, or_null, is_of}
use Rattle.office_sql.specs.Prelude.{text_if, text_value}

pub text_param : {X : Type 0} (f : X → List ℕ) (o : Option X) → bound_value (or_null (λ x. Words (f x)) o) ≡ text_value (option_map f o)
text_param f None = refl
text_param f (Some x) = refl

pub text_cast : (o : Option (List ℕ)) → cast Text (text_value o) ≡ text_value o
text_cast None = refl
text_cast (Some t) = refl

pub text_back : (o : Option (List ℕ)) → text_if (text_value o) ≡ o
text_back None = refl
text_back (Some t) = refl

pub text_typed : (o : Option (List ℕ)) → is_of Text (text_value o) ≡ true
text_typed None = refl
text_typed (Some t) = refl
