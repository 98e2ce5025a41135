-- What a body reads as, by what the reader says.
use Rattle.std.proofs.Common.{◌≡◌, ℕ, List, Bool, true, false, if◌then◌else◌, Some, None, Ok, Err, refl, ok_or, IsUtf8}
use Rattle.std.specs.Str.{is_utf8}
use Rattle.std.proofs.lemmas.Str.{is_utf8-from_IsUtf8, IsUtf8-from_is_utf8}
use Rattle.serde_json.specs.Data.{Data}
use Rattle.serde_json.specs.Read.{read}
use Rattle.members.specs.declared.DocumentFault.TheVariants.{NotDocument}
use Rattle.members.specs.Prelude.{json_of}

pub json_of-found : (body : List ℕ) (d : Data) → IsUtf8 body → read body ≡ Some d → ok_or (json_of body) NotDocument ≡ Ok d
json_of-found body d text found = rw (is_utf8-from_IsUtf8 body text, found) refl

refused_at : (b : Bool) (body : List ℕ) → is_utf8 body ≡ b → (IsUtf8 body → read body ≡ None)
    → ok_or (if b then read body else None) NotDocument ≡ Err NotDocument
refused_at true body is none = rw (none (IsUtf8-from_is_utf8 body is)) refl
refused_at false body is none = refl

pub json_of-refused : (body : List ℕ) → (IsUtf8 body → read body ≡ None) → ok_or (json_of body) NotDocument ≡ Err NotDocument
json_of-refused body none = refused_at (is_utf8 body) body refl none
