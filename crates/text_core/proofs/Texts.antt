-- Texts that are equal, as a test and as values.
use Rattle.std.proofs.Common.{◌≡◌, ℕ, List, true, bytes_eq}
use Rattle.std.proofs.lemmas.Slice.Eq.{bytes_eq-Decides}

pub same_text : (a b : List ℕ) → bytes_eq a b ≡ true → a ≡ b
same_text a b e = (bytes_eq-Decides a b).0 e

pub text_itself : (a b : List ℕ) → a ≡ b → bytes_eq a b ≡ true
text_itself a b e = (bytes_eq-Decides a b).1 e
