-- A hardware address has one text, from which it is read back.
use Rattle.std.proofs.Common.{◌≡◌, ◌+◌, ◌-◌, ◌*◌, ◌/◌, ◌%◌, ◌^◌, ◌<◌, ◌≤◌, ◌∷◌, ◌++◌}
use Rattle.text_core.proofs.Kit.{ℕ, zero, suc, inl, inr, Bool, true, false, cond, nat_le, List, [], length, map, replicate, Option, Some, None, Result, Ok, Err}
use Rattle.text_core.proofs.Kit.{refl, sym, ap, ◌∙◌, subst, arith, append-nil, digit_glyph, digits_onto, number_from_digits, number_from_digits_after}
use Rattle.text_core.proofs.Kit.{AllBelowBase, list_all, option_map, result_ok, pow-zero, pow-suc, and_from, and_parts, cases_eq, nat_tests, length-map}
use Rattle.text_core.proofs.Kit.{number_lt, digits_onto-nil, digits_onto_last, digits_onto_step}
use Rattle.hex.specs.Hex.{decode_pairs, decode_sized, pair_value, value_at, hex_digit_value, digit_or_error}
use Rattle.hex.specs.declared.error.FromHexError.{FromHexError}
use Rattle.hex.proofs.Pairs.{cons_byte, decode_pairs-ok_pair, decode_sized-pairs}
use Rattle.hex.proofs.HexLemmas.{decode_sized-ok}
use Rattle.text_core.specs.Prelude.{is_lower_hex_digit}
use Rattle.id_ranges.specs.Prelude.{mac_text, mac_of_bytes, mac_of_text}

-- the digit with this value
abbrev glyph : ℕ → ℕ
glyph d = digit_glyph false d

-- the last digits of a number, so many, before a text
abbrev spell : ℕ → ℕ → List ℕ → List ℕ
spell zero n acc = acc
spell (suc k) n acc = spell k (n / 16) (glyph (n % 16) ∷ acc)

spell_nought : (k : ℕ) (acc : List ℕ) → spell k 0 acc ≡ replicate k 48 ++ acc
spell_nought zero acc = refl
spell_nought (suc k) acc = spell_nought k (48 ∷ acc) ∙ one_more k acc
  where
    one_more : (k : ℕ) (acc : List ℕ) → replicate k 48 ++ (48 ∷ acc) ≡ 48 ∷ (replicate k 48 ++ acc)
    one_more zero acc = refl
    one_more (suc k) acc = ap (λ l. 48 ∷ l) (one_more k acc)

-- a number that has at most so many digits, with zeros before them
padded : (k j n : ℕ) (acc : List ℕ) → 0 < k → k ≤ j → n < 16 ^ k
    → spell k n acc ≡ replicate (k + length acc - length (digits_onto j 16 false n acc)) 48 ++ digits_onto j 16 false n acc
padded zero j n acc some room low = absurd (omega arith)
padded (suc k) j n acc some room low =
    let front : List ℕ = glyph (n % 16) ∷ acc in
    let fits : n / 16 < 16 ^ k = omega (arith, pow-suc 16 k) in
    elim (cases_eq (n / 16) 0) [
      | inl last ↦
          let count : suc k + length acc - suc (length acc) ≡ k = omega arith in
          subst (λ l. spell k (n / 16) front ≡ replicate (suc k + length acc - length l) 48 ++ l) (sym (digits_onto_last 16 false n acc j (omega arith) last))
          (ap (λ q. spell k q front) last ∙ spell_nought k front ∙ ap (λ m. replicate m 48 ++ front) (sym count))
      | inr more ↦
          let count : k + suc (length acc) ≡ suc k + length acc = omega arith in
          subst (λ l. spell k (n / 16) front ≡ replicate (suc k + length acc - length l) 48 ++ l) (sym (digits_onto_step 16 false n acc j (omega arith) more))
          (padded k (j - 1) (n / 16) front (positive k (n / 16) fits more) (omega arith) fits
          ∙ ap (λ m. replicate (m - length (digits_onto (j - 1) 16 false (n / 16) front)) 48 ++ digits_onto (j - 1) 16 false (n / 16) front) count)
    ]
  where
    positive : (k n : ℕ) → n < 16 ^ k → (n ≡ 0 → ⊥) → 0 < k
    positive zero n fits more = absurd (more (omega (arith, pow-zero 16)))
    positive (suc k) n fits more = omega arith

mac_text_is : (mac : ℕ) → mac < 16 ^ 12 → mac_text mac ≡ spell 12 mac []
mac_text_is mac low =
    sym (padded 12 64 mac [] (omega arith) (omega arith) low ∙ ap (λ l. replicate (12 - length l) 48 ++ l) (digits_onto-nil 16 false mac))

-- the values of these digits, before others
abbrev ends : ℕ → ℕ → List ℕ → List ℕ
ends zero n acc = acc
ends (suc k) n acc = ends k (n / 16) (n % 16 ∷ acc)

spell_ends : (k n : ℕ) (acc : List ℕ) → spell k n (map glyph acc) ≡ map glyph (ends k n acc)
spell_ends zero n acc = refl
spell_ends (suc k) n acc = spell_ends k (n / 16) (n % 16 ∷ acc)

length-ends : (k n : ℕ) (acc : List ℕ) → length (ends k n acc) ≡ k + length acc
length-ends zero n acc = omega arith
length-ends (suc k) n acc = let more = length-ends k (n / 16) (n % 16 ∷ acc) in omega (arith, more)

ends_low : (k n : ℕ) (acc : List ℕ) → AllBelowBase 16 acc → AllBelowBase 16 (ends k n acc)
ends_low zero n acc low = low
ends_low (suc k) n acc low = ends_low k (n / 16) (n % 16 ∷ acc) (omega arith, low)

ends_number : (k n : ℕ) (acc : List ℕ) → n < 16 ^ k → number_from_digits 16 (ends k n acc) ≡ number_from_digits_after 16 n acc
ends_number zero n acc low = let none : 0 ≡ n = omega (arith, pow-zero 16) in ap (λ m. number_from_digits_after 16 m acc) none
ends_number (suc k) n acc low =
    let whole : n / 16 * 16 + n % 16 ≡ n = omega arith in
    ends_number k (n / 16) (n % 16 ∷ acc) (omega (arith, pow-suc 16 k)) ∙ ap (λ m. number_from_digits_after 16 m acc) whole

-- the text of the number that digits write
spell_number : (ds : List ℕ) → AllBelowBase 16 ds → (k n : ℕ) (acc : List ℕ)
    → spell (length ds + k) (number_from_digits_after 16 n ds) acc ≡ spell k n (map glyph ds ++ acc)
spell_number [] low k n acc = let none : 0 + k ≡ k = omega arith in ap (λ m. spell m n acc) none
spell_number (d ∷ ds) low k n acc =
    let high : (n * 16 + d) / 16 ≡ n = omega (arith, low.0) in
    let last : (n * 16 + d) % 16 ≡ d = omega (arith, low.0) in
    let count : suc (length ds) + k ≡ length ds + suc k = omega arith in
    ap (λ m. spell m (number_from_digits_after 16 (n * 16 + d) ds) acc) count
    ∙ spell_number ds low.1 (suc k) (n * 16 + d) acc
    ∙ (λ i. spell k (high i) (glyph (last i) ∷ (map glyph ds ++ acc)))

-- a digit is read as its value
glyph_lower : (d : ℕ) → d < 16 → is_lower_hex_digit (glyph d) ≡ true
glyph_lower d low = grind (arith, nat_tests)

glyph_value : (d : ℕ) → d < 16 → hex_digit_value (glyph d) ≡ Some d
glyph_value d low = grind (arith, nat_tests)

all_lower : (ds : List ℕ) → AllBelowBase 16 ds → list_all is_lower_hex_digit (map glyph ds) ≡ true
all_lower [] low = refl
all_lower (d ∷ ds) low = and_from _ _ (glyph_lower d low.0) (all_lower ds low.1)

abbrev pairs : List ℕ → List ℕ
pairs [] = []
pairs (a ∷ []) = []
pairs (a ∷ b ∷ rest) = (a * 16 + b) ∷ pairs rest

decodes : (i : ℕ) (ds : List ℕ) → length ds % 2 ≡ 0 → AllBelowBase 16 ds → decode_pairs i (map glyph ds) ≡ Ok (pairs ds)
unfolding decode_pairs
decodes i [] even low = refl
decodes i (a ∷ []) even low = absurd (omega arith)
decodes i (a ∷ b ∷ rest) even low =
    let high : value_at (glyph a) i ≡ Ok a = ap (digit_or_error (glyph a) i) (glyph_value a low.0) in
    let last : value_at (glyph b) (i + 1) ≡ Ok b = ap (digit_or_error (glyph b) (i + 1)) (glyph_value b low.1.0) in
    let pair : pair_value (glyph a) (glyph b) i ≡ Ok (a * 16 + b) = rw (high, last) refl in
    decode_pairs-ok_pair i (glyph a) (glyph b) (a * 16 + b) (map glyph rest) pair ∙ ap (cons_byte (a * 16 + b)) (decodes (i + 2) rest (omega arith) low.1.1)

same_number : (ds : List ℕ) → length ds ≡ 12 → mac_of_bytes (pairs ds) ≡ number_from_digits 16 ds
same_number (a ∷ b ∷ c ∷ d ∷ e ∷ f ∷ g ∷ h ∷ k ∷ l ∷ m ∷ n ∷ []) twelve = omega arith
same_number ds twelve = absurd (omega arith)

read_of : (ds : List ℕ) → length ds ≡ 12 → AllBelowBase 16 ds → mac_of_text (map glyph ds) ≡ Some (number_from_digits 16 ds)
read_of ds twelve low =
    let long : length (map glyph ds) ≡ 12 = length-map ds glyph ∙ twelve in
    let sized = decode_sized-pairs (map glyph ds) 6 (omega arith) (omega arith) ∙ decodes 0 ds (omega arith) low in
    rw (all_lower ds low) (ap (λ r. option_map mac_of_bytes (result_ok r)) sized ∙ ap Some (same_number ds twelve))

pub mac_read_back : (mac : ℕ) → mac < 2 ^ 48 → mac_of_text (mac_text mac) ≡ Some mac
mac_read_back mac low =
    let fits : mac < 16 ^ 12 = omega arith in
    ap mac_of_text (mac_text_is mac fits ∙ spell_ends 12 mac [])
    ∙ read_of (ends 12 mac []) (length-ends 12 mac []) (ends_low 12 mac [] tt)
    ∙ ap Some (ends_number 12 mac [] fits)

-- a lowercase digit is the one with its value
abbrev value_of : ℕ → ℕ
value_of c = cond (nat_le 97 c) (c - 87) (c - 48)

value_low : (c : ℕ) → is_lower_hex_digit c ≡ true → value_of c < 16
value_low c is = grind (arith, nat_tests)

value_back : (c : ℕ) → is_lower_hex_digit c ≡ true → c ≡ glyph (value_of c)
value_back c is = grind (arith, nat_tests)

values_low : (text : List ℕ) → list_all is_lower_hex_digit text ≡ true → AllBelowBase 16 (map value_of text)
values_low [] is = tt
values_low (c ∷ text) is = let both = and_parts _ _ is in (value_low c both.0, values_low text both.1)

values_back : (text : List ℕ) → list_all is_lower_hex_digit text ≡ true → text ≡ map glyph (map value_of text)
values_back [] is = refl
values_back (c ∷ text) is = let both = and_parts _ _ is in (λ i. value_back c both.0 i ∷ values_back text both.1 i)

if_some : (b : Bool) (x : Option ℕ) (m : ℕ) → cond b x None ≡ Some m → (b ≡ true) × (x ≡ Some m)
if_some true x m is = (refl, is)
if_some false x m is = cc is

if_ok : (r : Result (List ℕ) FromHexError) (m : ℕ) → option_map mac_of_bytes (result_ok r) ≡ Some m → (bytes : List ℕ) × (r ≡ Ok bytes)
if_ok (Ok bytes) m is = (bytes, refl)
if_ok (Err e) m is = cc is

pub mac_text_only : (text : List ℕ) (mac : ℕ) → mac_of_text text ≡ Some mac → text ≡ mac_text mac
mac_text_only text mac is =
    let parts = if_some _ _ mac is in
    let sized = if_ok (decode_sized text 6) mac parts.1 in
    let ds : List ℕ = map value_of text in
    let back : text ≡ map glyph ds = values_back text parts.0 in
    let low : AllBelowBase 16 ds = values_low text parts.0 in
    let long : length ds ≡ 12 = length-map text value_of ∙ decode_sized-ok text 6 sized.0 sized.1 in
    let same : Some mac ≡ Some (number_from_digits 16 ds) = sym is ∙ ap mac_of_text back ∙ read_of ds long low in
    let number : mac ≡ number_from_digits 16 ds = cc in
    let small : number_from_digits 16 ds < 16 ^ 12 = subst (λ k. number_from_digits 16 ds < 16 ^ k) long (number_lt 16 ds low) in
    let all : length ds + 0 ≡ 12 = omega arith in
    back ∙ sym (append-nil (map glyph ds)) ∙ sym (spell_number ds low 0 0 []) ∙ ap (λ k. spell k (number_from_digits 16 ds) []) all
    ∙ sym (mac_text_is (number_from_digits 16 ds) small) ∙ ap mac_text (sym number)
