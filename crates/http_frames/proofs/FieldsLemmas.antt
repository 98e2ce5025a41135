-- Pieces between bytes, and lists of fields one more at a time.
use Rattle.std.proofs.Common.{◌≡◌, ◌≢◌, ℕ, zero, suc, ◌+◌, ◌*◌, ◌<◌, ◌≤◌, min, Bool, true, false, cond, eqb, ◌&&◌, ◌||◌, List, [], ◌∷◌, ◌++◌, length, get_or}
use Rattle.std.proofs.Common.{take, drop, sym, refl, ap, ◌∙◌, arith, add-one, codes, flat_map, Some, None, eq-eqb, ne_eqb, Bor, option_to_list, option_map}
use Rattle.std.proofs.Common.{append-nil}
use Rattle.std.specs.List.{list_all, list_any}
use Rattle.std.specs.Bool.{then_some}
use Rattle.std.proofs.Math.Bool.{and-false, or-false}
use Rattle.std.proofs.lemmas.Bool.{or_parts}
use Rattle.std.proofs.lemmas.List.{take_more, map_push}
use Rattle.std.proofs.lemmas.List.Concat.{flat_map-append}
use Rattle.std.proofs.lemmas.List.Folds.{list_all-append}
use Rattle.httparse.specs.Grammar.{trim_ows}
use Rattle.httparse.specs.declared.spans.HeaderSpan.{HeaderSpan}
use Rattle.httparse.specs.Spans.{header_bytes}
use Rattle.http_frames.specs.Prelude.{headers_at, Header, Lacks, split_at_byte, cons_first, before_byte, after_byte, same_ignoring_case, has_close}
use Rattle.http_frames.specs.Prelude.{is_header_named, values_named, parameters_named, piece_values, bearer_token, skip_spaces, some_token}

eqb-same : (n : ℕ) → eqb n n ≡ true
eqb-same n = eq-eqb n n refl

-- the first piece ends at the first such byte
pub split_at : (at : ℕ) (front back : List ℕ) → Lacks at front → split_at_byte at (front ++ at ∷ back) ≡ front ∷ split_at_byte at back
split_at at [] back none = ap (λ t. cond t ([] ∷ split_at_byte at back) (cons_first at (split_at_byte at back))) (eqb-same at)
split_at at (b ∷ front) back none =
    ap (λ t. cond t ([] ∷ split_at_byte at (front ++ at ∷ back)) (cons_first b (split_at_byte at (front ++ at ∷ back)))) (or_parts (eqb b at) _ none).0
    ∙ ap (cons_first b) (split_at at front back (or_parts (eqb b at) _ none).1)

pub split_whole : (at : ℕ) (xs : List ℕ) → Lacks at xs → split_at_byte at xs ≡ xs ∷ []
split_whole at [] none = refl
split_whole at (b ∷ bs) none =
    ap (λ t. cond t ([] ∷ split_at_byte at bs) (cons_first b (split_at_byte at bs))) (or_parts (eqb b at) _ none).0
    ∙ ap (cons_first b) (split_whole at bs (or_parts (eqb b at) _ none).1)

pub before_at : (at : ℕ) (front back : List ℕ) → Lacks at front → before_byte at (front ++ at ∷ back) ≡ front
before_at at [] back none = ap (λ t. cond t [] (at ∷ before_byte at back)) (eqb-same at)
before_at at (b ∷ front) back none =
    ap (λ t. cond t [] (b ∷ before_byte at (front ++ at ∷ back))) (or_parts (eqb b at) _ none).0
    ∙ ap (λ bytes. b ∷ bytes) (before_at at front back (or_parts (eqb b at) _ none).1)

pub after_at : (at : ℕ) (front back : List ℕ) → Lacks at front → after_byte at (front ++ at ∷ back) ≡ back
after_at at [] back none = ap (λ t. cond t back (after_byte at back)) (eqb-same at)
after_at at (b ∷ front) back none =
    ap (λ t. cond t (front ++ at ∷ back) (after_byte at (front ++ at ∷ back))) (or_parts (eqb b at) _ none).0
    ∙ after_at at front back (or_parts (eqb b at) _ none).1

pub before_whole : (at : ℕ) (xs : List ℕ) → Lacks at xs → before_byte at xs ≡ xs
before_whole at [] none = refl
before_whole at (b ∷ bs) none =
    ap (λ t. cond t [] (b ∷ before_byte at bs)) (or_parts (eqb b at) _ none).0 ∙ ap (λ bytes. b ∷ bytes) (before_whole at bs (or_parts (eqb b at) _ none).1)

pub after_whole : (at : ℕ) (xs : List ℕ) → Lacks at xs → after_byte at xs ≡ []
after_whole at [] none = refl
after_whole at (b ∷ bs) none = ap (λ t. cond t bs (after_byte at bs)) (or_parts (eqb b at) _ none).0 ∙ after_whole at bs (or_parts (eqb b at) _ none).1

-- a byte that differs from each of the bytes isn't there
pub lacks : (at : ℕ) (xs : List ℕ) → ((k : ℕ) → k < length xs → get_or xs k 0 ≢ at) → Lacks at xs
lacks at [] other = refl
lacks at (x ∷ xs) other =
    ap (λ t. t || list_any (λ b. eqb b at) xs) (ne_eqb x at (other 0 (omega arith)))
    ∙ lacks at xs (λ k below. other (suc k) (omega arith))

-- a byte that differs from each of the bytes in front of an index isn't among them
pub lacks-take : (at : ℕ) (xs : List ℕ) (i : ℕ) → ((k : ℕ) → k < i → get_or xs k 0 ≢ at) → Lacks at (take i xs)
lacks-take at xs zero other = refl
lacks-take at [] (suc i) other = refl
lacks-take at (x ∷ xs) (suc i) other =
    ap (λ t. t || list_any (λ b. eqb b at) (take i xs)) (ne_eqb x at (other 0 (omega arith)))
    ∙ lacks-take at xs i (λ k below. other (suc k) (omega arith))

pub seam : (xs : List ℕ) (i : ℕ) → i < length xs → xs ≡ take i xs ++ get_or xs i 0 ∷ drop (suc i) xs
seam [] i inside = absurd (omega arith)
seam (x ∷ xs) zero inside = refl
seam (x ∷ xs) (suc i) inside = ap (λ ys. x ∷ ys) (seam xs i (omega arith))

pub seam_at : (xs : List ℕ) (i y : ℕ) → i < length xs → get_or xs i 0 ≡ y → xs ≡ take i xs ++ y ∷ drop (i + 1) xs
seam_at xs i y inside here = rw add-one (seam xs i inside ∙ ap (λ b. take i xs ++ b ∷ drop (suc i) xs) here)

-- the element is `close`
abbrev pub is_close_piece : List ℕ → Bool
is_close_piece piece = same_ignoring_case (trim_ows piece) (codes "close")

pub has_close_at : (xs front back : List ℕ) → xs ≡ front ++ 44 ∷ back → Lacks 44 front → has_close xs ≡ (is_close_piece front || has_close back)
unfolding has_close
has_close_at xs front back e none = ap has_close e ∙ ap (list_any is_close_piece) (split_at 44 front back none)

pub has_close_whole : (xs : List ℕ) → Lacks 44 xs → has_close xs ≡ is_close_piece xs
unfolding has_close
has_close_whole xs none = ap (list_any is_close_piece) (split_whole 44 xs none) ∙ or-false (is_close_piece xs)

pub parameters_at : (name xs front back : List ℕ) → xs ≡ front ++ 38 ∷ back → Lacks 38 front
    → parameters_named name xs ≡ piece_values name front ++ parameters_named name back
unfolding parameters_named
parameters_at name xs front back e none = ap (parameters_named name) e ∙ ap (flat_map (piece_values name)) (split_at 38 front back none)

pub parameters_whole : (name xs : List ℕ) → Lacks 38 xs → parameters_named name xs ≡ piece_values name xs
unfolding parameters_named
parameters_whole name xs none = ap (flat_map (piece_values name)) (split_whole 38 xs none) ∙ append-nil (piece_values name xs)

-- one field more
pub values_named_push : (name : List ℕ) (hs : List Header) (h : Header)
    → values_named name (hs ++ h ∷ []) ≡ values_named name hs ++ cond (is_header_named name h) (h.1 ∷ []) []
unfolding values_named
values_named_push name hs h =
    flat_map-append (λ x. cond (is_header_named name x) (x.1 ∷ []) []) hs (h ∷ []) ∙ ap (λ l.
    values_named name hs ++ l) (append-nil (cond (is_header_named name h) (h.1 ∷ []) []))

pub values_named-nil : (name : List ℕ) → values_named name [] ≡ []
unfolding values_named
values_named-nil name = refl

-- one of the fields that the spans cover passes
pub any_header_at : (p : Header → Bool) (buf : List ℕ) (spans : List HeaderSpan) (i : ℕ) (d : HeaderSpan) → i < length spans
    → p (header_bytes buf (get_or spans i d)) ≡ true → list_any p (headers_at buf spans) ≡ true
any_header_at p buf [] i d inside here = absurd (omega arith)
any_header_at p buf (s ∷ ss) zero d inside here = ap (λ t. t || list_any p (headers_at buf ss)) here
any_header_at p buf (s ∷ ss) (suc i) d inside here = by_test (p (header_bytes buf s)) (any_header_at p buf ss i d (omega arith) here)
  where
    by_test : (t : Bool) → list_any p (headers_at buf ss) ≡ true → (t || list_any p (headers_at buf ss)) ≡ true
    by_test true later = refl
    by_test false later = later

-- the token by its two tests
pub bearer_token_by : (value : List ℕ) (same spaced : Bool) → same_ignoring_case (take 6 value) (codes "bearer") ≡ same
    → eqb (get_or value 6 0) 32 ≡ spaced → bearer_token value ≡ cond (same && spaced) (some_token (skip_spaces (drop 6 value))) None
unfolding bearer_token
bearer_token_by value same spaced a b = λ i. cond (a i && b i) (some_token (skip_spaces (drop 6 value))) None

pub no_token_unspaced : (value : List ℕ) → get_or value 6 0 ≢ 32 → None ≡ bearer_token value
no_token_unspaced value other =
    sym (bearer_token_by value _ false refl (ne_eqb (get_or value 6 0) 32 other)
    ∙ ap (λ t. cond t (some_token (skip_spaces (drop 6 value))) None) (and-false (same_ignoring_case (take 6 value) (codes "bearer"))))

pub some_token_of : (bytes : List ℕ) → 0 < length bytes → some_token bytes ≡ Some bytes
some_token_of [] some = absurd (omega arith)
some_token_of (b ∷ bytes) some = refl

pub no_token_empty : (bytes : List ℕ) → length bytes ≡ 0 → some_token bytes ≡ None
no_token_empty [] none = refl
no_token_empty (b ∷ bytes) none = absurd (omega arith)

pub past_end : (xs : List ℕ) (i : ℕ) → length xs ≤ i → get_or xs i 0 ≡ 0
past_end [] i past = refl
past_end (x ∷ xs) zero past = absurd (omega arith)
past_end (x ∷ xs) (suc i) past = past_end xs i (omega arith)

-- one digit more, where the number is capped
pub capped_step : (seen size digit all cap : ℕ) → size ≡ min seen cap → all ≡ seen * 10 + digit → min (size * 10 + digit) cap ≡ min all cap
capped_step seen size digit all cap e f = omega arith

pub list_all_more : {X : Type 0} (p : X → Bool) (xs : List X) (i : ℕ) (d : X) → i < length xs → list_all p (take i xs) ≡ true → p (get_or xs i d) ≡ true
    → list_all p (take (i + 1) xs) ≡ true
list_all_more p xs i d inside before here =
    ap (list_all p) (take_more xs i d inside) ∙ list_all-append p (take i xs) _ ∙ (λ k. before k && (here k && true))

value_if : (named : Bool) (value : Bor (List ℕ)) → option_to_list (option_map (λ (v : Bor (List ℕ)). v.now) (then_some named value))
    ≡ cond named (value.now ∷ []) []
value_if true value = refl
value_if false value = refl

-- the values of the fields in front of an index, and of the one at it
pub values_named_more : (name buf : List ℕ) (spans : List HeaderSpan) (i : ℕ) (d : HeaderSpan) (named : Bool) (value : Bor (List ℕ))
    → i < length spans → named ≡ is_header_named name (header_bytes buf (get_or spans i d)) → value.now ≡ (header_bytes buf (get_or spans i d)).1
    → values_named name (headers_at buf (take i spans)) ++ option_to_list (option_map (λ (v : Bor (List ℕ)). v.now) (then_some named value))
    ≡ values_named name (headers_at buf (take (i + 1) spans))
values_named_more name buf spans i d named value inside is_header_named value_is =
    let h = header_bytes buf (get_or spans i d) in
    let before = headers_at buf (take i spans) in
    ap (λ (vs : List (List ℕ)). values_named name before ++ vs) (value_if named value ∙ (λ k. cond (is_header_named k) (value_is k ∷ []) []))
    ∙ sym (ap (λ (s : List HeaderSpan). values_named name (headers_at buf s)) (take_more spans i d inside)
    ∙ ap (values_named name) (map_push (header_bytes buf) (take i spans) (get_or spans i d)) ∙ values_named_push name before h)
