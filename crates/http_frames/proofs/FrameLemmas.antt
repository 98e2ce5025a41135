-- Fronts of a stream, and the bytes that follow them.
use Rattle.std.proofs.Common.{◌≡◌, ℕ, ◌+◌, ◌-◌, ◌≤◌, List, [], ◌∷◌, ◌++◌, map, length, take, drop, sym, refl, ap, ◌∙◌, subst, arith, append_assoc}
use Rattle.std.proofs.Common.{length-append, length-take, Ok, inl, inr, take-append-drop, length-drop, All, slice_range, Bool, bytes_eq, codes, ◌==◌, ◌||◌}
use Rattle.std.proofs.lemmas.List.{length-map, take-append-le, drop-append-le}
use Rattle.std.proofs.lemmas.List.Elements.{All-head, All-tail}
use Rattle.std.proofs.lemmas.List.Folds.{drop_split}
use Rattle.http_frames.specs.Prelude.{body_size, headers_at, asks_close, LacksHead, HasBadHead, head_limit, field_limit, IsHeadAt, IsFrameAt}
use Rattle.std.proofs.Math.Seq.{drop-append_seam}
use Rattle.httparse.specs.declared.spans.HeaderSpan.{HeaderSpan}
use Rattle.httparse.specs.declared.spans.RequestSpans.{RequestSpans}
use Rattle.httparse.specs.Grammar.{RequestHead, print_request, ReadsRequest, HasNoRequest}
use Rattle.httparse.specs.Spans.{IsRequestAt, IsRequestWithin, RequestOverflows, header_bytes, name_and_value, IsHeaderWithin, span_bytes}
use Rattle.httparse.proofs.GrammarLemmas.{ReadsRequest-append}

-- what follows a front
pub after_front : (xs p after : List ℕ) → xs ≡ p ++ after → after ≡ drop (length p) xs
after_front xs p after e = sym (ap (drop (length p)) e ∙ drop-append_seam p after)

-- a front that ends inside the first part is a front of that part
pub front_within : (xs more p after : List ℕ) → xs ++ more ≡ p ++ after → length p ≤ length xs → xs ≡ p ++ drop (length p) xs
front_within xs more [] after e short = refl
front_within [] more (b ∷ p) after e short = absurd (omega arith)
front_within (x ∷ xs) more (b ∷ p) after e short =
    let tail : xs ++ more ≡ p ++ after = cc in
    let head : x ≡ b = cc in
    (λ i. head i ∷ front_within xs more p after tail (omega arith) i)

-- a head that ends inside the first part is read of that part
pub reads_within : (xs more after : List ℕ) (head : RequestHead) → ReadsRequest (xs ++ more) head after → length (print_request head) ≤ length xs
    → ReadsRequest xs head (drop (length (print_request head)) xs)
reads_within xs more after head reads short = (reads.0, front_within xs more (print_request head) after reads.1 short)

split : (n : ℕ) (xs : List ℕ) → take n xs ++ drop n xs ≡ xs
split n xs = take-append-drop n xs

-- each head that the window's front may become has too many fields: so it is with the window
pub overflows_window : (n : ℕ) (window : List ℕ) → RequestOverflows field_limit (take n window) → RequestOverflows field_limit window
overflows_window n window over more head rest reads =
    over (drop n window ++ more) head rest
    (subst (λ (s : List ℕ). ReadsRequest s head rest) (sym (sym (append_assoc (take n window) (drop n window) more) ∙ ap (λ s. s ++ more) (split n window)))
    reads)

pub lacks_overflowing : (window : List ℕ) → RequestOverflows field_limit window → LacksHead window
lacks_overflowing window over head after has =
    let many = over [] head (after ++ []) (ReadsRequest-append window head after [] has.0) in
    let few = has.1.0 in
    omega arith

-- a full window whose front is no head
pub lacks_full : (window : List ℕ) → head_limit ≤ length window → HasNoRequest (take head_limit window) → LacksHead window
lacks_full window full none head after has =
    let short = has.1.1 in
    let whole = subst (λ (s : List ℕ). ReadsRequest s head after) (sym (split head_limit window)) has.0 in
    none head _ (reads_within (take head_limit window) (drop head_limit window) after head whole (omega (arith, length-take head_limit window)))

pub bad_full : (window : List ℕ) → head_limit ≤ length window → HasNoRequest (take head_limit window) → HasBadHead window
bad_full window full none = (lacks_full window full none, inl full)

pub bad_overflowing : (window : List ℕ) → RequestOverflows field_limit window → HasBadHead window
bad_overflowing window over = (lacks_overflowing window over, inr over)

few_fields : (front : List ℕ) (spans : List HeaderSpan) (found : RequestSpans) (head : RequestHead) → length spans ≡ field_limit
    → IsRequestAt front spans found head → length head.fields ≤ field_limit
few_fields front spans found head full at =
    let same = ap length at.fields in
    omega (arith, length-map (take found.headers spans) (header_bytes front), length-map head.fields name_and_value, length-take found.headers spans)

-- a slice of the first part
slice_front : (ys zs : List ℕ) (a b : ℕ) → a ≤ b → b ≤ length ys → slice_range ys a b ≡ slice_range (ys ++ zs) a b
slice_front ys zs a b ordered inside =
    sym (ap (take (b - a)) (drop-append-le a ys zs (omega arith)) ∙ take-append-le (b - a) (drop a ys) zs (omega (arith, length-drop a ys)))

headers_front : (front more : List ℕ) (spans : List HeaderSpan) (n : ℕ) → n ≤ length front → All (IsHeaderWithin n) spans
    → map (header_bytes front) spans ≡ map (header_bytes (front ++ more)) spans
headers_front front more [] n inside each = refl
headers_front front more (s ∷ spans) n inside each =
    let here = All-head (IsHeaderWithin n) s spans each in
    let name = slice_front front more s.name.start s.name.end here.0.0 (omega (arith, here.0.1)) in
    let value = slice_front front more s.value.start s.value.end here.1.0 (omega (arith, here.1.1)) in
    (λ i. (name i, value i) ∷ headers_front front more spans n inside (All-tail (IsHeaderWithin n) s spans each) i)

within_more : (front more : List ℕ) (spans : List HeaderSpan) (found : RequestSpans) → IsRequestWithin front spans found
    → IsRequestWithin (front ++ more) spans found
within_more front more spans found within = record {
  method = within.method;
  path = within.path;
  version = within.version;
  section = record {
    len_fits = omega (arith, within.section.len_fits, length-append front more);
    count_fits = within.section.count_fits;
    headers_fit = within.section.headers_fit;
  };
}

at_more : (front more : List ℕ) (spans : List HeaderSpan) (found : RequestSpans) (head : RequestHead) → IsRequestWithin front spans found
    → IsRequestAt front spans found head
    → IsRequestAt (front ++ more) spans found head
at_more front more spans found head within at =
    let fits = within.section.len_fits in
    let whole = ReadsRequest-append front head _ more at.reads in
    let rest = after_front (front ++ more) (print_request head) _ whole.1 ∙ ap (λ k. drop k (front ++ more)) (sym at.len) in
    record {
      reads = subst (λ (s : List ℕ). ReadsRequest (front ++ more) head s) rest whole;
      len = at.len;
      method = sym (slice_front front more found.method.start found.method.end within.method.0 (omega (arith, within.method.1, fits))) ∙ at.method;
      path = sym (slice_front front more found.path.start found.path.end within.path.0 (omega (arith, within.path.1, fits))) ∙ at.path;
      version = at.version;
      fields = sym (headers_front front more (take found.headers spans) found.len fits within.section.headers_fit) ∙ at.fields;
    }

-- the head that the parser found at the window's front
pub head_found : (window : List ℕ) (spans : List HeaderSpan) (found : RequestSpans) (head : RequestHead) (front : List ℕ) → front ≡ take head_limit window
    → length spans ≡ field_limit → IsRequestWithin front spans found → IsRequestAt front spans found head → IsHeadAt window spans found head
head_found window spans found head front e full within_front at_front =
    let more = drop head_limit window in
    let whole = ap (λ (s : List ℕ). s ++ more) e ∙ split head_limit window in
    let within = subst (λ (s : List ℕ). IsRequestWithin s spans found) whole (within_more front more spans found within_front) in
    let at = subst (λ (s : List ℕ). IsRequestAt s spans found head) whole (at_more front more spans found head within_front at_front) in
    record {
      has = (
        at.reads,
        (
          few_fields front spans found head full at_front,
          omega
              (arith, within_front.section.len_fits, at_front.len, ap length e, length-take head_limit window),
        ),
      );
      within = within;
      at = at;
    }

length_slice : (xs : List ℕ) (a n : ℕ) → n ≤ length xs - a → length (slice_range xs a (a + n)) ≡ n
length_slice xs a n inside = omega (arith, length-take (a + n - a) (drop a xs), length-drop a xs)

-- the whole request that begins with the head
pub frame_found : (window : List ℕ) (spans : List HeaderSpan) (found : RequestSpans) (head : RequestHead) (size : ℕ) (head_method last : Bool)
    → IsHeadAt window spans found head → body_size (headers_at window (take found.headers spans)) ≡ Ok size → size ≤ length window - found.len
    → head_method ≡ bytes_eq (span_bytes window found.method) (codes "HEAD")
    → last ≡ ((found.version == 0) || asks_close (headers_at window (take found.headers spans)))
    → IsFrameAt window spans (record { head = found; end = found.len + size; is_head = head_method; is_last = last })
    (record { head = head; body = slice_range window found.len (found.len + size) })
frame_found window spans found head size head_method last at sized room method_is last_is =
    let size_is = length_slice window found.len size room in
    let split_rest = drop_split window found.len (found.len + size) (omega arith) in
    record {
      whole = (
        (subst (λ (s : List ℕ). ReadsRequest window head s) split_rest at.has.0, at.has.1),
        sym (ap body_size at.at.fields) ∙ sized ∙ ap Ok (sym size_is),
      );
      head = at;
      ordered = omega arith;
      in_range = omega (arith, at.within.section.len_fits);
      body = refl;
      is_head = method_is ∙ ap (λ s. bytes_eq s (codes "HEAD")) at.at.method;
      is_last = last_is ∙ (λ i. (at.at.version i == 0) || asks_close (at.at.fields i));
    }
