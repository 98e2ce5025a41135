-- A stream is cut in one way.
use Rattle.std.proofs.Common.{◌≡◌, ℕ, List, [], ◌∷◌, ◌++◌, length, map, Bool, true, false, ◌||◌, sym, refl, ap, ◌∙◌, subst, arith, length-append, ◌⊎◌, inl, inr}
use Rattle.std.proofs.Common.{Result, Ok, Err}
use Rattle.std.specs.List.{list_any}
use Rattle.text_core.proofs.Kit.{or_parts}
use Rattle.httparse.specs.Grammar.{RequestHead, ReadsRequest}
use Rattle.httparse.proofs.GrammarLemmas.{request_unique, print_request-append}
use Rattle.http_frames.specs.Prelude.{body_size, Request, HasHead, HasRequest, IsRefused, IsCutOff, ends_after, is_head_method, headers_of}
use Rattle.http_frames.specs.declared.fields.FrameRefusal.{FrameRefusal}
use Rattle.http_frames.specs.declared.serving.Served.{Served}
use Rattle.http_frames.specs.declared.serving.Served.TheVariants.{Ended, Closed, Cut}
use Rattle.http_frames.specs.Prelude.{HttpExchange, answered, refused, BeginsWithExchange, is_last, Cuts, IsOpen, Ends, cut_of, requests_of, is_by_bytes}
use Rattle.http_frames.specs.Prelude.{IsCutWhole, IsEitherWay}
use Rattle.http_frames.proofs.StreamLemmas.{one_request}

-- no head stands in no bytes
no_head : (head : RequestHead) (after : List ℕ) → ReadsRequest [] head after → ⊥
no_head head after reads =
    let some = reads.0.method.0 in
    let text = ap (length {A = ℕ}) (reads.1 ∙ print_request-append head after) in
    omega (arith, length-append {A = ℕ})

-- two heads at one place, of which one is refused
one_head : (rest : List ℕ) (head other : RequestHead) (after later : List ℕ) → HasHead rest head after → HasHead rest other later → head ≡ other
one_head rest head other after later has had = (request_unique rest head other after later has.0 had.0).0

-- no whole request is refused
whole_or_refused : (rest : List ℕ) (request : Request) (after : List ℕ) (refusal : FrameRefusal) (is_head : Bool) → HasRequest rest request after
    → IsRefused rest refusal is_head → ⊥
whole_or_refused rest request after refusal is_head has (inl had) =
    let same = ap (λ h. body_size (headers_of h)) (one_head rest request.head had.0 (request.body ++ after) had.1 has.0 had.2) in
    let bad : Ok (length request.body) ≡ Err refusal = sym has.1 ∙ same ∙ had.3 in
    cc
whole_or_refused rest request after refusal is_head has (inr bad) = bad.3.0 request.head (request.body ++ after) has.0

-- what is refused is refused in one way
one_refusal : (rest : List ℕ) (refusal other : FrameRefusal) (is_head was_head : Bool) → IsRefused rest refusal is_head → IsRefused rest other was_head
    → (refusal ≡ other) × (is_head ≡ was_head)
one_refusal rest refusal other is_head was_head (inl has) (inl had) =
    let same = one_head rest has.0 had.0 has.1 had.1 has.2 had.2 in
    let sizes = sym has.3 ∙ ap (λ h. body_size (headers_of h)) same ∙ had.3 in
    (cc, has.4 ∙ ap is_head_method same ∙ sym had.4)
one_refusal rest refusal other is_head was_head (inl has) (inr bad) = absurd (bad.3.0 has.0 has.1 has.2)
one_refusal rest refusal other is_head was_head (inr bad) (inl had) = absurd (bad.3.0 had.0 had.1 had.2)
one_refusal rest refusal other is_head was_head (inr bad) (inr ill) = (bad.0 ∙ sym ill.0, bad.1 ∙ sym ill.1)

-- at most one exchange stands at the front of a stream
pub one_exchange : (rest : List ℕ) (exchange other : HttpExchange) (after later : List ℕ)
    → BeginsWithExchange rest exchange after → BeginsWithExchange rest other later
    → (cut_of exchange ≡ cut_of other) × (after ≡ later)
one_exchange rest (answered request answer) (answered other said) after later has had =
    let same = one_request rest request other after later has had in
    (ap Ok same.0, same.1)
one_exchange rest (answered request answer) (refused refusal is_head) after later has had =
    absurd (whole_or_refused rest request after refusal is_head has had.0)
one_exchange rest (refused refusal is_head) (answered request answer) after later has had =
    absurd (whole_or_refused rest request later refusal is_head had has.0)
one_exchange rest (refused refusal is_head) (refused other was_head) after later has had =
    let same = one_refusal rest refusal other is_head was_head has.0 had.0 in
    ((λ i. Err (same.0 i, same.1 i)), has.1 ∙ sym had.1)

-- no exchange stands in no bytes
no_exchange : (exchange : HttpExchange) (after : List ℕ) → BeginsWithExchange [] exchange after → ⊥
no_exchange (answered request answer) after has = no_head request.head (request.body ++ after) has.0.0
no_exchange (refused refusal is_head) after (inl had, same) = no_head had.0 had.1 had.2.0
no_exchange (refused refusal is_head) after (inr bad, same) =
    let some = bad.2 in
    omega arith

-- what is cut off is no whole request
cut_off_whole : (rest : List ℕ) (request : Request) (after : List ℕ) → IsCutOff rest → HasRequest rest request after → ⊥
cut_off_whole rest request after (inl part) has = part.2 request.head (request.body ++ after) has.0
cut_off_whole rest request after (inr part) has =
    let same = request_unique rest request.head part.0 (request.body ++ after) part.1 has.0.0 part.3.0 in
    let sizes : Ok (length request.body) ≡ Ok part.2 = sym has.1 ∙ ap (λ h. body_size (headers_of h)) same.0 ∙ part.4 in
    let size : length request.body ≡ part.2 = cc in
    let short = part.5 in
    let lengths = ap (length {A = ℕ}) same.1 in
    omega (arith, length-append {A = ℕ})

-- what is cut off and refused is part of a head that has too many fields
cut_off_refused : (rest : List ℕ) (refusal : FrameRefusal) (is_head : Bool) → IsCutOff rest → IsRefused rest refusal is_head → IsEitherWay rest
cut_off_refused rest refusal is_head (inl part) (inl had) = absurd (part.2 had.0 had.1 had.2)
cut_off_refused rest refusal is_head (inl part) (inr (is_bad, method, some, (lacks, inl full))) =
    let short = part.1 in
    absurd (omega arith)
cut_off_refused rest refusal is_head (inl part) (inr (is_bad, method, some, (lacks, inr over))) = (part, over)
cut_off_refused rest refusal is_head (inr part) (inl had) =
    let same = ap (λ h. body_size (headers_of h)) (one_head rest part.0 had.0 part.1 had.1 part.3 had.2) in
    let bad : Ok part.2 ≡ Err refusal = sym part.4 ∙ same ∙ had.3 in
    absurd cc
cut_off_refused rest refusal is_head (inr part) (inr bad) = absurd (bad.3.0 part.0 part.1 part.3)

-- a stream that ends by its bytes, without what was written
abbrev Stops : Served → List HttpExchange → List ℕ → Type 0
Stops Ended exchanges rest = IsOpen exchanges × (rest ≡ [])
Stops Closed exchanges rest = list_any is_last exchanges ≡ true
Stops Cut exchanges rest = IsOpen exchanges × IsCutOff rest
Stops _ exchanges rest = ⊥

-- what the bytes have to do with it
stops : (served : Served) (exchanges : List HttpExchange) (rest left before written : List ℕ)
    → is_by_bytes served ≡ true → Ends served exchanges rest left before written
    → Stops served exchanges rest
stops Ended exchanges rest left before written by_bytes ends = (ends.0, ends.1)
stops Closed exchanges rest left before written by_bytes ends = ends.0
stops Cut exchanges rest left before written by_bytes ends = (ends.0, ends.1)
stops _ exchanges rest left before written by_bytes ends = absurd cc

-- no bytes are not cut off
not_cut_off : IsCutOff [] → ⊥
not_cut_off (inl part) =
    let some = part.0 in
    omega arith
not_cut_off (inr part) = no_head part.0 part.1 part.3.0

-- a stream that ends where no exchange was cut
no_end : (served : Served) (rest : List ℕ) → Stops served [] rest → (served ≡ Ended × rest ≡ []) ⊎ (served ≡ Cut × IsCutOff rest)
no_end Ended rest stop = inl (refl, stop.1)
no_end Closed rest stop = absurd cc
no_end Cut rest stop = inr (refl, stop.1)
no_end _ rest stop = absurd stop

-- it ends there in one way
one_end : (served other : Served) (rest : List ℕ) → (served ≡ Ended × rest ≡ []) ⊎ (served ≡ Cut × IsCutOff rest)
    → (other ≡ Ended × rest ≡ []) ⊎ (other ≡ Cut × IsCutOff rest) → served ≡ other
one_end served other rest (inl stop) (inl stopped) = stop.0 ∙ sym stopped.0
one_end served other rest (inl stop) (inr stopped) = absurd (not_cut_off (subst IsCutOff stop.1 stopped.1))
one_end served other rest (inr stop) (inl stopped) = absurd (not_cut_off (subst IsCutOff stopped.1 stop.1))
one_end served other rest (inr stop) (inr stopped) = stop.0 ∙ sym stopped.0

-- behind the last exchange is the rest
last_rest : (after : List ℕ) (exchanges : List HttpExchange) (rest : List ℕ) → exchanges ≡ [] → Cuts after exchanges rest → rest ≡ after
last_rest after exchanges rest none cut = subst (λ exchanges. Cuts after exchanges rest) none cut

-- one stops where the other goes on
goes_on : (served : Served) (stream : List ℕ) (exchange : HttpExchange) (exchanges : List HttpExchange) (after later : List ℕ)
    → (served ≡ Ended × stream ≡ []) ⊎ (served ≡ Cut × IsCutOff stream)
    → BeginsWithExchange stream exchange after → (is_last exchange ≡ true → exchanges ≡ []) → Cuts after exchanges later
    → IsEitherWay stream × (stream ≡ later) × (requests_of (exchange ∷ exchanges) ≡ [])
goes_on served stream exchange exchanges after later (inl stop) begins last cut =
    absurd (no_exchange exchange after (subst (λ (s : List ℕ). BeginsWithExchange s exchange after) stop.1 begins))
goes_on served stream (answered request answer) exchanges after later (inr stop) begins last cut = absurd (cut_off_whole stream request after stop.1 begins)
goes_on served stream (refused refusal is_head) exchanges after later (inr stop) begins last cut =
    (cut_off_refused stream refusal is_head stop.1 begins.0, sym (last_rest after exchanges later (last refl) cut ∙ begins.1), ap requests_of (last refl))

-- the stream is cut in one way, or its rest may be taken in either of two
abbrev pub Agrees : Served → Served → List HttpExchange → List HttpExchange → List ℕ → List ℕ → Type 0
Agrees served other exchanges others rest later =
    (requests_of exchanges ≡ requests_of others) × (rest ≡ later) × (((served ≡ other) × (map cut_of exchanges ≡ map cut_of others)) ⊎ IsEitherWay rest)

-- one exchange more, on both sides
requests_more : (exchange twin : HttpExchange) (exchanges others : List HttpExchange)
    → cut_of exchange ≡ cut_of twin → requests_of exchanges ≡ requests_of others
    → requests_of (exchange ∷ exchanges) ≡ requests_of (twin ∷ others)
requests_more (answered request answer) (answered other said) exchanges others same more =
    let here : request ≡ other = cc in
    (λ i. here i ∷ more i)
requests_more (answered request answer) (refused refusal is_head) exchanges others same more = absurd cc
requests_more (refused refusal is_head) (answered request answer) exchanges others same more = absurd cc
requests_more (refused refusal is_head) (refused other was_head) exchanges others same more = more

-- whether the stream ends after what was cut
ends_cut : Result Request (FrameRefusal × Bool) → Bool
ends_cut (Ok request) = ends_after request.head
ends_cut (Err refusal) = true

-- what was cut says whether the stream ends after it
cut_last : (exchange : HttpExchange) → is_last exchange ≡ ends_cut (cut_of exchange)
unfolding ends_cut
cut_last (answered request answer) = refl
cut_last (refused refusal is_head) = refl

-- two exchanges that are cut alike both end the stream, or neither does
same_last : (exchange other : HttpExchange) → cut_of exchange ≡ cut_of other → is_last other ≡ is_last exchange
same_last exchange other same = cut_last other ∙ ap ends_cut (sym same) ∙ sym (cut_last exchange)

-- a stream that an exchange ends is closed
closes : (served : Served) (exchange : HttpExchange) (exchanges : List HttpExchange) (rest : List ℕ)
    → is_last exchange ≡ true → Stops served (exchange ∷ exchanges) rest → served ≡ Closed
closes Ended exchange exchanges rest last stop =
    let no = (or_parts (is_last exchange) (list_any is_last exchanges) stop.0).0 in
    absurd cc
closes Closed exchange exchanges rest last stop = refl
closes Cut exchange exchanges rest last stop =
    let no = (or_parts (is_last exchange) (list_any is_last exchanges) stop.0).0 in
    absurd cc
closes _ exchange exchanges rest last stop = absurd stop

-- an exchange that does not end the stream leaves its end to the others
stops_later : (served : Served) (exchange : HttpExchange) (exchanges : List HttpExchange) (rest : List ℕ)
    → is_last exchange ≡ false → Stops served (exchange ∷ exchanges) rest
    → Stops served exchanges rest
stops_later Ended exchange exchanges rest last stop = ((or_parts (is_last exchange) (list_any is_last exchanges) stop.0).1, stop.1)
stops_later Closed exchange exchanges rest last stop = sym (ap (λ t. t || list_any is_last exchanges) last) ∙ stop
stops_later Cut exchange exchanges rest last stop = ((or_parts (is_last exchange) (list_any is_last exchanges) stop.0).1, stop.1)
stops_later _ exchange exchanges rest last stop = absurd stop

-- exchanges that agree do so with exchanges in front that are cut alike
one_more : (served other : Served) (exchange twin : HttpExchange) (exchanges others : List HttpExchange) (rest later : List ℕ) → cut_of exchange ≡ cut_of twin
    → Agrees served other exchanges others rest later → Agrees served other (exchange ∷ exchanges) (twin ∷ others) rest later
one_more served other exchange twin exchanges others rest later same (requests, rests, inl (ends, cuts)) =
    (requests_more exchange twin exchanges others same requests, rests, inl (ends, (λ i. same i ∷ cuts i)))
one_more served other exchange twin exchanges others rest later same (requests, rests, inr either) =
    (requests_more exchange twin exchanges others same requests, rests, inr either)

-- an exchange that ends the stream, or one that does not and what follows
at_exchange : (last : Bool) (served other : Served) (exchange twin : HttpExchange) (exchanges others : List HttpExchange) (stream rest later : List ℕ)
    (cut : Cuts stream (exchange ∷ exchanges) rest) (had : Cuts stream (twin ∷ others) later)
    → is_last exchange ≡ last → Stops served (exchange ∷ exchanges) rest → Stops other (twin ∷ others) later
    → ((after : List ℕ) → Cuts after exchanges rest → Cuts after others later → Stops served exchanges rest → Stops other others later
    → Agrees served other exchanges others rest later)
    → Agrees served other (exchange ∷ exchanges) (twin ∷ others) rest later
at_exchange true served other exchange twin exchanges others stream rest later cut had last stop stopped more =
    let same = one_exchange stream exchange twin cut.0 had.0 cut.1 had.1 in
    let also = same_last exchange twin same.0 ∙ last in
    let none = cut.2 last in
    let empty = had.2 also in (
      requests_more exchange twin exchanges others same.0 (ap requests_of (none ∙ sym empty)),
      last_rest cut.0 exchanges rest none cut.3 ∙ same.1 ∙ sym (last_rest had.0 others later empty had.3),
      inl (
        closes served exchange exchanges rest last stop ∙ sym (closes other twin others later also stopped),
        (λ i. same.0 i ∷ map cut_of ((none ∙ sym empty) i)),
      ),
    )
at_exchange false served other exchange twin exchanges others stream rest later cut had last stop stopped more =
    let same = one_exchange stream exchange twin cut.0 had.0 cut.1 had.1 in
    let also = same_last exchange twin same.0 ∙ last in
    one_more served other exchange twin exchanges others rest later same.0 (more cut.0 cut.3 (subst (λ (s : List ℕ). Cuts s others later) (sym same.1) had.3)
    (stops_later served exchange exchanges rest last stop) (stops_later other twin others later also stopped))

-- two cuts of one stream that its bytes end
agrees : (served other : Served) (exchanges others : List HttpExchange) (stream rest later : List ℕ) → Cuts stream exchanges rest → Cuts stream others later
    → Stops served exchanges rest → Stops other others later → Agrees served other exchanges others rest later
agrees served other [] [] stream rest later cut had stop stopped =
    let same = cut ∙ sym had in (
      refl,
      same,
      inl (
        one_end served other rest (no_end served rest stop) (no_end other rest (subst (λ (s : List ℕ). Stops other [] s) (sym same) stopped)),
        refl,
      ),
    )
agrees served other [] (twin ∷ others) stream rest later cut had stop stopped =
    let either = goes_on served stream twin others had.0 later (no_end served stream (subst (λ (s : List ℕ). Stops served [] s) cut stop)) had.1 had.2 had.3 in
    (sym either.2, cut ∙ either.1, inr (subst IsEitherWay (sym cut) either.0))
agrees served other (exchange ∷ exchanges) [] stream rest later cut had stop stopped =
    let either =
    goes_on other stream exchange exchanges cut.0 rest (no_end other stream (subst (λ (s : List ℕ). Stops other [] s) had stopped))
    cut.1 cut.2 cut.3
    in
    (either.2, sym either.1 ∙ sym had, inr (subst IsEitherWay either.1 either.0))
agrees served other (exchange ∷ exchanges) (twin ∷ others) stream rest later cut had stop stopped =
    at_exchange (is_last exchange) served other exchange twin exchanges others stream rest later cut had refl stop stopped (λ after.
    agrees served other exchanges others after rest later)

-- what two services cut of one stream agrees, as `streams_are_determined` says it
pub one_stream : (stream : List ℕ) (served other : Served) (exchanges others : List HttpExchange) (rest later : List ℕ)
    → IsCutWhole stream served exchanges rest → IsCutWhole stream other others later → Agrees served other exchanges others rest later
one_stream stream served other exchanges others rest later is_cut had_cut =
    agrees served other exchanges others stream rest later is_cut.cut had_cut.cut
    (stops served exchanges rest is_cut.left is_cut.before is_cut.written is_cut.by_bytes is_cut.ends)
    (stops other others later had_cut.left had_cut.before had_cut.written had_cut.by_bytes had_cut.ends)
