-- Bytes that are written in two parts, and what becomes of a stream behind bytes that were written whole.
use Rattle.std.proofs.Common.{◌≡◌, ℕ, List, [], ◌++◌, sym, ap, ◌∙◌, append_assoc, append-nil, Option, Some, None, subst}
use Rattle.http_frames.specs.Prelude.{Sends, Sending}
use Rattle.http_frames.specs.declared.send.Sent.{Sent}
use Rattle.http_frames.specs.declared.send.Sent.TheVariants.{All}

sends_then : (before middle after head body : List ℕ) (result : Sent) → Sends before middle head All → Sends middle after body result
    → Sends before after (head ++ body) result
sends_then before middle after head body All first second = second ∙ ap (λ s. s ++ body) first ∙ append_assoc before head body
sends_then before middle after head body _ first second = (
  head ++ second.0,
  second.1,
  ap (λ s. head ++ s) second.2 ∙ sym (append_assoc head second.0 second.1),
  second.3 ∙ ap (λ s.
      s ++ second.0) first ∙ append_assoc before head second.0,
)

pub sending_then : (old middle new : Option (List ℕ)) (head body : List ℕ) (result : Sent) → Sending old middle head All → Sending middle new body result
    → Sending old new (head ++ body) result
sending_then None middle new head body result first second = first
sending_then (Some before) None new head body result first second = absurd first
sending_then (Some before) (Some middle) None head body result first second = second
sending_then (Some before) (Some middle) (Some after) head body result first second = sends_then before middle after head body result first second

sends_whole : (before after bytes : List ℕ) (result : Sent) → Sends before after bytes All → Sends before after bytes result
sends_whole before after bytes All whole = whole
sends_whole before after bytes _ whole = (bytes, [], sym (append-nil bytes), whole)

sending_still : (old new : Option (List ℕ)) (bytes : List ℕ) (result : Sent) → Sending old new bytes All → Sending old new bytes result
sending_still None new bytes result whole = whole
sending_still (Some before) None bytes result whole = whole
sending_still (Some before) (Some after) bytes result whole = sends_whole before after bytes result whole

-- bytes that were written whole, behind which no more were
pub sending_whole : (old middle new : Option (List ℕ)) (bytes : List ℕ) (result : Sent) → Sending old middle bytes All → new ≡ middle
    → Sending old new bytes result
sending_whole old middle new bytes result whole still =
    subst (λ (w : Option (List ℕ)). Sending old w bytes result) (sym still) (sending_still old middle bytes result whole)
