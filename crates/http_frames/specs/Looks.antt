-- What a look at the bytes read so far finds.
use Rattle.std.specs.Prelude.{◌≡◌, ℕ, ◌<◌, ◌≤◌, List, length, drop, slice_range, Option, Some, None}
use Rattle.httparse.specs.declared.spans.HeaderSpan.{HeaderSpan}
use Rattle.httparse.specs.declared.spans.RequestSpans.{RequestSpans}
use Rattle.httparse.specs.Grammar.{RequestHead, MayBecomeRequest}
use Rattle.httparse.specs.Spans.{IsRequestAt, IsRequestWithin}
use Rattle.http_frames.specs.Frames.{HasHead, LacksHead, HasBadHead, head_limit, room, Request, HasRequest, is_head_method, ends_after, IsRefused, IsUndecided}
use Rattle.http_frames.specs.declared.frame.Frame.{Frame}
use Rattle.http_frames.specs.declared.frame.Framed.{Framed}
use Rattle.http_frames.specs.declared.look.HeadFound.{HeadFound}
use Rattle.http_frames.specs.declared.look.HeadFound.TheVariants.{Whole, Part, Bad}

-- the spans are those of the head at the front of the window
pub record IsHeadAt (window : List ℕ) (spans : List HeaderSpan) (found : RequestSpans) (head : RequestHead) : Type 0 where
  pub has : HasHead window head (drop found.len window)
  pub within : IsRequestWithin window spans found
  pub at : IsRequestAt window spans found head

-- a head, part of one, or what never becomes one
abbrev pub IsHeadFound : List ℕ → List HeaderSpan → HeadFound → Type 0
IsHeadFound window spans (Whole found) = (head : RequestHead) × IsHeadAt window spans found head
IsHeadFound window spans Part = (length window < head_limit) × LacksHead window × MayBecomeRequest window
IsHeadFound window spans Bad = HasBadHead window

-- the frame is this request, at the front of the window
pub record IsFrameAt (window : List ℕ) (spans : List HeaderSpan) (frame : Frame) (request : Request) : Type 0 where
  pub whole : HasRequest window request (drop frame.end window)
  pub head : IsHeadAt window spans frame.head request.head
  pub ordered : frame.head.len ≤ frame.end
  pub in_range : frame.end ≤ length window
  pub body : slice_range window frame.head.len frame.end ≡ request.body
  pub is_head : frame.is_head ≡ is_head_method request.head
  pub is_last : frame.is_last ≡ ends_after request.head

-- a whole request or a refusal at the front of the window, or none yet, and then there is room for more
abbrev pub IsLook : List ℕ → List HeaderSpan → Option Framed → Type 0
IsLook window spans None = IsUndecided window × (length window < room)
IsLook window spans (Some (Framed.Request frame)) = (request : Request) × IsFrameAt window spans frame request
IsLook window spans (Some (Framed.Refused refusal is_head)) = IsRefused window refusal is_head
IsLook window spans (Some Framed.Nothing) = ⊥
IsLook window spans (Some Framed.Cut) = ⊥
IsLook window spans (Some Framed.ReadFault) = ⊥
IsLook window spans (Some Framed.TurnLimit) = ⊥
