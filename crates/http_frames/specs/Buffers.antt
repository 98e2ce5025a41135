-- What the buffer holds, and what stands at its front.
use Rattle.std.specs.Prelude.{◌≡◌, ℕ, List, [], ◌++◌, drop, Option, Some, None, IfSome, IsSomeAnd}
use Rattle.httparse.specs.declared.spans.HeaderSpan.{HeaderSpan}
use Rattle.http_frames.specs.Frames.{call_limit, Request, IsRefused, IsCutOff, IsUndecided}
use Rattle.http_frames.specs.Looks.{IsFrameAt}
use Rattle.http_frames.specs.declared.transfer.Transfer.{Transfer}
use Rattle.http_frames.specs.declared.transfer.Transfer.TheVariants.{Moved, Interrupted, Failed}
use Rattle.http_frames.specs.declared.frame.Framed.{Framed}

-- what was read and isn't given up: the bytes, of which the first `taken` are the last request's, the spans of its fields, and the calls so far
pub record BufferValue : Type 0 where
  pub window : List ℕ
  pub taken : ℕ
  pub spans : List HeaderSpan
  pub calls : ℕ

-- the bytes that no request took yet
abbrev pub unread : BufferValue → List ℕ
unread held = drop held.taken held.window

-- how many bytes were moved
abbrev pub count_of : Transfer → ℕ
count_of (Moved count) = count
count_of Interrupted = 0
count_of Failed = 0

-- the bytes in the buffer and those left are the same as before. Where `ended` holds, none are left
abbrev pub KeepsBytes : List ℕ → Option (List ℕ) → List ℕ → Option (List ℕ) → Type 0 → Type 0
KeepsBytes before old window new ended =
    IfSome old (λ left. IsSomeAnd new (λ after. (before ++ left ≡ window ++ after) × (ended → after ≡ [])))

-- what was answered is so of the bytes in the buffer
abbrev pub IsFramed : BufferValue → Framed → Type 0
IsFramed held (Framed.Request frame) =
    (request : Request) × IsFrameAt held.window held.spans frame request × (held.taken ≡ frame.end)
IsFramed held (Framed.Refused refusal is_head) = IsRefused held.window refusal is_head
IsFramed held Framed.Nothing = held.window ≡ []
IsFramed held Framed.Cut = IsCutOff held.window
IsFramed held Framed.ReadFault = IsUndecided held.window
IsFramed held Framed.TurnLimit = IsUndecided held.window × (held.calls ≡ call_limit)

-- the stream has ended there
abbrev pub IsEnd : Framed → Type 0
IsEnd (Framed.Request frame) = ⊥
IsEnd (Framed.Refused refusal is_head) = ⊥
IsEnd Framed.Nothing = Unit {0}
IsEnd Framed.Cut = Unit {0}
IsEnd Framed.ReadFault = ⊥
IsEnd Framed.TurnLimit = ⊥

-- the failures of the reader that the answer tells
abbrev pub faults_of : Framed → ℕ
faults_of (Framed.Request frame) = 0
faults_of (Framed.Refused refusal is_head) = 0
faults_of Framed.Nothing = 0
faults_of Framed.Cut = 0
faults_of Framed.ReadFault = 1
faults_of Framed.TurnLimit = 0

-- the end of the request that was found, if one was
abbrev pub end_of_framed : Option Framed → ℕ
end_of_framed None = 0
end_of_framed (Some (Framed.Request frame)) = frame.end
end_of_framed (Some (Framed.Refused refusal is_head)) = 0
end_of_framed (Some Framed.Nothing) = 0
end_of_framed (Some Framed.Cut) = 0
end_of_framed (Some Framed.ReadFault) = 0
end_of_framed (Some Framed.TurnLimit) = 0
