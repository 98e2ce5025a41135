-- What one call of a reader or writer does.
use Rattle.std.specs.Prelude.{◌≡◌, ℕ, ◌==◌, if◌then◌else◌, ◌∷◌, ◌<◌, ◌≤◌, List, [], ◌++◌, length, take, Option, IfSome, IsSomeAnd}
use Rattle.http_frames.specs.declared.transfer.Transfer.{Transfer}
use Rattle.http_frames.specs.declared.transfer.Transfer.TheVariants.{Moved, Interrupted, Failed}

-- a call moves at most so many bytes
abbrev pub MovesAtMost : Transfer → ℕ → Type 0
MovesAtMost (Moved count) most = count ≤ most
MovesAtMost Interrupted most = Unit {0}
MovesAtMost Failed most = Unit {0}

-- how many failures the call adds
abbrev pub failures_of : Transfer → ℕ
failures_of (Moved count) = 0
failures_of Interrupted = 0
failures_of Failed = 1

-- `left` went to `after`, and the bytes between them into the room. Only the end moves no byte into a room
abbrev pub Takes : List ℕ → List ℕ → List ℕ → Transfer → Type 0
Takes left after room (Moved count) = (left ≡ take count room ++ after) × (count ≡ 0 → 0 < length room → left ≡ [])
Takes left after room Interrupted = after ≡ left
Takes left after room Failed = after ≡ left

-- a read moves bytes from the front of what is left into the room, where the reader tells its bytes
abbrev pub ReadsBytes : Option (List ℕ) → Option (List ℕ) → List ℕ → Transfer → Type 0
ReadsBytes old new room result = IfSome old (λ left. IsSomeAnd new (λ after. Takes left after room result))

-- a front of the bytes was added
abbrev pub AddsFront : List ℕ → List ℕ → List ℕ → Transfer → Type 0
AddsFront before after bytes (Moved count) = after ≡ before ++ take count bytes
AddsFront before after bytes Interrupted = after ≡ before
AddsFront before after bytes Failed = after ≡ before

-- a write adds a front of the bytes to what was written, where the writer tells its bytes
abbrev pub WritesBytes : Option (List ℕ) → Option (List ℕ) → List ℕ → Transfer → Type 0
WritesBytes old new bytes result = IfSome old (λ before. IsSomeAnd new (λ after. AddsFront before after bytes result))

-- a write that takes none of some bytes counts as failed
abbrev pub write_failures : List ℕ → Transfer → ℕ
write_failures [] (Moved count) = 0
write_failures (b ∷ bytes) (Moved count) = if count == 0 then 1 else 0
write_failures bytes Interrupted = 0
write_failures bytes Failed = 1
