-- What a writer was handed of some bytes.
use Rattle.std.specs.Prelude.{◌≡◌, ℕ, List, ◌++◌, Option, IfSome, IsSomeAnd}
use Rattle.http_frames.specs.declared.send.Sent.{Sent}
use Rattle.http_frames.specs.declared.send.Sent.TheVariants.{All, Fault}

-- a front of the bytes was written: all of them where the answer says so
abbrev pub Sends : List ℕ → List ℕ → List ℕ → Sent → Type 0
Sends before after bytes All = after ≡ before ++ bytes
Sends before after bytes _ = (sent : List ℕ) × (rest : List ℕ) × (bytes ≡ sent ++ rest) × (after ≡ before ++ sent)

-- a writer that tells its bytes has got a front of these: all of them where the answer says so
abbrev pub Sending : Option (List ℕ) → Option (List ℕ) → List ℕ → Sent → Type 0
Sending old new bytes result = IfSome old (λ before. IsSomeAnd new (λ after. Sends before after bytes result))

-- a writer that tells its bytes has got all of these up to `rest`, which is left to be written
abbrev pub SendsPart : Option (List ℕ) → Option (List ℕ) → List ℕ → List ℕ → Type 0
SendsPart old new bytes rest =
    IfSome old (λ before. IsSomeAnd new (λ after. (sent : List ℕ) × (bytes ≡ sent ++ rest) × (after ≡ before ++ sent)))

-- the failures that the answer tells
abbrev pub sent_faults : Sent → ℕ
sent_faults Fault = 1
sent_faults _ = 0
