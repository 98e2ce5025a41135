-- Some exchanges of a stream, of which the parts of `serve_stream` and its loop speak. What it promises as a whole is in `Streams`.
use Rattle.std.specs.Prelude.{◌≡◌, ◌≤◌, ℕ, List, ◌++◌, length, Option, Some, None, IfSome, IsSomeAnd}
use Rattle.http_frames.specs.declared.serving.Served.{Served}
use Rattle.http_frames.specs.Streams.{HttpExchange, Cuts, IsOpen, Ends, texts_of}

-- the rest begins with these exchanges, and then goes on with `next`, or ends
abbrev pub ServesExchanges : Option Served → List HttpExchange → List ℕ → List ℕ → List ℕ → List ℕ → List ℕ → Type 0
ServesExchanges None exchanges rest next left before written = Cuts rest exchanges next × IsOpen exchanges × (written ≡ before ++ texts_of exchanges)
ServesExchanges (Some served) exchanges rest next left before written =
    (last : List ℕ) × Cuts rest exchanges last × Ends served exchanges last left before written

-- the exchanges that are served between a reader and a writer that tell their bytes: `front` was read but not served before them, and `next` is after
abbrev pub ServesBytes : List ℕ → Option (List ℕ) → List ℕ → Option (List ℕ) → Option (List ℕ) → Option (List ℕ) → Option Served → List HttpExchange → Type 0
ServesBytes front left_old next left_new written_old written_new result exchanges =
    IfSome left_old (λ left. IfSome written_old (λ before.
    IsSomeAnd left_new (λ after. IsSomeAnd written_new (λ written.
    ServesExchanges result exchanges (front ++ left) (next ++ after) after before written))))

-- one exchange is served, or at most one where the stream ends
abbrev pub IsOneExchange : Option Served → List HttpExchange → Type 0
IsOneExchange None exchanges = length exchanges ≡ 1
IsOneExchange (Some served) exchanges = length exchanges ≤ 1
