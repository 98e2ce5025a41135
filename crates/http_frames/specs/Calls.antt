-- The calls that a stream makes of its reader and its writer, and which of them failed.
use Rattle.std.specs.Prelude.{◌≡◌, ℕ, ◌+◌, ◌*◌, ◌<◌, ◌≤◌, ◌^◌, Option, Some}
use Rattle.http_frames.specs.Frames.{call_limit}
use Rattle.http_frames.specs.declared.transfer.Drain.{Ghosts as DrainGhosts}
use Rattle.http_frames.specs.declared.transfer.Source.{Ghosts as SourceGhosts}
use Rattle.http_frames.specs.Buffers.{BufferValue}
use Rattle.http_frames.specs.Sends.{sent_faults}
use Rattle.http_frames.specs.declared.send.Sent.{Sent}
use Rattle.http_frames.specs.declared.serving.Served.{Served}
use Rattle.http_frames.specs.declared.serving.Served.TheVariants.{ReadFault, WriteFault, TurnLimit, NoMemory}

-- a count of calls, of which so many were made for this stream, has room for all that a stream may make
abbrev pub HasCallsLeft : ℕ → ℕ → Type 0
HasCallsLeft calls made = calls + 2 * call_limit < 2 ^ 64 + made

-- the failures of the reader that the end of a stream tells
abbrev pub read_faults : Option Served → ℕ
read_faults (Some ReadFault) = 1
read_faults _ = 0

-- the failures of the writer that the end of a stream tells
abbrev pub write_faults : Option Served → ℕ
write_faults (Some WriteFault) = 1
write_faults _ = 0

-- a stream that ended so made no more calls of its reader and its writer than it may: all of them where
-- the limit ended it, and none where it had no memory. Its end tells which of them failed
pub record StaysWithinCalls {R W : Type 0} (r : SourceGhosts R) (w : DrainGhosts W) (reader_old reader_new : R)
    (writer_old writer_new : W) (served : Served) : Type 0 where
  pub calls : r.calls reader_new + w.calls writer_new ≤ r.calls reader_old + w.calls writer_old + call_limit
  pub limit : served ≡ TurnLimit
      → r.calls reader_new + w.calls writer_new ≡ r.calls reader_old + w.calls writer_old + call_limit
  pub failed_reads : r.failures reader_new ≡ r.failures reader_old + read_faults (Some served)
  pub failed_writes : w.failures writer_new ≡ w.failures writer_old + write_faults (Some served)
  pub no_memory : served ≡ NoMemory
      → (r.calls reader_new ≡ r.calls reader_old) × (w.calls writer_new ≡ w.calls writer_old)

-- bytes that became this made no more calls of the writer than a stream may, all of them where the limit ended it. The
-- answer tells which of them failed, and what was read of the next request stays
pub record SendsWithinCalls {W : Type 0} (w : DrainGhosts W) (writer_old writer_new : W) (old new : BufferValue)
    (sent : Sent) : Type 0 where
  pub same_window : new ≡ record old { calls = new.calls }
  pub calls : w.calls writer_new + old.calls ≡ w.calls writer_old + new.calls
  pub more : old.calls ≤ new.calls
  pub within : old.calls ≤ call_limit → new.calls ≤ call_limit
  pub limit : sent ≡ Sent.TurnLimit → new.calls ≡ call_limit
  pub failures : w.failures writer_new ≡ w.failures writer_old + sent_faults sent
