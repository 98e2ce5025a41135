-- What is done where accepting a connection failed.
use Rattle.std.specs.Prelude.{◌≡◌, ℤ, pos, ◌*◌, ◌≤◌, ◌⊎◌, IsSomeAnd}
use Rattle.std.specs.IoError.{error_kind, raw_os_error}
use Rattle.std.specs.declared.io.Error.{Error}
use Rattle.std.specs.declared.io.ErrorKind.TheVariants.{ConnectionAborted, Interrupted}
use Rattle.std.specs.declared.time.Instant.{Instant}
use Rattle.station_cli.specs.Patience.{passed}
use Rattle.station_cli.specs.declared.accepting.NextAccept.{NextAccept}
use Rattle.station_cli.specs.declared.accepting.NextAccept.TheVariants.{AtOnce, AfterPause, Never}

-- a connection was gone before it was accepted, or the call was interrupted
abbrev pub IsPassedOver : Error → Type 0
IsPassedOver error = (error_kind error ≡ ConnectionAborted) ⊎ (error_kind error ≡ Interrupted)

-- Linux's ENOMEM, ENFILE, EMFILE, ENONET, EPROTO, ENOPROTOOPT, EOPNOTSUPP, ENETDOWN, ENETUNREACH, ENOBUFS, EHOSTDOWN and EHOSTUNREACH
abbrev pub IsPassingNumber : ℤ → Type 0
IsPassingNumber number =
    (number ≡ pos 12) ⊎ (number ≡ pos 23) ⊎ (number ≡ pos 24) ⊎ (number ≡ pos 64) ⊎ (number ≡ pos 71) ⊎ (number ≡ pos 92)
    ⊎ (number ≡ pos 95) ⊎ (number ≡ pos 100) ⊎ (number ≡ pos 101) ⊎ (number ≡ pos 105) ⊎ (number ≡ pos 112) ⊎ (number ≡ pos 113)

-- files or memory were wanting, or the network failed for the connection
abbrev pub IsPassing : Error → Type 0
IsPassing error = IsSomeAnd (raw_os_error error) IsPassingNumber

-- accepting connections has failed: faults that may pass have lasted for a minute
abbrev pub HasFailed : Instant → Instant → Type 0
HasFailed failing_since now = 60 * 1_000_000_000 ≤ passed failing_since now

-- the next connection is waited for at once or after a pause, or accepting one has failed
abbrev pub IsNextAccept : Error → Instant → Instant → NextAccept → Type 0
IsNextAccept error failing_since now AtOnce = IsPassedOver error
IsNextAccept error failing_since now AfterPause = ¬ IsPassedOver error × IsPassing error × ¬ HasFailed failing_since now
IsNextAccept error failing_since now Never = ¬ IsPassedOver error × ¬ (IsPassing error × ¬ HasFailed failing_since now)
