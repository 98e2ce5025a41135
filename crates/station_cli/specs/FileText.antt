-- The text of a file, or why there is none.
use Rattle.std.specs.Prelude.{◌≡◌, ◌≢◌, ◌⊎◌, ℕ, List, length, nat_lt, Result, Ok, Err, if◌then◌else◌}
use Rattle.std.specs.Borrow.{Bor}
use Rattle.std.specs.IoError.{error_kind}
use Rattle.std.specs.Str.{is_utf8}
use Rattle.std.specs.declared.io.Error.{Error}
use Rattle.std.specs.declared.io.ErrorKind.{ErrorKind}
use Rattle.station_cli.specs.declared.failure.Failure.{Failure}
use Rattle.station_cli.specs.declared.failure.Failure.TheVariants.{CannotRead, NoMemory}

-- a file that this error kept from being read: memory ran out, or it can't be read
abbrev pub IsUnread : Bor (List ℕ) → Error → Failure → Type 0
IsUnread name error failure =
    ((error_kind error ≡ ErrorKind.OutOfMemory) × (failure ≡ NoMemory)) ⊎ ((error_kind error ≢ ErrorKind.OutOfMemory) × (failure ≡ CannotRead name))

-- the text in the bytes of a file: over the limit there is this failure, and other bytes that are not UTF-8 can't be read
abbrev pub text_of_file : Bor (List ℕ) → List ℕ → ℕ → Failure → Result (List ℕ) Failure
text_of_file name bytes limit too_long =
    if nat_lt limit (length bytes) then Err too_long
    else if is_utf8 bytes then Ok bytes
    else Err (CannotRead name)

-- the value, or the failure that the fault is
abbrev pub or_failure : {A Fault : Type 0} → (Fault → Failure) → Result A Fault → Result A Failure
or_failure failure_of (Ok value) = Ok value
or_failure failure_of (Err fault) = Err (failure_of fault)
