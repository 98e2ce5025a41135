-- A request that comes again acts once.
use Rattle.std.specs.Prelude.{◌≡◌, ◌==◌, ◌&&◌, ℕ, Bool, true, false, not, bytes_eq, List, [], ◌∷◌}
use Rattle.std.specs.Prelude.{filter, nat_lt, Option}
use Rattle.std.specs.Option.{option_map_or}
use Rattle.http_replies.specs.Prelude.{code_of}
use Rattle.office_tables.specs.declared.rows.SeatState.{SeatState}
use Rattle.office_tables.specs.Prelude.{Tables}
use Rattle.office_commands.specs.declared.command.Command.{Command}
use Rattle.office_commands.specs.declared.command.Command.TheVariants.{Change, Show}
use Rattle.office_laws.specs.SoloMachine.{seat_named}
use Rattle.office_laws.specs.View.{view}
use Rattle.office_laws.specs.Exchanges.{Exchange, Wanted, asks, calls_of}
use Rattle.office_laws.specs.Alone.{exchanges_of, solo_state}
use Rattle.office_laws.specs.Pairs.{Pairwise}

-- a command that writes
abbrev pub is_change : Command → Bool
is_change (Change change) = true
is_change (Show asked) = false

-- a command that writes is asked for
abbrev pub writes : Wanted → Bool
writes (asks request) = is_change request.command
writes other = false

-- the number of a request, and 0 where it has none
abbrev pub number_of_wanted : Wanted → ℕ
number_of_wanted (asks request) = request.number
number_of_wanted other = 0

-- the number of a seat's last accepted command, and 0 before the first
abbrev pub last_number_of_seat : Option SeatState → ℕ
last_number_of_seat found = option_map_or (λ seat. seat.last) found 0

-- the exchange is no repeat of one before these tables: its number comes after its seat's last one
-- there
abbrev pub is_no_repeat : Tables → Exchange → Bool
is_no_repeat t x = nat_lt (last_number_of_seat (seat_named x.0.seat (view x.0.section.name t)))
    (number_of_wanted x.0.wanted)

-- the exchange is that of a command that writes, and was answered 200
abbrev pub is_accepted : Exchange → Bool
is_accepted x = writes x.0.wanted && code_of x.1.status == 200

-- the later exchange is of the same customer's seat and under the same number
abbrev pub is_again : Exchange → Exchange → Bool
is_again x later =
    bytes_eq later.0.section.name x.0.section.name && bytes_eq later.0.seat x.0.seat
    && number_of_wanted later.0.wanted == number_of_wanted x.0.wanted

-- for each seat and number the first exchange alone
abbrev pub firsts : List Exchange → List Exchange
firsts [] = []
firsts (x ∷ xs) = x ∷ filter (λ later. not (is_again x later)) (firsts xs)

-- the commands that write and were answered 200, each once
abbrev pub once : List Exchange → List Exchange
once xs = firsts (filter is_accepted xs)

-- the customer's rows are those that the customer's own machine has after each accepted command
-- once, and one that comes again gets the reply of the first
pub record ActsOnce (customer : List ℕ) (xs : List Exchange) (t t2 : Tables) : Type 0 where
  pub rows : view customer t2
      ≡ solo_state (calls_of (once (exchanges_of customer xs))) (view customer t)
  pub repeats : Pairwise (λ x later. is_again x later ≡ true → later.1 ≡ x.1)
      (filter is_accepted (exchanges_of customer xs))
