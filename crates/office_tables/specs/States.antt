-- The states of a device on its way through the line: a row for each.
use Rattle.std.specs.Prelude.{◌==◌, ℕ, Bool, true, false, List, [], ◌∷◌, codes, Option, Some, None}
use Rattle.std.specs.List.{list_any}
use Rattle.office_tables.specs.declared.rows.Batches.{Batches}
use Rattle.office_tables.specs.declared.rows.Batches.TheVariants.{Neither, Second, Both}
use Rattle.office_tables.specs.declared.rows.DeviceState.{DeviceState}
use Rattle.office_tables.specs.declared.rows.DeviceState.TheVariants.{Registered, AwaitingFirst, AwaitingSecond, Settled, Identified, Shipped, Quarantined}
use Rattle.office_tables.specs.declared.rows.DeviceState.TheVariants.{Scrapped}
use Rattle.office_tables.specs.declared.rows.Reason.{Reason}

-- What there is to know of a state, by these fields:
-- - `number`: its place among all.
-- - `text`: its text in replies and in tables. A text is read back by a walk over `plain_states`.
-- - `reason`: why a device in it is quarantined.
-- - `is_given_up`: whether a device in it has left its order, so that it takes no place of it.
-- - `may_have_serial`: whether a device in it may have a serial number.
-- - `pending`: which batches may still be to be burnt.
-- - `column`: in which column of states a report counts it.
pub record StateRow : Type 0 where
  pub number : ℕ
  pub text : List ℕ
  pub reason : Option Reason
  pub is_given_up : Bool
  pub may_have_serial : Bool
  pub pending : Batches
  pub column : ℕ

-- the row of each state
abbrev pub state_row : DeviceState → StateRow
state_row Registered =
    record { number = 0; text = codes "registered"; reason = None; is_given_up = false; may_have_serial = false; pending = Neither; column = 0 }
state_row AwaitingFirst =
    record { number = 1; text = codes "awaiting1"; reason = None; is_given_up = false; may_have_serial = false; pending = Both; column = 1 }
state_row AwaitingSecond =
    record { number = 2; text = codes "awaiting2"; reason = None; is_given_up = false; may_have_serial = false; pending = Second; column = 1 }
state_row Settled =
    record { number = 3; text = codes "settled"; reason = None; is_given_up = false; may_have_serial = false; pending = Neither; column = 2 }
state_row Identified =
    record { number = 4; text = codes "identified"; reason = None; is_given_up = false; may_have_serial = true; pending = Neither; column = 3 }
state_row Shipped =
    record { number = 5; text = codes "shipped"; reason = None; is_given_up = false; may_have_serial = true; pending = Neither; column = 4 }
state_row (Quarantined why) =
    record { number = 6; text = codes "quarantined"; reason = Some why; is_given_up = true; may_have_serial = false; pending = Neither; column = 5 }
state_row Scrapped =
    record { number = 7; text = codes "scrapped"; reason = None; is_given_up = true; may_have_serial = true; pending = Neither; column = 6 }

-- the states but the quarantined one, which alone has a reason beside its text
abbrev pub plain_states : List DeviceState
plain_states = Registered ∷ AwaitingFirst ∷ AwaitingSecond ∷ Settled ∷ Identified ∷ Shipped ∷ Scrapped ∷ []

-- the state is one of these, whatever the reason of a quarantine
abbrev pub is_one_of : List DeviceState → DeviceState → Bool
is_one_of states state = list_any (λ s. (state_row s).number == (state_row state).number) states
