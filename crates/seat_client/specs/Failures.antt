-- Why asking fails where a text of the state does.
use Rattle.seat_ask.specs.declared.reading.TextFault.{TextFault}
use Rattle.seat_ask.specs.declared.reading.TextFault.TheVariants as faults
use Rattle.seat_client.specs.declared.failure.AskFailure.{AskFailure}
use Rattle.seat_client.specs.declared.failure.AskFailure.TheVariants.{NotState, NoMemory}

abbrev pub failure_of : TextFault → AskFailure
failure_of faults.OtherForm = NotState
failure_of faults.NoMemory = NoMemory
