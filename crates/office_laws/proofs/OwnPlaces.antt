-- The places of the own machine's rows, by names.
use Rattle.std.specs.declared.cmp.Ordering.{Ordering}
use Rattle.office_laws.proofs.Types.{Device, Order, SeatState}
use Rattle.office_laws.specs.Prelude.{SoloMap, by_text}

abbrev pub solo_seat_cmp : SeatState → SeatState → Ordering
solo_seat_cmp = by_text (λ r. r.name)

abbrev pub solo_order_cmp : Order → Order → Ordering
solo_order_cmp = by_text (λ o. o.name)

abbrev pub solo_map_cmp : SoloMap → SoloMap → Ordering
solo_map_cmp = by_text (λ m. m.digest)

abbrev pub solo_device_cmp : Device → Device → Ordering
solo_device_cmp = by_text (λ d. d.chip)
