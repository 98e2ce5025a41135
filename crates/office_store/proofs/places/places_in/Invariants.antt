use Rattle.std.proofs.Common.{◌≡◌, ◌≤◌, filter, length, take}
use Rattle.office_store.specs.Prelude.{takes}
use Rattle.office_store.proofs.places.places_in.Given as goal

abbrev pub invariant-loop-one : goal.invariant-loop-one
invariant-loop-one l = (l.count ≤ l.one-index) × (l.count ≡ length (filter (takes l.order) (take l.one-index l.states)))
