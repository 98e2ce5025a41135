use Rattle.office_core.proofs.office.show.Goals as goal

pub returns-in-Order : goal.returns-in-Order
returns-in-Order g c = rw c.in-Order.is c.show_order.ensures

pub returns-in-Device : goal.returns-in-Device
returns-in-Device g c = rw c.in-Device.is c.show_device.ensures

pub returns-in-Ledger : goal.returns-in-Ledger
returns-in-Ledger g c = rw c.in-Ledger.is c.show_ledger.ensures

pub returns-in-Identity : goal.returns-in-Identity
returns-in-Identity g c = rw c.in-Identity.is c.show_identity.ensures

pub returns-in-Devices : goal.returns-in-Devices
returns-in-Devices g c = rw c.in-Devices.is c.show_devices.ensures
