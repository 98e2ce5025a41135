use Rattle.std.proofs.Common.{◌≡◌, ◌∙◌, None, Some, sym}
use Rattle.std.specs.BTreeMap.{get}
use Rattle.office_tables.specs.Prelude.{device_cmp, text_cmp, with_row}
use Rattle.yield_counts.proofs.Columned.{counted_put, others_stay, own_follow}
use Rattle.yield_counts.proofs.devices.DeviceCounts.put.Goals as goal

pub returns-in_default : goal.returns-in_default
returns-in_default c = λ rows ascending is right.
    let d = c.args.row.now in
    counted_put d.customer rows (with_row device_cmp d rows) c.args.self.now (record { customers = c.remove.new.self }) None
    (others_stay d rows ascending) right (λ orders none. absurd (let e = none in cc)) c.remove.ensures.updates.0

pub returns-in-Ok : goal.returns-in-Ok
returns-in-Ok c = λ rows ascending is right.
    let d = c.args.row.now in
    let taken = counted_put d.customer rows (with_row device_cmp d rows) c.args.self.now (record { customers = c.remove.new.self }) None
    (others_stay d rows ascending) right (λ orders none. absurd (let e = none in cc)) c.remove.ensures.updates.0 in
    let had : get text_cmp c.args.self.now.customers d.customer ≡ Some c.in-Some.orders = sym c.remove.ensures.value ∙ c.in-Some.is in
    c.keep.ensures (with_row device_cmp d rows) taken
    (own_follow d rows ascending c.in-Some.orders c.put.new.self (right d.customer c.in-Some.orders had) (rw (c.row_of.ensures, is) at c.in-Ok.ensures))

pub returns-in_default-put : goal.returns-in_default-put
returns-in_default-put c = λ rows ascending is right.
    let d = c.args.row.now in
    counted_put d.customer rows (with_row device_cmp d rows) c.args.self.now (record { customers = c.remove.new.self }) None
    (others_stay d rows ascending) right (λ orders none. absurd (let e = none in cc)) c.remove.ensures.updates.0
