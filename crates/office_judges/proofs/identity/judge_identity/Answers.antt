use Rattle.std.proofs.Common.{◌≡◌, ◌∙◌, Some, Ok, rules}
use Rattle.std.proofs.lemmas.Result.{err_from_is_err_and}
use Rattle.office_tables.specs.Prelude.{order_at}
use Rattle.office_tables.proofs.Reading.{reads_more}
use Rattle.office_judges.specs.Prelude.{IsIdentified, IsNextNumber, numbered}
use Rattle.office_judges.proofs.Accepting.{IsFound, found_with}
use Rattle.office_judges.proofs.Identified.{identity_judged, refused_with}
use Rattle.office_judges.proofs.Refused.{refuses}
use Rattle.office_judges.proofs.identity.judge_identity.Goals as goal

pub returns-in_err-next : goal.returns-in_err-next
returns-in_err-next g c =
    let at = c.from_residual-in_err-next in
    let p = err_from_is_err_and at.result at.ensures.1 in
    rw (p.1, p.2) (record {
      read_only =
          reads_more c.find_device.ensures.read_only
          (reads_more c.order_of.ensures.read_only c.next_number.ensures.read_only);
      stays_open = c.in_err-next.ensures.stays_open;
      answer = λ is.
          let s = c.args.customer.now in
          let i = c.args.identity.now in
          let t = g.K.Keep.tables c.args.keep.now in
          let d = c.in_ok-found.found.device in
          let m = c.in_ok-map.map.now in
          let o = c.in_ok-order.order in
          let second = c.next_number.ensures.read_only.was_open is in
          let first = c.order_of.ensures.read_only.was_open second in
          let same = c.find_device.ensures.read_only.same first in
          let still = c.order_of.ensures.read_only.same second ∙ same in
          let found : IsFound s t i.chip d m =
          found_with s t i.chip c.in_ok-found.found m (rw c.in_ok-found.ensures.ok_part
          at (c.in_ok-find_device.ensures.answer first)) c.in_ok-map.ensures in
          let ordered : order_at s.name d.order t ≡ Some o =
          rw same at (c.in_ok-order.ensures.answer second) in
          refuses (refused_with s c.args.seat.now t i d m o found ordered _)
          (rw still at (c.in_err-next.ensures.answer is));
    })

pub returns-in_err-accept_identity : goal.returns-in_err-accept_identity
returns-in_err-accept_identity g c = record {
  read_only =
      reads_more c.find_device.ensures.read_only
      (reads_more c.order_of.ensures.read_only
      (reads_more c.next_number.ensures.read_only c.accept_identity.ensures.read_only));
  stays_open = search rules;
  answer = search rules;
}

pub returns : goal.returns
returns g c = record {
  read_only =
      reads_more c.find_device.ensures.read_only
      (reads_more c.order_of.ensures.read_only
      (reads_more c.next_number.ensures.read_only c.accept_identity.ensures.read_only));
  stays_open = c.in_ok-accept_identity.ensures.stays_open;
  answer = λ is.
      let s = c.args.customer.now in
      let seat = c.args.seat.now in
      let i = c.args.identity.now in
      let t = g.K.Keep.tables c.args.keep.now in
      let d = c.in_ok-found.found.device in
      let m = c.in_ok-map.map.now in
      let o = c.in_ok-order.order in
      let third = c.accept_identity.ensures.read_only.was_open is in
      let second = c.next_number.ensures.read_only.was_open third in
      let first = c.order_of.ensures.read_only.was_open second in
      let same = c.find_device.ensures.read_only.same first in
      let still = c.order_of.ensures.read_only.same second ∙ same in
      let found : IsFound s t i.chip d m =
      found_with s t i.chip c.in_ok-found.found m (rw c.in_ok-found.ensures.ok_part
      at (c.in_ok-find_device.ensures.answer first)) c.in_ok-map.ensures in
      let ordered : order_at s.name d.order t ≡ Some o =
      rw same at (c.in_ok-order.ensures.answer second) in
      let next : IsNextNumber t d o.row i.key (Ok c.in_ok-next.next) =
      rw still at (c.in_ok-next.ensures.answer third) in
      let a = c.in_ok-accept_identity.field-0 in
      let accepted : IsIdentified s seat t m d (numbered o.row next.1.0 i.key) a =
      rw (c.next_number.ensures.read_only.same third ∙ still, next.1.2)
      at (c.in_ok-accept_identity.ensures.answer is) in
      identity_judged s seat t i d m o found ordered next.1.0 next.1.1 next.0 a accepted;
}
