use Rattle.std.proofs.Common.{◌≡◌, ◌∙◌, [], Ok, ap, refl, subst}
use Rattle.http_replies.specs.Prelude.{answer_of}
use Rattle.site_core.specs.Prelude.{seat_name_at, section_at, Section}
use Rattle.station_api.proofs.Types.{Seat, Manager, Office, Report, SiteReport}
use Rattle.yield_report.specs.Prelude.{IsOrderReport, IsSiteReport, order_report_in, site_report_in}
use Rattle.office_tables.specs.Prelude.{Tables}
use Rattle.office_rules.specs.Prelude.{Step}
use Rattle.office_laws.specs.Prelude.{Exchange}
use Rattle.office_laws.proofs.Leaving.{leaves_more, leaves_none}
use Rattle.office_core.proofs.CarriedOut.{or_then}
use Rattle.station_api.specs.Prelude.{exchange_of}
use Rattle.station_api.proofs.Answering.{report_answers, report_told}
use Rattle.station_api.proofs.handler.answer_parsed.Goals as goal

pub returns-in-Seat-Office : goal.returns-in-Seat-Office
returns-in-Seat-Office g c =
    rw (c.in-Seat-Office.is-0, c.in-Seat-Office.is-1) (record {
      was_open = c.answer.ensures.was_open;
      was_honest = c.answer.ensures.was_honest;
      text = c.answer.ensures.text;
      said = tt;
      answered = λ honest t stands.
          let site = c.args.handler.now.site.now in
          let seat = c.in-Seat-Office.seat in
          let request = c.in-Seat-Office.request in
          let over = c.answer.ensures.step honest t stands in
          let x : Exchange = exchange_of (section_at site seat) (seat_name_at site seat) (Ok (Office request)) (answer_of c.answer.result) in (
            over.0,
            over.1,
            leaves_more [] x request t t over.0 (g.K.Keep.may_leave c.args.keep.now) (g.K.Keep.may_leave c.args.keep.now)
                (g.K.Keep.may_leave c.answer.new.keep) (g.K.Keep.is_open c.answer.new.keep) refl over.1
                (leaves_none (g.K.Keep.may_leave c.args.keep.now) t) (c.answer.ensures.stays_open honest)
                (λ opened left leaves. g.met.K.Keep.only_committed c.answer.new.keep left opened leaves ∙ over.6 opened)
                (λ left leaves. or_then (c.answer.ensures.crash honest left leaves)
                (λ made. (made.1, subst (λ (m : Tables). Step (section_at site seat) (seat_name_at site seat) m request made.1 left) (stands made.0) made.2))),
            over.6,
          );
    })

pub returns-in-Seat-Report : goal.returns-in-Seat-Report
returns-in-Seat-Report g c =
    let site = c.args.handler.now.site.now in
    let seat = c.in-Seat-Report.seat in
    let name = (section_at site seat).name in
    let is_name : c.name-customer.result ≡ name = c.name-customer.ensures ∙ ap (λ (s : Section). s.name) c.customer.ensures.same in
    rw (c.in-Seat-Report.is-0, c.in-Seat-Report.is-1) (report_told g.K.Keep site (Seat seat) Report (λ v. v.items) (order_report_in name)
    (λ t v. IsOrderReport c.name-customer.result t v.items) (λ reply. (refl, tt)) (λ t v said. said.0 ∙ ap (λ n. order_report_in n t) is_name)
    (λ t reply is.
    report_answers site (Seat seat) (Ok Report) t reply (order_report_in name t) is (is, refl))
    c.args.keep.now c.order_report.new.keep c.order_report.result _
    c.order_report.ensures c.report_reply.ensures.report c.report_reply.ensures.none)

pub returns-in-Manager-SiteReport : goal.returns-in-Manager-SiteReport
returns-in-Manager-SiteReport g c =
    let site = c.args.handler.now.site.now in
    rw (c.in-Manager-SiteReport.is-0, c.in-Manager-SiteReport.is-1) (report_told g.K.Keep site Manager SiteReport (λ v. v.items) (site_report_in site)
    (λ t v. IsSiteReport site t v.items) (λ reply. tt) (λ t v said. said.0) (λ t reply is.
    report_answers site Manager (Ok SiteReport) t reply (site_report_in site t) is (is, refl))
    c.args.keep.now c.site_report.new.keep c.site_report.result _
    c.site_report.ensures c.report_reply-in-Manager-SiteReport.ensures.report c.report_reply-in-Manager-SiteReport.ensures.none)
