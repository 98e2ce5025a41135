-- The words of this crate, passed on from one place. Declares nothing.
pub use Rattle.yield_report.specs.Counts.{columns, count_in, devices_of, HasIssued, has_issued_in, number_count, serials_left, state_names, sum_at, total}
pub use Rattle.yield_report.specs.Counts.{Yield, yield_of}
pub use Rattle.yield_report.specs.Lines.{GathersOrder, head_of, line_of, line_with, whole_line}
pub use Rattle.yield_report.specs.Reports.{customer_line_in, sorted_customers, sorted_names, IsOrderReport, IsSiteReport, order_report_in}
pub use Rattle.yield_report.specs.Reports.{site_report_in}
pub use Rattle.yield_report.specs.Rows.{AreWhole, FitsCustomer, line_fields, lines_text, named_numbers, numbers_in, with_report_row}
pub use Rattle.yield_report.specs.Texts.{AreStorable, customer_line, customer_total, number_names, order_header, order_report_text, report_text, site_header}
pub use Rattle.yield_report.specs.Texts.{storable}
