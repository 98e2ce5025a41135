-- The tables of the office, by name.
pub data OfficeTable : Type 0 where
  meta : OfficeTable
  seats : OfficeTable
  maps : OfficeTable
  links : OfficeTable
  orders : OfficeTable
  devices : OfficeTable
  given : OfficeTable
  ledger : OfficeTable
  order_starts : OfficeTable
  given_starts : OfficeTable
  site_texts : OfficeTable
