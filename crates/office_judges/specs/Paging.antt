-- What one device adds to a page, and what a page holds of the devices behind its beginning.
use Rattle.std.specs.Prelude.{◌≡◌, ◌<◌, ◌≤◌, ◌++◌, Bool, true, false, List, [], ◌∷◌, filter, length}
use Rattle.std.specs.Prelude.{Option, Some, None, is_some, ℕ}
use Rattle.office_tables.specs.declared.rows.OfCustomer.{OfCustomer}
use Rattle.office_tables.specs.declared.rows.Device.{Device}
use Rattle.office_tables.specs.Prelude.{is_device_behind, is_of}
use Rattle.office_rules.specs.Prelude.{next_page, on_page, page_limit}
use Rattle.office_judges.specs.declared.page.Page.{Page}
use Rattle.office_judges.specs.declared.page.PageScan.{PageScan}

-- the rows that a page is filled from: a customer's devices behind a chip, or all
abbrev pub visited_behind : List ℕ → Option (List ℕ) → List (OfCustomer Device) → List (OfCustomer Device)
visited_behind customer None rows = filter (is_of customer) rows
visited_behind customer (Some chip) rows = filter (is_device_behind customer chip) rows

-- the device is added to a page that has room; or the page is full and there is more; or memory ran
-- out. In either case the walk ends
pub record GathersPage (old : PageScan) (row : OfCustomer Device) (goes_on : Bool) (new : PageScan) : Type 0 where
  pub room : goes_on ≡ true → length old.devices.items < page_limit
  pub devices : goes_on ≡ true → new.devices.items ≡ old.devices.items ++ row.row ∷ []
  pub same : goes_on ≡ true → new.has_more ≡ old.has_more
  pub more : goes_on ≡ false → is_some new.failed ≡ false → new.has_more ≡ true
  pub full : goes_on ≡ false → is_some new.failed ≡ false → page_limit ≤ length old.devices.items
  pub kept : goes_on ≡ false → is_some new.failed ≡ false → new.devices.items ≡ old.devices.items

-- the page of devices
pub record IsPage (devices : List Device) (page : Page) : Type 0 where
  pub shown : page.devices.items ≡ on_page devices
  pub next : page.next ≡ next_page devices
