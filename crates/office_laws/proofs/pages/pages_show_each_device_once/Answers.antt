use Rattle.std.proofs.Common.{None}
use Rattle.office_laws.proofs.DevicePages.{devices_ascending, page_ends, page_leaves, pages_are_all}
use Rattle.office_rules.specs.Prelude.{devices_behind}
use Rattle.office_laws.proofs.pages.pages_show_each_device_once.Goals as goal

pub returns-clause-ascending : goal.returns-clause-ascending
returns-clause-ascending c = devices_ascending

pub returns-clause-next : goal.returns-clause-next
returns-clause-next c = page_leaves

pub returns-clause-last : goal.returns-clause-last
returns-clause-last c = λ devices after e. page_ends (devices_behind after devices) e

pub returns-clause-all : goal.returns-clause-all
returns-clause-all c = λ pages devices up few. pages_are_all pages devices None up few
