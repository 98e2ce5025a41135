-- Why a store isn't opened.
use Rattle.std.specs.Prelude.{ℕ, Bool, true, false, Result, Ok, Err}
use Rattle.office_store.specs.declared.fault.OpenFault.{OpenFault}
use Rattle.office_store.specs.declared.fault.OpenFault.TheVariants.{OtherSite, OtherTables, Failed}

-- the number of a fault in the program's line
abbrev pub open_fault_number : OpenFault → ℕ
open_fault_number OtherSite = 1
open_fault_number OtherTables = 2
open_fault_number Failed = 3

-- what a test's answer comes to: it is passed, or the tables are other ones, or the store failed
abbrev pub result_of_test : {E : Type 0} → Result Bool E → Result (Unit {0}) OpenFault
result_of_test (Ok true) = Ok tt
result_of_test (Ok false) = Err OtherTables
result_of_test (Err _) = Err Failed
