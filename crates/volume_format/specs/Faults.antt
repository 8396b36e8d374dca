-- What a refusal of the pages is to the user, and why a call is refused that only reads.
use Rattle.std.specs.Prelude.{⊤}
use Rattle.pages.specs.declared.error.PagesError.{PagesError}
use Rattle.pages.specs.declared.error.PagesError.TheVariants as pages
use Rattle.records.specs.declared.fault.StoreFault.{StoreFault}
use Rattle.records.specs.declared.fault.StoreFault.TheVariants.{Device, Full, Damaged, Memory, Spent, Layout, Old}

abbrev pub fault_of : PagesError → StoreFault
fault_of pages.Device = Device
fault_of pages.Full = Full
fault_of pages.Damaged = Damaged
fault_of pages.Memory = Memory
fault_of pages.Spent = Spent
fault_of pages.ForeignMark = Layout

-- a call that only reads is refused for each reason but want of room, another store's layout and an earlier mark
abbrev pub IsReadFault : StoreFault → Type 0
IsReadFault Device = ⊤
IsReadFault Full = ⊥
IsReadFault Damaged = ⊤
IsReadFault Memory = ⊤
IsReadFault Spent = ⊤
IsReadFault Layout = ⊥
IsReadFault Old = ⊥
