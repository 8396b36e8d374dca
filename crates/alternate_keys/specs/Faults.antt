-- Why a call is refused.
use Rattle.std.specs.Prelude.{⊤}
use Rattle.records.specs.declared.fault.StoreFault.{StoreFault}
use Rattle.records.specs.declared.fault.StoreFault.TheVariants.{Device, Full, Damaged, Memory, Spent, Layout, Old}
pub use Rattle.volume_format.specs.Faults.{IsReadFault}

-- a call that changes pages is refused for each reason but another store's layout and an earlier mark
abbrev pub IsWriteFault : StoreFault → Type 0
IsWriteFault Device = ⊤
IsWriteFault Full = ⊤
IsWriteFault Damaged = ⊤
IsWriteFault Memory = ⊤
IsWriteFault Spent = ⊤
IsWriteFault Layout = ⊥
IsWriteFault Old = ⊥

-- the call that makes a file is refused for each reason but another store's layout
abbrev pub IsCreateFault : StoreFault → Type 0
IsCreateFault Device = ⊤
IsCreateFault Full = ⊤
IsCreateFault Damaged = ⊤
IsCreateFault Memory = ⊤
IsCreateFault Spent = ⊤
IsCreateFault Layout = ⊥
IsCreateFault Old = ⊤
