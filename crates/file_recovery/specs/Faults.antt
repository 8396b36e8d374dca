-- Why reading is refused.
use Rattle.std.specs.Prelude.{⊤}
use Rattle.records.specs.declared.fault.StoreFault.{StoreFault}
use Rattle.records.specs.declared.fault.StoreFault.TheVariants.{Device, Full, Damaged, Memory, Spent, Layout, Old}

-- the device failed, memory ran out, or the pages aren't what was looked for
abbrev pub IsReadFault : StoreFault → Type 0
IsReadFault Device = ⊤
IsReadFault Full = ⊥
IsReadFault Damaged = ⊤
IsReadFault Memory = ⊤
IsReadFault Spent = ⊥
IsReadFault Layout = ⊥
IsReadFault Old = ⊥
