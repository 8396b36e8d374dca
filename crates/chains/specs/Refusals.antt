-- Why a read of a record is refused.
use Rattle.std.specs.Prelude.{⊤}
use Rattle.pages.specs.declared.error.PagesError.{PagesError}
use Rattle.pages.specs.declared.error.PagesError.TheVariants.{Device, Full, Damaged, Memory, Spent, ForeignMark}

-- a page is refused by the device, by a spent map, or as damaged, or memory runs out
abbrev pub IsRecordRefusal : PagesError → Type 0
IsRecordRefusal Device = ⊤
IsRecordRefusal Full = ⊥
IsRecordRefusal Damaged = ⊤
IsRecordRefusal Memory = ⊤
IsRecordRefusal Spent = ⊤
IsRecordRefusal ForeignMark = ⊥
