-- Why a call that changes a tree is refused.
use Rattle.std.specs.Prelude.{⊤, Result, IfErr}
use Rattle.pages.specs.declared.error.PagesError.{PagesError}
use Rattle.pages.specs.declared.error.PagesError.TheVariants.{Device, Full, Damaged, Memory, Spent, ForeignMark}

-- a page that has a number is written: refused where memory runs out, and where the map is spent
abbrev pub IsPutRefusal : PagesError → Type 0
IsPutRefusal Device = ⊥
IsPutRefusal Full = ⊥
IsPutRefusal Damaged = ⊥
IsPutRefusal Memory = ⊤
IsPutRefusal Spent = ⊤
IsPutRefusal ForeignMark = ⊥

-- and where it is none of a tree
abbrev pub IsRestRefusal : PagesError → Type 0
IsRestRefusal Device = ⊥
IsRestRefusal Full = ⊥
IsRestRefusal Damaged = ⊤
IsRestRefusal Memory = ⊤
IsRestRefusal Spent = ⊤
IsRestRefusal ForeignMark = ⊥

-- a page is written that may need a new one: refused where no page number is left too
abbrev pub IsWriteRefusal : PagesError → Type 0
IsWriteRefusal Device = ⊥
IsWriteRefusal Full = ⊤
IsWriteRefusal Damaged = ⊥
IsWriteRefusal Memory = ⊤
IsWriteRefusal Spent = ⊤
IsWriteRefusal ForeignMark = ⊥

-- and where it is none of a tree
abbrev pub IsParentRefusal : PagesError → Type 0
IsParentRefusal Device = ⊥
IsParentRefusal Full = ⊤
IsParentRefusal Damaged = ⊤
IsParentRefusal Memory = ⊤
IsParentRefusal Spent = ⊤
IsParentRefusal ForeignMark = ⊥

-- A change of a tree that needs no new page: the device refuses a page, the pages are none of a tree, memory runs out, or the map is spent.
abbrev pub IsChangeRefusal : PagesError → Type 0
IsChangeRefusal Device = ⊤
IsChangeRefusal Full = ⊥
IsChangeRefusal Damaged = ⊤
IsChangeRefusal Memory = ⊤
IsChangeRefusal Spent = ⊤
IsChangeRefusal ForeignMark = ⊥

-- an error is returned only for such a reason
abbrev pub ErrOnlyIfChangeRefusal : {T : Type 0} → Result T PagesError → Type 0
ErrOnlyIfChangeRefusal result = IfErr result IsChangeRefusal

-- one that may need new pages is refused where no page number is left too
abbrev pub IsInsertRefusal : PagesError → Type 0
IsInsertRefusal Device = ⊤
IsInsertRefusal Full = ⊤
IsInsertRefusal Damaged = ⊤
IsInsertRefusal Memory = ⊤
IsInsertRefusal Spent = ⊤
IsInsertRefusal ForeignMark = ⊥

-- an error is returned only for a reason of these
abbrev pub ErrOnlyIfInsertRefusal : {T : Type 0} → Result T PagesError → Type 0
ErrOnlyIfInsertRefusal result = IfErr result IsInsertRefusal
