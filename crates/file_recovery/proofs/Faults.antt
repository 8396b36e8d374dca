-- Which refusal of the pages was told.
use Rattle.std.proofs.Common.{◌≡◌, true, false, refl, sym, ap, subst, ◌∙◌}
use Rattle.std.specs.Prelude.{Result, Ok, Err, IfErr}
use Rattle.std.specs.Result.{IsErrAnd}
use Rattle.records.specs.declared.fault.StoreFault.{StoreFault}
use Rattle.records.specs.declared.fault.StoreFault.TheVariants.{Device, Full, Damaged, Memory, Spent, Layout, Old}
use Rattle.btree.specs.Reading.{IsReadRefusal}
use Rattle.btree.specs.Refusals.{IsChangeRefusal}
use Rattle.btree.proofs.Passing.{passed, same_error}
use Rattle.pages.specs.declared.error.PagesError.{PagesError}
use Rattle.pages.specs.declared.error.PagesError.TheVariants as pages
use Rattle.pages.specs.declared.page_map.PageMap.{PageMap}
use Rattle.pages.specs.Pages.{is_spent}
use Rattle.volume_format.specs.Faults.{fault_of, IsReadFault as IsSearchFault}
use Rattle.file_recovery.specs.Faults.{IsReadFault}
use Rattle.file_recovery.specs.Rows.{IsOwnFault}

-- why a search of an unspent map is refused, and a call that passes the refusal on
search_fault : (fault : StoreFault) → IsSearchFault fault → (fault ≡ Spent → ⊥) → IsReadFault fault
search_fault Device is never = tt
search_fault Full is never = absurd is
search_fault Damaged is never = tt
search_fault Memory is never = tt
search_fault Spent is never = absurd (never refl)
search_fault Layout is never = absurd is
search_fault Old is never = absurd is

pub search_passed : {T U : Type 0} {call : Result T StoreFault} (given : Result U StoreFault) (fault : StoreFault)
    (p : PageMap) → call ≡ Err fault → IsErrAnd given (λ y. y ≡ fault) → IfErr call IsSearchFault
    → (call ≡ Err Spent → is_spent p ≡ true) → is_spent p ≡ false → IfErr given IsReadFault
search_passed given fault p was from cause spent unspent =
    passed given fault from (λ r. IfErr r IsReadFault)
    (search_fault fault (subst (λ r. IfErr r IsSearchFault) was cause)
    (λ is. let clash : true ≡ false = sym (spent (was ∙ ap Err is)) ∙ unspent in cc))

-- why reading a page of such a map is refused
pub page_fault : (error : PagesError) → IsReadRefusal error → (error ≡ pages.Spent → ⊥) → IsReadFault (fault_of error)
page_fault pages.Device is never = tt
page_fault pages.Full is never = absurd is
page_fault pages.Damaged is never = tt
page_fault pages.Memory is never = absurd is
page_fault pages.Spent is never = absurd (never refl)
page_fault pages.ForeignMark is never = absurd is

pub change_fault : (error : PagesError) → IsChangeRefusal error → (error ≡ pages.Spent → ⊥)
    → IsReadFault (fault_of error)
change_fault pages.Device is never = tt
change_fault pages.Full is never = absurd is
change_fault pages.Damaged is never = tt
change_fault pages.Memory is never = tt
change_fault pages.Spent is never = absurd (never refl)
change_fault pages.ForeignMark is never = absurd is

-- one of the reader's own
pub own_fault : (fault : StoreFault) → IsOwnFault fault → IsReadFault fault
own_fault Device is = absurd is
own_fault Full is = absurd is
own_fault Damaged is = tt
own_fault Memory is = tt
own_fault Spent is = absurd is
own_fault Layout is = absurd is
own_fault Old is = absurd is

pub not_device : (fault : StoreFault) → IsOwnFault fault → fault ≡ Device → ⊥
not_device fault own is = subst IsOwnFault is own

pub own_not_device : {T A : Type 0} (r : Result T StoreFault) → IfErr r IsOwnFault → r ≡ Err Device → A
own_not_device (Ok x) own is = cc
own_not_device (Err fault) own is = let same : fault ≡ Device = cc in absurd (not_device fault own same)

-- memory that ran out is no failure of the device
pub memory_not_device : {T A : Type 0} (r : Result T StoreFault) → IsErrAnd r (λ y. y ≡ Memory) → r ≡ Err Device → A
memory_not_device (Ok x) why is = absurd why
memory_not_device (Err y) why is = let same : y ≡ Device = cc in cc (why, same)

pub memory_not_damaged : {T A : Type 0} (r : Result T StoreFault) → IsErrAnd r (λ y. y ≡ Memory) → r ≡ Err Damaged → A
memory_not_damaged (Ok x) why is = absurd why
memory_not_damaged (Err y) why is = let same : y ≡ Damaged = cc in cc (why, same)

-- why a call is refused that passes a refusal on
pub cause_passed : {T : Type 0} (given : Result T StoreFault) (fault : StoreFault) → IsErrAnd given (λ y. y ≡ fault)
    → IsReadFault fault → IfErr given IsReadFault
cause_passed given fault from cause = passed given fault from (λ r. IfErr r IsReadFault) cause

pub memory_passed : {T : Type 0} (given : Result T StoreFault) (fault : StoreFault) → IsErrAnd given (λ y. y ≡ fault)
    → fault ≡ Memory → IsErrAnd given (λ y. y ≡ Memory)
memory_passed given fault from is = subst (λ (m : StoreFault). IsErrAnd given (λ y. y ≡ m)) is from

pub memory_read : (fault : StoreFault) → fault ≡ Memory → IsReadFault fault
memory_read fault is = subst IsReadFault (sym is) tt

-- nor is damage
damaged_or_device : Damaged ≡ Device → ⊥
damaged_or_device is = cc

pub damaged_not_device : {T A : Type 0} → (◌≡◌ {A = Result T StoreFault} (Err Damaged) (Err Device)) → A
damaged_not_device is = absurd (damaged_or_device (same_error is))
