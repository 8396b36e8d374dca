-- What is known after a refusal that is passed on, and after two calls.
use Rattle.std.proofs.Common.{◌≡◌, true, false, refl, sym, ap, subst, ◌∙◌}
use Rattle.std.specs.Prelude.{Result, Option, None, Err, IsSome, is_some}
use Rattle.std.specs.Result.{IsErrAnd}
use Rattle.pages.specs.Pages.{is_spent, SameCommitted}
use Rattle.pages.specs.declared.page_map.PageMap.{PageMap}
use Rattle.pages.specs.declared.error.PagesError.{PagesError}
use Rattle.pages.specs.declared.error.PagesError.TheVariants as pages
use Rattle.btree_pages.specs.declared.row_layout.RowLayout.{RowLayout}
use Rattle.btree.specs.Reading.{IsReadRefusal, IsSearchRefusal}
use Rattle.btree.specs.Refusals.{IsChangeRefusal, IsInsertRefusal}
use Rattle.records.specs.declared.fault.StoreFault.{StoreFault}
use Rattle.records.specs.declared.fault.StoreFault.TheVariants.{Device, Full, Damaged, Memory, Spent, Layout, Old}
use Rattle.volume_format.specs.Faults.{fault_of}
use Rattle.alternate_keys.specs.Faults.{IsReadFault, IsWriteFault}
pub use Rattle.btree.proofs.Passing.{passed, never_ok, same_error, still_error, committed_on, reads_where}
pub use Rattle.btree.proofs.Passing.{if_refused, on_refused, refused_never, few_more}

-- an answer is one thing
pub none_or_some : {T A : Type 0} {o : Option T} → o ≡ None → IsSome o → A
none_or_some {o} none some = let clash : true ≡ false = sym some ∙ ap is_some none in cc

-- why a call is refused is a reason for its caller's refusal
pub read_is_write : (fault : StoreFault) → IsReadFault fault → IsWriteFault fault
read_is_write Device why = tt
read_is_write Full why = tt
read_is_write Damaged why = tt
read_is_write Memory why = tt
read_is_write Spent why = tt
read_is_write Layout why = why
read_is_write Old why = why

pub memory_is_read : (fault : StoreFault) → fault ≡ Memory → IsReadFault fault
memory_is_read fault is = subst IsReadFault (sym is) tt

pub memory_is_write : (fault : StoreFault) → fault ≡ Memory → IsWriteFault fault
memory_is_write fault is = subst IsWriteFault (sym is) tt

pub damaged_is_read : (fault : StoreFault) → fault ≡ Damaged → IsReadFault fault
damaged_is_read fault is = subst IsReadFault (sym is) tt

-- of the pages too
fault_of_search : (layout : RowLayout) (error : PagesError) → IsSearchRefusal layout error
    → IsReadFault (fault_of error)
fault_of_search layout pages.Device why = tt
fault_of_search layout pages.Full why = why
fault_of_search layout pages.Damaged why = tt
fault_of_search layout pages.Memory why = tt
fault_of_search layout pages.Spent why = tt
fault_of_search layout pages.ForeignMark why = why

pub search_is_read : (layout : RowLayout) (error : PagesError) (fault : StoreFault) → IsSearchRefusal layout error
    → fault ≡ fault_of error → IsReadFault fault
search_is_read layout error fault why is = subst IsReadFault (sym is) (fault_of_search layout error why)

fault_of_read : (error : PagesError) → IsReadRefusal error → IsReadFault (fault_of error)
fault_of_read pages.Device why = tt
fault_of_read pages.Full why = why
fault_of_read pages.Damaged why = tt
fault_of_read pages.Memory why = tt
fault_of_read pages.Spent why = tt
fault_of_read pages.ForeignMark why = why

pub reading_is_read : (error : PagesError) (fault : StoreFault) → IsReadRefusal error → fault ≡ fault_of error
    → IsReadFault fault
reading_is_read error fault why is = subst IsReadFault (sym is) (fault_of_read error why)

fault_of_change : (error : PagesError) → IsChangeRefusal error → IsReadFault (fault_of error)
fault_of_change pages.Device why = tt
fault_of_change pages.Full why = why
fault_of_change pages.Damaged why = tt
fault_of_change pages.Memory why = tt
fault_of_change pages.Spent why = tt
fault_of_change pages.ForeignMark why = why

pub change_is_read : (error : PagesError) (fault : StoreFault) → IsChangeRefusal error → fault ≡ fault_of error
    → IsReadFault fault
change_is_read error fault why is = subst IsReadFault (sym is) (fault_of_change error why)

fault_of_insert : (error : PagesError) → IsInsertRefusal error → IsWriteFault (fault_of error)
fault_of_insert pages.Device why = tt
fault_of_insert pages.Full why = tt
fault_of_insert pages.Damaged why = tt
fault_of_insert pages.Memory why = tt
fault_of_insert pages.Spent why = tt
fault_of_insert pages.ForeignMark why = why

pub insert_is_write : (error : PagesError) (fault : StoreFault) → IsInsertRefusal error → fault ≡ fault_of error
    → IsWriteFault fault
insert_is_write error fault why is = subst IsWriteFault (sym is) (fault_of_insert error why)

-- and none that is another's
pub read_not_full : {T A : Type 0} (fault : StoreFault) → IsReadFault fault
    → (◌≡◌ {A = Result T StoreFault} (Err fault) (Err Full)) → A
read_not_full fault why is = absurd (subst IsReadFault (same_error is) why)

memory_or : (fault : StoreFault) → fault ≡ Memory → (fault ≡ Spent → ⊥) × (fault ≡ Device → ⊥)
memory_or fault why = (λ is. cc, λ is. cc)

pub memory_not_spent : {T A : Type 0} (fault : StoreFault) → fault ≡ Memory
    → (◌≡◌ {A = Result T StoreFault} (Err fault) (Err Spent)) → A
memory_not_spent fault why is = absurd ((memory_or fault why).0 (same_error is))

pub damaged_not_spent : {T A : Type 0} (fault : StoreFault) → fault ≡ Damaged
    → (◌≡◌ {A = Result T StoreFault} (Err fault) (Err Spent)) → A
damaged_not_spent fault why is = let same : fault ≡ Spent = same_error is in cc (why, same)

pub memory_not_device : {T A : Type 0} (fault : StoreFault) → fault ≡ Memory
    → (◌≡◌ {A = Result T StoreFault} (Err fault) (Err Device)) → A
memory_not_device fault why is = absurd ((memory_or fault why).1 (same_error is))

-- nor is what a refusal for want of memory is passed on as
never_other : {T A : Type 0} (r : Result T StoreFault) (x bad : StoreFault) → IsErrAnd r (λ e. e ≡ x) → x ≡ Memory
    → (Memory ≡ bad → ⊥) → r ≡ Err bad → A
never_other {T} {A} r x bad is why clash = passed r x is (λ r. r ≡ Err bad → A)
    (λ e. absurd (clash (sym why ∙ same_error e)))

pub memory_never_full : {T A : Type 0} (r : Result T StoreFault) (x : StoreFault) → IsErrAnd r (λ e. e ≡ x) → x ≡ Memory
    → r ≡ Err Full → A
memory_never_full r x is why = never_other r x Full is why (λ e. cc)

pub memory_never_damaged : {T A : Type 0} (r : Result T StoreFault) (x : StoreFault) → IsErrAnd r (λ e. e ≡ x)
    → x ≡ Memory → r ≡ Err Damaged → A
memory_never_damaged r x is why = never_other r x Damaged is why (λ e. cc)

pub memory_never_spent : {T A : Type 0} (r : Result T StoreFault) (x : StoreFault) → IsErrAnd r (λ e. e ≡ x)
    → x ≡ Memory → r ≡ Err Spent → A
memory_never_spent r x is why = never_other r x Spent is why (λ e. cc)

damaged_or_device : Damaged ≡ Device → ⊥
damaged_or_device is = cc

pub damaged_not_device : {T A : Type 0} → (◌≡◌ {A = Result T StoreFault} (Err Damaged) (Err Device)) → A
damaged_not_device is = absurd (damaged_or_device (same_error is))

damaged_or_full : Damaged ≡ Full → ⊥
damaged_or_full is = cc

pub damaged_not_full : {T A : Type 0} → (◌≡◌ {A = Result T StoreFault} (Err Damaged) (Err Full)) → A
damaged_not_full is = absurd (damaged_or_full (same_error is))

-- which refusal of the pages was passed on
pub spent_back : (error : PagesError) → fault_of error ≡ Spent → error ≡ pages.Spent
spent_back pages.Device is = cc
spent_back pages.Full is = cc
spent_back pages.Damaged is = cc
spent_back pages.Memory is = cc
spent_back pages.Spent is = refl
spent_back pages.ForeignMark is = cc

-- Pages that are spent after calls that commit nothing were spent before.
pub spent_before : (old new : PageMap) → SameCommitted old new → is_spent new ≡ true → is_spent old ≡ true
spent_before old new same is = sym same.spent ∙ is
