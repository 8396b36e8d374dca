-- Which refusal of the pages was told.
use Rattle.std.proofs.Common.{◌≡◌, ◌⊎◌, inl, inr, Result, Ok, Err, IfErr, sym, ap, subst, ◌∙◌}
use Rattle.std.specs.Prelude.{IsOkUnless}
use Rattle.std.specs.Result.{IsErrAnd}
use Rattle.records.specs.declared.fault.StoreFault.{StoreFault}
use Rattle.pages.specs.declared.error.PagesError.{PagesError}
use Rattle.pages.specs.declared.error.PagesError.TheVariants as pages
use Rattle.records.specs.declared.fault.StoreFault.TheVariants.{Device, Full, Damaged, Memory, Spent, Layout, Old}
use Rattle.volume_format.specs.Faults.{fault_of}
use Rattle.alternate_keys.specs.Faults.{IsReadFault, IsWriteFault, IsCreateFault}
use Rattle.alternate_keys.proofs.Passing.{read_is_write, memory_is_read, memory_is_write, same_error}

-- a refusal that is passed on is that of the call
pub refused_by_call : {T U E : Type 0} {call : Result T E} {given : Result U E} {e fault : E} → call ≡ Err e
    → IsErrAnd given (λ x. x ≡ e) → given ≡ Err fault → call ≡ Err fault
refused_by_call was is refused = was ∙ ap Err (sym (rw refused at is))

-- a commit never tells of damage
pub commit_sound : (error : PagesError) → (error ≡ pages.Device) ⊎ (error ≡ pages.Full) ⊎ (error ≡ pages.Memory)
    ⊎ (error ≡ pages.Spent) → fault_of error ≡ Damaged → ⊥
commit_sound error (inl is) told = let clash : Device ≡ Damaged = sym (ap fault_of is) ∙ told in cc
commit_sound error (inr (inl is)) told = let clash : Full ≡ Damaged = sym (ap fault_of is) ∙ told in cc
commit_sound error (inr (inr (inl is))) told = let clash : Memory ≡ Damaged = sym (ap fault_of is) ∙ told in cc
commit_sound error (inr (inr (inr is))) told = let clash : Spent ≡ Damaged = sym (ap fault_of is) ∙ told in cc

-- where memory alone may be wanting, the call isn't refused for another reason
pub never_device : {T : Type 0} (result : Result T StoreFault) → IsOkUnless result Memory → result ≡ Err Device → ⊥
never_device result only is = let clash : Device ≡ Memory = subst (λ r. IfErr r (λ x. x ≡ Memory)) is only in cc

pub never_spent : {T : Type 0} (result : Result T StoreFault) → IsOkUnless result Memory → result ≡ Err Spent → ⊥
never_spent result only is = let clash : Spent ≡ Memory = subst (λ r. IfErr r (λ x. x ≡ Memory)) is only in cc

pub never_full_memory : {T : Type 0} (result : Result T StoreFault) → IsOkUnless result Memory → result ≡ Err Full
    → ⊥
never_full_memory result only is = let clash : Full ≡ Memory = subst (λ r. IfErr r (λ x. x ≡ Memory)) is only in cc

pub never_damaged : {T : Type 0} (result : Result T StoreFault) → IsOkUnless result Memory → result ≡ Err Damaged
    → ⊥
never_damaged result only is = let clash : Damaged ≡ Memory = subst (λ r. IfErr r (λ x. x ≡ Memory)) is only in cc

memory_alone : (Memory ≡ Device → ⊥) × (Memory ≡ Damaged → ⊥) × (Memory ≡ Spent → ⊥)
memory_alone = (λ is. cc, λ is. cc, λ is. cc)

pub memory_no_device : {T A : Type 0} → (◌≡◌ {A = Result T StoreFault} (Err Memory) (Err Device)) → A
memory_no_device is = absurd (memory_alone.0 (same_error is))

pub memory_no_damage : {T A : Type 0} → (◌≡◌ {A = Result T StoreFault} (Err Memory) (Err Damaged)) → A
memory_no_damage is = absurd (memory_alone.1 (same_error is))

pub memory_no_spent : {T A : Type 0} → (◌≡◌ {A = Result T StoreFault} (Err Memory) (Err Spent)) → A
memory_no_spent is = absurd (memory_alone.2 (same_error is))

-- a call that only reads is never refused for want of room
pub never_full : {T : Type 0} (result : Result T StoreFault) → IfErr result IsReadFault → result ≡ Err Full → ⊥
never_full result cause is = subst (λ r. IfErr r IsReadFault) is cause

pub memory_reads : {T : Type 0} (result : Result T StoreFault) → IsOkUnless result Memory → IfErr result IsReadFault
memory_reads (Ok x) only = tt
memory_reads (Err fault) only = memory_is_read fault only

pub memory_writes : {T : Type 0} (result : Result T StoreFault) → IsOkUnless result Memory → IfErr result IsWriteFault
memory_writes (Ok x) only = tt
memory_writes (Err fault) only = memory_is_write fault only

-- its reasons are among those of a call that changes pages
pub reads_write : {T : Type 0} (result : Result T StoreFault) → IfErr result IsReadFault → IfErr result IsWriteFault
reads_write (Ok x) cause = tt
reads_write (Err fault) cause = read_is_write fault cause

-- one that changes pages is never refused for the volume's mark
pub never_old : {T : Type 0} (result : Result T StoreFault) → IfErr result IsWriteFault → result ≡ Err Old → ⊥
never_old result cause is = subst (λ r. IfErr r IsWriteFault) is cause

-- its reasons are among those of the call that makes a file
pub write_is_create : (fault : StoreFault) → IsWriteFault fault → IsCreateFault fault
write_is_create Device why = tt
write_is_create Full why = tt
write_is_create Damaged why = tt
write_is_create Memory why = tt
write_is_create Spent why = tt
write_is_create Layout why = why
write_is_create Old why = tt

pub writes_create : {T : Type 0} (result : Result T StoreFault) → IfErr result IsWriteFault
    → IfErr result IsCreateFault
writes_create (Ok x) cause = tt
writes_create (Err fault) cause = write_is_create fault cause
