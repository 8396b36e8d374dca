-- What is known of a refusal that is passed on.
use Rattle.std.proofs.Common.{◌≡◌, inl, inr, sym, ◌∙◌, ap, subst}
use Rattle.std.specs.Prelude.{Result, Ok, Err, IfOk, OnOk}
use Rattle.std.specs.Result.{IsErrAnd}
use Rattle.station.specs.Calls.{OnlyReads}
use Rattle.station.specs.declared.device.Device.{Ghosts as Devices}
use Rattle.records.specs.declared.fault.StoreFault.{StoreFault}
use Rattle.records.specs.declared.fault.StoreFault.TheVariants.{Device, Full, Damaged, Memory}
use Rattle.half_store.specs.Changing.{IsMemoryCause}
use Rattle.half_store.specs.Write.{IsCause}

-- what holds of an error holds of the result with which `?` passes it on
pub passed : {T E : Type 0} (r : Result T E) (x : E) → IsErrAnd r (λ e. e ≡ x) → (P : Result T E → Type 0) → P (Err x)
    → P r
passed (Ok y) x is P holds = absurd is
passed (Err y) x is P holds = subst (λ e. P (Err e)) (sym is) holds

-- it has no value
pub if_refused : {T E : Type 0} (r : Result T E) (x : E) → IsErrAnd r (λ e. e ≡ x) → (P : T → Type 0) → IfOk r P
if_refused r x is P = passed r x is (λ r. IfOk r P) tt

pub on_refused : {T E : Type 0} (r : Result T E) (x : E) → IsErrAnd r (λ e. e ≡ x) → (A : Type 0) → OnOk r A
on_refused r x is A = passed r x is (λ r. OnOk r A) tt

-- a result is one thing
pub never_ok : {T E A : Type 0} {x : T} {e : E} → (◌≡◌ {A = Result T E} (Ok x) (Err e)) → A
never_ok is = cc

pub refused_never : {T E A : Type 0} (r : Result T E) (x : E) (y : T) → IsErrAnd r (λ e. e ≡ x) → r ≡ Ok y → A
refused_never {T} {E} {A} r x y is told = passed r x is (λ r. r ≡ Ok y → A) (λ s. never_ok (sym s)) told

pub same_error : {T E : Type 0} {x y : E} → (◌≡◌ {A = Result T E} (Err x) (Err y)) → x ≡ y
same_error is = cc

-- a call with another answer is refused for the same cause
pub still_error : {T U E : Type 0} {x y : E} → (◌≡◌ {A = Result T E} (Err x) (Err y))
    → (◌≡◌ {A = Result U E} (Err x) (Err y))
still_error is = ap Err (same_error is)

-- and a fault is one
memory_or : (Memory ≡ Device → ⊥) × (Memory ≡ Full → ⊥) × (Memory ≡ Damaged → ⊥)
memory_or = (λ is. cc, λ is. cc, λ is. cc)

pub memory_not_device : {T A : Type 0} → (◌≡◌ {A = Result T StoreFault} (Err Memory) (Err Device)) → A
memory_not_device is = absurd (memory_or.0 (same_error is))

pub memory_only : {T A : Type 0} (x : StoreFault) → x ≡ Memory → (◌≡◌ {A = Result T StoreFault} (Err x) (Err Device))
    → A
memory_only x why is = absurd (memory_or.0 (sym why ∙ same_error is))

pub memory_never_full : {T A : Type 0} (r : Result T StoreFault) (x : StoreFault) → IsErrAnd r (λ e. e ≡ x) → x ≡ Memory
    → r ≡ Err Full → A
memory_never_full {T} {A} r x is why = passed r x is (λ r. r ≡ Err Full → A)
    (λ e. absurd (memory_or.1 (sym why ∙ same_error e)))

pub memory_never_damaged : {T A : Type 0} (r : Result T StoreFault) (x : StoreFault) → IsErrAnd r (λ e. e ≡ x)
    → x ≡ Memory → r ≡ Err Damaged → A
memory_never_damaged {T} {A} r x is why = passed r x is (λ r. r ≡ Err Damaged → A)
    (λ e. absurd (memory_or.2 (sym why ∙ same_error e)))

-- as a write may be refused, and a change in memory
pub memory_cause : (x : StoreFault) → x ≡ Memory → IsCause x
memory_cause x why = inr (inr why)

pub memory_change : (x : StoreFault) → x ≡ Memory → IsMemoryCause x
memory_change x why = inr (inl why)

damaged_or : Damaged ≡ Device → ⊥
damaged_or is = cc

pub damaged_not_device : {T A : Type 0} → (◌≡◌ {A = Result T StoreFault} (Err Damaged) (Err Device)) → A
damaged_not_device is = absurd (damaged_or (same_error is))

-- only reading, when what is to blame changes
pub reads_where : {D : Type 0} (device : Devices D) (A B : Type 0) (a b : D) → (B → A) → OnlyReads device A a b
    → OnlyReads device B a b
reads_where device A B a b from only = record {
  honest = only.honest;
  sectors = only.sectors;
  failures = record { no_fewer = only.failures.no_fewer; failed = λ blamed. only.failures.failed (from blamed) };
  state = only.state;
  history = only.history;
}
