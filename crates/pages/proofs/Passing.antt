-- What is known after a refusal that `?` passes on.
use Rattle.std.proofs.Common.{◌≡◌, ◌⊎◌, ⊎_elim, inl, inr, Bool, true, false, ℕ, refl, sym, subst, ap, ◌∙◌}
use Rattle.std.specs.Prelude.{◌↔◌, Option, Some, None, Result, Ok, Err, IfOk, OnOk, OnErr, IsOkUnless}
use Rattle.std.proofs.lemmas.Bool.{false≢true}
use Rattle.std.specs.Result.{IsErrAnd}
use Rattle.station.specs.Calls.{OnlyReads}
use Rattle.station.specs.Failures.{Blames}
use Rattle.station.specs.declared.device.Device.{Ghosts as Devices}
use Rattle.station.proofs.Calls.{reads_nothing}
use Rattle.roots.specs.declared.error.RootsError.{RootsError}
use Rattle.roots.specs.declared.error.RootsError.TheVariants as roots
use Rattle.roots.specs.declared.pair.RootsFault.TheVariants as fault
use Rattle.pages.specs.Errors.{of_roots, IsEditRefusal}
use Rattle.pages.specs.declared.error.PagesError.{PagesError}
use Rattle.pages.specs.declared.error.PagesError.TheVariants.{Device, Full, Damaged, Memory, Spent, ForeignMark}

-- what holds of an error holds of the result with which `?` passes it on
pub passed : {T E : Type 0} (r : Result T E) (x : E) → IsErrAnd r (λ e. e ≡ x) → (P : Result T E → Type 0) → P (Err x)
    → P r
passed (Ok y) x is P holds = absurd is
passed (Err y) x is P holds = subst (λ e. P (Err e)) (sym is) holds

-- a result is one thing
pub never_ok : {T E A : Type 0} {x : T} {e : E} → (◌≡◌ {A = Result T E} (Ok x) (Err e)) → A
never_ok is = cc

same_error : {T E : Type 0} {x y : E} → (◌≡◌ {A = Result T E} (Err x) (Err y)) → x ≡ y
same_error is = cc

-- so is it of a call with another answer
pub still_error : {T U E : Type 0} {x y : E} → (◌≡◌ {A = Result T E} (Err x) (Err y))
    → (◌≡◌ {A = Result U E} (Err x) (Err y))
still_error is = ap Err (same_error is)

memory_or_device : Memory ≡ Device → ⊥
memory_or_device is = cc

pub memory_not_device : {T A : Type 0} → (◌≡◌ {A = Result T PagesError} (Err Memory) (Err Device)) → A
memory_not_device is = absurd (memory_or_device (same_error is))

-- to blame where another fact says so
pub blames_where : (A B : Type 0) (old new : ℕ) → (B → A) → Blames A old new → Blames B old new
blames_where A B old new from blames =
    record { no_fewer = blames.no_fewer; failed = λ blamed. blames.failed (from blamed) }

-- nor has a refusal that is passed on a value
pub never_err : {T E A : Type 0} {x : T} {e : E} → (◌≡◌ {A = Result T E} (Err e) (Ok x)) → A
never_err is = cc

pub if_refused : {T E : Type 0} (r : Result T E) (x : E) → IsErrAnd r (λ e. e ≡ x) → (P : T → Type 0) → IfOk r P
if_refused r x is P = passed r x is (λ q. IfOk q P) tt

pub on_refused : {T E : Type 0} (r : Result T E) (x : E) → IsErrAnd r (λ e. e ≡ x) → (A : Type 0) → OnOk r A
on_refused r x is A = passed r x is (λ q. OnOk q A) tt

pub refused_never : {T E A : Type 0} (r : Result T E) (x : E) (y : T) → IsErrAnd r (λ e. e ≡ x) → r ≡ Ok y → A
refused_never {A = A} r x y is same = passed r x is (λ q. q ≡ Ok y → A) (λ s. never_err s) same

pub ok_is : {T E : Type 0} {x y : T} → (◌≡◌ {A = Result T E} (Ok x) (Ok y)) → x ≡ y
ok_is is = cc

pub some_not_none : {T E A : Type 0} {x : T} → (◌≡◌ {A = Result (Option T) E} (Ok (Some x)) (Ok None)) → A
some_not_none is = cc

pub true_not_false : {E A : Type 0} → (◌≡◌ {A = Result Bool E} (Ok true) (Ok false)) → A
true_not_false is = cc

-- what holds anyway holds after a refusal
pub on_err : {T E A : Type 0} (r : Result T E) → A → OnErr r A
on_err (Ok x) a = tt
on_err (Err e) a = a

spent_or_device : Spent ≡ Device → ⊥
spent_or_device is = cc

full_or_spent : Full ≡ Spent → ⊥
full_or_spent is = cc

memory_or_spent : Memory ≡ Spent → ⊥
memory_or_spent is = cc

memory_or_full : Memory ≡ Full → ⊥
memory_or_full is = cc

device_or_spent : Device ≡ Spent → ⊥
device_or_spent is = cc

spent_or_full : Spent ≡ Full → ⊥
spent_or_full is = cc

device_or_full : Device ≡ Full → ⊥
device_or_full is = cc

full_or_device : Full ≡ Device → ⊥
full_or_device is = cc

pub device_not_full : {T A : Type 0} → (◌≡◌ {A = Result T PagesError} (Err Device) (Err Full)) → A
device_not_full is = absurd (device_or_full (same_error is))

pub spent_not_full : {T A : Type 0} → (◌≡◌ {A = Result T PagesError} (Err Spent) (Err Full)) → A
spent_not_full is = absurd (spent_or_full (same_error is))

damaged_or_device : Damaged ≡ Device → ⊥
damaged_or_device is = cc

foreign_or_device : ForeignMark ≡ Device → ⊥
foreign_or_device is = cc

pub damaged_not_device : {T A : Type 0} → (◌≡◌ {A = Result T PagesError} (Err Damaged) (Err Device)) → A
damaged_not_device is = absurd (damaged_or_device (same_error is))

-- an error of the roots is the device's exactly where it becomes the device's
pub roots_device : {T U : Type 0} (e : RootsError) → (◌≡◌ {A = Result T PagesError} (Err (of_roots e)) (Err Device))
    → (◌≡◌ {A = Result U RootsError} (Err e) (Err roots.Device))
roots_device roots.Device is = refl
roots_device (roots.Roots fault.Damaged) is = absurd (damaged_or_device (same_error is))
roots_device (roots.Roots fault.ForeignMark) is = absurd (foreign_or_device (same_error is))

pub spent_not_device : {T A : Type 0} → (◌≡◌ {A = Result T PagesError} (Err Spent) (Err Device)) → A
spent_not_device is = absurd (spent_or_device (same_error is))

pub memory_not_spent : {T A : Type 0} → (◌≡◌ {A = Result T PagesError} (Err Memory) (Err Spent)) → A
memory_not_spent is = absurd (memory_or_spent (same_error is))

pub memory_not_full : {T A : Type 0} → (◌≡◌ {A = Result T PagesError} (Err Memory) (Err Full)) → A
memory_not_full is = absurd (memory_or_full (same_error is))

-- an edit is not refused for a page number
pub edit_not_full : {T A : Type 0} (e : PagesError) → (e ≡ Memory) ⊎ (e ≡ Spent)
    → (◌≡◌ {A = Result T PagesError} (Err e) (Err Full)) → A
edit_not_full e why is = ⊎_elim (λ memory. absurd (memory_or_full (sym memory ∙ same_error is)))
    (λ spent. absurd (spent_or_full (sym spent ∙ same_error is))) why

-- why a call is refused is a reason for its caller's refusal
pub found_is_allocate : {T : Type 0} (e : PagesError)
    → (◌≡◌ {A = Result T PagesError} (Err e) (Err Full)) ⊎ (◌≡◌ {A = Result T PagesError} (Err e) (Err Spent))
    → (e ≡ Full) ⊎ ((e ≡ Memory) ⊎ (e ≡ Spent))
found_is_allocate e why = ⊎_elim (λ full. inl (same_error full)) (λ spent. inr (inr (same_error spent))) why

pub commit_is_refusal : (e : PagesError) → (e ≡ Device) ⊎ ((e ≡ Full) ⊎ (e ≡ Memory))
    → (e ≡ Device) ⊎ ((e ≡ Full) ⊎ ((e ≡ Memory) ⊎ (e ≡ Spent)))
commit_is_refusal e why = ⊎_elim (λ device. inl device)
    (λ more. ⊎_elim (λ full. inr (inl full)) (λ memory. inr (inr (inl memory))) more) why

pub commit_not_spent : {T A : Type 0} (e : PagesError) → (e ≡ Device) ⊎ ((e ≡ Full) ⊎ (e ≡ Memory))
    → (◌≡◌ {A = Result T PagesError} (Err e) (Err Spent)) → A
commit_not_spent e why is = ⊎_elim (λ device. absurd (device_or_spent (sym device ∙ same_error is)))
    (λ more. ⊎_elim (λ full. absurd (full_or_spent (sym full ∙ same_error is)))
    (λ memory. absurd (memory_or_spent (sym memory ∙ same_error is))) more) why

pub plan_not_device : {T A : Type 0} (e : PagesError) → (e ≡ Full) ⊎ (e ≡ Memory)
    → (◌≡◌ {A = Result T PagesError} (Err e) (Err Device)) → A
plan_not_device e why is = ⊎_elim (λ full. absurd (full_or_device (sym full ∙ same_error is)))
    (λ memory. absurd (memory_or_device (sym memory ∙ same_error is))) why

pub plan_for_room : {T : Type 0} (e : PagesError) → (e ≡ Full) ⊎ (e ≡ Memory)
    → (◌≡◌ {A = Result T PagesError} (Err e) (Err Full)) ⊎ (◌≡◌ {A = Result T PagesError} (Err e) (Err Memory))
plan_for_room e why = ⊎_elim (λ full. inl (ap Err full)) (λ memory. inr (ap Err memory)) why

pub memory_is_edit : {T : Type 0} (r : Result T PagesError) → IsOkUnless r Memory → IsEditRefusal r
memory_is_edit (Ok x) why = tt
memory_is_edit (Err e) why = inl why

pub memory_alone : {T A : Type 0} (r : Result T PagesError) → IsOkUnless r Memory → r ≡ Err Spent → A
memory_alone (Ok x) why is = never_ok is
memory_alone (Err e) why is = absurd (memory_or_spent (sym why ∙ same_error is))

pub device_is_read : {T : Type 0} (r : Result T PagesError) → OnErr r (r ≡ Err Device)
    → OnErr r ((r ≡ Err Device) ⊎ (r ≡ Err Spent))
device_is_read (Ok x) why = tt
device_is_read (Err e) why = inl why

-- a value that is not spent is not
pub never_spent : {A : Type 0} (spent : Bool) → spent ≡ false → spent ≡ true → A
never_spent spent unspent was = absurd (false≢true (sym unspent ∙ was))

-- a call that the device alone refuses is not refused since the value is spent
pub device_alone : {T A : Type 0} (r : Result T PagesError) → OnErr r (r ≡ Err Device) → r ≡ Err Spent → A
device_alone (Ok x) why is = never_ok is
device_alone (Err e) why is = absurd (device_or_spent (same_error (sym why ∙ is)))

-- Only reading, when what is to blame changes.
module _ {D : Type 0} (device : Devices D) where
  pub reads_where : (A B : Type 0) (a b : D) → (B → A) → OnlyReads device A a b → OnlyReads device B a b
  reads_where A B a b from only = record {
    honest = only.honest;
    sectors = only.sectors;
    failures = blames_where A B (device.failures a) (device.failures b) from only.failures;
    state = only.state;
    history = only.history;
  }

  -- no call
  pub reads_never : (B : Type 0) (a : D) → (B → ⊥) → OnlyReads device B a a
  reads_never B a never = reads_where ⊥ B a a never (reads_nothing device a)

  -- a refusal that is passed on
  pub reads_passed : {T U : Type 0} (r : Result U PagesError) (x : PagesError) (a b : D) → IsErrAnd r (λ e. e ≡ x)
      → OnlyReads device (◌≡◌ {A = Result T PagesError} (Err x) (Err Device)) a b
      → OnlyReads device (r ≡ Err Device) a b
  reads_passed r x a b told only = passed r x told (λ q. OnlyReads device (q ≡ Err Device) a b)
      (reads_where _ _ a b (λ is. still_error is) only)

  -- a read of a sector
  pub reads_sector : (A B : Type 0) (a b : D) → (device.is_honest a ↔ device.is_honest b)
      → device.sectors b ≡ device.sectors a → Blames A (device.failures a) (device.failures b) → (B → A)
      → (device.is_honest a → device.state b ≡ device.state a)
      → (device.is_honest a → device.history b ≡ device.history a) → OnlyReads device B a b
  reads_sector A B a b honest sectors failures from state history = record {
    honest = honest;
    sectors = sectors;
    failures = blames_where A B (device.failures a) (device.failures b) from failures;
    state = state;
    history = history;
  }
