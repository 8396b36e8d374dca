-- The root sectors of a device are read.
use Rattle.std.proofs.Common.{◌≡◌, ◌↔◌, ℕ, List, length, sym, ◌∙◌, ap, subst}
use Rattle.std.specs.Prelude.{Result, Ok, Err, IfOk}
use Rattle.std.specs.Result.{IsErrAnd}
use Rattle.station.specs.Calls.{OnlyReads}
use Rattle.station.specs.Disk.{Sector, sector_at}
use Rattle.station.specs.Failures.{Blames}
use Rattle.station.specs.declared.device.Device.{Ghosts as Devices}
use Rattle.station.proofs.Calls.{reads_nothing}
use Rattle.answers.specs.Answer.{Fails, Gives}
use Rattle.roots.specs.declared.root.RootSector.{RootSector}
use Rattle.roots.specs.declared.pair.Roots.{Roots}
use Rattle.roots.specs.declared.pair.RootsFault.{RootsFault}
use Rattle.roots.specs.declared.error.RootsError.{RootsError}
use Rattle.roots.specs.declared.error.RootsError.TheVariants as error
use Rattle.roots.specs.Root.{Family, root_in}
use Rattle.roots.specs.Pair.{newest_root}
use Rattle.roots.specs.Reading.{roots_in, fault_of}

-- a refusal is passed on with its error
pub refused : {T E : Type 0} (r : Result T E) (e : E) → IsErrAnd r (λ x. x ≡ e) → (P : Result T E → Type 0) → P (Err e)
    → P r
refused (Ok y) e is P holds = absurd is
refused (Err y) e is P holds = subst (λ x. P (Err x)) (sym is) holds

-- and has no value
pub no_value : {T E : Type 0} (r : Result T E) (e : E) → IsErrAnd r (λ x. x ≡ e) → (P : T → Type 0) → IfOk r P
no_value r e is P = refused r e is (λ q. IfOk q P) tt

one_error : {T E : Type 0} {x y : E} → (◌≡◌ {A = Result T E} (Err x) (Err y)) → x ≡ y
one_error is = cc

pub another_call : {T U E : Type 0} {x y : E} → (◌≡◌ {A = Result T E} (Err x) (Err y))
    → (◌≡◌ {A = Result U E} (Err x) (Err y))
another_call is = ap Err (one_error is)

pub ok_not_err : {T E A : Type 0} {x : T} {e : E} → (◌≡◌ {A = Result T E} (Ok x) (Err e)) → A
ok_not_err is = cc

fault_or_device : (fault : RootsFault) → error.Roots fault ≡ error.Device → ⊥
fault_or_device fault is = cc

pub fault_not_device : {T A : Type 0} {fault : RootsFault}
    → (◌≡◌ {A = Result T RootsError} (Err (error.Roots fault)) (Err error.Device)) → A
fault_not_device {fault = fault} is = absurd (fault_or_device fault (one_error is))

-- the device tells nothing of the image
pub device_gives : (r : Result Roots RootsError) (e : RootsError) (says : Result Roots RootsFault)
    → IsErrAnd r (λ x. x ≡ e) → e ≡ error.Device → Gives (λ roots. roots) fault_of r says
device_gives r e says is device = refused r e is (λ q. Gives (λ roots. roots) fault_of q says)
    (subst (λ x. Fails (fault_of x) says) (sym device) tt)

-- the two sectors that were read are those of the image
pub roots_read : (known : List Family) (image : List Sector) (count : ℕ) (first second : RootSector)
    → length image ≡ count → first ≡ root_in known count 0 (sector_at image 0)
    → second ≡ root_in known count 1 (sector_at image 1) → newest_root first second ≡ roots_in known image
roots_read known image count first second all one two =
    ap (λ root. newest_root root second) one ∙ ap (newest_root (root_in known count 0 (sector_at image 0))) two
    ∙ ap (λ n. newest_root (root_in known n 0 (sector_at image 0)) (root_in known n 1 (sector_at image 1))) (sym all)

module _ {D : Type 0} (device : Devices D) where
  -- to blame where another fact says so
  pub only_where : (A B : Type 0) (a b : D) → (B → A) → OnlyReads device A a b → OnlyReads device B a b
  only_where A B a b from only = record {
    honest = only.honest;
    sectors = only.sectors;
    failures = record { no_fewer = only.failures.no_fewer; failed = λ blamed. only.failures.failed (from blamed) };
    state = only.state;
    history = only.history;
  }

  pub only_none : (B : Type 0) (a : D) → (B → ⊥) → OnlyReads device B a a
  only_none B a never = only_where ⊥ B a a never (reads_nothing device a)

  -- a sector is read
  pub only_read : (A B : Type 0) (a b : D) → (device.is_honest a ↔ device.is_honest b)
      → device.sectors b ≡ device.sectors a → Blames A (device.failures a) (device.failures b) → (B → A)
      → (device.is_honest a → device.state b ≡ device.state a)
      → (device.is_honest a → device.history b ≡ device.history a) → OnlyReads device B a b
  only_read A B a b honest sectors failures from state history = record {
    honest = honest;
    sectors = sectors;
    failures = record { no_fewer = failures.no_fewer; failed = λ blamed. failures.failed (from blamed) };
    state = state;
    history = history;
  }
