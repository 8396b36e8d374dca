-- What receivers keep of numbers, and what becomes of bytes then.
use Rattle.std.specs.Prelude.{◌≡◌, ℕ, Bool, true, false, if◌then◌else◌, List, Option, Some, None, Result, Ok, Err}
use Rattle.decimal18.specs.Fraction.{Fraction}
use Rattle.decimal18.specs.Receiver.{fitted_decimal, low_digits}
use Rattle.decimal18.specs.declared.size_error.Size.{Size}
use Rattle.decimal18.specs.declared.receiver.Rounding.{Rounding}
use Rattle.items.specs.declared.fault.DataFault.{DataFault}
use Rattle.source_tree.specs.Storage.{Storage}
use Rattle.source_tree.specs.Evaluated.{Evaluation, Data}
use Rattle.source_tree.specs.Computed.{ArithmeticValue}
use Rattle.source_tree.specs.Arithmetic.{NumberReceiver, StoreResult}
use Rattle.data_machine.specs.declared.fitting.Fitted.{Fitted}

abbrev pub kept_fitted : Bool → Rounding → ℕ → ℕ → Fraction → Result Fraction Size → Fitted
kept_fitted keep rounding digits scale x (Ok fits) = record { number = Some fits; size_error = false }
kept_fitted true rounding digits scale x (Err size) = record { number = None; size_error = true }
kept_fitted false rounding digits scale x (Err size) = record { number = Some (low_digits x digits scale rounding); size_error = true }

abbrev pub kept_of : Bool → Rounding → ℕ → ℕ → ArithmeticValue → Fitted
kept_of keep rounding digits scale None = record { number = None; size_error = true }
kept_of keep rounding digits scale (Some x) = kept_fitted keep rounding digits scale x (fitted_decimal x digits scale rounding)

-- what there is after a number was put in its place, or nothing was
abbrev pub after_kept : {A : Type 0} → Option Fraction → (Fraction → A) → A → A
after_kept None put old = old
after_kept (Some x) put old = put x

abbrev pub kept_by : Bool → Rounding → NumberReceiver → ArithmeticValue → Fitted
kept_by keep rounding to x = kept_of keep rounding to.digits to.scale x

-- A store in a receiver, by what its number makes of the bytes; or there is no receiver, and nothing changed. It tells whether a size
-- error arose.
abbrev pub StoresIn : Bool → Rounding → ArithmeticValue → Option NumberReceiver → (NumberReceiver → Fraction → List ℕ) → Result Bool DataFault → List ℕ → List ℕ → Type 0
StoresIn keep rounding x receiver put (Ok size) old new =
    (to : NumberReceiver) × (receiver ≡ Some to) × (new ≡ after_kept (kept_by keep rounding to x).number (put to) old)
    × (size ≡ (kept_by keep rounding to x).size_error)
StoresIn keep rounding x receiver put (Err fault) old new = (receiver ≡ None) × (new ≡ old)

-- The same to storage, whatever size errors arose before.
abbrev pub StoresNumber : Result Bool DataFault → Storage → Storage → (StoreResult → Evaluation StoreResult) → Type 0
StoresNumber (Ok size) old new stores =
    (truth : Bool) → stores (record { storage = old; size_error = truth }) ≡ Ok (record { storage = new; size_error = if size then true else truth })
StoresNumber (Err fault) old new stores = ((truth : Bool) → stores (record { storage = old; size_error = truth }) ≡ Err Data) × (new ≡ old)
