-- What receivers keep of numbers.
use Rattle.std.proofs.Common.{◌≡◌, ℕ, ◌+◌, ◌<◌, List, length, Option, Some, None, refl, sym, ◌∙◌, ap}
use Rattle.std.specs.Prelude.{slice_index_or, slice_set, slice_range, unsigned_abs, ◌^◌, Bool, true, false, not, ◌||◌}
use Rattle.std.specs.Prelude.{if◌then◌else◌, Result, Ok, Err}
use Rattle.std.specs.declared.vec.Vec.{Vec}
use Rattle.decimal18.specs.Fraction.{Fraction, is_negative, absolute}
use Rattle.decimal18.specs.Receiver.{fitted_decimal}
use Rattle.decimal18.specs.declared.size_error.Size.{Size}
use Rattle.decimal18.specs.declared.receiver.Rounding.{Rounding}
use Rattle.items.specs.declared.fault.DataFault.{DataFault}
use Rattle.items.specs.declared.numeric.Numeric.{Numeric}
use Rattle.items.specs.Numbers.{CanHold, is_signed}
use Rattle.source_tree.specs.Storage.{Storage, with_bytes}
use Rattle.source_tree.specs.Evaluated.{◌>>=◌, evaluation_of}
use Rattle.source_tree.specs.References.{ItemPlace, storage_with}
use Rattle.source_tree.specs.Computed.{ArithmeticValue}
use Rattle.source_tree.specs.Arithmetic.{NumberReceiver, StoreResult, held_by, receiver_of, rounding_of, storing_fitted}
use Rattle.source_tree.specs.Arithmetic.{storing_computed, store}
use Rattle.data_instructions.specs.declared.tables.DataItem.{DataItem}
use Rattle.data_instructions.specs.Tables.{item_place}
use Rattle.data_machine.specs.Areas.{storage_of}
use Rattle.data_machine.specs.Writing.{with_part}
use Rattle.data_machine.specs.KeptNumbers.{kept_fitted, kept_by, after_kept, StoresIn, StoresNumber}
use Rattle.data_machine.proofs.AreaBytes.{area_set, area_same}

-- the item can hold the number, without its sign where it has none
held_if : (n : Numeric) (x : Fraction) (b : Bool) → is_signed n ≡ b → x.scale ≡ n.scale
    → unsigned_abs x.coefficient < 10 ^ n.digits → CanHold n (if b then x else absolute x)
held_if n x true s scale digits =
    record { scale = scale; digits = digits; sign = ap (λ b. b || not (is_negative x.coefficient)) s }
held_if n x false s scale digits = record { scale = scale; digits = digits; sign = ap (λ b. b || true) s }

pub is_held : (n : Numeric) (x : Fraction) → x.scale ≡ n.scale → unsigned_abs x.coefficient < 10 ^ n.digits
    → CanHold n (held_by n x)
is_held n x scale digits = held_if n x (is_signed n) refl scale digits

-- what a store does in one area, it does in its bytes there
pub in_part : (n : Option Fraction) (area part : List ℕ) (offset size : ℕ) (bytes : Fraction → List ℕ)
    → part ≡ after_kept n bytes (slice_range area offset (offset + size))
    → with_part area offset size (slice_range area offset (offset + size)) ≡ area
    → with_part area offset size part ≡ after_kept n (λ x. with_part area offset size (bytes x)) area
in_part None area part offset size bytes is same = ap (with_part area offset size) is ∙ same
in_part (Some x) area part offset size bytes is same = ap (with_part area offset size) is

-- storage after it
after_area : {A : Type 0} (n : Option Fraction) (vs : List (Vec ℕ A)) (now : Storage) (area offset size : ℕ)
    (bytes : Fraction → List ℕ) (v w : Vec ℕ A)
    → storage_of vs ≡ now → area < length vs → v ≡ slice_index_or vs area v
    → w.items ≡ after_kept n (λ x. with_part v.items offset size (bytes x)) v.items
    → storage_of (slice_set vs area w) ≡ after_kept n (λ x. with_bytes now area offset size (bytes x)) now
after_area None vs now area offset size bytes v w is within here written =
    area_same vs now area v w is within here written
after_area (Some x) vs now area offset size bytes v w is within here written =
    area_set vs now area offset size v w (bytes x) is within here written

module _ (place : ItemPlace) (to : NumberReceiver) (rounding : Rounding) (storage : Storage) (truth : Bool) where
  abbrev before : StoreResult
  before = record { storage = storage; size_error = truth }

  storing_by_fit : (keep : Bool) (x : Fraction) (fit : Result Fraction Size)
      → storing_fitted keep rounding place to x fit before
      ≡ record {
        storage = after_kept (kept_fitted keep rounding to.digits to.scale x fit).number
            (λ y. storage_with place (to.bytes y) storage) storage;
        size_error = if (kept_fitted keep rounding to.digits to.scale x fit).size_error then true else truth;
      }
  storing_by_fit keep x (Ok fits) = refl
  storing_by_fit true x (Err size) = refl
  storing_by_fit false x (Err size) = refl

  pub storing_kept : (keep : Bool) (x : ArithmeticValue)
      → storing_computed keep rounding place to x before
      ≡ record {
        storage = after_kept (kept_by keep rounding to x).number (λ y. storage_with place (to.bytes y) storage) storage;
        size_error = if (kept_by keep rounding to x).size_error then true else truth;
      }
  storing_kept keep None = refl
  storing_kept keep (Some x) = storing_by_fit keep x (fitted_decimal x to.digits to.scale rounding)

-- what a store in a part of an area is to storage
pub number_stores : {A : Type 0} (done : Result Bool DataFault) (vs : List (Vec ℕ A)) (now : Storage) (one : DataItem)
    (offset : ℕ) (keep rounded : Bool) (x : ArithmeticValue) (v w : Vec ℕ A) (new : List ℕ)
    → storage_of vs ≡ now → one.area < length vs → v ≡ slice_index_or vs one.area v → w.items ≡ new
    → StoresIn keep (rounding_of rounded) x (receiver_of one.item.kind one.editing)
    (λ to y. with_part v.items offset one.item.length (to.bytes y)) done v.items new
    → StoresNumber done now (storage_of (slice_set vs one.area w)) (store keep rounded (item_place one offset) x)
number_stores (Ok size) vs now one offset keep rounded x v w new is within here written does = λ truth.
    let to = does.0 in
    let kept = kept_by keep (rounding_of rounded) to x in
    let storage =
    after_area kept.number vs now one.area offset one.item.length to.bytes v w is within here (written ∙ does.2) in
    ap (λ answer. evaluation_of answer >>= (λ to. Ok (storing_computed keep (rounding_of rounded)
    (item_place one offset) to x (record { storage = now; size_error = truth })))) does.1
    ∙ ap Ok (storing_kept (item_place one offset) to (rounding_of rounded) now truth keep x)
    ∙ ap (λ (s : Storage). Ok (record { storage = s; size_error = if kept.size_error then true else truth }))
    (sym storage)
    ∙ ap (λ (b : Bool).
    Ok (record { storage = storage_of (slice_set vs one.area w); size_error = if b then true else truth })) (sym does.3)
number_stores (Err fault) vs now one offset keep rounded x v w new is within here written does = (
  λ truth. ap (λ answer. evaluation_of answer >>= (λ to. Ok (storing_computed keep (rounding_of rounded)
      (item_place one offset) to x (record { storage = now; size_error = truth })))) does.0,
  area_same vs now one.area v w is within here (written ∙ does.1),
)
