-- Areas as lists of bytes.
use Rattle.std.proofs.Common.{◌≡◌, ℕ, zero, suc, ◌+◌, ◌<◌, length, List, [], ◌∷◌, ◌++◌, map, refl, sym, ◌∙◌, ap, arith}
use Rattle.std.proofs.Common.{take}
use Rattle.std.specs.Prelude.{slice_index_or, slice_set, slice_range, Result, Ok, Err}
use Rattle.std.specs.declared.vec.Vec.{Vec}
use Rattle.std.proofs.lemmas.List.{map-set}
use Rattle.std.proofs.Math.Seq.{take-append-add}
use Rattle.items.specs.declared.fault.DataFault.{DataFault}
use Rattle.source_tree.specs.Storage.{Storage, with_bytes}
use Rattle.source_tree.specs.Literals.{Sender}
use Rattle.source_tree.specs.Evaluated.{◌>>=◌, evaluation_of}
use Rattle.source_tree.specs.References.{part_of, storage_with}
use Rattle.source_tree.specs.Moving.{moved_by, move_to}
use Rattle.data_instructions.specs.declared.tables.DataItem.{DataItem}
use Rattle.data_instructions.specs.Tables.{item_place}
use Rattle.data_machine.specs.Areas.{storage_of}
use Rattle.data_machine.specs.Writing.{with_part, WritesPart, Stores}

pub area_read : {A : Type 0} (vs : List (Vec ℕ A)) (i : ℕ) (d : Vec ℕ A) → i < length vs
    → slice_index_or (storage_of vs) i [] ≡ (slice_index_or vs i d).items
area_read [] i d within = absurd (omega arith)
area_read (v ∷ vs) zero d within = refl
area_read (v ∷ vs) (suc i) d within = area_read vs i d (omega arith)

pub as_many : {A : Type 0} (vs : List (Vec ℕ A)) (now : Storage) → storage_of vs ≡ now → length now ≡ length vs
as_many vs now is = sym (ap length is) ∙ mapped vs
  where
    mapped : {A : Type 0} (vs : List (Vec ℕ A)) → length (storage_of vs) ≡ length vs
    mapped [] = refl
    mapped (v ∷ vs) = ap suc (mapped vs)

pub seam : (n : ℕ) (xs ys : List ℕ) → length xs ≡ n → take n (xs ++ ys) ≡ xs
seam n xs ys is = ap (λ k. take k (xs ++ ys)) (sym is) ∙ front xs ys
  where
    front : (xs ys : List ℕ) → take (length xs) (xs ++ ys) ≡ xs
    front [] ys = refl
    front (x ∷ xs) ys = ap (λ zs. x ∷ zs) (front xs ys)

-- an area with other bytes in one part
pub area_set : {A : Type 0} (vs : List (Vec ℕ A)) (now : Storage) (area offset size : ℕ) (v w : Vec ℕ A) (part : List ℕ)
    → storage_of vs ≡ now → area < length vs → v ≡ slice_index_or vs area v
    → w.items ≡ with_part v.items offset size part
    → storage_of (slice_set vs area w) ≡ with_bytes now area offset size part
area_set vs now area offset size v w part is within here new =
    map-set (λ v. v.items) vs area w
    ∙ ap (slice_set (storage_of vs) area)
    (new ∙ ap (λ old. with_part old offset size part) (ap (λ x. x.items) here ∙ sym (area_read vs area v within)))
    ∙ ap (λ s. with_bytes s area offset size part) is

-- a part of bytes that are the same
pub part_as : (now old same : List ℕ) (offset m n : ℕ) (part : List ℕ) → now ≡ with_part old offset m part
    → old ≡ same → n ≡ m → now ≡ with_part same offset n part
part_as now old same offset m n part is e size =
    is ∙ ap (λ v. with_part v offset m part) e ∙ ap (λ k. with_part same offset k part) (sym size)

set_same : (xs : Storage) (i : ℕ) → slice_set xs i (slice_index_or xs i []) ≡ xs
set_same [] i = refl
set_same (x ∷ xs) zero = refl
set_same (x ∷ xs) (suc i) = ap (λ ys. x ∷ ys) (set_same xs i)

pub area_same : {A : Type 0} (vs : List (Vec ℕ A)) (now : Storage) (area : ℕ) (v w : Vec ℕ A) → storage_of vs ≡ now
    → area < length vs → v ≡ slice_index_or vs area v → w.items ≡ v.items
    → storage_of (slice_set vs area w) ≡ now
area_same vs now area v w is within here same =
    map-set (λ v. v.items) vs area w
    ∙ ap (slice_set (storage_of vs) area) (same ∙ ap (λ x. x.items) here ∙ sym (area_read vs area v within))
    ∙ set_same (storage_of vs) area ∙ is

set_lengths : (xs : Storage) (i : ℕ) (ys : List ℕ) → length ys ≡ length (slice_index_or xs i [])
    → map length (slice_set xs i ys) ≡ map length xs
set_lengths [] i ys e = refl
set_lengths (x ∷ xs) zero ys e = ap (λ n. n ∷ map length xs) e
set_lengths (x ∷ xs) (suc i) ys e = ap (λ ns. length x ∷ ns) (set_lengths xs i ys e)

-- an area keeps its length
pub area_lengths : {A : Type 0} (vs : List (Vec ℕ A)) (now : Storage) (area : ℕ) (v w : Vec ℕ A) → storage_of vs ≡ now
    → area < length vs → v ≡ slice_index_or vs area v → length w.items ≡ length v.items
    → map length (storage_of (slice_set vs area w)) ≡ map length now
area_lengths vs now area v w is within here same =
    ap (map length) (map-set (λ v. v.items) vs area w)
    ∙ set_lengths (storage_of vs) area w.items
    (same ∙ ap length (ap (λ x. x.items) here ∙ sym (area_read vs area v within)))
    ∙ ap (map length) is

-- the bytes of an item in its area
pub part_read : {A : Type 0} (vs : List (Vec ℕ A)) (now : Storage) (one : DataItem) (offset : ℕ) (v : Vec ℕ A)
    → storage_of vs ≡ now → one.area < length vs → v ≡ slice_index_or vs one.area v
    → slice_range v.items offset (offset + one.item.length) ≡ part_of now (item_place one offset)
part_read vs now one offset v is within here =
    ap (λ (bytes : List ℕ). slice_range bytes offset (offset + one.item.length))
    (ap (λ x. x.items) here ∙ sym (area_read vs one.area v within)
    ∙ ap (λ (s : Storage). slice_index_or s one.area []) is)

-- what a change of them is to storage
pub part_set : {A : Type 0} (vs : List (Vec ℕ A)) (now : Storage) (one : DataItem) (offset : ℕ) (v w : Vec ℕ A)
    (change : List ℕ → List ℕ) → storage_of vs ≡ now → one.area < length vs → v ≡ slice_index_or vs one.area v
    → w.items
    ≡ with_part v.items offset one.item.length (change (slice_range v.items offset (offset + one.item.length)))
    → storage_of (slice_set vs one.area w)
    ≡ storage_with (item_place one offset) (change (part_of now (item_place one offset))) now
part_set vs now one offset v w change is within here new =
    area_set vs now one.area offset one.item.length v w (change (slice_range v.items offset (offset + one.item.length)))
    is within here new
    ∙ ap (λ (bytes : List ℕ). storage_with (item_place one offset) (change bytes) now)
    (part_read vs now one offset v is within here)

-- what a move to a part of an area is to storage
pub move_stores : {A : Type 0} (done : Result (Unit {0}) DataFault) (vs : List (Vec ℕ A)) (now : Storage)
    (one : DataItem) (offset : ℕ) (sender : Sender) (v w : Vec ℕ A) (new : List ℕ)
    → storage_of vs ≡ now → one.area < length vs → v ≡ slice_index_or vs one.area v → w.items ≡ new
    → WritesPart done v.items new offset one.item.length (moved_by one.editing one.item sender)
    → Stores done now (storage_of (slice_set vs one.area w)) (move_to sender (item_place one offset) now)
move_stores (Ok x) vs now one offset sender v w new is within here written does =
    ap (λ answer. evaluation_of answer >>= (λ bytes. Ok (storage_with (item_place one offset) bytes now))) does.1
    ∙ ap Ok (sym (area_set vs now one.area offset one.item.length v w does.0 is within here (written ∙ does.2)))
move_stores (Err fault) vs now one offset sender v w new is within here written does = (
  ap (λ answer. evaluation_of answer >>= (λ bytes. Ok (storage_with (item_place one offset) bytes now))) does.0,
  area_same vs now one.area v w is within here (written ∙ does.1),
)

pub behind : (n k : ℕ) (xs ys : List ℕ) → length xs ≡ n → take (n + k) (xs ++ ys) ≡ xs ++ take k ys
behind n k xs ys is = ap (λ m. take (m + k) (xs ++ ys)) (sym is) ∙ take-append-add xs ys k
