-- The place of a reference (ISO 1989:1985, Nucleus, "Subscripting", "Reference modification"). A subscript out of range is fault 91, and a
-- part that its item lacks is fault 93 (own choice).
use Rattle.std.specs.Prelude.{ℕ, zero, suc, ◌+◌, ◌-◌, ◌*◌, ℤ, pos, negsuc, ◌+ℤ◌, ◌-ℤ◌, nat_le, ◌≡◌, ◌≤◌, ◌&&◌, if◌then◌else◌, List, [], ◌∷◌, Option, Some, None, Ok, Err}
use Rattle.decimal18.specs.Fraction.{Fraction}
use Rattle.decimal18.specs.Digits.{integer_of}
use Rattle.picture.specs.declared.picture.Picture.{Picture}
use Rattle.items.specs.declared.item.Item.{Item}
use Rattle.items.specs.Items.{number_in}
use Rattle.source_tree.specs.declared.reference.Adjustment.{Adjustment}
use Rattle.source_tree.specs.declared.reference.Adjustment.TheVariants.{Nothing, Plus, Minus}
use Rattle.source_tree.specs.declared.reference.Subscript as written
use Rattle.source_tree.specs.declared.reference.Subscript.TheVariants as subscript
use Rattle.source_tree.specs.declared.reference.Part.{Part}
use Rattle.source_tree.specs.declared.reference.Reference.{Reference}
use Rattle.source_tree.specs.Integers.{number_of}
use Rattle.source_tree.specs.declared.table.Dimension.{Dimension}
use Rattle.source_tree.specs.Places.{LocatedItem}
use Rattle.source_tree.specs.Storage.{Storage, bytes_at, with_bytes}
use Rattle.source_tree.specs.Evaluated.{Subscript, Evaluation, ◌>>=◌, evaluation_of}
use Rattle.source_tree.specs.Evaluated as fault
use Rattle.source_tree.specs.LookUp.{items_named, first}
use Rattle.source_tree.specs.Parts.{part_item}

-- An item where a statement finds it: so many bytes after the start of its area.
pub record ItemPlace : Type 0 where
  pub item : Item
  -- the picture by which it is edited, if it is
  pub editing : Option Picture
  pub area : ℕ
  pub offset : ℕ

abbrev pub part_of : Storage → ItemPlace → List ℕ
part_of storage place = bytes_at storage place.area place.offset place.item.length

-- after these bytes were stored there
abbrev pub storage_with : ItemPlace → List ℕ → Storage → Storage
storage_with place bytes storage = with_bytes storage place.area place.offset place.item.length bytes

-- so many bytes after the first occurrence
abbrev pub place_after : LocatedItem → ℕ → ItemPlace
place_after one behind = record { item = one.item; editing = one.editing; area = one.area; offset = one.offset + behind }

-- The bytes before the occurrence that a subscript names. Occurrences count from 1.
abbrev pub occurrence_offset : Dimension → ℤ → Evaluation ℕ
occurrence_offset dimension (pos n) = if nat_le 1 n && nat_le n dimension.count then Ok ((n - 1) * dimension.stride) else Err Subscript
occurrence_offset dimension (negsuc n) = Err Subscript

abbrev pub adjusted_subscript : Adjustment → ℤ → ℤ
adjusted_subscript Nothing z = z
adjusted_subscript (Plus n) z = z +ℤ pos (number_of n)
adjusted_subscript (Minus n) z = z -ℤ pos (number_of n)

abbrev pub whole_part : Option Fraction → Option ℤ
whole_part None = None
whole_part (Some x) = integer_of x

-- the integer in an item that isn't subscripted itself
abbrev pub integer_in : Storage → LocatedItem → Evaluation ℤ
integer_in storage one = evaluation_of (whole_part (number_in one.item.kind (part_of storage (place_after one 0))))

abbrev pub subscript_value : List LocatedItem → written.Subscript → Storage → Evaluation ℤ
subscript_value items (subscript.Literal n) storage = Ok (pos (number_of n))
subscript_value items (subscript.Item item adjustment) storage =
    evaluation_of (first (items_named items item)) >>= (λ found. integer_in storage found >>= (λ z. Ok (adjusted_subscript adjustment z)))

-- Each subscript in turn, with its range.
abbrev pub bytes_before : List LocatedItem → List Dimension → List written.Subscript → Storage → Evaluation ℕ
bytes_before items [] subscripts storage = Ok 0
bytes_before items (one ∷ more) [] storage = Err Subscript
bytes_before items (one ∷ more) (written ∷ others) storage =
    subscript_value items written storage
    >>= (λ z. occurrence_offset one z >>= (λ here. bytes_before items more others storage >>= (λ rest. Ok (here + rest))))

-- the occurrence of an item that subscripts name
abbrev pub occurrence : List LocatedItem → List written.Subscript → LocatedItem → Storage → Evaluation ItemPlace
occurrence items subscripts one storage =
    bytes_before items one.dimensions subscripts storage >>= (λ behind. Ok (place_after one behind))

-- ---- parts

-- so many characters of an item, after so many others
abbrev pub part_after : ItemPlace → ℕ → ℕ → ItemPlace
part_after place before length = record { item = part_item place.item.kind length; editing = None; area = place.area; offset = place.offset + before }

-- A length is 1 or more, and no end is after the item's.
abbrev pub part_of_length : ItemPlace → ℕ → ℤ → Evaluation ItemPlace
part_of_length place before (pos length) =
    if nat_le 1 length && nat_le (before + length) place.item.length then Ok (part_after place before length) else Err fault.Part
part_of_length place before (negsuc n) = Err fault.Part

-- without a length, to the item's end
abbrev pub part_by : ItemPlace → ℕ → Option ℤ → Evaluation ItemPlace
part_by place before None = part_of_length place before (pos (place.item.length - before))
part_by place before (Some length) = part_of_length place before length

-- The first place counts from 1.
abbrev pub part_from : ItemPlace → ℤ → Option ℤ → Evaluation ItemPlace
part_from place (pos zero) length = Err fault.Part
part_from place (pos (suc before)) length = part_by place before length
part_from place (negsuc n) length = Err fault.Part

abbrev pub length_value : List LocatedItem → Option written.Subscript → Storage → Evaluation (Option ℤ)
length_value items None storage = Ok None
length_value items (Some length) storage = subscript_value items length storage >>= (λ z. Ok (Some z))

-- Both numbers are evaluated before either is compared with the item's size (own choice).
abbrev pub part_in : List LocatedItem → Option Part → Storage → ItemPlace → Evaluation ItemPlace
part_in items None storage place = Ok place
part_in items (Some part) storage place =
    subscript_value items part.first storage
    >>= (λ from. length_value items part.length storage >>= (λ length. part_from place from length))

-- the occurrence of an item that a reference names, and of it the part
abbrev pub referred_place : List LocatedItem → Reference → LocatedItem → Storage → Evaluation ItemPlace
referred_place items reference found storage =
    occurrence items reference.subscripts found storage >>= part_in items reference.part storage

-- of the whole item
abbrev pub whole_place_of : List LocatedItem → Reference → Storage → Evaluation ItemPlace
whole_place_of items reference storage =
    evaluation_of (first (items_named items reference.item)) >>= (λ found. occurrence items reference.subscripts found storage)

abbrev pub place_of : List LocatedItem → Reference → Storage → Evaluation ItemPlace
place_of items reference storage =
    evaluation_of (first (items_named items reference.item)) >>= (λ found. referred_place items reference found storage)

-- ---- one place within another

pub record IsWithin (place whole : ItemPlace) : Type 0 where
  pub area : place.area ≡ whole.area
  pub begin : whole.offset ≤ place.offset
  pub end : place.offset + place.item.length ≤ whole.offset + whole.item.length
