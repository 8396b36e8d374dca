-- The code of statements finds what it needs.
use Rattle.std.proofs.Common.{◌≡◌, ℕ, ◌+◌, ◌-◌, ◌≤◌, length, List, [], ◌∷◌, ◌++◌, refl, sym, ◌∙◌, ap, subst, arith}
use Rattle.std.proofs.Common.{Option}
use Rattle.std.proofs.Common.{Some, None}
use Rattle.std.specs.Prelude.{slice_get, Bool, true, false, nat_le, if◌then◌else◌}
use Rattle.std.proofs.lemmas.Bool.Decides.{nat_tests}
use Rattle.items.specs.declared.taken.Taken.{Taken}
use Rattle.items.specs.declared.taken.Taken.TheVariants as kept
use Rattle.text_ops.specs.Lengths.{shown_length}
use Rattle.source_tree.specs.declared.reference.Adjustment.{Adjustment}
use Rattle.source_tree.specs.declared.reference.Adjustment.TheVariants as adjustment
use Rattle.source_tree.specs.declared.reference.Subscript as written
use Rattle.source_tree.specs.declared.reference.Subscript.TheVariants as subscript
use Rattle.source_tree.specs.declared.reference.Reference.{Reference}
use Rattle.source_tree.specs.declared.expression.Operand.{Operand}
use Rattle.source_tree.specs.declared.expression.Operand.TheVariants as operand
use Rattle.source_tree.specs.declared.table.Dimension.{Dimension}
use Rattle.source_tree.specs.Display.{shown_literal, line_end}
use Rattle.source_tree.specs.Literals.{Sender}
use Rattle.source_tree.specs.MoveRules.{may_move}
use Rattle.source_tree.specs.Accepting.{date_sender}
use Rattle.source_tree.specs.declared.reference.Part.{Part}
use Rattle.source_tree.specs.Clauses.{or_else}
use Rattle.source_tree.specs.Parts.{known_length, part_kind, seen_by}
use Rattle.source_tree.specs.Places.{LocatedItem}
use Rattle.items.specs.declared.item.Kind.{Kind}
use Rattle.items.specs.declared.item.Kind.TheVariants as kind
use Rattle.data_instructions.specs.declared.part.Part.TheVariants as part_made
use Rattle.data_instructions.specs.Shapes.{part_reach, stacks_with_fixed_part, has_any_length, with_text_place}
use Rattle.data_instructions.specs.PartForms.{PartForm, Whole, Settled, OfLength, Counted, Rest, known_begin, form_by}
use Rattle.data_instructions.specs.PartForms.{begin_of, part_form, first_offset, part_entry}
use Rattle.data_instructions.specs.Codes.{IsPartCode}
use Rattle.data_instructions.proofs.PartForms.{known_within, settled}
use Rattle.data_instructions.specs.declared.index.ItemIndex.{ItemIndex}
use Rattle.data_instructions.specs.declared.index.NumberIndex.{NumberIndex}
use Rattle.data_instructions.specs.declared.tables.DataItem.{DataItem}
use Rattle.data_instructions.specs.declared.tables.DataTables.{DataTables}
use Rattle.data_instructions.specs.declared.calculation.Calculation.TheVariants as calculation
use Rattle.data_instructions.specs.declared.instruction.DataInstruction.{DataInstruction}
use Rattle.data_instructions.specs.declared.instruction.DataInstruction.TheVariants as i
use Rattle.data_instructions.specs.declared.shape.PlaceShape.{PlaceShape}
use Rattle.data_instructions.specs.declared.shape.Shape.{Shape}
use Rattle.data_instructions.specs.declared.shape.Stacks.{Stacks}
use Rattle.data_instructions.specs.Tables.{Lies}
use Rattle.data_instructions.specs.Shapes.{and_then, and_one, stacks_with_place, with_place, stacks_with_subscript}
use Rattle.data_instructions.specs.Shapes.{reaches, last_reach, moving_to, shape_with, effect, shape_after_accept}
use Rattle.data_instructions.specs.Shapes.{shape_after_date}
use Rattle.data_instructions.specs.Codes.{data_item, HasInteger, IsAdjustmentCode, IsSubscriptCode, AreSubscriptsCode}
use Rattle.data_instructions.specs.Codes.{index_code, IsReferenceCode, IsTakingCode, IsSenderCode, AreReceiversCode}
use Rattle.data_instructions.specs.Codes.{IsMoveCode, IsTextCode, IsOperandCode, AreOperandsCode, IsLineEndCode}
use Rattle.data_instructions.specs.Codes.{IsDisplayCode}
use Rattle.data_instructions.specs.Chains.{part_end, last_begin, LiesWhole}
use Rattle.data_instructions.specs.Chains.{effects, greatest, LiesAll, ShowsAll, SendsAs, MayReceive, MayReceiveEach}
use Rattle.data_instructions.specs.Chains.{KnowsMove, KnowsDisplay, KnowsAccept, KnowsDate}

known_twice : (o : Option Shape) (both one other : Shape → Option Shape)
    → ((s : Shape) → both s ≡ and_then (one s) other) → and_then o both ≡ and_then (and_then o one) other
known_twice None both one other same = refl
known_twice (Some s) both one other same = same s

pub effects_append : (tables : DataTables) (a b : List DataInstruction) (s : Shape)
    → effects tables (a ++ b) s ≡ and_then (effects tables a s) (effects tables b)
effects_append tables [] b s = refl
effects_append tables (one ∷ a) b s = known_twice (effect tables one s) (effects tables (a ++ b)) (effects tables a)
    (effects tables b) (λ t. effects_append tables a b t)

one_there : (n : ℕ) → nat_le 1 (n + 1) ≡ true
one_there n = grind (arith, nat_tests)

two_there : (n : ℕ) → nat_le 2 (n + 1 + 1) ≡ true
two_there n = grind (arith, nat_tests)

pub within : (m n : ℕ) → m ≤ n → nat_le m n ≡ true
within m n h = grind (arith, nat_tests)

further : (offset : ℕ) (dimensions : List Dimension) → offset ≤ greatest offset dimensions
further offset [] = omega arith
further offset (one ∷ more) = let h = further (last_reach offset one.stride one.count) more in omega (arith, h)

-- ---- where parts lie

greatest_after : (offset before : ℕ) (dimensions : List Dimension)
    → greatest (offset + before) dimensions ≡ greatest offset dimensions + before
greatest_after offset before [] = refl
greatest_after offset before (one ∷ more) =
    ap (λ n. greatest n more) (omega arith) ∙ greatest_after (last_reach offset one.stride one.count) before more

any_part : (one : Kind) → has_any_length (part_kind one) ≡ true
any_part kind.Group = refl
any_part (kind.Alphabetic justified) = refl
any_part (kind.Alphanumeric justified) = refl
any_part kind.AlphanumericEdited = refl
any_part (kind.NumericEdited blank) = refl
any_part (kind.Numeric numeric) = refl

-- A part ends within its item, wherever it begins.
ends_within : (size : ℕ) (first : written.Subscript) (length : Option written.Subscript) (known begin : Option ℕ)
    → known_length size first length ≡ known → known_begin size first known ≡ begin → (reach : ℕ)
    → part_end size (or_else known size) (form_by first length known begin)
    (reach + begin_of (form_by first length known begin)) + or_else known size ≤ reach + size
ends_within size first length known (Some before) long begins reach =
    let there = settled size first known before begins in
    let end = there.end in
    let same : or_else known size ≡ there.length = ap (λ o. or_else o size) there.known_is in
    omega (arith, end, same)
ends_within size first length (Some n) None long begins reach =
    let within = known_within size first length n long in let most = within.most in omega (arith, most)
ends_within size first (Some length) None None long begins reach = omega arith
ends_within size first None None None long begins reach = omega arith

further_end : (size length : ℕ) (form : PartForm) (reach : ℕ) → reach ≤ part_end size length form reach
further_end size length Whole reach = omega arith
further_end size length (Settled before) reach = omega arith
further_end size length (OfLength first) reach = omega arith
further_end size length (Counted first other) reach = omega arith
further_end size length (Rest first) reach = omega arith

pub part_further : (found : LocatedItem) (part : Option Part)
    → greatest (first_offset found part) found.dimensions ≤ last_begin found part
part_further found part = further_end found.item.length (seen_by part found).item.length
    (part_form found.item.length part) (greatest (first_offset found part) found.dimensions)

-- Where an item lies whole, each of its parts does.
pub part_lies : (tables : DataTables) (found : LocatedItem) (part : Option Part) → LiesWhole tables found
    → Lies tables.areas (part_entry found part) (last_begin found part)
part_lies tables found None lies = lies
part_lies tables found (Some part) lies =
    let known = known_length found.item.length part.first part.length in
    let begin = known_begin found.item.length part.first known in
    let form = form_by part.first part.length known begin in
    let ends = ends_within found.item.length part.first part.length known begin refl refl
    (greatest found.offset found.dimensions) in
    let after = greatest_after found.offset (begin_of form) found.dimensions in
    let far : last_begin found (Some part) ≡ part_end found.item.length (or_else known found.item.length) form
    (greatest found.offset found.dimensions + begin_of form) =
    ap (part_end found.item.length (or_else known found.item.length) form) after in
    let whole = lies.within in
    record { area = lies.area; here = lies.here; within = omega (arith, ends, far, whole) }

module _ (items : List LocatedItem) (tables : DataTables) where
  abbrev with_numbers : ℕ → Shape → Shape
  with_numbers n s = record s { stacks = record { numbers = n; places = s.stacks.places } }

  abbrev at : ItemIndex → ℕ → Shape → Shape
  at index reach s = record s {
    stacks = record { numbers = s.stacks.numbers; places = record { item = index; reach = reach } ∷ s.stacks.places };
  }

  literal_known : (number : NumberIndex) (n : ℕ) → HasInteger tables number n
      → (more : List DataInstruction) (s : Shape)
      → effects tables (i.Literal number ∷ more) s ≡ effects tables more (with_numbers (s.stacks.numbers + 1) s)
  literal_known number n has more s = ap (λ o. and_then
      (shape_with (and_then o (λ x. and_one s.stacks)) (Some s.line) (Some s.sender)) (effects tables more)) has.entry

  pub place_known : (index : ItemIndex) (one : DataItem)
      → slice_get tables.items index.number ≡ Some one → (more : List DataInstruction) (s : Shape)
      → effects tables (i.Place index ∷ more) s ≡ effects tables more (at index one.offset s)
  place_known index one entry more s =
      ap (λ o. and_then (shape_with (and_then o (λ one. stacks_with_place index one s.stacks)) (Some s.line)
      (Some s.sender)) (effects tables more)) entry

  -- two numbers become one
  combined_known : (n : ℕ) (s : Shape)
      → and_then (if nat_le 2 (n + 1 + 1) then Some (record { numbers = n + 1 + 1 - 2; places = s.stacks.places })
      else None) and_one ≡ Some (record { numbers = n + 1; places = s.stacks.places })
  combined_known n s =
      ap (λ b. and_then (if b then Some (record { numbers = n + 1 + 1 - 2; places = s.stacks.places }) else None)
      and_one) (two_there n)
      ∙ ap (λ m. Some (record { numbers = m; places = s.stacks.places })) (omega arith)

  adjustment_known : (one : Adjustment) (code : List DataInstruction)
      → IsAdjustmentCode items tables one code → (s : Shape)
      → effects tables code (with_numbers (s.stacks.numbers + 1) s) ≡ Some (with_numbers (s.stacks.numbers + 1) s)
  adjustment_known adjustment.Nothing code is s = ap (λ c. effects tables c (with_numbers (s.stacks.numbers + 1) s)) is
  adjustment_known (adjustment.Plus n) code (number, has, is) s =
      ap (λ c. effects tables c (with_numbers (s.stacks.numbers + 1) s)) is
      ∙ literal_known number _ has (i.Calculate calculation.Add ∷ []) (with_numbers (s.stacks.numbers + 1) s)
      ∙ ap (λ o. and_then (shape_with o (Some s.line) (Some s.sender)) (effects tables []))
      (combined_known s.stacks.numbers s)
  adjustment_known (adjustment.Minus n) code (number, has, is) s =
      ap (λ c. effects tables c (with_numbers (s.stacks.numbers + 1) s)) is
      ∙ literal_known number _ has (i.Calculate calculation.Subtract ∷ []) (with_numbers (s.stacks.numbers + 1) s)
      ∙ ap (λ o. and_then (shape_with o (Some s.line) (Some s.sender)) (effects tables []))
      (combined_known s.stacks.numbers s)

  subscript_known : (one : written.Subscript) (code : List DataInstruction) → IsSubscriptCode items tables one code
      → (s : Shape) → effects tables code s ≡ Some (with_numbers (s.stacks.numbers + 1) s)
  subscript_known (subscript.Literal n) code (number, has, is) s =
      ap (λ c. effects tables c s) is ∙ literal_known number _ has [] s
  subscript_known (subscript.Item name adjusting) code (index, found, has, integral, more, adjusts, is) s =
      ap (λ c. effects tables c s) is ∙ place_known index (data_item found) has.entry (i.Push ∷ more) s
      ∙ adjustment_known adjusting more adjusts s

  -- what lies in its area reaches so far
  reached : (one : DataItem) (reach : ℕ) (lies : Lies tables.areas one reach)
      → reaches tables reach one ≡ Some lies.area
  reached one reach lies =
      ap (λ o. and_then o (λ area. if nat_le (reach + one.item.length) (length area) then Some area else None))
      lies.here
      ∙ ap (λ b. if b then Some lies.area else None)
      (within (reach + one.item.length) (length lies.area) lies.within)

  index_known : (one : Dimension) (index : ItemIndex) (found : DataItem) (reach : ℕ)
      → slice_get tables.items index.number ≡ Some found
      → Lies tables.areas found (last_reach reach one.stride one.count)
      → (more : List DataInstruction) (s : Shape)
      → effects tables (index_code one ∷ more) (with_numbers (s.stacks.numbers + 1) (at index reach s)) ≡ effects tables
      more (at index (last_reach reach one.stride one.count) s)
  index_known one index found reach entry lies more s =
      let last : ℕ = last_reach reach one.stride one.count in
      let places : List PlaceShape = record { item = index; reach = reach } ∷ s.stacks.places in
      let placed : ℕ → Stacks =
      λ n. record { numbers = n; places = record { item = index; reach = last } ∷ s.stacks.places } in
      let rest : Option Stacks → Option Shape =
      λ o. and_then (shape_with o (Some s.line) (Some s.sender)) (effects tables more) in
      let n : ℕ = s.stacks.numbers in
      ap (λ b. rest (and_then (if b then Some (record { numbers = n + 1 - 1; places = places }) else None)
      (λ t. with_place (stacks_with_subscript tables one.stride one.count) t.places t))) (one_there n)
      ∙ ap (λ o. rest (and_then o (λ it. and_then (reaches tables last it) (λ area. Some (placed (n + 1 - 1)))))) entry
      ∙ ap (λ o. rest (and_then o (λ area. Some (placed (n + 1 - 1))))) (reached found last lies)
      ∙ ap (λ m. rest (Some (placed m))) (omega arith)

  -- the same of a part with its item's length
  fixed_known : (size : ℕ) (index : ItemIndex) (found : DataItem) (reach : ℕ)
      → slice_get tables.items index.number ≡ Some found
      → Lies tables.areas found (part_reach reach size found.item.length) → (s : Shape)
      → effects tables (i.Part (part_made.Fixed size) ∷ []) (with_numbers (s.stacks.numbers + 1) (at index reach s))
      ≡ Some (at index (part_reach reach size found.item.length) s)
  fixed_known size index found reach entry lies s =
      let last : ℕ = part_reach reach size found.item.length in
      let places : List PlaceShape = record { item = index; reach = reach } ∷ s.stacks.places in
      let placed : ℕ → ℕ → Stacks =
      λ n end. record { numbers = n; places = record { item = index; reach = end } ∷ s.stacks.places } in
      let rest : Option Stacks → Option Shape =
      λ o. and_then (shape_with o (Some s.line) (Some s.sender)) (effects tables []) in
      let n : ℕ = s.stacks.numbers in
      ap (λ b. rest (and_then (if b then Some (record { numbers = n + 1 - 1; places = places }) else None)
      (λ t. with_place (stacks_with_fixed_part tables size) t.places t))) (one_there n)
      ∙ ap (λ o. rest (and_then o (λ it. and_then (reaches tables (part_reach reach size it.item.length) it)
      (λ area. Some (placed (n + 1 - 1) (part_reach reach size it.item.length)))))) entry
      ∙ ap (λ o. rest (and_then o (λ area. Some (placed (n + 1 - 1) last)))) (reached found last lies)
      ∙ ap (λ m. rest (Some (placed m last))) (omega arith)

  -- The newest place, of characters, stays when a part of it is made by so many numbers.
  text_kept : (index : ItemIndex) (found : DataItem) (reach : ℕ)
      → slice_get tables.items index.number ≡ Some found → has_any_length found.item.kind ≡ true
      → (n : ℕ) (s : Shape)
      → with_text_place tables
      (record { numbers = n; places = record { item = index; reach = reach } ∷ s.stacks.places })
      ≡ Some (record { numbers = n; places = record { item = index; reach = reach } ∷ s.stacks.places })
  text_kept index found reach entry any n s =
      let stacks : Stacks =
      record { numbers = n; places = record { item = index; reach = reach } ∷ s.stacks.places } in
      ap (λ o. and_then o (λ (it : DataItem). if has_any_length it.item.kind then Some stacks else None)) entry
      ∙ ap (λ b. if b then Some stacks else None) any

  counted_known : (index : ItemIndex) (found : DataItem) (reach : ℕ)
      → slice_get tables.items index.number ≡ Some found → has_any_length found.item.kind ≡ true → (s : Shape)
      → effects tables (i.Part part_made.Counted ∷ [])
      (with_numbers (s.stacks.numbers + 1 + 1) (at index reach s)) ≡ Some (at index reach s)
  counted_known index found reach entry any s =
      let rest : Option Stacks → Option Shape =
      λ o. and_then (shape_with o (Some s.line) (Some s.sender)) (effects tables []) in
      let stacks : ℕ → Stacks =
      λ n. record { numbers = n; places = record { item = index; reach = reach } ∷ s.stacks.places } in
      let n : ℕ = s.stacks.numbers in
      ap (λ b. rest (and_then (if b then Some (stacks (n + 1 + 1 - 2)) else None) (with_text_place tables)))
      (two_there n)
      ∙ ap rest (text_kept index found reach entry any (n + 1 + 1 - 2) s)
      ∙ ap (λ m. rest (Some (stacks m))) (omega arith)

  rest_known : (index : ItemIndex) (found : DataItem) (reach : ℕ)
      → slice_get tables.items index.number ≡ Some found → has_any_length found.item.kind ≡ true → (s : Shape)
      → effects tables (i.Part part_made.Rest ∷ []) (with_numbers (s.stacks.numbers + 1) (at index reach s))
      ≡ Some (at index reach s)
  rest_known index found reach entry any s =
      let rest : Option Stacks → Option Shape =
      λ o. and_then (shape_with o (Some s.line) (Some s.sender)) (effects tables []) in
      let stacks : ℕ → Stacks =
      λ n. record { numbers = n; places = record { item = index; reach = reach } ∷ s.stacks.places } in
      let n : ℕ = s.stacks.numbers in
      ap (λ b. rest (and_then (if b then Some (stacks (n + 1 - 1)) else None) (with_text_place tables))) (one_there n)
      ∙ ap rest (text_kept index found reach entry any (n + 1 - 1) s)
      ∙ ap (λ m. rest (Some (stacks m))) (omega arith)

  -- a part of what lies whole
  nearer : (one : DataItem) (reach last : ℕ) → reach ≤ last → Lies tables.areas one last → Lies tables.areas one reach
  nearer one reach last h lies = record { area = lies.area; here = lies.here; within = omega (arith, lies.within, h) }

  pub subscripts_known : (dimensions : List Dimension) (subscripts : List written.Subscript)
      (code : List DataInstruction) → AreSubscriptsCode items tables dimensions subscripts code
      → (index : ItemIndex) (found : DataItem) (reach : ℕ) → slice_get tables.items index.number ≡ Some found
      → Lies tables.areas found (greatest reach dimensions)
      → (s : Shape) → effects tables code (at index reach s) ≡ Some (at index (greatest reach dimensions) s)
  subscripts_known [] subscripts code is index found reach entry lies s =
      ap (λ c. effects tables c (at index reach s)) is
  subscripts_known (one ∷ more) [] code is index found reach entry lies s = absurd is
  subscripts_known (one ∷ more) (written ∷ others) code (front, is_front, back, is_back, is) index found reach entry
      lies s =
      ap (λ c. effects tables c (at index reach s)) is
      ∙ effects_append tables front (index_code one ∷ back) (at index reach s)
      ∙ ap (λ o. and_then o (effects tables (index_code one ∷ back)))
      (subscript_known written front is_front (at index reach s))
      ∙ index_known one index found reach entry (nearer found (last_reach reach one.stride one.count)
      (greatest (last_reach reach one.stride one.count) more) (further (last_reach reach one.stride one.count) more)
      lies) back s
      ∙ subscripts_known more others back is_back index found (last_reach reach one.stride one.count) entry lies s

  -- ---- parts

  part_known : (found : LocatedItem) (part : Part) (index : ItemIndex)
      → slice_get tables.items index.number ≡ Some (part_entry found (Some part))
      → Lies tables.areas (part_entry found (Some part)) (last_begin found (Some part))
      → (form : PartForm) → part_form found.item.length (Some part) ≡ form → (code : List DataInstruction)
      → IsPartCode items tables found.item.length form code → (reach : ℕ) (s : Shape)
      → reach ≡ greatest (first_offset found (Some part)) found.dimensions
      → effects tables code (at index reach s)
      ≡ Some (at index (part_end found.item.length (part_entry found (Some part)).item.length form reach) s)
  part_known found part index entry lies Whole is_form code is reach s far =
      ap (λ c. effects tables c (at index reach s)) is
  part_known found part index entry lies (Settled before) is_form code is reach s far =
      ap (λ c. effects tables c (at index reach s)) is
  part_known found part index entry lies (OfLength first) is_form code (front, is_front, is) reach s far =
      let one : DataItem = part_entry found (Some part) in
      let last : List DataInstruction = i.Part (part_made.Fixed found.item.length) ∷ [] in
      ap (λ c. effects tables c (at index reach s)) is
      ∙ effects_append tables front last (at index reach s)
      ∙ ap (λ o. and_then o (effects tables last)) (subscript_known first front is_front (at index reach s))
      ∙ fixed_known found.item.length index one reach entry (subst (Lies tables.areas one)
      (ap (λ form. part_end found.item.length one.item.length form
      (greatest (first_offset found (Some part)) found.dimensions)) is_form
      ∙ ap (λ n. part_reach n found.item.length one.item.length) (sym far)) lies) s
  part_known found part index entry lies (Counted first length) is_form code (front, is_front, back, is_back, is) reach
      s
      far =
      let one : DataItem = part_entry found (Some part) in
      let last : List DataInstruction = i.Part part_made.Counted ∷ [] in
      ap (λ c. effects tables c (at index reach s)) is
      ∙ effects_append tables front (back ++ last) (at index reach s)
      ∙ ap (λ o. and_then o (effects tables (back ++ last))) (subscript_known first front is_front (at index reach s))
      ∙ effects_append tables back last (with_numbers (s.stacks.numbers + 1) (at index reach s))
      ∙ ap (λ o. and_then o (effects tables last))
      (subscript_known length back is_back (with_numbers (s.stacks.numbers + 1) (at index reach s)))
      ∙ counted_known index one reach entry (any_part found.item.kind) s
  part_known found part index entry lies (Rest first) is_form code (front, is_front, is) reach s far =
      let one : DataItem = part_entry found (Some part) in
      let last : List DataInstruction = i.Part part_made.Rest ∷ [] in
      ap (λ c. effects tables c (at index reach s)) is
      ∙ effects_append tables front last (at index reach s)
      ∙ ap (λ o. and_then o (effects tables last)) (subscript_known first front is_front (at index reach s))
      ∙ rest_known index one reach entry (any_part found.item.kind) s

  making_known : (found : LocatedItem) (part : Option Part) (index : ItemIndex) (code : List DataInstruction)
      → slice_get tables.items index.number ≡ Some (part_entry found part)
      → Lies tables.areas (part_entry found part) (last_begin found part)
      → IsPartCode items tables found.item.length (part_form found.item.length part) code → (s : Shape)
      → effects tables code (at index (greatest (first_offset found part) found.dimensions) s)
      ≡ Some (at index (last_begin found part) s)
  making_known found None index code entry lies is s =
      ap (λ c. effects tables c (at index (greatest found.offset found.dimensions) s)) is
  making_known found (Some part) index code entry lies is s =
      part_known found part index entry lies (part_form found.item.length (Some part)) refl code is
      (greatest (first_offset found (Some part)) found.dimensions) s refl

  pub reference_known : (reference : Reference) (code : List DataInstruction)
      (r : IsReferenceCode items tables reference code) → LiesAll items tables reference → (s : Shape)
      → effects tables code s ≡ Some (at r.index (last_begin r.found reference.part) s)
  reference_known reference code r lies s =
      let one : DataItem = part_entry r.found reference.part in
      let offset : ℕ = first_offset r.found reference.part in
      let last = part_lies tables r.found reference.part (lies r.found r.named) in
      ap (λ c. effects tables c s) r.is
      ∙ place_known r.index one r.entry (r.subscripts ++ r.making) s
      ∙ effects_append tables r.subscripts r.making (at r.index offset s)
      ∙ ap (λ o. and_then o (effects tables r.making)) (subscripts_known r.found.dimensions
      reference.subscripts r.subscripts r.each r.index one offset r.entry
      (nearer one (greatest offset r.found.dimensions) (last_begin r.found reference.part)
      (part_further r.found reference.part) last) s)
      ∙ making_known r.found reference.part r.index r.making r.entry last r.makes s

  -- an instruction that takes the place of a reference
  pub taking_known : (taking : DataInstruction) (reference : Reference) (code : List DataInstruction)
      (is : IsTakingCode items tables taking reference code) → LiesAll items tables reference → (s : Shape)
      → effects tables code s
      ≡ effects tables (taking ∷ []) (at is.1.index (last_begin is.1.found reference.part) s)
  taking_known taking reference code (front, is_front, is) lies s =
      ap (λ c. effects tables c s) is
      ∙ effects_append tables front (taking ∷ []) s
      ∙ ap (λ o. and_then o (effects tables (taking ∷ []))) (reference_known reference front is_front lies s)

  pub sender_known : (sender : Operand) (code : List DataInstruction)
      → IsSenderCode items tables sender code → (sent : Taken) → SendsAs items tables sender sent → (s : Shape)
      → effects tables code s ≡ Some (record s { sender = Some sent })
  sender_known (operand.Item reference) code is sent sends s =
      taking_known i.Take reference code is sends.0 s
      ∙ ap (λ o. and_then (shape_with (Some s.stacks) (Some s.line)
      (and_then o (λ one. Some (Some (kept.Item one.item))))) (effects tables [])) is.1.entry
      ∙ ap (λ taken. Some (record s { sender = Some taken })) (sends.1 is.1.found is.1.named)
  sender_known (operand.Literal literal) code (index, entry, here, value, is) sent sends s =
      ap (λ c. effects tables c s) is
      ∙ ap (λ o. and_then (shape_with (Some s.stacks) (Some s.line) (and_then o (λ one. Some (Some one.taken))))
      (effects tables [])) here
      ∙ ap (λ taken. Some (record s { sender = Some taken })) (ap (λ (x : Sender). x.taken) value ∙ sends)

  receivers_known : (receivers : List Reference) (code : List DataInstruction)
      → AreReceiversCode items tables receivers code → (sent : Taken) → MayReceiveEach items tables sent receivers
      → (s : Shape)
      → effects tables code (record s { sender = Some sent }) ≡ Some (record s { sender = Some sent })
  receivers_known [] code is sent may s = ap (λ c. effects tables c (record s { sender = Some sent })) is
  receivers_known (one ∷ more) code (front, is_front, back, is_back, is) sent may s =
      let t : Shape = record s { sender = Some sent } in
      ap (λ c. effects tables c t) is
      ∙ effects_append tables front back t
      ∙ ap (λ o. and_then o (effects tables back)) (
      taking_known i.Move one front is_front may.0.0 t
      ∙ ap (λ o. and_then (shape_with (Some s.stacks) (Some s.line) (and_then o (moving_to sent))) (effects tables []))
      is_front.1.entry
      ∙ ap (λ b. and_then (shape_with (Some s.stacks) (Some s.line) (if b then Some (Some sent) else None))
      (effects tables [])) (may.0.1 is_front.1.found is_front.1.named))
      ∙ receivers_known more back is_back sent may.1 s

  pub move_known : (sender : Operand) (receivers : List Reference) (code : List DataInstruction)
      → IsMoveCode items tables sender receivers code → (sent : Taken) → SendsAs items tables sender sent
      → MayReceiveEach items tables sent receivers → KnowsMove items tables sent code
  move_known sender receivers code (front, is_front, back, is_back, is) sent sends may s =
      ap (λ c. effects tables c s) is
      ∙ effects_append tables front back s
      ∙ ap (λ o. and_then o (effects tables back)) (sender_known sender front is_front sent sends s)
      ∙ receivers_known receivers back is_back sent may s

  pub text_known : (bytes : List ℕ) (code : List DataInstruction) → IsTextCode items tables bytes code → (s : Shape)
      → effects tables code s ≡ Some (record s { line = s.line + length bytes })
  text_known bytes code (index, here, is) s =
      ap (λ c. effects tables c s) is
      ∙ ap (λ o. and_then (shape_with (Some s.stacks) (and_then o (λ text. Some (s.line + length text)))
      (Some s.sender)) (effects tables [])) here

  -- one part after another, each of which makes the line longer
  pub longer : (front back : List DataInstruction) → KnowsDisplay items tables front → KnowsDisplay items tables back
      → KnowsDisplay items tables (front ++ back)
  longer front back one other s =
      let first = one s in
      let second = other (record s { line = first.0 }) in
      (second.0, effects_append tables front back s ∙ ap (λ o. and_then o (effects tables back)) first.1 ∙ second.1)

  pub as_it_is : (code other : List DataInstruction) → code ≡ other → KnowsDisplay items tables other
      → KnowsDisplay items tables code
  as_it_is code other is known s = let k = known s in (k.0, ap (λ c. effects tables c s) is ∙ k.1)

  operand_known : (one : Operand) (code : List DataInstruction) → IsOperandCode items tables one code
      → ShowsAll items tables (one ∷ []) → KnowsDisplay items tables code
  operand_known (operand.Item reference) code is lies s = (
    s.line + shown_length (part_entry is.1.found reference.part).item.kind
        (part_entry is.1.found reference.part).item.length,
    taking_known i.Append reference code is lies.0 s
        ∙ ap (λ o. and_then (shape_with (Some s.stacks) (and_then o (λ one. Some
        (s.line + shown_length one.item.kind one.item.length))) (Some s.sender)) (effects tables [])) is.1.entry,
  )
  operand_known (operand.Literal literal) code is lies s = (_, text_known (shown_literal literal.value) code is s)

  operands_known : (operands : List Operand) (code : List DataInstruction) → AreOperandsCode items tables operands code
      → ShowsAll items tables operands → KnowsDisplay items tables code
  operands_known [] code is lies = λ s. (s.line, ap (λ c. effects tables c s) is)
  operands_known (operand.Item reference ∷ more) code (front, is_front, back, is_back, is) lies =
      as_it_is code (front ++ back) is (longer front back
      (operand_known (operand.Item reference) front is_front (lies.0, tt)) (operands_known more back is_back lies.1))
  operands_known (operand.Literal literal ∷ more) code (front, is_front, back, is_back, is) lies =
      as_it_is code (front ++ back) is (longer front back (operand_known (operand.Literal literal) front is_front tt)
      (operands_known more back is_back lies))

  line_end_known : (advancing : Bool) (code : List DataInstruction) → IsLineEndCode items tables advancing code
      → KnowsDisplay items tables code
  line_end_known true code is s = (_, text_known (line_end true) code is s)
  line_end_known false code is s = (s.line, ap (λ c. effects tables c s) is)

  pub display_known : (operands : List Operand) (advancing : Bool) (code : List DataInstruction)
      → IsDisplayCode items tables operands advancing code → ShowsAll items tables operands
      → KnowsDisplay items tables code
  display_known operands advancing code (front, is_front, back, is_back, is) lies =
      as_it_is code (front ++ back) is
      (longer front back (operands_known operands front is_front lies) (line_end_known advancing back is_back))

  pub accept_known : (receiver : Reference) (code : List DataInstruction) → IsReferenceCode items tables receiver code
      → LiesAll items tables receiver → KnowsAccept items tables code
  accept_known receiver code r lies s = ap (λ o. and_then o shape_after_accept) (reference_known receiver code r lies s)

  pub date_known : (receiver : Reference) (code : List DataInstruction) → IsReferenceCode items tables receiver code
      → MayReceive items tables (date_sender []).taken receiver → KnowsDate items tables code
  date_known receiver code r may s =
      ap (λ o. and_then o (shape_after_date tables)) (reference_known receiver code r may.0 s)
      ∙ ap (λ o. and_then o (λ one. if may_move (date_sender []).taken one.item then Some s else None)) r.entry
      ∙ ap (λ b. if b then Some s else None) (may.1 r.found r.named)
