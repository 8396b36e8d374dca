-- The code of INSPECT finds what it needs.
use Rattle.std.proofs.Common.{◌≡◌, ℕ, zero, suc, ◌+◌, ◌-◌, ◌≤◌, length, List, [], ◌∷◌, ◌++◌, sym, refl, ◌∙◌, ap}
use Rattle.std.proofs.Common.{arith, Option, Some, None}
use Rattle.std.specs.Prelude.{nat_le, if◌then◌else◌}
use Rattle.std.proofs.lemmas.List.{append_assoc}
use Rattle.source_tree.specs.declared.reference.Reference.{Reference}
use Rattle.source_tree.specs.declared.inspect_statement.Converting.{Converting}
use Rattle.source_tree.specs.declared.inspect_statement.InspectStatement.{InspectStatement}
use Rattle.source_tree.specs.Converting.{as_replacing}
use Rattle.source_tree.specs.LookUp.{items_named}
use Rattle.source_tree.specs.Parts.{seen_through}
use Rattle.source_tree.specs.Places.{LocatedItem}
use Rattle.source_tree.specs.InspectLayout as layout
use Rattle.source_tree.specs.InspectLayout.{Bytes, Characters, InspectArgument, Counter, Text, found_size, text_size}
use Rattle.source_tree.specs.InspectLayout.{taken_size, takings, inspection, inspected_size, count_of}
use Rattle.source_tree.specs.MeasuredTexts.{room_of}
use Rattle.data_instructions.specs.declared.index.InspectionIndex.{InspectionIndex}
use Rattle.data_instructions.specs.declared.tables.Inspection.{Inspection}
use Rattle.data_instructions.specs.declared.tables.DataTables.{DataTables}
use Rattle.data_instructions.specs.declared.gather.Gather.TheVariants as g
use Rattle.data_instructions.specs.declared.instruction.DataInstruction.{DataInstruction}
use Rattle.data_instructions.specs.declared.instruction.DataInstruction.TheVariants as i
use Rattle.data_instructions.specs.declared.shape.PlaceShape.{PlaceShape}
use Rattle.data_instructions.specs.declared.shape.Shape.{Shape}
use Rattle.data_instructions.specs.declared.shape.Stacks.{Stacks}
use Rattle.data_instructions.specs.Shapes.{and_then, and_more, without_numbers, without_place, without_places}
use Rattle.data_instructions.specs.Shapes.{stacks_inspected, stacks_converted, line_inspected, shape_with}
use Rattle.data_instructions.specs.Chains.{LiesAll, effects, last_begin}
use Rattle.data_instructions.specs.Codes.{IsTakingCode}
use Rattle.data_instructions.specs.InspectCodes.{AreTakenCode, HasInspection, IsInspectCode, KnowsInspect, LieTakings}
use Rattle.data_instructions.specs.InspectCodes.{LiesInspect, IsConvertCode, gather_by, taken_numbers, inspect_by}
use Rattle.data_instructions.specs.InspectCodes.{convert_by}
use Rattle.data_instructions.proofs.Chains.{effects_append, within, reference_known, taking_known, text_known}
use Rattle.data_instructions.proofs.PartCodes.{first_shown}
use Rattle.data_instructions.proofs.InspectCodes.{counters_in, counters_are}

-- so many places are there
enough : (qs rest : List PlaceShape) (numbers : ℕ) → without_places (length qs)
    (record { numbers = numbers; places = qs ++ rest }) ≡ Some (record { numbers = numbers; places = rest })
enough [] rest numbers = refl
enough (q ∷ qs) rest numbers = enough qs rest numbers

module _ (items : List LocatedItem) (tables : DataTables) where
  -- with so many numbers more
  abbrev known : List PlaceShape → PlaceShape → ℕ → ℕ → Shape → Shape
  known qs q line more s = record s {
    stacks = record { numbers = s.stacks.numbers + more; places = qs ++ (q ∷ s.stacks.places) };
    line = line;
  }

  abbrev nothing_left : ℕ → Shape → Shape
  nothing_left numbers s = record s { stacks = record s.stacks { numbers = numbers }; line = 0 }

  no_more : (s : Shape) → Some (nothing_left (s.stacks.numbers + 0) s) ≡ Some (record s { line = 0 })
  no_more s =
      let same : s.stacks.numbers + 0 ≡ s.stacks.numbers = omega arith in
      ap (λ n. Some (nothing_left n s)) same

  -- the places of an inspection's counters and subject, with a line of its size
  inspected_known : (index : InspectionIndex) (how : layout.Inspection) (size : ℕ)
      (has : HasInspection items tables how size index) (qs : List PlaceShape) (q : PlaceShape) (line numbers : ℕ)
      (s : Shape) → length qs ≡ length how.counters → size ≤ line
      → (let stacks : Stacks = record { numbers = numbers; places = qs ++ (q ∷ s.stacks.places) } in
      and_then (shape_with (stacks_inspected tables index stacks) (line_inspected tables index line) (Some s.sender))
      (effects tables []) ≡ Some (nothing_left numbers s))
  inspected_known index how size has qs q line numbers s many long =
      let stacks : Stacks = record { numbers = numbers; places = qs ++ (q ∷ s.stacks.places) } in
      let left : Stacks = record { numbers = numbers; places = s.stacks.places } in
      let count : length has.one.counters ≡ length qs =
      ap (λ (x : layout.Inspection). length x.counters) has.is ∙ sym many in
      ap (λ o. and_then (shape_with
      (and_then o (λ (x : Inspection). and_then (without_places (length x.counters) stacks) without_place)) (and_then o
      (λ (x : Inspection). if nat_le x.size line then Some 0 else None)) (Some s.sender)) (effects tables [])) has.entry
      ∙ ap (λ n. and_then (shape_with (and_then (without_places n stacks) without_place)
      (if nat_le has.one.size line then Some 0 else None) (Some s.sender)) (effects tables [])) count
      ∙ ap (λ o. and_then (shape_with (and_then o without_place) (if nat_le has.one.size line then Some 0 else None)
      (Some s.sender)) (effects tables [])) (enough qs (q ∷ s.stacks.places) numbers)
      ∙ ap (λ b. and_then (shape_with (Some left) (if b then Some 0 else None) (Some s.sender)) (effects tables []))
      (within has.one.size line (omega (arith, has.size_is, long)))

  -- the same of a conversion
  converted_known : (index : InspectionIndex) (how : layout.Inspection) (size : ℕ)
      (has : HasInspection items tables how size index) (q : PlaceShape) (line numbers : ℕ) (s : Shape) → size ≤ line
      → (let stacks : Stacks = record { numbers = numbers; places = q ∷ s.stacks.places } in
      and_then (shape_with (stacks_converted tables index stacks) (line_inspected tables index line) (Some s.sender))
      (effects tables []) ≡ Some (nothing_left numbers s))
  converted_known index how size has q line numbers s long =
      let left : Stacks = record { numbers = numbers; places = s.stacks.places } in
      ap (λ o. and_then (shape_with (and_then o (λ (x : Inspection). Some left)) (and_then o
      (λ (x : Inspection). if nat_le x.size line then Some 0 else None)) (Some s.sender)) (effects tables [])) has.entry
      ∙ ap (λ b. and_then (shape_with (Some left) (if b then Some 0 else None) (Some s.sender)) (effects tables []))
      (within has.one.size line (omega (arith, has.size_is, long)))

  -- so many numbers less, after as many more
  numbers_left : (n : ℕ) (rest : Stacks → Option Stacks) (places : List PlaceShape) (line : Option ℕ) (s : Shape)
      → and_then (shape_with (and_then (without_numbers n (record { numbers = s.stacks.numbers + n; places = places }))
      rest) line (Some s.sender)) (effects tables [])
      ≡ and_then (shape_with (rest (record { numbers = s.stacks.numbers; places = places })) line (Some s.sender))
      (effects tables [])
  numbers_left n rest places line s =
      let put : Option Stacks → Option Shape = λ o.
      and_then (shape_with (and_then o rest) line (Some s.sender)) (effects tables []) in
      let left : (s.stacks.numbers + n) - n ≡ s.stacks.numbers = omega arith in
      ap (λ b. put (if b then Some (record { numbers = (s.stacks.numbers + n) - n; places = places }) else None))
      (within n (s.stacks.numbers + n) (omega arith))
      ∙ ap (λ m. put (Some (record { numbers = m; places = places }))) left

  inspect_known : (index : InspectionIndex) (how : layout.Inspection) (size n : ℕ)
      (has : HasInspection items tables how size index) (qs : List PlaceShape) (q : PlaceShape) (line : ℕ) (s : Shape)
      → length qs ≡ length how.counters → size ≤ line
      → effects tables (inspect_by index n ∷ []) (known qs q line n s) ≡ Some (record s { line = 0 })
  inspect_known index how size zero has qs q line s many long =
      inspected_known index how size has qs q line (s.stacks.numbers + 0) s many long ∙ no_more s
  inspect_known index how size (suc n) has qs q line s many long =
      numbers_left (suc n) (stacks_inspected tables index) (qs ++ (q ∷ s.stacks.places))
      (line_inspected tables index line)
      s
      ∙ inspected_known index how size has qs q line s.stacks.numbers s many long

  convert_known : (index : InspectionIndex) (how : layout.Inspection) (size n : ℕ)
      (has : HasInspection items tables how size index) (qs : List PlaceShape) (q : PlaceShape) (line : ℕ) (s : Shape)
      → length qs ≡ 0 → size ≤ line
      → effects tables (convert_by index n ∷ []) (known qs q line n s) ≡ Some (record s { line = 0 })
  convert_known index how size n has (other ∷ qs) q line s none long = absurd (omega (arith, none))
  convert_known index how size zero has [] q line s none long =
      converted_known index how size has q line (s.stacks.numbers + 0) s long ∙ no_more s
  convert_known index how size (suc n) has [] q line s none long =
      numbers_left (suc n) (stacks_converted tables index) (q ∷ s.stacks.places) (line_inspected tables index line) s
      ∙ converted_known index how size has q line s.stacks.numbers s long

  -- an item's text, with the numbers of its length
  bytes_known : (room : Option ℕ) (one : Reference) (code : List DataInstruction)
      → IsTakingCode items tables (i.Gather (gather_by room)) one code → LiesAll items tables one
      → (qs : List PlaceShape) (q : PlaceShape) (line more : ℕ) (s : Shape)
      → effects tables code (known qs q line more s)
      ≡ Some (known qs q (line + text_size items (Bytes one)) (more + (count_of room + count_of room)) s)
  bytes_known None one code taking lies qs q line more s =
      let t = known qs q line more s in
      let size : (seen_through one taking.1.found).item.length ≡ text_size items (Bytes one) =
      ap found_size (sym (first_shown (items_named items one.item) one.part taking.1.found taking.1.named)) in
      let none : more ≡ more + (0 + 0) = omega arith in
      taking_known items tables (i.Gather g.Sized) one code taking lies t
      ∙ ap (λ o. and_then (shape_with (Some t.stacks) (and_then o (λ it. Some (line + it.item.length))) (Some s.sender))
      (effects tables [])) taking.1.entry
      ∙ ap (λ n. Some (known qs q (line + n) more s)) size
      ∙ ap (λ n. Some (known qs q (line + text_size items (Bytes one)) n s)) none
  bytes_known (Some room) one code taking lies qs q line more s =
      let t = known qs q line more s in
      let size : (seen_through one taking.1.found).item.length ≡ text_size items (Bytes one) =
      ap found_size (sym (first_shown (items_named items one.item) one.part taking.1.found taking.1.named)) in
      let two : (s.stacks.numbers + more) + 2 ≡ s.stacks.numbers + (more + (1 + 1)) = omega arith in
      let after : ℕ → ℕ → Option Shape = λ n m. Some (record s {
        stacks = record { numbers = n; places = qs ++ (q ∷ s.stacks.places) };
        line = line + m;
      }) in
      taking_known items tables (i.Gather g.Measured) one code taking lies t
      ∙ ap (λ o. and_then (shape_with (and_more 2 t.stacks) (and_then o (λ it. Some (line + it.item.length)))
      (Some s.sender)) (effects tables [])) taking.1.entry
      ∙ ap (after ((s.stacks.numbers + more) + 2)) size
      ∙ ap (λ n. after n (text_size items (Bytes one))) two

  -- before an instruction that needs so many places, so many numbers and a line of this size
  takings_known : (last : DataInstruction) (size count many : ℕ)
      → ((qs : List PlaceShape) (q : PlaceShape) (line : ℕ) (s : Shape) → length qs ≡ count → size ≤ line
      → effects tables (last ∷ []) (known qs q line many s) ≡ Some (record s { line = 0 }))
      → (all : List InspectArgument) (code : List DataInstruction)
      → AreTakenCode items tables all code → LieTakings items tables all
      → (qs : List PlaceShape) (q : PlaceShape) (line more : ℕ) (s : Shape)
      → length qs + counters_in all ≡ count → size ≤ line + taken_size items all
      → more + taken_numbers items all ≡ many
      → effects tables (code ++ (last ∷ [])) (known qs q line more s) ≡ Some (record s { line = 0 })
  takings_known last size count many ending [] code is lies qs q line more s so_many long numbers =
      let all_numbers : more ≡ many = omega (arith, numbers) in
      ap (λ c. effects tables (c ++ (last ∷ [])) (known qs q line more s)) is
      ∙ ap (λ n. effects tables (last ∷ []) (known qs q line n s)) all_numbers
      ∙ ending qs q line s (omega (arith, so_many)) (omega (arith, long))
  takings_known last size count many ending (Counter one ∷ others) code (front, r, back, are_back, is) lies qs q line
      more s so_many long numbers =
      let later : List DataInstruction = back ++ (last ∷ []) in
      let t = known qs q line more s in
      ap (λ c. effects tables (c ++ (last ∷ [])) t) is
      ∙ ap (λ c. effects tables c t) (append_assoc front back (last ∷ []))
      ∙ effects_append tables front later t
      ∙ ap (λ o. and_then o (effects tables later)) (reference_known items tables one front r lies.0 t)
      ∙ takings_known last size count many ending others
      back are_back lies.1 (record { item = r.index; reach = last_begin r.found one.part } ∷ qs) q line more s
      (omega (arith, so_many)) long numbers
  takings_known last size count many ending (Text (Bytes one) ∷ others) code (front, taking, back, are_back, is) lies qs
      q
      line more s so_many long numbers =
      let later : List DataInstruction = back ++ (last ∷ []) in
      let t = known qs q line more s in
      let own = count_of (room_of items one) in
      ap (λ c. effects tables (c ++ (last ∷ [])) t) is
      ∙ ap (λ c. effects tables c t) (append_assoc front back (last ∷ []))
      ∙ effects_append tables front later t
      ∙ ap (λ o. and_then o (effects tables later))
      (bytes_known (room_of items one) one front taking lies.0 qs q line more s)
      ∙ takings_known last size count many ending others back are_back lies.1 qs q
      (line + text_size items (Bytes one)) (more + (own + own)) s so_many (omega (arith, long))
      (omega (arith, numbers))
  takings_known last size count many ending (Text (Characters text) ∷ others) code (front, is_text, back, are_back, is)
      lies qs q line more s so_many long numbers =
      let later : List DataInstruction = back ++ (last ∷ []) in
      let t = known qs q line more s in
      ap (λ c. effects tables (c ++ (last ∷ [])) t) is
      ∙ ap (λ c. effects tables c t) (append_assoc front back (last ∷ []))
      ∙ effects_append tables front later t
      ∙ ap (λ o. and_then o (effects tables later)) (text_known items tables text front is_text t)
      ∙ takings_known last size count many ending others back are_back lies.1 qs q (line + length text) more s so_many
      (omega (arith, long)) numbers

  -- nothing was taken yet
  at_first : (q : PlaceShape) (s : Shape) (code : List DataInstruction)
      → effects tables code (record s { stacks = record s.stacks { places = q ∷ s.stacks.places } })
      ≡ effects tables code (known [] q s.line 0 s)
  at_first q s code =
      let same : s.stacks.numbers ≡ s.stacks.numbers + 0 = omega arith in
      ap (λ n. effects tables code
      (record s { stacks = record { numbers = n; places = q ∷ s.stacks.places } })) same

  pub inspect_leaves : (one : InspectStatement) (code : List DataInstruction) → IsInspectCode items tables one code
      → LiesInspect items tables one → KnowsInspect items tables code
  inspect_leaves one code (subject, r, parts, are, index, has, is) lies s none =
      let n = taken_numbers items (takings items one) in
      let later : List DataInstruction = parts ++ (inspect_by index n ∷ []) in
      let q : PlaceShape = record { item = r.index; reach = last_begin r.found one.subject.part } in
      ap (λ c. effects tables c s) is
      ∙ effects_append tables subject later s
      ∙ ap (λ o. and_then o (effects tables later)) (reference_known items tables one.subject subject r lies.0 s)
      ∙ at_first q s later
      ∙ takings_known (inspect_by index n) (inspected_size items one) (length (inspection items one).counters) n
      (inspect_known index (inspection items one) (inspected_size items one) n has) (takings items one) parts are lies.1
      [] q s.line 0 s (omega (arith, counters_are items one)) (omega arith) (omega arith)
      ∙ ap (λ n. Some (record s { line = n })) (sym none)

  pub convert_leaves : (one : Converting) (code : List DataInstruction) → IsConvertCode items tables one code
      → LiesInspect items tables (as_replacing one) → KnowsInspect items tables code
  convert_leaves one code (subject, r, parts, are, index, has, is) lies s none =
      let replacing = as_replacing one in
      let n = taken_numbers items (takings items replacing) in
      let counted : counters_in (takings items replacing) ≡ 0 = counters_are items replacing in
      let later : List DataInstruction = parts ++ (convert_by index n ∷ []) in
      let q : PlaceShape = record { item = r.index; reach = last_begin r.found one.subject.part } in
      ap (λ c. effects tables c s) is
      ∙ effects_append tables subject later s
      ∙ ap (λ o. and_then o (effects tables later)) (reference_known items tables one.subject subject r lies.0 s)
      ∙ at_first q s later
      ∙ takings_known (convert_by index n) (inspected_size items replacing) 0 n
      (convert_known index (inspection items replacing) (inspected_size items replacing) n has)
      (takings items replacing)
      parts are lies.1 [] q s.line 0 s (omega (arith, counted)) (omega arith) (omega arith)
      ∙ ap (λ n. Some (record s { line = n })) (sym none)
