-- The code of INSPECT is what the laws of instructions on data speak of, where the rules are kept, and its items lie in
-- their areas.
use Rattle.std.proofs.Common.{◌≡◌, ℕ, List, [], ◌∷◌, ◌++◌, length, Some, refl, ap}
use Rattle.std.specs.Prelude.{slice_get}
use Rattle.std.specs.List.{AllByRecursion}
use Rattle.lexical.specs.declared.place.Place.{Place}
use Rattle.source_tree.specs.declared.reference.Reference.{Reference}
use Rattle.source_tree.specs.declared.inspect_statement.Converting.{Converting}
use Rattle.source_tree.specs.declared.inspect_statement.InspectStatement.{InspectStatement}
use Rattle.source_tree.specs.Converting.{as_replacing, convert_rules}
use Rattle.source_tree.specs.Broken.{RuleBreach}
use Rattle.source_tree.specs.InspectRules.{counter_item, inspected_item, inspect_rules}
use Rattle.source_tree.specs.InspectLayout.{Source, Bytes, Characters, InspectArgument, Counter, Text, takings}
use Rattle.source_tree.specs.InspectLayout.{inspection, inspected_size}
use Rattle.source_tree.specs.MeasuredTexts.{room_of}
use Rattle.source_tree.specs.NameRules.{reference_rules}
use Rattle.source_tree.specs.Places.{LocatedItem}
use Rattle.source_tree.proofs.InspectConverting.{as_replacing_rules}
use Rattle.data_instructions.specs.declared.index.InspectionIndex.{InspectionIndex}
use Rattle.data_instructions.specs.declared.instruction.DataInstruction.{DataInstruction}
use Rattle.data_instructions.specs.declared.instruction.DataInstruction.TheVariants as i
use Rattle.data_instructions.specs.Codes.{data_item, IsReferenceCode}
use Rattle.data_instructions.specs.Chains.{LiesWhole}
use Rattle.data_instructions.specs.InspectCodes.{IsTakenCode, AreTakenCode, HasInspection, IsInspectCode, LiesTaking}
use Rattle.data_instructions.specs.InspectCodes.{LieTakings, LiesInspect, IsConvertCode, gather_by, taken_numbers}
use Rattle.data_instructions.specs.InspectCodes.{inspect_by, convert_by}
use Rattle.code_image.specs.declared.code.Code.{Code}
use Rattle.condition_codegen.specs.Fragments.{sequence}
use Rattle.condition_codegen.specs.DataCode.{reference_fragment}
use Rattle.statement_codegen.specs.InspectCode.{inspecting_fragment, taken_fragment, takings_fragment, inspection_entry}
use Rattle.statement_codegen.specs.InspectCode.{inspect_fragment, convert_fragment}
use Rattle.codegen.proofs.Codes.{reference_coded, text_coded}
use Rattle.codegen.proofs.CodedPieces.{CodedBy, both_by}
use Rattle.codegen.proofs.ExpressionCodes.{taking_codes}
use Rattle.statement_codegen.proofs.InspectKept.{KeepsTaking, keeps_inspect, takings_keep}
use Rattle.codegen.proofs.Lying.{lies_all}
use Rattle.codegen.proofs.Standing.{inspection_stands}

module _ (items : List LocatedItem) where
  -- An item that is looked at keeps its rule.
  abbrev MayBeTaken : Source → Type 0
  MayBeTaken (Bytes one) = reference_rules items inspected_item one ≡ []
  MayBeTaken (Characters text) = Unit {0}

  all_may : (one : InspectStatement) → inspect_rules items one ≡ []
      → AllByRecursion (KeepsTaking items MayBeTaken) (takings items one)
  all_may one e =
      takings_keep items MayBeTaken (λ one e. e) (λ one e. tt) (λ constant. tt) (λ text h constant. tt) one
      (keeps_inspect items one e)

  module _ (whole : Code) (entries : (n : ℕ) (one : LocatedItem) → slice_get items n ≡ Some one
      → slice_get whole.tables.items n ≡ Some (data_item one)) where
    place_codes : (asked : Place → LocatedItem → List RuleBreach) (one : Reference)
        → reference_rules items asked one ≡ []
        → CodedBy whole (IsReferenceCode items whole.tables one) (reference_fragment items one)
    place_codes asked one e = record { by = λ before st. reference_coded items whole entries asked one before e st }

    taken_codes : (one : InspectArgument) → KeepsTaking items MayBeTaken one
        → CodedBy whole (IsTakenCode items whole.tables one) (taken_fragment items one)
    taken_codes (Counter one) e = place_codes counter_item one e
    taken_codes (Text (Bytes one)) e =
        taking_codes items whole entries (i.Gather (gather_by (room_of items one))) inspected_item one e
    taken_codes (Text (Characters text)) e = record { by = λ before st. text_coded items whole entries text before st }

    takings_codes : (all : List InspectArgument) → AllByRecursion (KeepsTaking items MayBeTaken) all
        → CodedBy whole (AreTakenCode items whole.tables all) (takings_fragment items all)
    takings_codes [] e = record { by = λ before st. record { code = []; is = refl; holds = refl } }
    takings_codes (one ∷ more) e =
        both_by whole (IsTakenCode items whole.tables one) (AreTakenCode items whole.tables more)
        (AreTakenCode items whole.tables (one ∷ more))
        (taken_fragment items one) (takings_fragment items more) (taken_codes one e.0) (takings_codes more e.1)
        (λ front back is others. (front, is, back, others, refl))

    -- the instruction that has the entry
    abbrev IsLastCode : (InspectionIndex → DataInstruction) → InspectStatement → List DataInstruction → Type 0
    IsLastCode instruction one code =
        (index : InspectionIndex) × HasInspection items whole.tables (inspection items one) (inspected_size items one)
        index × (code ≡ instruction index ∷ [])

    last_codes : (instruction : InspectionIndex → DataInstruction) (one : InspectStatement)
        → CodedBy whole (IsLastCode instruction one) (inspecting_fragment instruction (inspection_entry items one))
    last_codes instruction one = record {
      by = λ before st.
          let entry = inspection_entry items one in
          record {
            code = instruction (record { number = length before.tables.inspections }) ∷ [];
            is = refl;
            holds = (
              _,
              record {
                one = entry;
                entry = inspection_stands whole before (inspecting_fragment instruction entry before) entry [] refl st;
                is = refl;
                size_is = refl;
              },
              refl,
            );
          };
    }

    -- all after the subject's place
    abbrev IsBehindCode : (InspectionIndex → DataInstruction) → InspectStatement → List DataInstruction → Type 0
    IsBehindCode instruction one code =
        (parts : List DataInstruction) × AreTakenCode items whole.tables (takings items one) parts
        × (index : InspectionIndex) × HasInspection items whole.tables (inspection items one) (inspected_size items one)
        index × (code ≡ parts ++ (instruction index ∷ []))

    behind_codes : (instruction : InspectionIndex → DataInstruction) (one : InspectStatement)
        → inspect_rules items one ≡ []
        → CodedBy whole (IsBehindCode instruction one) (sequence (takings_fragment items (takings items one))
        (inspecting_fragment instruction (inspection_entry items one)))
    behind_codes instruction one e =
        let parts = takings_fragment items (takings items one) in
        let last = inspecting_fragment instruction (inspection_entry items one) in
        both_by whole (AreTakenCode items whole.tables (takings items one)) (IsLastCode instruction one)
        (IsBehindCode instruction one) parts last
        (takings_codes (takings items one) (all_may one e)) (last_codes instruction one)
        (λ front back is found. (front, is, found.0, found.1, ap (λ l. front ++ l) found.2))

    pub inspect_codes : (one : InspectStatement) → inspect_rules items one ≡ []
        → CodedBy whole (IsInspectCode items whole.tables one) (inspect_fragment items one)
    inspect_codes one e =
        let numbers = taken_numbers items (takings items one) in
        let instruction : InspectionIndex → DataInstruction = λ index. inspect_by index numbers in
        both_by whole (IsReferenceCode items whole.tables one.subject) (IsBehindCode instruction one)
        (IsInspectCode items whole.tables one) (reference_fragment items one.subject)
        (sequence (takings_fragment items (takings items one))
        (inspecting_fragment instruction (inspection_entry items one)))
        (place_codes inspected_item one.subject (keeps_inspect items one e).subject) (behind_codes instruction one e)
        (λ front back is others. (front, is, others.0, others.1, others.2, others.3, ap (λ l. front ++ l) others.4))

    -- CONVERTING takes the same, and ends with another instruction.
    pub convert_codes : (one : Converting) → convert_rules items one ≡ []
        → CodedBy whole (IsConvertCode items whole.tables one) (convert_fragment items one)
    convert_codes one e =
        let as_one = as_replacing one in
        let rules = as_replacing_rules items one e in
        let numbers = taken_numbers items (takings items as_one) in
        let instruction : InspectionIndex → DataInstruction = λ index. convert_by index numbers in
        both_by whole (IsReferenceCode items whole.tables one.subject) (IsBehindCode instruction as_one)
        (IsConvertCode items whole.tables one) (reference_fragment items one.subject)
        (sequence (takings_fragment items (takings items as_one))
        (inspecting_fragment instruction (inspection_entry items as_one)))
        (place_codes inspected_item one.subject (keeps_inspect items as_one rules).subject)
        (behind_codes instruction as_one rules)
        (λ front back is others. (front, is, others.0, others.1, others.2, others.3, ap (λ l. front ++ l) others.4))

    -- ---- areas

    module _ (lie : (n : ℕ) (one : LocatedItem) → slice_get items n ≡ Some one → LiesWhole whole.tables one) where
      lies_taking : (one : InspectArgument) → KeepsTaking items MayBeTaken one → LiesTaking items whole.tables one
      lies_taking (Counter one) e = lies_all items whole entries lie counter_item one e
      lies_taking (Text (Bytes one)) e = lies_all items whole entries lie inspected_item one e
      lies_taking (Text (Characters text)) e = tt

      lie_takings : (all : List InspectArgument) → AllByRecursion (KeepsTaking items MayBeTaken) all
          → LieTakings items whole.tables all
      lie_takings [] e = tt
      lie_takings (one ∷ more) e = (lies_taking one e.0, lie_takings more e.1)

      pub lies_inspect : (one : InspectStatement) → inspect_rules items one ≡ [] → LiesInspect items whole.tables one
      lies_inspect one e = (
        lies_all items whole entries lie inspected_item one.subject (keeps_inspect items one e).subject,
        lie_takings (takings items one) (all_may one e),
      )
