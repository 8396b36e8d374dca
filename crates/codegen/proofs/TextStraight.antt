-- The code of DISPLAY, ACCEPT and INSPECT is straight: it counts nothing and leads nowhere.
use Rattle.std.proofs.Common.{◌≡◌, List, [], ◌∷◌, refl}
use Rattle.source_tree.specs.declared.reference.Reference.{Reference}
use Rattle.source_tree.specs.declared.inspect_statement.InspectStatement.{InspectStatement}
use Rattle.source_tree.specs.Converting.{as_replacing}
use Rattle.source_tree.specs.declared.text_statement.TextStatement.{TextStatement}
use Rattle.source_tree.specs.declared.text_statement.TextStatement.TheVariants.{Display, Accept, AcceptDate, Inspect}
use Rattle.source_tree.specs.declared.text_statement.TextStatement.TheVariants.{Convert}
use Rattle.source_tree.specs.InspectLayout as layout
use Rattle.source_tree.specs.InspectLayout.{InspectArgument, takings}
use Rattle.source_tree.specs.InspectRules.{inspect_rules}
use Rattle.source_tree.specs.MeasuredTexts.{room_of}
use Rattle.source_tree.specs.Places.{LocatedItem}
use Rattle.source_tree.specs.Rules.{text_rules}
use Rattle.source_tree.proofs.InspectConverting.{as_replacing_rules}
use Rattle.data_instructions.specs.declared.index.InspectionIndex.{InspectionIndex}
use Rattle.data_instructions.specs.declared.instruction.DataInstruction.{DataInstruction}
use Rattle.data_instructions.specs.declared.instruction.DataInstruction.TheVariants as i
use Rattle.data_instructions.specs.InspectCodes.{gather_by, taken_numbers, inspect_by, convert_by}
use Rattle.code_image.specs.declared.instruction.Instruction.TheVariants as instruction
use Rattle.condition_codegen.specs.Fragments.{sequence, plain_code}
use Rattle.condition_codegen.specs.DataCode.{line_end_fragment, show_fragment, reference_fragment, operand_fragment}
use Rattle.condition_codegen.specs.DataCode.{operands_fragment}
use Rattle.statement_codegen.specs.InspectCode.{inspecting_fragment, inspection_entry, taken_fragment, takings_fragment}
use Rattle.codegen.specs.Layout.{texts_fragment}
use Rattle.codegen.proofs.Inspections.{AreSized, is_inspection}
use Rattle.codegen.proofs.Straight.{AlwaysStraight, both_straight, in_order_straight, one_straight, text_straight}
use Rattle.codegen.proofs.Straight.{line_end_straight, reference_straight, taking_straight, operand_straight}

module _ (items : List LocatedItem) (sized : AreSized items) where
  taken_straight : (one : InspectArgument) → AlwaysStraight items (taken_fragment items one)
  taken_straight (layout.Counter one) = reference_straight items one
  taken_straight (layout.Text (layout.Bytes one)) = taking_straight items (i.Gather (gather_by (room_of items one))) one
  taken_straight (layout.Text (layout.Characters text)) = text_straight text

  inspecting_straight : (instruction : InspectionIndex → DataInstruction) (one : InspectStatement)
      → inspect_rules items one ≡ []
      → AlwaysStraight items (inspecting_fragment instruction (inspection_entry items one))
  inspecting_straight instruction one e before =
      record {
        instructions = (tt, tt);
        starts = refl;
        files = refl;
        areas = refl;
        entries = tt;
        senders = tt;
        inspections = (is_inspection items sized one e, tt);
      }

  -- the place of a subject, and all of an inspection
  subject_straight : (subject : Reference) (instruction : InspectionIndex → DataInstruction) (one : InspectStatement)
      → inspect_rules items one ≡ []
      → AlwaysStraight items (sequence (reference_fragment items subject)
      (sequence (takings_fragment items (takings items one))
      (inspecting_fragment instruction (inspection_entry items one))))
  subject_straight subject instruction one e =
      let parts = takings_fragment items (takings items one) in
      let last = inspecting_fragment instruction (inspection_entry items one) in
      both_straight (reference_fragment items subject) (sequence parts last) (reference_straight items subject)
      (both_straight parts last (in_order_straight (taken_fragment items) taken_straight (takings items one))
      (inspecting_straight instruction one e))

  pub texts_straight : (one : TextStatement) → text_rules items one ≡ []
      → AlwaysStraight items (texts_fragment items one)
  texts_straight (Display operands advancing) e =
      both_straight (sequence (operands_fragment items operands) (line_end_fragment advancing)) show_fragment
      (both_straight (operands_fragment items operands) (line_end_fragment advancing)
      (in_order_straight (operand_fragment items) (operand_straight items) operands) (line_end_straight advancing))
      (one_straight instruction.Show tt)
  texts_straight (Accept receiver) e =
      both_straight (reference_fragment items receiver) (λ before. plain_code (instruction.Accept ∷ []))
      (reference_straight items receiver) (one_straight instruction.Accept tt)
  texts_straight (AcceptDate receiver) e =
      both_straight (reference_fragment items receiver) (λ before. plain_code (instruction.Date ∷ []))
      (reference_straight items receiver) (one_straight instruction.Date tt)
  texts_straight (Inspect one) e =
      subject_straight one.subject (λ index. inspect_by index (taken_numbers items (takings items one))) one e
  texts_straight (Convert one) e =
      let as_one = as_replacing one in
      subject_straight one.subject (λ index. convert_by index (taken_numbers items (takings items as_one))) as_one
      (as_replacing_rules items one e)
