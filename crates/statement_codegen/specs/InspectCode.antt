-- The code of INSPECT (own choice).
use Rattle.std.specs.Prelude.{◌≡◌, ℕ, ◌+◌, Bool, true, false, List, [], ◌∷◌, ◌++◌, length, map, Option}
use Rattle.text_ops.specs.declared.entry.Span.{Span}
use Rattle.source_tree.specs.declared.expression.Operand.{Operand}
use Rattle.source_tree.specs.declared.inspect_statement.Limits.{Limits}
use Rattle.source_tree.specs.declared.inspect_statement.Tallying.{Tallying}
use Rattle.source_tree.specs.declared.inspect_statement.Converting.{Converting}
use Rattle.source_tree.specs.declared.inspect_statement.InspectStatement.{InspectStatement}
use Rattle.source_tree.specs.Converting.{as_replacing}
use Rattle.source_tree.specs.Places.{LocatedItem}
use Rattle.source_tree.specs.InspectLayout.{Source, Bytes, Characters, InspectArgument, Counter, Text, InspectEntry}
use Rattle.source_tree.specs.InspectLayout.{text_sizes, limit_text, limit_texts, entries_texts, span_at, limit_span}
use Rattle.source_tree.specs.InspectLayout.{before_at, after_at, entries_at, counter_entries, tallying_takings}
use Rattle.source_tree.specs.InspectLayout.{all_inspected, entry_counts, takings, inspection, inspected_size}
use Rattle.source_tree.specs.InspectLayout.{measured_texts}
use Rattle.source_tree.specs.MeasuredTexts.{room_of}
use Rattle.data_instructions.specs.declared.gather.Gather.{Gather}
use Rattle.data_instructions.specs.declared.gather.Gather.TheVariants as g
use Rattle.data_instructions.specs.declared.tables.Inspection.{Inspection}
use Rattle.data_instructions.specs.declared.index.InspectionIndex.{InspectionIndex}
use Rattle.data_instructions.specs.declared.instruction.DataInstruction.{DataInstruction}
use Rattle.data_instructions.specs.declared.instruction.DataInstruction.TheVariants as i
use Rattle.data_instructions.specs.InspectCodes.{gather_by, inspect_by, convert_by, taken_numbers}
use Rattle.code_image.specs.declared.code.Code.{Code}
use Rattle.code_image.specs.declared.instruction.Instruction.TheVariants.{Data}
use Rattle.condition_codegen.specs.Fragments.{Fragment, no_tables, append, sequence, in_order}
use Rattle.condition_codegen.specs.DataCode.{text_fragment, reference_fragment, take_fragment}
use Rattle.statement_codegen.specs.declared.inspect_statement.TextLine.{TextLine}
use Rattle.statement_codegen.specs.declared.inspect_statement.Entries.{Entries}

-- What adds a text to the line.
abbrev pub gather : Bool → Gather
gather false = g.Sized
gather true = g.Measured

abbrev pub one_if : Bool → ℕ
one_if false = 0
one_if true = 1

-- the line after a text of this length, or of this room if it is measured
abbrev pub longer_line : ℕ → Bool → TextLine → TextLine
longer_line length measured line = record { size = line.size + length; measured = line.measured + one_if measured }

-- an entry of the table, and the instruction that has it
abbrev pub inspecting_fragment : (InspectionIndex → DataInstruction) → Inspection → Fragment
inspecting_fragment instruction one before = record {
  tables = record no_tables { inspections = one ∷ [] };
  files = [];
  starts = [];
  instructions = Data (instruction (record { number = length before.tables.inspections })) ∷ [];
}

-- the INSPECT of an entry of the table, with so many numbers
abbrev pub inspection_fragment : Inspection → ℕ → Fragment
inspection_fragment one numbers = inspecting_fragment (λ index. inspect_by index numbers) one

-- the INSPECT CONVERTING of an entry of the table
abbrev pub conversion_fragment : Inspection → ℕ → Fragment
conversion_fragment one numbers = inspecting_fragment (λ index. convert_by index numbers) one

-- `items` are those of the table of items, in order.
module _ (items : List LocatedItem) where
  -- A counter's place stays on the stack of places. A text is added to the line, an item's with as many bytes as it has or, if these
  -- are known in the run only, as its whole item has.
  abbrev pub taken_fragment : InspectArgument → Fragment
  taken_fragment (Counter one) = reference_fragment items one
  taken_fragment (Text (Bytes one)) = take_fragment items (i.Gather (gather_by (room_of items one))) one
  taken_fragment (Text (Characters text)) = text_fragment text

  abbrev pub takings_fragment : List InspectArgument → Fragment
  takings_fragment = in_order taken_fragment

  -- what the table has of an INSPECT
  abbrev pub inspection_entry : InspectStatement → Inspection
  inspection_entry one = record {
    size = inspected_size items one;
    counters = (inspection items one).counters;
    tallying = (inspection items one).tallying;
    replacing = (inspection items one).replacing;
  }

  -- INSPECT, after its `tick`
  abbrev pub inspect_fragment : InspectStatement → Fragment
  inspect_fragment one =
      let all = takings items one in
      sequence (reference_fragment items one.subject)
      (sequence (takings_fragment all) (inspection_fragment (inspection_entry one) (taken_numbers items all)))

  -- INSPECT CONVERTING, after its `tick`: the same, with another instruction
  abbrev pub convert_fragment : Converting → Fragment
  convert_fragment one =
      let replacing = as_replacing one in
      let all = takings items replacing in
      sequence (reference_fragment items one.subject)
      (sequence (takings_fragment all) (conversion_fragment (inspection_entry replacing) (taken_numbers items all)))

  -- ---- while it is made: texts that are taken, and entries that have them

  -- These are taken after the code.
  abbrev pub Takes : List InspectArgument → Code → Code → Type 0
  Takes all before after = after ≡ append before (takings_fragment all before)

  abbrev pub TakesTexts : List Source → Code → Code → Type 0
  TakesTexts texts before after = Takes (map Text texts) before after

  -- the line after these texts
  abbrev pub line_after : List Source → TextLine → TextLine
  line_after texts line = record {
    size = line.size + text_sizes items texts;
    measured = line.measured + measured_texts items (map Text texts);
  }

  -- A text is taken, at this span of the line.
  pub record TextMade (one : Source) (before after : Code) (old new : TextLine) (span : Span) : Type 0 where
    pub code : TakesTexts (one ∷ []) before after
    pub line_is : new ≡ line_after (one ∷ []) old
    pub span_is : span ≡ span_at items old.size one

  -- the text of a limit, if it stands
  pub record LimitMade (one : Option Operand) (before after : Code) (old new : TextLine) (span : Option Span) :
      Type 0 where
    pub code : TakesTexts (limit_text one) before after
    pub line_is : new ≡ line_after (limit_text one) old
    pub span_is : span ≡ limit_span items old.size one

  -- those of BEFORE and AFTER
  pub record LimitsMade (one : Limits) (start end : Code) (old new : TextLine) (before after : Option Span) :
      Type 0 where
    pub code : TakesTexts (limit_texts one) start end
    pub line_is : new ≡ line_after (limit_texts one) old
    pub before_is : before ≡ limit_span items (before_at items old.size one) one.before
    pub after_is : after ≡ limit_span items (after_at items old.size one) one.after

  -- The texts of entries are taken, and the entries are in the list.
  pub record Puts (all : List InspectEntry) (before after : Code) (old new : Entries) : Type 0 where
    pub code : TakesTexts (entries_texts all) before after
    pub line_is : new.line ≡ line_after (entries_texts all) old.line
    pub entries_are : new.entries ≡ old.entries ++ entries_at items old.line.size all

  -- the same of counters, with how many entries each has
  pub record Counts (all : List Tallying) (before after : Code) (old new : Entries) (counts counts_after : List ℕ) :
      Type 0 where
    pub code : Takes (tallying_takings all) before after
    pub line_is : new.line ≡ line_after (entries_texts (all_inspected counter_entries all)) old.line
    pub entries_are : new.entries ≡ old.entries ++ entries_at items old.line.size (all_inspected counter_entries all)
    pub counts_are : counts_after ≡ counts ++ entry_counts all
