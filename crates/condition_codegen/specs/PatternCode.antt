-- The code of INITIALIZE and of SET (own choice). The new bytes of an item go into the table of texts, and after them what marks them.
use Rattle.std.specs.Prelude.{ℕ, List, [], ◌∷◌, length, map, Option, Some, None, slice_get}
use Rattle.source_tree.specs.declared.reference.Reference.{Reference}
use Rattle.source_tree.specs.Initializing.{Pattern, named_pattern, set_pattern}
use Rattle.source_tree.specs.LookUp.{NamedCondition, all_conditions}
use Rattle.source_tree.specs.Parts.{seen_through}
use Rattle.source_tree.specs.Places.{LocatedItem}
use Rattle.data_instructions.specs.declared.instruction.DataInstruction.TheVariants as i
use Rattle.data_instructions.specs.TextCodes.{new_byte, new_mark}
use Rattle.code_image.specs.declared.instruction.Instruction.TheVariants.{Data}
use Rattle.condition_codegen.specs.Fragments.{Fragment, no_tables, sequence, in_order}
use Rattle.condition_codegen.specs.DataCode.{item_number, dimensions_of, work_fragment, subscripts_fragment}
use Rattle.condition_codegen.specs.DataCode.{reference_fragment}
use Rattle.condition_codegen.specs.ConditionCode.{condition_number, condition_item}

-- New bytes for the newest place, which is taken: those that are marked.
abbrev pub overlay_fragment : List ℕ → List ℕ → Fragment
overlay_fragment bytes marks before = record {
  tables = record no_tables { texts = bytes ∷ marks ∷ [] };
  files = [];
  starts = [];
  instructions = Data (i.Overlay (record { number = length before.tables.texts })) ∷ [];
}

abbrev pub pattern_fragment : Pattern → Fragment
pattern_fragment pattern = overlay_fragment (map new_byte pattern) (map new_mark pattern)

-- what INITIALIZE puts into an item, or into its part
abbrev pub pattern_of : Reference → Option LocatedItem → Pattern
pattern_of one None = []
pattern_of one (Some found) = named_pattern (seen_through one found)

-- what SET puts into the item of a condition name
abbrev pub set_of : Option NamedCondition → Pattern
set_of None = []
set_of (Some found) = set_pattern found

-- `items` are those of the table of items, in order.
module _ (items : List LocatedItem) where
  abbrev pub initialize_fragment : Reference → Fragment
  initialize_fragment one = sequence (reference_fragment items one) (pattern_fragment (pattern_of one (slice_get items (item_number items one.item))))

  -- INITIALIZE, after its `tick`
  abbrev pub initializes_fragment : List Reference → Fragment
  initializes_fragment = in_order initialize_fragment

  -- the item of a condition name, in the occurrence referred to
  abbrev pub set_fragment : Reference → Fragment
  set_fragment one =
      sequence (work_fragment (i.Place (condition_item items one.item)))
      (sequence (subscripts_fragment items (dimensions_of (slice_get items (condition_item items one.item).number)) one.subscripts)
      (pattern_fragment (set_of (slice_get (all_conditions items) (condition_number items one.item)))))

  -- SET, after its `tick`
  abbrev pub sets_fragment : List Reference → Fragment
  sets_fragment = in_order set_fragment
