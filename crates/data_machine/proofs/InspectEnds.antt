-- What an INSPECT leaves, of the item and the texts as they were read.
use Rattle.std.proofs.Common.{◌≡◌, ℕ, ◌+◌, ◌<◌, ◌≤◌, length, map, drop, List, [], sym, ap, subst, ◌∙◌, Some}
use Rattle.std.specs.Prelude.{reverse, ◌++◌, slice_get, slice_index, Result}
use Rattle.items.specs.Texts.{padded_text}
use Rattle.text_ops.specs.Inspect.{tally, replaced_subject}
use Rattle.source_tree.specs.Computed.{ArithmeticValue}
use Rattle.source_tree.specs.Storage.{Storage}
use Rattle.source_tree.specs.References.{part_of}
use Rattle.source_tree.specs.InspectLayout as layout
use Rattle.data_instructions.specs.declared.place.Place.{Place}
use Rattle.data_instructions.specs.declared.tables.DataItem.{DataItem}
use Rattle.data_instructions.specs.declared.tables.DataTables.{DataTables}
use Rattle.data_instructions.specs.declared.tables.Inspection.{Inspection}
use Rattle.data_instructions.specs.declared.fault.ProgramFault.{ProgramFault}
use Rattle.data_instructions.specs.Scratch.{Scratch, Step}
use Rattle.data_instructions.specs.Table.{inspected_with, at_numbers, measured_inspection}
use Rattle.data_instructions.specs.Tables.{shortened_item, item_place, total_length}
use Rattle.data_machine.specs.Comes.{IsStepOf}
use Rattle.data_machine.specs.Inspecting.{there, StandEach, added_and_stored, IsAddedStorage}
use Rattle.data_machine.proofs.Inspects.{inspect_measured_comes}

module _ (tables : DataTables) (one : Inspection) (n : ℕ) (found : List ArithmeticValue) (qs : List Place) (p : Place)
    (to seen : DataItem) (s : Scratch) (texts bytes : List ℕ) (seen_is : seen ≡ shortened_item to p.length)
    (texts_are : texts ≡ padded_text one.size s.line)
    (bytes_are : bytes ≡ part_of s.storage (item_place seen p.offset)) where
  abbrev measured : Inspection
  measured = measured_inspection (reverse found) one

  subject_is : bytes ≡ part_of s.storage (item_place (shortened_item to p.length) p.offset)
  subject_is = bytes_are ∙ ap (λ (o : DataItem). part_of s.storage (item_place o p.offset)) seen_is

  counted : (counts read : List ℕ) → counts ≡ read
      → ((k : ℕ) → k < length one.tallying → slice_index read k ≡ tally texts measured.tallying bytes k)
      → (k : ℕ) → k < length one.tallying → slice_index counts k ≡ tally (padded_text one.size s.line)
      measured.tallying (part_of s.storage (item_place (shortened_item to p.length) p.offset)) k
  counted counts read same each k lt =
      ap (λ xs. slice_index xs k) same ∙ each k lt ∙ ap (λ xs. tally xs measured.tallying bytes k) texts_are
      ∙ ap (λ xs. tally (padded_text one.size s.line) measured.tallying xs k) subject_is

  replaced : (text read : List ℕ) → text ≡ read → read ≡ replaced_subject texts measured.replacing bytes
      → text ≡ replaced_subject (padded_text one.size s.line) measured.replacing
      (part_of s.storage (item_place (shortened_item to p.length) p.offset))
  replaced text read same is =
      same ∙ is ∙ ap (λ xs. replaced_subject xs measured.replacing bytes) texts_are
      ∙ ap (replaced_subject (padded_text one.size s.line) measured.replacing) subject_is

  -- the stacks and the line that are left
  left_as : (done : Result (Unit {0}) ProgramFault) (new : Storage) (line : List ℕ) (places : List Place)
      (numbers : List ArithmeticValue) (step : Step) → line ≡ [] → places ≡ drop (length one.counters + 1) s.places
      → numbers ≡ drop n s.numbers → IsStepOf done (record s {
        storage = new;
        line = [];
        places = drop (length one.counters + 1) s.places;
        numbers = drop n s.numbers;
      }) step → IsStepOf done (record s { storage = new; line = line; places = places; numbers = numbers }) step
  left_as done new line places numbers step line_is places_are numbers_are comes =
      subst (λ ns. IsStepOf done (record s { storage = new; line = line; places = places; numbers = ns }) step)
      (sym numbers_are) (subst (λ ps.
      IsStepOf done (record s { storage = new; line = line; places = ps; numbers = drop n s.numbers }) step)
      (sym places_are) (subst (λ l. IsStepOf done (record s {
        storage = new;
        line = l;
        places = drop (length one.counters + 1) s.places;
        numbers = drop n s.numbers;
      }) step) (sym line_is) comes))

  pub inspect_ended : (counts read text read_text line : List ℕ) (places : List Place) (numbers : List ArithmeticValue)
      (done : Result (Unit {0}) ProgramFault) (new : Storage) → length found ≡ n → n ≤ length s.numbers
      → s.numbers ≡ reverse found ++ drop n s.numbers → length qs ≡ length one.counters
      → s.places ≡ reverse qs ++ drop (length one.counters) s.places → StandEach tables s.storage qs
      → slice_get s.places (length one.counters) ≡ Some p → slice_get tables.items p.item.number ≡ Some to
      → counts ≡ read
      → ((k : ℕ) → k < length one.tallying → slice_index read k ≡ tally texts measured.tallying bytes k)
      → total_length one.counters ≤ length one.tallying → text ≡ read_text
      → read_text ≡ replaced_subject texts measured.replacing bytes
      → IsAddedStorage done new (added_and_stored (map (there tables) qs)
      (layout.counted_fits (slice_index counts) 0 one.counters) one.replacing (item_place seen p.offset) text s.storage)
      → line ≡ [] → places ≡ drop (length one.counters + 1) s.places → numbers ≡ drop n s.numbers
      → IsStepOf done (record s { storage = new; line = line; places = places; numbers = numbers })
      (at_numbers n (λ ns. inspected_with tables (measured_inspection ns one)) s)
  inspect_ended counts read text read_text line places numbers done new taken within newest many order stand at here
      same each enough text_same text_is adds line_is places_are numbers_are =
      left_as done new line places numbers (at_numbers n (λ ns. inspected_with tables (measured_inspection ns one)) s)
      line_is places_are numbers_are
      (inspect_measured_comes tables one n found qs p to s counts text done new taken within newest many order stand at
      here (counted counts read same each) enough (replaced text read_text text_same text_is)
      (subst (λ (o : DataItem). IsAddedStorage done new (added_and_stored (map (there tables) qs)
      (layout.counted_fits (slice_index counts) 0 one.counters) one.replacing (item_place o p.offset) text s.storage))
      seen_is adds))
