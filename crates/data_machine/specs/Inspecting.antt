-- What INSPECT finds, and its room.
use Rattle.std.specs.Prelude.{◌≡◌, ℕ, zero, suc, ◌<◌, ◌≤◌, List, [], ◌∷◌, length, Option, Some, None, slice_get, slice_index}
use Rattle.std.specs.Prelude.{Result, Ok, Err}
use Rattle.items.specs.declared.item.Kind.TheVariants as kind
use Rattle.source_tree.specs.Storage.{Storage}
use Rattle.source_tree.specs.Evaluated.{Evaluation, ◌>>=◌}
use Rattle.source_tree.specs.Inspecting.{add_each}
use Rattle.text_ops.specs.declared.entry.Entry.{Entry}
use Rattle.text_ops.specs.Inspect.{tally}
use Rattle.source_tree.specs.References.{ItemPlace, storage_with}
use Rattle.data_instructions.specs.declared.place.Place.{Place}
use Rattle.data_instructions.specs.declared.tables.DataItem.{DataItem}
use Rattle.data_instructions.specs.declared.tables.Inspection.{Inspection}
use Rattle.data_instructions.specs.declared.tables.DataTables.{DataTables}
use Rattle.data_instructions.specs.declared.fault.ProgramFault.{ProgramFault}
use Rattle.data_instructions.specs.Faults.{fault_of}
use Rattle.data_instructions.specs.Tables.{shortened_item, item_place}
use Rattle.data_machine.specs.declared.inspect_room.InspectRoom.{InspectRoom}
use Rattle.data_machine.specs.Finds.{IsItemAt, FindsItem, HasItemRoom}

-- Room for the entries of each inspection, for the count of each entry of TALLYING, and for the text of each item.
pub record HasInspectRoom (tables : DataTables) (room : InspectRoom) : Type 0 where
  pub tallied : (k : ℕ) (one : Inspection) → slice_get tables.inspections k ≡ Some one → length one.tallying ≤ length room.entries.items
  pub replaced : (k : ℕ) (one : Inspection) → slice_get tables.inspections k ≡ Some one → length one.replacing ≤ length room.entries.items
  pub tallying : (k : ℕ) (one : Inspection) → slice_get tables.inspections k ≡ Some one → length one.tallying ≤ length room.progress.items
  pub replacing : (k : ℕ) (one : Inspection) → slice_get tables.inspections k ≡ Some one → length one.replacing ≤ length room.progress.items
  pub counts : (k : ℕ) (one : Inspection) → slice_get tables.inspections k ≡ Some one → length one.tallying ≤ length room.counts.items
  pub text : HasItemRoom tables room.text.room

-- the same room
pub record SameRoom (old new : InspectRoom) : Type 0 where
  pub entries : length new.entries.items ≡ length old.entries.items
  pub progress : length new.progress.items ≡ length old.progress.items
  pub counts : length new.counts.items ≡ length old.counts.items
  pub text : new.text.room ≡ old.text.room

-- so many of the counts are how often each entry fits in the subject
abbrev pub CountsEach : ℕ → List ℕ → List ℕ → List Entry → List ℕ → Type 0
CountsEach n counts texts entries subject =
    (k : ℕ) → k < n → slice_index counts k ≡ tally texts entries subject k

-- the item at a place; an index of none has no bytes
abbrev pub there_or_none : Place → Option DataItem → ItemPlace
there_or_none p None = record { item = record { kind = kind.Group; length = 0 }; editing = None; area = 0; offset = p.offset }
there_or_none p (Some one) = item_place (shortened_item one p.length) p.offset

abbrev pub there : DataTables → Place → ItemPlace
there tables p = there_or_none p (slice_get tables.items p.item.number)

-- an item stands at each place
abbrev pub StandEach : DataTables → Storage → List Place → Type 0
StandEach tables storage [] = Unit {0}
StandEach tables storage (p ∷ ps) = IsItemAt tables storage p × StandEach tables storage ps

-- items stand at so many of the newest places, and at the one below
abbrev pub FindsPlaces : DataTables → Storage → ℕ → List Place → Type 0
FindsPlaces tables storage zero ps = FindsItem tables storage ps
FindsPlaces tables storage (suc n) [] = ⊥
FindsPlaces tables storage (suc n) (p ∷ ps) = IsItemAt tables storage p × FindsPlaces tables storage n ps

-- the storage that was found out, or the fault
abbrev pub IsAddedStorage : Result (Unit {0}) ProgramFault → Storage → Evaluation Storage → Type 0
IsAddedStorage (Ok done) new answer = answer ≡ Ok new
IsAddedStorage (Err fault) new answer = answer ≡ Err (fault_of fault)

-- Without entries nothing is stored.
abbrev pub stored_by : List Entry → ItemPlace → List ℕ → Storage → Storage
stored_by [] place text storage = storage
stored_by (one ∷ more) place text storage = storage_with place text storage

-- first the counters, and then the text
abbrev pub added_and_stored : List ItemPlace → List ℕ → List Entry → ItemPlace → List ℕ → Storage → Evaluation Storage
added_and_stored counters fits replacing place text storage = add_each counters fits storage >>= (λ after. Ok (stored_by replacing place text after))
