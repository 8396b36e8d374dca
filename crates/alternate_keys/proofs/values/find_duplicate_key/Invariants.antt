use Rattle.std.proofs.Common.{◌≡◌, ◌&&◌, false, not, List}
use Rattle.std.specs.Prelude.{take}
use Rattle.std.specs.List.{list_any}
use Rattle.btree.specs.Calls.{IfAgrees, pages_on}
use Rattle.records.specs.Rows.{Row}
use Rattle.records.specs.Changes.{repeats}
use Rattle.records.specs.Stores.{spec_of}
use Rattle.volume_format.specs.Calls.{LooksAt}
use Rattle.alternate_keys.specs.Moved.{is_new}
use Rattle.alternate_keys.specs.Placed.{HasAllPairs}
use Rattle.alternate_keys.proofs.values.find_duplicate_key.Given as goal

abbrev pub invariant-loop-key : goal.invariant-loop-key
invariant-loop-key g l = record {
  looks : LooksAt g.D.Device ⊥ l.fn.pages l.fn.device l.pages l.device;
  told : IfAgrees g.D.Device l.fn.pages l.fn.device
      ((rows : List Row) → HasAllPairs (spec_of l.file) (pages_on g.D.Device l.fn.pages l.fn.device) rows l.listing →
      (list_any (λ key. not key.duplicates
      && (is_new l.new_record.verb (take l.file.record_length l.new_record.old_value.now) l.new_record.bytes.now key
      && repeats rows l.new_record.bytes.now key)) (take l.key (spec_of l.file).alternates) ≡ false)
      × (l.duplicate ≡ list_any (λ key. key.duplicates
      && (is_new l.new_record.verb (take l.file.record_length l.new_record.old_value.now) l.new_record.bytes.now key
      && repeats rows l.new_record.bytes.now key)) (take l.key (spec_of l.file).alternates)));
}
