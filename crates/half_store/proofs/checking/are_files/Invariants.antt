use Rattle.std.proofs.Common.{◌-◌, length, drop}
use Rattle.std.specs.List.{AllByRecursion}
use Rattle.std.specs.List.Sorted.{IsStrictlySortedBy}
use Rattle.records.specs.Files.{IsNamed, names}
use Rattle.records.specs.Rows.{bytes_cmp}
use Rattle.half_store.specs.Half.{AreEarly}
use Rattle.file_bytes.specs.Stored.{files_of}
use Rattle.half_store.proofs.checking.are_files.Given as goal

abbrev pub invariant-loop-back : goal.invariant-loop-back
invariant-loop-back l = record {
  each : AllByRecursion IsNamed (files_of (drop (length l.files - l.back) l.files));
  early : AreEarly l.generation (files_of (drop (length l.files - l.back) l.files));
  ascend : IsStrictlySortedBy bytes_cmp (names (files_of (drop (length l.files - l.back) l.files)));
}
