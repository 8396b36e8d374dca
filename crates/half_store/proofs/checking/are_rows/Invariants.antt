use Rattle.std.proofs.Common.{◌-◌, length, map, drop}
use Rattle.std.specs.List.{AllByRecursion}
use Rattle.records.specs.Files.{IsRow}
use Rattle.records.specs.Laws.{RowsAscend}
use Rattle.records.specs.Stores.{spec_of}
use Rattle.file_bytes.specs.Stored.{row_of}
use Rattle.half_store.proofs.checking.are_rows.Given as goal

abbrev pub invariant-loop-back : goal.invariant-loop-back
invariant-loop-back l = record {
  rows : AllByRecursion (IsRow (spec_of l.spec) l.next) (map row_of (drop (length l.rows - l.back) l.rows));
  ascend : RowsAscend l.spec.organization (map row_of (drop (length l.rows - l.back) l.rows));
}
