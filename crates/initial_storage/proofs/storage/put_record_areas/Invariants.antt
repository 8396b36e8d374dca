use Rattle.std.proofs.Common.{◌≡◌, ◌++◌, drop}
use Rattle.std.specs.List.{AllByRecursion}
use Rattle.source_tree.specs.Records.{record_areas}
use Rattle.initial_storage.specs.Fits.{FitsFile}
use Rattle.initial_storage.proofs.storage.put_record_areas.Given as goal

abbrev pub invariant-loop-file : goal.invariant-loop-file
invariant-loop-file l = record {
  fits : AllByRecursion FitsFile (drop l.file-index l.files);
  put : l.out.items ++ record_areas (drop l.file-index l.files) ≡ l.initial.out.items ++ record_areas l.files;
}
