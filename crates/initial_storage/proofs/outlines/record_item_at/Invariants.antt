use Rattle.std.proofs.Common.{◌≡◌, drop}
use Rattle.std.specs.Prelude.{slice_get}
use Rattle.std.specs.List.{AllByRecursion}
use Rattle.initial_storage.specs.Fits.{FitsFile}
use Rattle.initial_storage.specs.Formed.{FormsFile}
use Rattle.initial_storage.specs.Patterns.{file_outlines}
use Rattle.initial_storage.proofs.outlines.record_item_at.Given as goal

abbrev pub invariant-loop-file : goal.invariant-loop-file
invariant-loop-file l = record {
  fits : AllByRecursion FitsFile (drop l.file-index l.files);
  formed : AllByRecursion FormsFile (drop l.file-index l.files);
  same : slice_get (file_outlines (drop l.file-index l.files)) l.left ≡ slice_get (file_outlines l.files) l.number;
}
