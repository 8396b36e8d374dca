use Rattle.std.proofs.Common.{◌≡◌, ◌+◌, ◌++◌, drop}
use Rattle.layout.specs.Fits.{FitFiles}
use Rattle.layout.specs.Placing.{file_items}
use Rattle.layout.proofs.file_records.place_files.Given as goal

abbrev pub invariant-loop-file : goal.invariant-loop-file
invariant-loop-file l = record {
  fits : FitFiles (drop l.file-index l.files);
  area_is : l.area ≡ l.first + l.file-index;
  placed : l.out.items ++ file_items l.area (drop l.file-index l.files)
      ≡ l.initial.out.items ++ file_items l.first l.files;
}
