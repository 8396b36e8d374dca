use Rattle.std.proofs.Common.{◌≡◌, ◌++◌, drop, map}
use Rattle.std.specs.List.{AllByRecursion}
use Rattle.file_descriptions.specs.Clauses.{KeepsClauses}
use Rattle.file_descriptions.specs.Files.{file_in, numbers_in, clause_numbers, files_after}
use Rattle.file_descriptions.specs.Sources.{data_in, items_in}
use Rattle.file_descriptions.proofs.files.put_files.Given as goal

abbrev pub invariant-loop-number : goal.invariant-loop-number
invariant-loop-number l = record {
  clauses : AllByRecursion (KeepsClauses (items_in l.source)) (drop l.number l.selects);
  files : map (file_in (items_in l.source)) l.out.items
      ++ files_after (data_in l.source) l.number (drop l.number l.selects)
      ≡ map (file_in (items_in l.source)) l.initial.out.items ++ files_after (data_in l.source) 0 l.selects;
  numbers : map numbers_in l.out.items ++ map (clause_numbers (items_in l.source)) (drop l.number l.selects)
      ≡ map numbers_in l.initial.out.items ++ map (clause_numbers (items_in l.source)) l.selects;
}
