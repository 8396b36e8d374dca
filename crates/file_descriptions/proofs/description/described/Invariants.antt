use Rattle.std.proofs.Common.{◌≡◌, ◌+◌, [], drop}
use Rattle.source_tree.specs.Broken.{each}
use Rattle.source_tree.specs.FileRules.{description_rules}
use Rattle.source_tree.specs.ProgramFiles.{described_file}
use Rattle.file_descriptions.proofs.description.described.Given as goal

abbrev pub invariant-loop-file : goal.invariant-loop-file
invariant-loop-file l = record {
  area_is : l.area ≡ l.first + l.file-index;
  rules : each description_rules (drop l.file-index l.files) ≡ [];
  same : described_file l.area l.name (drop l.file-index l.files) ≡ described_file l.first l.name l.files;
}
