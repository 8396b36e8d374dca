use Rattle.std.proofs.Common.{◌≡◌, drop, take}
use Rattle.std.specs.Prelude.{map}
use Rattle.source_tree.specs.Broken.{each}
use Rattle.source_tree.specs.FileRules.{description_rules}
use Rattle.entry_rules.specs.RecordAreas.{length_of}
use Rattle.entry_rules.proofs.FileEntries.{AreAdded}
use Rattle.entry_rules.proofs.descriptions.check_files.Given as goal

abbrev pub invariant-loop-one : goal.invariant-loop-one
invariant-loop-one l = record {
  rules : each description_rules l.descriptions ≡ each description_rules (drop l.one-index l.descriptions);
  lengths : l.lengths.items ≡ map length_of (take l.one-index l.descriptions);
  areas : AreAdded l.storage l.descriptions l.one-index l.areas;
}
