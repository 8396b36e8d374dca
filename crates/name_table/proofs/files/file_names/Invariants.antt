use Rattle.std.proofs.Common.{◌≡◌, ◌≤◌, ℕ, List, length, drop, bytes_eq}
use Rattle.indexmap.specs.IndexMap.{get_by}
use Rattle.name_table.specs.Files.{first_file}
use Rattle.name_table.proofs.files.file_names.Given as goal

abbrev pub invariant-selects : goal.invariant-selects
invariant-selects l = record {
  within : l.left ≤ length l.selects;
  numbered : (characters : List ℕ)
      → get_by (λ k. bytes_eq characters k.now) l.numbers ≡ first_file characters l.left (drop l.left l.selects);
}

abbrev pub decreases-selects : goal.decreases-selects
decreases-selects l = l.left
