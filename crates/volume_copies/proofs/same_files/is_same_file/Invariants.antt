use Rattle.std.proofs.Common.{◌<◌, ℕ}
use Rattle.records.specs.declared.key.KeyOfReference.TheVariants.{Alternate}
use Rattle.records.specs.Stores.{spec_of}
use Rattle.file_bytes.specs.Stored.{rows_of}
use Rattle.volume_copies.specs.Same.{IsSameOrder}
use Rattle.volume_copies.proofs.same_files.is_same_file.Given as goal

abbrev pub invariant-loop-key : goal.invariant-loop-key
invariant-loop-key l = (i : ℕ) → i < l.key
    → IsSameOrder (spec_of l.one.spec) (Alternate i) (rows_of l.one.rows.items) (rows_of l.two.rows.items)
