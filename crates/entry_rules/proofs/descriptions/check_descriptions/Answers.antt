use Rattle.std.proofs.Common.{arith}
use Rattle.entry_rules.proofs.Totals.{storage_within}
use Rattle.entry_rules.proofs.descriptions.check_descriptions.Goals as goal

pub check_files-requires-clause-within : goal.check_files-requires-clause-within
check_files-requires-clause-within c = let h =
    storage_within c.args.storage.now c.requires.kept in omega (arith, h, c.requires.bytes)
