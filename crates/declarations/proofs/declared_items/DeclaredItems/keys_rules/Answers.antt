use Rattle.std.proofs.Common.{[], ◌∷◌}
use Rattle.std.proofs.lemmas.Result.{err_from_is_err_and}
use Rattle.source_tree.specs.FileRules.{clause_item, key_item, alternate_rules}
use Rattle.source_tree.specs.ProgramFiles.{key_place}
use Rattle.entry_rules.specs.Checks.{broken_of}
use Rattle.declarations.specs.Found.{items_of}
use Rattle.declarations.specs.Selecting.{described_of}
use Rattle.declarations.proofs.Firsts.{first_front}
use Rattle.declarations.proofs.declared_items.DeclaredItems.keys_rules.Goals as goal

pub returns-in_err-first : goal.returns-in_err-first
returns-in_err-first c =
    let p = err_from_is_err_and c.from_residual.result c.from_residual.ensures.1 in
    let items = items_of c.args.self.now in
    let there = described_of c.args.there in
    let prime = c.args.prime.now in
    rw (p.1, p.2) (first_front (clause_item items (key_item there []) prime)
    (alternate_rules items there ((key_place items prime).offset ∷ []) c.args.alternates.now)
    (broken_of c.in_err-first.field-0.0) c.in_err-first.ensures.rules)
