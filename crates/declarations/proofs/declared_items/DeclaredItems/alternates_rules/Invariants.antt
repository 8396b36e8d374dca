use Rattle.std.proofs.Common.{◌≡◌, drop}
use Rattle.source_tree.specs.FileRules.{alternate_rules}
use Rattle.declarations.specs.Found.{items_of}
use Rattle.declarations.specs.Selecting.{described_of}
use Rattle.declarations.proofs.declared_items.DeclaredItems.alternates_rules.Given as goal

abbrev pub invariant-loop-one : goal.invariant-loop-one
invariant-loop-one l =
    alternate_rules (items_of l.self) (described_of l.there) l.initial.before.items l.all
    ≡ alternate_rules (items_of l.self) (described_of l.there) l.before.items (drop l.one-index l.all)
