use Rattle.std.proofs.Common.{◌≡◌, drop}
use Rattle.source_tree.specs.Broken.{each}
use Rattle.source_tree.specs.FileRules.{select_rules}
use Rattle.source_tree.specs.Records.{storage_areas}
use Rattle.declarations.specs.Found.{items_of}
use Rattle.declarations.proofs.declared_items.DeclaredItems.selects_rules.Given as goal

abbrev pub invariant-loop-one : goal.invariant-loop-one
invariant-loop-one l =
    each (select_rules (items_of l.self) (storage_areas l.self.storage.now) l.self.descriptions.now) l.selects
    ≡ each (select_rules (items_of l.self) (storage_areas l.self.storage.now) l.self.descriptions.now)
    (drop l.one-index l.selects)
