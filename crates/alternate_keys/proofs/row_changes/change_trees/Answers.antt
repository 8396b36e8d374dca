use Rattle.std.proofs.Common.{sym, subst}
use Rattle.alternate_keys.specs.declared.row_verb.RowVerb.{RowVerb}
use Rattle.alternate_keys.specs.Moved.{changed_by}
use Rattle.alternate_keys.specs.RowChanges.{ChangesTrees}
use Rattle.alternate_keys.proofs.row_changes.change_trees.Goals as goal

pub returns-in-Insert : goal.returns-in-Insert
returns-in-Insert g c =
    subst (λ (v : RowVerb). ChangesTrees g.D.Device (λ held. changed_by v c.args.file.now.organization
    c.args.change.number c.args.change.bytes.now held) c.args.file.now c.args.pages.now c.args.device.now
    c.args.listing.now c.insert_trees.new.pages c.insert_trees.new.device c.insert_trees.result) (sym c.in-Insert.is)
    c.insert_trees.ensures

pub returns-in-Replace : goal.returns-in-Replace
returns-in-Replace g c =
    subst (λ (v : RowVerb). ChangesTrees g.D.Device (λ held. changed_by v c.args.file.now.organization
    c.args.change.number c.args.change.bytes.now held) c.args.file.now c.args.pages.now c.args.device.now
    c.args.listing.now c.replace_trees.new.pages c.replace_trees.new.device c.replace_trees.result)
    (sym c.in-Replace.is) c.replace_trees.ensures

pub returns-in-Remove : goal.returns-in-Remove
returns-in-Remove g c =
    subst (λ (v : RowVerb). ChangesTrees g.D.Device (λ held. changed_by v c.args.file.now.organization
    c.args.change.number c.args.change.bytes.now held) c.args.file.now c.args.pages.now c.args.device.now
    c.args.listing.now c.remove_trees.new.pages c.remove_trees.new.device c.remove_trees.result) (sym c.in-Remove.is)
    c.remove_trees.ensures
