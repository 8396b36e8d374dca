use Rattle.std.proofs.Common.{sym, ap}
use Rattle.declarations.specs.Named.{items_in}
use Rattle.declarations.specs.Resolved.{are_some}
use Rattle.declarations.proofs.ConditionItems.{named_is}
use Rattle.declarations.proofs.declarations.Declarations.is_condition.Goals as goal

pub look_up-requires : goal.look_up-requires
look_up-requires c = c.args.self.now.declared.conditions.table

pub returns-in-Unknown : goal.returns-in-Unknown
returns-in-Unknown c =
    let all = c.args.self.now in
    let items = items_in all in
    let none = named_is items all.conditions c.args.name.now _ all.declared.conditions
    (c.conditions_named.ensures items c.args.name.now) c.in-Unknown.ensures in
    ap are_some (sym none)

pub returns-in-One : goal.returns-in-One
returns-in-One c =
    let all = c.args.self.now in
    let items = items_in all in
    let named = named_is items all.conditions c.args.name.now _ all.declared.conditions
    (c.conditions_named.ensures items c.args.name.now) c.in-One.ensures in
    ap are_some (sym named.2)

pub returns-in-Several : goal.returns-in-Several
returns-in-Several c =
    let all = c.args.self.now in
    let items = items_in all in
    let some = named_is items all.conditions c.args.name.now _ all.declared.conditions
    (c.conditions_named.ensures items c.args.name.now) c.in-Several.ensures in
    ap are_some (sym some.3)
