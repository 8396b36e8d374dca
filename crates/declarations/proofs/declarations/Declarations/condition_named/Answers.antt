use Rattle.std.proofs.Common.{◌≡◌, Some, length, refl, sym, ◌∙◌, arith}
use Rattle.std.proofs.lemmas.Option.{slice_get_read, slice_get_within}
use Rattle.source_tree.specs.LookUp.{conditions_named}
use Rattle.layout.specs.Placing.{placed_item}
use Rattle.declarations.specs.Named.{items_in}
use Rattle.declarations.proofs.ConditionItems.{named_is, number_within, placed_is}
use Rattle.declarations.proofs.LookedUp.{unknown, several}
use Rattle.declarations.proofs.declarations.Declarations.condition_named.Goals as goal

pub look_up-requires : goal.look_up-requires
look_up-requires c = c.args.self.now.declared.conditions.table

pub index-requires : goal.index-requires
index-requires c =
    let all = c.args.self.now in
    let items = items_in all in
    let named = named_is items all.conditions c.args.name.now _ all.declared.conditions
    (c.conditions_named.ensures items c.args.name.now) c.in-One.ensures in
    let within = number_within items all.conditions.conditions.items all.declared.conditions.found c.in-One.number
    named.0 named.1 in
    omega (arith, within, all.conditions.conditions.ok.0)

pub placed_at-requires : goal.placed_at-requires
placed_at-requires c =
    let all = c.args.self.now in
    let items = items_in all in
    let named = named_is items all.conditions c.args.name.now _ all.declared.conditions
    (c.conditions_named.ensures items c.args.name.now) c.in-One.ensures in
    let declared = all.conditions.conditions.items in
    let within = number_within items declared all.declared.conditions.found c.in-One.number named.0 named.1 in
    let at = slice_get_read declared (length declared) c.in-One.number c.index.result.now refl within c.index.ensures in
    slice_get_within all.layout.items c.index.result.now.item (placed_item named.0.item)
    (placed_is items declared all.declared.conditions.found c.in-One.number named.0 named.1 c.index.result.now
    all.layout.items at all.declared.items)

pub returns-in-One : goal.returns-in-One
returns-in-One c =
    let all = c.args.self.now in
    let items = items_in all in
    let named = named_is items all.conditions c.args.name.now _ all.declared.conditions
    (c.conditions_named.ensures items c.args.name.now) c.in-One.ensures in
    let declared = all.conditions.conditions.items in
    let within = number_within items declared all.declared.conditions.found c.in-One.number named.0 named.1 in
    let at = slice_get_read declared (length declared) c.in-One.number c.index.result.now refl within c.index.ensures in
    let placed = placed_is items declared all.declared.conditions.found c.in-One.number named.0 named.1
    c.index.result.now all.layout.items at all.declared.items in
    let same : Some c.placed_at.result.now ≡ Some (placed_item named.0.item) = sym c.placed_at.ensures ∙ placed in
    (named.0, named.2, cc)

pub returns-in-Unknown : goal.returns-in-Unknown
returns-in-Unknown c =
    let all = c.args.self.now in
    let items = items_in all in
    let none = named_is items all.conditions c.args.name.now _ all.declared.conditions
    (c.conditions_named.ensures items c.args.name.now) c.in-Unknown.ensures in
    unknown c.args.name.now.name.place (conditions_named items c.args.name.now) none

pub returns-in-Several : goal.returns-in-Several
returns-in-Several c =
    let all = c.args.self.now in
    let items = items_in all in
    let some = named_is items all.conditions c.args.name.now _ all.declared.conditions
    (c.conditions_named.ensures items c.args.name.now) c.in-Several.ensures in
    several c.args.name.now.name.place (conditions_named items c.args.name.now) some.0 some.1 some.2 some.3
