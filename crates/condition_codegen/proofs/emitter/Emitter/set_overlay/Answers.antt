use Rattle.std.proofs.Common.{◌≡◌, map, ap, subst, IfOk}
use Rattle.source_tree.specs.Initializing.{Pattern}
use Rattle.data_instructions.specs.TextCodes.{new_byte, new_mark}
use Rattle.data_instructions.specs.declared.index.ItemIndex.{ItemIndex}
use Rattle.declarations.specs.Named.{data_in, items_in}
use Rattle.condition_codegen.proofs.ConditionValues.{descriptions_kept}
use Rattle.condition_codegen.proofs.NewBytes.{item_there, set_kind, set_value, set_is}
use Rattle.condition_codegen.proofs.emitter.Emitter.set_overlay.Goals as goal

pub first_overlay-requires-clause-kind : goal.first_overlay-requires-clause-kind
first_overlay-requires-clause-kind c =
    let declarations = c.args.self.now.declarations.now in
    set_kind (items_in declarations) c.args.one.now c.requires.rules declarations.layout.items
    c.in_ok-index.index.number c.in-Some.placed.now
    declarations.declared.items (ap (λ (i : ItemIndex). i.number) c.in_ok-index.ensures) c.in-Some.ensures.value
    (c.condition_values_suit.ensures (data_in declarations) c.requires.entries
    (descriptions_kept (items_in declarations) (data_in declarations) declarations.declared.file_rules))

pub first_overlay-requires-clause-value : goal.first_overlay-requires-clause-value
first_overlay-requires-clause-value c =
    let declarations = c.args.self.now.declarations.now in
    set_value (items_in declarations) c.args.one.now c.requires.rules declarations.layout.items
    c.in_ok-index.index.number c.in-Some.placed.now
    declarations.declared.items (ap (λ (i : ItemIndex). i.number) c.in_ok-index.ensures) c.in-Some.ensures.value
    c.values_named-values.result.now c.values_named-values.ensures
    (c.condition_values_suit.ensures (data_in declarations) c.requires.entries
    (descriptions_kept (items_in declarations) (data_in declarations) declarations.declared.file_rules))

pub returns-in-None-clause-bytes : goal.returns-in-None-clause-bytes
returns-in-None-clause-bytes c =
    let declarations = c.args.self.now.declarations.now in
    absurd (item_there (items_in declarations) c.args.one.now c.requires.rules declarations.layout.items
    c.in_ok-index.index.number
    declarations.declared.items (ap (λ (i : ItemIndex). i.number) c.in_ok-index.ensures) c.in-None.ensures.value)

pub returns-in-None-clause-marks : goal.returns-in-None-clause-marks
returns-in-None-clause-marks c =
    let declarations = c.args.self.now.declarations.now in
    absurd (item_there (items_in declarations) c.args.one.now c.requires.rules declarations.layout.items
    c.in_ok-index.index.number
    declarations.declared.items (ap (λ (i : ItemIndex). i.number) c.in_ok-index.ensures) c.in-None.ensures.value)

pub returns-in-Some-clause-bytes : goal.returns-in-Some-clause-bytes
returns-in-Some-clause-bytes c =
    let declarations = c.args.self.now.declarations.now in
    subst (λ (p : Pattern). IfOk c.first_overlay.result (λ made. made.bytes ≡ map new_byte p))
    (set_is (items_in declarations) c.args.one.now c.requires.rules declarations.layout.items c.in_ok-index.index.number
    c.in-Some.placed.now
    declarations.declared.items (ap (λ (i : ItemIndex). i.number) c.in_ok-index.ensures) c.in-Some.ensures.value
    c.values_named-values.result.now c.values_named-values.ensures)
    c.first_overlay.ensures.bytes

pub returns-in-Some-clause-marks : goal.returns-in-Some-clause-marks
returns-in-Some-clause-marks c =
    let declarations = c.args.self.now.declarations.now in
    subst (λ (p : Pattern). IfOk c.first_overlay.result (λ made. made.marks ≡ map new_mark p))
    (set_is (items_in declarations) c.args.one.now c.requires.rules declarations.layout.items c.in_ok-index.index.number
    c.in-Some.placed.now
    declarations.declared.items (ap (λ (i : ItemIndex). i.number) c.in_ok-index.ensures) c.in-Some.ensures.value
    c.values_named-values.result.now c.values_named-values.ensures)
    c.first_overlay.ensures.marks
