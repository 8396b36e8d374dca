use Rattle.std.proofs.Common.{ℕ, ap, sym, ◌∙◌}
use Rattle.std.specs.Prelude.{slice_get, not}
use Rattle.std.specs.Option.{option_map}
use Rattle.layout.specs.Placing.{placed_item}
use Rattle.data_instructions.specs.declared.index.ItemIndex.{ItemIndex}
use Rattle.data_instructions.specs.declared.instruction.DataInstruction.TheVariants as i
use Rattle.declarations.specs.Named.{items_in}
use Rattle.condition_codegen.specs.Fragments.{append}
use Rattle.condition_codegen.specs.ItemParts.{entry_in}
use Rattle.condition_codegen.specs.DataCode.{item_number, work_fragment, entry_fragment, place_fragment}
use Rattle.condition_codegen.proofs.ItemParts.{placed_at, whole_place, part_place, no_place}
use Rattle.condition_codegen.proofs.Fragments.{joined_nothing}
use Rattle.condition_codegen.proofs.Sequences.{is_so}
use Rattle.condition_codegen.proofs.emitter.Emitter.emit_place.Goals as goal

pub returns-then-is_none : goal.returns-then-is_none
returns-then-is_none c =
    let items = items_in c.args.self.now.declarations.now in
    let one = c.args.one.now in
    let old = c.args.code.now in
    let found = slice_get items (item_number items one.item) in
    let item : ℕ → ItemIndex = λ n. record { number = n } in
    is_so c.emit_work.result c.emit_work.new.code
    (append old (work_fragment (i.Place (item c.in_ok-number.number)) old))
    (append old (place_fragment items found one one.part old)) c.emit_work.ensures
    (ap (λ (n : ℕ). append old (work_fragment (i.Place (item n)) old)) (c.in_ok-number.ensures ∙ c.requires.number)
    ∙ ap (append old) (whole_place items one old found one.part (c.is_none.ensures ∙ ap not c.if-is_none.true)))

pub returns-in-Some : goal.returns-in-Some
returns-in-Some c =
    let declarations = c.args.self.now.declarations.now in
    let items = items_in declarations in
    let one = c.args.one.now in
    let old = c.args.code.now in
    let found = slice_get items (item_number items one.item) in
    let placed = c.in-Some.found.now in
    is_so c.emit_part_place.result c.emit_part_place.new.code
    (append old (entry_fragment (entry_in placed one.part) old))
    (append old (place_fragment items found one one.part old)) c.emit_part_place.ensures
    (ap (append old) (part_place items one old found placed one.part
    (c.is_none.ensures ∙ ap not c.if-is_none.false)
    (c.in-Some.ensures.value ∙ placed_at items declarations.layout.items c.args.number declarations.declared.items
    ∙ ap (λ n. option_map placed_item (slice_get items n)) c.requires.number)))

pub returns-in-None : goal.returns-in-None
returns-in-None c =
    let declarations = c.args.self.now.declarations.now in
    let items = items_in declarations in
    let one = c.args.one.now in
    let old = c.args.code.now in
    sym (joined_nothing old)
    ∙ ap (append old) (no_place items one old (slice_get items (item_number items one.item)) one.part
    (c.is_none.ensures ∙ ap not c.if-is_none.false)
    (c.in-None.ensures.value ∙ placed_at items declarations.layout.items c.args.number declarations.declared.items
    ∙ ap (λ n. option_map placed_item (slice_get items n)) c.requires.number))
