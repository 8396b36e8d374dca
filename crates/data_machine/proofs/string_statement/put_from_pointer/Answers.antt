use Rattle.std.proofs.Common.{◌≡◌, ◌∙◌, sym, ap, false, rules, FitsSigned, arith}
use Rattle.std.proofs.lemmas.Grind.{common_steps}
use Rattle.std.specs.Int.{w128}
use Rattle.std.specs.Prelude.{Ok, pos}
use Rattle.std.proofs.lemmas.Int.{to_z-of_z}
use Rattle.data_instructions.specs.Tables.{item_place}
use Rattle.data_machine.proofs.Strings.{stands_still, part_long, position_read, put_from_position, put_nowhere}
use Rattle.data_machine.proofs.string_statement.put_from_pointer.Goals as goal

pub store-requires : goal.store-requires
store-requires c = stands_still c.args.pointer.now c.args.areas.now c.string_into-next.new.self c.args.held
    c.string_into-next.ensures.lengths c.requires.pointer

pub returns-in_default-clause-puts : goal.returns-in_default-clause-puts
returns-in_default-clause-puts c =
    let fits : FitsSigned w128 c.in_ok-integer_of.field-0 = search rules in
    let outside = simp to_z-of_z at c.in_default.ensures in
    let held = position_read c.args.pointer.now.item.kind _ _ c.number_in-number.result _ c.bytes.ensures.value
    c.number_in-number.ensures c.in_ok-integer_of.ensures in
    put_nowhere (item_place c.args.one.now c.args.offset) (item_place c.args.pointer.now c.args.held) c.args.text.now
    c.args.areas.now _ c.args.one.now.item.length held
    (part_long c.args.one.now c.args.areas.now c.args.offset c.requires.stands) outside

pub returns-clause-puts : goal.returns-clause-puts
returns-clause-puts c =
    let fits : FitsSigned w128 c.in_ok-integer_of.field-0 = search rules in
    let within = simp to_z-of_z at c.in-Some.ensures in
    let held = position_read c.args.pointer.now.item.kind _ _ c.number_in-number.result _ c.bytes.ensures.value
    c.number_in-number.ensures c.in_ok-integer_of.ensures ∙ ap (λ n. Ok n) (sym within.0) in
    let number_is : record { coefficient = pos c.string_into-next.result.0; scale = 0 } ≡ c.new-number.result =
    search rules in
    put_from_position (item_place c.args.one.now c.args.offset) (item_place c.args.pointer.now c.args.held)
    c.args.text.now c.args.areas.now c.in-Some.at c.args.one.now.item.length c.string_into-next.result.0
    c.string_into-next.result.1 c.string_into-next.new.self _ _ held
    (part_long c.args.one.now c.args.areas.now c.args.offset c.requires.stands) within.1 within.2
    c.string_into-next.ensures.stores c.string_into-next.ensures.next c.string_into-next.ensures.overflow number_is
    (c.in_ok-store.ensures.stores false)

pub returns-in_err-store-clause-puts : goal.returns-in_err-store-clause-puts
returns-in_err-store-clause-puts c = grind (arith, common_steps)

pub returns-clause-lengths : goal.returns-clause-lengths
returns-clause-lengths c = grind (arith, common_steps)
