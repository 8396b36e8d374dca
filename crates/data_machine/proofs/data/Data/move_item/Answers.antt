use Rattle.std.proofs.Common.{◌≡◌, [], ◌∷◌, ◌∙◌, sym, ap, subst, Some, arith}
use Rattle.std.proofs.lemmas.Grind.{common_steps}
use Rattle.std.specs.Prelude.{slice_get}
use Rattle.std.proofs.lemmas.Option.{slice_get_within}
use Rattle.data_instructions.specs.declared.instruction.DataInstruction.TheVariants as i
use Rattle.data_instructions.specs.declared.tables.DataItem.{DataItem}
use Rattle.data_instructions.specs.declared.tables.DataTables.{DataTables}
use Rattle.data_instructions.specs.declared.index.ItemIndex.{ItemIndex}
use Rattle.data_instructions.specs.Scratch.{Step, Continues, step_at}
use Rattle.data_instructions.specs.Table.{take_step, move_step}
use Rattle.data_instructions.specs.Tables.{item_place}
use Rattle.data_instructions.specs.Codes.{go_on}
use Rattle.data_machine.specs.declared.data.Data.{Data}
use Rattle.data_machine.specs.declared.superinstruction.Superinstruction.TheVariants as f
use Rattle.data_machine.specs.Data.{scratch_of}
use Rattle.data_machine.specs.Comes.{IsStepOf, KeepsRoom}
use Rattle.data_machine.specs.Superinstructions.{at_item}
use Rattle.data_machine.specs.Ready.{IsReadyAlong}
use Rattle.data_machine.proofs.FusedIs.{fused_is}
use Rattle.data_machine.proofs.Together.{at_first, first_stands}
use Rattle.data_machine.proofs.ReadyTogether.{item_stands, move_found}
use Rattle.data_machine.proofs.ReadyBehind.{ready_behind}
use Rattle.data_machine.proofs.data.Data.move_item.Goals as goal

-- `place` and `take`
taken_is : (tables : DataTables) (old new : Data) (from : ItemIndex) (one : DataItem)
    → slice_get tables.items from.number ≡ Some one
    → take_step (item_place one one.offset) (scratch_of old) ≡ Continues (scratch_of new)
    → at_item tables from take_step (scratch_of old) ≡ Continues (scratch_of new)
taken_is tables old new from one here is =
    ap (λ o. step_at o (λ (it : DataItem). take_step (item_place it it.offset) (scratch_of old))) here ∙ is

-- after `place` and `take`
behind_take : (tables : DataTables) (old new : Data) (from to : ItemIndex)
    → IsReadyAlong tables old (i.Place from ∷ i.Take ∷ i.Place to ∷ i.Move ∷ [])
    → at_item tables from take_step (scratch_of old) ≡ Continues (scratch_of new) → KeepsRoom old new
    → IsReadyAlong tables new (i.Place to ∷ i.Move ∷ [])
behind_take tables old new from to r is keeps =
    ready_behind tables old new (i.Place from ∷ i.Take ∷ []) (i.Place to ∷ i.Move ∷ []) r
    (fused_is tables (f.Take from) (scratch_of old) ∙ is) keeps

pub take_at-requires-clause-item : goal.take_at-requires-clause-item
take_at-requires-clause-item c =
    first_stands c.args.tables.now c.args.self.now.areas c.args.from c.item_of-sender.result.now
    (item_stands c.args.tables.now c.args.self.now c.args.from (i.Take ∷ i.Place c.args.to ∷ i.Move ∷ []) c.requires)
    c.item_of-sender.ensures

pub item_of-one-requires : goal.item_of-one-requires
item_of-one-requires c =
    let is = taken_is c.args.tables.now c.args.self.now c.take_at.new.self c.args.from c.item_of-sender.result.now
    c.item_of-sender.ensures c.in_ok-take_at.ensures.does in
    let at = item_stands c.args.tables.now c.take_at.new.self c.args.to (i.Move ∷ [])
    (behind_take c.args.tables.now c.args.self.now c.take_at.new.self c.args.from c.args.to c.requires is
    c.in_ok-take_at.ensures.keeps) in
    slice_get_within c.args.tables.now.items c.args.to.number at.one at.here

pub receive_from-requires-clause-item : goal.receive_from-requires-clause-item
receive_from-requires-clause-item c =
    let is = taken_is c.args.tables.now c.args.self.now c.take_at.new.self c.args.from c.item_of-sender.result.now
    c.item_of-sender.ensures c.in_ok-take_at.ensures.does in
    first_stands c.args.tables.now c.take_at.new.self.areas c.args.to c.item_of-one.result.now
    (item_stands c.args.tables.now c.take_at.new.self c.args.to (i.Move ∷ [])
    (behind_take c.args.tables.now c.args.self.now c.take_at.new.self c.args.from c.args.to c.requires is
    c.in_ok-take_at.ensures.keeps))
    c.item_of-one.ensures

pub receive_from-requires-clause-sender : goal.receive_from-requires-clause-sender
receive_from-requires-clause-sender c =
    let is = taken_is c.args.tables.now c.args.self.now c.take_at.new.self c.args.from c.item_of-sender.result.now
    c.item_of-sender.ensures c.in_ok-take_at.ensures.does in
    move_found c.args.tables.now c.take_at.new.self c.args.to
    (behind_take c.args.tables.now c.args.self.now c.take_at.new.self c.args.from c.args.to c.requires is
    c.in_ok-take_at.ensures.keeps) c.item_of-one.result.now c.item_of-one.ensures

pub returns-clause-does : goal.returns-clause-does
returns-clause-does c =
    let is = taken_is c.args.tables.now c.args.self.now c.take_at.new.self c.args.from c.item_of-sender.result.now
    c.item_of-sender.ensures c.in_ok-take_at.ensures.does in
    subst (λ (step : Step). IsStepOf c.receive_from.result (scratch_of c.receive_from.new.self)
    (go_on step (at_item c.args.tables.now c.args.to move_step))) (sym is)
    (at_first c.receive_from.result (scratch_of c.receive_from.new.self) c.args.tables.now c.args.to
    c.item_of-one.result.now move_step (scratch_of c.take_at.new.self) c.item_of-one.ensures
    c.receive_from.ensures.does)

pub returns-clause-keeps : goal.returns-clause-keeps
returns-clause-keeps c = grind (arith, common_steps)
