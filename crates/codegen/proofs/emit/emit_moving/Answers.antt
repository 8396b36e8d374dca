use Rattle.std.proofs.Common.{◌≡◌, List, sym, ap, ◌∙◌}
use Rattle.source_tree.specs.declared.reference.Reference.{Reference}
use Rattle.source_tree.specs.declared.data_statement.DataStatement.TheVariants.{Move, Initialize, Set}
use Rattle.source_tree.specs.Rules.{moving_rules}
use Rattle.declarations.specs.Named.{items_in}
use Rattle.codegen.specs.UntilCode.{tick_fragment}
use Rattle.codegen.specs.Layout.{data_fragment}
use Rattle.codegen.proofs.ByCase.{case_after}
use Rattle.codegen.proofs.emit.emit_moving.Goals as goal

pub emit_move-requires : goal.emit_move-requires
emit_move-requires c =
    let items = items_in c.args.emitter.now.declarations.now in
    let is : c.args.one.now ≡ Move c.in-Move.sender c.as_slice.result.now =
    c.in-Move.is ∙ ap (λ (l : List Reference). Move c.in-Move.sender l) (sym c.as_slice.ensures) in
    record { rules = sym (ap (moving_rules items) is) ∙ c.requires.rules }

pub returns-in-Move : goal.returns-in-Move
returns-in-Move c =
    let items = items_in c.args.emitter.now.declarations.now in
    let is : c.args.one.now ≡ Move c.in-Move.sender c.as_slice.result.now =
    c.in-Move.is ∙ ap (λ (l : List Reference). Move c.in-Move.sender l) (sym c.as_slice.ensures) in
    case_after c.emit_move.result (data_fragment items) c.args.one.now (Move c.in-Move.sender c.as_slice.result.now)
    (tick_fragment c.args.line) c.args.code.now c.emit_tick.new.code c.emit_move.new.code is
    c.in_ok-emit_tick.ensures c.emit_move.ensures

pub emit_initializes-requires-clause-rules : goal.emit_initializes-requires-clause-rules
emit_initializes-requires-clause-rules c =
    let items = items_in c.args.emitter.now.declarations.now in
    let is : c.args.one.now ≡ Initialize c.as_slice-in-Initialize.result.now =
    c.in-Initialize.is ∙ ap (λ (l : List Reference). Initialize l) (sym c.as_slice-in-Initialize.ensures) in
    sym (ap (moving_rules items) is) ∙ c.requires.rules

pub returns-in-Initialize : goal.returns-in-Initialize
returns-in-Initialize c =
    let items = items_in c.args.emitter.now.declarations.now in
    let is : c.args.one.now ≡ Initialize c.as_slice-in-Initialize.result.now =
    c.in-Initialize.is ∙ ap (λ (l : List Reference). Initialize l) (sym c.as_slice-in-Initialize.ensures) in
    case_after c.emit_initializes.result (data_fragment items) c.args.one.now
    (Initialize c.as_slice-in-Initialize.result.now)
    (tick_fragment c.args.line) c.args.code.now c.emit_tick.new.code c.emit_initializes.new.code is
    c.in_ok-emit_tick.ensures c.emit_initializes.ensures

pub emit_sets-requires-clause-rules : goal.emit_sets-requires-clause-rules
emit_sets-requires-clause-rules c =
    let items = items_in c.args.emitter.now.declarations.now in
    let is : c.args.one.now ≡ Set c.as_slice-in-Set.result.now =
    c.in-Set.is ∙ ap (λ (l : List Reference). Set l) (sym c.as_slice-in-Set.ensures) in
    sym (ap (moving_rules items) is) ∙ c.requires.rules

pub returns-in-Set : goal.returns-in-Set
returns-in-Set c =
    let items = items_in c.args.emitter.now.declarations.now in
    let is : c.args.one.now ≡ Set c.as_slice-in-Set.result.now =
    c.in-Set.is ∙ ap (λ (l : List Reference). Set l) (sym c.as_slice-in-Set.ensures) in
    case_after c.emit_sets.result (data_fragment items) c.args.one.now (Set c.as_slice-in-Set.result.now)
    (tick_fragment c.args.line) c.args.code.now c.emit_tick.new.code c.emit_sets.new.code is
    c.in_ok-emit_tick.ensures c.emit_sets.ensures
