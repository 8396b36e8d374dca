use Rattle.declarations.specs.Named.{items_in}
use Rattle.std.proofs.Common.{◌≡◌, ◌++◌, [], ◌∷◌, length, ap, subst, ◌∙◌, arith}
use Rattle.source_tree.specs.InspectRules.{counter_item, tallied_rules}
use Rattle.source_tree.specs.Broken.{each}
use Rattle.source_tree.specs.NameRules.{reference_rules}
use Rattle.condition_codegen.proofs.Kept.{front_kept, back_kept, item_kept}
use Rattle.source_tree.specs.InspectLayout.{tallied_entries, all_inspected, counter_entries}
use Rattle.statement_codegen.specs.InspectCode.{Puts}
use Rattle.statement_codegen.proofs.InspectMaking.{counter_put, put_count}
use Rattle.condition_codegen.proofs.Sequences.{on_ok}
use Rattle.statement_codegen.proofs.inspect_statement.emit_counter.Goals as goal

pub emit_reference-requires : goal.emit_reference-requires
emit_reference-requires c =
    let items = items_in c.args.emitter.now.declarations.now in
    record {
      rules = item_kept items counter_item c.args.one.now.counter (front_kept (reference_rules items counter_item
          c.args.one.now.counter) (each (tallied_rules items) c.args.one.now.tallied) c.requires.rules);
    }

pub emit_all_tallied-requires : goal.emit_all_tallied-requires
emit_all_tallied-requires c =
    let items = items_in c.args.emitter.now.declarations.now in
    record {
      rules = ap (each (tallied_rules items)) c.as_slice.ensures
          ∙ back_kept (reference_rules items counter_item c.args.one.now.counter)
          (each (tallied_rules items) c.args.one.now.tallied) c.requires.rules;
    }

pub returns : goal.returns
returns c =
    let items = items_in c.args.emitter.now.declarations.now in
    let one = c.args.one.now in
    let a = c.emit_reference.new.code in
    let b = c.emit_all_tallied.new.code in
    let new = c.emit_all_tallied.new.made in
    let made = subst (λ l. Puts items (all_inspected tallied_entries l) a b c.args.made.now new)
    c.as_slice.ensures c.in_ok-emit_all_tallied.ensures in
    let count = put_count items (counter_entries one) a b c.args.made.now new made in
    let number : c.in_ok-entry_number.field-0 ≡ length (counter_entries one) =
    omega (arith, c.in_ok-entry_number.ensures, c.len.ensures, c.len-before.ensures, count) in
    on_ok c.push.result c.push.ensures.ok
    (λ e. counter_put items one c.args.code.now a b c.args.made.now new c.args.counters.now c.push.new.self
    c.in_ok-emit_reference.ensures made (e ∙ ap (λ n. c.args.counters.now ++ n ∷ []) number))
