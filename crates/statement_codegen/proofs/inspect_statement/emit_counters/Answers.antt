use Rattle.std.proofs.Common.{◌≤◌, length, ap, ◌∙◌, arith}
use Rattle.declarations.specs.Named.{items_in}
use Rattle.source_tree.specs.InspectRules.{tallying_rules}
use Rattle.condition_codegen.proofs.Kept.{one_kept}
use Rattle.statement_codegen.proofs.InspectMaking.{counts_none, counts_more, counts_all}
use Rattle.statement_codegen.proofs.inspect_statement.emit_counters.Goals as goal

pub emit_counter-requires : goal.emit_counter-requires
emit_counter-requires c =
    record {
      rules = ap (tallying_rules (items_in c.args.emitter.now.declarations.now)) c.one-item.is
          ∙ one_kept (tallying_rules (items_in c.args.emitter.now.declarations.now)) c.args.all.now c.loop-one.one-index
          c.one-item.result c.loop-one-test.true c.requires.rules;
    }

pub loop-one-init : goal.loop-one-init
loop-one-init c = counts_none (items_in c.args.emitter.now.declarations.now) c.args.code.now c.args.made.now
    c.args.counters.now

pub loop-one-preserved : goal.loop-one-preserved
loop-one-preserved c =
    counts_more (items_in c.args.emitter.now.declarations.now) c.args.all.now c.loop-one.one-index c.one-item.result
    c.loop-one-test.true c.one-item.is c.args.code.now c.loop-one.code
    c.emit_counter.new.code c.args.made.now c.loop-one.made c.emit_counter.new.made
    c.args.counters.now c.loop-one.counters c.emit_counter.new.counters c.loop-one.invariant
    c.in_ok-emit_counter.ensures

pub returns : goal.returns
returns c =
    let le : length c.args.all.now ≤ c.loop-one.one-index = omega arith in
    counts_all (items_in c.args.emitter.now.declarations.now) c.args.all.now c.loop-one.one-index c.args.code.now
    c.loop-one.code c.args.made.now c.loop-one.made c.args.counters.now c.loop-one.counters le c.loop-one.invariant
