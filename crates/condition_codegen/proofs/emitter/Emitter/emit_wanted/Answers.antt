use Rattle.std.proofs.Common.{sym, ap, ◌∙◌}
use Rattle.std.specs.Prelude.{not}
use Rattle.source_tree.specs.Evaluate.{condition_or_opposite, value_within}
use Rattle.data_instructions.specs.ConditionCodes.{negation}
use Rattle.declarations.specs.Named.{items_in}
use Rattle.condition_codegen.specs.Fragments.{append, sequence}
use Rattle.condition_codegen.specs.DataCode.{works_fragment}
use Rattle.condition_codegen.specs.ConditionCode.{condition_fragment}
use Rattle.condition_codegen.proofs.Questions.{unless_is, told_rules}
use Rattle.condition_codegen.proofs.Sequences.{is_so, ends_so}
use Rattle.condition_codegen.proofs.emitter.Emitter.emit_wanted.Goals as goal

pub emit_within-requires : goal.emit_within-requires
emit_within-requires c =
    let items = items_in c.args.self.now.declarations.now in
    let wanted = c.args.wanted in
    record {
      rules =
          sym (told_rules items (not wanted.negated) (value_within c.args.value.now wanted.first.now wanted.last.now))
          ∙ c.requires.rules;
    }

pub returns : goal.returns
returns c =
    let items = items_in c.args.self.now.declarations.now in
    let old = c.args.code.now in
    let result = c.emit_negation.result in
    let new = c.emit_negation.new.code in
    let wanted = c.args.wanted in
    let inner = value_within c.args.value.now wanted.first.now wanted.last.now in
    let behind = works_fragment (negation wanted.negated) in
    is_so result new (append old (sequence (condition_fragment items inner) behind old))
    (append old (condition_fragment items (condition_or_opposite (not wanted.negated) inner) old))
    (ends_so result (condition_fragment items inner) behind old c.emit_within.new.code new c.in_ok-emit_within.ensures
    c.emit_negation.ensures)
    (ap (append old) (unless_is items inner wanted.negated old))
