use Rattle.std.proofs.Common.{rules, ◌≡◌, ℕ, false, [], ◌∷◌, ap, arith, ◌∙◌}
use Rattle.std.proofs.lemmas.Grind.{common_steps}
use Rattle.source_tree.specs.ArithmeticRules.{number_receiver}
use Rattle.data_instructions.specs.declared.calculation.Calculation.TheVariants as calculation
use Rattle.data_instructions.specs.declared.instruction.DataInstruction.TheVariants as i
use Rattle.data_instructions.specs.ArithmeticCodes.{duplicate}
use Rattle.declarations.specs.Named.{items_in}
use Rattle.condition_codegen.specs.Fragments.{append, Fragment}
use Rattle.condition_codegen.specs.DataCode.{works_fragment, take_fragment}
use Rattle.condition_codegen.specs.ArithmeticCode.{void_code, give_fragment, quotient_scale}
use Rattle.condition_codegen.proofs.Kept.{front_kept, back_kept, item_kept}
use Rattle.condition_codegen.proofs.Sequences.{four_so}
use Rattle.statement_codegen.proofs.arithmetic.emit_remainder.Goals as goal

pub emit_give-requires : goal.emit_give-requires
emit_give-requires c =
    record {
      rules = item_kept (items_in c.args.emitter.now.declarations.now) number_receiver
          c.args.quotient.now.item (front_kept _ _ c.requires.rules);
    }

pub emit_taking-requires : goal.emit_taking-requires
emit_taking-requires c =
    record {
      rules = item_kept (items_in c.args.emitter.now.declarations.now) number_receiver
          c.args.remainder.now (back_kept _ _ c.requires.rules);
    }

pub returns : goal.returns
returns c =
    let items = items_in c.args.emitter.now.declarations.now in
    let given = c.emit_give.new.code in
    let begin = works_fragment (duplicate 1 ∷ duplicate 1 ∷ i.Calculate calculation.Divide ∷ []) in
    let cut : ℕ → Fragment = λ scale. works_fragment (i.Calculate (calculation.Truncate scale)
    ∷ i.Calculate calculation.Multiply ∷ i.Calculate calculation.Subtract ∷ void_code c.args.keep) in
    let begun : c.emit_works.new.code ≡ append c.args.code.now (begin c.args.code.now) =
    first_of (search rules, grind (arith, common_steps)) in
    four_so c.emit_taking.result begin (give_fragment items c.args.keep c.args.quotient.now)
    (cut (quotient_scale items c.args.quotient.now.item))
    (take_fragment items (i.Store false c.args.keep) c.args.remainder.now) c.args.code.now c.emit_works.new.code given
    c.emit_subtracted.new.code c.emit_taking.new.code begun c.in_ok-emit_give.ensures
    (c.in_ok-emit_subtracted.ensures ∙ ap (λ n. append given (cut n given)) c.scale_kept.ensures)
    c.emit_taking.ensures
