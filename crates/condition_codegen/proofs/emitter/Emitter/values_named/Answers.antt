use Rattle.std.proofs.Common.{◌<◌, ◌≤◌, length, List, ap, sym, arith, ◌∙◌}
use Rattle.std.proofs.lemmas.Grind.{common_steps}
use Rattle.std.specs.Prelude.{get_or, slice_get}
use Rattle.name_table.specs.declared.conditions.DeclaredCondition.{DeclaredCondition}
use Rattle.source_tree.specs.LookUp.{all_conditions}
use Rattle.declarations.specs.Named.{items_in}
use Rattle.condition_codegen.specs.ConditionCode.{values_of}
use Rattle.condition_codegen.proofs.ConditionNames.{values_there, no_values}
use Rattle.condition_codegen.proofs.emitter.Emitter.values_named.Goals as goal

pub returns-in-Some : goal.returns-in-Some
returns-in-Some c =
    let declarations = c.args.self.now.declarations.now in
    let items = items_in declarations in
    let all = declarations.conditions.conditions.items in
    let n = c.condition_number-number.result in
    let one = c.in-Some.found.now in
    let lt : n < length c.deref.result.now = grind (arith, common_steps) in
    let within : n < length all = omega (arith, lt, ap length c.deref.ensures.value) in
    let seen = c.in-Some.ensures.lookup in
    c.as_slice.ensures
    ∙ values_there items all declarations.declared.conditions.found n one within
    (seen.1 ∙ ap (λ (l : List DeclaredCondition). get_or l n one) c.deref.ensures.value)
    ∙ ap (λ m. values_of (slice_get (all_conditions items) m)) c.condition_number-number.ensures

pub returns-in-None : goal.returns-in-None
returns-in-None c =
    let declarations = c.args.self.now.declarations.now in
    let items = items_in declarations in
    let all = declarations.conditions.conditions.items in
    let n = c.condition_number-number.result in
    let le : length c.deref.result.now ≤ n = grind (arith, common_steps) in
    let past : length all ≤ n = omega (arith, le, ap length c.deref.ensures.value) in
    sym (no_values items all declarations.declared.conditions.found n past)
    ∙ ap (λ m. values_of (slice_get (all_conditions items) m)) c.condition_number-number.ensures
