use Rattle.std.proofs.Common.{rules, ◌≡◌, ◌+◌, List, [], ◌∷◌, length, map, refl, sym, ap, arith, ◌∙◌}
use Rattle.source_tree.specs.declared.condition.Condition.{Condition, the_lemmas}
use Rattle.source_tree.specs.Broken.{each}
use Rattle.source_tree.specs.ConditionRules.{condition_rules}
use Rattle.data_instructions.specs.declared.instruction.DataInstruction.TheVariants as i
use Rattle.data_instructions.specs.declared.test.Test.TheVariants as test
use Rattle.declarations.specs.Named.{items_in}
use Rattle.condition_codegen.specs.Fragments.{Fragment, append, sequence, in_order}
use Rattle.condition_codegen.specs.Meeting.{jump_code, nothing_fragment}
use Rattle.condition_codegen.specs.DataCode.{work_fragment}
use Rattle.condition_codegen.specs.ConditionCode.{condition_name_fragment, relation_fragment, and_fragment, or_fragment}
use Rattle.condition_codegen.specs.ConditionCode.{all_fragment, any_fragment, condition_layer_fragment}
use Rattle.condition_codegen.specs.ConditionCode.{condition_fragment}
use Rattle.source_tree.specs.declared.condition.Condition.TheOpen.{Condition-F}
use Rattle.condition_codegen.specs.Phrases.{patched_code}
use Rattle.condition_codegen.proofs.ConditionLayers.{name_is, relation_is, sign_is, class_is, not_is, all_is, any_is}
use Rattle.condition_codegen.proofs.ConditionLayers.{name_rules, relation_kept, sign_rules, class_rules, not_rules}
use Rattle.condition_codegen.proofs.ConditionLayers.{all_rules, any_rules, all_parts, any_parts}
use Rattle.condition_codegen.proofs.Kept.{front_kept, back_kept, one_kept}
use Rattle.condition_codegen.proofs.Meeting.{meeting}
use Rattle.condition_codegen.proofs.Fragments.{joined_nothing, goes_on, is_done}
use Rattle.condition_codegen.proofs.Sequences.{is_so, ends_so, on_ok}
use Rattle.condition_codegen.proofs.WayEnds.{branch_within, both_within}
use Rattle.condition_codegen.proofs.emitter.Emitter.+condition.Goals as goal

pub emit_condition-emit_condition_name-requires-clause-rules :
    goal.emit_condition-emit_condition_name-requires-clause-rules
emit_condition-emit_condition_name-requires-clause-rules t c =
    let items = items_in c.args.self.now.declarations.now in
    sym (name_rules items c.in-Name.reference) ∙ sym (ap (condition_rules items) c.in-Name.is) ∙ c.requires.rules

pub emit_condition-emit_relation-requires : goal.emit_condition-emit_relation-requires
emit_condition-emit_relation-requires t c =
    let items = items_in c.args.self.now.declarations.now in
    record {
      rules = sym (relation_kept items c.in-Relation.left c.in-Relation.relation c.in-Relation.right)
          ∙ sym (ap (condition_rules items) c.in-Relation.is) ∙ c.requires.rules;
    }

pub emit_condition-emit_sign-requires : goal.emit_condition-emit_sign-requires
emit_condition-emit_sign-requires t c =
    let items = items_in c.args.self.now.declarations.now in
    record {
      rules = sym (sign_rules items c.in-Sign.value c.in-Sign.negated c.in-Sign.sign)
          ∙ sym (ap (condition_rules items) c.in-Sign.is) ∙ c.requires.rules;
    }

pub emit_condition-emit_class-requires : goal.emit_condition-emit_class-requires
emit_condition-emit_class-requires t c =
    let items = items_in c.args.self.now.declarations.now in
    record {
      rules = sym (class_rules items c.in-Class.item c.in-Class.negated c.in-Class.class)
          ∙ sym (ap (condition_rules items) c.in-Class.is) ∙ c.requires.rules;
    }

pub emit_condition-emit_condition-requires : goal.emit_condition-emit_condition-requires
emit_condition-emit_condition-requires t c =
    let items = items_in c.args.self.now.declarations.now in
    let r : condition_rules items c.get.result.now ≡ [] =
    ap (condition_rules items) c.get.ensures ∙ sym (not_rules items c.in-Not.inner)
    ∙ sym (ap (condition_rules items) c.in-Not.is) ∙ c.requires.rules in
    (search (rules, the_lemmas), (c.requires.entries, r))

pub emit_condition-emit_all-requires : goal.emit_condition-emit_all-requires
emit_condition-emit_all-requires t c =
    let items = items_in c.args.self.now.declarations.now in
    let r : each (condition_rules items) c.as_slice.result.now ≡ [] =
    ap (each (condition_rules items)) c.as_slice.ensures ∙ sym (all_rules items c.in-All.parts)
    ∙ sym (ap (condition_rules items) c.in-All.is) ∙ c.requires.rules in
    (search (rules, the_lemmas), (c.requires.entries, r))

pub emit_condition-emit_any-requires : goal.emit_condition-emit_any-requires
emit_condition-emit_any-requires t c =
    let items = items_in c.args.self.now.declarations.now in
    let r : each (condition_rules items) c.as_slice-in-Any.result.now ≡ [] =
    ap (each (condition_rules items)) c.as_slice-in-Any.ensures ∙ sym (any_rules items c.in-Any.parts)
    ∙ sym (ap (condition_rules items) c.in-Any.is) ∙ c.requires.rules in
    (search (rules, the_lemmas), (c.requires.entries, r))

pub emit_condition-returns-in-Name : goal.emit_condition-returns-in-Name
emit_condition-returns-in-Name t c =
    let items = items_in c.args.self.now.declarations.now in
    let old = c.args.code.now in
    is_so c.emit_condition_name.result c.emit_condition_name.new.code (append old
    (condition_name_fragment items c.in-Name.reference old)) (append old (condition_fragment items c.args.one.now old))
    c.emit_condition_name.ensures (ap (λ (p : Fragment). append old (p old)) (sym (name_is items c.in-Name.reference)
    ∙ sym (ap (condition_fragment items) c.in-Name.is)))

pub emit_condition-returns-in-Relation : goal.emit_condition-returns-in-Relation
emit_condition-returns-in-Relation t c =
    let items = items_in c.args.self.now.declarations.now in
    let old = c.args.code.now in
    let piece = relation_fragment items c.in-Relation.left c.in-Relation.relation c.in-Relation.right in
    is_so c.emit_relation.result c.emit_relation.new.code (append old (piece old))
    (append old (condition_fragment items c.args.one.now old)) c.emit_relation.ensures
    (ap (λ (p : Fragment). append old (p old)) (sym (relation_is items c.in-Relation.left c.in-Relation.relation
    c.in-Relation.right) ∙ sym (ap (condition_fragment items) c.in-Relation.is)))

pub emit_condition-returns-in-Sign : goal.emit_condition-returns-in-Sign
emit_condition-returns-in-Sign t c =
    let items = items_in c.args.self.now.declarations.now in
    let old = c.args.code.now in
    let piece = condition_layer_fragment items (Condition-F.Sign c.in-Sign.value c.in-Sign.negated c.in-Sign.sign) in
    is_so c.emit_sign.result c.emit_sign.new.code (append old (piece old))
    (append old (condition_fragment items c.args.one.now old)) c.emit_sign.ensures
    (ap (λ (p : Fragment). append old (p old)) (sym (sign_is items c.in-Sign.value c.in-Sign.negated c.in-Sign.sign)
    ∙ sym (ap (condition_fragment items) c.in-Sign.is)))

pub emit_condition-returns-in-Class : goal.emit_condition-returns-in-Class
emit_condition-returns-in-Class t c =
    let items = items_in c.args.self.now.declarations.now in
    let old = c.args.code.now in
    let piece =
    condition_layer_fragment items (Condition-F.Class c.in-Class.item c.in-Class.negated c.in-Class.class) in
    is_so c.emit_class.result c.emit_class.new.code (append old (piece old))
    (append old (condition_fragment items c.args.one.now old)) c.emit_class.ensures
    (ap (λ (p : Fragment). append old (p old)) (sym (class_is items c.in-Class.item c.in-Class.negated c.in-Class.class)
    ∙ sym (ap (condition_fragment items) c.in-Class.is)))

pub emit_condition-returns-in_ok-emit_condition-in-Not : goal.emit_condition-returns-in_ok-emit_condition-in-Not
emit_condition-returns-in_ok-emit_condition-in-Not t c =
    let items = items_in c.args.self.now.declarations.now in
    let old = c.args.code.now in
    let inner = condition_fragment items c.in-Not.inner in
    let invert = work_fragment (i.Test test.Invert) in
    let begun : c.emit_condition.new.code ≡ append old (inner old) = c.in_ok-emit_condition-in-Not.ensures
    ∙ ap (λ (e : Condition). append old (condition_fragment items e old)) c.get.ensures in
    is_so c.emit_work.result c.emit_work.new.code (append old (sequence inner invert old))
    (append old (condition_fragment items c.args.one.now old))
    (ends_so c.emit_work.result inner invert old c.emit_condition.new.code c.emit_work.new.code begun
    c.emit_work.ensures)
    (ap (λ (p : Fragment). append old (p old))
    (sym (not_is items c.in-Not.inner) ∙ sym (ap (condition_fragment items) c.in-Not.is)))

pub emit_condition-returns-in-All : goal.emit_condition-returns-in-All
emit_condition-returns-in-All t c =
    let items = items_in c.args.self.now.declarations.now in
    let old = c.args.code.now in
    is_so c.emit_all.result
    c.emit_all.new.code (append old (all_fragment (map (condition_fragment items) c.as_slice.result.now) old))
    (append old (condition_fragment items c.args.one.now old)) c.emit_all.ensures
    (ap (λ (l : List Condition). append old (all_fragment (map (condition_fragment items) l) old)) c.as_slice.ensures
    ∙ ap (λ (p : Fragment). append old (p old))
    (sym (all_is items c.in-All.parts) ∙ sym (ap (condition_fragment items) c.in-All.is)))

pub emit_condition-returns-in-Any : goal.emit_condition-returns-in-Any
emit_condition-returns-in-Any t c =
    let items = items_in c.args.self.now.declarations.now in
    let old = c.args.code.now in
    is_so c.emit_any.result
    c.emit_any.new.code (append old (any_fragment (map (condition_fragment items) c.as_slice-in-Any.result.now) old))
    (append old (condition_fragment items c.args.one.now old)) c.emit_any.ensures
    (ap (λ (l : List Condition). append old (any_fragment (map (condition_fragment items) l) old))
    c.as_slice-in-Any.ensures
    ∙ ap (λ (p : Fragment). append old (p old))
    (sym (any_is items c.in-Any.parts) ∙ sym (ap (condition_fragment items) c.in-Any.is)))

pub emit_all-emit_condition-requires : goal.emit_all-emit_condition-requires
emit_all-emit_condition-requires t c =
    let kept = condition_rules (items_in c.args.self.now.declarations.now) in
    let e : c.args.parts.now ≡ c.in-Some.first.now ∷ c.in-Some.more.now = c.in-Some.ensures.cases.0 in
    let d = rw e at c.decreases in (
      omega (arith, d),
      (
        c.requires.entries,
        front_kept (kept c.in-Some.first.now) (each kept c.in-Some.more.now)
            (sym (ap (each kept) e) ∙ c.requires.rules),
      ),
    )

pub emit_all-emit_each_and-requires : goal.emit_all-emit_each_and-requires
emit_all-emit_each_and-requires t c =
    let kept = condition_rules (items_in c.args.self.now.declarations.now) in
    let e : c.args.parts.now ≡ c.in-Some.first.now ∷ c.in-Some.more.now = c.in-Some.ensures.cases.0 in
    let d = rw e at c.decreases in (
      omega (arith, d),
      (
        c.requires.entries,
        back_kept (kept c.in-Some.first.now) (each kept c.in-Some.more.now)
            (sym (ap (each kept) e) ∙ c.requires.rules),
      ),
    )

pub emit_all-returns : goal.emit_all-returns
emit_all-returns t c =
    let items = items_in c.args.self.now.declarations.now in
    let old = c.args.code.now in
    let result = c.emit_each_and.result in
    let new = c.emit_each_and.new.code in
    let first = condition_fragment items c.in-Some.first.now in
    let further = in_order (λ (one : Condition). and_fragment (condition_fragment items one)) c.in-Some.more.now in
    is_so result new (append old (sequence first further old))
    (append old (all_fragment (map (condition_fragment items) c.args.parts.now) old))
    (ends_so result first further old c.emit_condition.new.code new c.in_ok-emit_condition.ensures
    c.emit_each_and.ensures)
    (ap (append old) (all_parts items c.in-Some.first.now c.in-Some.more.now old)
    ∙ sym (ap (λ (l : List Condition). append old (all_fragment (map (condition_fragment items) l) old))
    c.in-Some.ensures.cases.0))

pub emit_any-emit_condition-requires : goal.emit_any-emit_condition-requires
emit_any-emit_condition-requires t c =
    let kept = condition_rules (items_in c.args.self.now.declarations.now) in
    let e : c.args.parts.now ≡ c.in-Some.first.now ∷ c.in-Some.more.now = c.in-Some.ensures.cases.0 in
    let d = rw e at c.decreases in (
      omega (arith, d),
      (
        c.requires.entries,
        front_kept (kept c.in-Some.first.now) (each kept c.in-Some.more.now)
            (sym (ap (each kept) e) ∙ c.requires.rules),
      ),
    )

pub emit_any-emit_each_or-requires : goal.emit_any-emit_each_or-requires
emit_any-emit_each_or-requires t c =
    let kept = condition_rules (items_in c.args.self.now.declarations.now) in
    let e : c.args.parts.now ≡ c.in-Some.first.now ∷ c.in-Some.more.now = c.in-Some.ensures.cases.0 in
    let d = rw e at c.decreases in (
      omega (arith, d),
      (
        c.requires.entries,
        back_kept (kept c.in-Some.first.now) (each kept c.in-Some.more.now)
            (sym (ap (each kept) e) ∙ c.requires.rules),
      ),
    )

pub emit_any-returns : goal.emit_any-returns
emit_any-returns t c =
    let items = items_in c.args.self.now.declarations.now in
    let old = c.args.code.now in
    let result = c.emit_each_or.result in
    let new = c.emit_each_or.new.code in
    let first = condition_fragment items c.in-Some.first.now in
    let further = in_order (λ (one : Condition). or_fragment (condition_fragment items one)) c.in-Some.more.now in
    is_so result new (append old (sequence first further old))
    (append old (any_fragment (map (condition_fragment items) c.args.parts.now) old))
    (ends_so result first further old c.emit_condition.new.code new c.in_ok-emit_condition.ensures
    c.emit_each_or.ensures)
    (ap (append old) (any_parts items c.in-Some.first.now c.in-Some.more.now old)
    ∙ sym (ap (λ (l : List Condition). append old (any_fragment (map (condition_fragment items) l) old))
    c.in-Some.ensures.cases.0))

pub emit_each_and-emit_and-requires : goal.emit_each_and-emit_and-requires
emit_each_and-emit_and-requires t c =
    let kept = condition_rules (items_in c.args.self.now.declarations.now) in
    let r : kept c.one-item.result ≡ [] = ap kept c.one-item.is
    ∙ one_kept kept c.args.more.now c.loop-one.one-index c.one-item.result c.loop-one-test.true c.requires.rules in
    (search (rules, the_lemmas), (c.requires.entries, r))

pub emit_each_or-emit_or-requires : goal.emit_each_or-emit_or-requires
emit_each_or-emit_or-requires t c =
    let kept = condition_rules (items_in c.args.self.now.declarations.now) in
    let r : kept c.one-item.result ≡ [] = ap kept c.one-item.is
    ∙ one_kept kept c.args.more.now c.loop-one.one-index c.one-item.result c.loop-one-test.true c.requires.rules in
    (search (rules, the_lemmas), (c.requires.entries, r))

pub emit_each_and-loop-one-preserved : goal.emit_each_and-loop-one-preserved
emit_each_and-loop-one-preserved t c =
    let items = items_in c.args.self.now.declarations.now in
    let piece = λ (one : Condition). and_fragment (condition_fragment items one) in
    let old = c.loop-one.code in
    goes_on piece c.args.more.now c.loop-one.one-index c.one-item.result old c.emit_and.new.code _ c.loop-one-test.true
    (c.in_ok-emit_and.ensures ∙ ap (λ (one : Condition). append old (piece one old)) c.one-item.is) c.loop-one.invariant

pub emit_each_and-returns : goal.emit_each_and-returns
emit_each_and-returns t c =
    let items = items_in c.args.self.now.declarations.now in
    is_done (λ (one : Condition). and_fragment (condition_fragment items one)) c.args.more.now c.loop-one.one-index
    c.loop-one.code _ c.loop-one-test.false c.loop-one.invariant

pub emit_each_or-loop-one-preserved : goal.emit_each_or-loop-one-preserved
emit_each_or-loop-one-preserved t c =
    let items = items_in c.args.self.now.declarations.now in
    let piece = λ (one : Condition). or_fragment (condition_fragment items one) in
    let old = c.loop-one.code in
    goes_on piece c.args.more.now c.loop-one.one-index c.one-item.result old c.emit_or.new.code _ c.loop-one-test.true
    (c.in_ok-emit_or.ensures ∙ ap (λ (one : Condition). append old (piece one old)) c.one-item.is) c.loop-one.invariant

pub emit_each_or-returns : goal.emit_each_or-returns
emit_each_or-returns t c =
    let items = items_in c.args.self.now.declarations.now in
    is_done (λ (one : Condition). or_fragment (condition_fragment items one)) c.args.more.now c.loop-one.one-index
    c.loop-one.code _ c.loop-one-test.false c.loop-one.invariant

pub emit_and-returns : goal.emit_and-returns
emit_and-returns t c =
    let old = c.args.code.now in
    let one = condition_fragment (items_in c.args.self.now.declarations.now) c.args.one.now in
    let branch = c.in_ok-branch.branch in
    let asked = c.emit_condition.new.code in
    let middle = append asked (jump_code 0) in
    let other = length asked.instructions + 2 in
    on_ok c.emit_way_end.result c.emit_way_end.ensures
    (λ (e : c.emit_way_end.new.code ≡ patched_code branch other middle).
    meeting one nothing_fragment old c.emit_branch.new.code asked middle middle c.emit_way_end.new.code branch other
    c.in_ok-branch.ensures.code c.in_ok-branch.ensures.address c.in_ok-emit_condition.ensures refl refl
    (sym (joined_nothing middle)) e)

pub emit_and-emit_way_end-requires : goal.emit_and-emit_way_end-requires
emit_and-emit_way_end-requires t c =
    let one = condition_fragment (items_in c.args.self.now.declarations.now) c.args.one.now in
    branch_within one c.args.code.now c.emit_branch.new.code c.emit_condition.new.code c.in_ok-branch.branch
    c.in_ok-branch.ensures.code c.in_ok-branch.ensures.address c.in_ok-emit_condition.ensures

pub emit_or-returns : goal.emit_or-returns
emit_or-returns t c =
    let old = c.args.code.now in
    let one = condition_fragment (items_in c.args.self.now.declarations.now) c.args.one.now in
    let branch = c.in_ok-branch.branch in
    let other = c.in_ok-other.other in
    on_ok c.emit_meeting.result c.emit_meeting.ensures
    (λ (e : c.emit_meeting.new.code ≡ patched_code branch other c.emit_condition.new.code).
    meeting nothing_fragment one old c.emit_branch.new.code c.emit_branch.new.code c.emit_jump.new.code
    c.emit_condition.new.code c.emit_meeting.new.code branch other
    c.in_ok-branch.ensures.code c.in_ok-branch.ensures.address (sym (joined_nothing c.emit_branch.new.code))
    c.in_ok-other.ensures.code c.in_ok-other.ensures.other c.in_ok-emit_condition.ensures e)

pub emit_or-emit_meeting-requires-clause-branch : goal.emit_or-emit_meeting-requires-clause-branch
emit_or-emit_meeting-requires-clause-branch t c =
    let one = condition_fragment (items_in c.args.self.now.declarations.now) c.args.one.now in
    (both_within one c.args.code.now c.emit_branch.new.code c.emit_jump.new.code c.emit_condition.new.code
    c.in_ok-branch.branch c.in_ok-other.other c.in_ok-branch.ensures.code c.in_ok-branch.ensures.address
    c.in_ok-other.ensures.code c.in_ok-other.ensures.other c.in_ok-emit_condition.ensures).0

pub emit_or-emit_meeting-requires-clause-jump : goal.emit_or-emit_meeting-requires-clause-jump
emit_or-emit_meeting-requires-clause-jump t c =
    let one = condition_fragment (items_in c.args.self.now.declarations.now) c.args.one.now in
    (both_within one c.args.code.now c.emit_branch.new.code c.emit_jump.new.code c.emit_condition.new.code
    c.in_ok-branch.branch c.in_ok-other.other c.in_ok-branch.ensures.code c.in_ok-branch.ensures.address
    c.in_ok-other.ensures.code c.in_ok-other.ensures.other c.in_ok-emit_condition.ensures).1

pub emit_or-emit_meeting-requires-clause-other : goal.emit_or-emit_meeting-requires-clause-other
emit_or-emit_meeting-requires-clause-other t c =
    let one = condition_fragment (items_in c.args.self.now.declarations.now) c.args.one.now in
    (both_within one c.args.code.now c.emit_branch.new.code c.emit_jump.new.code c.emit_condition.new.code
    c.in_ok-branch.branch c.in_ok-other.other c.in_ok-branch.ensures.code c.in_ok-branch.ensures.address
    c.in_ok-other.ensures.code c.in_ok-other.ensures.other c.in_ok-emit_condition.ensures).2
