-- EVALUATE: what is read is spelled, and what is spelled is read.
use Rattle.std.proofs.Common.{◌≡◌, ◌<◌, ℕ, true, List, [], ◌∷◌, length, Some, refl, ap, ◌∙◌, subst, arith}
use Rattle.tokens.specs.declared.reserved.Reserved.TheVariants as w
use Rattle.tokens.specs.declared.token.Token.{Token}
use Rattle.source_tree.specs.declared.evaluate_statement.Object.{Object}
use Rattle.source_tree.specs.declared.evaluate_statement.Evaluate.{Evaluate}
use Rattle.source_tree.specs.declared.conditional_statement.ConditionalStatement.TheVariants as branch
use Rattle.source_tree.specs.declared.statement.Verb.TheVariants as verb
use Rattle.source_tree.specs.declared.statement.Statement.{Statement}
use Rattle.grammar.specs.declared.fault.Halt.{Halt}
use Rattle.grammar.specs.Parts as grammar
use Rattle.grammar.specs.Parts.{Part, lookahead, word}
use Rattle.grammar.specs.Reading as read
use Rattle.grammar.specs.Reading.{Parser, begins_word, after_word}
use Rattle.grammar.specs.Phrases.{phrase}
use Rattle.grammar.proofs.Outcomes.{Answers, Reached, step, unstep, value, last}
use Rattle.grammar.proofs.Looking.{Finds, Tests, finds_word, finds_also, is_missing, tests_tested, tests_words}
use Rattle.grammar.proofs.Looking.{tests_but, word_begins, word_stands}
use Rattle.grammar.proofs.Lists as lists
use Rattle.grammar.proofs.Lists.{Sound, Complete, Shrinks, Starts}
use Rattle.grammar.proofs.Parts.{verb_sound, verb_complete, word_sound, word_complete, word_shrinks, skip_sound}
use Rattle.grammar.proofs.Parts.{skip_complete, skip_shrinks}
use Rattle.grammar.proofs.Phrases.{phrase_shrinks, phrase_sound, phrase_complete}
use Rattle.conditions.specs.Evaluate.{subject, subject_reader, object, object_reader}
use Rattle.conditions.proofs.Exact.Evaluate.{subject_sound, subject_shrinks, object_sound, object_shrinks}
use Rattle.statements.specs.declared.verb.VerbWord.TheVariants as v
use Rattle.statements.specs.Verbs.{verb_at}
use Rattle.statements.specs.Evaluate as rule
use Rattle.statements.specs.Evaluate.{also_item_reader, listed_reader, after_when_other, begins_when, when_reader}
use Rattle.statements.specs.Evaluate.{selected_reader, other_reader, evaluate_reader}
use Rattle.statements.specs.Spelling as g
use Rattle.statements.specs.Reading as r
use Rattle.statements.proofs.Standing.{stands}
use Rattle.statements.proofs.StatementLists.{statements_sound}
use Rattle.statements.proofs.Objects.{object_no_other}

-- ---- lists with ALSO between

module _ {A : Type 0} (p : A → Part) where
  further_shrinks : Shrinks p → Shrinks (rule.also_item p)
  further_shrinks each x i rest (i1, also, one) = let a = word_shrinks w.Also i i1 also in let b =
      each x i1 rest one in omega arith

  further_starts : Starts (begins_word w.Also) (rule.also_item p)
  further_starts x i rest (i1, also, one) = word_begins w.Also i i1 also

  listed_shrinks : Shrinks p → Shrinks (rule.also_list p)
  listed_shrinks each [] i rest s = absurd s
  listed_shrinks each (first ∷ more) i rest (i1, one, others) =
      let a = each first i i1 one in
      let b = lists.any_shrinks (rule.also_item p) (lookahead (begins_word w.Also)) (further_shrinks each) more i1 rest
      others in omega arith

  module _ (reader : Parser A) where
    further_sound : Sound p reader → Sound (rule.also_item p) (also_item_reader reader)
    unfolding also_item_reader
    further_sound each x i rest e =
        unstep (read.expect w.Also i) _ e (λ u i1 is1 e1. (i1, word_sound w.Also u i i1 is1, each x i1 rest e1))

    more_sound : Sound p reader → Sound (grammar.any (rule.also_item p) (lookahead (begins_word w.Also)))
        (read.any (also_item_reader reader) (begins_word w.Also))
    more_sound each =
        lists.any_sound (rule.also_item p) (also_item_reader reader) (lookahead (begins_word w.Also))
        (begins_word w.Also) (tests_tested (begins_word w.Also)) (further_sound each)

    listed_sound : Sound p reader → Sound (rule.also_list p) (listed_reader reader)
    unfolding listed_reader
    listed_sound each x i rest e =
        unstep (reader i) _ e (λ first i1 is1 e1.
        unstep (read.any (also_item_reader reader) (begins_word w.Also) i1) _ e1 (λ more i2 is2 e2.
        subst (λ y. rule.also_list p y i rest) (value e2)
        (i1, each first i i1 is1, more_sound each more i1 rest (last is2 e2))))

    module _ (Allowed : Halt → Type 0) (each : Complete Allowed p reader) (fewer : Shrinks p) where
      further_complete : Complete Allowed (rule.also_item p) (also_item_reader reader)
      unfolding also_item_reader
      further_complete x i rest (i1, also, one) =
          step (read.expect w.Also i) _ (word_complete w.Also tt i i1 also) (each x i1 rest one)

      more_complete : Complete Allowed (grammar.any (rule.also_item p) (lookahead (begins_word w.Also)))
          (read.any (also_item_reader reader) (begins_word w.Also))
      more_complete =
          lists.any_complete (rule.also_item p) (also_item_reader reader) (lookahead (begins_word w.Also))
          (begins_word w.Also) (tests_tested (begins_word w.Also)) Allowed
          further_complete (further_shrinks fewer) further_starts

      listed_complete : Complete Allowed (rule.also_list p) (listed_reader reader)
      unfolding listed_reader
      listed_complete [] i rest s = absurd s
      listed_complete (first ∷ more) i rest (i1, one, others) =
          step (reader i) _ (each first i i1 one)
          (step (read.any (also_item_reader reader) (begins_word w.Also) i1) _ (more_complete more i1 rest others)
          (Reached refl))

-- ---- WHEN, and WHEN OTHER

finds_when_other : Finds rule.when_other after_when_other
unfolding after_when_other
finds_when_other = finds_also (word w.When) (after_word w.When) w.Other (finds_word w.When)

when_other_shrinks : (i rest : List Token) → rule.when_other i rest → length rest < length i
when_other_shrinks i rest (i1, first, second) = let a = word_shrinks w.When i i1 first in let b =
    word_shrinks w.Other i1 rest second in omega arith

tests_when : Tests rule.when_begins begins_when
tests_when = tests_but (tests_tested (begins_word w.When)) (tests_words finds_when_other)

-- WHEN, where OTHER does not follow
when_stands : (i rest : List Token) → word w.When i rest → ((after : List Token) → word w.Other rest after → ⊥)
    → begins_when i ≡ true
unfolding after_when_other
when_stands i rest first no_other =
    rw (word_begins w.When i rest first, word_stands w.When i rest first, is_missing (finds_word w.Other) rest no_other)
    refl

objects_no_other : (depth : ℕ) (all : List Object) (i rest after : List Token)
    → rule.also_list (object depth) all i rest → word w.Other i after → ⊥
objects_no_other depth [] i rest after s other = absurd s
objects_no_other depth (first ∷ more) i rest after (i1, one, others) other =
    object_no_other depth first i i1 after one other

module _ (depth : ℕ) where
  when_starts : Starts begins_when (rule.when depth)
  when_starts one i rest (i2, (i1, at, first), objects) =
      ap begins_when at.0
      ∙ when_stands i1 i2 first (λ after other. objects_no_other depth one.objects i2 rest after objects other)

  when_shrinks : Shrinks (rule.when depth)
  when_shrinks one i rest (i2, (i1, at, first), objects) =
      let l = ap length at.0 in
      let a = word_shrinks w.When i1 i2 first in
      let b = listed_shrinks (object depth) (object_shrinks depth) one.objects i2 rest objects in omega arith

  when_sound : Sound (rule.when depth) (when_reader depth)
  unfolding when_reader
  when_sound one i rest e =
      unstep (read.verb w.When i) _ e (λ place i1 is1 e1.
      unstep (listed_reader (object_reader depth) i1) _ e1 (λ objects i2 is2 e2.
      subst (λ y. rule.when depth y i rest) (value e2) (
        i1,
        verb_sound w.When place i i1 is1,
        listed_sound (object depth) (object_reader depth) (object_sound depth) objects i1 rest (last is2 e2),
      )))

  whens_sound :
      Sound (grammar.several (rule.when depth) rule.when_begins) (read.several (when_reader depth) begins_when)
  whens_sound =
      lists.several_sound (rule.when depth) (when_reader depth) rule.when_begins begins_when tests_when when_sound

-- ---- WHENs with their statements

module _ (statements : List Statement → Part) (depth : ℕ) where
  selected_starts : Starts begins_when (rule.when_group depth statements)
  selected_starts one i rest (i1, whens, inner) =
      lists.several_starts (rule.when depth) rule.when_begins begins_when (when_starts depth) one.whens i i1 whens

  selected_shrinks : Shrinks statements → Shrinks (rule.when_group depth statements)
  selected_shrinks fewer one i rest (i1, whens, inner) =
      let a = lists.several_shrinks (rule.when depth) rule.when_begins (when_shrinks depth) one.whens i i1 whens in
      let b = fewer one.statements i1 rest inner in omega arith

  pub evaluating_stands : (one : Evaluate Statement) (i rest : List Token)
      → rule.evaluate_statement depth statements one i rest → verb_at i ≡ Some v.Evaluate
  evaluating_stands one i rest s = stands w.Evaluate i s.0 s.1

  pub evaluating_shrinks : Shrinks statements → Shrinks (rule.evaluate_statement depth statements)
  evaluating_shrinks fewer one i rest (i1, verb, (i2, subjects, (i3, groups, (i4, other, end)))) =
      let a = word_shrinks w.Evaluate i i1 verb in
      let b = listed_shrinks (subject depth) (subject_shrinks depth) one.subjects i1 i2 subjects in
      let c = lists.several_shrinks (rule.when_group depth statements) rule.when_begins (selected_shrinks fewer)
      one.selected i2 i3 groups in
      let d = phrase_shrinks statements rule.when_other when_other_shrinks fewer one.other i3 i4 other in
      let e = skip_shrinks w.EndEvaluate i4 rest end in omega arith

  module _ (reader : Parser (List Statement)) (each : Sound statements reader) where
    selected_sound : Sound (rule.when_group depth statements) (selected_reader depth reader)
    unfolding selected_reader
    selected_sound one i rest e =
        unstep (read.several (when_reader depth) begins_when i) _ e (λ whens i1 is1 e1.
        unstep (reader i1) _ e1 (λ inner i2 is2 e2.
        subst (λ y. rule.when_group depth statements y i rest) (value e2)
        (i1, whens_sound depth whens i i1 is1, each inner i1 rest (last is2 e2))))

    groups_sound : Sound (grammar.several (rule.when_group depth statements) rule.when_begins)
        (read.several (selected_reader depth reader) begins_when)
    groups_sound = lists.several_sound (rule.when_group depth statements) (selected_reader depth reader)
        rule.when_begins begins_when tests_when selected_sound

    other_sound : Sound (phrase statements rule.when_other) (other_reader reader)
    unfolding other_reader
    other_sound = phrase_sound statements reader finds_when_other each

-- ---- what is spelled is read

module _ (Allowed : Halt → Type 0) (depth depth' : ℕ)
    (compares : Complete Allowed (object depth') (object_reader depth)) where
  when_complete : Complete Allowed (rule.when depth') (when_reader depth)
  unfolding when_reader
  when_complete one i rest (i1, verb, objects) =
      step (read.verb w.When i) _ (verb_complete w.When one.place i i1 verb)
      (step (listed_reader (object_reader depth) i1) _
      (listed_complete (object depth') (object_reader depth) Allowed compares (object_shrinks depth') one.objects i1
      rest objects) (Reached refl))

  whens_complete : Complete Allowed (grammar.several (rule.when depth') rule.when_begins)
      (read.several (when_reader depth) begins_when)
  whens_complete =
      lists.several_complete (rule.when depth') (when_reader depth) rule.when_begins begins_when tests_when Allowed
      when_complete (when_shrinks depth') (when_starts depth')

  module _ (statements : List Statement → Part) (reader : Parser (List Statement))
      (each : Complete Allowed statements reader) (fewer : Shrinks statements) where
    selected_complete : Complete Allowed (rule.when_group depth' statements) (selected_reader depth reader)
    unfolding selected_reader
    selected_complete one i rest (i1, whens, inner) =
        step (read.several (when_reader depth) begins_when i) _ (whens_complete one.whens i i1 whens)
        (step (reader i1) _ (each one.statements i1 rest inner) (Reached refl))

    groups_complete : Complete Allowed (grammar.several (rule.when_group depth' statements) rule.when_begins)
        (read.several (selected_reader depth reader) begins_when)
    groups_complete =
        lists.several_complete (rule.when_group depth' statements) (selected_reader depth reader) rule.when_begins
        begins_when tests_when Allowed
        selected_complete (selected_shrinks statements depth' fewer) (selected_starts statements depth')

    other_complete : Complete Allowed (phrase statements rule.when_other) (other_reader reader)
    unfolding other_reader
    other_complete = phrase_complete statements reader Allowed each finds_when_other

    pub evaluating_complete : Complete Allowed (subject depth') (subject_reader depth)
        → (one : Evaluate Statement) (i rest : List Token)
        → rule.evaluate_statement depth' statements one i rest
        → Answers Allowed (evaluate_reader depth reader i) (verb.ConditionalStatement (branch.Evaluate one)) rest
    unfolding evaluate_reader
    evaluating_complete names one i rest (i1, verb, (i2, subjects, (i3, groups, (i4, other, end)))) =
        step (read.expect w.Evaluate i) _ (word_complete w.Evaluate tt i i1 verb)
        (step (listed_reader (subject_reader depth) i1) _
        (listed_complete (subject depth') (subject_reader depth) Allowed names (subject_shrinks depth') one.subjects i1
        i2 subjects)
        (step (read.several (selected_reader depth reader) begins_when i2) _ (groups_complete one.selected i2 i3 groups)
        (step (other_reader reader i3) _ (other_complete one.other i3 i4 other)
        (step (read.skip w.EndEvaluate i4) _ (skip_complete w.EndEvaluate tt i4 rest end) (Reached refl)))))

-- ---- what is read is spelled

pub evaluating_sound : (depth : ℕ) (p : Statement → Part) (nested : Parser Statement) → Sound p nested
    → Sound (g.verb_line depth p) (evaluate_reader depth (r.statements nested))
unfolding evaluate_reader
evaluating_sound depth p nested each x i rest e =
    unstep (read.expect w.Evaluate i) _ e (λ u i1 is1 e1.
    unstep (listed_reader (subject_reader depth) i1) _ e1 (λ subjects i2 is2 e2.
    unstep (read.several (selected_reader depth (r.statements nested)) begins_when i2) _ e2 (λ groups i3 is3 e3.
    unstep (other_reader (r.statements nested) i3) _ e3 (λ other i4 is4 e4.
    unstep (read.skip w.EndEvaluate i4) _ e4 (λ t i5 is5 e5.
    subst (λ y. g.verb_line depth p y i rest) (value e5) (
      i1,
      word_sound w.Evaluate u i i1 is1,
      (
        i2,
        listed_sound (subject depth) (subject_reader depth) (subject_sound depth) subjects i1 i2 is2,
        (
          i3,
          groups_sound (g.statements p) depth (r.statements nested) (statements_sound p nested each) groups i2 i3 is3,
          (
            i4,
            other_sound (g.statements p) depth (r.statements nested) (statements_sound p nested each) other i3 i4 is4,
            skip_sound w.EndEvaluate t i4 rest (last is5 e5),
          ),
        ),
      ),
    ))))))
