-- The first breach of a statement is that of its own rules, or else that of the statements in it.
use Rattle.std.proofs.Common.{◌≡◌, List, [], ◌++◌, None, Some, refl, sym, ap, subst, ◌∙◌, append_assoc}
use Rattle.std.specs.Prelude.{Option, Result}
use Rattle.std.proofs.lemmas.List.{append-nil}
use Rattle.source_tree.specs.declared.conditional_statement.ConditionalStatement.TheVariants.{If, Evaluate}
use Rattle.source_tree.specs.declared.perform_statement.Performed.{Performed}
use Rattle.source_tree.specs.declared.perform_statement.Performed.TheVariants.{Procedures, Statements}
use Rattle.source_tree.specs.declared.perform_statement.Repetition.{Repetition}
use Rattle.source_tree.specs.declared.phrases.FilePhrases.{FilePhrases}
use Rattle.source_tree.specs.declared.phrases.FilePhrases.TheVariants.{Absent, AtEnd, InvalidKey}
use Rattle.source_tree.specs.declared.statement.Statement.{Statement, out-Statement}
use Rattle.source_tree.specs.declared.statement.Verb.{Verb}
use Rattle.source_tree.specs.declared.statement.Verb.TheVariants as verb
use Rattle.source_tree.specs.ArithmeticRules.{operation_rules}
use Rattle.source_tree.specs.Broken.{RuleBreach, each}
use Rattle.source_tree.specs.ConditionRules.{condition_rules}
use Rattle.source_tree.specs.EvaluateRules.{subject_rules, selected_rules}
use Rattle.source_tree.specs.Filing.{phrases_of}
use Rattle.source_tree.specs.FilingRules.{filing_rules}
use Rattle.source_tree.specs.LookUp.{first}
use Rattle.source_tree.specs.PerformRules.{range_rules}
use Rattle.source_tree.specs.Rules.{all_permitted, moving_rules, text_rules, turns_rules, phrase_rules}
use Rattle.source_tree.specs.Rules.{file_phrases_rules, verb_rules, statement_rules}
use Rattle.source_tree.specs.Setting.{Scope}
use Rattle.source_tree.specs.StatementCount.{in_phrase}
use Rattle.source_tree.specs.StringRules.{string_rules}
use Rattle.entry_rules.specs.declared.rule.BrokenRule.{BrokenRule}
use Rattle.entry_rules.specs.Checks.{IsFirstBreach}
use Rattle.declarations.proofs.Firsts.{first_front, first_back}
use Rattle.declarations.proofs.RuleLayers.{statement_is}
use Rattle.check_rules.specs.declared.inner_statements.InnerStatements.{InnerStatements}
use Rattle.check_rules.specs.InnerStatements.{InnerLists, file_phrases_lists, inner_lists, lists_in}
use Rattle.check_rules.specs.OwnRules.{own_rules}
use Rattle.check_rules.proofs.Parts.{kept_before}

-- ---- the rules of a statement are its own, and those of the statements in it

module _ {S : Type 0} (scope : Scope) (inside : S → List RuleBreach) where
  abbrev inner_rules : InnerLists S → List RuleBreach
  inner_rules all = each (selected_rules scope.items inside all.subjects) all.selected
      ++ (each inside all.first ++ each inside all.second)

  phrase_is : (phrase : Option (List S)) → phrase_rules inside phrase ≡ each inside (in_phrase phrase)
  phrase_is None = refl
  phrase_is (Some all) = refl

  pair_is : (arose did_not : Option (List S))
      → phrase_rules inside arose ++ phrase_rules inside did_not
      ≡ each inside (in_phrase arose) ++ each inside (in_phrase did_not)
  pair_is arose did_not = ap (λ l. l ++ phrase_rules inside did_not) (phrase_is arose)
      ∙ ap (λ l. each inside (in_phrase arose) ++ l) (phrase_is did_not)

  file_phrases_is : (phrases : FilePhrases S)
      → file_phrases_rules inside phrases ≡ inner_rules (file_phrases_lists phrases)
  file_phrases_is Absent = refl
  file_phrases_is (AtEnd pair) = pair_is pair.arose pair.did_not
  file_phrases_is (InvalidKey pair) = pair_is pair.arose pair.did_not

  phrase_behind : (own rules : List RuleBreach) (phrase : Option (List S))
      → own ++ rules ++ phrase_rules inside phrase ≡ own ++ (rules ++ each inside (in_phrase phrase))
  phrase_behind own rules phrase = append_assoc own rules (phrase_rules inside phrase)
      ∙ ap (λ l. own ++ (rules ++ l)) (phrase_is phrase)

  performing_is : (often : Repetition) (what : Performed S)
      → verb_rules scope all_permitted inside (verb.PerformStatement (record { performed = what; turns = often }))
      ≡ own_rules scope (verb.PerformStatement (record { performed = what; turns = often }))
      ++ inner_rules (inner_lists (verb.PerformStatement (record { performed = what; turns = often })))
  performing_is often (Procedures from last) =
      sym (append-nil (turns_rules scope.items often ++ range_rules all_permitted scope.procedures from last))
  performing_is often (Statements all) =
      ap (λ l. turns_rules scope.items often ++ l) (sym (append-nil (each inside all)))
      ∙ ap (λ l. l ++ (each inside all ++ [])) (sym (append-nil (turns_rules scope.items often)))

  verb_is : (one : Verb S)
      → verb_rules scope all_permitted inside one ≡ own_rules scope one ++ inner_rules (inner_lists one)
  verb_is (verb.DataStatement one) = sym (append-nil (moving_rules scope.items one))
  verb_is (verb.Arithmetic one) =
      ap (λ l. operation_rules scope.items one.operation ++ l) (pair_is one.phrases.arose one.phrases.did_not)
  verb_is (verb.ConditionalStatement (If condition statements otherwise)) =
      phrase_behind (condition_rules scope.items condition) (each inside statements) otherwise
  verb_is (verb.ConditionalStatement (Evaluate one)) = phrase_behind (each (subject_rules scope.items) one.subjects)
      (each (selected_rules scope.items inside one.subjects) one.selected) one.other
  verb_is (verb.PerformStatement one) = performing_is one.turns one.performed
  verb_is (verb.TextStatement one) = sym (append-nil (text_rules scope.items one))
  verb_is (verb.StringStatement one) =
      ap (λ l. string_rules scope.items one ++ l) (pair_is one.phrases.arose one.phrases.did_not)
  verb_is (verb.FileStatement one) =
      ap (λ l. filing_rules scope.items scope.files one ++ l) (file_phrases_is (phrases_of one))
  verb_is (verb.ControlStatement one) = refl

-- ---- what is found of a part is found of the statement

module _ (scope : Scope) (one : Statement) where
  abbrev rules : Statement → List RuleBreach
  rules = statement_rules scope all_permitted

  abbrev own : List RuleBreach
  own = own_rules scope (out-Statement one).verb

  parts_are : rules one ≡ own ++ inner_rules scope rules (inner_lists (out-Statement one).verb)
  parts_are = statement_is scope all_permitted one ∙ verb_is scope rules (out-Statement one).verb

  pub found_first : (broken : RuleBreach) → first own ≡ Some broken → first (rules one) ≡ Some broken
  found_first broken h = ap first parts_are
      ∙ first_front own (inner_rules scope rules (inner_lists (out-Statement one).verb)) broken h

  module _ (inner : InnerStatements Statement) (is : lists_in inner ≡ inner_lists (out-Statement one).verb)
      (kept : own ≡ []) where
    abbrev chosen : List RuleBreach
    chosen = each (selected_rules scope.items rules inner.subjects.now) inner.selected.now

    abbrev front : List RuleBreach
    front = each rules inner.first.now

    abbrev back : List RuleBreach
    back = each rules inner.second.now

    all_are : rules one ≡ own ++ (chosen ++ (front ++ back))
    all_are = parts_are ∙ ap (λ (all : InnerLists Statement). own ++ inner_rules scope rules all) (sym is)

    pub found_chosen : (broken : RuleBreach) → first chosen ≡ Some broken → first (rules one) ≡ Some broken
    found_chosen broken h = ap first all_are
        ∙ first_back own (chosen ++ (front ++ back)) broken kept (first_front chosen (front ++ back) broken h)

    pub found_front : (broken : RuleBreach) → chosen ≡ [] → first front ≡ Some broken → first (rules one) ≡ Some broken
    found_front broken none h = ap first all_are
        ∙ first_back own (chosen ++ (front ++ back)) broken kept
        (first_back chosen (front ++ back) broken none (first_front front back broken h))

    pub found_back : {A : Type 0} (result : Result A BrokenRule) → chosen ≡ [] → front ≡ [] → IsFirstBreach result back
        → IsFirstBreach result (rules one)
    found_back result none nothing h = subst (IsFirstBreach result) (sym all_are)
        (kept_before result own (chosen ++ (front ++ back)) kept
        (kept_before result chosen (front ++ back) none (kept_before result front back nothing h)))
