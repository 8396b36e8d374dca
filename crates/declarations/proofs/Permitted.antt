-- Rules that ask which ranges a PERFORM may perform are those that ask nothing, where each range that is performed may
-- be.
use Rattle.std.proofs.Common.{◌≡◌, true, List, [], ◌∷◌, ◌++◌, None, Some, refl, sym, ap, ◌∙◌, subst}
use Rattle.std.specs.Prelude.{nat_lt, Bool, not, Option, All}
use Rattle.std.specs.List.{AllByRecursion}
use Rattle.std.proofs.lemmas.List.Elements.{recursion_from_All}
use Rattle.source_tree.specs.declared.name.Name.{Name}
use Rattle.source_tree.specs.declared.conditional_statement.ConditionalStatement.{ConditionalStatement}
use Rattle.source_tree.specs.declared.conditional_statement.ConditionalStatement.TheVariants.{If, Evaluate}
use Rattle.source_tree.specs.declared.evaluate_statement.Subject.{Subject}
use Rattle.source_tree.specs.declared.evaluate_statement.Selected.{Selected}
use Rattle.source_tree.specs.declared.perform_statement.Performed.{Performed}
use Rattle.source_tree.specs.declared.perform_statement.Performed.TheVariants.{Procedures, Statements}
use Rattle.source_tree.specs.declared.phrases.Phrases.{Phrases}
use Rattle.source_tree.specs.declared.phrases.FilePhrases.{FilePhrases}
use Rattle.source_tree.specs.declared.phrases.FilePhrases.TheVariants.{Absent, AtEnd, InvalidKey}
use Rattle.source_tree.specs.declared.statement.Verb.{Verb}
use Rattle.source_tree.specs.declared.statement.Verb.TheVariants as verb
use Rattle.source_tree.specs.declared.statement.Statement.{Statement, roll-Statement}
use Rattle.source_tree.specs.declared.statement.Statement.TheOpen.{Statement-F}
use Rattle.source_tree.specs.declared.statement.Statement.TheFolds.{map-Statement, ind-Statement}
use Rattle.source_tree.specs.ArithmeticRules.{operation_rules}
use Rattle.source_tree.specs.Broken.{RuleBreach, where_so, each}
use Rattle.source_tree.specs.ConditionRules.{condition_rules}
use Rattle.source_tree.specs.Filing.{phrases_of}
use Rattle.source_tree.specs.FilingRules.{filing_rules}
use Rattle.source_tree.specs.StringRules.{string_rules}
use Rattle.source_tree.specs.EvaluateRules.{subject_rules, when_rules, selected_rules}
use Rattle.source_tree.specs.PerformRules.{procedure_named, last_named, last_place, found_rules, range_rules}
use Rattle.source_tree.specs.Procedures.{Range, range_of}
use Rattle.source_tree.specs.Recursion.{Performance, each_performs, phrase_performs, file_phrases_performs}
use Rattle.source_tree.specs.Recursion.{selected_performs, range_performs, performed_performs, branching_performs}
use Rattle.source_tree.specs.Recursion.{verb_performs, statement_performs}
use Rattle.source_tree.specs.Rules.{phrase_rules, phrases_rules, file_phrases_rules, performed_rules, turns_rules}
use Rattle.source_tree.specs.Rules.{branching_rules, verb_rules, all_permitted, statement_rules}
use Rattle.source_tree.specs.Setting.{Scope}
use Rattle.declarations.proofs.RuleLayers.{mapped_rules}
use Rattle.declarations.proofs.PerformLayers.{mapped_performs}

all_front : {X : Type 0} (P : X → Type 0) (xs ys : List X) → AllByRecursion P (xs ++ ys) → AllByRecursion P xs
all_front P [] ys h = tt
all_front P (x ∷ xs) ys h = (h.0, all_front P xs ys h.1)

all_back : {X : Type 0} (P : X → Type 0) (xs ys : List X) → AllByRecursion P (xs ++ ys) → AllByRecursion P ys
all_back P [] ys h = h
all_back P (x ∷ xs) ys h = all_back P xs ys h.1

module _ (scope : Scope) (permits : Range → Bool) where
  abbrev pub IsPermitted : Performance → Type 0
  IsPermitted one = permits one.range ≡ true

  -- the same fact, by recursion on the list
  abbrev ArePermitted : List Performance → Type 0
  ArePermitted = AllByRecursion IsPermitted

  found_same : (first : Name) (last : Option Name) (found : Option Range)
      → ArePermitted (range_performs first.place found)
      → found_rules permits first last found ≡ found_rules all_permitted first last found
  found_same first last None h = refl
  found_same first last (Some range) h = ap (λ (b : Bool).
      where_so (nat_lt range.last range.first) 55 (last_place first last) ++ where_so (not b) 54 first.place) h.0

  range_same : (first : Name) (last : Option Name)
      → ArePermitted (range_performs first.place (range_of scope.procedures first last))
      → range_rules permits scope.procedures first last ≡ range_rules all_permitted scope.procedures first last
  range_same first last h =
      ap (λ l. procedure_named scope.procedures first ++ last_named scope.procedures last ++ l)
      (found_same first last (range_of scope.procedures first last) h)

  -- rules of the statements inside that are the same, where what they perform may be
  record AreSame {S : Type 0} (rules others : S → List RuleBreach) (performs : S → List Performance) : Type 0 where
    by : (one : S) → ArePermitted (performs one) → rules one ≡ others one

  module _ {S : Type 0} (rules others : S → List RuleBreach) (performs : S → List Performance)
      (same : AreSame rules others performs) where
    each_same : (all : List S) → ArePermitted (each_performs performs all) → each rules all ≡ each others all
    each_same [] h = refl
    each_same (one ∷ more) h =
        let front = same.by one (all_front IsPermitted (performs one) (each_performs performs more) h) in
        let back = each_same more (all_back IsPermitted (performs one) (each_performs performs more) h) in
        ap (λ l. l ++ each rules more) front ∙ ap (λ l. others one ++ l) back

    phrase_same : (phrase : Option (List S)) → ArePermitted (phrase_performs performs phrase)
        → phrase_rules rules phrase ≡ phrase_rules others phrase
    phrase_same None h = refl
    phrase_same (Some statements) h = each_same statements h

    phrases_same : (phrases : Phrases S)
        → ArePermitted (phrase_performs performs phrases.arose ++ phrase_performs performs phrases.did_not)
        → phrases_rules rules phrases ≡ phrases_rules others phrases
    phrases_same phrases h =
        let front = phrase_same phrases.arose
        (all_front IsPermitted (phrase_performs performs phrases.arose) (phrase_performs performs phrases.did_not) h) in
        let back = phrase_same phrases.did_not
        (all_back IsPermitted (phrase_performs performs phrases.arose) (phrase_performs performs phrases.did_not) h) in
        ap (λ l. l ++ phrase_rules rules phrases.did_not) front ∙ ap (λ l. phrase_rules others phrases.arose ++ l) back

    file_phrases_same : (phrases : FilePhrases S) → ArePermitted (file_phrases_performs performs phrases)
        → file_phrases_rules rules phrases ≡ file_phrases_rules others phrases
    file_phrases_same Absent h = refl
    file_phrases_same (AtEnd phrases) h = phrases_same phrases h
    file_phrases_same (InvalidKey phrases) h = phrases_same phrases h

    performed_same : (one : Performed S) → ArePermitted (performed_performs scope.procedures performs one)
        → performed_rules scope.procedures permits rules one ≡ performed_rules scope.procedures all_permitted others one
    performed_same (Procedures first last) h = range_same first last h
    performed_same (Statements statements) h = each_same statements h

    selected_same : (subjects : List Subject) (all : List (Selected S))
        → ArePermitted (each_performs (selected_performs performs) all)
        → each (selected_rules scope.items rules subjects) all ≡ each (selected_rules scope.items others subjects) all
    selected_same subjects [] h = refl
    selected_same subjects (one ∷ more) h =
        let asks = each (when_rules scope.items subjects) one.whens in
        let front = each_same one.statements (all_front IsPermitted (each_performs performs one.statements)
        (each_performs (selected_performs performs) more) h) in
        let back = selected_same subjects more (all_back IsPermitted (each_performs performs one.statements)
        (each_performs (selected_performs performs) more) h) in
        ap (λ l. asks ++ l ++ each (selected_rules scope.items rules subjects) more) front
        ∙ ap (λ l. asks ++ each others one.statements ++ l) back

    branching_same : (one : ConditionalStatement S) → ArePermitted (branching_performs performs one)
        → branching_rules scope.items rules one ≡ branching_rules scope.items others one
    branching_same (If condition statements otherwise) h =
        let asks = condition_rules scope.items condition in
        let front = each_same statements
        (all_front IsPermitted (each_performs performs statements) (phrase_performs performs otherwise) h) in
        let back = phrase_same otherwise
        (all_back IsPermitted (each_performs performs statements) (phrase_performs performs otherwise) h) in
        ap (λ l. asks ++ l ++ phrase_rules rules otherwise) front ∙ ap (λ l. asks ++ each others statements ++ l) back
    branching_same (Evaluate one) h =
        let asks = each (subject_rules scope.items) one.subjects in
        let front = selected_same one.subjects one.selected (all_front IsPermitted
        (each_performs (selected_performs performs) one.selected) (phrase_performs performs one.other) h) in
        let back = phrase_same one.other (all_back IsPermitted (each_performs (selected_performs performs) one.selected)
        (phrase_performs performs one.other) h) in
        ap (λ l. asks ++ l ++ phrase_rules rules one.other) front
        ∙ ap (λ l. asks ++ each (selected_rules scope.items others one.subjects) one.selected ++ l) back

    verb_same : (one : Verb S) → ArePermitted (verb_performs scope.procedures performs one)
        → verb_rules scope permits rules one ≡ verb_rules scope all_permitted others one
    verb_same (verb.DataStatement one) h = refl
    verb_same (verb.Arithmetic one) h =
        ap (λ l. operation_rules scope.items one.operation ++ l) (phrases_same one.phrases h)
    verb_same (verb.ConditionalStatement one) h = branching_same one h
    verb_same (verb.PerformStatement one) h =
        ap (λ l. turns_rules scope.items one.turns ++ l) (performed_same one.performed h)
    verb_same (verb.TextStatement one) h = refl
    verb_same (verb.StringStatement one) h = ap (λ l. string_rules scope.items one ++ l) (phrases_same one.phrases h)
    verb_same (verb.FileStatement one) h =
        ap (λ l. filing_rules scope.items scope.files one ++ l) (file_phrases_same (phrases_of one) h)
    verb_same (verb.ControlStatement one) h = refl

  record IsSame (one : Statement) : Type 0 where
    by : ArePermitted (statement_performs scope.procedures one)
        → statement_rules scope permits one ≡ statement_rules scope all_permitted one

  abbrev Same : Type 0
  Same = (one : Statement) × IsSame one

  same_inside : (l : Statement-F Same) → IsSame (roll-Statement (map-Statement Same Statement (λ m. m.0) l))
  same_inside l = record {
    by = λ h.
        let rules : Same → List RuleBreach = λ m. statement_rules scope permits m.0 in
        let others : Same → List RuleBreach = λ m. statement_rules scope all_permitted m.0 in
        let performs : Same → List Performance = λ m. statement_performs scope.procedures m.0 in
        mapped_rules scope permits (λ (m : Same). m.0) l
        ∙ verb_same rules others performs (record { by = λ m keep. m.1.by keep }) l.verb
        (subst ArePermitted (mapped_performs scope.procedures (λ (m : Same). m.0) l) h)
        ∙ sym (mapped_rules scope all_permitted (λ (m : Same). m.0) l);
  }

  statement_same : (one : Statement) → IsSame one
  statement_same = ind-Statement IsSame (λ one l is. subst (λ k. IsSame (roll-Statement k)) is (same_inside l))

  -- the rules of a statement of which each range that it performs may be performed
  pub permitted_rules : (one : Statement) → All IsPermitted (statement_performs scope.procedures one)
      → statement_rules scope permits one ≡ statement_rules scope all_permitted one
  permitted_rules one h =
      (statement_same one).by (recursion_from_All IsPermitted (statement_performs scope.procedures one) h)

  -- It breaks none of them, where it breaks none of those that ask nothing of ranges.
  pub permitted_kept : (one : Statement) → statement_rules scope all_permitted one ≡ []
      → All IsPermitted (statement_performs scope.procedures one)
      → statement_rules scope permits one ≡ []
  permitted_kept one kept h = permitted_rules one h ∙ kept
