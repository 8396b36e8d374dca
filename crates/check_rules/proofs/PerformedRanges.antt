-- What PERFORMs perform, where the rules of statements are kept: paragraphs that there are, from one to the same or a
-- later one.
use Rattle.std.proofs.Common.{◌≡◌, ℕ, ◌<◌, ◌≤◌, ◌+◌, ◌^◌, Bool, true, false, List, [], ◌∷◌, ◌++◌, length, None, Some}
use Rattle.std.proofs.Common.{refl, sym, ap, ◌∙◌, subst, append_assoc, arith}
use Rattle.std.specs.Prelude.{nat_lt, cond, filter, map, Option, All}
use Rattle.std.specs.List.{AllByRecursion}
use Rattle.std.proofs.lemmas.Bool.{ltb-false}
use Rattle.std.proofs.lemmas.List.{length-append, length-map}
use Rattle.std.proofs.lemmas.List.Elements.{All-from_recursion}
use Rattle.lexical.specs.declared.place.Place.{Place}
use Rattle.perform_graph.specs.declared.performed.PerformedRange.{PerformedRange}
use Rattle.perform_graph.specs.Order.{IsRange}
use Rattle.source_tree.specs.declared.name.Name.{Name}
use Rattle.source_tree.specs.declared.conditional_statement.ConditionalStatement.{ConditionalStatement}
use Rattle.source_tree.specs.declared.conditional_statement.ConditionalStatement.TheVariants.{If, Evaluate}
use Rattle.source_tree.specs.declared.evaluate_statement.Subject.{Subject}
use Rattle.source_tree.specs.declared.evaluate_statement.Selected.{Selected}
use Rattle.source_tree.specs.declared.perform_statement.Performed.{Performed}
use Rattle.source_tree.specs.declared.perform_statement.Performed.TheVariants.{Procedures, Statements}
use Rattle.source_tree.specs.declared.phrases.Phrases.{Phrases}
use Rattle.source_tree.specs.declared.phrases.FilePhrases.{FilePhrases}
use Rattle.source_tree.specs.declared.phrases.FilePhrases.TheVariants.{Absent, AtEnd, InvalidKey}
use Rattle.source_tree.specs.declared.program.Sentence.{Sentence}
use Rattle.source_tree.specs.declared.program.Paragraph.{Paragraph}
use Rattle.source_tree.specs.declared.program.Section.{Section}
use Rattle.source_tree.specs.declared.program.Program.{Program}
use Rattle.source_tree.specs.declared.statement.Verb.{Verb}
use Rattle.source_tree.specs.declared.statement.Verb.TheVariants as verb
use Rattle.source_tree.specs.declared.statement.Statement.{Statement, roll-Statement}
use Rattle.source_tree.specs.declared.statement.Statement.TheOpen.{Statement-F}
use Rattle.source_tree.specs.declared.statement.Statement.TheFolds.{map-Statement, ind-Statement}
use Rattle.source_tree.specs.ArithmeticRules.{operation_rules}
use Rattle.source_tree.specs.Broken.{RuleBreach, where_so, each}
use Rattle.source_tree.specs.ConditionRules.{condition_rules}
use Rattle.source_tree.specs.Filing.{phrases_of}
use Rattle.source_tree.specs.FilingRules.{filing_rules}
use Rattle.source_tree.specs.StringRules.{string_rules}
use Rattle.source_tree.specs.EvaluateRules.{subject_rules, when_rules, selected_rules}
use Rattle.source_tree.specs.PerformRules.{procedure_named, last_named, last_place, found_rules, range_rules}
use Rattle.source_tree.specs.Procedures.{Range, Procedure, paragraphs_or_one, paragraphs_in, paragraph_procedures}
use Rattle.source_tree.specs.Procedures.{procedures_from, procedures_of, is_procedure, procedures_named, only_range}
use Rattle.source_tree.specs.Procedures.{range_named, to_end_of, range_through, range_of}
use Rattle.source_tree.specs.Recursion.{Performance, each_performs, phrase_performs, file_phrases_performs}
use Rattle.source_tree.specs.Recursion.{selected_performs, range_performs, performed_performs, branching_performs}
use Rattle.source_tree.specs.Recursion.{verb_performs, statement_performs, paragraph_performs, performs_from, performs}
use Rattle.source_tree.specs.Recursion.{performed_by_program}
use Rattle.source_tree.specs.Rules.{phrase_rules, phrases_rules, file_phrases_rules, performed_rules, turns_rules}
use Rattle.source_tree.specs.Rules.{branching_rules, verb_rules, all_permitted, statement_rules, sentence_rules}
use Rattle.source_tree.specs.Rules.{paragraph_rules, sections_rules}
use Rattle.source_tree.specs.Setting.{Scope, paragraphs}
use Rattle.declarations.specs.declared.declarations.Declarations.{Declarations}
use Rattle.check_rules.specs.declared.performs.Performs.{Performs}
use Rattle.declarations.specs.Named.{Declares, procedures_in, scope_in}
use Rattle.check_rules.specs.Performs.{AppendsPerforms, HasNext, in_paragraph}
use Rattle.declarations.proofs.RuleLayers.{mapped_rules}
use Rattle.declarations.proofs.PerformLayers.{mapped_performs}

left_none : {A : Type 0} (xs ys : List A) → xs ++ ys ≡ [] → xs ≡ []
left_none [] ys e = refl
left_none (x ∷ xs) ys e = absurd cc

right_none : {A : Type 0} (xs ys : List A) → xs ++ ys ≡ [] → ys ≡ []
right_none [] ys e = e
right_none (x ∷ xs) ys e = absurd cc

all_both : {A : Type 0} (P : A → Type 0) (xs ys : List A) → AllByRecursion P xs → AllByRecursion P ys
    → AllByRecursion P (xs ++ ys)
all_both P [] ys h k = k
all_both P (x ∷ xs) ys h k = (h.0, all_both P xs ys h.1 k)

-- ---- procedures lie below the count of paragraphs

module _ (count : ℕ) where
  abbrev LiesBelow : Procedure → Type 0
  LiesBelow one = one.range.last < count

  paragraphs_below : (number : ℕ) (paragraphs : List Paragraph) → number + length paragraphs ≤ count
      → AllByRecursion LiesBelow (paragraph_procedures number paragraphs)
  paragraphs_below number [] room = tt
  paragraphs_below number (one ∷ more) room = (omega arith, paragraphs_below (number + 1) more (omega arith))

  -- a section has one at least
  some_paragraph : (paragraphs : List Paragraph) → 1 ≤ length (paragraphs_or_one paragraphs)
  some_paragraph [] = omega arith
  some_paragraph (one ∷ more) = omega arith

  sections_below : (number : ℕ) (sections : List Section) → number + length (paragraphs_in sections) ≤ count
      → AllByRecursion LiesBelow (procedures_from number sections)
  sections_below number [] room = tt
  sections_below number (one ∷ more) room =
      let paragraphs = paragraphs_or_one one.paragraphs in
      let sum = length-append paragraphs (paragraphs_in more) in
      let some = some_paragraph one.paragraphs in (
        omega (arith, sum, some),
        all_both LiesBelow (paragraph_procedures number paragraphs) (procedures_from (number + length paragraphs) more)
            (paragraphs_below number paragraphs (omega (arith, sum)))
            (sections_below (number + length paragraphs) more (omega (arith, sum))),
      )

  -- a range, if there is one
  abbrev EndsBelow : Option Range → Type 0
  EndsBelow None = Unit {0}
  EndsBelow (Some range) = range.last < count

  kept_below : (b : Bool) (one : Procedure) (more : List Procedure) → LiesBelow one → AllByRecursion LiesBelow more
      → AllByRecursion LiesBelow (cond b (one ∷ more) more)
  kept_below true one more h k = (h, k)
  kept_below false one more h k = k

  filter_below : (test : Procedure → Bool) (procedures : List Procedure) → AllByRecursion LiesBelow procedures
      → AllByRecursion LiesBelow (filter test procedures)
  filter_below test [] h = tt
  filter_below test (one ∷ more) h = kept_below (test one) one (filter test more) h.0 (filter_below test more h.1)

  only_below : (procedures : List Procedure) → AllByRecursion LiesBelow procedures → EndsBelow (only_range procedures)
  only_below [] h = tt
  only_below (one ∷ []) h = h.0
  only_below (one ∷ other ∷ more) h = tt

  module _ (procedures : List Procedure) (below : AllByRecursion LiesBelow procedures) where
    named_below : (name : Name) → EndsBelow (range_named procedures name)
    named_below name = only_below (procedures_named procedures name) (filter_below (is_procedure name) procedures below)

    to_end_below : (first : Range) (last : Option Range) → EndsBelow last → EndsBelow (to_end_of first last)
    to_end_below first None h = tt
    to_end_below first (Some last) h = h

    through_below : (last : Option Name) (first : Option Range) → EndsBelow first
        → EndsBelow (range_through procedures last first)
    through_below None None h = tt
    through_below (Some last) None h = tt
    through_below None (Some first) h = h
    through_below (Some last) (Some first) h = to_end_below first (range_named procedures last) (named_below last)

    range_below : (first : Name) (last : Option Name) → EndsBelow (range_of procedures first last)
    range_below first last = through_below last (range_named procedures first) (named_below first)

-- ---- statements

module _ (items_and : Scope) (count : ℕ) (below : AllByRecursion (LiesBelow count) items_and.procedures) where
  abbrev procedures : List Procedure
  procedures = items_and.procedures

  abbrev rules_of : Statement → List RuleBreach
  rules_of = statement_rules items_and all_permitted

  -- in order, and below the count of paragraphs
  record IsInOrder (one : Performance) : Type 0 where
    order : one.range.first ≤ one.range.last
    last : one.range.last < count

  abbrev AreInOrder : List Performance → Type 0
  AreInOrder = AllByRecursion IsInOrder

  not_backwards : (b : Bool) (place : Place) (more : List RuleBreach) → where_so b 55 place ++ more ≡ [] → b ≡ false
  not_backwards true place more e = absurd cc
  not_backwards false place more e = refl

  found_in_order : (first : Name) (last : Option Name) (found : Option Range) → EndsBelow count found
      → found_rules all_permitted first last found ≡ []
      → AreInOrder (range_performs first.place found)
  found_in_order first last None ends e = tt
  found_in_order first last (Some range) ends e =
      let order =
      ltb-false range.last range.first (not_backwards (nat_lt range.last range.first) (last_place first last) [] e) in
      (record { order = order; last = ends }, tt)

  range_in_order : (first : Name) (last : Option Name) → range_rules all_permitted procedures first last ≡ []
      → AreInOrder (range_performs first.place (range_of procedures first last))
  range_in_order first last e =
      found_in_order first last (range_of procedures first last) (range_below count procedures below first last)
      (right_none (procedure_named procedures first ++ last_named procedures last)
      (found_rules all_permitted first last (range_of procedures first last)) e)

  -- what performs in order, where it keeps its rules
  record KeepOrder {S : Type 0} (rules : S → List RuleBreach) (performs : S → List Performance) : Type 0 where
    by : (one : S) → rules one ≡ [] → AreInOrder (performs one)

  module _ {S : Type 0} (rules : S → List RuleBreach) (performs : S → List Performance)
      (keep : KeepOrder rules performs) where
    each_in_order : (all : List S) → each rules all ≡ [] → AreInOrder (each_performs performs all)
    each_in_order [] e = tt
    each_in_order (one ∷ more) e =
        all_both IsInOrder (performs one) (each_performs performs more) (keep.by one
        (left_none (rules one) (each rules more) e)) (each_in_order more (right_none (rules one) (each rules more) e))

    phrase_in_order : (phrase : Option (List S)) → phrase_rules rules phrase ≡ []
        → AreInOrder (phrase_performs performs phrase)
    phrase_in_order None e = tt
    phrase_in_order (Some statements) e = each_in_order statements e

    phrases_in_order : (phrases : Phrases S) → phrases_rules rules phrases ≡ []
        → AreInOrder (phrase_performs performs phrases.arose ++ phrase_performs performs phrases.did_not)
    phrases_in_order phrases e =
        all_both IsInOrder (phrase_performs performs phrases.arose) (phrase_performs performs phrases.did_not)
        (phrase_in_order phrases.arose
        (left_none (phrase_rules rules phrases.arose) (phrase_rules rules phrases.did_not) e))
        (phrase_in_order phrases.did_not
        (right_none (phrase_rules rules phrases.arose) (phrase_rules rules phrases.did_not) e))

    file_phrases_in_order : (phrases : FilePhrases S) → file_phrases_rules rules phrases ≡ []
        → AreInOrder (file_phrases_performs performs phrases)
    file_phrases_in_order Absent e = tt
    file_phrases_in_order (AtEnd phrases) e = phrases_in_order phrases e
    file_phrases_in_order (InvalidKey phrases) e = phrases_in_order phrases e

    performed_in_order : (one : Performed S) → performed_rules procedures all_permitted rules one ≡ []
        → AreInOrder (performed_performs procedures performs one)
    performed_in_order (Procedures first last) e = range_in_order first last e
    performed_in_order (Statements statements) e = each_in_order statements e

    selected_in_order : (subjects : List Subject) (all : List (Selected S))
        → each (selected_rules items_and.items rules subjects) all ≡ []
        → AreInOrder (each_performs (selected_performs performs) all)
    selected_in_order subjects [] e = tt
    selected_in_order subjects (one ∷ more) e =
        let front = left_none (selected_rules items_and.items rules subjects one)
        (each (selected_rules items_and.items rules subjects) more) e in
        all_both IsInOrder (each_performs performs one.statements) (each_performs (selected_performs performs) more)
        (each_in_order one.statements
        (right_none (each (when_rules items_and.items subjects) one.whens) (each rules one.statements) front))
        (selected_in_order subjects more (right_none (selected_rules items_and.items rules subjects one)
        (each (selected_rules items_and.items rules subjects) more) e))

    branching_in_order : (one : ConditionalStatement S) → branching_rules items_and.items rules one ≡ []
        → AreInOrder (branching_performs performs one)
    branching_in_order (If condition statements otherwise) e =
        let asks = condition_rules items_and.items condition in
        let front = left_none (asks ++ each rules statements) (phrase_rules rules otherwise) e in
        all_both IsInOrder (each_performs performs statements) (phrase_performs performs otherwise)
        (each_in_order statements (right_none asks (each rules statements) front))
        (phrase_in_order otherwise (right_none (asks ++ each rules statements) (phrase_rules rules otherwise) e))
    branching_in_order (Evaluate one) e =
        let asks = each (subject_rules items_and.items) one.subjects in
        let all = each (selected_rules items_and.items rules one.subjects) one.selected in
        all_both IsInOrder (each_performs (selected_performs performs) one.selected)
        (phrase_performs performs one.other)
        (selected_in_order one.subjects one.selected
        (right_none asks all (left_none (asks ++ all) (phrase_rules rules one.other) e)))
        (phrase_in_order one.other (right_none (asks ++ all) (phrase_rules rules one.other) e))

    verb_in_order : (one : Verb S) → verb_rules items_and all_permitted rules one ≡ []
        → AreInOrder (verb_performs procedures performs one)
    verb_in_order (verb.DataStatement one) e = tt
    verb_in_order (verb.Arithmetic one) e = phrases_in_order one.phrases
        (right_none (operation_rules items_and.items one.operation) (phrases_rules rules one.phrases) e)
    verb_in_order (verb.ConditionalStatement one) e = branching_in_order one e
    verb_in_order (verb.PerformStatement one) e =
        performed_in_order one.performed (right_none (turns_rules items_and.items one.turns)
        (performed_rules procedures all_permitted rules one.performed) e)
    verb_in_order (verb.TextStatement one) e = tt
    verb_in_order (verb.StringStatement one) e =
        phrases_in_order one.phrases (right_none (string_rules items_and.items one) (phrases_rules rules one.phrases) e)
    verb_in_order (verb.FileStatement one) e =
        file_phrases_in_order (phrases_of one)
        (right_none (filing_rules items_and.items items_and.files one) (file_phrases_rules rules (phrases_of one)) e)
    verb_in_order (verb.ControlStatement one) e = tt

  record KeepsOrder (one : Statement) : Type 0 where
    by : rules_of one ≡ [] → AreInOrder (statement_performs procedures one)

  abbrev Kept : Type 0
  Kept = (one : Statement) × KeepsOrder one

  kept_inside : (l : Statement-F Kept) → KeepsOrder (roll-Statement (map-Statement Kept Statement (λ m. m.0) l))
  kept_inside l = record {
    by = λ e.
        let rules : Kept → List RuleBreach = λ m. rules_of m.0 in
        let performs : Kept → List Performance = λ m. statement_performs procedures m.0 in
        subst AreInOrder (sym (mapped_performs procedures (λ (m : Kept). m.0) l))
        (verb_in_order rules performs (record { by = λ m keep. m.1.by keep }) l.verb
        (sym (mapped_rules items_and all_permitted (λ (m : Kept). m.0) l) ∙ e));
  }

  statement_kept : (one : Statement) → KeepsOrder one
  statement_kept = ind-Statement KeepsOrder (λ one l is. subst (λ k. KeepsOrder (roll-Statement k)) is (kept_inside l))

  -- ---- paragraphs

  sentences_kept : KeepOrder (sentence_rules items_and all_permitted)
      (λ (one : Sentence). each_performs (statement_performs procedures) one.statements)
  sentences_kept = record {
    by = λ one e. each_in_order rules_of (statement_performs procedures)
        (record { by = λ inner keep. (statement_kept inner).by keep }) one.statements e;
  }

  paragraph_kept : (one : Paragraph) → paragraph_rules items_and all_permitted one ≡ []
      → AreInOrder (paragraph_performs procedures one)
  paragraph_kept one e = each_in_order (sentence_rules items_and all_permitted) (λ (some : Sentence).
      each_performs (statement_performs procedures) some.statements) sentences_kept one.sentences e

  abbrev range_at_place : Place × PerformedRange → PerformedRange
  range_at_place one = one.1

  within_ranges : (number : ℕ) (all : List Performance) → number < count → AreInOrder all
      → AllByRecursion (IsRange count) (map range_at_place (in_paragraph number all))
  within_ranges number [] lt h = tt
  within_ranges number (one ∷ more) lt h =
      (record { performer = lt; first = h.0.order; last = h.0.last }, within_ranges number more lt h.1)

  map_both : {A B : Type 0} (f : A → B) (xs ys : List A) → map f (xs ++ ys) ≡ map f xs ++ map f ys
  map_both f [] ys = refl
  map_both f (x ∷ xs) ys = ap (λ l. f x ∷ l) (map_both f xs ys)

  ranges_from : (number : ℕ) (paragraphs : List Paragraph) → number + length paragraphs ≤ count
      → each (paragraph_rules items_and all_permitted) paragraphs ≡ []
      → AllByRecursion (IsRange count) (map range_at_place (performs_from procedures number paragraphs))
  ranges_from number [] room e = tt
  ranges_from number (one ∷ more) room e =
      let rules = paragraph_rules items_and all_permitted in
      let here = in_paragraph number (paragraph_performs procedures one) in
      let rest = performs_from procedures (number + 1) more in
      subst (AllByRecursion (IsRange count)) (sym (map_both range_at_place here rest))
      (all_both (IsRange count) (map range_at_place here) (map range_at_place rest)
      (within_ranges number (paragraph_performs procedures one) (omega arith)
      (paragraph_kept one (left_none (rules one) (each rules more) e)))
      (ranges_from (number + 1) more (omega arith) (right_none (rules one) (each rules more) e)))

  each_both : {A : Type 0} (rules : A → List RuleBreach) (xs ys : List A)
      → each rules (xs ++ ys) ≡ each rules xs ++ each rules ys
  each_both rules [] ys = refl
  each_both rules (x ∷ xs) ys =
      ap (λ l. rules x ++ l) (each_both rules xs ys) ∙ sym (append_assoc (rules x) (each rules xs) (each rules ys))

  or_one_rules : (paragraphs : List Paragraph) → each (paragraph_rules items_and all_permitted)
      (paragraphs_or_one paragraphs) ≡ each (paragraph_rules items_and all_permitted) paragraphs
  or_one_rules [] = refl
  or_one_rules (one ∷ more) = refl

  in_sections : (sections : List Section) → each (paragraph_rules items_and all_permitted)
      (paragraphs_in sections) ≡ sections_rules items_and all_permitted sections
  in_sections [] = refl
  in_sections (one ∷ more) =
      let rules = paragraph_rules items_and all_permitted in
      each_both rules (paragraphs_or_one one.paragraphs) (paragraphs_in more)
      ∙ ap (λ l. l ++ each rules (paragraphs_in more)) (or_one_rules one.paragraphs)
      ∙ ap (λ l. each rules one.paragraphs ++ l) (in_sections more)

-- What is performed by sections that keep their rules lies within their paragraphs.
pub performed_ranges : (scope : Scope) (sections : List Section) → scope.procedures ≡ procedures_of sections
    → sections_rules scope all_permitted sections ≡ []
    → All (IsRange (length (paragraphs_in sections)))
    (map (λ (one : Place × PerformedRange). one.1) (performs_from scope.procedures 0 (paragraphs_in sections)))
performed_ranges scope sections is kept =
    let count = length (paragraphs_in sections) in
    let below = subst (AllByRecursion (LiesBelow count)) (sym is) (sections_below count 0 sections (omega arith)) in
    All-from_recursion (IsRange count)
    (map (λ (one : Place × PerformedRange). one.1) (performs_from scope.procedures 0 (paragraphs_in sections)))
    (ranges_from scope count below 0 (paragraphs_in sections) (omega arith)
    (in_sections scope count below sections ∙ kept))

-- ---- what is collected of a program

pub record IsCollected (program : Program) (all : Performs) (paragraph_count : ℕ) : Type 0 where
  pub count : paragraph_count ≡ length (paragraphs program)
  pub places : all.places.items ≡ map (λ (one : Place × PerformedRange). one.0) (performs program)
  pub ranges : all.ranges.items ≡ performed_by_program program

pub collected : (program : Program) (declared : Declarations) (sections : List Section) (old new : Performs) (count : ℕ)
    → Declares program declared
    → sections ≡ program.sections → old.places.items ≡ [] → old.ranges.items ≡ []
    → count ≡ length (paragraphs_in sections)
    → AppendsPerforms old new (performs_from (procedures_in declared) 0 (paragraphs_in sections))
    → IsCollected program new count
collected program declared sections old new count declares same places ranges counted added =
    let whole : performs_from (procedures_in declared) 0 (paragraphs_in sections) ≡ performs program =
    ap (λ (l : List Section). performs_from (procedures_in declared) 0 (paragraphs_in l)) same
    ∙ ap (λ (l : List Procedure). performs_from l 0 (paragraphs_in program.sections)) declares.procedures in
    record {
      count = counted ∙ ap (λ (l : List Section). length (paragraphs_in l)) same;
      places = added.places ∙ ap (λ l. l ++ map (λ (one : Place × PerformedRange). one.0)
          (performs_from (procedures_in declared) 0 (paragraphs_in sections))) places
          ∙ ap (map (λ (one : Place × PerformedRange). one.0)) whole;
      ranges = added.ranges ∙ ap (λ l. l ++ map (λ (one : Place × PerformedRange). one.1)
          (performs_from (procedures_in declared) 0 (paragraphs_in sections))) ranges
          ∙ ap (map (λ (one : Place × PerformedRange). one.1)) whole;
    }

pub collected_ranges : (program : Program) (declared : Declarations) (all : Performs) (count : ℕ)
    → Declares program declared
    → sections_rules (scope_in declared) all_permitted program.sections ≡ [] → IsCollected program all count
    → All (IsRange count) all.ranges.items
collected_ranges program declared all count declares kept h =
    let ranges : List Procedure → List PerformedRange =
    λ l. map (λ (one : Place × PerformedRange). one.1) (performs_from l 0 (paragraphs_in program.sections)) in
    let same : ranges (procedures_in declared) ≡ all.ranges.items = ap ranges declares.procedures ∙ sym h.ranges in
    subst (λ (n : ℕ). All (IsRange n) all.ranges.items) (sym h.count)
    (subst (All (IsRange (length (paragraphs program)))) same
    (performed_ranges (scope_in declared) program.sections declares.procedures kept))

-- a number after each
pub ranges_end : (count : ℕ) (ranges : List PerformedRange) → count < 2 ^ 64 → All (IsRange count) ranges
    → All HasNext ranges
ranges_end count ranges fits h k d lt = let last = (h k d lt).last in omega arith

pub as_many : (program : Program) (all : Performs) (count : ℕ) → IsCollected program all count
    → length all.places.items ≡ length all.ranges.items
as_many program all count h =
    ap length h.places ∙ length-map (performs program) (λ (one : Place × PerformedRange). one.0)
    ∙ sym (ap length h.ranges ∙ length-map (performs program) (λ (one : Place × PerformedRange). one.1))
