-- The rules of a statement, by those of the statements in it.
use Rattle.std.proofs.Common.{◌≡◌, List, [], ◌∷◌, ◌++◌, None, Some, refl, ap, ◌∙◌}
use Rattle.std.specs.Prelude.{Bool, Option, map}
use Rattle.std.specs.Option.{option_map}
use Rattle.lexical.specs.declared.place.Place.{Place}
use Rattle.source_tree.specs.declared.arithmetic.Operation.{Operation}
use Rattle.source_tree.specs.declared.reference.Reference.{Reference}
use Rattle.source_tree.specs.declared.string_statement.Sending.{Sending}
use Rattle.source_tree.specs.declared.condition.Condition.{Condition}
use Rattle.source_tree.specs.declared.conditional_statement.ConditionalStatement.TheVariants.{If, Evaluate}
use Rattle.source_tree.specs.declared.evaluate_statement.Subject.{Subject}
use Rattle.source_tree.specs.declared.evaluate_statement.Selected.{Selected}
use Rattle.source_tree.specs.declared.file_statement.FileStatement.{FileStatement}
use Rattle.source_tree.specs.declared.phrases.FilePhrases.{FilePhrases}
use Rattle.source_tree.specs.declared.phrases.FilePhrases.TheVariants.{Absent, AtEnd, InvalidKey}
use Rattle.source_tree.specs.declared.perform_statement.Performed.{Performed}
use Rattle.source_tree.specs.declared.perform_statement.Performed.TheVariants.{Procedures, Statements}
use Rattle.source_tree.specs.declared.perform_statement.Repetition.{Repetition}
use Rattle.source_tree.specs.declared.statement.Verb.{Verb}
use Rattle.source_tree.specs.declared.statement.Verb.TheVariants as verb
use Rattle.source_tree.specs.declared.statement.Statement.{Statement, out-Statement, roll-Statement}
use Rattle.source_tree.specs.declared.statement.Statement.TheOpen.{Statement-F}
use Rattle.source_tree.specs.declared.statement.Statement.TheFolds.{map-Statement, fold_out-Statement}
use Rattle.source_tree.specs.declared.statement.Statement.TheFolds.{fold-roll-Statement}
use Rattle.source_tree.specs.Broken.{RuleBreach, each}
use Rattle.source_tree.specs.ArithmeticRules.{operation_rules}
use Rattle.source_tree.specs.ConditionRules.{condition_rules}
use Rattle.source_tree.specs.Filing.{phrases_of}
use Rattle.source_tree.specs.FilingRules.{filing_rules}
use Rattle.source_tree.specs.StringRules.{string_rules}
use Rattle.source_tree.specs.EvaluateRules.{subject_rules, when_rules, selected_rules}
use Rattle.source_tree.specs.Places.{LocatedItem}
use Rattle.source_tree.specs.Procedures.{Range}
use Rattle.source_tree.specs.Setting.{Scope}
use Rattle.source_tree.specs.Rules.{phrase_rules, file_phrases_rules, turns_rules, verb_rules, statement_layer}
use Rattle.source_tree.specs.Rules.{statement_rules}
use Rattle.declarations.proofs.FilingLayers.{mapped_phrases, mapped_filing, filing_mapped, phrases_mapped}
use Rattle.declarations.proofs.FilingLayers.{own_rules_same}

module _ {A B : Type 0} (f : A → B) (rules : B → List RuleBreach) where
  pub each_map : (all : List A) → each rules (map f all) ≡ each (λ a. rules (f a)) all
  each_map [] = refl
  each_map (one ∷ more) = ap (λ l. rules (f one) ++ l) (each_map more)

  -- the statements after WHENs
  selected_map : (items : List LocatedItem) (subjects : List Subject) (all : List (Selected A))
      → each (selected_rules items rules subjects)
      (map (λ (one : Selected A). record { whens = one.whens; statements = map f one.statements }) all)
      ≡ each (selected_rules items (λ a. rules (f a)) subjects) all
  selected_map items subjects [] = refl
  selected_map items subjects (one ∷ more) =
      let others : List (Selected B) =
      map (λ (one : Selected A). record { whens = one.whens; statements = map f one.statements }) more in
      ap (λ l. each (when_rules items subjects) one.whens ++ l ++ each (selected_rules items rules subjects) others)
      (each_map one.statements)
      ∙ ap (λ l. each (when_rules items subjects) one.whens ++ each (λ a. rules (f a)) one.statements ++ l)
      (selected_map items subjects more)

  pair_map : (arose did_not : Option (List A))
      → phrase_rules rules (option_map (map f) arose) ++ phrase_rules rules (option_map (map f) did_not)
      ≡ phrase_rules (λ a. rules (f a)) arose ++ phrase_rules (λ a. rules (f a)) did_not
  pair_map None None = refl
  pair_map (Some inside) None = ap (λ l. l ++ []) (each_map inside)
  pair_map None (Some other) = each_map other
  pair_map (Some inside) (Some other) = ap (λ l. l ++ each rules (map f other)) (each_map inside)
      ∙ ap (λ l. each (λ a. rules (f a)) inside ++ l) (each_map other)

  module _ (scope : Scope) (permits : Range → Bool) where
    performing_map : (place : Place) (often : Repetition) (what : Performed A)
        → verb_rules scope permits rules (map-Statement A B f
        (record { place = place; verb = verb.PerformStatement (record { performed = what; turns = often }) })).verb
        ≡ verb_rules scope permits (λ a. rules (f a))
        (verb.PerformStatement (record { performed = what; turns = often }))
    performing_map place often (Procedures first last) = refl
    performing_map place often (Statements inside) = ap (λ l. turns_rules scope.items often ++ l) (each_map inside)

    branching_map : (place : Place) (condition : Condition) (statements : List A) (otherwise : Option (List A))
        → verb_rules scope permits rules (map-Statement A B f
        (record { place = place; verb = verb.ConditionalStatement (If condition statements otherwise) })).verb
        ≡ verb_rules scope permits (λ a. rules (f a)) (verb.ConditionalStatement (If condition statements otherwise))
    branching_map place condition statements None =
        ap (λ l. condition_rules scope.items condition ++ l ++ []) (each_map statements)
    branching_map place condition statements (Some other) =
        ap (λ l. condition_rules scope.items condition ++ l ++ each rules (map f other)) (each_map statements)
        ∙ ap (λ l. condition_rules scope.items condition ++ each (λ a. rules (f a)) statements ++ l) (each_map other)

    evaluate_map : (place : Place) (subjects : List Subject) (selected : List (Selected A)) (other : Option (List A))
        → verb_rules scope permits rules
        (map-Statement A B f (record {
          place = place;
          verb =
              verb.ConditionalStatement (Evaluate (record { subjects = subjects; selected = selected; other = other }));
        })).verb
        ≡ verb_rules scope permits (λ a. rules (f a))
        (verb.ConditionalStatement (Evaluate (record { subjects = subjects; selected = selected; other = other })))
    evaluate_map place subjects selected None =
        ap (λ l. each (subject_rules scope.items) subjects ++ l ++ []) (selected_map scope.items subjects selected)
    evaluate_map place subjects selected (Some statements) =
        ap (λ l. each (subject_rules scope.items) subjects ++ l ++ each rules (map f statements))
        (selected_map scope.items subjects selected)
        ∙ ap (λ l. each (subject_rules scope.items) subjects
        ++ each (selected_rules scope.items (λ a. rules (f a)) subjects) selected ++ l) (each_map statements)

    -- the rules of a STRING in front of its phrases
    abbrev front_of : List Sending → Reference → Option Reference → List RuleBreach
    front_of sendings receiver pointer =
        string_rules scope.items {S = A} (record {
          sendings = sendings;
          receiver = receiver;
          pointer = pointer;
          phrases = record { arose = None; did_not = None };
        })

    phrases_map : (place : Place) (operation : Operation) (arose did_not : Option (List A))
        → verb_rules scope permits rules
        (map-Statement A B f (record {
          place = place;
          verb =
              verb.Arithmetic (record { operation = operation; phrases = record { arose = arose; did_not = did_not } });
        })).verb
        ≡ verb_rules scope permits (λ a. rules (f a))
        (verb.Arithmetic (record { operation = operation; phrases = record { arose = arose; did_not = did_not } }))
    phrases_map place operation None None = refl
    phrases_map place operation (Some inside) None =
        ap (λ l. operation_rules scope.items operation ++ (l ++ [])) (each_map inside)
    phrases_map place operation None (Some other) =
        ap (λ l. operation_rules scope.items operation ++ l) (each_map other)
    phrases_map place operation (Some inside) (Some other) =
        ap (λ l. operation_rules scope.items operation ++ (l ++ each rules (map f other))) (each_map inside)
        ∙ ap (λ l. operation_rules scope.items operation ++ (each (λ a. rules (f a)) inside ++ l)) (each_map other)

    strung_map : (place : Place) (sendings : List Sending) (receiver : Reference) (pointer : Option Reference)
        (arose did_not : Option (List A))
        → verb_rules scope permits rules
        (map-Statement A B f (record {
          place = place;
          verb = verb.StringStatement (record {
            sendings = sendings;
            receiver = receiver;
            pointer = pointer;
            phrases = record { arose = arose; did_not = did_not };
          });
        })).verb
        ≡ verb_rules scope permits (λ a. rules (f a)) (verb.StringStatement (record {
          sendings = sendings;
          receiver = receiver;
          pointer = pointer;
          phrases = record { arose = arose; did_not = did_not };
        }))
    strung_map place sendings receiver pointer None None = refl
    strung_map place sendings receiver pointer (Some inside) None =
        ap (λ l. front_of sendings receiver pointer ++ (l ++ [])) (each_map inside)
    strung_map place sendings receiver pointer None (Some other) =
        ap (λ l. front_of sendings receiver pointer ++ l) (each_map other)
    strung_map place sendings receiver pointer (Some inside) (Some other) =
        ap (λ l. front_of sendings receiver pointer ++ (l ++ each rules (map f other))) (each_map inside)
        ∙ ap (λ l. front_of sendings receiver pointer ++ (each (λ a. rules (f a)) inside ++ l)) (each_map other)

    -- the statements in the phrases of a file statement
    filing_phrases : (phrases : FilePhrases A)
        → file_phrases_rules rules (mapped_phrases f phrases) ≡ file_phrases_rules (λ a. rules (f a)) phrases
    filing_phrases Absent = refl
    filing_phrases (AtEnd one) = pair_map one.arose one.did_not
    filing_phrases (InvalidKey one) = pair_map one.arose one.did_not

    filed_map : (place : Place) (one : FileStatement A)
        → verb_rules scope permits
        rules (map-Statement A B f (record { place = place; verb = verb.FileStatement one })).verb
        ≡ verb_rules scope permits (λ a. rules (f a)) (verb.FileStatement one)
    filed_map place one =
        ap (verb_rules scope permits rules) (filing_mapped f place one)
        ∙ ap (λ l. l ++ file_phrases_rules rules (phrases_of (mapped_filing f one)))
        (own_rules_same f scope.items scope.files one)
        ∙ ap (λ (p : FilePhrases B). filing_rules scope.items scope.files one ++ file_phrases_rules rules p)
        (phrases_mapped f one)
        ∙ ap (λ l. filing_rules scope.items scope.files one ++ l) (filing_phrases (phrases_of one))

    pub verb_map : (place : Place) (one : Verb A)
        → verb_rules scope permits rules (map-Statement A B f (record { place = place; verb = one })).verb
        ≡ verb_rules scope permits (λ a. rules (f a)) one
    verb_map place (verb.DataStatement one) = refl
    verb_map place (verb.Arithmetic one) = phrases_map place one.operation one.phrases.arose one.phrases.did_not
    verb_map place (verb.ConditionalStatement (If condition statements otherwise)) =
        branching_map place condition statements otherwise
    verb_map place (verb.ConditionalStatement (Evaluate one)) = evaluate_map place one.subjects one.selected one.other
    verb_map place (verb.PerformStatement one) = performing_map place one.turns one.performed
    verb_map place (verb.TextStatement one) = refl
    verb_map place (verb.StringStatement one) =
        strung_map place one.sendings one.receiver one.pointer one.phrases.arose one.phrases.did_not
    verb_map place (verb.FileStatement one) = filed_map place one
    verb_map place (verb.ControlStatement one) = refl

module _ (scope : Scope) (permits : Range → Bool) where
  -- one layer of a statement's rules
  pub statement_is : (one : Statement) → statement_rules scope permits one ≡ verb_rules scope permits
      (statement_rules scope permits) (out-Statement one).verb
  unfolding statement_rules
  statement_is one =
      fold_out-Statement (List RuleBreach) (statement_layer scope permits) one
      ∙ verb_map (statement_rules scope permits) (λ broken. broken) scope permits (out-Statement one).place
      (out-Statement one).verb

  pub rolled_rules : (l : Statement-F Statement) → statement_rules scope permits (roll-Statement l) ≡ verb_rules scope
      permits (statement_rules scope permits) l.verb
  unfolding statement_rules
  rolled_rules l =
      fold-roll-Statement (List RuleBreach) (statement_layer scope permits) l
      ∙ verb_map (statement_rules scope permits) (λ broken. broken) scope permits l.place l.verb

  -- where the statements in it are those of others
  pub mapped_rules : {A : Type 0} (f : A → Statement) (l : Statement-F A)
      → statement_rules scope permits (roll-Statement (map-Statement A Statement f l))
      ≡ verb_rules scope permits (λ a. statement_rules scope permits (f a)) l.verb
  mapped_rules {A} f l = rolled_rules (map-Statement A Statement f l)
      ∙ verb_map f (statement_rules scope permits) scope permits l.place l.verb
