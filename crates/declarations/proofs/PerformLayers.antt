-- What the PERFORMs of a statement perform, by those of the statements in it.
use Rattle.std.proofs.Common.{◌≡◌, List, [], ◌∷◌, ◌++◌, None, Some, refl, ap, ◌∙◌}
use Rattle.std.specs.Prelude.{Option, map}
use Rattle.std.specs.Option.{option_map}
use Rattle.lexical.specs.declared.place.Place.{Place}
use Rattle.source_tree.specs.declared.arithmetic.Operation.{Operation}
use Rattle.source_tree.specs.declared.reference.Reference.{Reference}
use Rattle.source_tree.specs.declared.string_statement.Sending.{Sending}
use Rattle.source_tree.specs.declared.condition.Condition.{Condition}
use Rattle.source_tree.specs.declared.conditional_statement.ConditionalStatement.TheVariants.{If, Evaluate}
use Rattle.source_tree.specs.declared.evaluate_statement.Subject.{Subject}
use Rattle.source_tree.specs.declared.evaluate_statement.Selected.{Selected}
use Rattle.source_tree.specs.declared.file_statement.FileStatement.{FileStatement}
use Rattle.source_tree.specs.declared.phrases.FilePhrases.{FilePhrases}
use Rattle.source_tree.specs.declared.phrases.FilePhrases.TheVariants.{Absent, AtEnd, InvalidKey}
use Rattle.source_tree.specs.declared.perform_statement.Performed.{Performed}
use Rattle.source_tree.specs.declared.perform_statement.Performed.TheVariants.{Procedures, Statements}
use Rattle.source_tree.specs.declared.perform_statement.Repetition.{Repetition}
use Rattle.source_tree.specs.declared.statement.Verb.{Verb}
use Rattle.source_tree.specs.declared.statement.Verb.TheVariants as verb
use Rattle.source_tree.specs.declared.statement.Statement.{Statement, out-Statement, roll-Statement}
use Rattle.source_tree.specs.declared.statement.Statement.TheOpen.{Statement-F}
use Rattle.source_tree.specs.declared.statement.Statement.TheFolds.{map-Statement, fold_out-Statement}
use Rattle.source_tree.specs.declared.statement.Statement.TheFolds.{fold-roll-Statement}
use Rattle.source_tree.specs.Procedures.{Procedure}
use Rattle.source_tree.specs.Filing.{phrases_of}
use Rattle.source_tree.specs.Recursion.{Performance, each_performs, phrase_performs, file_phrases_performs}
use Rattle.source_tree.specs.Recursion.{selected_performs, verb_performs, performs_layer, statement_performs}
use Rattle.declarations.proofs.FilingLayers.{mapped_phrases, filing_mapped, phrases_mapped}

module _ {A B : Type 0} (f : A → B) (performs : B → List Performance) where
  pub each_map : (all : List A) → each_performs performs (map f all) ≡ each_performs (λ a. performs (f a)) all
  each_map [] = refl
  each_map (one ∷ more) = ap (λ l. performs (f one) ++ l) (each_map more)

  performing_map : (procedures : List Procedure) (place : Place) (often : Repetition) (what : Performed A)
      → verb_performs procedures performs (map-Statement A B f
      (record { place = place; verb = verb.PerformStatement (record { performed = what; turns = often }) })).verb
      ≡ verb_performs procedures (λ a. performs (f a))
      (verb.PerformStatement (record { performed = what; turns = often }))
  performing_map procedures place often (Procedures first last) = refl
  performing_map procedures place often (Statements inside) = each_map inside

  branching_map : (procedures : List Procedure) (place : Place) (condition : Condition) (statements : List A)
      (otherwise : Option (List A))
      → verb_performs procedures performs (map-Statement A B f
      (record { place = place; verb = verb.ConditionalStatement (If condition statements otherwise) })).verb
      ≡ verb_performs procedures (λ a. performs (f a)) (verb.ConditionalStatement (If condition statements otherwise))
  branching_map procedures place condition statements None = ap (λ l. l ++ []) (each_map statements)
  branching_map procedures place condition statements (Some other) =
      ap (λ l. l ++ each_performs performs (map f other)) (each_map statements)
      ∙ ap (λ l. each_performs (λ a. performs (f a)) statements ++ l) (each_map other)

  -- the statements after WHENs
  selected_map : (all : List (Selected A))
      → each_performs (selected_performs performs)
      (map (λ (one : Selected A). record { whens = one.whens; statements = map f one.statements }) all)
      ≡ each_performs (selected_performs (λ a. performs (f a))) all
  selected_map [] = refl
  selected_map (one ∷ more) =
      let others : List (Selected B) =
      map (λ (one : Selected A). record { whens = one.whens; statements = map f one.statements }) more in
      ap (λ l. l ++ each_performs (selected_performs performs) others) (each_map one.statements)
      ∙ ap (λ l. each_performs (λ a. performs (f a)) one.statements ++ l) (selected_map more)

  evaluate_map : (procedures : List Procedure) (place : Place) (subjects : List Subject) (selected : List (Selected A))
      (other : Option (List A))
      → verb_performs procedures performs
      (map-Statement A B f (record {
        place = place;
        verb =
            verb.ConditionalStatement (Evaluate (record { subjects = subjects; selected = selected; other = other }));
      })).verb
      ≡ verb_performs procedures (λ a. performs (f a))
      (verb.ConditionalStatement (Evaluate (record { subjects = subjects; selected = selected; other = other })))
  evaluate_map procedures place subjects selected None = ap (λ l. l ++ []) (selected_map selected)
  evaluate_map procedures place subjects selected (Some statements) =
      ap (λ l. l ++ each_performs performs (map f statements)) (selected_map selected)
      ∙ ap (λ l. each_performs (selected_performs (λ a. performs (f a))) selected ++ l) (each_map statements)

  phrases_map : (procedures : List Procedure) (place : Place) (operation : Operation) (arose did_not : Option (List A))
      → verb_performs procedures performs (map-Statement A B f (record {
        place = place;
        verb =
            verb.Arithmetic (record { operation = operation; phrases = record { arose = arose; did_not = did_not } });
      })).verb
      ≡ verb_performs procedures (λ a. performs (f a))
      (verb.Arithmetic (record { operation = operation; phrases = record { arose = arose; did_not = did_not } }))
  phrases_map procedures place operation None None = refl
  phrases_map procedures place operation (Some inside) None = ap (λ l. l ++ []) (each_map inside)
  phrases_map procedures place operation None (Some other) = each_map other
  phrases_map procedures place operation (Some inside) (Some other) =
      ap (λ l. l ++ each_performs performs (map f other)) (each_map inside)
      ∙ ap (λ l. each_performs (λ a. performs (f a)) inside ++ l) (each_map other)

  strung_map : (procedures : List Procedure) (place : Place) (sendings : List Sending) (receiver : Reference)
      (pointer : Option Reference) (arose did_not : Option (List A))
      → verb_performs procedures performs
      (map-Statement A B f (record {
        place = place;
        verb = verb.StringStatement (record {
          sendings = sendings;
          receiver = receiver;
          pointer = pointer;
          phrases = record { arose = arose; did_not = did_not };
        });
      })).verb
      ≡ verb_performs procedures (λ a. performs (f a)) (verb.StringStatement (record {
        sendings = sendings;
        receiver = receiver;
        pointer = pointer;
        phrases = record { arose = arose; did_not = did_not };
      }))
  strung_map procedures place sendings receiver pointer None None = refl
  strung_map procedures place sendings receiver pointer (Some inside) None = ap (λ l. l ++ []) (each_map inside)
  strung_map procedures place sendings receiver pointer None (Some other) = each_map other
  strung_map procedures place sendings receiver pointer (Some inside) (Some other) =
      ap (λ l. l ++ each_performs performs (map f other)) (each_map inside)
      ∙ ap (λ l. each_performs (λ a. performs (f a)) inside ++ l) (each_map other)

  -- the statements in the phrases of a file statement
  pair_map : (arose did_not : Option (List A))
      → phrase_performs performs (option_map (map f) arose) ++ phrase_performs performs (option_map (map f) did_not)
      ≡ phrase_performs (λ a. performs (f a)) arose ++ phrase_performs (λ a. performs (f a)) did_not
  pair_map None None = refl
  pair_map (Some inside) None = ap (λ l. l ++ []) (each_map inside)
  pair_map None (Some other) = each_map other
  pair_map (Some inside) (Some other) =
      ap (λ l. l ++ each_performs performs (map f other)) (each_map inside)
      ∙ ap (λ l. each_performs (λ a. performs (f a)) inside ++ l) (each_map other)

  filing_phrases : (phrases : FilePhrases A)
      → file_phrases_performs performs (mapped_phrases f phrases) ≡ file_phrases_performs (λ a. performs (f a)) phrases
  filing_phrases Absent = refl
  filing_phrases (AtEnd one) = pair_map one.arose one.did_not
  filing_phrases (InvalidKey one) = pair_map one.arose one.did_not

  filed_map : (procedures : List Procedure) (place : Place) (one : FileStatement A)
      → verb_performs
      procedures performs (map-Statement A B f (record { place = place; verb = verb.FileStatement one })).verb
      ≡ verb_performs procedures (λ a. performs (f a)) (verb.FileStatement one)
  filed_map procedures place one =
      ap (verb_performs procedures performs) (filing_mapped f place one)
      ∙ ap (file_phrases_performs performs) (phrases_mapped f one) ∙ filing_phrases (phrases_of one)

  pub verb_map : (procedures : List Procedure) (place : Place) (one : Verb A)
      → verb_performs procedures performs (map-Statement A B f (record { place = place; verb = one })).verb
      ≡ verb_performs procedures (λ a. performs (f a)) one
  verb_map procedures place (verb.DataStatement one) = refl
  verb_map procedures place (verb.Arithmetic one) =
      phrases_map procedures place one.operation one.phrases.arose one.phrases.did_not
  verb_map procedures place (verb.ConditionalStatement (If condition statements otherwise)) =
      branching_map procedures place condition statements otherwise
  verb_map procedures place (verb.ConditionalStatement (Evaluate one)) =
      evaluate_map procedures place one.subjects one.selected one.other
  verb_map procedures place (verb.PerformStatement one) = performing_map procedures place one.turns one.performed
  verb_map procedures place (verb.TextStatement one) = refl
  verb_map procedures place (verb.StringStatement one) =
      strung_map procedures place one.sendings one.receiver one.pointer one.phrases.arose one.phrases.did_not
  verb_map procedures place (verb.FileStatement one) = filed_map procedures place one
  verb_map procedures place (verb.ControlStatement one) = refl

-- one layer of what a statement performs
pub statement_is : (procedures : List Procedure) (one : Statement)
    → statement_performs procedures one
    ≡ verb_performs procedures (statement_performs procedures) (out-Statement one).verb
unfolding statement_performs
statement_is procedures one =
    fold_out-Statement (List Performance) (performs_layer procedures) one
    ∙ verb_map (statement_performs procedures) (λ performs. performs) procedures (out-Statement one).place
    (out-Statement one).verb

pub rolled_performs : (procedures : List Procedure) (l : Statement-F Statement)
    → statement_performs procedures (roll-Statement l) ≡ verb_performs procedures (statement_performs procedures) l.verb
unfolding statement_performs
rolled_performs procedures l =
    fold-roll-Statement (List Performance) (performs_layer procedures) l
    ∙ verb_map (statement_performs procedures) (λ performs. performs) procedures l.place l.verb

-- where the statements in it are those of others
pub mapped_performs : (procedures : List Procedure) {A : Type 0} (f : A → Statement) (l : Statement-F A)
    → statement_performs procedures (roll-Statement (map-Statement A Statement f l))
    ≡ verb_performs procedures (λ a. statement_performs procedures (f a)) l.verb
mapped_performs procedures {A} f l =
    rolled_performs procedures (map-Statement A Statement f l)
    ∙ verb_map f (statement_performs procedures) procedures l.place l.verb
