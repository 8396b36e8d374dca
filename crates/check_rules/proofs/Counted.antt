-- Statements as they are counted.
use Rattle.std.proofs.Common.{◌≡◌, ℕ, zero, suc, ◌+◌, ◌-◌, ◌<◌, ◌≤◌, false, List, [], ◌∷◌, ◌++◌, None, Some, length}
use Rattle.std.proofs.Common.{drop, get_or, refl, sym, ap, ◌∙◌, append_assoc, add-one, drop-cons, arith}
use Rattle.std.specs.Prelude.{◌==◌, map, slice_get, Option}
use Rattle.std.specs.Option.{option_map}
use Rattle.std.proofs.lemmas.List.{append-nil, map-append, drop_all}
use Rattle.lexical.specs.declared.place.Place.{Place}
use Rattle.source_tree.specs.declared.arithmetic.Operation.{Operation}
use Rattle.source_tree.specs.declared.condition.Condition.{Condition}
use Rattle.source_tree.specs.declared.reference.Reference.{Reference}
use Rattle.source_tree.specs.declared.string_statement.Sending.{Sending}
use Rattle.source_tree.specs.declared.conditional_statement.ConditionalStatement.TheVariants.{If, Evaluate}
use Rattle.source_tree.specs.declared.evaluate_statement.Subject.{Subject}
use Rattle.source_tree.specs.declared.evaluate_statement.Selected.{Selected}
use Rattle.source_tree.specs.declared.file_statement.FileStatement.{FileStatement}
use Rattle.source_tree.specs.declared.phrases.FilePhrases.{FilePhrases}
use Rattle.source_tree.specs.declared.phrases.FilePhrases.TheVariants.{Absent, AtEnd, InvalidKey}
use Rattle.source_tree.specs.declared.perform_statement.Performed.{Performed}
use Rattle.source_tree.specs.declared.perform_statement.Performed.TheVariants.{Procedures, Statements}
use Rattle.source_tree.specs.declared.perform_statement.Repetition.{Repetition}
use Rattle.source_tree.specs.declared.statement.Verb.{Verb}
use Rattle.source_tree.specs.declared.statement.Verb.TheVariants as verb
use Rattle.source_tree.specs.declared.statement.Statement.{Statement, out-Statement}
use Rattle.source_tree.specs.declared.statement.Statement.TheFolds.{map-Statement, fold_out-Statement}
use Rattle.source_tree.specs.Filing.{phrases_of}
use Rattle.source_tree.specs.StatementCount.{in_phrase, in_file_phrases, in_performed, in_selected, inside, each_place}
use Rattle.source_tree.specs.StatementCount.{places_layer, statement_places}
use Rattle.check_rules.specs.declared.statement_count.Room.{Room}
use Rattle.check_rules.specs.declared.inner_statements.InnerStatements.{InnerStatements}
use Rattle.check_rules.specs.Counting.{room_for, after_one, room_after}
use Rattle.check_rules.specs.InnerStatements.{InnerLists, file_phrases_lists, performed_lists, inner_lists, lists_in}
use Rattle.declarations.proofs.FilingLayers.{mapped_phrases, filing_mapped, phrases_mapped}

-- ---- the statements in a statement, where they are mapped

module _ {A B : Type 0} (f : A → B) where
  pair_mapped : (arose did_not : Option (List A)) → in_phrase (option_map (map f) arose) ++ in_phrase
      (option_map (map f) did_not) ≡ map f (in_phrase arose ++ in_phrase did_not)
  pair_mapped None None = refl
  pair_mapped (Some some) None = sym (map-append f some [])
  pair_mapped None (Some other) = refl
  pair_mapped (Some some) (Some other) = sym (map-append f some other)

  selected_mapped : (all : List (Selected A))
      → in_selected (map (λ (one : Selected A). record { whens = one.whens; statements = map f one.statements }) all)
      ≡ map f (in_selected all)
  selected_mapped [] = refl
  selected_mapped (one ∷ more) =
      ap (λ l. map f one.statements ++ l) (selected_mapped more) ∙ sym (map-append f one.statements (in_selected more))

  file_phrases_mapped : (phrases : FilePhrases A)
      → in_file_phrases (mapped_phrases f phrases) ≡ map f (in_file_phrases phrases)
  file_phrases_mapped Absent = refl
  file_phrases_mapped (AtEnd one) = pair_mapped one.arose one.did_not
  file_phrases_mapped (InvalidKey one) = pair_mapped one.arose one.did_not

  abbrev IsMapped : Place → Verb A → Type 0
  IsMapped place one = inside (map-Statement A B f (record { place = place; verb = one })).verb ≡ map f (inside one)

  phrases_inside : (place : Place) (operation : Operation) (arose did_not : Option (List A))
      → IsMapped place
      (verb.Arithmetic (record { operation = operation; phrases = record { arose = arose; did_not = did_not } }))
  phrases_inside place operation None None = refl
  phrases_inside place operation (Some some) None = sym (map-append f some [])
  phrases_inside place operation None (Some other) = refl
  phrases_inside place operation (Some some) (Some other) = sym (map-append f some other)

  strung_inside : (place : Place) (sendings : List Sending) (receiver : Reference) (pointer : Option Reference)
      (arose did_not : Option (List A))
      → IsMapped place (verb.StringStatement (record {
        sendings = sendings;
        receiver = receiver;
        pointer = pointer;
        phrases = record { arose = arose; did_not = did_not };
      }))
  strung_inside place sendings receiver pointer None None = refl
  strung_inside place sendings receiver pointer (Some some) None = sym (map-append f some [])
  strung_inside place sendings receiver pointer None (Some other) = refl
  strung_inside place sendings receiver pointer (Some some) (Some other) = sym (map-append f some other)

  if_inside : (place : Place) (condition : Condition) (statements : List A) (otherwise : Option (List A))
      → IsMapped place (verb.ConditionalStatement (If condition statements otherwise))
  if_inside place condition statements None = sym (map-append f statements [])
  if_inside place condition statements (Some other) = sym (map-append f statements other)

  evaluate_inside : (place : Place) (subjects : List Subject) (selected : List (Selected A)) (other : Option (List A))
      → IsMapped place
      (verb.ConditionalStatement (Evaluate (record { subjects = subjects; selected = selected; other = other })))
  evaluate_inside place subjects selected None =
      ap (λ l. l ++ []) (selected_mapped selected) ∙ sym (map-append f (in_selected selected) [])
  evaluate_inside place subjects selected (Some some) =
      ap (λ l. l ++ map f some) (selected_mapped selected) ∙ sym (map-append f (in_selected selected) some)

  performed_inside : (place : Place) (often : Repetition) (what : Performed A)
      → IsMapped place (verb.PerformStatement (record { performed = what; turns = often }))
  performed_inside place often (Procedures first last) = refl
  performed_inside place often (Statements some) = refl

  filed_inside : (place : Place) (one : FileStatement A) → IsMapped place (verb.FileStatement one)
  filed_inside place one = ap inside (filing_mapped f place one) ∙ ap in_file_phrases (phrases_mapped f one)
      ∙ file_phrases_mapped (phrases_of one)

  inside_mapped : (place : Place) (one : Verb A) → IsMapped place one
  inside_mapped place (verb.DataStatement one) = refl
  inside_mapped place (verb.Arithmetic one) = phrases_inside place one.operation one.phrases.arose one.phrases.did_not
  inside_mapped place (verb.ConditionalStatement (If condition statements otherwise)) =
      if_inside place condition statements otherwise
  inside_mapped place (verb.ConditionalStatement (Evaluate one)) =
      evaluate_inside place one.subjects one.selected one.other
  inside_mapped place (verb.PerformStatement one) = performed_inside place one.turns one.performed
  inside_mapped place (verb.TextStatement one) = refl
  inside_mapped place (verb.StringStatement one) =
      strung_inside place one.sendings one.receiver one.pointer one.phrases.arose one.phrases.did_not
  inside_mapped place (verb.FileStatement one) = filed_inside place one
  inside_mapped place (verb.ControlStatement one) = refl

  places_mapped : (places : B → List Place) (all : List A)
      → each_place places (map f all) ≡ each_place (λ a. places (f a)) all
  places_mapped places [] = refl
  places_mapped places (one ∷ more) = ap (λ l. places (f one) ++ l) (places_mapped places more)

-- one layer of where a statement and those in it stand
pub statement_is : (one : Statement)
    → statement_places one ≡ (out-Statement one).place ∷ each_place statement_places (inside (out-Statement one).verb)
unfolding statement_places
statement_is one =
    let at = (out-Statement one).place in
    let verb = (out-Statement one).verb in
    fold_out-Statement (List Place) places_layer one
    ∙ ap (λ (l : List (List Place)). at ∷ each_place (λ places. places) l) (inside_mapped statement_places at verb)
    ∙ ap (λ (l : List Place). at ∷ l) (places_mapped statement_places (λ places. places) (inside verb))

-- ---- counting lists of places

pub after_append : (a b : List Place) (room : Room) → room_after room (a ++ b) ≡ room_after (room_after room a) b
after_append [] b room = refl
after_append (one ∷ more) b room = after_append more b (after_one room one)

pub places_append : {A : Type 0} (places : A → List Place) (xs ys : List A)
    → each_place places (xs ++ ys) ≡ each_place places xs ++ each_place places ys
places_append places [] ys = refl
places_append places (x ∷ xs) ys = ap (λ l. places x ++ l) (places_append places xs ys)
    ∙ sym (append_assoc (places x) (each_place places xs) (each_place places ys))

-- some statements, and then others
pub after_both : (room middle new : Room) (xs ys : List Statement) → middle ≡ room_after room
    (each_place statement_places xs) → new ≡ room_after middle (each_place statement_places ys)
    → new ≡ room_after room (each_place statement_places (xs ++ ys))
after_both room middle new xs ys first second =
    second ∙ ap (λ r. room_after r (each_place statement_places ys)) first
    ∙ sym (after_append (each_place statement_places xs) (each_place statement_places ys) room)
    ∙ sym (ap (room_after room) (places_append statement_places xs ys))

-- ---- a statement, and those in it

module _ {S : Type 0} where
  abbrev listed : InnerLists S → List S
  listed all = in_selected all.selected ++ (all.first ++ all.second)

  file_phrases_listed : (phrases : FilePhrases S) → in_file_phrases phrases ≡ listed (file_phrases_lists phrases)
  file_phrases_listed Absent = refl
  file_phrases_listed (AtEnd pair) = refl
  file_phrases_listed (InvalidKey pair) = refl

  performed_listed : (what : Performed S) → in_performed what ≡ listed (performed_lists what)
  performed_listed (Procedures first last) = refl
  performed_listed (Statements all) = sym (append-nil all)

  inside_listed : (one : Verb S) → inside one ≡ listed (inner_lists one)
  inside_listed (verb.DataStatement one) = refl
  inside_listed (verb.Arithmetic one) = refl
  inside_listed (verb.ConditionalStatement (If condition statements otherwise)) = refl
  inside_listed (verb.ConditionalStatement (Evaluate one)) = refl
  inside_listed (verb.PerformStatement one) = performed_listed one.performed
  inside_listed (verb.TextStatement one) = refl
  inside_listed (verb.StringStatement one) = refl
  inside_listed (verb.FileStatement one) = file_phrases_listed (phrases_of one)
  inside_listed (verb.ControlStatement one) = refl

-- after the statement's own place, and then those of each list
pub after_lists : (one : Statement) (inner : InnerStatements Statement) (room own chosen front new : Room)
    → lists_in inner ≡ inner_lists (out-Statement one).verb → own ≡ after_one room (out-Statement one).place
    → chosen ≡ room_after own (each_place statement_places (in_selected inner.selected.now))
    → front ≡ room_after chosen (each_place statement_places inner.first.now)
    → new ≡ room_after front (each_place statement_places inner.second.now)
    → new ≡ room_after room (statement_places one)
after_lists one inner room own chosen front new is at h k l =
    let first = inner.first.now in
    let second = inner.second.now in
    after_both own chosen new (in_selected inner.selected.now) (first ++ second) h
    (after_both chosen front new first second k l)
    ∙ ap (λ (all : InnerLists Statement). room_after own (each_place statement_places (listed all))) is
    ∙ ap (λ (all : List Statement). room_after own (each_place statement_places all))
    (sym (inside_listed (out-Statement one).verb))
    ∙ ap (λ (r : Room). room_after r (each_place statement_places (inside (out-Statement one).verb))) at
    ∙ sym (ap (room_after room) (statement_is one))

-- ---- one after another, by the places of each

module _ {A : Type 0} (all_places : List A → List Place) (places : A → List Place)
    (step : (x : A) (xs : List A) → all_places (x ∷ xs) ≡ places x ++ all_places xs) where
  pub after_next : (all : List A) (i : ℕ) (one : A) (room so_far new : Room) → i < length all → one ≡ get_or all i one
      → room_after room (all_places all) ≡ room_after so_far (all_places (drop i all)) → new ≡ room_after so_far
      (places one) → room_after room (all_places all) ≡ room_after new (all_places (drop (i + 1) all))
  after_next all i one room so_far new lt is before here =
      let rest = drop (suc i) all in
      before
      ∙ ap (λ l. room_after so_far (all_places l)) (drop-cons all i one lt ∙ ap (λ x. x ∷ rest) (sym is))
      ∙ ap (room_after so_far) (step one rest)
      ∙ after_append (places one) (all_places rest) so_far
      ∙ ap (λ r. room_after r (all_places rest)) (sym here)
      ∙ ap (λ k. room_after new (all_places (drop k all))) (sym (add-one i))

  pub after_all : (all : List A) (i : ℕ) (room so_far : Room) → all_places [] ≡ [] → length all ≤ i
      → room_after room (all_places all) ≡ room_after so_far (all_places (drop i all))
      → so_far ≡ room_after room (all_places all)
  after_all all i room so_far none past before =
      sym (before ∙ ap (λ l. room_after so_far (all_places l)) (drop_all i all past) ∙ ap (room_after so_far) none)

abbrev pub selected_places : List (Selected Statement) → List Place
selected_places all = each_place statement_places (in_selected all)

abbrev pub own_places : Selected Statement → List Place
own_places one = each_place statement_places one.statements

pub selected_step : (one : Selected Statement) (more : List (Selected Statement))
    → selected_places (one ∷ more) ≡ own_places one ++ selected_places more
selected_step one more = places_append statement_places one.statements (in_selected more)

-- ---- the first that may not come

full : (left : ℕ) (first : Place) (places : List Place)
    → (room_after (record { left = left; excess = Some first }) places).excess ≡ Some first
full left first [] = refl
full left first (one ∷ more) = full left first more

not_none : (n : ℕ) → (suc n == 0) ≡ false
not_none n = grind arith

one_less : (n : ℕ) (place : Place) → after_one (room_for (suc n)) place ≡ room_for n
one_less n place =
    let minus : suc n - 1 ≡ n = omega arith in
    rw (not_none n) (ap room_for minus)

pub excess_is : (n : ℕ) (places : List Place) → (room_after (room_for n) places).excess ≡ slice_get places n
excess_is n [] = refl
excess_is zero (one ∷ more) = full 0 one more
excess_is (suc n) (one ∷ more) = ap (λ r. (room_after r more).excess) (one_less n one) ∙ excess_is n more
