-- What PERFORMs perform, as it is collected.
use Rattle.std.proofs.Common.{◌≡◌, ℕ, ◌<◌, ◌≤◌, ◌+◌, List, [], ◌∷◌, ◌++◌, length, get_or, take, refl, sym, ap, ◌∙◌}
use Rattle.std.proofs.Common.{subst, append_assoc, arith}
use Rattle.std.specs.Prelude.{map, Option, None, Some, Result, OnOk}
use Rattle.std.proofs.lemmas.Result.{on_ok_weaker}
use Rattle.std.proofs.lemmas.List.{append-nil, map-append, length-append, length-take-le, take_more, take_all}
use Rattle.lexical.specs.declared.place.Place.{Place}
use Rattle.perform_graph.specs.declared.performed.PerformedRange.{PerformedRange}
use Rattle.source_tree.specs.declared.conditional_statement.ConditionalStatement.TheVariants.{If, Evaluate}
use Rattle.source_tree.specs.declared.perform_statement.Performed.{Performed}
use Rattle.source_tree.specs.declared.perform_statement.Performed.TheVariants.{Procedures, Statements}
use Rattle.source_tree.specs.declared.phrases.FilePhrases.{FilePhrases}
use Rattle.source_tree.specs.declared.phrases.FilePhrases.TheVariants.{Absent, AtEnd, InvalidKey}
use Rattle.source_tree.specs.declared.statement.Verb.{Verb}
use Rattle.source_tree.specs.declared.statement.Verb.TheVariants as verb
use Rattle.source_tree.specs.declared.statement.Statement.{Statement, out-Statement}
use Rattle.source_tree.specs.declared.program.Paragraph.{Paragraph}
use Rattle.source_tree.specs.declared.program.Section.{Section}
use Rattle.source_tree.specs.Filing.{phrases_of}
use Rattle.source_tree.specs.Procedures.{Procedure, paragraphs_or_one, paragraphs_in, range_of}
use Rattle.source_tree.specs.Recursion.{Performance, by_paragraph, each_performs, phrase_performs, verb_performs}
use Rattle.source_tree.specs.Recursion.{file_phrases_performs, range_performs, performed_performs, selected_performs}
use Rattle.source_tree.specs.Recursion.{statement_performs, paragraph_performs, performs_from}
use Rattle.source_tree.specs.StatementCount.{in_phrase}
use Rattle.check_rules.specs.declared.inner_statements.InnerStatements.{InnerStatements}
use Rattle.check_rules.specs.declared.performs.Performs.{Performs}
use Rattle.check_rules.specs.InnerStatements.{InnerLists, file_phrases_lists, performed_lists, inner_lists, lists_in}
use Rattle.check_rules.specs.Performs.{AppendsPerforms, in_paragraph, named_performs, own_performs}
use Rattle.declarations.proofs.PerformLayers.{statement_is}

pub adds_nothing : (all : Performs) → AppendsPerforms all all []
adds_nothing all = record { places = sym (append-nil all.places.items); ranges = sym (append-nil all.ranges.items) }

behind : {A : Type 0} (f : Place × PerformedRange → A) (old now new : List A) (xs ys : List (Place × PerformedRange))
    → now ≡ old ++ map f xs → new ≡ now ++ map f ys → new ≡ old ++ map f (xs ++ ys)
behind f old now new xs ys first next =
    next ∙ ap (λ l. l ++ map f ys) first ∙ append_assoc old (map f xs) (map f ys)
    ∙ ap (λ l. old ++ l) (sym (map-append f xs ys))

pub adds_both : {old now new : Performs} (xs ys : List (Place × PerformedRange)) → AppendsPerforms old now xs
    → AppendsPerforms now new ys → AppendsPerforms old new (xs ++ ys)
adds_both {old} {now} {new} xs ys first next = record {
  places = behind (λ (one : Place × PerformedRange). one.0) old.places.items now.places.items new.places.items xs ys
      first.places next.places;
  ranges = behind (λ (one : Place × PerformedRange). one.1) old.ranges.items now.ranges.items new.ranges.items xs ys
      first.ranges next.ranges;
}

-- in one paragraph
pub adds_within : {old now new : Performs} (number : ℕ) (xs ys : List Performance)
    → AppendsPerforms old now (in_paragraph number xs) → AppendsPerforms now new (in_paragraph number ys)
    → AppendsPerforms old new (in_paragraph number (xs ++ ys))
adds_within {old} {now} {new} number xs ys first next =
    subst (AppendsPerforms old new) (sym (map-append (by_paragraph number) xs ys))
    (adds_both (in_paragraph number xs) (in_paragraph number ys) first next)

-- ---- one after another

module _ {A : Type 0} (performs : A → List Performance) where
  each_both : (xs ys : List A)
      → each_performs performs (xs ++ ys) ≡ each_performs performs xs ++ each_performs performs ys
  each_both [] ys = refl
  each_both (one ∷ more) ys =
      ap (λ l. performs one ++ l) (each_both more ys)
      ∙ sym (append_assoc (performs one) (each_performs performs more) (each_performs performs ys))

  each_more : (all : List A) (i : ℕ) (one : A) → i < length all → one ≡ get_or all i one
      → each_performs performs (take (i + 1) all) ≡ each_performs performs (take i all) ++ performs one
  each_more all i one lt is =
      ap (each_performs performs) (take_more all i one lt)
      ∙ each_both (take i all) (get_or all i one ∷ [])
      ∙ ap (λ l. each_performs performs (take i all) ++ l) (append-nil (performs (get_or all i one))
      ∙ ap performs (sym is))

  pub adds_next : {old now new : Performs} (number : ℕ) (all : List A) (i : ℕ) (one : A) → i < length all
      → one ≡ get_or all i one
      → AppendsPerforms old now (in_paragraph number (each_performs performs (take i all)))
      → AppendsPerforms now new (in_paragraph number (performs one))
      → AppendsPerforms old new (in_paragraph number (each_performs performs (take (i + 1) all)))
  adds_next {old} {now} {new} number all i one lt is first next =
      subst (λ (l : List Performance). AppendsPerforms old new (in_paragraph number l))
      (sym (each_more all i one lt is))
      (adds_within number (each_performs performs (take i all)) (performs one) first next)

  pub adds_all : {old new : Performs} (number : ℕ) (all : List A) (i : ℕ) → length all ≤ i
      → AppendsPerforms old new (in_paragraph number (each_performs performs (take i all)))
      → AppendsPerforms old new (in_paragraph number (each_performs performs all))
  adds_all {old} {new} number all i past h = subst
      (λ (l : List A). AppendsPerforms old new (in_paragraph number (each_performs performs l))) (take_all i all past) h

-- ---- paragraphs

module _ (procedures : List Procedure) where
  from_both : (number : ℕ) (xs ys : List Paragraph) → performs_from procedures number (xs ++ ys) ≡ performs_from
      procedures number xs ++ performs_from procedures (number + length xs) ys
  from_both number [] ys = let same : number ≡ number + length {A = Paragraph} [] =
      omega arith in ap (λ (n : ℕ). performs_from procedures n ys) same
  from_both number (one ∷ more) ys =
      let here = in_paragraph number (paragraph_performs procedures one) in
      let same : number + 1 + length more ≡ number + length (one ∷ more) = omega arith in
      ap (λ l. here ++ l) (from_both (number + 1) more ys
      ∙ ap (λ (n : ℕ). performs_from procedures (number + 1) more ++ performs_from procedures n ys) same)
      ∙ sym (append_assoc here (performs_from procedures (number + 1) more)
      (performs_from procedures (number + length (one ∷ more)) ys))

  from_more : (first : ℕ) (all : List Paragraph) (i : ℕ) (one : Paragraph) → i < length all → one ≡ get_or all i one
      → performs_from procedures first (take (i + 1) all)
      ≡ performs_from procedures first (take i all) ++ in_paragraph (first + i) (paragraph_performs procedures one)
  from_more first all i one lt is =
      let long : length (take i all) ≡ i = length-take-le i all (omega arith) in
      ap (performs_from procedures first)
      (take_more all i one lt ∙ ap (λ (x : Paragraph). take i all ++ x ∷ []) (sym is))
      ∙ from_both first (take i all) (one ∷ [])
      ∙ ap (λ l. performs_from procedures first (take i all) ++ l)
      (ap (λ (n : ℕ). performs_from procedures (first + n) (one ∷ [])) long
      ∙ append-nil (in_paragraph (first + i) (paragraph_performs procedures one)))

  pub paragraph_next : {old now new : Performs} (first : ℕ) (all : List Paragraph) (i : ℕ) (one : Paragraph)
      → i < length all → one ≡ get_or all i one
      → AppendsPerforms old now (performs_from procedures first (take i all))
      → AppendsPerforms now new (in_paragraph (first + i) (paragraph_performs procedures one))
      → AppendsPerforms old new (performs_from procedures first (take (i + 1) all))
  paragraph_next {old} {now} {new} first all i one lt is before next =
      subst (AppendsPerforms old new) (sym (from_more first all i one lt is))
      (adds_both (performs_from procedures first (take i all))
      (in_paragraph (first + i) (paragraph_performs procedures one)) before next)

  pub paragraphs_all : {old new : Performs} (first : ℕ) (all : List Paragraph) (i : ℕ) → length all ≤ i
      → AppendsPerforms old new (performs_from procedures first (take i all))
      → AppendsPerforms old new (performs_from procedures first all)
  paragraphs_all {old} {new} first all i past h =
      subst (λ (l : List Paragraph). AppendsPerforms old new (performs_from procedures first l)) (take_all i all past) h

  -- A section without paragraphs performs nothing.
  pub section_adds : {old new : Performs} (first : ℕ) (paragraphs given : List Paragraph) → given ≡ paragraphs
      → AppendsPerforms old new (performs_from procedures first given)
      → AppendsPerforms old new (performs_from procedures first (paragraphs_or_one paragraphs))
  section_adds {old} {new} first paragraphs given is h = or_one paragraphs
      (subst (λ (l : List Paragraph). AppendsPerforms old new (performs_from procedures first l)) is h)
    where
      or_one : (all : List Paragraph) → AppendsPerforms old new (performs_from procedures first all)
          → AppendsPerforms old new (performs_from procedures first (paragraphs_or_one all))
      or_one [] k = k
      or_one (one ∷ more) k = k

  -- ---- sections

  in_both : (xs ys : List Section) → paragraphs_in (xs ++ ys) ≡ paragraphs_in xs ++ paragraphs_in ys
  in_both [] ys = refl
  in_both (one ∷ more) ys =
      ap (λ l. paragraphs_or_one one.paragraphs ++ l) (in_both more ys)
      ∙ sym (append_assoc (paragraphs_or_one one.paragraphs) (paragraphs_in more) (paragraphs_in ys))

  in_more : (all : List Section) (i : ℕ) (one : Section) → i < length all → one ≡ get_or all i one
      → paragraphs_in (take (i + 1) all) ≡ paragraphs_in (take i all) ++ paragraphs_or_one one.paragraphs
  in_more all i one lt is =
      ap paragraphs_in (take_more all i one lt ∙ ap (λ (x : Section). take i all ++ x ∷ []) (sym is))
      ∙ in_both (take i all) (one ∷ [])
      ∙ ap (λ l. paragraphs_in (take i all) ++ l) (append-nil (paragraphs_or_one one.paragraphs))

  -- the sections so far, and how many paragraphs are in them
  pub record AreWalked (old new : Performs) (sections : List Section) (number : ℕ) : Type 0 where
    pub count : number ≡ length (paragraphs_in sections)
    pub added : AppendsPerforms old new (performs_from procedures 0 (paragraphs_in sections))

  pub walked_none : (all : Performs) → AreWalked all all [] 0
  walked_none all = record { count = refl; added = adds_nothing all }

  pub section_next : {old now new : Performs} (all : List Section) (i number next : ℕ) (one : Section) → i < length all
      → one ≡ get_or all i one
      → AreWalked old now (take i all) number → next ≡ number + length (paragraphs_or_one one.paragraphs)
      → AppendsPerforms now new (performs_from procedures number (paragraphs_or_one one.paragraphs))
      → AreWalked old new (take (i + 1) all) next
  section_next {old} {now} {new} all i number next one lt is before counted more =
      let front = paragraphs_in (take i all) in
      let back = paragraphs_or_one one.paragraphs in
      let same = in_more all i one lt is in
      let sum = length-append front back in
      let long = ap (λ (l : List Paragraph). length l) same in
      let count = before.count in
      record {
        count = omega (arith, sum, long, count, counted);
        added = subst (λ (l : List Paragraph). AppendsPerforms old new (performs_from procedures 0 l)) (sym same)
            (subst (AppendsPerforms old new) (sym (from_both 0 front back))
            (adds_both (performs_from procedures 0 front) (performs_from procedures (0 + length front) back)
            before.added
            (let at : number ≡ 0 + length front = omega (arith, count) in
            subst (λ (n : ℕ). AppendsPerforms now new (performs_from procedures n back)) at more)));
      }

  pub walked_all : {old new : Performs} (all : List Section) (i number : ℕ) → length all ≤ i
      → AreWalked old new (take i all) number → AreWalked old new all number
  walked_all {old} {new} all i number past h =
      subst (λ (l : List Section). AreWalked old new l number) (take_all i all past) h

-- ---- a statement performs what it performs by itself, and what the statements in it perform

module _ (procedures : List Procedure) {S : Type 0} (inside : S → List Performance) where
  abbrev inner_performs : InnerLists S → List Performance
  inner_performs all = each_performs (selected_performs inside) all.selected
      ++ (each_performs inside all.first ++ each_performs inside all.second)

  phrase_is : (phrase : Option (List S)) → phrase_performs inside phrase ≡ each_performs inside (in_phrase phrase)
  phrase_is None = refl
  phrase_is (Some all) = refl

  pair_is : (arose did_not : Option (List S))
      → phrase_performs inside arose ++ phrase_performs inside did_not
      ≡ each_performs inside (in_phrase arose) ++ each_performs inside (in_phrase did_not)
  pair_is arose did_not = ap (λ l. l ++ phrase_performs inside did_not) (phrase_is arose)
      ∙ ap (λ l. each_performs inside (in_phrase arose) ++ l) (phrase_is did_not)

  file_phrases_is : (phrases : FilePhrases S)
      → file_phrases_performs inside phrases ≡ inner_performs (file_phrases_lists phrases)
  file_phrases_is Absent = refl
  file_phrases_is (AtEnd pair) = pair_is pair.arose pair.did_not
  file_phrases_is (InvalidKey pair) = pair_is pair.arose pair.did_not

  performed_is : (what : Performed S)
      → performed_performs procedures inside what
      ≡ named_performs procedures what ++ inner_performs (performed_lists what)
  performed_is (Procedures from last) = sym (append-nil (range_performs from.place (range_of procedures from last)))
  performed_is (Statements all) = sym (append-nil (each_performs inside all))

  verb_is : (one : Verb S)
      → verb_performs procedures inside one ≡ own_performs procedures one ++ inner_performs (inner_lists one)
  verb_is (verb.DataStatement one) = refl
  verb_is (verb.Arithmetic one) = pair_is one.phrases.arose one.phrases.did_not
  verb_is (verb.ConditionalStatement (If condition statements otherwise)) =
      ap (λ l. each_performs inside statements ++ l) (phrase_is otherwise)
  verb_is (verb.ConditionalStatement (Evaluate one)) =
      ap (λ l. each_performs (selected_performs inside) one.selected ++ l) (phrase_is one.other)
  verb_is (verb.PerformStatement one) = performed_is one.performed
  verb_is (verb.TextStatement one) = refl
  verb_is (verb.StringStatement one) = pair_is one.phrases.arose one.phrases.did_not
  verb_is (verb.FileStatement one) = file_phrases_is (phrases_of one)
  verb_is (verb.ControlStatement one) = refl

-- `rest` is what the last call answered
pub adds_lists : {T E : Type 0} (old own chosen front new : Performs) (procedures : List Procedure) (number : ℕ)
    (one : Statement) (inner : InnerStatements Statement) (rest : Result T E)
    → lists_in inner ≡ inner_lists (out-Statement one).verb
    → AppendsPerforms old own (in_paragraph number (own_performs procedures (out-Statement one).verb))
    → AppendsPerforms own chosen (in_paragraph number
    (each_performs (selected_performs (statement_performs procedures)) inner.selected.now))
    → AppendsPerforms chosen front (in_paragraph number
    (each_performs (statement_performs procedures) inner.first.now))
    → OnOk rest (AppendsPerforms front new (in_paragraph number
    (each_performs (statement_performs procedures) inner.second.now)))
    → OnOk rest (AppendsPerforms old new (in_paragraph number (statement_performs procedures one)))
adds_lists old own chosen front new procedures number one inner rest is a b c d =
    let performs = statement_performs procedures in
    let itself = own_performs procedures (out-Statement one).verb in
    let some = each_performs (selected_performs performs) inner.selected.now in
    let first = each_performs performs inner.first.now in
    let second = each_performs performs inner.second.now in
    let same : statement_performs procedures one ≡ itself ++ (some ++ (first ++ second)) =
    statement_is procedures one ∙ verb_is procedures performs (out-Statement one).verb
    ∙ ap (λ (all : InnerLists Statement). itself ++ inner_performs procedures performs all) (sym is) in
    on_ok_weaker rest
    (λ (more : AppendsPerforms front new (in_paragraph number second)).
    subst (λ (l : List Performance). AppendsPerforms old new (in_paragraph number l)) (sym same)
    (adds_within number itself (some ++ (first ++ second)) a
    (adds_within number some (first ++ second) b (adds_within number first second c more)))) d
