-- PERFORM: what is read is spelled, and what is spelled is read.
use Rattle.std.proofs.Common.{◌≡◌, ◌<◌, ◌≤◌, ℕ, Bool, true, false, List, length, Option, None, Some, Ok, inl, inr, refl}
use Rattle.std.proofs.Common.{ap, subst, arith}
use Rattle.std.specs.Prelude.{◌||◌, is_some, if◌then◌else◌}
use Rattle.tokens.specs.declared.reserved.Reserved.{Reserved}
use Rattle.tokens.specs.declared.reserved.Reserved.TheVariants as w
use Rattle.tokens.specs.declared.token.Token.{Token}
use Rattle.tokens.specs.Reserved.{same_word}
use Rattle.source_tree.specs.declared.name.Name.{Name}
use Rattle.source_tree.specs.declared.perform_statement.Performed.{Performed}
use Rattle.source_tree.specs.declared.perform_statement.Performed.TheVariants.{Procedures, Statements}
use Rattle.source_tree.specs.declared.perform_statement.Repetition.{Repetition}
use Rattle.source_tree.specs.declared.perform_statement.PerformStatement.{PerformStatement}
use Rattle.source_tree.specs.declared.statement.Verb.{Verb}
use Rattle.source_tree.specs.declared.statement.Verb.TheVariants as verb
use Rattle.source_tree.specs.declared.statement.Statement.{Statement}
use Rattle.grammar.specs.declared.fault.Halt.{Halt}
use Rattle.grammar.specs.Parts.{Part, word, name as spelled_name, begins_name}
use Rattle.grammar.specs.Reading as read
use Rattle.grammar.specs.Reading.{Parser, begins_word}
use Rattle.grammar.proofs.Outcomes.{Answers, Reached, step, unstep, value, after, last}
use Rattle.grammar.proofs.Looking.{true_not_false, word_begins, begins_no_other, tests_words}
use Rattle.grammar.proofs.Lists.{Sound, Complete, Shrinks, Starts}
use Rattle.grammar.proofs.Parts.{word_sound, word_complete, word_shrinks, name_sound, name_complete, name_shrinks}
use Rattle.grammar.proofs.Parts.{name_starts}
use Rattle.expressions.specs.Looking.{reference_before, after_reference_before}
use Rattle.expressions.proofs.Exact.Leads.{reference_before_found}
use Rattle.conditions.specs.Conditions.{condition, condition_reader}
use Rattle.conditions.proofs.Exact.Tests.{no_word}
use Rattle.statements.specs.declared.verb.VerbWord.TheVariants as v
use Rattle.statements.specs.Verbs.{verb_at, begins_statement}
use Rattle.statements.specs.Turning.{turns_reader}
use Rattle.statements.specs.Performing as rule
use Rattle.statements.specs.Performing.{perform_statement, begins_procedures, through_by, through_reader}
use Rattle.statements.specs.Performing.{through_name_reader, procedures_reader, in_line_reader, perform_reader}
use Rattle.statements.specs.Spelling as g
use Rattle.statements.specs.Reading as r
use Rattle.statements.proofs.Except.{not_second, both}
use Rattle.statements.proofs.Standing.{stands, statement_no_name}
use Rattle.statements.proofs.StatementLists.{statements_sound}
use Rattle.statements.proofs.Verbs.Turning.{turns_sound, turns_complete, turns_shrink, turns_no_procedures}

-- ---- THRU

through_no_thru : same_word w.Through w.Thru ≡ false
unfolding same_word
through_no_thru = refl

thru_shrinks : (i rest : List Token) → rule.thru i rest → length rest < length i
thru_shrinks i rest (inl s) = word_shrinks w.Thru i rest s
thru_shrinks i rest (inr s) = word_shrinks w.Through i rest s

last_shrinks : (x : Option Name) (i rest : List Token) → rule.last_named x i rest → length rest ≤ length i
last_shrinks None i rest s = let l = ap length s.0 in omega arith
last_shrinks (Some name) i rest s =
    let a = thru_shrinks i s.0 s.1 in
    let b = name_shrinks name s.0 rest s.2 in omega arith

through_sound : (one : Reserved) (x : Option Name) (i rest : List Token)
    → ((j : List Token) → word one i j → rule.thru i j)
    → through_by one i ≡ Ok (x, rest) → rule.last_named x i rest
through_sound one x i rest thru e =
    unstep (read.expect one i) _ e (λ u i1 is1 e1.
    unstep (read.name i1) _ e1 (λ name i2 is2 e2.
    subst (λ y. rule.last_named y i rest) (value e2)
    (i1, thru i1 (word_sound one u i i1 is1), name_sound name i1 rest (last is2 e2))))

neither_word : (i : List Token) → begins_word w.Thru i ≡ false → begins_word w.Through i ≡ false → (behind : List Token)
    → rule.thru i behind → ⊥
neither_word i is is' behind (inl s) = true_not_false (begins_word w.Thru i) is (word_begins w.Thru i behind s)
neither_word i is is' behind (inr s) = true_not_false (begins_word w.Through i) is' (word_begins w.Through i behind s)

last_sound : Sound rule.last_named through_name_reader
unfolding through_name_reader through_reader
last_sound x i rest e = go (begins_word w.Thru i) (begins_word w.Through i) refl refl e
  where
    go : (a b : Bool) → begins_word w.Thru i ≡ a → begins_word w.Through i ≡ b
        → (if a || b then (if a then through_by w.Thru i else through_by w.Through i) else Ok (None, i)) ≡ Ok (x, rest)
        → rule.last_named x i rest
    go true b is is' e = through_sound w.Thru x i rest (λ j s. inl s) e
    go false true is is' e = through_sound w.Through x i rest (λ j s. inr s) e
    go false false is is' e = subst (λ y. rule.last_named y i rest) (value e) (after e, neither_word i is is')

through_complete : {Allowed : Halt → Type 0} (one : Reserved) (name : Name) (i i1 rest : List Token) → word one i i1
    → spelled_name name i1 rest
    → Answers Allowed (through_by one i) (Some name) rest
through_complete one name i i1 rest thru named =
    step (read.expect one i) _ (word_complete one tt i i1 thru)
    (step (read.name i1) _ (name_complete name i1 rest named) (Reached refl))

last_complete : {Allowed : Halt → Type 0} → Complete Allowed rule.last_named through_name_reader
unfolding through_name_reader through_reader
last_complete None i rest s =
    rw (no_word w.Thru i (λ j stands. s.1 j (inl stands)))
    (rw (no_word w.Through i (λ j stands. s.1 j (inr stands))) (Reached (ap (λ j. Ok (None, j)) s.0)))
last_complete (Some name) i rest (i1, inl thru, named) =
    rw (word_begins w.Thru i i1 thru) (through_complete w.Thru name i i1 rest thru named)
last_complete (Some name) i rest (i1, inr thru, named) =
    rw (begins_no_other w.Through w.Thru through_no_thru i i1 thru)
    (rw (word_begins w.Through i i1 thru) (through_complete w.Through name i i1 rest thru named))

-- ---- procedures

procedures_shrink : (depth : ℕ) (first : Name) (to : Option Name) (often : Repetition) (i rest : List Token)
    → rule.procedures depth first to often i rest → length rest < length i
procedures_shrink depth first to often i rest (i1, (named, no_count), (i2, thru, phrase)) =
    let a = name_shrinks first i i1 named in
    let b = last_shrinks to i1 i2 thru in
    let c = turns_shrink depth often i2 rest phrase in omega arith

procedures_complete : (Allowed : Halt → Type 0) (depth depth' : ℕ)
    → Complete Allowed (condition depth') (condition_reader depth)
    → (first : Name) (to : Option Name) (often : Repetition) (i rest : List Token)
    → rule.procedures depth' first to often i rest
    → Answers Allowed (procedures_reader {S = Statement} depth i)
    (verb.PerformStatement (record { performed = Procedures first to; turns = often })) rest
unfolding procedures_reader
procedures_complete Allowed depth depth' asks first to often i rest (i1, (named, no_count), (i2, thru, phrase)) =
    step (read.name i) _ (name_complete first i i1 named)
    (step (through_name_reader i1) _ (last_complete to i1 i2 thru)
    (step (turns_reader depth i2) _ (turns_complete Allowed depth depth' asks often i2 rest phrase) (Reached refl)))

procedures_begin : (depth : ℕ) (first : Name) (to : Option Name) (often : Repetition) (i rest : List Token)
    → rule.procedures depth first to often i rest → begins_procedures i ≡ true
procedures_begin depth first to often i rest (i1, (named, no_count), more) =
    both (begins_name i) (is_some (after_reference_before w.Times i)) (name_starts first i i1 named)
    ((tests_words (reference_before_found w.Times)).refuses i no_count)

-- where procedures begin, no count does
begin_no_count : (i : List Token) → begins_procedures i ≡ true → (behind : List Token)
    → reference_before w.Times i behind → ⊥
begin_no_count i is =
    (tests_words (reference_before_found w.Times)).fails i
    (not_second (begins_name i) (is_some (after_reference_before w.Times i)) is)

-- ---- either

module _ (statements : List Statement → Part) where
  in_line_no_procedures : Starts begins_statement statements
      → (depth : ℕ) (inside : List Statement) (often : Repetition) (i rest : List Token)
      → rule.in_line depth statements inside often i rest → begins_procedures i ≡ false
  in_line_no_procedures begins depth inside often i rest (i1, phrase, (i2, inner, end)) =
      turns_no_procedures depth often i i1 phrase (statement_no_name i1 (begins inside i1 i2 inner))

  in_line_shrinks : Shrinks statements
      → (depth : ℕ) (inside : List Statement) (often : Repetition) (i rest : List Token)
      → rule.in_line depth statements inside often i rest → length rest < length i
  in_line_shrinks fewer depth inside often i rest (i1, phrase, (i2, inner, end)) =
      let a = turns_shrink depth often i i1 phrase in
      let b = fewer inside i1 i2 inner in
      let c = word_shrinks w.EndPerform i2 rest end in omega arith

  performed_shrinks : Shrinks statements
      → (depth : ℕ) (one : Performed Statement) (often : Repetition) (i rest : List Token)
      → rule.perform_body depth statements one often i rest → length rest < length i
  performed_shrinks fewer depth (Procedures first to) often i rest s = procedures_shrink depth first to often i rest s
  performed_shrinks fewer depth (Statements inside) often i rest s = in_line_shrinks fewer depth inside often i rest s

  pub performing_stands : (depth : ℕ) (one : PerformStatement Statement) (i rest : List Token)
      → perform_statement depth statements one i rest → verb_at i ≡ Some v.Perform
  performing_stands depth one i rest s = stands w.Perform i s.0 s.1

  pub performing_shrinks : (depth : ℕ) → Shrinks statements → Shrinks (perform_statement depth statements)
  performing_shrinks depth fewer one i rest (i1, verb, s) =
      let a = word_shrinks w.Perform i i1 verb in
      let b = performed_shrinks fewer depth one.performed one.turns i1 rest s in omega arith

  module _ (Allowed : Halt → Type 0) (depth depth' : ℕ)
      (asks : Complete Allowed (condition depth') (condition_reader depth))
      (reader : Parser (List Statement)) (each : Complete Allowed statements reader)
      (begins : Starts begins_statement statements) where
    in_line_complete : (inside : List Statement) (often : Repetition) (i rest : List Token)
        → rule.in_line depth' statements inside often i rest
        → Answers Allowed (in_line_reader depth reader i)
        (verb.PerformStatement (record { performed = Statements inside; turns = often })) rest
    unfolding in_line_reader
    in_line_complete inside often i rest (i1, phrase, (i2, inner, end)) =
        step (turns_reader depth i) _ (turns_complete Allowed depth depth' asks often i i1 phrase)
        (step (reader i1) _ (each inside i1 i2 inner)
        (step (read.expect w.EndPerform i2) _ (word_complete w.EndPerform tt i2 rest end) (Reached refl)))

    performed_complete : (what : Performed Statement) (often : Repetition) (i rest : List Token)
        → rule.perform_body depth' statements what often i rest
        → Answers Allowed (rule.performed_reader depth reader i)
        (verb.PerformStatement (record { performed = what; turns = often })) rest
    performed_complete (Procedures first to) often i rest s =
        rw (procedures_begin depth' first to often i rest s)
        (procedures_complete Allowed depth depth' asks first to often i rest s)
    performed_complete (Statements inside) often i rest s =
        rw (in_line_no_procedures begins depth' inside often i rest s) (in_line_complete inside often i rest s)

    pub performing_complete : (often : Repetition) (what : Performed Statement) (i rest : List Token)
        → perform_statement depth' statements (record { performed = what; turns = often }) i rest
        → Answers Allowed (perform_reader depth reader i)
        (verb.PerformStatement (record { performed = what; turns = often })) rest
    unfolding perform_reader
    performing_complete often what i rest (i1, verb, s) =
        step (read.expect w.Perform i) _ (word_complete w.Perform tt i i1 verb)
        (performed_complete what often i1 rest s)

module _ (depth : ℕ) (p : Statement → Part) (nested : Parser Statement) (each : Sound p nested) where
  procedures_sound : (x : Verb Statement) (verb i rest : List Token) → word w.Perform verb i
      → ((behind : List Token) → reference_before w.Times i behind → ⊥)
      → procedures_reader depth i ≡ Ok (x, rest) → g.verb_line depth p x verb rest
  unfolding procedures_reader
  procedures_sound x verb i rest perform no_count e =
      unstep (read.name i) _ e (λ first i1 is1 e1.
      unstep (through_name_reader i1) _ e1 (λ to i2 is2 e2.
      unstep (turns_reader depth i2) _ e2 (λ often i3 is3 e3.
      subst (λ y. g.verb_line depth p y verb rest) (value e3) (
        i,
        perform,
        (
          i1,
          (name_sound first i i1 is1, no_count),
          (i2, last_sound to i1 i2 is2, turns_sound depth often i2 rest (last is3 e3)),
        ),
      ))))

  in_line_sound : (x : Verb Statement) (verb i rest : List Token) → word w.Perform verb i
      → in_line_reader depth (r.statements nested) i ≡ Ok (x, rest) → g.verb_line depth p x verb rest
  unfolding in_line_reader
  in_line_sound x verb i rest perform e =
      unstep (turns_reader depth i) _ e (λ often i1 is1 e1.
      unstep (r.statements nested i1) _ e1 (λ inside i2 is2 e2.
      unstep (read.expect w.EndPerform i2) _ e2 (λ u i3 is3 e3.
      subst (λ y. g.verb_line depth p y verb rest) (value e3) (
        i,
        perform,
        (
          i1,
          turns_sound depth often i i1 is1,
          (i2, statements_sound p nested each inside i1 i2 is2, word_sound w.EndPerform u i2 rest (last is3 e3)),
        ),
      ))))

  performed_sound : (x : Verb Statement) (verb i rest : List Token) → word w.Perform verb i
      → rule.performed_reader depth (r.statements nested) i ≡ Ok (x, rest) → g.verb_line depth p x verb rest
  performed_sound x verb i rest perform e = go (begins_procedures i) refl e
    where
      go : (b : Bool) → begins_procedures i ≡ b
          → (if b then procedures_reader depth i else in_line_reader depth (r.statements nested) i) ≡ Ok (x, rest)
          → g.verb_line depth p x verb rest
      go true is e = procedures_sound x verb i rest perform (begin_no_count i is) e
      go false is e = in_line_sound x verb i rest perform e

  pub performing_sound : Sound (g.verb_line depth p) (perform_reader depth (r.statements nested))
  unfolding perform_reader
  performing_sound x i rest e =
      unstep (read.expect w.Perform i) _ e
      (λ u i1 is1 e1. performed_sound x i i1 rest (word_sound w.Perform u i i1 is1) e1)
