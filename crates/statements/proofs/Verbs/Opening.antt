-- OPEN and CLOSE: what is read is spelled, and what is spelled is read.
use Rattle.std.proofs.Common.{◌≡◌, ◌<◌, ℕ, zero, suc, Bool, true, false, if◌then◌else◌, List, [], ◌∷◌, ◌++◌, length}
use Rattle.std.proofs.Common.{Some, Ok, Err, refl, sym, ap, ◌∙◌, subst, append_assoc, arith}
use Rattle.tokens.specs.declared.reserved.Reserved.TheVariants as w
use Rattle.tokens.specs.declared.token.Token.{Token}
use Rattle.records.specs.declared.verb.OpenMode.{OpenMode}
use Rattle.source_tree.specs.declared.name.Name.{Name}
use Rattle.source_tree.specs.declared.file_statement.Opening.{Opening}
use Rattle.source_tree.specs.declared.file_statement.FileStatement.TheVariants.{Open, Close}
use Rattle.source_tree.specs.declared.statement.Statement.{Statement}
use Rattle.grammar.specs.declared.fault.Halt.{Halt}
use Rattle.grammar.specs.Parts as grammar
use Rattle.grammar.specs.Parts.{Part, lookahead, name, begins_name}
use Rattle.grammar.specs.Reading as read
use Rattle.grammar.specs.Reading.{Outcome, Parser, and_then, several_from, one_token}
use Rattle.grammar.proofs.Outcomes.{Answers, Reached, step, unstep, value, last}
use Rattle.grammar.proofs.Looking.{tests_tested}
use Rattle.grammar.proofs.Lists as lists
use Rattle.grammar.proofs.Lists.{Sound, Complete, Shrinks, Starts}
use Rattle.grammar.proofs.Parts.{name_sound, name_complete, name_shrinks, name_starts, one_token_sound}
use Rattle.grammar.proofs.Parts.{one_token_complete, telling_shrinks, telling_starts, word_sound, word_complete}
use Rattle.grammar.proofs.Parts.{word_shrinks}
use Rattle.statements.specs.declared.verb.FileVerb.TheVariants as f
use Rattle.statements.specs.declared.verb.VerbWord.TheVariants as v
use Rattle.statements.specs.Verbs.{verb_at}
use Rattle.statements.specs.Opening as rule
use Rattle.statements.specs.Opening.{mode_in, begins_mode, all_openings, opening_reader, opened_reader, opened_turns}
use Rattle.statements.specs.Opening.{all_opened_reader, openings_reader, close_reader}
use Rattle.statements.specs.Filing.{file_statement}
use Rattle.statements.proofs.Standing.{stands}

-- ---- files that are opened alike

module _ (mode : OpenMode) where
  opening_sound : Sound (rule.opened_file mode) (opening_reader mode)
  unfolding opening_reader
  opening_sound x i rest e =
      unstep (read.name i) _ e (λ file i1 is1 e1.
      subst (λ y. rule.opened_file mode y i rest) (value e1) (refl, name_sound file i rest (last is1 e1)))

  opening_complete : {Allowed : Halt → Type 0} → Complete Allowed (rule.opened_file mode) (opening_reader mode)
  unfolding opening_reader
  opening_complete x i rest (is, s) =
      step (read.name i) _ (name_complete x.file i rest s)
      (Reached (ap (λ m. Ok (record { mode = m; file = x.file }, rest)) (sym is)))

  opening_shrinks : Shrinks (rule.opened_file mode)
  opening_shrinks x i rest (is, s) = name_shrinks x.file i rest s

  opening_starts : Starts begins_name (rule.opened_file mode)
  opening_starts x i rest (is, s) = name_starts x.file i rest s

  alike_sound : Sound (grammar.several (rule.opened_file mode) (lookahead begins_name))
      (read.several (opening_reader mode) begins_name)
  alike_sound = lists.several_sound (rule.opened_file mode) (opening_reader mode) (lookahead begins_name) begins_name
      (tests_tested begins_name) opening_sound

  alike_complete : {Allowed : Halt → Type 0} → Complete Allowed
      (grammar.several (rule.opened_file mode) (lookahead begins_name)) (read.several (opening_reader mode) begins_name)
  alike_complete {Allowed = Allowed} =
      lists.several_complete (rule.opened_file mode) (opening_reader mode) (lookahead begins_name) begins_name
      (tests_tested begins_name) Allowed
      (opening_complete {Allowed = Allowed}) opening_shrinks opening_starts

  alike_shrink : Shrinks (grammar.several (rule.opened_file mode) (lookahead begins_name))
  alike_shrink = lists.several_shrinks (rule.opened_file mode) (lookahead begins_name) opening_shrinks

opened_sound : Sound rule.mode_phrase opened_reader
unfolding opened_reader
opened_sound x i rest e =
    unstep (one_token mode_in i) _ e
    (λ mode i1 is1 e1. (mode, (i1, one_token_sound mode_in mode i i1 is1, alike_sound mode x i1 rest e1)))

opened_complete : {Allowed : Halt → Type 0} → Complete Allowed rule.mode_phrase opened_reader
unfolding opened_reader
opened_complete x i rest (mode, (i1, told, files)) =
    step (one_token mode_in i) _ (one_token_complete mode_in mode i i1 told) (alike_complete mode x i1 rest files)

opened_shrinks : Shrinks rule.mode_phrase
opened_shrinks x i rest (mode, (i1, told, files)) =
    let a = telling_shrinks mode_in mode i i1 told in let b = alike_shrink mode x i1 rest files in omega arith

opened_starts : Starts begins_mode rule.mode_phrase
opened_starts x i rest (mode, (i1, told, files)) = telling_starts mode_in mode i i1 told

-- ---- all files

groups_sound : Sound (grammar.several rule.mode_phrase (lookahead begins_mode)) (read.several opened_reader begins_mode)
groups_sound = lists.several_sound rule.mode_phrase opened_reader (lookahead begins_mode) begins_mode
    (tests_tested begins_mode) opened_sound

groups_complete : {Allowed : Halt → Type 0} → Complete Allowed
    (grammar.several rule.mode_phrase (lookahead begins_mode)) (read.several opened_reader begins_mode)
groups_complete {Allowed = Allowed} =
    lists.several_complete rule.mode_phrase opened_reader (lookahead begins_mode) begins_mode (tests_tested begins_mode)
    Allowed
    (opened_complete {Allowed = Allowed}) opened_shrinks opened_starts

groups_shrink : Shrinks (grammar.several rule.mode_phrase (lookahead begins_mode))
groups_shrink = lists.several_shrinks rule.mode_phrase (lookahead begins_mode) opened_shrinks

nothing_behind : (one : List Opening) → one ++ [] ≡ one
nothing_behind [] = refl
nothing_behind (a ∷ more) = ap (λ l. a ∷ l) (nothing_behind more)

joined_behind : (groups : List (List Opening)) (one : List Opening)
    → all_openings (groups ++ one ∷ []) ≡ all_openings groups ++ one
joined_behind [] one = nothing_behind one
joined_behind (first ∷ more) one =
    ap (λ l. first ++ l) (joined_behind more one) ∙ sym (append_assoc first (all_openings more) one)

abbrev all_joined : List (List Opening) → Parser (List Opening)
all_joined groups = read.pure (all_openings groups)

-- the files of one group after another are those of the list of groups
turns_join : (turns : ℕ) (groups : List (List Opening)) (i : List Token)
    → opened_turns turns (all_openings groups) i
    ≡ and_then (several_from opened_reader begins_mode turns groups i) all_joined
unfolding opened_turns several_from
turns_join zero groups i = refl
turns_join (suc turns) groups i = go (λ g j. turns_join turns g j) (opened_reader i)
  where
    turn : ((g : List (List Opening)) (j : List Token) → opened_turns turns (all_openings g) j ≡ and_then
        (several_from opened_reader begins_mode turns g j) all_joined)
        → (more : List Opening) (j : List Token) (b : Bool)
        → (if b then opened_turns turns (all_openings groups ++ more) j else Ok (all_openings groups ++ more, j))
        ≡ and_then (if b then several_from opened_reader begins_mode turns (groups ++ more ∷ []) j
        else Ok (groups ++ more ∷ [], j)) all_joined
    turn again more j true =
        ap (λ files. opened_turns turns files j) (sym (joined_behind groups more)) ∙ again (groups ++ more ∷ []) j
    turn again more j false = ap (λ files. Ok (files, j)) (sym (joined_behind groups more))

    go : ((g : List (List Opening)) (j : List Token) → opened_turns turns (all_openings g) j ≡ and_then
        (several_from opened_reader begins_mode turns g j) all_joined)
        → (o : Outcome (List Opening))
        → and_then o (λ more j. if begins_mode j then opened_turns turns (all_openings groups ++ more) j
        else Ok (all_openings groups ++ more, j))
        ≡ and_then (and_then o (λ more j. if begins_mode j then several_from opened_reader begins_mode turns
        (groups ++ more ∷ []) j else Ok (groups ++ more ∷ [], j))) all_joined
    go again (Ok p) = turn again p.0 p.1 (begins_mode p.1)
    go again (Err halt) = refl

all_join : (i : List Token) → all_opened_reader i ≡ and_then (read.several opened_reader begins_mode i) all_joined
unfolding all_opened_reader read.several
all_join i = turns_join (length i) [] i

all_opened_sound : (x : List Opening) (i rest : List Token) → all_opened_reader i ≡ Ok (x, rest)
    → (groups : List (List Opening)) × (x ≡ all_openings groups)
    × grammar.several rule.mode_phrase (lookahead begins_mode) groups i rest
all_opened_sound x i rest e =
    unstep (read.several opened_reader begins_mode i) all_joined (sym (all_join i) ∙ e) (λ groups i1 is1 e1.
    (groups, sym (value e1), groups_sound groups i rest (last is1 e1)))

all_opened_complete : {Allowed : Halt → Type 0} (groups : List (List Opening)) (i rest : List Token)
    → grammar.several rule.mode_phrase (lookahead begins_mode) groups i rest
    → Answers Allowed (all_opened_reader i) (all_openings groups) rest
all_opened_complete {Allowed = Allowed} groups i rest s =
    subst (λ o. Answers Allowed o (all_openings groups) rest) (sym (all_join i))
    (step (read.several opened_reader begins_mode i) all_joined (groups_complete groups i rest s) (Reached refl))

module _ (files : List Opening) where
  pub openings_shrink : (i rest : List Token) → rule.openings files i rest → length rest < length i
  openings_shrink i rest (groups, is, (i1, verb, s)) =
      let a = word_shrinks w.Open i i1 verb in let b = groups_shrink groups i1 rest s in omega arith

  pub openings_stand : (i rest : List Token) → rule.openings files i rest → verb_at i ≡ Some (v.Filing f.Open)
  openings_stand i rest (groups, is, (i1, verb, s)) = stands w.Open i i1 verb

  pub openings_complete : {Allowed : Halt → Type 0} (i rest : List Token) → rule.openings files i rest
      → Answers Allowed (openings_reader {S = Statement} i) (Open files) rest
  unfolding openings_reader
  openings_complete {Allowed = Allowed} i rest (groups, is, (i1, verb, s)) =
      step (read.expect w.Open i) _ (word_complete w.Open tt i i1 verb)
      (step (all_opened_reader i1) _ (subst (λ x. Answers Allowed (all_opened_reader i1) x rest) (sym is)
      (all_opened_complete groups i1 rest s)) (Reached refl))

pub openings_sound : (statements : List Statement → Part) → Sound (file_statement statements) openings_reader
unfolding openings_reader
openings_sound statements x i rest e =
    unstep (read.expect w.Open i) _ e (λ u i1 is1 e1.
    unstep (all_opened_reader i1) _ e1 (λ files i2 is2 e2.
    let s = all_opened_sound files i1 rest (last is2 e2) in
    subst (λ y. file_statement statements y i rest) (value e2) (s.0, s.1, (i1, word_sound w.Open u i i1 is1, s.2))))

-- ---- CLOSE

names_sound : Sound (grammar.several name (lookahead begins_name)) (read.several read.name begins_name)
names_sound =
    lists.several_sound name read.name (lookahead begins_name) begins_name (tests_tested begins_name) name_sound

names_complete : {Allowed : Halt → Type 0}
    → Complete Allowed (grammar.several name (lookahead begins_name)) (read.several read.name begins_name)
names_complete {Allowed = Allowed} =
    lists.several_complete name read.name (lookahead begins_name) begins_name (tests_tested begins_name) Allowed
    (name_complete {Allowed = Allowed}) name_shrinks name_starts

names_shrink : Shrinks (grammar.several name (lookahead begins_name))
names_shrink = lists.several_shrinks name (lookahead begins_name) name_shrinks

module _ (files : List Name) where
  pub closing_shrinks : (i rest : List Token) → rule.close_statement files i rest → length rest < length i
  closing_shrinks i rest (i1, verb, s) = let a = word_shrinks w.Close i i1 verb in let b =
      names_shrink files i1 rest s in omega arith

  pub closing_stands : (i rest : List Token) → rule.close_statement files i rest → verb_at i ≡ Some (v.Filing f.Close)
  closing_stands i rest s = stands w.Close i s.0 s.1

  pub closing_complete : {Allowed : Halt → Type 0} (i rest : List Token) → rule.close_statement files i rest
      → Answers Allowed (close_reader {S = Statement} i) (Close files) rest
  unfolding close_reader
  closing_complete i rest (i1, verb, s) =
      step (read.expect w.Close i) _ (word_complete w.Close tt i i1 verb)
      (step (read.several read.name begins_name i1) _ (names_complete files i1 rest s) (Reached refl))

pub closing_sound : (statements : List Statement → Part) → Sound (file_statement statements) close_reader
unfolding close_reader
closing_sound statements x i rest e =
    unstep (read.expect w.Close i) _ e (λ u i1 is1 e1.
    unstep (read.several read.name begins_name i1) _ e1 (λ files i2 is2 e2.
    subst (λ y. file_statement statements y i rest) (value e2)
    (i1, word_sound w.Close u i i1 is1, names_sound files i1 rest (last is2 e2))))
