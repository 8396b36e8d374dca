-- Sentences, paragraphs and bodies: what is read is spelled, and what is spelled is read.
use Rattle.std.proofs.Common.{◌≡◌, ◌<◌, ℕ, Bool, true, false, List, [], ◌∷◌, Option, None, Some, length, refl, ap, ◌∙◌}
use Rattle.std.proofs.Common.{subst, arith}
use Rattle.std.specs.Prelude.{if◌then◌else◌, ◌&&◌, ◌||◌, is_some, Ok}
use Rattle.tokens.specs.declared.token.Kind.{Kind}
use Rattle.tokens.specs.declared.token.Kind.TheVariants as k
use Rattle.tokens.specs.declared.token.Token.{Token}
use Rattle.lexical.specs.declared.place.Place.{Place}
use Rattle.source_tree.specs.declared.name.Name.{Name}
use Rattle.source_tree.specs.declared.program.Sentence.{Sentence}
use Rattle.source_tree.specs.declared.program.Paragraph.{Paragraph}
use Rattle.grammar.specs.Parts as parts
use Rattle.grammar.specs.Parts.{any, several, lookahead}
use Rattle.grammar.specs.Reading as read
use Rattle.grammar.specs.Reading.{Outcome, Parser}
use Rattle.grammar.proofs.Looking.{tests_tested}
use Rattle.grammar.proofs.Outcomes.{Answers, Reached, Deeper, step, unstep, value, last}
use Rattle.grammar.proofs.Lists
use Rattle.grammar.proofs.Lists.{Sound, Complete, Shrinks, Starts}
use Rattle.grammar.proofs.Parts.{name_sound, name_complete, name_shrinks, period_sound, period_complete, period_shrinks}
use Rattle.expressions.proofs.Exact.Marks.{either}
use Rattle.statements.specs.Verbs.{verb_in, begins_statement}
use Rattle.statements.specs.Spelling.{sentence}
use Rattle.statements.specs.Reading as statements
use Rattle.statements.proofs.Depth.{sentence_sound, sentence_complete, sentence_shrinks, sentence_starts}
use Rattle.divisions.specs.Spelling as g
use Rattle.divisions.specs.Reading as r

-- ---- sentences

sentences_sound : (depth : ℕ) → Sound (several (sentence depth) (lookahead begins_statement)) (r.sentences depth)
unfolding r.sentences
sentences_sound depth = Lists.several_sound (sentence depth) (statements.sentence depth) (lookahead begins_statement)
    begins_statement (tests_tested begins_statement) (sentence_sound depth)

sentences_complete : (depth depth' : ℕ)
    → Complete (Deeper depth depth') (several (sentence depth') (lookahead begins_statement)) (r.sentences depth)
unfolding r.sentences
sentences_complete depth depth' =
    Lists.several_complete (sentence depth') (statements.sentence depth) (lookahead begins_statement) begins_statement
    (tests_tested begins_statement) (Deeper depth depth') (sentence_complete depth depth') (sentence_shrinks depth')
    (sentence_starts depth')

any_sentences_sound : (depth : ℕ) → Sound (any (sentence depth) (lookahead begins_statement)) (r.any_sentences depth)
unfolding r.any_sentences
any_sentences_sound depth = Lists.any_sound (sentence depth) (statements.sentence depth) (lookahead begins_statement)
    begins_statement (tests_tested begins_statement) (sentence_sound depth)

any_sentences_complete : (depth depth' : ℕ)
    → Complete (Deeper depth depth') (any (sentence depth') (lookahead begins_statement)) (r.any_sentences depth)
unfolding r.any_sentences
any_sentences_complete depth depth' =
    Lists.any_complete (sentence depth') (statements.sentence depth) (lookahead begins_statement) begins_statement
    (tests_tested begins_statement) (Deeper depth depth') (sentence_complete depth depth') (sentence_shrinks depth')
    (sentence_starts depth')

-- ---- paragraphs

paragraph_sound : (depth : ℕ) → Sound (g.paragraph depth) (r.paragraph depth)
unfolding r.paragraph
paragraph_sound depth x i rest e =
    unstep (read.name i) _ e (λ given i1 is1 e1.
    unstep (read.period i1) _ e1 (λ u i2 is2 e2.
    unstep (r.any_sentences depth i2) _ e2 (λ found i3 is3 e3.
    subst (λ y. g.paragraph depth y i rest) (value e3) (
      i1,
      name_sound given i i1 is1,
      (i2, period_sound u i1 i2 is2, any_sentences_sound depth found i2 rest (last is3 e3)),
    ))))

paragraph_complete : (depth depth' : ℕ) → Complete (Deeper depth depth') (g.paragraph depth') (r.paragraph depth)
unfolding r.paragraph
paragraph_complete depth depth' x i rest s = go x.name x.sentences s
  where
    go : (given : Option Name) (found : List Sentence)
        → g.paragraph depth' (record { name = given; sentences = found }) i rest
        → Answers (Deeper depth depth') (r.paragraph depth i) (record { name = given; sentences = found }) rest
    go None found s = absurd s.1
    go (Some given) found (i1, name, (i2, period, body)) =
        step (read.name i) _ (name_complete given i i1 name)
        (step (read.period i1) _ (period_complete tt i1 i2 period)
        (step (r.any_sentences depth i2) _ (any_sentences_complete depth depth' found i2 rest body) (Reached refl)))

pub named_shrinks : (given : Option Name) (i rest : List Token) → g.optional_name given i rest → length rest < length i
named_shrinks None i rest s = absurd s
named_shrinks (Some given) i rest s = name_shrinks given i rest s

paragraph_shrinks : (depth : ℕ) → Shrinks (g.paragraph depth)
paragraph_shrinks depth x i rest (i1, name, (i2, period, body)) =
    let a = named_shrinks x.name i i1 name in
    let b = period_shrinks i1 i2 period in
    let c =
    Lists.any_shrinks (sentence depth) (lookahead begins_statement) (sentence_shrinks depth) x.sentences i2 rest body in
    omega arith

paragraph_starts : (depth : ℕ) → Starts g.begins_paragraph (g.paragraph depth)
paragraph_starts depth x i rest s = go x.name s.0 s.2.0 s.1 s.2.1
  where
    go : (given : Option Name) (i1 i2 : List Token) → g.optional_name given i i1 → parts.period i1 i2
        → g.begins_paragraph i ≡ true
    go None i1 i2 given period = absurd given
    go (Some given) i1 i2 (first, is, tell) (second, next, kind) =
        ap g.begins_paragraph (is ∙ ap (λ j. first ∷ j) next)
        ∙ ap (λ o. parts.is_told o && read.is_period second.kind) tell
        ∙ ap read.is_period kind

paragraphs_sound : (depth : ℕ) → Sound (several (g.paragraph depth) (lookahead g.begins_paragraph)) (r.paragraphs depth)
unfolding r.paragraphs
paragraphs_sound depth = Lists.several_sound (g.paragraph depth) (r.paragraph depth) (lookahead g.begins_paragraph)
    g.begins_paragraph (tests_tested g.begins_paragraph) (paragraph_sound depth)

paragraphs_complete : (depth depth' : ℕ)
    → Complete (Deeper depth depth') (several (g.paragraph depth') (lookahead g.begins_paragraph)) (r.paragraphs depth)
unfolding r.paragraphs
paragraphs_complete depth depth' =
    Lists.several_complete (g.paragraph depth') (r.paragraph depth) (lookahead g.begins_paragraph) g.begins_paragraph
    (tests_tested g.begins_paragraph) (Deeper depth depth') (paragraph_complete depth depth') (paragraph_shrinks depth')
    (paragraph_starts depth')

any_paragraphs_sound : (depth : ℕ)
    → Sound (any (g.paragraph depth) (lookahead g.begins_paragraph)) (r.any_paragraphs depth)
unfolding r.any_paragraphs
any_paragraphs_sound depth = Lists.any_sound (g.paragraph depth) (r.paragraph depth) (lookahead g.begins_paragraph)
    g.begins_paragraph (tests_tested g.begins_paragraph) (paragraph_sound depth)

any_paragraphs_complete : (depth depth' : ℕ)
    → Complete (Deeper depth depth') (any (g.paragraph depth') (lookahead g.begins_paragraph)) (r.any_paragraphs depth)
unfolding r.any_paragraphs
any_paragraphs_complete depth depth' =
    Lists.any_complete (g.paragraph depth') (r.paragraph depth) (lookahead g.begins_paragraph) g.begins_paragraph
    (tests_tested g.begins_paragraph) (Deeper depth depth') (paragraph_complete depth depth') (paragraph_shrinks depth')
    (paragraph_starts depth')

-- ---- bodies

opening_sound : (depth : ℕ) → Sound (g.body depth) (r.first_paragraphs_reader depth)
unfolding r.first_paragraphs_reader
opening_sound depth x i rest e =
    unstep (r.sentences depth i) _ e (λ found i1 is1 e1.
    unstep (r.any_paragraphs depth i1) _ e1 (λ more i2 is2 e2.
    subst (λ y. g.body depth y i rest) (value e2)
    (i1, sentences_sound depth found i i1 is1, any_paragraphs_sound depth more i1 rest (last is2 e2))))

-- paragraphs that are read each have a name
plain_sound : (depth : ℕ) (x : List Paragraph) (i rest : List Token)
    → several (g.paragraph depth) (lookahead g.begins_paragraph) x i rest → g.body depth x i rest
plain_sound depth [] i rest s = absurd s
plain_sound depth (first ∷ more) i rest s = go first.name first.sentences s
  where
    go : (given : Option Name) (found : List Sentence)
        → several (g.paragraph depth) (lookahead g.begins_paragraph) (record { name = given; sentences = found } ∷ more)
        i rest
        → g.body depth (record { name = given; sentences = found } ∷ more) i rest
    go None found s = absurd s.1.1
    go (Some given) found s = s

pub body_sound : (depth : ℕ) → Sound (g.body depth) (r.body depth)
unfolding r.body
body_sound depth x i rest e = go (begins_statement i) (g.begins_paragraph i) e
  where
    go : (statement paragraph : Bool)
        → (if statement then r.first_paragraphs_reader depth i else if paragraph then r.paragraphs depth i
        else read.refuse i) ≡ Ok (x, rest)
        → g.body depth x i rest
    go true paragraph e = opening_sound depth x i rest e
    go false false e = cc
    go false true e = plain_sound depth x i rest (paragraphs_sound depth x i rest e)

-- ---- a name is no verb

no_verb : (kind : Kind) (place : Place) (given : Name) → parts.named_by kind place ≡ Some given → verb_in kind ≡ None
no_verb (k.Reserved _) place given e = cc
no_verb (k.Word characters) place given e = refl
no_verb (k.Numeric number) place given e = cc
no_verb (k.Nonnumeric bytes) place given e = cc
no_verb (k.Picture characters) place given e = cc
no_verb k.Period place given e = cc
no_verb k.LeftParenthesis place given e = cc
no_verb k.RightParenthesis place given e = cc
no_verb k.Colon place given e = cc
no_verb (k.Operator operator) place given e = cc

pub name_begins_none : (given : Name) (i rest : List Token) → parts.name given i rest → begins_statement i ≡ false
name_begins_none given i rest (first, is, tell) =
    ap begins_statement is ∙ ap is_some (no_verb first.kind first.place given tell)

pub body_complete : (depth depth' : ℕ) → Complete (Deeper depth depth') (g.body depth') (r.body depth)
unfolding r.body r.first_paragraphs_reader
body_complete depth depth' [] i rest s = absurd s
body_complete depth depth' (first ∷ more) i rest s = go first.name first.sentences s
  where
    go : (given : Option Name) (found : List Sentence)
        → g.body depth' (record { name = given; sentences = found } ∷ more) i rest
        → Answers (Deeper depth depth') (r.body depth i) (record { name = given; sentences = found } ∷ more) rest
    go None found (i1, all, others) =
        rw (Lists.several_starts (sentence depth') (lookahead begins_statement) begins_statement
        (sentence_starts depth') found i i1 all)
        (step (r.sentences depth i) _ (sentences_complete depth depth' found i i1 all)
        (step (r.any_paragraphs depth i1) _ (any_paragraphs_complete depth depth' more i1 rest others) (Reached refl)))
    go (Some given) found s =
        rw (name_begins_none given i s.1.0 s.1.1)
        (rw (paragraph_starts depth' (record { name = Some given; sentences = found }) i s.0 s.1)
        (paragraphs_complete depth depth' (record { name = Some given; sentences = found } ∷ more) i rest s))

-- ---- where a body begins, and that it goes on

pub body_starts : (depth : ℕ) → Starts g.begins_body (g.body depth)
body_starts depth [] i rest s = absurd s
body_starts depth (first ∷ more) i rest s = go first.name first.sentences s
  where
    go : (given : Option Name) (found : List Sentence)
        → g.body depth (record { name = given; sentences = found } ∷ more) i rest → g.begins_body i ≡ true
    go None found (i1, all, others) =
        ap (λ b. b || g.begins_paragraph i) (Lists.several_starts (sentence depth) (lookahead begins_statement)
        begins_statement (sentence_starts depth) found i i1 all)
    go (Some given) found s =
        either (begins_statement i) (g.begins_paragraph i)
        (paragraph_starts depth (record { name = Some given; sentences = found }) i s.0 s.1)

pub body_shrinks : (depth : ℕ) → Shrinks (g.body depth)
body_shrinks depth [] i rest s = absurd s
body_shrinks depth (first ∷ more) i rest s = go first.name first.sentences s
  where
    go : (given : Option Name) (found : List Sentence)
        → g.body depth (record { name = given; sentences = found } ∷ more) i rest → length rest < length i
    go None found (i1, all, others) =
        let a =
        Lists.several_shrinks (sentence depth) (lookahead begins_statement) (sentence_shrinks depth) found i i1 all in
        let b = Lists.any_shrinks (g.paragraph depth) (lookahead g.begins_paragraph) (paragraph_shrinks depth) more i1
        rest others in omega arith
    go (Some given) found s =
        Lists.several_shrinks (g.paragraph depth) (lookahead g.begins_paragraph) (paragraph_shrinks depth)
        (record { name = Some given; sentences = found } ∷ more) i rest s
