-- Sections: what is read is spelled, and what is spelled is read.
use Rattle.std.proofs.Common.{◌≡◌, ◌≤◌, ℕ, Bool, true, false, List, [], ◌∷◌, Option, None, Some, length, drop, refl}
use Rattle.std.proofs.Common.{sym, ap, ◌∙◌, subst, arith}
use Rattle.std.specs.Prelude.{if◌then◌else◌, ◌&&◌, ◌||◌, Ok}
use Rattle.tokens.specs.declared.reserved.Reserved.TheVariants as w
use Rattle.tokens.specs.declared.token.Kind.{Kind}
use Rattle.tokens.specs.declared.token.Kind.TheVariants as k
use Rattle.tokens.specs.declared.token.Token.{Token}
use Rattle.source_tree.specs.declared.name.Name.{Name}
use Rattle.source_tree.specs.declared.program.Paragraph.{Paragraph}
use Rattle.source_tree.specs.declared.program.Section.{Section}
use Rattle.grammar.specs.Parts as parts
use Rattle.grammar.specs.Parts.{several, lookahead, begins_name}
use Rattle.grammar.specs.Reading as read
use Rattle.grammar.specs.Reading.{Outcome, Parser, begins_word, is_kind, is_word, is_period}
use Rattle.grammar.proofs.Looking.{tests_tested, true_not_false, is_kind_of}
use Rattle.grammar.proofs.Outcomes.{Answers, Reached, Deeper, step, unstep, value, after, last}
use Rattle.grammar.proofs.Lists
use Rattle.grammar.proofs.Lists.{Sound, Complete, Shrinks, Starts}
use Rattle.grammar.proofs.Parts.{name_sound, name_complete, word_sound, word_complete, word_shrinks, period_sound}
use Rattle.grammar.proofs.Parts.{period_complete, period_shrinks}
use Rattle.data_division.proofs.Exact.Entries.{name_there}
use Rattle.statements.specs.Verbs.{begins_statement}
use Rattle.divisions.specs.Spelling as g
use Rattle.divisions.specs.Reading as r
use Rattle.divisions.proofs.Bodies.{body_sound, body_complete, body_starts, body_shrinks, named_shrinks}
use Rattle.divisions.proofs.Bodies.{name_begins_none}

-- ---- what begins a body begins no section

period_is_no_word : (kind : Kind) → is_period kind ≡ true → is_kind w.Section kind ≡ false
period_is_no_word k.Period e = refl
period_is_no_word _ e = cc

period_first : (i : List Token) → g.begins_period i ≡ true → begins_word w.Section i ≡ false
period_first [] e = cc
period_first (first ∷ more) e = period_is_no_word first.kind e

statement_is_no_name : (i : List Token) → begins_statement i ≡ true → begins_name i ≡ false
statement_is_no_name i begins = go (begins_name i) refl
  where
    go : (b : Bool) → begins_name i ≡ b → begins_name i ≡ false
    go true is = let there = name_there i is in
        absurd (true_not_false (begins_statement i) (name_begins_none there.1.0 i there.0 there.1.1) begins)
    go false is = is

second : (a b : Bool) → (a && b) ≡ true → b ≡ true
second true b e = e
second false b e = cc

neither_way : (a b : Bool) → b ≡ false → (a && b) ≡ false
neither_way true b e = e
neither_way false b e = refl

no_section : (i : List Token) → g.begins_body i ≡ true → g.begins_section i ≡ false
no_section i begins = go (begins_statement i) refl begins
  where
    go : (b : Bool) → begins_statement i ≡ b → (b || g.begins_paragraph i) ≡ true → g.begins_section i ≡ false
    go true is e = ap (λ b. b && begins_word w.Section (drop 1 i)) (statement_is_no_name i is)
    go false is e = neither_way (begins_name i) (begins_word w.Section (drop 1 i))
        (period_first (drop 1 i) (second (begins_name i) (g.begins_period (drop 1 i)) e))

-- ---- a section

section_paragraphs_sound : (depth : ℕ) → Sound (g.section_paragraphs depth) (r.section_paragraphs depth)
unfolding r.section_paragraphs
section_paragraphs_sound depth x i rest e = go (g.begins_body i) refl e
  where
    some : (x : List Paragraph) → g.body depth x i rest → g.section_paragraphs depth x i rest
    some [] s = absurd s
    some (first ∷ more) s = s

    go : (b : Bool) → g.begins_body i ≡ b → (if b then r.body depth i else Ok ([], i)) ≡ Ok (x, rest)
        → g.section_paragraphs depth x i rest
    go true is e = some x (body_sound depth x i rest e)
    go false is e =
        subst (λ y. g.section_paragraphs depth y i rest) (value e) (after e, (tests_tested g.begins_body).fails i is)

section_paragraphs_complete : (depth depth' : ℕ)
    → Complete (Deeper depth depth') (g.section_paragraphs depth') (r.section_paragraphs depth)
unfolding r.section_paragraphs
section_paragraphs_complete depth depth' [] i rest s =
    rw ((tests_tested g.begins_body).refuses i s.1) (Reached (ap (λ j. Ok ([], j)) s.0))
section_paragraphs_complete depth depth' (first ∷ more) i rest s =
    rw (body_starts depth' (first ∷ more) i rest s) (body_complete depth depth' (first ∷ more) i rest s)

section_paragraphs_shrink : (depth : ℕ) (x : List Paragraph) (i rest : List Token) → g.section_paragraphs depth x i rest
    → length rest ≤ length i
section_paragraphs_shrink depth [] i rest s = let l = ap length s.0 in omega arith
section_paragraphs_shrink depth (first ∷ more) i rest s = let l =
    body_shrinks depth (first ∷ more) i rest s in omega arith

section_sound : (depth : ℕ) → Sound (g.section depth) (r.section depth)
unfolding r.section
section_sound depth x i rest e =
    unstep (read.name i) _ e (λ given i1 is1 e1.
    unstep (read.expect w.Section i1) _ e1 (λ u i2 is2 e2.
    unstep (read.period i2) _ e2 (λ v i3 is3 e3.
    unstep (r.section_paragraphs depth i3) _ e3 (λ found i4 is4 e4.
    subst (λ y. g.section depth y i rest) (value e4) (
      i1,
      name_sound given i i1 is1,
      (
        i2,
        word_sound w.Section u i1 i2 is2,
        (i3, period_sound v i2 i3 is3, section_paragraphs_sound depth found i3 rest (last is4 e4)),
      ),
    )))))

section_complete : (depth depth' : ℕ) → Complete (Deeper depth depth') (g.section depth') (r.section depth)
unfolding r.section
section_complete depth depth' x i rest s = go x.name x.paragraphs s
  where
    go : (given : Option Name) (found : List Paragraph)
        → g.section depth' (record { name = given; paragraphs = found }) i rest
        → Answers (Deeper depth depth') (r.section depth i) (record { name = given; paragraphs = found }) rest
    go None found s = absurd s.1
    go (Some given) found (i1, name, (i2, word, (i3, period, all))) =
        step (read.name i) _ (name_complete given i i1 name)
        (step (read.expect w.Section i1) _ (word_complete w.Section tt i1 i2 word)
        (step (read.period i2) _ (period_complete tt i2 i3 period)
        (step (r.section_paragraphs depth i3) _ (section_paragraphs_complete depth depth' found i3 rest all)
        (Reached refl))))

section_shrinks : (depth : ℕ) → Shrinks (g.section depth)
section_shrinks depth x i rest (i1, name, (i2, word, (i3, period, all))) =
    let a = named_shrinks x.name i i1 name in
    let b = word_shrinks w.Section i1 i2 word in
    let c = period_shrinks i2 i3 period in
    let d = section_paragraphs_shrink depth x.paragraphs i3 rest all in omega arith

section_starts : (depth : ℕ) → Starts g.begins_section (g.section depth)
section_starts depth x i rest s = go x.name s.0 s.2.0 s.1 s.2.1
  where
    go : (given : Option Name) (i1 i2 : List Token) → g.optional_name given i i1 → parts.word w.Section i1 i2
        → g.begins_section i ≡ true
    go None i1 i2 given word = absurd given
    go (Some given) i1 i2 (first, is, tell) (next, after, kind) =
        ap g.begins_section (is ∙ ap (λ j. first ∷ j) after)
        ∙ ap (λ o. parts.is_told o && is_word w.Section next) tell
        ∙ is_kind_of w.Section next.kind kind

-- ---- sections

sections_sound : (depth : ℕ) → Sound (several (g.section depth) (lookahead g.begins_section)) (r.sections depth)
unfolding r.sections
sections_sound depth = Lists.several_sound (g.section depth) (r.section depth) (lookahead g.begins_section)
    g.begins_section (tests_tested g.begins_section) (section_sound depth)

sections_complete : (depth depth' : ℕ)
    → Complete (Deeper depth depth') (several (g.section depth') (lookahead g.begins_section)) (r.sections depth)
unfolding r.sections
sections_complete depth depth' =
    Lists.several_complete (g.section depth') (r.section depth) (lookahead g.begins_section) g.begins_section
    (tests_tested g.begins_section) (Deeper depth depth') (section_complete depth depth') (section_shrinks depth')
    (section_starts depth')

-- each section that is read has a name
named_sections : (depth : ℕ) (x : List Section) (i rest : List Token)
    → several (g.section depth) (lookahead g.begins_section) x i rest → g.sections depth x i rest
named_sections depth [] i rest s = absurd s
named_sections depth (first ∷ more) i rest s = go first.name first.paragraphs s
  where
    go : (given : Option Name) (found : List Paragraph)
        → several (g.section depth) (lookahead g.begins_section) (record { name = given; paragraphs = found } ∷ more) i
        rest
        → g.sections depth (record { name = given; paragraphs = found } ∷ more) i rest
    go None found s = absurd s.1.1
    go (Some given) found s = s

-- ---- sections after what belongs to none

After : ℕ → List Paragraph → Bool → List Section → List Token → List Token → Type 0
After depth found alone x i rest =
    (more : List Section) × (x ≡ r.outside found ∷ more) × g.more_sections depth alone more i rest

after_body_sound : (depth : ℕ) (found : List Paragraph) (x : List Section) (i rest : List Token)
    → r.after_body depth found i ≡ Ok (x, rest)
    → After depth found (g.is_alone found) x i rest
unfolding r.after_body r.sections_after After
after_body_sound depth found x i rest e = go (g.begins_section i) refl (g.is_alone found) e
  where
    follow : (more : List Section) → several (g.section depth) (lookahead g.begins_section) more i rest
        → g.more_sections depth true more i rest
    follow [] s = absurd s
    follow (one ∷ more) s = s

    go : (b : Bool) → g.begins_section i ≡ b → (alone : Bool)
        → (if b then (if alone then r.sections_after depth found i else read.refuse i)
        else Ok (r.outside found ∷ [], i)) ≡ Ok (x, rest)
        → After depth found alone x i rest
    go true is true e = unstep (r.sections depth i) _ e
        (λ more i1 is1 e1. (more, sym (value e1), follow more (sections_sound depth more i rest (last is1 e1))))
    go true is false e = cc
    go false is alone e = ([], sym (value e), (after e, (tests_tested g.begins_section).fails i is))

after_body_complete : (depth depth' : ℕ) (found : List Paragraph) (more : List Section) (i rest : List Token)
    → g.more_sections depth' (g.is_alone found) more i rest
    → Answers (Deeper depth depth') (r.after_body depth found i) (r.outside found ∷ more) rest
unfolding r.after_body r.sections_after
after_body_complete depth depth' found more i rest s = go (g.is_alone found) refl more s
  where
    go : (alone : Bool) → g.is_alone found ≡ alone → (more : List Section) → g.more_sections depth' alone more i rest
        → Answers (Deeper depth depth') (r.after_body depth found i) (r.outside found ∷ more) rest
    go alone is [] s =
        rw ((tests_tested g.begins_section).refuses i s.1) (Reached (ap (λ j. Ok (r.outside found ∷ [], j)) s.0))
    go true is (one ∷ more) s =
        rw (section_starts depth' one i s.0 s.1)
        (rw is (step (r.sections depth i) _ (sections_complete depth depth' (one ∷ more) i rest s) (Reached refl)))
    go false is (one ∷ more) s = absurd s

-- ---- all sections

pub all_sections_sound : (depth : ℕ) → Sound (g.sections depth) (r.all_sections depth)
unfolding r.all_sections r.outer_body After
all_sections_sound depth x i rest e = go (g.begins_section i) e
  where
    go : (b : Bool) → (if b then r.sections depth i else r.outer_body depth i) ≡ Ok (x, rest)
        → g.sections depth x i rest
    go true e = named_sections depth x i rest (sections_sound depth x i rest e)
    go false e =
        unstep (r.body depth i) _ e (λ found i1 is1 e1.
        let a = after_body_sound depth found x i1 rest e1 in
        subst (λ y. g.sections depth y i rest) (sym a.1) (i1, body_sound depth found i i1 is1, a.2))

pub all_sections_complete : (depth depth' : ℕ)
    → Complete (Deeper depth depth') (g.sections depth') (r.all_sections depth)
unfolding r.all_sections r.outer_body
all_sections_complete depth depth' [] i rest s = absurd s
all_sections_complete depth depth' (first ∷ more) i rest s = go first.name first.paragraphs s
  where
    go : (given : Option Name) (found : List Paragraph)
        → g.sections depth' (record { name = given; paragraphs = found } ∷ more) i rest
        → Answers (Deeper depth depth') (r.all_sections depth i) (record { name = given; paragraphs = found } ∷ more)
        rest
    go None found (i1, body, others) =
        rw (no_section i (body_starts depth' found i i1 body))
        (step (r.body depth i) _ (body_complete depth depth' found i i1 body)
        (after_body_complete depth depth' found more i1 rest others))
    go (Some given) found s =
        rw (section_starts depth' (record { name = Some given; paragraphs = found }) i s.0 s.1)
        (sections_complete depth depth' (record { name = Some given; paragraphs = found } ∷ more) i rest s)
