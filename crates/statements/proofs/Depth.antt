-- Statements in one another, to a depth, and sentences.
use Rattle.std.proofs.Common.{ℕ, zero, suc, length, refl, subst, arith}
use Rattle.grammar.specs.Reading as read
use Rattle.grammar.specs.Reading.{Outcome, Parser}
use Rattle.grammar.specs.declared.fault.Halt.TheVariants.{TooDeep}
use Rattle.grammar.specs.Parts.{lookahead}
use Rattle.grammar.proofs.Outcomes.{Reached, Halts, Deeper, allow, one_deeper, step, unstep, value, last}
use Rattle.grammar.proofs.Lists
use Rattle.grammar.proofs.Lists.{Sound, Complete, Shrinks, Starts}
use Rattle.grammar.proofs.Parts.{period_sound, period_complete, period_shrinks}
use Rattle.expressions.proofs.Exact.Expressions.{expression_complete}
use Rattle.conditions.proofs.Exact.Conditions.{condition_complete}
use Rattle.conditions.proofs.Exact.Evaluate.{subject_complete, object_complete}
use Rattle.statements.specs.Spelling as g
use Rattle.statements.specs.Verbs.{begins_statement}
use Rattle.statements.specs.Reading as r
use Rattle.statements.proofs.StatementLists.{statements_shrink, statements_sound, statements_complete}
use Rattle.statements.proofs.Lines.{line_shrinks, line_starts, line_sound, line_complete}

statement_shrinks : (depth : ℕ) → Shrinks (g.statement depth)
statement_shrinks zero x i rest s = absurd s
statement_shrinks (suc depth) x i rest s = line_shrinks depth (g.statement depth) (statement_shrinks depth) x i rest s

statement_starts : (depth : ℕ) → Starts begins_statement (g.statement depth)
statement_starts zero x i rest s = absurd s
statement_starts (suc depth) x i rest s = line_starts depth (g.statement depth) x i rest s

statement_sound : (depth : ℕ) → Sound (g.statement depth) (r.statement depth)
unfolding r.statement
statement_sound zero x i rest e = cc
statement_sound (suc depth) x i rest e =
    line_sound depth (g.statement depth) (r.statement depth) (statement_sound depth) x i rest e

-- Reading to a depth answers what is spelled to a greater one, or that it nests too deep.
statement_complete : (depth depth' : ℕ) → Complete (Deeper depth depth') (g.statement depth') (r.statement depth)
unfolding r.statement
statement_complete depth zero x i rest s = absurd s
statement_complete zero (suc n) x i rest s = Halts (TooDeep (length i)) (omega arith) refl
statement_complete (suc depth) (suc n) x i rest s =
    line_complete (Deeper (suc depth) (suc n)) depth n
    (λ y j after inner. allow (one_deeper depth n) (expression_complete depth n y j after inner))
    (λ y j after inner. allow (one_deeper depth n) (condition_complete depth n y j after inner))
    (λ y j after inner. allow (one_deeper depth n) (subject_complete depth n y j after inner))
    (λ y j after inner. allow (one_deeper depth n) (object_complete depth n y j after inner)) (g.statement n)
    (r.statement depth)
    (λ y j after inner. allow (one_deeper depth n) (statement_complete depth n y j after inner)) (statement_shrinks n)
    (statement_starts n) x i rest s

-- ---- sentences

pub sentence_sound : (depth : ℕ) → Sound (g.sentence depth) (r.sentence depth)
unfolding r.sentence
sentence_sound depth x i rest e =
    unstep (r.statements (r.statement depth) i) _ e (λ found i1 is1 e1.
    unstep (read.period i1) _ e1 (λ u i2 is2 e2.
    subst (λ y. g.sentence depth y i rest) (value e2) (
      i1,
      statements_sound (g.statement depth) (r.statement depth) (statement_sound depth) found i i1 is1,
      period_sound u i1 rest (last is2 e2),
    )))

pub sentence_complete : (depth depth' : ℕ) → Complete (Deeper depth depth') (g.sentence depth') (r.sentence depth)
unfolding r.sentence
sentence_complete depth depth' x i rest s =
    step (r.statements (r.statement depth) i)
    _ (statements_complete (Deeper depth depth') (g.statement depth') (r.statement depth)
    (statement_complete depth depth') (statement_shrinks depth') (statement_starts depth') x.statements i s.0 s.1)
    (step (read.period s.0) _ (period_complete tt s.0 rest s.2) (Reached refl))

pub sentence_shrinks : (depth : ℕ) → Shrinks (g.sentence depth)
sentence_shrinks depth x i rest s =
    let a = statements_shrink (g.statement depth) (statement_shrinks depth) x.statements i s.0 s.1 in let b =
    period_shrinks s.0 rest s.2 in omega arith

pub sentence_starts : (depth : ℕ) → Starts begins_statement (g.sentence depth)
sentence_starts depth x i rest s = Lists.several_starts (g.statement depth) (lookahead begins_statement)
    begins_statement (statement_starts depth) x.statements i s.0 s.1
