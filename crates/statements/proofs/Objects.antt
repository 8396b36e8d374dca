-- No selection object begins with OTHER, so that WHEN OTHER is no WHEN with objects.
use Rattle.std.proofs.Common.{◌≡◌, ℕ, zero, suc, true, false, List, ◌∷◌, length, refl, ap, ◌∙◌, subst, arith}
use Rattle.std.specs.Prelude.{Err}
use Rattle.tokens.specs.declared.reserved.Reserved.{Reserved}
use Rattle.tokens.specs.declared.reserved.Reserved.TheVariants as w
use Rattle.tokens.specs.declared.token.Kind.TheVariants as k
use Rattle.tokens.specs.declared.token.Token.{Token}
use Rattle.tokens.specs.Reserved.{same_word}
use Rattle.source_tree.specs.declared.condition.Side.{Side}
use Rattle.source_tree.specs.declared.condition.Condition.{Condition}
use Rattle.source_tree.specs.declared.evaluate_statement.Choice.{Choice}
use Rattle.source_tree.specs.declared.evaluate_statement.Choice.TheVariants as choice_as
use Rattle.source_tree.specs.declared.evaluate_statement.Object.{Object}
use Rattle.grammar.specs.declared.fault.Halt.TheVariants.{Unexpected, TooDeep}
use Rattle.grammar.specs.Parts.{word}
use Rattle.grammar.specs.Reading.{Outcome, one_token}
use Rattle.grammar.proofs.Outcomes.{Answers, Reached, Halts, Deeper}
use Rattle.grammar.proofs.Looking.{true_not_false, word_begins, begins_no_other}
use Rattle.expressions.specs.Literals.{literal_reader}
use Rattle.conditions.specs.Conditions as c
use Rattle.conditions.specs.Evaluate.{choice, object}
use Rattle.conditions.proofs.Exact.Sides.{side_complete}
use Rattle.conditions.proofs.Exact.Conditions.{condition_complete}

-- ---- reading where OTHER stands

-- a token with its word made OTHER
abbrev other_at : Token → Token
other_at one = record { kind = k.Reserved w.Other; span = one.span; place = one.place }

side_refused : (depth : ℕ) (one : Token) (more : List Token)
    → c.side_reader depth (other_at one ∷ more) ≡ Err (Unexpected (suc (length more)))
unfolding c.side_reader c.literal_side_reader literal_reader one_token same_word
side_refused depth one more = refl

condition_refused : (depth : ℕ) (one : Token) (more : List Token)
    → c.condition_reader depth (other_at one ∷ more) ≡ Err (Unexpected (suc (length more)))
unfolding c.condition_reader c.disjunction_reader c.conjunction_reader c.level_reader c.simple_reader c.plain_reader
    c.compared_reader c.side_reader c.literal_side_reader literal_reader one_token same_word
condition_refused zero one more = refl
condition_refused (suc depth) one more = refl

-- ---- so nothing that is read begins with it

not_refused : {A : Type 0} (depth left : ℕ) (reading : Outcome A) {a : A} {rest : List Token}
    → Answers (Deeper depth depth) reading a rest → reading ≡ Err (Unexpected left) → ⊥
not_refused depth left reading (Reached e) is = cc
not_refused depth left reading (Halts (TooDeep behind) below e) is = absurd (omega arith)
not_refused depth left reading (Halts (Unexpected behind) none e) is = none

other_first : (i after : List Token) (s : word w.Other i after) → i ≡ other_at s.0 ∷ after
other_first i after (first, is, kind) =
    is ∙ ap (λ one. record { kind = one; span = first.span; place = first.place } ∷ after) kind

side_no_other : (depth : ℕ) (one : Side) (i rest after : List Token) → c.side depth one i rest → word w.Other i after
    → ⊥
side_no_other depth one i rest after s other =
    not_refused depth (suc (length after)) (c.side_reader depth i) (side_complete depth depth one i rest s)
    (ap (c.side_reader depth) (other_first i after other) ∙ side_refused depth other.0 after)

condition_no_other : (depth : ℕ) (one : Condition) (i rest after : List Token) → c.condition depth one i rest
    → word w.Other i after → ⊥
condition_no_other depth one i rest after s other =
    not_refused depth (suc (length after)) (c.condition_reader depth i) (condition_complete depth depth one i rest s)
    (ap (c.condition_reader depth) (other_first i after other) ∙ condition_refused depth other.0 after)

-- another word is not OTHER
word_no_other : (one : Reserved) → same_word w.Other one ≡ false → (i rest after : List Token) → word one i rest
    → word w.Other i after → ⊥
word_no_other one differ i rest after s other =
    true_not_false _ (begins_no_other w.Other one differ i after other) (word_begins one i rest s)

choice_no_other : (depth : ℕ) (one : Choice) (i rest after : List Token) → choice depth one i rest
    → word w.Other i after → ⊥
unfolding same_word
choice_no_other depth choice_as.Any i rest after s other = word_no_other w.Any refl i rest after s other
choice_no_other depth (choice_as.Value true first last) i rest after (i1, negated, s) other =
    word_no_other w.Not refl i i1 after negated other
choice_no_other depth (choice_as.Value false first last) i rest after (i1, negated, (i2, (i3, one, alone), to)) other =
    side_no_other depth first i1 i3 after one (subst (λ j. word w.Other j after) negated.0 other)
choice_no_other depth (choice_as.Condition one) i rest after s other =
    condition_no_other depth one i rest after s.0 other
choice_no_other depth (choice_as.Truth true) i rest after s other = word_no_other w.True refl i rest after s other
choice_no_other depth (choice_as.Truth false) i rest after s other = word_no_other w.False refl i rest after s other

pub object_no_other : (depth : ℕ) (one : Object) (i rest after : List Token) → object depth one i rest
    → word w.Other i after → ⊥
object_no_other depth one i rest after (i1, at, s) other =
    choice_no_other depth one.choice i1 rest after s (subst (λ j. word w.Other j after) at.0 other)
