-- Sides of a relation: what is read is spelled, and what is spelled is read; and how sides and references begin.
use Rattle.std.proofs.Common.{◌≡◌, ℕ, Bool, true, false, if◌then◌else◌, List, [], ◌∷◌, Option, Some, None, Ok, inl, inr}
use Rattle.std.proofs.Common.{refl, sym, ap, ◌∙◌, subst}
use Rattle.std.specs.Prelude.{◌||◌, not}
use Rattle.std.specs.Option.{option_map}
use Rattle.tokens.specs.declared.reserved.Reserved.{Reserved}
use Rattle.tokens.specs.declared.reserved.Reserved.TheVariants as w
use Rattle.tokens.specs.declared.token.Kind.{Kind}
use Rattle.tokens.specs.declared.token.Kind.TheVariants as k
use Rattle.tokens.specs.declared.token.Token.{Token}
use Rattle.lexical.specs.declared.place.Place.{Place}
use Rattle.source_tree.specs.declared.literal.Figurative.{Figurative}
use Rattle.source_tree.specs.declared.literal.Figurative.TheVariants as figurative
use Rattle.source_tree.specs.declared.literal.LiteralValue.{LiteralValue}
use Rattle.source_tree.specs.declared.literal.LiteralValue.TheVariants as value_as
use Rattle.source_tree.specs.declared.literal.Literal.{Literal}
use Rattle.source_tree.specs.declared.condition.Side.{Side}
use Rattle.source_tree.specs.declared.condition.Side.TheVariants as side_as
use Rattle.grammar.specs.Parts.{is_told, named_by, begins_name}
use Rattle.tokens.specs.Reserved.{same_word}
use Rattle.grammar.specs.Reading.{is_kind, begins_word}
use Rattle.grammar.proofs.Outcomes.{Reached, Deeper, step, unstep, value, last}
use Rattle.grammar.proofs.Looking.{some_is, none_not, same_words, true_not_false, begins_no_other}
use Rattle.grammar.proofs.Lists.{Sound, Complete, Shrinks}
use Rattle.expressions.specs.Marks.{left_of, sign_by, begins_left}
use Rattle.expressions.specs.Literals.{literal, literal_reader, value_by, figurative_of, zero_in, number_value_by}
use Rattle.expressions.specs.Literals.{literal_at}
use Rattle.expressions.specs.Expressions.{expression_reader}
use Rattle.expressions.specs.Looking.{begins_expression}
use Rattle.expressions.proofs.Exact.Balance.{Even, literal_even, expression_even}
use Rattle.expressions.proofs.Exact.Leads.{expression_starts}
use Rattle.expressions.proofs.Exact.Literals.{literal_sound, literal_complete, literal_shrinks}
use Rattle.expressions.proofs.Exact.Expressions.{expression_sound, expression_complete, expression_shrinks}
use Rattle.conditions.specs.Conditions as g
use Rattle.conditions.specs.Conditions.{is_text_literal}

-- ---- how an expression and a literal begin

-- a number, by the figurative constant that a word is
abbrev number_told : Option Figurative → Place → Bool
number_told o place =
    is_told (option_map (literal_at place) (if zero_in o then Some (value_as.Figurative figurative.Zero) else None))

-- whether a token of this kind begins an expression
abbrev opens : Kind → Place → Bool
opens kind place = is_told (named_by kind place) || ((is_told (left_of kind) || is_told (sign_by kind))
    || is_told (option_map (literal_at place) (number_value_by kind)))

constant_opens : (o : Option Figurative) (place : Place) (v : LiteralValue) → option_map value_as.Figurative o ≡ Some v
    → number_told o place ≡ not (is_text_literal v)
constant_opens None place v e = absurd (none_not e)
constant_opens (Some figurative.Zero) place v e = ap (λ y. not (is_text_literal y)) (some_is e)
constant_opens (Some figurative.Space) place v e = ap (λ y. not (is_text_literal y)) (some_is e)
constant_opens (Some figurative.HighValue) place v e = ap (λ y. not (is_text_literal y)) (some_is e)
constant_opens (Some figurative.LowValue) place v e = ap (λ y. not (is_text_literal y)) (some_is e)
constant_opens (Some figurative.Quote) place v e = ap (λ y. not (is_text_literal y)) (some_is e)

value_opens : (kind : Kind) (place : Place) (v : LiteralValue) → value_by kind ≡ Some v
    → opens kind place ≡ not (is_text_literal v)
value_opens (k.Reserved one) place v e = constant_opens (figurative_of one) place v e
value_opens (k.Word characters) place v e = absurd (none_not e)
value_opens (k.Numeric number) place v e = ap (λ y. not (is_text_literal y)) (some_is e)
value_opens (k.Nonnumeric bytes) place v e = ap (λ y. not (is_text_literal y)) (some_is e)
value_opens (k.Picture characters) place v e = absurd (none_not e)
value_opens k.Period place v e = absurd (none_not e)
value_opens k.LeftParenthesis place v e = absurd (none_not e)
value_opens k.RightParenthesis place v e = absurd (none_not e)
value_opens k.Colon place v e = absurd (none_not e)
value_opens (k.Operator operator) place v e = absurd (none_not e)

plain_value : (o : Option LiteralValue) (place : Place) (x : Literal) → option_map (literal_at place) o ≡ Some x
    → o ≡ Some x.value
plain_value None place x e = absurd (none_not e)
plain_value (Some v) place x e = ap (λ y. Some y.value) (some_is e)

literal_begins : (x : Literal) (i rest : List Token) → literal x i rest
    → begins_expression i ≡ not (is_text_literal x.value)
literal_begins x i rest (inl (first, is, tell)) =
    ap begins_expression is
    ∙ value_opens first.kind first.place x.value (plain_value (value_by first.kind) first.place x tell)
literal_begins x i rest (inr (bytes, is, (i1, at, (i2, (first, all, kind), told)))) =
    ap begins_expression (at.0 ∙ all) ∙ ap (λ y. opens y first.place) kind
    ∙ sym (ap (λ y. not (is_text_literal y.value)) is)

not_true : (b : Bool) → b ≡ true → not b ≡ false
not_true b e = ap not e

not_false : (b : Bool) → not b ≡ false → b ≡ true
not_false true e = refl
not_false false e = cc

pub text_begins : (x : Literal) (i rest : List Token) → is_text_literal x.value ≡ true → literal x i rest
    → begins_expression i ≡ false
text_begins x i rest text s = literal_begins x i rest s ∙ not_true (is_text_literal x.value) text

-- ---- sides

pub side_sound : (depth : ℕ) → Sound (g.side depth) (g.side_reader depth)
unfolding g.side_reader g.expression_side_reader g.literal_side_reader
side_sound depth x i rest e = go (begins_expression i) refl e
  where
    go : (b : Bool) → begins_expression i ≡ b
        → (if b then g.expression_side_reader depth i else g.literal_side_reader i) ≡ Ok (x, rest)
        → g.side depth x i rest
    go true is e = unstep (expression_reader depth i) _ e (λ one i1 is1 e1.
        subst (λ y. g.side depth y i rest) (value e1) (expression_sound depth one i rest (last is1 e1)))
    go false is e =
        unstep (literal_reader i) _ e (λ one i1 is1 e1.
        let s = literal_sound one i rest (last is1 e1) in
        subst (λ y. g.side depth y i rest) (value e1)
        (not_false (is_text_literal one.value) (sym (literal_begins one i rest s) ∙ is), s))

pub side_complete : (depth depth' : ℕ) → Complete (Deeper depth depth') (g.side depth') (g.side_reader depth)
unfolding g.side_reader g.expression_side_reader g.literal_side_reader
side_complete depth depth' (side_as.Expression one) i rest s =
    rw (expression_starts depth' one i rest s)
    (step (expression_reader depth i) _ (expression_complete depth depth' one i rest s) (Reached refl))
side_complete depth depth' (side_as.Literal one) i rest (text, s) =
    rw (text_begins one i rest text s)
    (step (literal_reader i) _ (literal_complete {Allowed = Deeper depth depth'} one i rest s) (Reached refl))

pub side_shrinks : (depth : ℕ) → Shrinks (g.side depth)
side_shrinks depth (side_as.Expression one) i rest s = expression_shrinks depth one i rest s
side_shrinks depth (side_as.Literal one) i rest (text, s) = literal_shrinks one i rest s

pub side_even : (depth : ℕ) (x : Side) → Even (g.side depth x)
side_even depth (side_as.Expression one) i rest s n = expression_even depth one i rest s n
side_even depth (side_as.Literal one) i rest (text, s) n = literal_even one i rest s n

-- ---- none begins with a word that is no constant

-- no figurative constant, and not ALL
pub record OpensNone (word : Reserved) : Type 0 where
  pub no_constant : figurative_of word ≡ None
  pub no_all : same_word w.All word ≡ false

constant_opens_none : (o : Option Figurative) → o ≡ None → (place : Place) → number_told o place ≡ false
constant_opens_none None e place = refl
constant_opens_none (Some one) e place = absurd (none_not (sym e))

module _ (word : Reserved) (none : OpensNone word) where
  is_no_constant : (one : Reserved) → same_word one word ≡ true → figurative_of one ≡ None
  is_no_constant one is = ap figurative_of (same_words word one is) ∙ none.no_constant

  word_no_word : (one : Reserved) (place : Place) → opens (k.Reserved one) place ≡ true
      → is_kind word (k.Reserved one) ≡ false
  word_no_word one place e = go (same_word one word) refl
    where
      go : (b : Bool) → same_word one word ≡ b → b ≡ false
      go true is = absurd (true_not_false (opens (k.Reserved one) place)
          (constant_opens_none (figurative_of one) (is_no_constant one is) place) e)
      go false is = refl

  kind_no_word : (kind : Kind) (place : Place) → opens kind place ≡ true → is_kind word kind ≡ false
  kind_no_word (k.Reserved one) place e = word_no_word one place e
  kind_no_word (k.Word characters) place e = refl
  kind_no_word (k.Numeric number) place e = refl
  kind_no_word (k.Nonnumeric bytes) place e = refl
  kind_no_word (k.Picture characters) place e = refl
  kind_no_word k.Period place e = refl
  kind_no_word k.LeftParenthesis place e = refl
  kind_no_word k.RightParenthesis place e = refl
  kind_no_word k.Colon place e = refl
  kind_no_word (k.Operator operator) place e = refl

  pub expression_no_word : (i : List Token) → begins_expression i ≡ true → begins_word word i ≡ false
  expression_no_word [] e = refl
  expression_no_word (first ∷ more) e = kind_no_word first.kind first.place e

  pub name_no_word : (i : List Token) → begins_name i ≡ true → begins_word word i ≡ false
  name_no_word i e = expression_no_word i (go (begins_name i) _ e)
    where
      go : (b c : Bool) → b ≡ true → (b || c) ≡ true
      go true c e = refl
      go false c e = cc

  value_no_word : (kind : Kind) (v : LiteralValue) → value_by kind ≡ Some v → is_kind word kind ≡ false
  value_no_word (k.Reserved one) v e = go (same_word one word) refl
    where
      go : (b : Bool) → same_word one word ≡ b → b ≡ false
      go true is = absurd (none_not (sym (ap (λ o. option_map value_as.Figurative o) (is_no_constant one is)) ∙ e))
      go false is = refl
  value_no_word (k.Word characters) v e = refl
  value_no_word (k.Numeric number) v e = refl
  value_no_word (k.Nonnumeric bytes) v e = refl
  value_no_word (k.Picture characters) v e = refl
  value_no_word k.Period v e = refl
  value_no_word k.LeftParenthesis v e = refl
  value_no_word k.RightParenthesis v e = refl
  value_no_word k.Colon v e = refl
  value_no_word (k.Operator operator) v e = refl

  literal_no_word : (x : Literal) (i rest : List Token) → literal x i rest → begins_word word i ≡ false
  literal_no_word x i rest (inl (first, is, tell)) =
      ap (begins_word word) is ∙ value_no_word first.kind x.value (plain_value (value_by first.kind) first.place x tell)
  literal_no_word x i rest (inr (bytes, is, (i1, at, (i2, all, told)))) =
      ap (begins_word word) at.0 ∙ begins_no_other w.All word none.no_all i1 i2 all

  pub side_no_word : (depth : ℕ) (x : Side) (i rest : List Token) → g.side depth x i rest → begins_word word i ≡ false
  side_no_word depth (side_as.Expression one) i rest s = expression_no_word i (expression_starts depth one i rest s)
  side_no_word depth (side_as.Literal one) i rest (text, s) = literal_no_word one i rest s

pub not_opens_none : OpensNone w.Not
unfolding same_word
not_opens_none = record { no_constant = refl; no_all = refl }

-- ---- a text begins with no name and no parenthesis

first_of_both : (a b : Bool) → (a || b) ≡ false → (a ≡ false) × (b ≡ false)
first_of_both true b e = cc
first_of_both false b e = (refl, e)

pub text_opens : (x : Literal) (i rest : List Token) → is_text_literal x.value ≡ true → literal x i rest
    → (begins_name i ≡ false) × (begins_left i ≡ false)
text_opens x i rest text s =
    let a = first_of_both _ _ (text_begins x i rest text s) in
    let b = first_of_both _ _ a.1 in
    let c = first_of_both _ _ b.0 in (a.0, c.0)
