-- What is spelled closes each parenthesis that it opens.
use Rattle.std.proofs.Common.{◌≡◌, ℕ, zero, suc, List, [], ◌∷◌, Option, Some, None, inl, inr, refl, sym, ap, ◌∙◌}
use Rattle.tokens.specs.declared.reserved.Reserved.{Reserved}
use Rattle.tokens.specs.declared.reserved.Reserved.TheVariants as w
use Rattle.tokens.specs.declared.token.Kind.{Kind}
use Rattle.tokens.specs.declared.token.Kind.TheVariants as k
use Rattle.tokens.specs.declared.token.Token.{Token}
use Rattle.source_tree.specs.declared.name.Name.{Name}
use Rattle.source_tree.specs.declared.literal.Literal.{Literal}
use Rattle.source_tree.specs.declared.reference.QualifiedName.{QualifiedName}
use Rattle.source_tree.specs.declared.reference.Adjustment.{Adjustment}
use Rattle.source_tree.specs.declared.reference.Adjustment.TheVariants as adjustment
use Rattle.source_tree.specs.declared.reference.Subscript.{Subscript}
use Rattle.source_tree.specs.declared.reference.Subscript.TheVariants as subscript_as
use Rattle.source_tree.specs.declared.reference.Part.{Part as ItemPart}
use Rattle.source_tree.specs.declared.reference.Reference.{Reference}
use Rattle.source_tree.specs.declared.expression.Operand.{Operand}
use Rattle.source_tree.specs.declared.expression.Operand.TheVariants as operand_as
use Rattle.source_tree.specs.declared.expression.Operator.{Operator}
use Rattle.source_tree.specs.declared.expression.Expression.{Expression}
use Rattle.grammar.specs.Parts as parts
use Rattle.grammar.specs.Parts.{Part, ◌then◌, ◌or◌, absence_of, optional, lookahead, token_with, begins_telling}
use Rattle.grammar.specs.Parts.{named_by, word}
use Rattle.grammar.proofs.Looking.{none_not}
use Rattle.expressions.specs.Marks.{colon, colon_of, colon_in}
use Rattle.expressions.specs.Marks.{left_parenthesis, right_parenthesis, left_of, right_of, sign_in, sign_by, sum_in}
use Rattle.expressions.specs.Marks.{sum_by, product_in, product_by}
use Rattle.expressions.specs.Subscripts as s
use Rattle.expressions.specs.References as r
use Rattle.expressions.specs.Literals as l
use Rattle.expressions.specs.Operands as o
use Rattle.expressions.specs.Expressions as e
use Rattle.expressions.specs.Looking.{still_open, past_closing, past_parentheses}

-- as many parentheses are open after it as before it
abbrev pub Even : Part → Type 0
Even p =
    (i rest : List Token) → p i rest → (unclosed : ℕ) → past_closing i (suc unclosed) ≡ past_closing rest (suc unclosed)

-- ---- one token

-- a token that is no parenthesis
abbrev pub IsPlain : Kind → Type 0
IsPlain kind = (unclosed : ℕ) → still_open kind unclosed ≡ suc unclosed

pub plain_kind : {A : Type 0} (by : Kind → Option A) → by k.LeftParenthesis ≡ None → by k.RightParenthesis ≡ None
    → (kind : Kind) (a : A) → by kind ≡ Some a → IsPlain kind
plain_kind by no_left no_right (k.Reserved _) a e unclosed = refl
plain_kind by no_left no_right (k.Word characters) a e unclosed = refl
plain_kind by no_left no_right (k.Numeric number) a e unclosed = refl
plain_kind by no_left no_right (k.Nonnumeric bytes) a e unclosed = refl
plain_kind by no_left no_right (k.Picture characters) a e unclosed = refl
plain_kind by no_left no_right k.Period a e unclosed = refl
plain_kind by no_left no_right k.LeftParenthesis a e unclosed = absurd (none_not (sym no_left ∙ e))
plain_kind by no_left no_right k.RightParenthesis a e unclosed = absurd (none_not (sym no_right ∙ e))
plain_kind by no_left no_right k.Colon a e unclosed = refl
plain_kind by no_left no_right (k.Operator operator) a e unclosed = refl

-- what tells something of a token by its kind and place
pub plain_told : {A : Type 0} (tells : Token → Option A)
    → ((first : Token) (a : A) → tells first ≡ Some a → IsPlain first.kind)
    → (a : A) → Even (token_with tells a)
unfolding past_closing
plain_told tells plain a i rest (first, is, tell) unclosed =
    ap (λ j. past_closing j (suc unclosed)) is ∙ ap (past_closing rest) (plain first a tell unclosed)

reserved_is : (one : Reserved) (kind : Kind) → kind ≡ k.Reserved one → IsPlain kind
reserved_is one kind e unclosed = ap (λ j. still_open j unclosed) e

pub word_even : (one : Reserved) → Even (word one)
unfolding past_closing
word_even one i rest (first, is, kind) unclosed =
    ap (λ j. past_closing j (suc unclosed)) is ∙ ap (past_closing rest) (reserved_is one first.kind kind unclosed)

-- ---- parts put together

pub then_even : {p q : Part} → Even p → Even q → Even (p then q)
then_even a b i rest s unclosed = a i s.0 s.1 unclosed ∙ b s.0 rest s.2 unclosed

pub or_even : {p q : Part} → Even p → Even q → Even (p or q)
or_even a b i rest (inl s) unclosed = a i rest s unclosed
or_even a b i rest (inr s) unclosed = b i rest s unclosed

pub without_even : (p : Part) → Even (absence_of p)
without_even p i rest s unclosed = ap (λ j. past_closing j (suc unclosed)) s.0

pub optional_even : {p : Part} → Even p → Even (optional p)
optional_even {p = p} a i rest s unclosed = or_even {p = p} {q = absence_of p} a (without_even p) i rest s unclosed

module _ {A : Type 0} (p : A → Part) (begin : Part) (each : (a : A) → Even (p a)) where
  pub any_even : (all : List A) → Even (parts.any p begin all)
  any_even [] i rest s unclosed = without_even begin i rest s unclosed
  any_even (a ∷ more) i rest s unclosed = each a i s.0 s.1 unclosed ∙ any_even more s.0 rest s.2 unclosed

  pub several_even : (all : List A) → Even (parts.several p begin all)
  several_even [] i rest s unclosed = absurd s
  several_even (a ∷ more) i rest s unclosed = each a i s.0 s.1 unclosed ∙ any_even more s.0 rest s.2 unclosed

-- ---- parentheses

left_is : (kind : Kind) → left_of kind ≡ Some tt → (unclosed : ℕ) → still_open kind unclosed ≡ suc (suc unclosed)
left_is (k.Reserved _) e unclosed = absurd (none_not e)
left_is (k.Word characters) e unclosed = absurd (none_not e)
left_is (k.Numeric number) e unclosed = absurd (none_not e)
left_is (k.Nonnumeric bytes) e unclosed = absurd (none_not e)
left_is (k.Picture characters) e unclosed = absurd (none_not e)
left_is k.Period e unclosed = absurd (none_not e)
left_is k.LeftParenthesis e unclosed = refl
left_is k.RightParenthesis e unclosed = absurd (none_not e)
left_is k.Colon e unclosed = absurd (none_not e)
left_is (k.Operator operator) e unclosed = absurd (none_not e)

right_is : (kind : Kind) → right_of kind ≡ Some tt → (unclosed : ℕ) → still_open kind unclosed ≡ unclosed
right_is (k.Reserved _) e unclosed = absurd (none_not e)
right_is (k.Word characters) e unclosed = absurd (none_not e)
right_is (k.Numeric number) e unclosed = absurd (none_not e)
right_is (k.Nonnumeric bytes) e unclosed = absurd (none_not e)
right_is (k.Picture characters) e unclosed = absurd (none_not e)
right_is k.Period e unclosed = absurd (none_not e)
right_is k.LeftParenthesis e unclosed = absurd (none_not e)
right_is k.RightParenthesis e unclosed = refl
right_is k.Colon e unclosed = absurd (none_not e)
right_is (k.Operator operator) e unclosed = absurd (none_not e)

pub left_opens : (i rest : List Token) → left_parenthesis i rest → (unclosed : ℕ)
    → past_closing i (suc unclosed) ≡ past_closing rest (suc (suc unclosed))
unfolding past_closing
left_opens i rest (first, is, tell) unclosed =
    ap (λ j. past_closing j (suc unclosed)) is ∙ ap (past_closing rest) (left_is first.kind tell unclosed)

pub right_closes : (i rest : List Token) → right_parenthesis i rest → (unclosed : ℕ)
    → past_closing i (suc unclosed) ≡ past_closing rest unclosed
unfolding past_closing
right_closes i rest (first, is, tell) unclosed =
    ap (λ j. past_closing j (suc unclosed)) is ∙ ap (past_closing rest) (right_is first.kind tell unclosed)

pub enclosed_even : {p : Part} → Even p → Even (left_parenthesis then p then right_parenthesis)
enclosed_even a i rest (i1, opens, (i2, s, closes)) unclosed =
    left_opens i i1 opens unclosed ∙ a i1 i2 s (suc unclosed) ∙ right_closes i2 rest closes (suc unclosed)

none_open : (rest : List Token) → past_closing rest zero ≡ Some rest
unfolding past_closing
none_open [] = refl
none_open (first ∷ more) = refl

-- the parenthesis that closes the first is found
pub parentheses_passed : {p : Part} → Even p → (i rest : List Token)
    → (left_parenthesis then p then right_parenthesis) i rest → past_parentheses i ≡ Some rest
parentheses_passed a i rest (i1, (first, is, tell), (i2, s, closes)) =
    ap past_parentheses is ∙ a i1 i2 s zero ∙ right_closes i2 rest closes zero ∙ none_open rest

-- ---- references

name_even : (one : Name) → Even (parts.name one)
name_even one =
    plain_told parts.name_in (λ first a e. plain_kind (λ kind. named_by kind first.place) refl refl first.kind a e) one

qualifier_even : (one : Name) → Even (s.qualifier one)
qualifier_even one = then_even {p = word w.In or word w.Of} {q =
    parts.name one} (or_even {p = word w.In} {q = word w.Of} (word_even w.In) (word_even w.Of)) (name_even one)

qualified_even : (one : QualifiedName) → Even (s.qualified_name one)
qualified_even one i rest (i1, given, groups) unclosed =
    name_even one.name i i1 given unclosed
    ∙ any_even s.qualifier (lookahead s.begins_qualifier) qualifier_even one.qualifiers i1 rest groups unclosed

integer_even : (one : Rattle.source_tree.specs.declared.literal.Integer.Integer) → Even (s.integer one)
integer_even one = plain_told s.integer_in
    (λ first a e. plain_kind (λ kind. s.integer_by kind first.place) refl refl first.kind a e) one

sign_even : (one : Rattle.expressions.specs.declared.marks.PlusOrMinus.PlusOrMinus) → Even (token_with sign_in one)
sign_even one = plain_told sign_in (λ first a e. plain_kind sign_by refl refl first.kind a e) one

adjusted_even : (by : Adjustment) → Even (s.adjustment by)
adjusted_even adjustment.Nothing i rest e unclosed = ap (λ j. past_closing j (suc unclosed)) e.0
adjusted_even (adjustment.Plus n) i rest (i1, sign, integer) unclosed =
    sign_even _ i i1 sign unclosed ∙ integer_even n i1 rest integer unclosed
adjusted_even (adjustment.Minus n) i rest (i1, sign, integer) unclosed =
    sign_even _ i i1 sign unclosed ∙ integer_even n i1 rest integer unclosed

subscript_even : (one : Subscript) → Even (s.subscript one)
subscript_even (subscript_as.Literal n) i rest e unclosed = integer_even n i rest e unclosed
subscript_even (subscript_as.Item item by) i rest (i1, name, added) unclosed =
    qualified_even item i i1 name unclosed ∙ adjusted_even by i1 rest added unclosed

colon_even : Even colon
colon_even = plain_told colon_in (λ first a e. plain_kind colon_of refl refl first.kind a e) tt

length_even : (one : Option Subscript) → Even (r.length one)
length_even None i rest e unclosed = ap (λ j. past_closing j (suc unclosed)) e.0
length_even (Some one) i rest e unclosed = subscript_even one i rest e unclosed

-- what is in the parentheses of a part
abbrev within : ItemPart → Part
within part = s.subscript part.first then colon then r.length part.length

within_even : (part : ItemPart) → Even (within part)
within_even part i rest (i1, first, (i2, mark, size)) unclosed =
    subscript_even part.first i i1 first unclosed ∙ colon_even i1 i2 mark unclosed
    ∙ length_even part.length i2 rest size unclosed

behind_even : (part : Option ItemPart) → Even (r.part_behind part)
behind_even None i rest e unclosed = ap (λ j. past_closing j (suc unclosed)) e.0
behind_even (Some part) i rest (i1, left, (i2, first, (i3, mark, (i4, size, right)))) unclosed =
    enclosed_even {p = within part} (within_even part) i rest (i1, left, (i4, (i2, first, (i3, mark, size)), right))
    unclosed

numbers_even : (all : List Subscript) (part : Option ItemPart) → Even (r.numbers all part)
numbers_even [] part i rest e unclosed = behind_even part i rest e unclosed
numbers_even (one ∷ more) part i rest (i1, left, (i2, all, (i3, right, behind))) unclosed =
    enclosed_even {p = parts.several s.subscript (lookahead s.begins_subscript) (one ∷ more)}
    (several_even s.subscript (lookahead s.begins_subscript) subscript_even (one ∷ more)) i i3
    (i1, left, (i2, all, right)) unclosed
    ∙ behind_even part i3 rest behind unclosed

pub reference_even : (one : Reference) → Even (r.reference one)
reference_even one i rest (i1, item, found) unclosed =
    qualified_even one.item i i1 item unclosed ∙ numbers_even one.subscripts one.part i1 rest found unclosed

-- ---- literals

plain_even : (one : Literal) → Even (token_with l.plain_in one)
plain_even one = plain_told l.plain_in (λ first a e. plain_kind (λ kind.
    Rattle.std.specs.Option.option_map (l.literal_at first.place) (l.value_by kind)) refl refl first.kind a e) one

number_even : (one : Literal) → Even (token_with l.number_literal_in one)
number_even one = plain_told l.number_literal_in (λ first a e. plain_kind (λ kind. Rattle.std.specs.Option.option_map
    (l.literal_at first.place) (l.number_value_by kind)) refl refl first.kind a e) one

bytes_even : (one : List ℕ) → Even (token_with l.bytes_in one)
bytes_even one = plain_told l.bytes_in (λ first a e. plain_kind l.bytes_by refl refl first.kind a e) one

pub literal_even : (one : Literal) → Even (l.literal one)
literal_even one i rest (inl e) unclosed = plain_even one i rest e unclosed
literal_even one i rest (inr (bytes, is, (i1, at, (i2, all, told)))) unclosed =
    ap (λ j. past_closing j (suc unclosed)) at.0 ∙ word_even w.All i1 i2 all unclosed
    ∙ bytes_even bytes i2 rest told unclosed

-- ---- expressions

number_operand_even : (one : Operand) → Even (o.number_operand one)
number_operand_even (operand_as.Item one) i rest e unclosed = reference_even one i rest e unclosed
number_operand_even (operand_as.Literal one) i rest e unclosed = number_even one i rest e unclosed

module _ (tells : Token → Option Operator) (plain : (first : Token) (a : Operator) → tells first ≡ Some a
    → IsPlain first.kind) (lower : Expression → Part) (each : (x : Expression) → Even (lower x)) where
  further_even : (x : Operator × Expression) → Even (e.further_operand tells lower x)
  further_even x = then_even {p = token_with tells x.0} {q = lower x.1} (plain_told tells plain x.0) (each x.1)

  level_even : (x : Expression) → Even (e.level tells lower x)
  level_even x i rest (first, more, is, (i1, one, others)) unclosed =
      each first i i1 one unclosed ∙ any_even (e.further_operand tells lower) (lookahead (begins_telling tells))
      further_even more i1 rest others unclosed

sum_even : (factor : Expression → Part) → ((x : Expression) → Even (factor x)) → (x : Expression)
    → Even (e.sum factor x)
sum_even factor each =
    level_even sum_in (λ first a t. plain_kind sum_by refl refl first.kind a t) (e.product factor)
    (level_even product_in (λ first a t. plain_kind product_by refl refl first.kind a t) factor each)

pub factor_even : (depth : ℕ) (x : Expression) → Even (e.factor depth x)
factor_even zero x i rest (one, is, s) unclosed = number_operand_even one i rest s unclosed
factor_even (suc depth) x i rest (inl (one, is, s)) unclosed = number_operand_even one i rest s unclosed
factor_even (suc depth) x i rest (inr (inl (sign, inner, is, (i1, told, s)))) unclosed =
    sign_even sign i i1 told unclosed ∙ factor_even depth inner i1 rest s unclosed
factor_even (suc depth) x i rest (inr (inr s)) unclosed =
    enclosed_even {p = e.sum (e.factor depth) x} (sum_even (e.factor depth) (factor_even depth) x) i rest s unclosed

pub expression_even : (depth : ℕ) (x : Expression) → Even (e.expression depth x)
expression_even depth = sum_even (e.factor depth) (factor_even depth)
