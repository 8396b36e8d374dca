-- Worked examples: tokens of conditions, selection subjects and selection objects, and what reading them gives.
use Rattle.std.proofs.Common.{◌≡◌, ℕ, true, false, [], ◌∷◌, Some, None, refl}
use Rattle.std.specs.Prelude.{Ok, Err}
use Rattle.tokens.specs.declared.reserved.Reserved.{Reserved}
use Rattle.tokens.specs.declared.reserved.Reserved.TheVariants as w
use Rattle.tokens.specs.declared.token.Kind.{Kind}
use Rattle.tokens.specs.declared.token.Kind.TheVariants as k
use Rattle.tokens.specs.declared.token.Token.{Token}
use Rattle.tokens.specs.declared.token.Operator.TheVariants as operator
use Rattle.lexical.specs.declared.place.Place.{Place}
use Rattle.source_tree.specs.declared.reference.Reference.{Reference}
use Rattle.source_tree.specs.declared.expression.Operand.TheVariants as operand
use Rattle.source_tree.specs.declared.expression.Expression.TheVariants as expression
use Rattle.source_tree.specs.declared.condition.Relation.TheVariants as relation
use Rattle.source_tree.specs.declared.condition.Class.TheVariants as class
use Rattle.source_tree.specs.declared.condition.Side.{Side}
use Rattle.source_tree.specs.declared.condition.Side.TheVariants as side
use Rattle.source_tree.specs.declared.condition.Condition.{Condition}
use Rattle.source_tree.specs.declared.condition.Condition.TheVariants as c
use Rattle.source_tree.specs.declared.evaluate_statement.Subject.TheVariants as subject
use Rattle.source_tree.specs.declared.evaluate_statement.Choice.{Choice}
use Rattle.source_tree.specs.declared.evaluate_statement.Choice.TheVariants as choice
use Rattle.source_tree.specs.declared.evaluate_statement.Object.{Object}
use Rattle.grammar.specs.declared.fault.Halt.TheVariants.{TooDeep}
use Rattle.tokens.specs.Reserved.{same_word}
use Rattle.grammar.specs.Reading as read
use Rattle.expressions.specs.Subscripts as s
use Rattle.expressions.specs.References as r
use Rattle.expressions.specs.Operands as o
use Rattle.expressions.specs.Literals as l
use Rattle.expressions.specs.Expressions as e
use Rattle.expressions.specs.Looking as looking
use Rattle.conditions.specs.Tests as t
use Rattle.conditions.specs.Conditions as g
use Rattle.conditions.specs.Conditions.{condition_reader}
use Rattle.conditions.specs.Evaluate as v
use Rattle.conditions.specs.Evaluate.{subject_reader, object_reader}

abbrev here : Place
here = record { line = 1; column = 12 }

-- a token; where it stands is of no account here
abbrev at : Kind → Token
at kind = record { kind = kind; span = record { start = 0; end = 0 }; place = here }

abbrev word : Reserved → Token
word one = at (k.Reserved one)

-- names of one letter
abbrev named : ℕ → Token
named letter = at (k.Word (letter ∷ []))

abbrev item : ℕ → Reference
item letter = record {
  item = record { name = record { characters = letter ∷ []; place = here }; qualifiers = [] };
  subscripts = [];
  part = None;
}

abbrev name : ℕ → Condition
name letter = c.Name (item letter)

abbrev value : ℕ → Side
value letter = side.Expression (expression.Operand (operand.Item (item letter)))

abbrev equal : Token
equal = at (k.Operator operator.Equal)

-- every step of reading, so that a condition's tree is computed
unfoldable computing : Unit {0}
unfolding same_word read.after_word read.past_word read.expect read.skip read.presence_reader read.one_token read.name
    read.several_from read.several read.any s.qualifier_reader s.qualified_reader s.integer_reader s.subscript_reader
    r.some_length_reader r.length_reader r.part_from_reader r.some_part_reader r.part_behind_reader r.item_part_reader
    r.subscripted_reader r.after_number_reader r.enclosed_numbers_reader r.after_name_reader r.reference_reader
    o.item_reader o.number_literal_reader
    o.number_operand_reader l.literal_reader l.all_literal_reader e.further_operand_reader e.level_reader
    e.product_reader e.sum_reader e.plain_reader e.signed_reader e.enclosed_reader e.nested_reader e.factor_reader
    e.expression_reader looking.past_closing t.or_equal_phrase_reader t.or_equal_reader t.order_reader t.equal_reader
    t.asked_reader g.expression_side_reader g.literal_side_reader g.side_reader g.named_reader g.class_reader
    g.relation_reader g.compared_reader g.by_reference_reader g.plain_reader g.further_condition_reader g.level_reader
    g.conjunction_reader g.disjunction_reader g.negation_reader g.enclosed_reader g.nested_reader g.simple_reader
    g.condition_reader read.here v.alone_reader v.truth_reader v.subject_truth_reader v.subject_condition_reader
    v.subject_asked_reader v.subject_reader v.last_reader v.choice_any_reader v.choice_truth_reader
    v.choice_condition_reader v.choice_value_reader v.choice_asked_reader v.choice_reader v.object_reader
computing = tt

-- A OR B AND C: AND before OR, and nothing of the depth
and_before_or : condition_reader 0 (named 65 ∷ word w.Or ∷ named 66 ∷ word w.And ∷ named 67 ∷ [])
    ≡ Ok (c.Any (name 65 ∷ c.All (name 66 ∷ name 67 ∷ []) ∷ []), [])
unfolding computing
and_before_or = refl

-- NOT A AND B: NOT before AND
not_before_and : condition_reader 1 (word w.Not ∷ named 65 ∷ word w.And ∷ named 66 ∷ [])
    ≡ Ok (c.All (c.Not (name 65) ∷ name 66 ∷ []), [])
unfolding computing
not_before_and = refl

-- A IS NOT EQUAL TO B
not_equal : condition_reader 0 (named 65 ∷ word w.Is ∷ word w.Not ∷ word w.Equal ∷ word w.To ∷ named 66 ∷ [])
    ≡ Ok (c.Relation (value 65) relation.NotEqual (value 66), [])
unfolding computing
not_equal = refl

-- ( A ), a condition name; ( A ) = B, a relation
name_in_parentheses : condition_reader 1 (at k.LeftParenthesis ∷ named 65 ∷ at k.RightParenthesis ∷ [])
    ≡ Ok (name 65, [])
unfolding computing
name_in_parentheses = refl

operand_in_parentheses : condition_reader 1 (at k.LeftParenthesis ∷ named 65 ∷ at k.RightParenthesis ∷ equal ∷ named 66
    ∷ []) ≡ Ok (c.Relation (value 65) relation.Equal (value 66), [])
unfolding computing
operand_in_parentheses = refl

-- A NOT ON: the phrase after NOT is left
phrase_is_left : condition_reader 0 (named 65 ∷ word w.Not ∷ word w.On ∷ []) ≡ Ok (name 65, word w.Not ∷ word w.On ∷ [])
unfolding computing
phrase_is_left = refl

-- NOT ( A ), one level too deep at the parenthesis
too_deep : condition_reader 1 (word w.Not ∷ at k.LeftParenthesis ∷ named 65 ∷ at k.RightParenthesis ∷ [])
    ≡ Err (TooDeep 3)
unfolding computing
too_deep = refl

-- A IS NUMERIC
of_class : condition_reader 0 (named 65 ∷ word w.Is ∷ word w.Numeric ∷ [])
    ≡ Ok (c.Class (item 65) false class.Numeric, [])
unfolding computing
of_class = refl

-- ---- selection subjects and objects

abbrev chosen : Choice → Object
chosen one = record { place = here; choice = one }

-- ( A ), a reference alone
subject_in_parentheses : subject_reader 1 (at k.LeftParenthesis ∷ named 65 ∷ at k.RightParenthesis ∷ word w.When ∷ [])
    ≡ Ok (subject.Value (value 65), word w.When ∷ [])
unfolding computing
subject_in_parentheses = refl

-- NOT A, a condition as a subject, and as an object a value
denied_subject : subject_reader 1 (word w.Not ∷ named 65 ∷ []) ≡ Ok (subject.Condition (c.Not (name 65)), [])
unfolding computing
denied_subject = refl

denied_object : object_reader 0 (word w.Not ∷ named 65 ∷ []) ≡ Ok (chosen (choice.Value true (value 65) None), [])
unfolding computing
denied_object = refl

-- NOT A = B, a condition
denied_relation : object_reader 1 (word w.Not ∷ named 65 ∷ equal ∷ named 66 ∷ [])
    ≡ Ok (chosen (choice.Condition (c.Not (c.Relation (value 65) relation.Equal (value 66)))), [])
unfolding computing
denied_relation = refl

-- A AND B
conjunction : object_reader 0 (named 65 ∷ word w.And ∷ named 66 ∷ [])
    ≡ Ok (chosen (choice.Condition (c.All (name 65 ∷ name 66 ∷ []))), [])
unfolding computing
conjunction = refl

-- NOT A THRU B
range : object_reader 0 (word w.Not ∷ named 65 ∷ word w.Thru ∷ named 66 ∷ [])
    ≡ Ok (chosen (choice.Value true (value 65) (Some (value 66))), [])
unfolding computing
range = refl

-- ( NOT A ): a condition, since no value stands
denied_in_parentheses : object_reader 2 (at k.LeftParenthesis ∷ word w.Not ∷ named 65 ∷ at k.RightParenthesis ∷ [])
    ≡ Ok (chosen (choice.Condition (c.Not (name 65))), [])
unfolding computing
denied_in_parentheses = refl

-- ( A ), one level too deep
subject_too_deep : subject_reader 0 (at k.LeftParenthesis ∷ named 65 ∷ at k.RightParenthesis ∷ []) ≡ Err (TooDeep 3)
unfolding computing
subject_too_deep = refl

-- FALSE, ANY
false_subject : subject_reader 0 (word w.False ∷ []) ≡ Ok (subject.Truth false, [])
unfolding computing
false_subject = refl

any_object : object_reader 0 (word w.Any ∷ []) ≡ Ok (chosen choice.Any, [])
unfolding computing
any_object = refl
