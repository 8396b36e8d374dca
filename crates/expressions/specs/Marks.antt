-- Parentheses, the colon and arithmetic operators, each a token that a value names.
use Rattle.std.specs.Prelude.{Option, None, Some, List, Bool}
use Rattle.tokens.specs.declared.token.Kind.{Kind}
use Rattle.tokens.specs.declared.token.Kind.TheVariants as k
use Rattle.tokens.specs.declared.token.Token.{Token}
use Rattle.tokens.specs.declared.token.Operator.{Operator as Written}
use Rattle.tokens.specs.declared.token.Operator.TheVariants as written
use Rattle.source_tree.specs.declared.expression.Operator.{Operator}
use Rattle.source_tree.specs.declared.expression.Operator.TheVariants.{Add, Subtract, Multiply, Divide}
use Rattle.grammar.specs.Parts.{Part, token_with, begins_telling}
use Rattle.expressions.specs.declared.marks.PlusOrMinus.{PlusOrMinus}
use Rattle.expressions.specs.declared.marks.PlusOrMinus.TheVariants.{Plus, Minus}

abbrev pub left_of : Kind → Option (Unit {0})
left_of k.LeftParenthesis = Some tt
left_of _ = None

abbrev pub left_in : Token → Option (Unit {0})
left_in one = left_of one.kind

abbrev pub right_of : Kind → Option (Unit {0})
right_of k.RightParenthesis = Some tt
right_of _ = None

abbrev pub right_in : Token → Option (Unit {0})
right_in one = right_of one.kind

abbrev pub colon_of : Kind → Option (Unit {0})
colon_of k.Colon = Some tt
colon_of _ = None

abbrev pub colon_in : Token → Option (Unit {0})
colon_in one = colon_of one.kind

abbrev pub left_parenthesis : Part
left_parenthesis = token_with left_in tt

abbrev pub right_parenthesis : Part
right_parenthesis = token_with right_in tt

abbrev pub colon : Part
colon = token_with colon_in tt

abbrev pub sign_of : Written → Option PlusOrMinus
sign_of written.Plus = Some Plus
sign_of written.Minus = Some Minus
sign_of _ = None

-- + and -
abbrev pub sign_by : Kind → Option PlusOrMinus
sign_by (k.Operator one) = sign_of one
sign_by _ = None

abbrev pub sign_in : Token → Option PlusOrMinus
sign_in one = sign_by one.kind

abbrev pub sum_of : Written → Option Operator
sum_of written.Plus = Some Add
sum_of written.Minus = Some Subtract
sum_of _ = None

-- the operators between the terms of a sum
abbrev pub sum_by : Kind → Option Operator
sum_by (k.Operator one) = sum_of one
sum_by _ = None

abbrev pub sum_in : Token → Option Operator
sum_in one = sum_by one.kind

abbrev pub product_of : Written → Option Operator
product_of written.Times = Some Multiply
product_of written.Divide = Some Divide
product_of _ = None

-- the operators between the factors of a product
abbrev pub product_by : Kind → Option Operator
product_by (k.Operator one) = product_of one
product_by _ = None

abbrev pub product_in : Token → Option Operator
product_in one = product_by one.kind

abbrev pub begins_left : List Token → Bool
begins_left = begins_telling left_in

abbrev pub begins_colon : List Token → Bool
begins_colon = begins_telling colon_in

abbrev pub begins_sign : List Token → Bool
begins_sign = begins_telling sign_in
