-- Tokens that are told as values, and what tells them apart.
use Rattle.std.proofs.Common.{◌≡◌, Bool, true, false, List, Option, None, Some, refl, ap, ◌∙◌}
use Rattle.std.specs.Prelude.{◌||◌}
use Rattle.tokens.specs.declared.token.Kind.{Kind}
use Rattle.tokens.specs.declared.token.Kind.TheVariants as k
use Rattle.tokens.specs.declared.token.Token.{Token}
use Rattle.lexical.specs.declared.place.Place.{Place}
use Rattle.source_tree.specs.declared.name.Name.{Name}
use Rattle.source_tree.specs.declared.literal.Integer.{Integer}
use Rattle.source_tree.specs.declared.literal.LiteralValue.{LiteralValue}
use Rattle.grammar.specs.Parts.{token_with, begins_telling, is_told, named_by, name_in}
use Rattle.expressions.specs.declared.marks.PlusOrMinus.{PlusOrMinus}
use Rattle.expressions.specs.Marks.{left_of, left_in, right_of, right_in, colon_of, colon_in, sign_by, sign_in}
use Rattle.expressions.specs.Subscripts.{integer_by, integer_in}
use Rattle.expressions.specs.Literals.{value_by, number_value_by}

-- where one is told, the other isn't
abbrev pub Apart : {A B : Type 0} → (Token → Option A) → (Token → Option B) → Type 0
Apart {A = A} one other = (first : Token) (a : A) → one first ≡ Some a → other first ≡ None

pub begins_not : {A B : Type 0} (one : Token → Option A) (other : Token → Option B) → Apart one other
    → (a : A) (i rest : List Token) → token_with one a i rest → begins_telling other i ≡ false
begins_not one other apart a i rest (first, is, tell) = ap (begins_telling other) is ∙ ap is_told (apart first a tell)

-- ---- names

name_no_integer : (kind : Kind) (place : Place) (given : Name) → named_by kind place ≡ Some given
    → integer_by kind place ≡ None
name_no_integer (k.Reserved _) place given e = cc
name_no_integer (k.Word characters) place given e = refl
name_no_integer (k.Numeric number) place given e = cc
name_no_integer (k.Nonnumeric bytes) place given e = cc
name_no_integer (k.Picture characters) place given e = cc
name_no_integer k.Period place given e = cc
name_no_integer k.LeftParenthesis place given e = cc
name_no_integer k.RightParenthesis place given e = cc
name_no_integer k.Colon place given e = cc
name_no_integer (k.Operator operator) place given e = cc

pub name_integer : Apart name_in integer_in
name_integer first a e = name_no_integer first.kind first.place a e

name_no_left : (kind : Kind) (place : Place) (given : Name) → named_by kind place ≡ Some given → left_of kind ≡ None
name_no_left (k.Reserved _) place given e = cc
name_no_left (k.Word characters) place given e = refl
name_no_left (k.Numeric number) place given e = cc
name_no_left (k.Nonnumeric bytes) place given e = cc
name_no_left (k.Picture characters) place given e = cc
name_no_left k.Period place given e = cc
name_no_left k.LeftParenthesis place given e = cc
name_no_left k.RightParenthesis place given e = cc
name_no_left k.Colon place given e = cc
name_no_left (k.Operator operator) place given e = cc

pub name_left : Apart name_in left_in
name_left first a e = name_no_left first.kind first.place a e

name_no_sign : (kind : Kind) (place : Place) (given : Name) → named_by kind place ≡ Some given → sign_by kind ≡ None
name_no_sign (k.Reserved _) place given e = cc
name_no_sign (k.Word characters) place given e = refl
name_no_sign (k.Numeric number) place given e = cc
name_no_sign (k.Nonnumeric bytes) place given e = cc
name_no_sign (k.Picture characters) place given e = cc
name_no_sign k.Period place given e = cc
name_no_sign k.LeftParenthesis place given e = cc
name_no_sign k.RightParenthesis place given e = cc
name_no_sign k.Colon place given e = cc
name_no_sign (k.Operator operator) place given e = cc

pub name_sign : Apart name_in sign_in
name_sign first a e = name_no_sign first.kind first.place a e

-- ---- the colon

name_no_colon : (kind : Kind) (place : Place) (given : Name) → named_by kind place ≡ Some given → colon_of kind ≡ None
name_no_colon (k.Reserved _) place given e = cc
name_no_colon (k.Word characters) place given e = refl
name_no_colon (k.Numeric number) place given e = cc
name_no_colon (k.Nonnumeric bytes) place given e = cc
name_no_colon (k.Picture characters) place given e = cc
name_no_colon k.Period place given e = cc
name_no_colon k.LeftParenthesis place given e = cc
name_no_colon k.RightParenthesis place given e = cc
name_no_colon k.Colon place given e = cc
name_no_colon (k.Operator operator) place given e = cc

pub name_colon : Apart name_in colon_in
name_colon first a e = name_no_colon first.kind first.place a e

integer_no_colon : (kind : Kind) (place : Place) (given : Integer) → integer_by kind place ≡ Some given
    → colon_of kind ≡ None
integer_no_colon (k.Reserved _) place given e = cc
integer_no_colon (k.Word characters) place given e = cc
integer_no_colon (k.Numeric number) place given e = refl
integer_no_colon (k.Nonnumeric bytes) place given e = cc
integer_no_colon (k.Picture characters) place given e = cc
integer_no_colon k.Period place given e = cc
integer_no_colon k.LeftParenthesis place given e = cc
integer_no_colon k.RightParenthesis place given e = cc
integer_no_colon k.Colon place given e = cc
integer_no_colon (k.Operator operator) place given e = cc

pub integer_colon : Apart integer_in colon_in
integer_colon first a e = integer_no_colon first.kind first.place a e

right_no_colon : (kind : Kind) (u : Unit {0}) → right_of kind ≡ Some u → colon_of kind ≡ None
right_no_colon (k.Reserved _) u e = cc
right_no_colon (k.Word characters) u e = cc
right_no_colon (k.Numeric number) u e = cc
right_no_colon (k.Nonnumeric bytes) u e = cc
right_no_colon (k.Picture characters) u e = cc
right_no_colon k.Period u e = cc
right_no_colon k.LeftParenthesis u e = cc
right_no_colon k.RightParenthesis u e = refl
right_no_colon k.Colon u e = cc
right_no_colon (k.Operator operator) u e = cc

pub right_colon : Apart right_in colon_in
right_colon first a e = right_no_colon first.kind a e

-- ---- signs

sign_no_left : (kind : Kind) (sign : PlusOrMinus) → sign_by kind ≡ Some sign → left_of kind ≡ None
sign_no_left (k.Reserved _) sign e = cc
sign_no_left (k.Word characters) sign e = cc
sign_no_left (k.Numeric number) sign e = cc
sign_no_left (k.Nonnumeric bytes) sign e = cc
sign_no_left (k.Picture characters) sign e = cc
sign_no_left k.Period sign e = cc
sign_no_left k.LeftParenthesis sign e = cc
sign_no_left k.RightParenthesis sign e = cc
sign_no_left k.Colon sign e = cc
sign_no_left (k.Operator operator) sign e = refl

pub sign_left : Apart sign_in left_in
sign_left first a e = sign_no_left first.kind a e

-- ---- values of literals

pub value_no_name : (kind : Kind) (place : Place) (value : LiteralValue) → value_by kind ≡ Some value
    → named_by kind place ≡ None
value_no_name (k.Reserved _) place value e = refl
value_no_name (k.Word characters) place value e = cc
value_no_name (k.Numeric number) place value e = refl
value_no_name (k.Nonnumeric bytes) place value e = refl
value_no_name (k.Picture characters) place value e = cc
value_no_name k.Period place value e = cc
value_no_name k.LeftParenthesis place value e = cc
value_no_name k.RightParenthesis place value e = cc
value_no_name k.Colon place value e = cc
value_no_name (k.Operator operator) place value e = cc

pub number_no_name : (kind : Kind) (place : Place) (value : LiteralValue) → number_value_by kind ≡ Some value
    → named_by kind place ≡ None
number_no_name (k.Reserved _) place value e = refl
number_no_name (k.Word characters) place value e = cc
number_no_name (k.Numeric number) place value e = refl
number_no_name (k.Nonnumeric bytes) place value e = cc
number_no_name (k.Picture characters) place value e = cc
number_no_name k.Period place value e = cc
number_no_name k.LeftParenthesis place value e = cc
number_no_name k.RightParenthesis place value e = cc
number_no_name k.Colon place value e = cc
number_no_name (k.Operator operator) place value e = cc

pub number_no_left : (kind : Kind) (value : LiteralValue) → number_value_by kind ≡ Some value → left_of kind ≡ None
number_no_left (k.Reserved _) value e = refl
number_no_left (k.Word characters) value e = refl
number_no_left (k.Numeric number) value e = refl
number_no_left (k.Nonnumeric bytes) value e = refl
number_no_left (k.Picture characters) value e = refl
number_no_left k.Period value e = refl
number_no_left k.LeftParenthesis value e = cc
number_no_left k.RightParenthesis value e = refl
number_no_left k.Colon value e = refl
number_no_left (k.Operator operator) value e = refl

pub number_no_sign : (kind : Kind) (value : LiteralValue) → number_value_by kind ≡ Some value → sign_by kind ≡ None
number_no_sign (k.Reserved _) value e = refl
number_no_sign (k.Word characters) value e = refl
number_no_sign (k.Numeric number) value e = refl
number_no_sign (k.Nonnumeric bytes) value e = refl
number_no_sign (k.Picture characters) value e = refl
number_no_sign k.Period value e = refl
number_no_sign k.LeftParenthesis value e = refl
number_no_sign k.RightParenthesis value e = refl
number_no_sign k.Colon value e = refl
number_no_sign (k.Operator operator) value e = cc

-- ---- either of two tests

pub either : (a b : Bool) → b ≡ true → (a || b) ≡ true
either true b e = refl
either false b e = e

pub neither : (a b : Bool) → a ≡ false → b ≡ false → (a || b) ≡ false
neither true b d e = cc
neither false true d e = cc
neither false false d e = refl
