-- What comes first where a verb's word does: the verb, and no name.
use Rattle.std.proofs.Common.{◌≡◌, true, false, List, [], ◌∷◌, None, ap, ◌∙◌, refl}
use Rattle.std.specs.Prelude.{is_some}
use Rattle.tokens.specs.declared.reserved.Reserved.{Reserved}
use Rattle.tokens.specs.declared.token.Kind.{Kind}
use Rattle.tokens.specs.declared.token.Kind.TheVariants as k
use Rattle.tokens.specs.declared.token.Token.{Token}
use Rattle.lexical.specs.declared.place.Place.{Place}
use Rattle.grammar.specs.Parts.{word, is_told, named_by, begins_name}
use Rattle.statements.specs.Verbs.{verb_of, verb_in, verb_at, begins_statement}

pub stands : (one : Reserved) (i rest : List Token) → word one i rest → verb_at i ≡ verb_of one
stands one i rest (first, is, kind) = ap verb_at is ∙ ap verb_in kind

-- a reserved word is no name
no_name : (one : Reserved) (kind : Kind) (place : Place) → kind ≡ k.Reserved one → named_by kind place ≡ None
no_name one kind place e = ap (λ x. named_by x place) e

pub word_no_name : (one : Reserved) (i rest : List Token) → word one i rest → begins_name i ≡ false
word_no_name one i rest (first, is, kind) = ap begins_name is ∙ ap is_told (no_name one first.kind first.place kind)

verb_no_name : (kind : Kind) (place : Place) → is_some (verb_in kind) ≡ true → is_told (named_by kind place) ≡ false
verb_no_name (k.Reserved one) place e = refl
verb_no_name (k.Word characters) place e = cc
verb_no_name (k.Numeric number) place e = refl
verb_no_name (k.Nonnumeric bytes) place e = refl
verb_no_name (k.Picture characters) place e = refl
verb_no_name k.Period place e = refl
verb_no_name k.LeftParenthesis place e = refl
verb_no_name k.RightParenthesis place e = refl
verb_no_name k.Colon place e = refl
verb_no_name (k.Operator operator) place e = refl

pub statement_no_name : (i : List Token) → begins_statement i ≡ true → begins_name i ≡ false
statement_no_name [] e = refl
statement_no_name (first ∷ more) e = verb_no_name first.kind first.place e
