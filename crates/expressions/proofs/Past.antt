-- Looking past the parts of a reference, step by step as they are read.
use Rattle.std.proofs.Common.{◌≡◌, Bool, true, false, if◌then◌else◌, List, [], ◌∷◌, Option, Some, None, refl, ap, ◌∙◌}
use Rattle.std.specs.Prelude.{Ok, Err}
use Rattle.tokens.specs.declared.reserved.Reserved.TheVariants as w
use Rattle.tokens.specs.declared.token.Token.{Token}
use Rattle.source_tree.specs.declared.reference.QualifiedName.{QualifiedName}
use Rattle.source_tree.specs.declared.reference.Subscript.{Subscript}
use Rattle.grammar.specs.Parts.{is_told, begins_telling, name_in, begins_name}
use Rattle.grammar.specs.Reading as read
use Rattle.grammar.specs.Reading.{Outcome, Parser, Words, and_then, rest_of, tokens_past, and_past, outcome_of_rest}
use Rattle.grammar.specs.Reading.{begins_word, is_word, after_word, one_token, past_any}
use Rattle.grammar.proofs.Past.{past_then, past_if, any_passes}
use Rattle.expressions.specs.Marks.{left_in, right_in, colon_in, begins_left, begins_colon, sign_in, begins_sign}
use Rattle.expressions.specs.Subscripts as s
use Rattle.expressions.specs.References as g
use Rattle.expressions.specs.Looking.{past_first, past_token, past_subscript, past_length, past_part_from}
use Rattle.expressions.specs.Looking.{past_part_behind, past_subscripted, past_after_number, past_numbers}

pure_passes : {A B : Type 0} (o : Outcome A) (f : A → B) → rest_of (and_then o (λ a. read.pure (f a))) ≡ rest_of o
pure_passes (Ok p) f = refl
pure_passes (Err halt) f = refl

-- ---- qualifiers

abbrev pub past_in_or_of : Option (List Token) → List Token → Option (List Token)
past_in_or_of None i = and_past (after_word w.Of i) (tokens_past read.name)
past_in_or_of (Some j) i = tokens_past read.name j

needed_passes : (o : Option (List Token)) (i : List Token)
    → rest_of (and_then (outcome_of_rest o i) (λ u. read.name)) ≡ and_past o (tokens_past read.name)
needed_passes None i = refl
needed_passes (Some j) i = refl

pub qualifier_passes : (i : List Token) → tokens_past s.qualifier_reader i ≡ past_in_or_of (after_word w.In i) i
unfolding s.qualifier_reader read.expect after_word
qualifier_passes [] = refl
qualifier_passes (first ∷ more) = go (is_word w.In first) refl
  where
    go : (b : Bool) → is_word w.In first ≡ b
        → rest_of (if b then and_then (outcome_of_rest (if b then Some more else None) (first ∷ more)) (λ u. read.name)
        else and_then (outcome_of_rest (after_word w.Of (first ∷ more)) (first ∷ more)) (λ u. read.name))
        ≡ past_in_or_of (if b then Some more else None) (first ∷ more)
    go true is = refl
    go false is = needed_passes (after_word w.Of (first ∷ more)) (first ∷ more)

pub qualified_passes : (i : List Token) → tokens_past s.qualified_reader i ≡ and_past (tokens_past read.name i)
    (past_any (tokens_past s.qualifier_reader) s.begins_qualifier)
unfolding s.qualified_reader
qualified_passes i =
    past_then (read.name i) _ _ (λ given j.
    pure_passes (read.any s.qualifier_reader s.begins_qualifier j) _
    ∙ any_passes s.qualifier_reader s.begins_qualifier j)

-- ---- one token

pub token_passes : {A : Type 0} (tells : Token → Option A) (i : List Token)
    → tokens_past (one_token tells) i ≡ past_first (begins_telling tells i) i
unfolding one_token
token_passes tells [] = refl
token_passes {A = A} tells (first ∷ more) = go (tells first)
  where
    go : (o : Option A) → rest_of (read.outcome_of_value o more (first ∷ more)) ≡ past_first (is_told o) (first ∷ more)
    go None = refl
    go (Some a) = refl

pub name_passes : (i : List Token) → tokens_past read.name i ≡ past_first (begins_name i) i
unfolding read.name
name_passes i = token_passes name_in i

pub integer_passes : (i : List Token) → tokens_past s.integer_reader i ≡ past_first (s.begins_integer i) i
unfolding s.integer_reader
integer_passes i = token_passes s.integer_in i

-- ---- subscripts

pub adjustment_passes : (i : List Token) → tokens_past s.adjustment_reader
    i ≡ (if begins_sign i then and_past (past_first (begins_sign i) i) (tokens_past s.integer_reader) else Some i)
unfolding s.adjustment_reader s.signed_integer_reader
adjustment_passes i = past_if (begins_sign i) _ _ _ _
    (past_then (one_token sign_in i) _ (tokens_past s.integer_reader) (λ sign j. pure_passes (s.integer_reader j) _)
    ∙ ap (λ o. and_past o (tokens_past s.integer_reader)) (token_passes sign_in i))
    refl

pub subscript_passes : (i : List Token)
    → tokens_past s.subscript_reader i ≡ (if s.begins_integer i then tokens_past s.integer_reader i
    else and_past (tokens_past s.qualified_reader i) (tokens_past s.adjustment_reader))
unfolding s.subscript_reader s.literal_subscript_reader s.item_subscript_reader
subscript_passes i = past_if (s.begins_integer i) _ _ _ _
    (pure_passes (s.integer_reader i) _)
    (past_then (s.qualified_reader i) _ (tokens_past s.adjustment_reader)
    (λ item j. pure_passes (s.adjustment_reader j) _))

-- ---- numbers in parentheses

length_passes : (i : List Token) → tokens_past g.length_reader i ≡ past_length i
unfolding g.length_reader g.some_length_reader
length_passes i = past_if (s.begins_subscript i) _ _ _ _ (pure_passes (s.subscript_reader i) _) refl

joined : (o : Option (List Token)) (u v : Words)
    → and_past o (λ j. and_past (u j) v) ≡ and_past (and_past o u) v
joined None u v = refl
joined (Some j) u v = refl

part_from_passes : (first : Subscript) (i : List Token) → tokens_past (g.part_from_reader first) i ≡ past_part_from i
unfolding g.part_from_reader
part_from_passes first i =
    past_then (one_token colon_in i) _ (λ j. and_past (past_length j) (past_token right_in)) (λ u j.
    past_then (g.length_reader j) _ (past_token right_in) (λ size k.
    pure_passes (one_token right_in k) _ ∙ token_passes right_in k)
    ∙ ap (λ o. and_past o (past_token right_in)) (length_passes j))
    ∙ ap (λ o. and_past o (λ j. and_past (past_length j) (past_token right_in))) (token_passes colon_in i)
    ∙ joined (past_token colon_in i) past_length (past_token right_in)

-- after a left parenthesis and a number
numbered_passes : {A : Type 0} (next : Subscript → Parser A) (words : Words)
    → ((first : Subscript) (j : List Token) → tokens_past (next first) j ≡ words j) → (i : List Token)
    → rest_of (and_then (one_token left_in i) (λ u j. and_then (s.subscript_reader j) next))
    ≡ and_past (and_past (past_token left_in i) past_subscript) words
numbered_passes next words each i =
    past_then (one_token left_in i) _ (λ j. and_past (past_subscript j) words) (λ u j.
    past_then (s.subscript_reader j) next words each)
    ∙ ap (λ o. and_past o (λ j. and_past (past_subscript j) words)) (token_passes left_in i)
    ∙ joined (past_token left_in i) past_subscript words

behind_passes : (i : List Token) → tokens_past g.part_behind_reader i ≡ past_part_behind i
unfolding g.part_behind_reader g.some_part_reader
behind_passes i = past_if (begins_left i) _ _ _ _
    (numbered_passes _ past_part_from (λ first j.
    pure_passes (g.part_from_reader first j) _ ∙ part_from_passes first j) i)
    refl

item_part_passes : (item : QualifiedName) (first : Subscript) (i : List Token)
    → tokens_past (g.item_part_reader item first) i ≡ past_part_from i
unfolding g.item_part_reader
item_part_passes item first i = pure_passes (g.part_from_reader first i) _ ∙ part_from_passes first i

subscripted_passes : (item : QualifiedName) (first : Subscript) (i : List Token)
    → tokens_past (g.subscripted_reader item first) i ≡ past_subscripted i
unfolding g.subscripted_reader
subscripted_passes item first i =
    past_then (read.any s.subscript_reader s.begins_subscript i) _
    (λ j. and_past (past_token right_in j) past_part_behind) (λ more j.
    past_then (one_token right_in j) _ past_part_behind (λ u k.
    pure_passes (g.part_behind_reader k) _ ∙ behind_passes k)
    ∙ ap (λ o. and_past o past_part_behind) (token_passes right_in j))
    ∙ ap (λ o. and_past o (λ j. and_past (past_token right_in j) past_part_behind))
    (any_passes s.subscript_reader s.begins_subscript i)
    ∙ joined (past_any past_subscript s.begins_subscript i) (past_token right_in) past_part_behind

after_number_passes : (item : QualifiedName) (first : Subscript) (i : List Token)
    → tokens_past (g.after_number_reader item first) i ≡ past_after_number i
unfolding g.after_number_reader
after_number_passes item first i = past_if (begins_colon i) _ _ _ _ (item_part_passes item first i)
    (subscripted_passes item first i)

after_name_passes : (item : QualifiedName) (i : List Token) → tokens_past (g.after_name_reader item) i ≡ past_numbers i
unfolding g.after_name_reader g.enclosed_numbers_reader
after_name_passes item i = past_if (begins_left i) _ _ _ _
    (numbered_passes _ past_after_number (after_number_passes item) i)
    refl

-- ---- references

pub reference_passes : (i : List Token)
    → tokens_past g.reference_reader i ≡ and_past (tokens_past s.qualified_reader i) past_numbers
unfolding g.reference_reader
reference_passes i = past_then (s.qualified_reader i) _ past_numbers after_name_passes
