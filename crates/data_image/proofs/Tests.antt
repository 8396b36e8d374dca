-- Relations and classes, and the tests that have one after their first byte, read and spelled.
use Rattle.std.proofs.Common.{◌≡◌, ℕ, ◌<◌, ◌^◌, List, [], ◌∷◌, ◌++◌, Ok, refl, ap, subst, ◌∙◌, append_assoc}
use Rattle.std.specs.Prelude.{Some}
use Rattle.source_tree.specs.declared.condition.Relation.{Relation}
use Rattle.source_tree.specs.declared.condition.Relation.TheVariants as relation
use Rattle.source_tree.specs.declared.condition.Class.{Class}
use Rattle.source_tree.specs.declared.condition.Class.TheVariants as class
use Rattle.data_instructions.specs.declared.test.Test.TheVariants as t
use Rattle.data_instructions.specs.declared.instruction.DataInstruction.{DataInstruction}
use Rattle.data_instructions.specs.declared.instruction.DataInstruction.TheVariants as i
use Rattle.data_image.specs.Spelling.{IsBytes, short_bytes, IsAny}
use Rattle.data_image.specs.Reading.{◌>>=◌, told_at}
use Rattle.data_image.specs.Tests.{relation_byte, class_byte, relation_of, class_of, compare_literal_at}
use Rattle.data_image.specs.Instructions.{data_instruction_bytes, HasShorts}
use Rattle.data_image.proofs.Forms.{ok_is, takes_then, takes_kind, IsForm, part, part_again, Took, first_told}
use Rattle.data_image.proofs.Forms.{byte_told}
use Rattle.data_image.proofs.Numbers.{short_form}

-- ---- relations

abbrev relations : List (ℕ × Relation)
relations =
    (1, relation.Less) ∷ (2, relation.LessOrEqual) ∷ (3, relation.Equal) ∷ (4, relation.NotEqual)
    ∷ (5, relation.GreaterOrEqual) ∷ (6, relation.Greater) ∷ []

relation_told : (n : ℕ) → relation_of n ≡ first_told relations n
unfolding relation_of
relation_told n = refl

relation_again : (one : Relation) → relation_of (relation_byte one) ≡ Some one
unfolding relation_of
relation_again relation.Less = refl
relation_again relation.LessOrEqual = refl
relation_again relation.Equal = refl
relation_again relation.NotEqual = refl
relation_again relation.GreaterOrEqual = refl
relation_again relation.Greater = refl

abbrev pub relation_bytes : Relation → List ℕ
relation_bytes one = relation_byte one ∷ []

pub relation_form : IsForm (told_at relation_of) relation_bytes IsAny
relation_form =
    byte_told relation_bytes relation_of relations
    ((refl, tt), ((refl, tt), ((refl, tt), ((refl, tt), ((refl, tt), ((refl, tt), tt)))))) relation_told
    (λ one. (relation_byte one, refl, relation_again one))

-- ---- classes

abbrev classes : List (ℕ × Class)
classes = (1, class.Numeric) ∷ (2, class.Alphabetic) ∷ (3, class.AlphabeticLower) ∷ (4, class.AlphabeticUpper) ∷ []

class_told : (n : ℕ) → class_of n ≡ first_told classes n
unfolding class_of
class_told n = refl

class_again : (one : Class) → class_of (class_byte one) ≡ Some one
unfolding class_of
class_again class.Numeric = refl
class_again class.Alphabetic = refl
class_again class.AlphabeticLower = refl
class_again class.AlphabeticUpper = refl

abbrev class_bytes : Class → List ℕ
class_bytes one = class_byte one ∷ []

pub class_form : IsForm (told_at class_of) class_bytes IsAny
class_form =
    byte_told class_bytes class_of classes
    ((refl, tt), ((refl, tt), ((refl, tt), ((refl, tt), tt)))) class_told
    (λ one. (class_byte one, refl, class_again one))

-- ---- a literal and a relation

pub compare_literal_took : (rest : List ℕ) (x : DataInstruction × List ℕ) → IsBytes rest
    → compare_literal_at rest ≡ Ok x → Took data_instruction_bytes HasShorts (41 ∷ rest) x
compare_literal_took rest x is e =
    let a = part short_form rest _ x is e in
    let b = part relation_form a.rest _ x a.takes.rest_fits a.goes in
    let both = takes_then rest (short_bytes a.value) a.rest (relation_bytes b.value) b.rest a.takes b.takes in
    let whole = takes_kind 41 rest (short_bytes a.value ++ relation_bytes b.value) b.rest both in
    let made : DataInstruction = i.Test (t.CompareLiteral b.value (record { number = a.value })) in
    subst (Took data_instruction_bytes HasShorts (41 ∷ rest)) {x =
    (made, b.rest)} (ok_is (made, b.rest) x b.goes) (whole, a.sound)

pub compare_literal_again : (one : Relation) (number : ℕ) (rest : List ℕ) → number < 2 ^ 32
    → compare_literal_at ((short_bytes number ++ relation_bytes one) ++ rest)
    ≡ Ok (i.Test (t.CompareLiteral one (record { number = number })), rest)
compare_literal_again one number rest h =
    ap compare_literal_at (append_assoc (short_bytes number) (relation_bytes one) rest)
    ∙ part_again short_form number (relation_bytes one ++ rest) (λ literal. told_at relation_of literal.1 >>= λ r.
    Ok (i.Test (t.CompareLiteral r.0 (record { number = literal.0 })), r.1)) h
    ∙ part_again relation_form one rest (λ r. Ok (i.Test (t.CompareLiteral r.0 (record { number = number })), r.1)) tt
