-- Classes of statuses and verbs, read and spelled.
use Rattle.std.proofs.Common.{◌≡◌, ℕ, eqb, List, [], ◌∷◌, ◌++◌, Ok, refl, sym, ap, subst, ◌∙◌, append_assoc, inl, inr}
use Rattle.std.specs.Prelude.{Some}
use Rattle.records.specs.declared.key.KeyOfReference.{KeyOfReference}
use Rattle.records.specs.declared.verb.OpenMode.TheVariants as mode
use Rattle.records.specs.declared.verb.Relation.{Relation}
use Rattle.records.specs.declared.verb.Relation.TheVariants as relation
use Rattle.records.specs.declared.verb.Verb.{Verb}
use Rattle.records.specs.declared.verb.Verb.TheVariants as v
use Rattle.data_image.specs.Spelling.{IsBytes, IsAny}
use Rattle.data_image.specs.Reading.{ReadResult, ◌>>=◌, byte_at, told_at}
use Rattle.data_image.proofs.Forms.{ok_is, chosen, takes_then, takes_kind, IsForm, part, part_again, Took, form_of}
use Rattle.data_image.proofs.Forms.{first_took, byte_is, behind_took, told_took, first_told, told_in, byte_told}
use Rattle.data_image.proofs.Numbers.{byte_form}
use Rattle.file_image.specs.declared.class.StatusClass.{StatusClass}
use Rattle.file_image.specs.declared.class.StatusClass.TheVariants.{Successful, AtEnd, InvalidKey}
use Rattle.file_image.specs.Spelling.{class_byte, class_of, class_at, key_bytes, relation_byte, relation_of, verb_bytes}
use Rattle.file_image.specs.Spelling.{IsVerbSpelled, key_at, plain_verb_of, start_at, verb_from, verb_at}
use Rattle.file_image.proofs.Keys.{key_form}

-- ---- classes of statuses

abbrev classes : List (ℕ × StatusClass)
classes = (1, Successful) ∷ (2, AtEnd) ∷ (3, InvalidKey) ∷ []

class_told : (n : ℕ) → class_of n ≡ first_told classes n
unfolding class_of
class_told n = refl

class_again : (class : StatusClass) → class_of (class_byte class) ≡ Some class
unfolding class_of
class_again Successful = refl
class_again AtEnd = refl
class_again InvalidKey = refl

pub class_form : IsForm class_at (λ class. class_byte class ∷ []) IsAny
class_form = byte_told (λ class. class_byte class ∷ []) class_of classes ((refl, tt), ((refl, tt), ((refl, tt), tt)))
    class_told (λ class. (class_byte class, refl, class_again class))

-- ---- relations

abbrev relations : List (ℕ × Relation)
relations = (1, relation.Equal) ∷ (2, relation.Greater) ∷ (3, relation.NotLess) ∷ []

relation_told : (n : ℕ) → relation_of n ≡ first_told relations n
unfolding relation_of
relation_told n = refl

relation_again : (one : Relation) → relation_of (relation_byte one) ≡ Some one
unfolding relation_of
relation_again relation.Equal = refl
relation_again relation.Greater = refl
relation_again relation.NotLess = refl

relation_form : IsForm (told_at relation_of) (λ one. relation_byte one ∷ []) IsAny
relation_form = byte_told (λ one. relation_byte one ∷ []) relation_of relations
    ((refl, tt), ((refl, tt), ((refl, tt), tt))) relation_told (λ one. (relation_byte one, refl, relation_again one))

-- ---- verbs

abbrev plain_verbs : List (ℕ × Verb)
plain_verbs =
    (1, v.Open mode.Input) ∷ (2, v.Open mode.Output) ∷ (3, v.Open mode.InputOutput) ∷ (4, v.Open mode.Extend)
    ∷ (5, v.Close)
    ∷ (6, v.ReadNext) ∷ (7, v.Write) ∷ (8, v.Rewrite) ∷ (9, v.Delete) ∷ []

verb_told : (n : ℕ) → plain_verb_of n ≡ first_told plain_verbs n
unfolding plain_verb_of
verb_told n = refl

plain_verb_is : (n : ℕ) (verb : Verb) → plain_verb_of n ≡ Some verb → (verb_bytes verb ≡ n ∷ []) × IsVerbSpelled verb
plain_verb_is n verb e =
    told_in verb_bytes IsVerbSpelled plain_verbs (
      (refl, tt),
      (
        (refl, tt),
        ((refl, tt), ((refl, tt), ((refl, tt), ((refl, tt), ((refl, tt), ((refl, tt), ((refl, tt), tt))))))),
      ),
    )
    n verb (sym (verb_told n) ∙ e)

abbrev count_from : Relation → KeyOfReference → ℕ × List ℕ → ReadResult Verb
count_from relation key count = Ok (v.Start relation key count.0, count.1)

abbrev key_from : Relation → KeyOfReference × List ℕ → ReadResult Verb
key_from relation key = byte_at key.1 >>= count_from relation key.0

abbrev relation_from : Relation × List ℕ → ReadResult Verb
relation_from relation = key_at relation.1 >>= key_from relation.0

start_took : (rest : List ℕ) (x : Verb × List ℕ) → IsBytes rest → start_at rest ≡ Ok x
    → Took verb_bytes IsVerbSpelled (11 ∷ rest) x
start_took rest x is e =
    let a = part relation_form rest relation_from x is e in
    let b = part key_form a.rest (key_from a.value) x a.takes.rest_fits a.goes in
    let c = part byte_form b.rest (count_from a.value b.value) x b.takes.rest_fits b.goes in
    let relation : List ℕ = relation_byte a.value ∷ [] in
    let two = takes_then rest relation a.rest (key_bytes b.value) b.rest a.takes b.takes in
    let three = takes_then rest (relation ++ key_bytes b.value) b.rest (c.value ∷ []) c.rest two c.takes in
    let t = takes_kind 11 rest (relation ++ key_bytes b.value ++ c.value ∷ []) c.rest three in
    let one : Verb = v.Start a.value b.value c.value in
    subst (Took verb_bytes IsVerbSpelled (11 ∷ rest)) {x =
    (one, c.rest)} (ok_is (one, c.rest) x c.goes) (t, (b.sound, c.sound))

abbrev read_by : KeyOfReference → Verb
read_by key = v.Read key

verb_from_took : (n : ℕ) (rest : List ℕ) (x : Verb × List ℕ) → IsBytes rest → verb_from n rest ≡ Ok x
    → Took verb_bytes IsVerbSpelled (n ∷ rest) x
verb_from_took n rest x is e =
    elim (chosen (eqb n 10) _ _ _ e) [
      | inl p ↦ byte_is verb_bytes IsVerbSpelled 10 n rest x p.0
          (behind_took verb_bytes IsVerbSpelled key_form 10 read_by (λ a. refl) (λ a h. h) rest x is p.1)
      | inr q ↦ elim (chosen (eqb n 11) _ _ _ q.1) [
        | inl p ↦ byte_is verb_bytes IsVerbSpelled 11 n rest x p.0 (start_took rest x is p.1)
        | inr r ↦ told_took verb_bytes IsVerbSpelled plain_verb_of plain_verb_is n rest x is r.1
      ]
    ]

verb_took : (bytes : List ℕ) (x : Verb × List ℕ) → IsBytes bytes → verb_at bytes ≡ Ok x
    → Took verb_bytes IsVerbSpelled bytes x
unfolding verb_at
verb_took bytes x is e = first_took verb_bytes IsVerbSpelled verb_from verb_from_took bytes x is e

verb_again : (verb : Verb) (rest : List ℕ) → IsVerbSpelled verb → verb_at (verb_bytes verb ++ rest) ≡ Ok (verb, rest)
unfolding verb_at byte_at plain_verb_of
verb_again (v.Open mode.Input) rest h = refl
verb_again (v.Open mode.Output) rest h = refl
verb_again (v.Open mode.InputOutput) rest h = refl
verb_again (v.Open mode.Extend) rest h = refl
verb_again v.Close rest h = refl
verb_again v.ReadNext rest h = refl
verb_again v.Write rest h = refl
verb_again v.Rewrite rest h = refl
verb_again v.Delete rest h = refl
verb_again (v.Read key) rest h = part_again key_form key rest (λ key. Ok (v.Read key.0, key.1)) h
verb_again (v.Start relation key count) rest h =
    let r : List ℕ = relation_byte relation ∷ [] in
    ap start_at (append_assoc (r ++ key_bytes key) (count ∷ []) rest
    ∙ append_assoc r (key_bytes key) (count ∷ [] ++ rest))
    ∙ part_again relation_form relation (key_bytes key ++ (count ∷ [] ++ rest)) relation_from tt
    ∙ part_again key_form key (count ∷ [] ++ rest) (key_from relation) h.0
    ∙ part_again byte_form count rest (count_from relation key) h.1

pub verb_form : IsForm verb_at verb_bytes IsVerbSpelled
verb_form = form_of verb_at verb_bytes IsVerbSpelled verb_took verb_again
