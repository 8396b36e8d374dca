-- The words that begin clauses.
use Rattle.std.proofs.Common.{◌≡◌, Bool, true, false, List, Option, None, Some, inl, inr, refl, ap, ◌∙◌, subst}
use Rattle.std.specs.Prelude.{◌||◌, if◌then◌else◌}
use Rattle.tokens.specs.declared.reserved.Reserved.{Reserved}
use Rattle.tokens.specs.declared.reserved.Reserved.TheVariants as w
use Rattle.tokens.specs.declared.token.Kind.{Kind}
use Rattle.tokens.specs.declared.token.Kind.TheVariants as k
use Rattle.tokens.specs.declared.token.Token.{Token}
use Rattle.tokens.specs.Reserved.{same_word}
use Rattle.source_tree.specs.declared.reference.Reference.{Reference}
use Rattle.source_tree.specs.declared.select.OrganizationClause.{OrganizationClause}
use Rattle.grammar.specs.Parts.{word, token_with, begins_name}
use Rattle.grammar.specs.OptionalWords.{led_by}
use Rattle.grammar.specs.Reading.{begins_word, after_word}
use Rattle.grammar.proofs.Looking.{finds_word, is_missing, word_stands, word_begins, begins_no_other, tests_tested}
use Rattle.expressions.proofs.Exact.References.{reference_starts}
use Rattle.file_control.specs.declared.clause.ClauseKind.{ClauseKind}
use Rattle.file_control.specs.declared.clause.ClauseKind.TheVariants as kind
use Rattle.file_control.specs.Clauses as g
use Rattle.file_control.specs.Clauses.{organization_of, organization_by, organization_in, begins_key, has_key_after}
use Rattle.file_control.specs.Clauses.{begins_relative_key, clause_of, clause_in, clause_by_word, clause_at}

two_words : (one other : Reserved) → same_word one other ≡ false → (i a b : List Token) → word one i a → word other i b
    → ⊥
two_words one other differ i a b s t =
    let no_other = begins_no_other one other differ i a s in
    let is_other = word_begins other i b t in cc

-- the clause that the first word begins, where it isn't RELATIVE with a key after it
abbrev chosen : Bool → List Token → Option ClauseKind
chosen b i = if b then Some kind.RelativeKey else clause_by_word i

by_word : (one : Reserved) (i rest : List Token) → word one i rest → clause_by_word i ≡ clause_of one
by_word one i rest (first, is, kind) = ap clause_by_word is ∙ ap clause_in kind

-- another word than RELATIVE
pub stands : (one : Reserved) → same_word one w.Relative ≡ false → (i rest : List Token) → word one i rest
    → clause_at i ≡ clause_of one
stands one differ i rest s =
    let none = is_missing (finds_word w.Relative) i (λ after t. two_words one w.Relative differ i rest after s t) in
    ap (λ o. chosen (has_key_after o) i) none ∙ by_word one i rest s

-- ---- organizations

organization_word : (one : Reserved) (organization : OrganizationClause) → organization_of one ≡ Some organization
    → clause_of one ≡ Some kind.Organization
organization_word w.Sequential organization e = refl
organization_word w.Relative organization e = refl
organization_word w.Indexed organization e = refl
organization_word _ organization e = cc

organization_kind : (one : Kind) (organization : OrganizationClause) → organization_by one ≡ Some organization
    → clause_in one ≡ Some kind.Organization
organization_kind (k.Reserved one) organization e = organization_word one organization e
organization_kind _ organization e = cc

pub organization_stands : (one : OrganizationClause) (i rest : List Token) → g.organization one i rest
    → clause_at i ≡ Some kind.Organization
organization_stands one i rest ((i1, led, told), no_key) =
    ap (λ b. chosen b i) ((tests_tested begins_relative_key).refuses i no_key) ∙ go led told
  where
    go : led_by w.Organization i i1 → token_with organization_in one i1 rest → clause_by_word i ≡ Some kind.Organization
    go (inl (i2, first, is)) told = by_word w.Organization i i2 first
    go (inr (same, absent)) (first, is, tell) = ap clause_by_word (same ∙ is) ∙ organization_kind first.kind one tell

-- where an organization clause begins, no key clause does
pub no_key : (i : List Token) → clause_at i ≡ Some kind.Organization → begins_relative_key i ≡ false
no_key i begun = go (begins_relative_key i) begun
  where
    go : (b : Bool) → chosen b i ≡ Some kind.Organization → b ≡ false
    go true e = cc
    go false e = refl

-- ---- keys

first_true : (a b : Bool) → a ≡ true → (a || b) ≡ true
first_true true b e = refl
first_true false b e = cc

second_true : (a b : Bool) → b ≡ true → (a || b) ≡ true
second_true true b e = refl
second_true false b e = e

pub key_begins : (one : Reference) (i rest : List Token) → g.key one i rest → begins_key i ≡ true
key_begins one i rest (i1, inl key, more) =
    first_true (begins_word w.Key i) (begins_word w.Is i || begins_name i) (word_begins w.Key i i1 key)
key_begins one i rest (i1, inr (same, absent), (i2, inl is, item)) =
    second_true (begins_word w.Key i) (begins_word w.Is i || begins_name i)
    (first_true (begins_word w.Is i) (begins_name i) (ap (begins_word w.Is) same ∙ word_begins w.Is i1 i2 is))
key_begins one i rest (i1, inr (same, absent), (i2, inr (same', absent'), item)) =
    second_true (begins_word w.Key i) (begins_word w.Is i || begins_name i)
    (second_true (begins_word w.Is i) (begins_name i)
    (ap begins_name (same ∙ same') ∙ reference_starts one i2 rest item))

pub relative_stands : (one : Reference) (i i1 rest : List Token) → word w.Relative i i1 → g.key one i1 rest
    → clause_at i ≡ Some kind.RelativeKey
relative_stands one i i1 rest first key =
    ap (λ o. chosen (has_key_after o) i) (word_stands w.Relative i i1 first)
    ∙ ap (λ b. chosen b i) (key_begins one i1 rest key)
