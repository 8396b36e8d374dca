-- Clauses of SELECTs: what is read is spelled, and what is spelled is read.
use Rattle.std.proofs.Common.{◌≡◌, ◌<◌, ◌≤◌, false, List, length, Some, Ok, inl, inr, refl, ap, ◌∙◌, subst, arith}
use Rattle.tokens.specs.declared.reserved.Reserved.{Reserved}
use Rattle.tokens.specs.declared.reserved.Reserved.TheVariants as w
use Rattle.tokens.specs.declared.token.Token.{Token}
use Rattle.tokens.specs.Reserved.{same_word}
use Rattle.source_tree.specs.declared.reference.Reference.{Reference}
use Rattle.grammar.specs.declared.fault.Halt.{Halt}
use Rattle.grammar.specs.Parts.{Part, word}
use Rattle.grammar.specs.Reading as read
use Rattle.grammar.specs.Reading.{after_word, one_token}
use Rattle.grammar.proofs.Outcomes.{Answers, Reached, step, unstep, value, last}
use Rattle.grammar.proofs.Looking.{Finds, finds_word, finds_past, tests_tested}
use Rattle.grammar.proofs.Lists.{Sound, Complete, Shrinks}
use Rattle.grammar.proofs.Parts.{word_sound, word_complete, word_shrinks, skip_sound, skip_complete, skip_shrinks}
use Rattle.grammar.proofs.Parts.{one_token_sound, one_token_complete, telling_shrinks, stands_sound, stands_complete}
use Rattle.grammar.proofs.Parts.{stands_shrinks}
use Rattle.expressions.specs.References.{reference_reader}
use Rattle.expressions.proofs.Exact.References.{reference_sound, reference_complete, reference_shrinks}
use Rattle.grammar.specs.OptionalWords.{skip_led}
use Rattle.grammar.proofs.OptionalWords.{skip_led_sound, skip_led_complete, led_shrinks}
use Rattle.grammar.proofs.Gathering.{ClausesSound, ClausesStand, ClausesComplete}
use Rattle.file_control.specs.declared.clause.ClauseKind.{ClauseKind}
use Rattle.file_control.specs.declared.clause.ClauseKind.TheVariants as kind
use Rattle.file_control.specs.declared.clause.Clause.{Clause}
use Rattle.file_control.specs.declared.clause.Clause.TheVariants as clause_as
use Rattle.file_control.specs.Clauses as g
use Rattle.file_control.specs.Clauses.{organization_in, access_in, begins_relative_key, clause_at, kind_of}
use Rattle.file_control.specs.ClauseReading as r
use Rattle.file_control.specs.ClauseReading.{clause_reader}
use Rattle.file_control.specs.Stated.{select_clauses}
use Rattle.file_control.proofs.Exact.Words.{stands, organization_stands, no_key, relative_stands}

-- ---- what is read is spelled

-- these tokens spell this clause, which is of that kind
abbrev IsClause : ClauseKind → Clause → Part
IsClause kind one = λ from rest. g.clause one from rest × (kind_of one ≡ kind)

organization_sound : (x : Clause) (i rest : List Token) → clause_at i ≡ Some kind.Organization
    → r.organization_reader i ≡ Ok (x, rest) → IsClause kind.Organization x i rest
unfolding r.organization_reader
organization_sound x i rest begun e =
    unstep (skip_led w.Organization i) _ e (λ u i1 is1 e1.
    unstep (one_token organization_in i1) _ e1 (λ one i2 is2 e2.
    let led = skip_led_sound w.Organization u i i1 is1 in
    let told = one_token_sound organization_in one i1 rest (last is2 e2) in
    subst (λ y. IsClause kind.Organization y i rest) (value e2)
    (((i1, led, told), (tests_tested begins_relative_key).fails i (no_key i begun)), refl)))

access_sound : Sound (IsClause kind.Access) r.access_reader
unfolding r.access_reader
access_sound x i rest e =
    unstep (read.expect w.Access i) _ e (λ u i1 is1 e1.
    unstep (read.skip w.Mode i1) _ e1 (λ v i2 is2 e2.
    unstep (read.skip w.Is i2) _ e2 (λ t i3 is3 e3.
    unstep (one_token access_in i3) _ e3 (λ one i4 is4 e4.
    subst (λ y. IsClause kind.Access y i rest) (value e4) (
      (
        i1,
        word_sound w.Access u i i1 is1,
        (
          i2,
          skip_sound w.Mode v i1 i2 is2,
          (i3, skip_sound w.Is t i2 i3 is3, one_token_sound access_in one i3 rest (last is4 e4)),
        ),
      ),
      refl,
    )))))

key_sound : Sound g.key r.key_reader
unfolding r.key_reader
key_sound x i rest e =
    unstep (read.skip w.Key i) _ e (λ u i1 is1 e1.
    unstep (read.skip w.Is i1) _ e1 (λ v i2 is2 e2.
    (i1, skip_sound w.Key u i i1 is1, (i2, skip_sound w.Is v i1 i2 is2, reference_sound x i2 rest e2))))

relative_key_sound : Sound (IsClause kind.RelativeKey) r.relative_key_reader
unfolding r.relative_key_reader
relative_key_sound x i rest e =
    unstep (read.expect w.Relative i) _ e (λ u i1 is1 e1.
    unstep (r.key_reader i1) _ e1 (λ one i2 is2 e2.
    subst (λ y. IsClause kind.RelativeKey y i rest) (value e2)
    ((i1, word_sound w.Relative u i i1 is1, key_sound one i1 rest (last is2 e2)), refl)))

record_key_sound : Sound (IsClause kind.RecordKey) r.record_key_reader
unfolding r.record_key_reader
record_key_sound x i rest e =
    unstep (read.expect w.Record i) _ e (λ u i1 is1 e1.
    unstep (r.key_reader i1) _ e1 (λ one i2 is2 e2.
    subst (λ y. IsClause kind.RecordKey y i rest) (value e2)
    ((i1, word_sound w.Record u i i1 is1, key_sound one i1 rest (last is2 e2)), refl)))

finds_with_duplicates : Finds g.with_duplicates r.after_with_duplicates
unfolding r.after_with_duplicates
finds_with_duplicates = finds_past w.With (word w.Duplicates) (after_word w.Duplicates) (finds_word w.Duplicates)

alternate_key_sound : Sound (IsClause kind.AlternateKey) r.alternate_key_reader
unfolding r.alternate_key_reader
alternate_key_sound x i rest e =
    unstep (read.expect w.Alternate i) _ e (λ u i1 is1 e1.
    unstep (read.skip w.Record i1) _ e1 (λ v i2 is2 e2.
    unstep (r.key_reader i2) _ e2 (λ key i3 is3 e3.
    unstep (read.presence_reader r.after_with_duplicates i3) _ e3 (λ duplicates i4 is4 e4.
    subst (λ y. IsClause kind.AlternateKey y i rest) (value e4) (
      (
        i1,
        word_sound w.Alternate u i i1 is1,
        (
          i2,
          skip_sound w.Record v i1 i2 is2,
          (i3, key_sound key i2 i3 is3, stands_sound finds_with_duplicates duplicates i3 rest (last is4 e4)),
        ),
      ),
      refl,
    )))))

status_sound : Sound (IsClause kind.Status) r.status_reader
unfolding r.status_reader
status_sound x i rest e =
    unstep (read.skip w.File i) _ e (λ u i1 is1 e1.
    unstep (read.expect w.Status i1) _ e1 (λ v i2 is2 e2.
    unstep (read.skip w.Is i2) _ e2 (λ t i3 is3 e3.
    unstep (reference_reader i3) _ e3 (λ one i4 is4 e4.
    subst (λ y. IsClause kind.Status y i rest) (value e4) (
      (
        i1,
        skip_sound w.File u i i1 is1,
        (
          i2,
          word_sound w.Status v i1 i2 is2,
          (i3, skip_sound w.Is t i2 i3 is3, reference_sound one i3 rest (last is4 e4)),
        ),
      ),
      refl,
    )))))

pub clause_sound : ClausesSound select_clauses clause_reader
unfolding r.clause_reader
clause_sound kind.Organization x i rest begun e = organization_sound x i rest begun e
clause_sound kind.Access x i rest begun e = access_sound x i rest e
clause_sound kind.RelativeKey x i rest begun e = relative_key_sound x i rest e
clause_sound kind.RecordKey x i rest begun e = record_key_sound x i rest e
clause_sound kind.AlternateKey x i rest begun e = alternate_key_sound x i rest e
clause_sound kind.Status x i rest begun e = status_sound x i rest e

-- ---- what is spelled is read

key_complete : {Allowed : Halt → Type 0} → Complete Allowed g.key r.key_reader
unfolding r.key_reader
key_complete x i rest (i1, key, (i2, is, item)) =
    step (read.skip w.Key i) _ (skip_complete w.Key tt i i1 key)
    (step (read.skip w.Is i1) _ (skip_complete w.Is tt i1 i2 is) (reference_complete x i2 rest item))

pub clause_complete : {Allowed : Halt → Type 0} → ClausesComplete select_clauses clause_reader Allowed
unfolding r.clause_reader r.organization_reader r.access_reader r.relative_key_reader r.record_key_reader
    r.alternate_key_reader r.status_reader
clause_complete (clause_as.Organization one) i rest ((i1, led, told), others) =
    step (skip_led w.Organization i) _ (skip_led_complete w.Organization tt i i1 led)
    (step (one_token organization_in i1) _ (one_token_complete organization_in one i1 rest told) (Reached refl))
clause_complete (clause_as.Access one) i rest (i1, first, (i2, mode, (i3, is, told))) =
    step (read.expect w.Access i) _ (word_complete w.Access tt i i1 first)
    (step (read.skip w.Mode i1) _ (skip_complete w.Mode tt i1 i2 mode)
    (step (read.skip w.Is i2) _ (skip_complete w.Is tt i2 i3 is)
    (step (one_token access_in i3) _ (one_token_complete access_in one i3 rest told) (Reached refl))))
clause_complete (clause_as.RelativeKey one) i rest (i1, first, key) =
    step (read.expect w.Relative i) _ (word_complete w.Relative tt i i1 first)
    (step (r.key_reader i1) _ (key_complete one i1 rest key) (Reached refl))
clause_complete (clause_as.RecordKey one) i rest (i1, first, key) =
    step (read.expect w.Record i) _ (word_complete w.Record tt i i1 first)
    (step (r.key_reader i1) _ (key_complete one i1 rest key) (Reached refl))
clause_complete (clause_as.AlternateKey one) i rest (i1, first, (i2, row, (i3, key, duplicates))) =
    step (read.expect w.Alternate i) _ (word_complete w.Alternate tt i i1 first)
    (step (read.skip w.Record i1) _ (skip_complete w.Record tt i1 i2 row)
    (step (r.key_reader i2) _ (key_complete one.key i2 i3 key)
    (step (read.presence_reader r.after_with_duplicates i3) _
    (stands_complete finds_with_duplicates one.duplicates i3 rest duplicates) (Reached refl))))
clause_complete (clause_as.Status one) i rest (i1, file, (i2, first, (i3, is, item))) =
    step (read.skip w.File i) _ (skip_complete w.File tt i i1 file)
    (step (read.expect w.Status i1) _ (word_complete w.Status tt i1 i2 first)
    (step (read.skip w.Is i2) _ (skip_complete w.Is tt i2 i3 is)
    (step (reference_reader i3) _ (reference_complete one i3 rest item) (Reached refl))))

-- ---- how a clause begins

access_word : same_word w.Access w.Relative ≡ false
unfolding same_word
access_word = refl

record_word : same_word w.Record w.Relative ≡ false
unfolding same_word
record_word = refl

alternate_word : same_word w.Alternate w.Relative ≡ false
unfolding same_word
alternate_word = refl

file_word : same_word w.File w.Relative ≡ false
unfolding same_word
file_word = refl

status_word : same_word w.Status w.Relative ≡ false
unfolding same_word
status_word = refl

pub clause_stands : ClausesStand select_clauses clause_reader
clause_stands (clause_as.Organization one) i rest s = organization_stands one i rest s
clause_stands (clause_as.Access one) i rest s = stands w.Access access_word i s.0 s.1
clause_stands (clause_as.RelativeKey one) i rest s = relative_stands one i s.0 rest s.1 s.2
clause_stands (clause_as.RecordKey one) i rest s = stands w.Record record_word i s.0 s.1
clause_stands (clause_as.AlternateKey one) i rest s = stands w.Alternate alternate_word i s.0 s.1
clause_stands (clause_as.Status one) i rest (i1, inl file, more) = stands w.File file_word i i1 file
clause_stands (clause_as.Status one) i rest (i1, inr (same, absent), (i2, first, more)) =
    ap clause_at same ∙ stands w.Status status_word i1 i2 first

-- ---- a clause takes a token

key_shrinks : Shrinks g.key
key_shrinks one i rest (i1, key, (i2, is, item)) =
    let a = skip_shrinks w.Key i i1 key in
    let b = skip_shrinks w.Is i1 i2 is in
    let c = reference_shrinks one i2 rest item in omega arith

with_duplicates_shrinks : (i rest : List Token) → g.with_duplicates i rest → length rest ≤ length i
with_duplicates_shrinks i rest (i1, with_word, duplicates) =
    let a = skip_shrinks w.With i i1 with_word in let b = word_shrinks w.Duplicates i1 rest duplicates in omega arith

pub clause_shrinks : Shrinks g.clause
clause_shrinks (clause_as.Organization one) i rest ((i1, led, told), others) =
    let a = led_shrinks w.Organization i i1 led in let b =
    telling_shrinks organization_in one i1 rest told in omega arith
clause_shrinks (clause_as.Access one) i rest (i1, first, (i2, mode, (i3, is, told))) =
    let a = word_shrinks w.Access i i1 first in
    let b = skip_shrinks w.Mode i1 i2 mode in
    let c = skip_shrinks w.Is i2 i3 is in
    let d = telling_shrinks access_in one i3 rest told in omega arith
clause_shrinks (clause_as.RelativeKey one) i rest (i1, first, key) =
    let a = word_shrinks w.Relative i i1 first in let b = key_shrinks one i1 rest key in omega arith
clause_shrinks (clause_as.RecordKey one) i rest (i1, first, key) =
    let a = word_shrinks w.Record i i1 first in let b = key_shrinks one i1 rest key in omega arith
clause_shrinks (clause_as.AlternateKey one) i rest (i1, first, (i2, row, (i3, key, duplicates))) =
    let a = word_shrinks w.Alternate i i1 first in
    let b = skip_shrinks w.Record i1 i2 row in
    let c = key_shrinks one.key i2 i3 key in
    let d = stands_shrinks with_duplicates_shrinks one.duplicates i3 rest duplicates in omega arith
clause_shrinks (clause_as.Status one) i rest (i1, file, (i2, first, (i3, is, item))) =
    let a = skip_shrinks w.File i i1 file in
    let b = word_shrinks w.Status i1 i2 first in
    let c = skip_shrinks w.Is i2 i3 is in
    let d = reference_shrinks one i3 rest item in omega arith
