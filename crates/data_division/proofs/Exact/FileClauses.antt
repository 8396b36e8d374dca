-- The clauses of an FD: what is read is spelled, and what is spelled is read.
use Rattle.std.proofs.Common.{◌≡◌, ◌<◌, ◌≤◌, true, false, List, length, Some, refl, ap, ◌∙◌, subst, arith}
use Rattle.tokens.specs.declared.reserved.Reserved.{Reserved}
use Rattle.tokens.specs.declared.reserved.Reserved.TheVariants as w
use Rattle.tokens.specs.declared.token.Token.{Token}
use Rattle.tokens.specs.Reserved.{same_word}
use Rattle.source_tree.specs.declared.name.Name.{Name}
use Rattle.grammar.specs.declared.fault.Halt.{Halt}
use Rattle.grammar.specs.Parts as parts
use Rattle.grammar.specs.Parts.{Part, word, lookahead, begins_name}
use Rattle.grammar.specs.Reading as read
use Rattle.grammar.proofs.Outcomes.{Answers, Reached, step, unstep, value, last}
use Rattle.grammar.proofs.Looking.{word_begins, tests_tested}
use Rattle.grammar.proofs.Lists as lists
use Rattle.grammar.proofs.Lists.{Sound, Complete, Shrinks}
use Rattle.grammar.proofs.Parts.{name_sound, name_complete, name_shrinks, name_starts, one_token_sound}
use Rattle.grammar.proofs.Parts.{one_token_complete, telling_shrinks, word_sound, word_complete, word_shrinks}
use Rattle.grammar.proofs.Parts.{skip_sound, skip_complete, skip_shrinks}
use Rattle.expressions.specs.Subscripts.{integer, integer_in, integer_reader}
use Rattle.data_division.specs.declared.file_clauses.FileClause.{FileClause}
use Rattle.data_division.specs.declared.file_clauses.FileClause.TheVariants as clause_as
use Rattle.data_division.specs.declared.file_clauses.FileClauses.{FileClauses}
use Rattle.data_division.specs.Clauses.{either}
use Rattle.data_division.specs.ClauseReading.{either_reader, skip_either}
use Rattle.grammar.specs.Gathering.{clauses_from, gathering_reader}
use Rattle.data_division.specs.FileClauses as g
use Rattle.data_division.specs.FileClauses.{file_clause, file_clauses, file_clause_of, file_clause_in, file_clause_at}
use Rattle.data_division.specs.FileClauses.{no_file_clauses, file_clause_reader}
use Rattle.data_division.proofs.Exact.Optional.{either_sound, either_complete, either_shrinks, skip_either_sound}
use Rattle.data_division.proofs.Exact.Optional.{skip_either_complete, skip_either_shrinks}
use Rattle.grammar.proofs.Listed.{unless_sound, unless_complete, unless_shrinks}
use Rattle.grammar.proofs.Gathering.{gathering_sound, gathering_complete, gathering_shrinks}

-- ---- words of one meaning differ

record_words : same_word w.Records w.Record ≡ false
unfolding same_word
record_words = refl

is_words : same_word w.Are w.Is ≡ false
unfolding same_word
is_words = refl

label_words : same_word w.Omitted w.Standard ≡ false
unfolding same_word
label_words = refl

size_words : same_word w.Characters w.Records ≡ false
unfolding same_word
size_words = refl

-- ---- sizes, and names

size_sound : Sound integer integer_reader
unfolding integer_reader
size_sound = one_token_sound integer_in

size_complete : {Allowed : Halt → Type 0} → Complete Allowed integer integer_reader
unfolding integer_reader
size_complete {Allowed = Allowed} = one_token_complete integer_in {Allowed = Allowed}

to_size_sound : Sound (λ u. g.to_size) g.to_size_reader
unfolding g.to_size_reader
to_size_sound u i rest e =
    unstep (read.expect w.To i) _ e (λ v i1 is1 e1.
    unstep (integer_reader i1) _ e1
    (λ size i2 is2 e2. (i1, word_sound w.To v i i1 is1, (size, size_sound size i1 rest (last is2 e2)))))

to_size_complete : {Allowed : Halt → Type 0} → Complete Allowed (λ u. g.to_size) g.to_size_reader
unfolding g.to_size_reader
to_size_complete u i rest (i1, to, (size, told)) =
    step (read.expect w.To i) _ (word_complete w.To tt i i1 to)
    (step (integer_reader i1) _ (size_complete size i1 rest told) (Reached refl))

to_size_begins : (i rest : List Token) → g.to_size i rest → read.begins_word w.To i ≡ true
to_size_begins i rest s = word_begins w.To i s.0 s.1

to_size_shrinks : (i rest : List Token) → g.to_size i rest → length rest < length i
to_size_shrinks i rest (i1, to, (size, told)) =
    let a = word_shrinks w.To i i1 to in let b = telling_shrinks integer_in size i1 rest told in omega arith

abbrev names : List Name → Part
names = parts.several parts.name (lookahead begins_name)

names_sound : Sound names (read.several read.name begins_name)
names_sound =
    lists.several_sound parts.name read.name (lookahead begins_name) begins_name (tests_tested begins_name) name_sound

names_complete : {Allowed : Halt → Type 0} → Complete Allowed names (read.several read.name begins_name)
names_complete {Allowed = Allowed} =
    lists.several_complete parts.name read.name (lookahead begins_name) begins_name (tests_tested begins_name) Allowed
    (name_complete {Allowed = Allowed}) name_shrinks name_starts

names_shrink : Shrinks names
names_shrink = lists.several_shrinks parts.name (lookahead begins_name) name_shrinks

-- ---- what is read is spelled

-- these tokens spell this clause, which is this one
abbrev IsClause : FileClause → FileClause → Part
IsClause kind one = λ from rest. file_clause one from rest × (one ≡ kind)

label_sound : Sound (IsClause clause_as.LabelRecords) g.label_records_reader
unfolding g.label_records_reader
label_sound x i rest e =
    unstep (read.expect w.Label i) _ e (λ u i1 is1 e1.
    unstep (either_reader w.Record w.Records i1) _ e1 (λ v i2 is2 e2.
    unstep (skip_either w.Is w.Are i2) _ e2 (λ t i3 is3 e3.
    unstep (either_reader w.Standard w.Omitted i3) _ e3 (λ z i4 is4 e4.
    subst (λ y. IsClause clause_as.LabelRecords y i rest) (value e4) (
      (
        i1,
        word_sound w.Label u i i1 is1,
        (
          i2,
          either_sound w.Record w.Records v i1 i2 is2,
          (i3, skip_either_sound w.Is w.Are t i2 i3 is3, either_sound w.Standard w.Omitted z i3 rest (last is4 e4)),
        ),
      ),
      refl,
    )))))

block_sound : Sound (IsClause clause_as.BlockContains) g.block_contains_reader
unfolding g.block_contains_reader
block_sound x i rest e =
    unstep (read.expect w.Block i) _ e (λ u i1 is1 e1.
    unstep (read.skip w.Contains i1) _ e1 (λ v i2 is2 e2.
    unstep (integer_reader i2) _ e2 (λ size i3 is3 e3.
    unstep (g.unless_to_size i3) _ e3 (λ t i4 is4 e4.
    unstep (skip_either w.Records w.Characters i4) _ e4 (λ z i5 is5 e5.
    let to = unless_sound w.To to_size_sound t i3 i4 is4 in
    subst (λ y. IsClause clause_as.BlockContains y i rest) (value e5) (
      (
        i1,
        word_sound w.Block u i i1 is1,
        (
          i2,
          skip_sound w.Contains v i1 i2 is2,
          (
            i3,
            (size, size_sound size i2 i3 is3),
            (i4, to, skip_either_sound w.Records w.Characters z i4 rest (last is5 e5)),
          ),
        ),
      ),
      refl,
    ))))))

record_sound : Sound (IsClause clause_as.RecordContains) g.record_contains_reader
unfolding g.record_contains_reader
record_sound x i rest e =
    unstep (read.expect w.Record i) _ e (λ u i1 is1 e1.
    unstep (read.skip w.Contains i1) _ e1 (λ v i2 is2 e2.
    unstep (integer_reader i2) _ e2 (λ size i3 is3 e3.
    unstep (read.skip w.Characters i3) _ e3 (λ z i4 is4 e4.
    subst (λ y. IsClause clause_as.RecordContains y i rest) (value e4) (
      (
        i1,
        word_sound w.Record u i i1 is1,
        (
          i2,
          skip_sound w.Contains v i1 i2 is2,
          (i3, (size, size_sound size i2 i3 is3), skip_sound w.Characters z i3 rest (last is4 e4)),
        ),
      ),
      refl,
    )))))

data_sound : Sound (IsClause clause_as.DataRecords) g.data_records_reader
unfolding g.data_records_reader
data_sound x i rest e =
    unstep (read.expect w.Data i) _ e (λ u i1 is1 e1.
    unstep (either_reader w.Record w.Records i1) _ e1 (λ v i2 is2 e2.
    unstep (skip_either w.Is w.Are i2) _ e2 (λ t i3 is3 e3.
    unstep (read.several read.name begins_name i3) _ e3 (λ all i4 is4 e4.
    subst (λ y. IsClause clause_as.DataRecords y i rest) (value e4) (
      (
        i1,
        word_sound w.Data u i i1 is1,
        (
          i2,
          either_sound w.Record w.Records v i1 i2 is2,
          (i3, skip_either_sound w.Is w.Are t i2 i3 is3, (all, names_sound all i3 rest (last is4 e4))),
        ),
      ),
      refl,
    )))))

clause_sound : (kind : FileClause) → Sound (IsClause kind) (g.file_clause_reader kind)
unfolding g.file_clause_reader
clause_sound clause_as.LabelRecords = label_sound
clause_sound clause_as.BlockContains = block_sound
clause_sound clause_as.RecordContains = record_sound
clause_sound clause_as.DataRecords = data_sound

-- ---- what is spelled is read

clause_complete : {Allowed : Halt → Type 0} (x : FileClause) (i rest : List Token) → file_clause x i rest
    → Answers Allowed (g.file_clause_reader x i) x rest
unfolding g.file_clause_reader g.label_records_reader g.block_contains_reader g.record_contains_reader
    g.data_records_reader
clause_complete clause_as.LabelRecords i rest (i1, first, (i2, rows, (i3, is, label))) =
    step (read.expect w.Label i) _ (word_complete w.Label tt i i1 first)
    (step (either_reader w.Record w.Records i1) _ (either_complete w.Record w.Records record_words tt i1 i2 rows)
    (step (skip_either w.Is w.Are i2) _ (skip_either_complete w.Is w.Are is_words tt i2 i3 is)
    (step (either_reader w.Standard w.Omitted i3) _ (either_complete w.Standard w.Omitted label_words tt i3 rest label)
    (Reached refl))))
clause_complete clause_as.BlockContains i rest (i1, first, (i2, contains, (i3, (size, told), (i4, to, unit)))) =
    step (read.expect w.Block i) _ (word_complete w.Block tt i i1 first)
    (step (read.skip w.Contains i1) _ (skip_complete w.Contains tt i1 i2 contains)
    (step (integer_reader i2) _ (size_complete size i2 i3 told)
    (step (g.unless_to_size i3) _ (unless_complete w.To to_size_begins to_size_complete tt i3 i4 to)
    (step (skip_either w.Records w.Characters i4) _
    (skip_either_complete w.Records w.Characters size_words tt i4 rest unit) (Reached refl)))))
clause_complete clause_as.RecordContains i rest (i1, first, (i2, contains, (i3, (size, told), unit))) =
    step (read.expect w.Record i) _ (word_complete w.Record tt i i1 first)
    (step (read.skip w.Contains i1) _ (skip_complete w.Contains tt i1 i2 contains)
    (step (integer_reader i2) _ (size_complete size i2 i3 told)
    (step (read.skip w.Characters i3) _ (skip_complete w.Characters tt i3 rest unit) (Reached refl))))
clause_complete clause_as.DataRecords i rest (i1, first, (i2, rows, (i3, is, (all, named)))) =
    step (read.expect w.Data i) _ (word_complete w.Data tt i i1 first)
    (step (either_reader w.Record w.Records i1) _ (either_complete w.Record w.Records record_words tt i1 i2 rows)
    (step (skip_either w.Is w.Are i2) _ (skip_either_complete w.Is w.Are is_words tt i2 i3 is)
    (step (read.several read.name begins_name i3) _ (names_complete all i3 rest named) (Reached refl))))

-- ---- the first word of a clause decides which one it is

stands : (one : Reserved) (i rest : List Token) → word one i rest → file_clause_at i ≡ file_clause_of one
stands one i rest (first, is, kind) = ap file_clause_at is ∙ ap file_clause_in kind

clause_stands : (x : FileClause) (i rest : List Token) → file_clause x i rest → file_clause_at i ≡ Some x
clause_stands clause_as.LabelRecords i rest s = stands w.Label i s.0 s.1
clause_stands clause_as.BlockContains i rest s = stands w.Block i s.0 s.1
clause_stands clause_as.RecordContains i rest s = stands w.Record i s.0 s.1
clause_stands clause_as.DataRecords i rest s = stands w.Data i s.0 s.1

-- ---- a clause takes a token

clause_shrinks : Shrinks file_clause
clause_shrinks clause_as.LabelRecords i rest (i1, first, (i2, rows, (i3, is, label))) =
    let a = word_shrinks w.Label i i1 first in
    let b = either_shrinks w.Record w.Records i1 i2 rows in
    let c = skip_either_shrinks w.Is w.Are i2 i3 is in
    let d = either_shrinks w.Standard w.Omitted i3 rest label in omega arith
clause_shrinks clause_as.BlockContains i rest (i1, first, (i2, contains, (i3, (size, told), (i4, to, unit)))) =
    let a = word_shrinks w.Block i i1 first in
    let b = skip_shrinks w.Contains i1 i2 contains in
    let c = telling_shrinks integer_in size i2 i3 told in
    let d = unless_shrinks g.to_size w.To to_size_shrinks i3 i4 to in
    let e = skip_either_shrinks w.Records w.Characters i4 rest unit in omega arith
clause_shrinks clause_as.RecordContains i rest (i1, first, (i2, contains, (i3, (size, told), unit))) =
    let a = word_shrinks w.Record i i1 first in
    let b = skip_shrinks w.Contains i1 i2 contains in
    let c = telling_shrinks integer_in size i2 i3 told in
    let d = skip_shrinks w.Characters i3 rest unit in omega arith
clause_shrinks clause_as.DataRecords i rest (i1, first, (i2, rows, (i3, is, (all, named)))) =
    let a = word_shrinks w.Data i i1 first in
    let b = either_shrinks w.Record w.Records i1 i2 rows in
    let c = skip_either_shrinks w.Is w.Are i2 i3 is in
    let d = names_shrink all i3 rest named in omega arith

-- ---- all clauses

pub clauses_sound :
    Sound (clauses_from file_clauses no_file_clauses) (gathering_reader file_clauses file_clause_reader no_file_clauses)
clauses_sound = gathering_sound file_clauses file_clause_reader (λ kind x i rest begun e. clause_sound kind x i rest e)
    no_file_clauses

pub clauses_complete : {Allowed : Halt → Type 0} → Complete Allowed (clauses_from file_clauses no_file_clauses)
    (gathering_reader file_clauses file_clause_reader no_file_clauses)
clauses_complete {Allowed = Allowed} = gathering_complete file_clauses file_clause_reader Allowed clause_stands
    clause_shrinks (clause_complete {Allowed = Allowed}) no_file_clauses

pub clauses_shrink : (all : FileClauses) (i rest : List Token) → clauses_from file_clauses no_file_clauses all i rest
    → length rest ≤ length i
clauses_shrink = gathering_shrinks file_clauses file_clause_reader clause_shrinks no_file_clauses
