-- Files with the entries of their records: what is read is spelled, and what is spelled is read.
use Rattle.std.proofs.Common.{◌≡◌, true, List, [], ◌∷◌, refl, subst, arith}
use Rattle.tokens.specs.declared.reserved.Reserved.{Reserved}
use Rattle.tokens.specs.declared.reserved.Reserved.TheVariants as w
use Rattle.tokens.specs.declared.token.Token.{Token}
use Rattle.source_tree.specs.declared.entry.Entry.{Entry}
use Rattle.source_tree.specs.declared.select.FileDescription.{FileDescription}
use Rattle.grammar.specs.declared.fault.Halt.{Halt}
use Rattle.grammar.specs.Parts.{Part, several, lookahead}
use Rattle.grammar.specs.Reading as read
use Rattle.grammar.proofs.Outcomes.{Reached, step, unstep, value, last}
use Rattle.grammar.proofs.Looking.{word_begins, tests_tested}
use Rattle.grammar.proofs.Lists as lists
use Rattle.grammar.proofs.Lists.{Sound, Complete, Shrinks, Starts}
use Rattle.grammar.proofs.Parts.{name_sound, name_complete, name_shrinks, word_sound, word_complete, word_shrinks}
use Rattle.grammar.proofs.Parts.{period_sound, period_complete, period_shrinks, heading_sound, heading_complete}
use Rattle.expressions.specs.Subscripts.{begins_integer}
use Rattle.grammar.specs.Gathering.{gathering_reader}
use Rattle.data_division.specs.FileClauses.{file_clauses, no_file_clauses, file_clause_reader}
use Rattle.data_division.specs.Entries.{entry}
use Rattle.data_division.specs.EntryReading.{entry_reader}
use Rattle.data_division.specs.Files as g
use Rattle.data_division.specs.Files.{begins_file}
use Rattle.grammar.proofs.Listed.{BeginsWith, listed_sound, listed_complete}
use Rattle.data_division.proofs.Exact.Entries.{entry_sound, entry_complete, entry_shrinks, entry_starts}
use Rattle.data_division.proofs.Exact.FileClauses.{clauses_sound, clauses_complete, clauses_shrink}

-- ---- the entries of records

abbrev records : List Entry → Part
records = several entry (lookahead begins_integer)

records_sound : Sound records (read.several entry_reader begins_integer)
records_sound = lists.several_sound entry entry_reader (lookahead begins_integer) begins_integer
    (tests_tested begins_integer) entry_sound

records_complete : {Allowed : Halt → Type 0} → Complete Allowed records (read.several entry_reader begins_integer)
records_complete {Allowed = Allowed} =
    lists.several_complete entry entry_reader (lookahead begins_integer) begins_integer (tests_tested begins_integer)
    Allowed (entry_complete {Allowed = Allowed}) entry_shrinks entry_starts

records_shrink : Shrinks records
records_shrink = lists.several_shrinks entry (lookahead begins_integer) entry_shrinks

-- ---- a file

file_sound : Sound g.file g.file_reader
unfolding g.file_reader
file_sound x i rest e =
    unstep (read.expect w.Fd i) _ e (λ u i1 is1 e1.
    unstep (read.name i1) _ e1 (λ given i2 is2 e2.
    unstep (gathering_reader file_clauses file_clause_reader no_file_clauses i2) _ e2 (λ clauses i3 is3 e3.
    unstep (read.period i3) _ e3 (λ v i4 is4 e4.
    unstep (read.several entry_reader begins_integer i4) _ e4 (λ all i5 is5 e5.
    subst (λ y. g.file y i rest) (value e5) (
      i1,
      word_sound w.Fd u i i1 is1,
      (
        i2,
        name_sound given i1 i2 is2,
        (
          i3,
          (clauses, clauses_sound clauses i2 i3 is3),
          (i4, period_sound v i3 i4 is4, records_sound all i4 rest (last is5 e5)),
        ),
      ),
    ))))))

file_complete : {Allowed : Halt → Type 0} → Complete Allowed g.file g.file_reader
unfolding g.file_reader
file_complete x i rest (i1, fd, (i2, named, (i3, (clauses, stated), (i4, end, all)))) =
    step (read.expect w.Fd i) _ (word_complete w.Fd tt i i1 fd)
    (step (read.name i1) _ (name_complete x.name i1 i2 named)
    (step (gathering_reader file_clauses file_clause_reader no_file_clauses i2) _
    (clauses_complete clauses i2 i3 stated)
    (step (read.period i3) _ (period_complete tt i3 i4 end)
    (step (read.several entry_reader begins_integer i4) _ (records_complete x.entries i4 rest all) (Reached refl)))))

file_shrinks : Shrinks g.file
file_shrinks x i rest (i1, fd, (i2, named, (i3, (clauses, stated), (i4, end, all)))) =
    let a = word_shrinks w.Fd i i1 fd in
    let b = name_shrinks x.name i1 i2 named in
    let c = clauses_shrink clauses i2 i3 stated in
    let d = period_shrinks i3 i4 end in
    let e = records_shrink x.entries i4 rest all in omega arith

file_starts : Starts begins_file g.file
file_starts x i rest s = word_begins w.Fd i s.0 s.1

-- ---- the file section

abbrev section_words : List Reserved
section_words = w.File ∷ w.Section ∷ []

abbrev files : List FileDescription → Part
files = several g.file (lookahead begins_file)

files_sound : Sound files (read.several g.file_reader begins_file)
files_sound =
    lists.several_sound g.file g.file_reader (lookahead begins_file) begins_file (tests_tested begins_file) file_sound

files_complete : {Allowed : Halt → Type 0} → Complete Allowed files (read.several g.file_reader begins_file)
files_complete {Allowed = Allowed} =
    lists.several_complete g.file g.file_reader (lookahead begins_file) begins_file (tests_tested begins_file) Allowed
    (file_complete {Allowed = Allowed}) file_shrinks file_starts

described_sound : Sound g.described_files g.described_reader
unfolding g.described_reader
described_sound x i rest e =
    unstep (read.heading_reader section_words i) _ e
    (λ u i1 is1 e1. (i1, heading_sound section_words u i i1 is1, files_sound x i1 rest e1))

described_complete : {Allowed : Halt → Type 0} → Complete Allowed g.described_files g.described_reader
unfolding g.described_reader
described_complete x i rest (i1, words, all) =
    step (read.heading_reader section_words i) _ (heading_complete section_words tt i i1 words)
    (files_complete x i1 rest all)

described_begins : (x : List FileDescription) → BeginsWith w.File (g.described_files x)
described_begins x i rest s = word_begins w.File i s.1.0 s.1.1

pub file_section_sound : Sound g.file_section g.file_section_reader
unfolding g.file_section_reader
file_section_sound = listed_sound w.File described_sound

pub file_section_complete : {Allowed : Halt → Type 0} → Complete Allowed g.file_section g.file_section_reader
unfolding g.file_section_reader
file_section_complete {Allowed = Allowed} =
    listed_complete w.File described_begins (described_complete {Allowed = Allowed})
