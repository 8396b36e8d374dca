-- The data division: what is read is spelled, and what is spelled is read.
use Rattle.std.proofs.Common.{◌≡◌, Bool, true, false, List, [], ◌∷◌, Ok, inl, inr, refl, sym, ap, ◌∙◌, subst}
use Rattle.std.specs.Prelude.{if◌then◌else◌}
use Rattle.tokens.specs.declared.reserved.Reserved.{Reserved}
use Rattle.tokens.specs.declared.reserved.Reserved.TheVariants as w
use Rattle.tokens.specs.declared.token.Token.{Token}
use Rattle.source_tree.specs.declared.entry.Entry.{Entry}
use Rattle.source_tree.specs.declared.select.FileDescription.{FileDescription}
use Rattle.grammar.specs.declared.fault.Halt.{Halt}
use Rattle.grammar.specs.Parts.{lookahead}
use Rattle.grammar.specs.Reading as read
use Rattle.grammar.specs.Reading.{begins_word}
use Rattle.grammar.proofs.Outcomes.{Reached, step, unstep, value, after, last}
use Rattle.grammar.proofs.Looking.{tests_tested, word_begins}
use Rattle.grammar.proofs.Lists as lists
use Rattle.grammar.proofs.Lists.{Sound, Complete}
use Rattle.grammar.proofs.Parts.{heading_sound, heading_complete}
use Rattle.expressions.specs.Subscripts.{begins_integer}
use Rattle.data_division.specs.declared.division.DataDivision.{DataDivision}
use Rattle.data_division.specs.Entries.{entry}
use Rattle.data_division.specs.EntryReading.{entry_reader}
use Rattle.data_division.specs.Files.{file_section_reader}
use Rattle.data_division.specs.Division as g
use Rattle.grammar.proofs.OptionalWords.{tests_word}
use Rattle.grammar.proofs.Listed.{BeginsWith, listed_sound, listed_complete}
use Rattle.data_division.proofs.Exact.Entries.{entry_sound, entry_complete, entry_shrinks, entry_starts}
use Rattle.data_division.proofs.Exact.Files.{file_section_sound, file_section_complete}

-- ---- working storage

abbrev section_words : List Reserved
section_words = w.WorkingStorage ∷ w.Section ∷ []

stored_sound : Sound g.working_storage_section g.stored_reader
unfolding g.stored_reader
stored_sound x i rest e =
    unstep (read.heading_reader section_words i) _ e (λ u i1 is1 e1. (
      i1,
      heading_sound section_words u i i1 is1,
      lists.any_sound entry entry_reader (lookahead begins_integer) begins_integer (tests_tested begins_integer)
          entry_sound x i1 rest e1,
    ))

stored_complete : {Allowed : Halt → Type 0} → Complete Allowed g.working_storage_section g.stored_reader
unfolding g.stored_reader
stored_complete {Allowed = Allowed} x i rest (i1, words, all) =
    step (read.heading_reader section_words i) _ (heading_complete section_words tt i i1 words)
    (lists.any_complete entry entry_reader (lookahead begins_integer) begins_integer (tests_tested begins_integer)
    Allowed
    (entry_complete {Allowed = Allowed}) entry_shrinks entry_starts x i1 rest all)

stored_begins : (x : List Entry) → BeginsWith w.WorkingStorage (g.working_storage_section x)
stored_begins x i rest s = word_begins w.WorkingStorage i s.1.0 s.1.1

working_storage_sound : Sound g.working_storage g.working_storage_reader
unfolding g.working_storage_reader
working_storage_sound = listed_sound w.WorkingStorage stored_sound

working_storage_complete : {Allowed : Halt → Type 0} → Complete Allowed g.working_storage g.working_storage_reader
unfolding g.working_storage_reader
working_storage_complete {Allowed = Allowed} =
    listed_complete w.WorkingStorage stored_begins (stored_complete {Allowed = Allowed})

-- ---- the division

abbrev division_words : List Reserved
division_words = w.Data ∷ w.Division ∷ []

sections_sound : Sound g.sections g.sections_reader
unfolding g.sections_reader
sections_sound x i rest e =
    unstep (read.heading_reader division_words i) _ e (λ u i1 is1 e1.
    unstep (file_section_reader i1) _ e1 (λ files i2 is2 e2.
    unstep (g.working_storage_reader i2) _ e2 (λ storage i3 is3 e3.
    subst (λ y. g.sections y i rest) (value e3) (
      i1,
      heading_sound division_words u i i1 is1,
      (i2, file_section_sound files i1 i2 is2, working_storage_sound storage i2 rest (last is3 e3)),
    ))))

sections_complete : {Allowed : Halt → Type 0} → Complete Allowed g.sections g.sections_reader
unfolding g.sections_reader
sections_complete x i rest (i1, words, (i2, files, storage)) =
    step (read.heading_reader division_words i) _ (heading_complete division_words tt i i1 words)
    (step (file_section_reader i1) _ (file_section_complete x.files i1 i2 files)
    (step (g.working_storage_reader i2) _ (working_storage_complete x.storage i2 rest storage) (Reached refl)))

abbrev described : List FileDescription → List Entry → DataDivision
described files storage = record { files = files; storage = storage }

pub data_division_sound : Sound g.data_division g.data_division_reader
unfolding g.data_division_reader
data_division_sound x i rest e = go (begins_word w.Data i) refl e
  where
    go : (b : Bool) → begins_word w.Data i ≡ b
        → (if b then g.sections_reader i else Ok (described [] [], i)) ≡ Ok (x, rest) → g.data_division x i rest
    go true is e = inl (sections_sound x i rest e)
    go false is e =
        subst (λ y. g.data_division y i rest) (value e) (inr (refl, refl, (after e, (tests_word w.Data).fails i is)))

pub data_division_complete : {Allowed : Halt → Type 0} → Complete Allowed g.data_division g.data_division_reader
unfolding g.data_division_reader
data_division_complete x i rest (inl s) = rw (word_begins w.Data i s.1.0 s.1.1) (sections_complete x i rest s)
data_division_complete x i rest (inr (no_files, no_storage, out)) =
    rw ((tests_word w.Data).refuses i out.1)
    (Reached (ap (λ j. Ok (described [] [], j)) out.0 ∙ ap (λ files. Ok (described files [], rest)) (sym no_files)
    ∙ ap (λ storage. Ok (described x.files storage, rest)) (sym no_storage)))
