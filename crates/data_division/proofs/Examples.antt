-- Tokens of entries, and what reading them gives.
use Rattle.std.proofs.Common.{◌≡◌, ℕ, true, false, List, [], ◌∷◌, None, Some, refl}
use Rattle.std.specs.Prelude.{Ok, Err}
use Rattle.tokens.specs.declared.reserved.Reserved.{Reserved}
use Rattle.tokens.specs.declared.reserved.Reserved.TheVariants as w
use Rattle.tokens.specs.declared.token.Kind.{Kind}
use Rattle.tokens.specs.declared.token.Kind.TheVariants as k
use Rattle.tokens.specs.declared.token.Token.{Token}
use Rattle.tokens.specs.Reserved.{same_word}
use Rattle.lexical.specs.declared.place.Place.{Place}
use Rattle.lexical.specs.declared.number.Sign.TheVariants as sign
use Rattle.lexical.specs.declared.number.NumericLiteral.{NumericLiteral}
use Rattle.source_tree.specs.declared.name.Name.{Name}
use Rattle.source_tree.specs.declared.literal.Integer.{Integer}
use Rattle.source_tree.specs.declared.literal.LiteralValue.TheVariants as value
use Rattle.source_tree.specs.declared.literal.Literal.{Literal}
use Rattle.source_tree.specs.declared.entry.PictureText.{PictureText}
use Rattle.source_tree.specs.declared.entry.UsageClause.TheVariants as usage
use Rattle.source_tree.specs.declared.entry.SignPosition.TheVariants as position
use Rattle.source_tree.specs.declared.entry.ItemEntry.{ItemEntry}
use Rattle.source_tree.specs.declared.entry.Entry.TheVariants as entry_as
use Rattle.grammar.specs.declared.fault.Halt.TheVariants.{Unexpected}
use Rattle.grammar.specs.OptionalWords as optional
use Rattle.grammar.specs.Reading as read
use Rattle.expressions.specs.Subscripts as subscripts
use Rattle.expressions.specs.Literals as literals
use Rattle.data_division.specs.declared.clause.Clause.TheVariants as clause_as
use Rattle.data_division.specs.ClauseReading as c
use Rattle.grammar.specs.Gathering as gathering
use Rattle.grammar.specs.Gathering.{gathered_clauses}
use Rattle.data_division.specs.Stated as stated
use Rattle.data_division.specs.Stated.{no_clauses, entry_clauses}
use Rattle.data_division.specs.EntryReading as r
use Rattle.data_division.specs.FileClauses as file_clauses
use Rattle.data_division.specs.Files as files
use Rattle.data_division.specs.Division as division

-- a token at a column of line 1; where its characters stand in their list is of no account here
abbrev in_column : ℕ → Place
in_column column = record { line = 1; column = column }

abbrev at : ℕ → Kind → Token
at column kind = record { kind = kind; span = record { start = 0; end = 0 }; place = in_column column }

abbrev word : ℕ → Reserved → Token
word column one = at column (k.Reserved one)

abbrev period : ℕ → Token
period column = at column k.Period

abbrev digits : List ℕ → NumericLiteral
digits whole = record { sign = sign.Unsigned; whole = whole; decimals = [] }

abbrev number : ℕ → List ℕ → Token
number column whole = at column (k.Numeric (digits whole))

-- 01 A, or any name, in columns 8 and 12
abbrev zero_one : List ℕ
zero_one = 48 ∷ 49 ∷ []

abbrev eighty_eight : List ℕ
eighty_eight = 56 ∷ 56 ∷ []

abbrev named : List ℕ → List ℕ → List Token → List Token
named level name more = number 8 level ∷ at 12 (k.Word name) ∷ more

abbrev name_at : ℕ → List ℕ → Name
name_at column characters = record { characters = characters; place = in_column column }

abbrev number_at : ℕ → List ℕ → Literal
number_at column whole = record { value = value.Numeric (digits whole); place = in_column column }

abbrev level_of : List ℕ → Integer
level_of whole = record { digits = whole; place = in_column 8 }

-- 01 A without a clause
abbrev bare : ItemEntry
bare = record {
  level = level_of zero_one;
  name = Some (name_at 12 (65 ∷ []));
  redefines = None;
  picture = None;
  usage = None;
  sign = None;
  occurs = None;
  justified = false;
  blank_when_zero = false;
  value = None;
}

abbrev nine : PictureText
nine = record { characters = 57 ∷ []; place = in_column 30 }

-- every step of reading, so that entries are computed
unfoldable computing : Unit {0}
unfolding same_word read.after_word read.past_word read.expect
    read.skip read.presence_reader read.period read.heading_reader read.here read.one_token read.name read.several_from
    read.several read.any subscripts.integer_reader literals.literal_reader literals.all_literal_reader c.either_reader
    c.skip_either optional.skip_led c.after_separate c.redefines_reader c.picture_reader c.usage_reader c.sign_reader
    c.occurs_reader c.synchronized_reader c.justified_reader c.blank_when_zero_reader c.value_reader c.clause_reader
    gathering.gathering_turns gathering.gathering_reader stated.stated_reader r.given_reader r.filler_reader
    r.named_reader r.item_reader r.through_literal_reader r.last_value_reader r.range_reader r.condition_reader
    r.by_level r.entry_reader file_clauses.label_records_reader file_clauses.to_size_reader
    file_clauses.block_contains_reader file_clauses.record_contains_reader file_clauses.data_records_reader
    file_clauses.file_clause_reader files.file_reader files.described_reader files.file_section_reader
    division.stored_reader division.working_storage_reader division.sections_reader division.data_division_reader
computing = tt

-- 01 A.
no_clause : r.entry_reader (named zero_one (65 ∷ []) (period 13 ∷ [])) ≡ Ok (entry_as.Item bare, [])
unfolding computing
no_clause = refl

-- 01 A VALUE 5 SYNC COMP PIC 9.
any_order :
    r.entry_reader (named zero_one (65 ∷ []) (word 14 w.Value ∷ number 20 (53 ∷ []) ∷ word 22 w.Sync ∷ word 24 w.Comp
    ∷ word 26 w.Pic ∷ at 30 (k.Picture (57 ∷ [])) ∷ period 31 ∷ []))
    ≡ Ok (
      entry_as.Item
          (record bare { picture = Some nine; usage = Some usage.Binary; value = Some (number_at 20 (53 ∷ [])) }),
      [],
    )
unfolding computing
any_order = refl

-- 01 A SIGN LEADING SEPARATE PIC 9.
sign_clause :
    r.entry_reader (named zero_one (65 ∷ []) (word 14 w.Sign ∷ word 16 w.Leading ∷ word 20 w.Separate ∷ word 26 w.Pic
    ∷ at 30 (k.Picture (57 ∷ [])) ∷ period 31 ∷ []))
    ≡ Ok (
      entry_as.Item
          (record bare { picture = Some nine; sign = Some (record { position = position.Leading; separate = true }) }),
      [],
    )
unfolding computing
sign_clause = refl

-- 01 A PIC 9 PIC 9.: refused at the second PIC, three tokens before the end
twice :
    r.entry_reader (named zero_one (65 ∷ [])
    (word 14 w.Pic ∷ at 18 (k.Picture (57 ∷ [])) ∷ word 26 w.Pic ∷ at 30 (k.Picture (57 ∷ [])) ∷ period 31 ∷ []))
    ≡ Err (Unexpected 3)
unfolding computing
twice = refl

-- 88 B VALUES ARE 1 THRU 3 5.
condition_name :
    r.entry_reader (named eighty_eight (66 ∷ []) (word 14 w.Values ∷ word 21 w.Are ∷ number 25 (49 ∷ [])
    ∷ word 27 w.Thru ∷ number 32 (51 ∷ []) ∷ number 34 (53 ∷ []) ∷ period 35 ∷ []))
    ≡ Ok (
      entry_as.Condition (record {
        name = name_at 12 (66 ∷ []);
        values = record { first = number_at 25 (49 ∷ []); last = Some (number_at 32 (51 ∷ [])) }
            ∷ record { first = number_at 34 (53 ∷ []); last = None } ∷ [];
      }),
      [],
    )
unfolding computing
condition_name = refl

-- 88 A PIC 9.: an entry of level 88 has the second form only
condition_with_a_picture : r.entry_reader
    (named eighty_eight (65 ∷ []) (word 26 w.Pic ∷ at 30 (k.Picture (57 ∷ [])) ∷ period 31 ∷ [])) ≡ Err (Unexpected 3)
unfolding computing
condition_with_a_picture = refl

-- DATA DIVISION. WORKING-STORAGE SECTION. 01 A. PROCEDURE ..
in_its_section :
    division.data_division_reader
    (word 8 w.Data ∷ word 13 w.Division ∷ period 21 ∷ word 8 w.WorkingStorage ∷ word 24 w.Section ∷ period 31
    ∷ named zero_one (65 ∷ []) (period 13 ∷ word 8 w.Procedure ∷ []))
    ≡ Ok (record { files = []; storage = entry_as.Item bare ∷ [] }, word 8 w.Procedure ∷ [])
unfolding computing
in_its_section = refl

-- FD F RECORD CONTAINS 80 LABEL RECORDS STANDARD. 01 A.
abbrev fd_tokens : List Token → List Token
fd_tokens more =
    word 8 w.Fd ∷ at 12 (k.Word (70 ∷ [])) ∷ word 14 w.Record ∷ word 21 w.Contains ∷ number 30 (56 ∷ 48 ∷ [])
    ∷ word 33 w.Label ∷ word 39 w.Records ∷ word 47 w.Standard ∷ period 55 ∷ named zero_one (65 ∷ []) (period 13 ∷ more)

-- DATA DIVISION. FILE SECTION. and it
a_file :
    division.data_division_reader (word 8 w.Data ∷ word 13 w.Division ∷ period 21 ∷ word 8 w.File ∷ word 13 w.Section
    ∷ period 20 ∷ fd_tokens (word 8 w.Procedure ∷ []))
    ≡ Ok (
      record { files = record { name = name_at 12 (70 ∷ []); entries = entry_as.Item bare ∷ [] } ∷ []; storage = [] },
      word 8 w.Procedure ∷ [],
    )
unfolding computing
a_file = refl

-- FD F DATA RECORD A DATA RECORD B. 01 A.: refused at the second DATA
data_records_twice :
    files.file_reader (word 8 w.Fd ∷ at 12 (k.Word (70 ∷ [])) ∷ word 14 w.Data ∷ word 19 w.Record
    ∷ at 26 (k.Word (65 ∷ [])) ∷ word 28 w.Data ∷ word 33 w.Record
    ∷ at 40 (k.Word (66 ∷ [])) ∷ period 41 ∷ named zero_one (65 ∷ []) (period 13 ∷ []))
    ≡ Err (Unexpected 7)
unfolding computing
data_records_twice = refl

left_out : division.data_division_reader (word 8 w.Procedure ∷ [])
    ≡ Ok (record { files = []; storage = [] }, word 8 w.Procedure ∷ [])
unfolding computing
left_out = refl

-- ---- clauses together

-- in either order
either_order : gathered_clauses entry_clauses no_clauses (clause_as.Usage usage.Binary ∷ clause_as.Justified ∷ [])
    ≡ gathered_clauses entry_clauses no_clauses (clause_as.Justified ∷ clause_as.Usage usage.Binary ∷ [])
either_order = refl

usage_twice : gathered_clauses entry_clauses no_clauses
    (clause_as.Usage usage.Binary ∷ clause_as.Justified ∷ clause_as.Usage usage.Display ∷ []) ≡ None
usage_twice = refl

synchronized_twice : gathered_clauses entry_clauses no_clauses (clause_as.Synchronized ∷ clause_as.Synchronized ∷ [])
    ≡ None
synchronized_twice = refl
