-- Tokens of a program with a file, and what reading them gives.
use Rattle.std.proofs.Common.{◌≡◌, ℕ, false, List, [], ◌∷◌, ◌++◌, None, Some, refl}
use Rattle.std.specs.Prelude.{Ok, Err}
use Rattle.tokens.specs.declared.reserved.Reserved.TheVariants as w
use Rattle.tokens.specs.declared.token.Kind.TheVariants as k
use Rattle.tokens.specs.declared.token.Token.{Token}
use Rattle.tokens.specs.Reserved.{same_word}
use Rattle.lexical.specs.declared.number.Sign.TheVariants as sign
use Rattle.records.specs.declared.select.Access.TheVariants as access
use Rattle.source_tree.specs.declared.literal.LiteralValue.TheVariants as value
use Rattle.source_tree.specs.declared.expression.Operand.TheVariants as operand
use Rattle.source_tree.specs.declared.arithmetic.Operation.TheVariants.{Add}
use Rattle.source_tree.specs.declared.phrases.Phrases.{Phrases}
use Rattle.source_tree.specs.declared.phrases.FilePhrases.TheVariants.{Absent, AtEnd}
use Rattle.source_tree.specs.declared.file_statement.FileStatement.TheVariants.{Read}
use Rattle.source_tree.specs.declared.control_statement.ControlStatement.TheVariants as ending
use Rattle.source_tree.specs.declared.entry.Entry.{Entry}
use Rattle.source_tree.specs.declared.entry.Entry.TheVariants as entry_as
use Rattle.source_tree.specs.declared.select.OrganizationClause.TheVariants as organization
use Rattle.source_tree.specs.declared.select.Select.{Select}
use Rattle.source_tree.specs.declared.statement.Verb.TheVariants as verb
use Rattle.source_tree.specs.declared.statement.Statement.{Statement}
use Rattle.source_tree.specs.declared.program.Program.{Program}
use Rattle.source_tree.proofs.Examples.{stop_run}
use Rattle.grammar.specs.Reading as read
use Rattle.grammar.specs.Phrases as phrases
use Rattle.expressions.specs.Subscripts as subscripts
use Rattle.expressions.specs.References as references
use Rattle.expressions.specs.Operands as operands
use Rattle.statements.specs.Adding as adding_rule
use Rattle.statements.specs.Arithmetic as arithmetic_rule
use Rattle.statements.specs.Continuing as continuing_rule
use Rattle.statements.specs.FilePhrases as file_phrases
use Rattle.statements.specs.Filing as filing_rule
use Rattle.statements.specs.Receivers as receivers_rule
use Rattle.statements.specs.StopRun as stop_run_rule
use Rattle.statements.specs.Reading as statements
use Rattle.grammar.specs.Gathering as gathering
use Rattle.data_division.specs.Stated as stated
use Rattle.data_division.specs.EntryReading as entries
use Rattle.data_division.specs.Files as files
use Rattle.data_division.specs.Division as division
use Rattle.data_division.specs.Forms as forms
use Rattle.file_control.specs.Selects as selects
use Rattle.divisions.specs.Environment as environment
use Rattle.divisions.specs.Reading as r
use Rattle.divisions.specs.Faults.{parse_of}
use Rattle.divisions.proofs.Examples.{place, at, word, period, stop_tokens, letter, named, unnamed, statement}

-- every step of reading, so that a program's tree is computed
unfoldable computing : Unit {0}
unfolding
    same_word read.after_word read.past_word read.expect read.skip read.presence_reader read.period read.heading_reader
    read.end_reader read.here read.one_token read.name
    read.several_from read.several read.any phrases.two_sided_reader phrases.phrase_reader
    subscripts.integer_reader subscripts.qualified_reader references.after_name_reader references.reference_reader
    operands.item_reader operands.number_literal_reader operands.number_operand_reader
    receivers_rule.numbers_reader receivers_rule.receiver_reader receivers_rule.receivers_reader
    receivers_rule.receivers_alone_reader receivers_rule.target_reader
    adding_rule.adding_to_reader adding_rule.added_reader adding_rule.add_reader arithmetic_rule.arithmetic_reader
    continuing_rule.continue_reader stop_run_rule.stop_run_reader
    file_phrases.key_phrases_reader file_phrases.read_phrases_reader
    filing_rule.item_after_reader filing_rule.after_key_is filing_rule.read_reader filing_rule.file_reader
    statements.statements statements.verb statements.line statements.statement statements.sentence
    gathering.gathering_turns gathering.gathering_reader stated.stated_reader entries.given_reader entries.named_reader
    entries.item_reader
    entries.by_level entries.entry_reader files.file_reader files.described_reader files.file_section_reader
    division.working_storage_reader division.sections_reader division.data_division_reader forms.first_formless
    selects.assigned_reader selects.select_reader selects.file_control_reader selects.input_output_reader
    environment.configuration_reader environment.environment_sections_reader environment.environment_reader
    r.program r.identification r.procedure r.all_sections r.outer_body r.after_body r.body r.first_paragraphs_reader
    r.sentences r.any_paragraphs r.optional_end_reader
computing = tt

-- 1 at a line and column
abbrev one_at : ℕ → ℕ → Token
one_at line column = at line column (k.Numeric (record { sign = sign.Unsigned; whole = 49 ∷ []; decimals = [] }))

-- 01 at a line and column
abbrev level_at : ℕ → ℕ → Token
level_at line column = at line column (k.Numeric (record { sign = sign.Unsigned; whole = 48 ∷ 49 ∷ []; decimals = [] }))

-- IDENTIFICATION DIVISION. PROGRAM-ID. P. ENVIRONMENT DIVISION. INPUT-OUTPUT SECTION. FILE-CONTROL. SELECT F ASSIGN X.
-- DATA DIVISION. FILE SECTION. FD F. 01 A. PROCEDURE DIVISION.
abbrev headings : List Token → List Token
headings more =
    word 1 8 w.Identification ∷ word 1 23 w.Division ∷ period 1 31 ∷ word 2 8 w.ProgramId ∷ period 2 18 ∷ letter 2 20 80
    ∷ period 2 21
    ∷ word 3 8 w.Environment ∷ word 3 20 w.Division ∷ period 3 28 ∷ word 4 8 w.InputOutput ∷ word 4 21 w.Section
    ∷ period 4 28
    ∷ word 5 8 w.FileControl ∷ period 5 20 ∷ word 6 12 w.Select ∷ letter 6 19 70 ∷ word 6 21 w.Assign ∷ letter 6 28 88
    ∷ period 6 29
    ∷ word 7 8 w.Data ∷ word 7 13 w.Division ∷ period 7 21 ∷ word 8 8 w.File ∷ word 8 13 w.Section ∷ period 8 20
    ∷ word 9 8 w.Fd ∷ letter 9 12 70 ∷ period 9 13 ∷ level_at 10 8 ∷ letter 10 12 65 ∷ period 10 13
    ∷ word 11 8 w.Procedure ∷ word 11 18 w.Division ∷ period 11 26 ∷ more

abbrev neither : Phrases Statement
neither = record { arose = None; did_not = None }

abbrev record_entry : Entry
record_entry = entry_as.Item (record {
  level = record { digits = 48 ∷ 49 ∷ []; place = place 10 8 };
  name = Some (named 10 12 65);
  redefines = None;
  picture = None;
  usage = None;
  sign = None;
  occurs = None;
  justified = false;
  blank_when_zero = false;
  value = None;
})

abbrev file_select : Select
file_select = record {
  optional = false;
  name = named 6 19 70;
  assigned = record { characters = 88 ∷ []; place = place 6 28 };
  organization = organization.Sequential;
  access = access.Sequential;
  relative_key = None;
  record_key = None;
  alternate_keys = [];
  status = None;
}

-- the program with these statements
abbrev with_file : List Statement → Program
with_file all = record {
  name = named 2 20 80;
  selects = file_select ∷ [];
  files = record { name = named 9 12 70; entries = record_entry ∷ [] } ∷ [];
  storage = [];
  sections = record { name = None; paragraphs = unnamed (record { statements = all } ∷ []) ∷ [] } ∷ [];
}

-- ADD 1 TO N
abbrev add : Statement
add = statement 13 16 (verb.Arithmetic (record {
  operation = Add (operand.Literal (record {
    value = value.Numeric (record { sign = sign.Unsigned; whole = 49 ∷ []; decimals = [] });
    place = place 13 20;
  }) ∷ [])
      (record {
        item = record { item = record { name = named 13 25 78; qualifiers = [] }; subscripts = []; part = None };
        rounded = false;
      } ∷ []);
  phrases = neither;
}))

-- READ F AT END ADD 1 TO N NOT AT END CONTINUE END-READ STOP RUN.: NOT AT END can't belong to the ADD, which is still
-- open
not_behind_an_add :
    parse_of (headings (word 12 12 w.Read ∷ letter 12 17 70 ∷ word 12 19 w.At ∷ word 12 22 w.End
    ∷ word 13 16 w.Add ∷ one_at 13 20 ∷ word 13 22 w.To ∷ letter 13 25 78
    ∷ word 14 12 w.Not ∷ word 14 16 w.At ∷ word 14 19 w.End ∷ word 14 23 w.Continue ∷ word 15 12 w.EndRead
    ∷ stop_tokens 16))
    ≡ Ok (with_file (
    statement 12 12 (verb.FileStatement (Read (named 12 17 70) false None None (AtEnd (record {
      arose = Some (add ∷ []);
      did_not = Some (statement 14 23 (verb.ControlStatement ending.Continue) ∷ []);
    }))))
    ∷ stop_run (place 16 12) ∷ []))
unfolding computing
not_behind_an_add = refl

-- READ F STOP RUN.: without phrases they are absent
without_phrases :
    parse_of (headings (word 12 12 w.Read ∷ letter 12 17 70 ∷ stop_tokens 13))
    ≡ Ok (with_file
    (statement 12 12 (verb.FileStatement (Read (named 12 17 70) false None None Absent)) ∷ stop_run (place 13 12) ∷ []))
unfolding computing
without_phrases = refl
