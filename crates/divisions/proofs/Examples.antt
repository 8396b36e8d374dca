-- Tokens of source texts, and what reading them gives.
use Rattle.std.proofs.Common.{◌≡◌, ℕ, List, [], ◌∷◌, ◌++◌, None, Some, refl}
use Rattle.std.specs.Prelude.{Ok, Err}
use Rattle.tokens.specs.declared.reserved.Reserved.{Reserved}
use Rattle.tokens.specs.declared.reserved.Reserved.TheVariants as w
use Rattle.tokens.specs.declared.token.Kind.{Kind}
use Rattle.tokens.specs.declared.token.Kind.TheVariants as k
use Rattle.tokens.specs.declared.token.Token.{Token}
use Rattle.lexical.specs.declared.number.Sign.TheVariants as sign
use Rattle.lexical.specs.declared.place.Place.{Place}
use Rattle.source_tree.specs.declared.name.Name.{Name}
use Rattle.source_tree.specs.declared.perform_statement.Performed.TheVariants.{Procedures, Statements}
use Rattle.source_tree.specs.declared.perform_statement.Repetition.TheVariants.{Once, Times}
use Rattle.source_tree.specs.declared.control_statement.ControlStatement.TheVariants as ending
use Rattle.source_tree.specs.declared.statement.Verb.{Verb}
use Rattle.source_tree.specs.declared.statement.Verb.TheVariants as verb
use Rattle.source_tree.specs.declared.statement.Statement.{Statement, roll-Statement}
use Rattle.source_tree.specs.declared.program.Sentence.{Sentence}
use Rattle.source_tree.specs.declared.program.Paragraph.{Paragraph}
use Rattle.source_tree.proofs.Examples.{stop_run, hello, hello_bytes}
use Rattle.tokens.specs.Reserved.{same_word}
use Rattle.grammar.specs.Reading as read
use Rattle.expressions.specs.Literals as literals
use Rattle.expressions.specs.Subscripts as subscripts
use Rattle.expressions.specs.References as references
use Rattle.expressions.specs.Operands as operands
use Rattle.statements.specs.Display as display_rule
use Rattle.statements.specs.Exiting as exiting_rule
use Rattle.statements.specs.Performing as performing_rule
use Rattle.statements.specs.Turning as turning_rule
use Rattle.statements.specs.StopRun as stop_run_rule
use Rattle.statements.specs.Reading as statements
use Rattle.data_division.specs.Files as files
use Rattle.data_division.specs.Division as division
use Rattle.data_division.specs.Forms as forms
use Rattle.file_control.specs.Selects as selects
use Rattle.divisions.specs.Environment as environment
use Rattle.divisions.specs.Reading as r
use Rattle.divisions.specs.Faults.{parse_of}
use Rattle.divisions.specs.declared.fault.FaultKind.TheVariants.{UnexpectedToken}

abbrev pub place : ℕ → ℕ → Place
place line column = record { line = line; column = column }

-- a token at a line and column; where its characters stand in their list is of no account here
abbrev pub at : ℕ → ℕ → Kind → Token
at line column kind = record { kind = kind; span = record { start = 0; end = 0 }; place = place line column }

abbrev pub word : ℕ → ℕ → Reserved → Token
word line column one = at line column (k.Reserved one)

abbrev pub period : ℕ → ℕ → Token
period line column = at line column k.Period

abbrev identified : List Token → List Token
identified more =
    word 1 8 w.Identification ∷ word 1 23 w.Division ∷ period 1 31
    ∷ word 2 8 w.ProgramId ∷ period 2 18 ∷ at 2 20 (k.Word hello_bytes) ∷ period 2 25
    ∷ word 3 8 w.Procedure ∷ word 3 18 w.Division ∷ period 3 26 ∷ more

-- STOP RUN. at column 12 of a line
abbrev pub stop_tokens : ℕ → List Token
stop_tokens line = word line 12 w.Stop ∷ word line 17 w.Run ∷ period line 20 ∷ []

-- MAIN-PARA
abbrev main_para : List ℕ
main_para = 77 ∷ 65 ∷ 73 ∷ 78 ∷ 45 ∷ 80 ∷ 65 ∷ 82 ∷ 65 ∷ []

-- every step of reading, so that a program's tree is computed
unfoldable computing : Unit {0}
unfolding
    same_word read.after_word read.past_word read.expect read.left_out read.period read.heading_reader read.end_reader
    read.here read.one_token read.name
    read.several_from read.several read.any
    literals.literal_reader subscripts.integer_reader subscripts.qualified_reader references.after_name_reader
    references.reference_reader operands.literal_operand_reader operands.operand_reader
    display_rule.after_no_advancing display_rule.display_reader exiting_rule.exit_reader stop_run_rule.stop_run_reader
    performing_rule.perform_reader performing_rule.procedures_reader performing_rule.through_name_reader
    performing_rule.through_reader
    performing_rule.in_line_reader turning_rule.turns_reader turning_rule.times_reader turning_rule.counted_reader
    statements.statements statements.verb statements.line statements.statement statements.sentence
    environment.configuration_reader environment.environment_sections_reader environment.environment_reader
    selects.input_output_reader
    files.file_section_reader division.working_storage_reader division.sections_reader division.data_division_reader
    forms.first_formless
    r.program r.identification r.procedure r.all_sections r.outer_body r.after_body r.sections_after r.sections
    r.section r.section_paragraphs
    r.body r.first_paragraphs_reader r.sentences r.any_sentences r.paragraph r.paragraphs r.any_paragraphs
    r.optional_end_reader
computing = tt

-- the six lines of HELLO
hello_is_read :
    parse_of (identified (at 4 8 (k.Word main_para) ∷ period 4 17
    ∷ word 5 12 w.Display ∷ at 5 20 (k.Nonnumeric hello_bytes) ∷ period 5 27
    ∷ stop_tokens 6))
    ≡ Ok hello
unfolding computing
hello_is_read = refl

-- ---- sections

-- a name of one letter
abbrev pub letter : ℕ → ℕ → ℕ → Token
letter line column one = at line column (k.Word (one ∷ []))

abbrev pub named : ℕ → ℕ → ℕ → Name
named line column one = record { characters = one ∷ []; place = place line column }

-- the name and SECTION in a line
abbrev section_tokens : ℕ → ℕ → List Token
section_tokens line one = letter line 8 one ∷ word line 10 w.Section ∷ period line 17 ∷ []

abbrev pub unnamed : List Sentence → Paragraph
unnamed sentences = record { name = None; sentences = sentences }

-- a section without paragraphs, after sentences that belong to none
section_after_sentences :
    parse_of (identified (stop_tokens 4 ++ section_tokens 5 80))
    ≡ Ok (record hello {
      sections =
          record { name = None; paragraphs = unnamed (record { statements = stop_run (place 4 12) ∷ [] } ∷ []) ∷ [] }
          ∷ record { name = Some (named 5 8 80); paragraphs = [] } ∷ [];
    })
unfolding computing
section_after_sentences = refl

-- a section after a paragraph that belongs to none: at its name
section_after_a_paragraph :
    parse_of (identified (letter 4 8 80 ∷ period 4 9 ∷ section_tokens 5 81))
    ≡ Err (record { kind = UnexpectedToken; place = place 5 8 })
unfolding computing
section_after_a_paragraph = refl

-- ---- statements in one another

abbrev pub statement : ℕ → ℕ → Verb Statement → Statement
statement line column one = roll-Statement (record { place = place line column; verb = one })

-- PERFORM 2 TIMES PERFORM P THRU Q EXIT END-PERFORM STOP RUN.
nested_statements :
    parse_of (identified (word 4 12 w.Perform
    ∷ at 4 20 (k.Numeric (record { sign = sign.Unsigned; whole = 50 ∷ []; decimals = [] })) ∷ word 4 22 w.Times
    ∷ word 5 16 w.Perform ∷ letter 5 24 80 ∷ word 5 26 w.Thru ∷ letter 5 31 81
    ∷ word 6 16 w.Exit ∷ word 7 12 w.EndPerform
    ∷ stop_tokens 8))
    ≡ Ok (record hello {
      sections = record {
        name = None;
        paragraphs = unnamed (record {
          statements =
              statement 4 12 (verb.PerformStatement (record {
                performed = Statements (
                    statement 5 16 (verb.PerformStatement
                    (record { performed = Procedures (named 5 24 80) (Some (named 5 31 81)); turns = Once }))
                    ∷ statement 6 16 (verb.ControlStatement ending.Exit) ∷ []);
                turns = Times (record { digits = 50 ∷ []; place = place 4 20 });
              }))
              ∷ stop_run (place 8 12) ∷ [];
        } ∷ []) ∷ [];
      } ∷ [];
    })
unfolding computing
nested_statements = refl
