-- OPEN and CLOSE: their rules, and how they are read.
use Rattle.std.specs.Prelude.{◌≡◌, ℕ, zero, suc, if◌then◌else◌, Bool, List, [], ◌∷◌, ◌++◌, length, Option, None, Some, Ok}
use Rattle.tokens.specs.declared.reserved.Reserved.{Reserved}
use Rattle.tokens.specs.declared.reserved.Reserved.TheVariants as w
use Rattle.tokens.specs.declared.token.Kind.{Kind}
use Rattle.tokens.specs.declared.token.Kind.TheVariants as k
use Rattle.tokens.specs.declared.token.Token.{Token}
use Rattle.records.specs.declared.verb.OpenMode.{OpenMode}
use Rattle.records.specs.declared.verb.OpenMode.TheVariants as mode
use Rattle.source_tree.specs.declared.name.Name.{Name}
use Rattle.source_tree.specs.declared.file_statement.Opening.{Opening}
use Rattle.source_tree.specs.declared.file_statement.FileStatement.{FileStatement}
use Rattle.source_tree.specs.declared.file_statement.FileStatement.TheVariants.{Open, Close}
use Rattle.grammar.specs.Parts.{Part, ◌then◌, several, lookahead, token_with, begins_telling, word, name, begins_name}
use Rattle.grammar.specs.Reading as r
use Rattle.grammar.specs.Reading.{Parser, ◌>>=◌, ◌>>◌, pure, refuse, expect, one_token}

-- ---- OPEN

-- how a word says that files are opened
abbrev pub mode_of : Reserved → Option OpenMode
mode_of w.Input = Some mode.Input
mode_of w.Output = Some mode.Output
mode_of w.InputOutputMode = Some mode.InputOutput
mode_of w.Extend = Some mode.Extend
mode_of _ = None

abbrev pub mode_by : Kind → Option OpenMode
mode_by (k.Reserved one) = mode_of one
mode_by _ = None

abbrev pub mode_in : Token → Option OpenMode
mode_in one = mode_by one.kind

abbrev pub begins_mode : List Token → Bool
begins_mode = begins_telling mode_in

-- a file that is opened so
abbrev pub opened_file : OpenMode → Opening → Part
opened_file mode one = λ from rest. (one.mode ≡ mode) × name one.file from rest

-- {INPUT|OUTPUT|I-O|EXTEND} f...
abbrev pub mode_phrase : List Opening → Part
mode_phrase files = λ from rest. (mode : OpenMode) × (token_with mode_in mode then several (opened_file mode) (lookahead begins_name) files) from rest

-- lists one after another
abbrev pub all_openings : List (List Opening) → List Opening
all_openings [] = []
all_openings (one ∷ more) = one ++ all_openings more

-- OPEN {{INPUT|OUTPUT|I-O|EXTEND} f...}... (COBOL-85, Sequential I-O, "The OPEN statement"): each file with what stands before it
abbrev pub openings : List Opening → Part
openings files = λ from rest. (groups : List (List Opening)) × (files ≡ all_openings groups) × (word w.Open then several mode_phrase (lookahead begins_mode) groups) from rest

unfoldable pub opening_reader : OpenMode → Parser Opening
opening_reader mode = do
  file ← r.name
  pure (record { mode = mode; file = file })

unfoldable pub opened_reader : Parser (List Opening)
opened_reader = do
  mode ← one_token mode_in
  r.several (opening_reader mode) begins_name

-- The number bounds the turns, and each turn takes a token, so the count of tokens is enough.
unfoldable pub opened_turns : ℕ → List Opening → Parser (List Opening)
opened_turns zero found = refuse
opened_turns (suc turns) found =
    opened_reader >>= (λ more i. if begins_mode i then opened_turns turns (found ++ more) i else Ok (found ++ more, i))

unfoldable pub all_opened_reader : Parser (List Opening)
all_opened_reader i = opened_turns (length i) [] i

unfoldable pub openings_reader : {S : Type 0} → Parser (FileStatement S)
openings_reader = do
  expect w.Open
  files ← all_opened_reader
  pure (Open files)

-- ---- CLOSE

-- CLOSE f... (COBOL-85, Sequential I-O, "The CLOSE statement")
abbrev pub close_statement : List Name → Part
close_statement files = word w.Close then several name (lookahead begins_name) files

unfoldable pub close_reader : {S : Type 0} → Parser (FileStatement S)
close_reader = do
  expect w.Close
  files ← r.several r.name begins_name
  pure (Close files)
