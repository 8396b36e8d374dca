-- The reserved words (COBOL-85, Appendix "reserved words", as far as this language has a use for them), by their first letters.
use Rattle.std.specs.Prelude.{ℕ, if◌then◌else◌, ◌==◌, List, [], ◌∷◌, Option, None, Some}
use Rattle.std.specs.Str.{bytes_eq}
use lib.Chars.{codes}
use Rattle.tokens.specs.declared.reserved.Reserved.{Reserved}
use Rattle.tokens.specs.declared.reserved.Reserved.TheVariants as w

-- a word in upper case, and what it is
abbrev pub Spelling : Type 0
Spelling = List ℕ × Reserved

abbrev pub a_words : List Spelling
a_words =
    (codes "ACCEPT", w.Accept) ∷
    (codes "ACCESS", w.Access) ∷
    (codes "ADD", w.Add) ∷
    (codes "ADVANCING", w.Advancing) ∷
    (codes "AFTER", w.After) ∷
    (codes "ALL", w.All) ∷
    (codes "ALPHABETIC", w.Alphabetic) ∷
    (codes "ALPHABETIC-LOWER", w.AlphabeticLower) ∷
    (codes "ALPHABETIC-UPPER", w.AlphabeticUpper) ∷
    (codes "ALSO", w.Also) ∷
    (codes "ALTERNATE", w.Alternate) ∷
    (codes "AND", w.And) ∷
    (codes "ANY", w.Any) ∷
    (codes "ARE", w.Are) ∷
    (codes "ASSIGN", w.Assign) ∷
    (codes "AT", w.At) ∷
    (codes "AUTHOR", w.Author) ∷
    []

abbrev pub b_words : List Spelling
b_words =
    (codes "BEFORE", w.Before) ∷
    (codes "BINARY", w.Binary) ∷
    (codes "BLANK", w.Blank) ∷
    (codes "BLOCK", w.Block) ∷
    (codes "BY", w.By) ∷
    []

abbrev pub c_words : List Spelling
c_words =
    (codes "CHARACTER", w.Character) ∷
    (codes "CHARACTERS", w.Characters) ∷
    (codes "CLOSE", w.Close) ∷
    (codes "COMP", w.Comp) ∷
    (codes "COMP-3", w.Comp3) ∷
    (codes "COMPUTATIONAL", w.Computational) ∷
    (codes "COMPUTATIONAL-3", w.Computational3) ∷
    (codes "COMPUTE", w.Compute) ∷
    (codes "CONFIGURATION", w.Configuration) ∷
    (codes "CONTAINS", w.Contains) ∷
    (codes "CONTINUE", w.Continue) ∷
    (codes "CONVERTING", w.Converting) ∷
    []

abbrev pub d_words : List Spelling
d_words =
    (codes "DATA", w.Data) ∷
    (codes "DATE", w.Date) ∷
    (codes "DATE-COMPILED", w.DateCompiled) ∷
    (codes "DATE-WRITTEN", w.DateWritten) ∷
    (codes "DELETE", w.Delete) ∷
    (codes "DELIMITED", w.Delimited) ∷
    (codes "DISPLAY", w.Display) ∷
    (codes "DIVIDE", w.Divide) ∷
    (codes "DIVISION", w.Division) ∷
    (codes "DUPLICATES", w.Duplicates) ∷
    (codes "DYNAMIC", w.Dynamic) ∷
    []

abbrev pub e_words : List Spelling
e_words =
    (codes "ELSE", w.Else) ∷
    (codes "END", w.End) ∷
    (codes "END-ADD", w.EndAdd) ∷
    (codes "END-COMPUTE", w.EndCompute) ∷
    (codes "END-DELETE", w.EndDelete) ∷
    (codes "END-DIVIDE", w.EndDivide) ∷
    (codes "END-EVALUATE", w.EndEvaluate) ∷
    (codes "END-IF", w.EndIf) ∷
    (codes "END-MULTIPLY", w.EndMultiply) ∷
    (codes "END-PERFORM", w.EndPerform) ∷
    (codes "END-READ", w.EndRead) ∷
    (codes "END-REWRITE", w.EndRewrite) ∷
    (codes "END-START", w.EndStart) ∷
    (codes "END-STRING", w.EndString) ∷
    (codes "END-SUBTRACT", w.EndSubtract) ∷
    (codes "END-WRITE", w.EndWrite) ∷
    (codes "ENVIRONMENT", w.Environment) ∷
    (codes "EQUAL", w.Equal) ∷
    (codes "ERROR", w.Error) ∷
    (codes "EVALUATE", w.Evaluate) ∷
    (codes "EXIT", w.Exit) ∷
    (codes "EXTEND", w.Extend) ∷
    []

abbrev pub f_words : List Spelling
f_words =
    (codes "FALSE", w.False) ∷
    (codes "FD", w.Fd) ∷
    (codes "FILE", w.File) ∷
    (codes "FILE-CONTROL", w.FileControl) ∷
    (codes "FILLER", w.Filler) ∷
    (codes "FIRST", w.First) ∷
    (codes "FOR", w.For) ∷
    (codes "FROM", w.From) ∷
    []

abbrev pub g_words : List Spelling
g_words =
    (codes "GIVING", w.Giving) ∷
    (codes "GREATER", w.Greater) ∷
    []

abbrev pub h_words : List Spelling
h_words =
    (codes "HIGH-VALUE", w.HighValue) ∷
    (codes "HIGH-VALUES", w.HighValues) ∷
    []

abbrev pub i_words : List Spelling
i_words =
    (codes "I-O", w.InputOutputMode) ∷
    (codes "IDENTIFICATION", w.Identification) ∷
    (codes "IF", w.If) ∷
    (codes "IN", w.In) ∷
    (codes "INDEXED", w.Indexed) ∷
    (codes "INITIAL", w.Initial) ∷
    (codes "INITIALIZE", w.Initialize) ∷
    (codes "INPUT", w.Input) ∷
    (codes "INPUT-OUTPUT", w.InputOutput) ∷
    (codes "INSPECT", w.Inspect) ∷
    (codes "INSTALLATION", w.Installation) ∷
    (codes "INTO", w.Into) ∷
    (codes "INVALID", w.Invalid) ∷
    (codes "IS", w.Is) ∷
    []

abbrev pub j_words : List Spelling
j_words =
    (codes "JUST", w.Just) ∷
    (codes "JUSTIFIED", w.Justified) ∷
    []

abbrev pub k_words : List Spelling
k_words =
    (codes "KEY", w.Key) ∷
    []

abbrev pub l_words : List Spelling
l_words =
    (codes "LABEL", w.Label) ∷
    (codes "LEADING", w.Leading) ∷
    (codes "LEFT", w.Left) ∷
    (codes "LESS", w.Less) ∷
    (codes "LOW-VALUE", w.LowValue) ∷
    (codes "LOW-VALUES", w.LowValues) ∷
    []

abbrev pub m_words : List Spelling
m_words =
    (codes "MODE", w.Mode) ∷
    (codes "MOVE", w.Move) ∷
    (codes "MULTIPLY", w.Multiply) ∷
    []

abbrev pub n_words : List Spelling
n_words =
    (codes "NEGATIVE", w.Negative) ∷
    (codes "NEXT", w.Next) ∷
    (codes "NO", w.No) ∷
    (codes "NOT", w.Not) ∷
    (codes "NUMERIC", w.Numeric) ∷
    []

abbrev pub o_words : List Spelling
o_words =
    (codes "OBJECT-COMPUTER", w.ObjectComputer) ∷
    (codes "OCCURS", w.Occurs) ∷
    (codes "OF", w.Of) ∷
    (codes "OMITTED", w.Omitted) ∷
    (codes "ON", w.On) ∷
    (codes "OPEN", w.Open) ∷
    (codes "OPTIONAL", w.Optional) ∷
    (codes "OR", w.Or) ∷
    (codes "ORGANIZATION", w.Organization) ∷
    (codes "OTHER", w.Other) ∷
    (codes "OUTPUT", w.Output) ∷
    (codes "OVERFLOW", w.Overflow) ∷
    []

abbrev pub p_words : List Spelling
p_words =
    (codes "PACKED-DECIMAL", w.PackedDecimal) ∷
    (codes "PERFORM", w.Perform) ∷
    (codes "PIC", w.Pic) ∷
    (codes "PICTURE", w.Picture) ∷
    (codes "POINTER", w.Pointer) ∷
    (codes "POSITIVE", w.Positive) ∷
    (codes "PROCEDURE", w.Procedure) ∷
    (codes "PROGRAM", w.Program) ∷
    (codes "PROGRAM-ID", w.ProgramId) ∷
    []

abbrev pub q_words : List Spelling
q_words =
    (codes "QUOTE", w.Quote) ∷
    (codes "QUOTES", w.Quotes) ∷
    []

abbrev pub r_words : List Spelling
r_words =
    (codes "RANDOM", w.Random) ∷
    (codes "READ", w.Read) ∷
    (codes "RECORD", w.Record) ∷
    (codes "RECORDS", w.Records) ∷
    (codes "REDEFINES", w.Redefines) ∷
    (codes "RELATIVE", w.Relative) ∷
    (codes "REMAINDER", w.Remainder) ∷
    (codes "REPLACING", w.Replacing) ∷
    (codes "REWRITE", w.Rewrite) ∷
    (codes "RIGHT", w.Right) ∷
    (codes "ROUNDED", w.Rounded) ∷
    (codes "RUN", w.Run) ∷
    []

abbrev pub s_words : List Spelling
s_words =
    (codes "SECTION", w.Section) ∷
    (codes "SECURITY", w.Security) ∷
    (codes "SELECT", w.Select) ∷
    (codes "SEPARATE", w.Separate) ∷
    (codes "SEQUENTIAL", w.Sequential) ∷
    (codes "SET", w.Set) ∷
    (codes "SIGN", w.Sign) ∷
    (codes "SIZE", w.Size) ∷
    (codes "SOURCE-COMPUTER", w.SourceComputer) ∷
    (codes "SPACE", w.Space) ∷
    (codes "SPACES", w.Spaces) ∷
    (codes "STANDARD", w.Standard) ∷
    (codes "START", w.Start) ∷
    (codes "STATUS", w.Status) ∷
    (codes "STOP", w.Stop) ∷
    (codes "STRING", w.String) ∷
    (codes "SUBTRACT", w.Subtract) ∷
    (codes "SYNC", w.Sync) ∷
    (codes "SYNCHRONIZED", w.Synchronized) ∷
    []

abbrev pub t_words : List Spelling
t_words =
    (codes "TALLYING", w.Tallying) ∷
    (codes "TEST", w.Test) ∷
    (codes "THAN", w.Than) ∷
    (codes "THEN", w.Then) ∷
    (codes "THROUGH", w.Through) ∷
    (codes "THRU", w.Thru) ∷
    (codes "TIMES", w.Times) ∷
    (codes "TO", w.To) ∷
    (codes "TRAILING", w.Trailing) ∷
    (codes "TRUE", w.True) ∷
    []

abbrev pub u_words : List Spelling
u_words =
    (codes "UNTIL", w.Until) ∷
    (codes "USAGE", w.Usage) ∷
    []

abbrev pub v_words : List Spelling
v_words =
    (codes "VALUE", w.Value) ∷
    (codes "VALUES", w.Values) ∷
    (codes "VARYING", w.Varying) ∷
    []

abbrev pub w_words : List Spelling
w_words =
    (codes "WHEN", w.When) ∷
    (codes "WITH", w.With) ∷
    (codes "WORKING-STORAGE", w.WorkingStorage) ∷
    (codes "WRITE", w.Write) ∷
    []

abbrev pub z_words : List Spelling
z_words =
    (codes "ZERO", w.Zero) ∷
    (codes "ZEROES", w.Zeroes) ∷
    (codes "ZEROS", w.Zeros) ∷
    []

-- the reserved words that begin with this letter
unfoldable pub beginning_with : ℕ → List Spelling
beginning_with letter =
    if letter == 65 then a_words else (
    if letter == 66 then b_words else (
    if letter == 67 then c_words else (
    if letter == 68 then d_words else (
    if letter == 69 then e_words else (
    if letter == 70 then f_words else (
    if letter == 71 then g_words else (
    if letter == 72 then h_words else (
    if letter == 73 then i_words else (
    if letter == 74 then j_words else (
    if letter == 75 then k_words else (
    if letter == 76 then l_words else (
    if letter == 77 then m_words else (
    if letter == 78 then n_words else (
    if letter == 79 then o_words else (
    if letter == 80 then p_words else (
    if letter == 81 then q_words else (
    if letter == 82 then r_words else (
    if letter == 83 then s_words else (
    if letter == 84 then t_words else (
    if letter == 85 then u_words else (
    if letter == 86 then v_words else (
    if letter == 87 then w_words else (
    if letter == 90 then z_words else (
    []))))))))))))))))))))))))

unfoldable pub look_up : List Spelling → List ℕ → Option Reserved
look_up [] word = None
look_up (one ∷ more) word = if bytes_eq one.0 word then Some one.1 else look_up more word

-- what a word in upper case is, where it is reserved
unfoldable pub reserved_word : List ℕ → Option Reserved
reserved_word [] = None
reserved_word (letter ∷ more) = look_up (beginning_with letter) (letter ∷ more)
