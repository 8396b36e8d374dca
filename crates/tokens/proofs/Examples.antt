-- Worked examples of the definitions.
use Rattle.std.proofs.Common.{◌≡◌, ℕ, ◌+◌, List, [], ◌∷◌, ◌++◌, Result, Ok, Err, map, refl}
use lib.Chars.{codes}
use Rattle.source_lines.specs.declared.lines.Character.{Character}
use Rattle.lexical.specs.declared.place.Place.{Place}
use Rattle.tokens.specs.declared.fault.TokenFault.{TokenFault}
use Rattle.tokens.specs.declared.fault.FaultKind.{FaultKind}
use Rattle.tokens.specs.declared.fault.FaultKind.TheVariants as fault
use Rattle.tokens.specs.declared.reserved.Reserved.TheVariants as w
use Rattle.tokens.specs.declared.token.Kind.{Kind}
use Rattle.tokens.specs.declared.token.Kind.TheVariants as k
use Rattle.tokens.specs.declared.token.Operator.TheVariants as o
use Rattle.lexical.specs.declared.number.Sign.{Sign}
use Rattle.lexical.specs.declared.number.Sign.TheVariants as sign
use Rattle.tokens.specs.Contexts.{context_after}
use Rattle.tokens.specs.Reserved.{same_word}
use Rattle.tokens.specs.Lexemes.{lexeme, plain_lexeme, punctuation, comparison}
use Rattle.tokens.specs.Literals.{numeric, nonnumeric}
use Rattle.tokens.specs.Pictures.{picture}
use Rattle.tokens.specs.Scanning.{Tokens, tokens}
use Rattle.tokens.specs.Spelling.{reserved_word, look_up, beginning_with}
use Rattle.tokens.specs.Words.{word}

abbrev place : ℕ → ℕ → Place
place line column = record { line = line; column = column }

-- a text that stands in this line from this column on
abbrev in_line : ℕ → ℕ → List ℕ → List Character
in_line line column [] = []
in_line line column (byte ∷ more) = record { byte = byte; place = place line column } ∷ in_line line (column + 1) more

abbrev kinds_of : Tokens → Result (List Kind) TokenFault
kinds_of (Ok found) = Ok (map (λ t. t.kind) found)
kinds_of (Err fault) = Err fault

-- the kinds of the tokens of a text that stands in line 1 from column 12 on
abbrev kinds : List ℕ → Result (List Kind) TokenFault
kinds text = kinds_of (tokens (in_line 1 12 text))

abbrev number : Sign → List ℕ → List ℕ → Kind
number sign whole decimals = k.Numeric (record { sign = sign; whole = whole; decimals = decimals })

abbrev are : List Kind → Result (List Kind) TokenFault
are found = Ok found

abbrev refuses : FaultKind → ℕ → Result (List Kind) TokenFault
refuses kind column = Err (record { kind = kind; place = place 1 column })

-- DISPLAY "A" 12.50 'it''s' WITH NO ADVANCING
pub display_literals :
    kinds (68 ∷ 73 ∷ 83 ∷ 80 ∷ 76 ∷ 65 ∷ 89 ∷ 32 ∷ 34 ∷ 65 ∷ 34 ∷ 32 ∷ 49 ∷ 50 ∷ 46 ∷ 53 ∷ 48 ∷ 32 ∷ 39 ∷ 105 ∷ 116
    ∷ 39 ∷ 39 ∷ 115 ∷ 39 ∷ 32 ∷ 87 ∷ 73 ∷ 84 ∷ 72 ∷ 32 ∷ 78 ∷ 79 ∷ 32 ∷ 65 ∷ 68 ∷ 86 ∷ 65 ∷ 78 ∷ 67 ∷ 73 ∷ 78 ∷ 71 ∷ [])
    ≡ are (k.Reserved w.Display ∷ k.Nonnumeric (codes "A") ∷ number sign.Unsigned (codes "12") (codes "50")
    ∷ k.Nonnumeric (codes "it's") ∷ k.Reserved w.With ∷ k.Reserved w.No ∷ k.Reserved w.Advancing ∷ [])
unfolding tokens lexeme plain_lexeme word reserved_word look_up beginning_with numeric nonnumeric picture punctuation
    comparison context_after same_word
display_literals = refl

-- a hyphen last in a word
pub hyphen_last : kinds (codes "ADD A- 5") ≡ refuses fault.WrongWord 16
unfolding tokens lexeme plain_lexeme word reserved_word look_up beginning_with numeric nonnumeric picture punctuation
    comparison context_after same_word
hyphen_last = refl

pub hyphen_within : kinds (codes "A-5 A -5 A - 5") ≡ are (k.Word (codes "A-5") ∷ k.Word (codes "A") ∷ number sign.Minus
    (codes "5") [] ∷ k.Word (codes "A") ∷ k.Operator o.Minus ∷ number sign.Unsigned (codes "5") [] ∷ [])
unfolding tokens lexeme plain_lexeme word reserved_word look_up beginning_with numeric nonnumeric picture punctuation
    comparison context_after same_word
hyphen_within = refl

pub literal_operator_literal : kinds (codes "5-5 5 -5 5--5") ≡ are (number sign.Unsigned (codes "5") []
    ∷ k.Operator o.Minus ∷ number sign.Unsigned (codes "5") [] ∷ number sign.Unsigned (codes "5") [] ∷ number sign.Minus
    (codes "5") [] ∷ number sign.Unsigned (codes "5") [] ∷ k.Operator o.Minus ∷ number sign.Minus (codes "5") [] ∷ [])
unfolding tokens lexeme plain_lexeme word reserved_word look_up beginning_with numeric nonnumeric picture punctuation
    comparison context_after same_word
literal_operator_literal = refl

pub parentheses_and_signs : kinds (codes "(-5 )-5 =+.5")
    ≡ are (k.LeftParenthesis ∷ number sign.Minus (codes "5") [] ∷ k.RightParenthesis ∷ k.Operator o.Minus
    ∷ number sign.Unsigned (codes "5") [] ∷ k.Operator o.Equal ∷ number sign.Plus (codes "") (codes "5") ∷ [])
unfolding tokens lexeme plain_lexeme word reserved_word look_up beginning_with numeric nonnumeric picture punctuation
    comparison context_after same_word
parentheses_and_signs = refl

pub digits_and_letters : kinds (codes "12-A 12-34 COMP-3 comp-3")
    ≡ are (k.Word (codes "12-A") ∷ number sign.Unsigned (codes "12") [] ∷ k.Operator o.Minus
    ∷ number sign.Unsigned (codes "34") [] ∷ k.Reserved w.Comp3 ∷ k.Reserved w.Comp3 ∷ [])
unfolding tokens lexeme plain_lexeme word reserved_word look_up beginning_with numeric nonnumeric picture punctuation
    comparison context_after same_word
digits_and_letters = refl

-- the end counts as a space
pub points : kinds (codes "1.5. 007.") ≡ are
    (number sign.Unsigned (codes "1") (codes "5") ∷ k.Period ∷ number sign.Unsigned (codes "007") [] ∷ k.Period ∷ [])
unfolding tokens lexeme plain_lexeme word reserved_word look_up beginning_with numeric nonnumeric picture punctuation
    comparison context_after same_word
points = refl

pub two_points : kinds (codes "1..5") ≡ refuses fault.StrayCharacter 13
unfolding tokens lexeme plain_lexeme word reserved_word look_up beginning_with numeric nonnumeric picture punctuation
    comparison context_after same_word
two_points = refl

pub point_before_a_letter : kinds (codes "5.A") ≡ refuses fault.StrayCharacter 13
unfolding tokens lexeme plain_lexeme word reserved_word look_up beginning_with numeric nonnumeric picture punctuation
    comparison context_after same_word
point_before_a_letter = refl

pub sentence_without_space : kinds (codes "STOP RUN.DISPLAY") ≡ refuses fault.StrayCharacter 20
unfolding tokens lexeme plain_lexeme word reserved_word look_up beginning_with numeric nonnumeric picture punctuation
    comparison context_after same_word
sentence_without_space = refl

pub comparisons : kinds (codes ">= <= > = < ** /")
    ≡ are (k.Operator o.GreaterOrEqual ∷ k.Operator o.LessOrEqual ∷ k.Operator o.Greater ∷ k.Operator o.Equal
    ∷ k.Operator o.Less ∷ k.Operator o.Times ∷ k.Operator o.Times ∷ k.Operator o.Divide ∷ [])
unfolding tokens lexeme plain_lexeme word reserved_word look_up beginning_with numeric nonnumeric picture punctuation
    comparison context_after same_word
comparisons = refl

pub separators : kinds (codes "A,B;1,-5") ≡ are (k.Word (codes "A") ∷ k.Word (codes "B")
    ∷ number sign.Unsigned (codes "1") [] ∷ number sign.Minus (codes "5") [] ∷ [])
unfolding tokens lexeme plain_lexeme word reserved_word look_up beginning_with numeric nonnumeric picture punctuation
    comparison context_after same_word
separators = refl

pub pictures : kinds (codes "PIC $$,$$9.99. pic is x(3), PICTURE IS.")
    ≡ are (k.Reserved w.Pic ∷ k.Picture (codes "$$,$$9.99") ∷ k.Period ∷ k.Reserved w.Pic ∷ k.Reserved w.Is
    ∷ k.Picture (codes "x(3)") ∷ k.Reserved w.Picture ∷ k.Reserved w.Is ∷ k.Period ∷ [])
unfolding tokens lexeme plain_lexeme word reserved_word look_up beginning_with numeric nonnumeric picture punctuation
    comparison context_after same_word
pictures = refl

pub empty_picture : kinds (codes "PIC . A") ≡ are (k.Reserved w.Pic ∷ k.Period ∷ k.Word (codes "A") ∷ [])
unfolding tokens lexeme plain_lexeme word reserved_word look_up beginning_with numeric nonnumeric picture punctuation
    comparison context_after same_word
empty_picture = refl

pub colon : kinds (codes "A (1:-2)") ≡ are (k.Word (codes "A") ∷ k.LeftParenthesis ∷ number sign.Unsigned (codes "1") []
    ∷ k.Colon ∷ number sign.Minus (codes "2") [] ∷ k.RightParenthesis ∷ [])
unfolding tokens lexeme plain_lexeme word reserved_word look_up beginning_with numeric nonnumeric picture punctuation
    comparison context_after same_word
colon = refl

-- '''' "a""b"
pub doubled_marks : kinds (39 ∷ 39 ∷ 39 ∷ 39 ∷ 32 ∷ 34 ∷ 97 ∷ 34 ∷ 34 ∷ 98 ∷ 34 ∷ [])
    ≡ are (k.Nonnumeric (codes "'") ∷ k.Nonnumeric (97 ∷ 34 ∷ 98 ∷ []) ∷ [])
unfolding tokens lexeme plain_lexeme word reserved_word look_up beginning_with numeric nonnumeric picture punctuation
    comparison context_after same_word
doubled_marks = refl

pub open_literal : kinds (codes "MOVE 'a''b") ≡ refuses fault.WrongNonnumericLiteral 17
unfolding tokens lexeme plain_lexeme word reserved_word look_up beginning_with numeric nonnumeric picture punctuation
    comparison context_after same_word
open_literal = refl

pub empty_literal : kinds (codes "MOVE ''") ≡ refuses fault.WrongNonnumericLiteral 17
unfolding tokens lexeme plain_lexeme word reserved_word look_up beginning_with numeric nonnumeric picture punctuation
    comparison context_after same_word
empty_literal = refl

pub nineteen_digits : kinds (codes "+1234567890.123456789") ≡ refuses fault.WrongNumericLiteral 12
unfolding tokens lexeme plain_lexeme word reserved_word look_up beginning_with numeric nonnumeric picture punctuation
    comparison context_after same_word
nineteen_digits = refl

pub eighteen_digits : kinds (codes "123456789.123456789")
    ≡ are (number sign.Unsigned (codes "123456789") (codes "123456789") ∷ [])
unfolding tokens lexeme plain_lexeme word reserved_word look_up beginning_with numeric nonnumeric picture punctuation
    comparison context_after same_word
eighteen_digits = refl

abbrev hello : List Character
hello =
    in_line 1 8 (codes "IDENTIFICATION DIVISION. ")
    ++ in_line 2 8 (codes "PROGRAM-ID. HELLO. ")
    ++ in_line 3 8 (codes "PROCEDURE DIVISION. ")
    ++ in_line 4 8 (codes "MAIN. ")
    ++ in_line 5 8
    (32 ∷ 32 ∷ 32 ∷ 32 ∷ 68 ∷ 73 ∷ 83 ∷ 80 ∷ 76 ∷ 65 ∷ 89 ∷ 32 ∷ 34 ∷ 72 ∷ 69 ∷ 76 ∷ 76 ∷ 79 ∷ 34 ∷ 46 ∷ 32 ∷ [])
    ++ in_line 6 8 (codes "    STOP RUN. ")

pub hello_kinds : kinds_of (tokens hello) ≡ are (k.Reserved w.Identification ∷ k.Reserved w.Division
    ∷ k.Period ∷ k.Reserved w.ProgramId ∷ k.Period ∷ k.Word (codes "HELLO") ∷ k.Period ∷ k.Reserved w.Procedure
    ∷ k.Reserved w.Division ∷ k.Period ∷ k.Word (codes "MAIN") ∷ k.Period ∷ k.Reserved w.Display
    ∷ k.Nonnumeric (codes "HELLO") ∷ k.Period ∷ k.Reserved w.Stop ∷ k.Reserved w.Run ∷ k.Period ∷ [])
unfolding tokens lexeme plain_lexeme word reserved_word look_up beginning_with numeric nonnumeric picture punctuation
    comparison context_after same_word
hello_kinds = refl

-- a token has its span among the characters, counted from 0, and the line and column of its first one
pub spans_and_places : tokens (in_line 4 12 (codes "A  12.")) ≡ Ok (
    record { kind = k.Word (codes "A"); span = record { start = 0; end = 1 }; place = place 4 12 } ∷
    record { kind = number sign.Unsigned (codes "12") []; span = record { start = 3; end = 5 }; place = place 4 15 } ∷
    record { kind = k.Period; span = record { start = 5; end = 6 }; place = place 4 17 } ∷ [])
unfolding tokens lexeme plain_lexeme word reserved_word look_up beginning_with numeric nonnumeric picture punctuation
    comparison context_after same_word
spans_and_places = refl
