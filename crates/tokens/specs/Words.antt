-- Words (COBOL-85, Nucleus, "COBOL words"): at most 30 letters, digits and hyphens, a hyphen not last. A word without a hyphen last and with
-- more than 30 characters, or with a hyphen last, is refused whole: own choice.
use Rattle.std.specs.Prelude.{ℕ, ◌||◌, if◌then◌else◌, nat_lt, List, take, Option, None, Some, Result, Ok, Err}
use Rattle.source_lines.specs.declared.lines.Character.{Character}
use Rattle.lexical.specs.declared.place.Place.{Place}
use Rattle.tokens.specs.declared.character.Class.TheVariants as class
use Rattle.tokens.specs.declared.fault.TokenFault.{TokenFault}
use Rattle.tokens.specs.declared.fault.FaultKind.{FaultKind}
use Rattle.tokens.specs.declared.fault.FaultKind.TheVariants as fault
use Rattle.tokens.specs.declared.lexeme.Lexeme.{Lexeme}
use Rattle.tokens.specs.declared.reserved.Reserved.{Reserved}
use Rattle.tokens.specs.declared.token.Kind.{Kind}
use Rattle.tokens.specs.declared.token.Kind.TheVariants as k
use Rattle.tokens.specs.Characters.{bytes_in_upper_case, run_size, ends_with_class}
use Rattle.tokens.specs.Spelling.{reserved_word}

-- a token or a separator at the front of some characters, or why there is none
abbrev pub Outcome : Type 0
Outcome = Result Lexeme TokenFault

abbrev pub refusal_at : FaultKind → Place → Outcome
refusal_at kind place = Err (record { kind = kind; place = place })

abbrev pub token : Kind → ℕ → Lexeme
token kind size = record { kind = Some kind; size = size }

abbrev pub word_or_reserved : List ℕ → Option Reserved → Kind
word_or_reserved text None = k.Word text
word_or_reserved text (Some word) = k.Reserved word

-- the kind of a word in upper case
abbrev pub kind_of_word : List ℕ → Kind
kind_of_word text = word_or_reserved text (reserved_word text)

unfoldable pub word : Place → List Character → Outcome
word place characters =
    let size = run_size class.InWord characters in
    if nat_lt 30 size || ends_with_class class.Hyphen (take size characters) then refusal_at fault.WrongWord place
    else Ok (token (kind_of_word (bytes_in_upper_case (take size characters))) size)
