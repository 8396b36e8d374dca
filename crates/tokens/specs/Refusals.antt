-- Which characters have no tokens, where that is seen, and which fault it is, as a relation.
use Rattle.std.specs.Prelude.{◌≡◌, Bool, false, not, ◌&&◌, ◌||◌, if◌then◌else◌, ◌==◌, List, [], ◌∷◌, ◌++◌, Option}
use Rattle.source_lines.specs.declared.lines.Character.{Character}
use Rattle.tokens.specs.declared.character.Class.TheVariants as class
use Rattle.tokens.specs.declared.context.Context.{Context}
use Rattle.tokens.specs.declared.context.Context.TheVariants as context
use Rattle.tokens.specs.declared.fault.FaultKind.{FaultKind}
use Rattle.tokens.specs.declared.fault.FaultKind.TheVariants.{StrayCharacter, WrongWord, WrongNumericLiteral, WrongNonnumericLiteral}
use Rattle.tokens.specs.declared.fault.TokenFault.{TokenFault}
use Rattle.tokens.specs.declared.token.Kind.{Kind}
use Rattle.tokens.specs.Characters.{begins_with_class}
use Rattle.tokens.specs.Contexts.{context_after, is_joined}
use Rattle.tokens.specs.Kinds.{IsFront}
use Rattle.tokens.specs.Lexemes.{begins_word}
use Rattle.tokens.specs.Literals.{begins_number}

-- No token and no separator begins with this character, before what then follows.
abbrev pub NoFront : Context → Character → List Character → Type 0
NoFront before c characters = (kind : Option Kind) (text rest : List Character) → characters ≡ text ++ rest → IsFront before kind (c ∷ text) rest → ⊥

-- a plus or minus directly before a number, where a sign may stand
abbrev pub begins_signed : Context → List Character → Bool
begins_signed before [] = false
begins_signed before (c ∷ more) = (not (is_joined before) && begins_number more) && (c.byte == 43 || c.byte == 45)

-- The fault by what begins there and is none: a word, a number, a nonnumeric literal; else the character is a stray one.
abbrev pub wrong : Context → List Character → FaultKind
wrong before characters =
    if begins_with_class class.LetterOrDigit characters && begins_word characters then WrongWord
    else (if begins_number characters then WrongNumericLiteral
    else (if begins_with_class class.Mark characters then WrongNonnumericLiteral
    else (if begins_signed before characters then WrongNumericLiteral else StrayCharacter)))

-- Tokens and separators cover the characters up to the fault's place, where none begins: the fault stands at the first such place.
pub data IsRefused : Context → List Character → TokenFault → Type 0 where
  here : {before : Context} (c : Character) (more : List Character) → NoFront before c more
      → IsRefused before (c ∷ more) (record { kind = wrong before (c ∷ more); place = c.place })
  further : {before : Context} {fault : TokenFault} (c : Character) (text rest : List Character) (kind : Option Kind)
      → IsFront before kind (c ∷ text) rest
      → IsRefused (context_after before kind) rest fault
      → IsRefused before (c ∷ (text ++ rest)) fault

-- the characters of a source text have no tokens, and this is their fault
abbrev pub RefusesCharacters : List Character → TokenFault → Type 0
RefusesCharacters characters fault = IsRefused context.Apart characters fault
