-- The faults of tokens.
use Rattle.std.specs.Prelude.{ℕ, Option, None, Some}
use Rattle.tokens.specs.declared.fault.TokenFault.{TokenFault}
use Rattle.tokens.specs.declared.fault.FaultKind.{FaultKind}
use Rattle.tokens.specs.declared.fault.FaultKind.TheVariants.{StrayCharacter, WrongWord, WrongNumericLiteral, WrongNonnumericLiteral}
use Rattle.tokens.specs.declared.fault.TokenError.{TokenError}
use Rattle.tokens.specs.declared.fault.TokenError.TheVariants.{Memory, Refused}

-- the fault of an error, or none where memory ran out
abbrev pub fault_of : TokenError → Option TokenFault
fault_of Memory = None
fault_of (Refused fault) = Some fault

-- the number that the product prints (own choice)
abbrev pub number_of : FaultKind → ℕ
number_of StrayCharacter = 15
number_of WrongWord = 16
number_of WrongNumericLiteral = 17
number_of WrongNonnumericLiteral = 18
