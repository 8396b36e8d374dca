-- What was read, with a word after it.
use Rattle.std.specs.Prelude.{◌≡◌, List, Result, Ok, Err}
use Rattle.tokens.specs.declared.reserved.Reserved.{Reserved}
use Rattle.tokens.specs.declared.token.Token.{Token}
use Rattle.grammar.specs.declared.fault.ReadFault.{ReadFault}
use Rattle.grammar.specs.Reading.{Reads, ◌>>◌, expect, pure}

-- Where something was read, the word is read after it; where it was not, the fault is the same.
abbrev pub IsFollowed : {T : Type 0} → Result T ReadFault → Reserved → List Token → Result T ReadFault → List Token → Type 0
IsFollowed (Ok one) word i result rest = Reads ((expect word >> pure one) i) result rest
IsFollowed (Err fault) word i result rest = result ≡ Err fault
