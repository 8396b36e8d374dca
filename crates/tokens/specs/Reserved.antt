-- Which reserved word a word is.
use Rattle.std.specs.Prelude.{Bool}
use denote.Enum.Bare.{sameb}
use Rattle.tokens.specs.contracts.reserved.Reserved.{the_type}
use Rattle.tokens.specs.declared.reserved.Reserved.{Reserved}

unfoldable pub same_word : Reserved → Reserved → Bool
same_word = sameb the_type
