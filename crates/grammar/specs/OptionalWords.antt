-- A word that may be left out, with the IS after it: its rule, and how it is read.
use Rattle.std.specs.Prelude.{if◌then◌else◌, Ok}
use Rattle.tokens.specs.declared.reserved.Reserved.{Reserved}
use Rattle.tokens.specs.declared.reserved.Reserved.TheVariants as w
use Rattle.grammar.specs.Parts.{Part, ◌then◌, optional, word}
use Rattle.grammar.specs.Reading.{Parser, ◌>>◌, begins_word, expect, skip}

-- a word that may stand before what it names, with IS: [one [IS]]
abbrev pub led_by : Reserved → Part
led_by one = optional (word one then optional (word w.Is))

-- a word with IS, or neither
unfoldable pub skip_led : Reserved → Parser (Unit {0})
skip_led one i = if begins_word one i then (expect one >> skip w.Is) i else Ok (tt, i)
