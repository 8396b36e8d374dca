-- Parts that are left out if their first word is absent: their rules, and how they are read.
use Rattle.std.specs.Prelude.{◌≡◌, if◌then◌else◌, List, [], Ok}
use Rattle.tokens.specs.declared.reserved.Reserved.{Reserved}
use Rattle.grammar.specs.Parts.{Part, ◌or◌, absence_of, word}
use Rattle.grammar.specs.Reading.{Parser, begins_word}

-- p, which begins with this word; it is left out only where the word does not stand.
infixr 25 ◌unless_no◌
abbrev pub ◌unless_no◌ : Part → Reserved → Part
p unless_no one = p or absence_of (word one)

-- p with its list, which begins with this word; where the word does not stand, nothing is listed.
abbrev pub listed_from : {A : Type 0} → Reserved → (List A → Part) → List A → Part
listed_from one p all = p all or (λ from rest. (all ≡ []) × absence_of (word one) from rest)

-- ---- reading

abbrev pub unless_none : Reserved → Parser (Unit {0}) → Parser (Unit {0})
unless_none one read i = if begins_word one i then read i else Ok (tt, i)

abbrev pub list_from : {A : Type 0} → Reserved → Parser (List A) → Parser (List A)
list_from one read i = if begins_word one i then read i else Ok ([], i)
