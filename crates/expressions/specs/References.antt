-- References: qualified names with subscripts and parts (ISO 1989:1985, Nucleus, "Identifier", "Reference modification"): their rule, and
-- how they are read.
use Rattle.std.specs.Prelude.{if◌then◌else◌, List, [], ◌∷◌, Option, Some, None, Ok}
use Rattle.source_tree.specs.declared.reference.QualifiedName.{QualifiedName}
use Rattle.source_tree.specs.declared.reference.Subscript.{Subscript}
use Rattle.source_tree.specs.declared.reference.Part.{Part as ItemPart}
use Rattle.source_tree.specs.declared.reference.Reference.{Reference}
use Rattle.grammar.specs.Parts.{Part, ◌then◌, absence_of, several, lookahead}
use Rattle.grammar.specs.Reading as r
use Rattle.grammar.specs.Reading.{Parser, ◌>>=◌, ◌>>◌, pure, one_token}
use Rattle.expressions.specs.Marks.{left_parenthesis, right_parenthesis, colon, left_in, right_in, colon_in, begins_left, begins_colon}
use Rattle.expressions.specs.Subscripts.{qualified_name, qualified_reader, subscript, begins_subscript, subscript_reader}

-- [sub]
abbrev pub length : Option Subscript → Part
length None = absence_of (lookahead begins_subscript)
length (Some one) = subscript one

-- sub : [sub] )
abbrev pub inside : ItemPart → Part
inside part = subscript part.first then colon then length part.length then right_parenthesis

-- [( sub : [sub] )]
abbrev pub part_behind : Option ItemPart → Part
part_behind None = absence_of (lookahead begins_left)
part_behind (Some part) = left_parenthesis then inside part

-- [( sub... )] [( sub : [sub] )]
abbrev pub numbers : List Subscript → Option ItemPart → Part
numbers [] part = part_behind part
numbers (one ∷ more) part =
    left_parenthesis then several subscript (lookahead begins_subscript) (one ∷ more) then right_parenthesis then part_behind part

-- n [{IN|OF} n]... [( sub... )] [( sub : [sub] )]
abbrev pub reference : Reference → Part
reference one = qualified_name one.item then numbers one.subscripts one.part

-- ---- reading: what is after the first number in parentheses shows whether it is a subscript or begins a part

unfoldable pub some_length_reader : Parser (Option Subscript)
some_length_reader = do
  one ← subscript_reader
  pure (Some one)

unfoldable pub length_reader : Parser (Option Subscript)
length_reader i = if begins_subscript i then some_length_reader i else Ok (None, i)

-- after the first place
unfoldable pub part_from_reader : Subscript → Parser ItemPart
part_from_reader first = do
  one_token colon_in
  size ← length_reader
  one_token right_in
  pure (record { first = first; length = size })

unfoldable pub some_part_reader : Parser (Option ItemPart)
some_part_reader = do
  one_token left_in
  first ← subscript_reader
  part ← part_from_reader first
  pure (Some part)

unfoldable pub part_behind_reader : Parser (Option ItemPart)
part_behind_reader i = if begins_left i then some_part_reader i else Ok (None, i)

-- without subscripts
unfoldable pub item_part_reader : QualifiedName → Subscript → Parser Reference
item_part_reader item first = do
  part ← part_from_reader first
  pure (record { item = item; subscripts = []; part = Some part })

-- after the first subscript
unfoldable pub subscripted_reader : QualifiedName → Subscript → Parser Reference
subscripted_reader item first = do
  more ← r.any subscript_reader begins_subscript
  one_token right_in
  part ← part_behind_reader
  pure (record { item = item; subscripts = first ∷ more; part = part })

-- the subscripts, of which this is the first, and the part after them
unfoldable pub numbers_from_reader : Subscript → Parser (List Subscript × Option ItemPart)
numbers_from_reader first = do
  more ← r.any subscript_reader begins_subscript
  one_token right_in
  part ← part_behind_reader
  pure (first ∷ more, part)

unfoldable pub after_number_reader : QualifiedName → Subscript → Parser Reference
after_number_reader item first i = if begins_colon i then item_part_reader item first i else subscripted_reader item first i

unfoldable pub enclosed_numbers_reader : QualifiedName → Parser Reference
enclosed_numbers_reader item = do
  one_token left_in
  first ← subscript_reader
  after_number_reader item first

unfoldable pub after_name_reader : QualifiedName → Parser Reference
after_name_reader item i = if begins_left i then enclosed_numbers_reader item i else Ok (record { item = item; subscripts = []; part = None }, i)

unfoldable pub reference_reader : Parser Reference
reference_reader = do
  item ← qualified_reader
  after_name_reader item
