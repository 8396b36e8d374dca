-- Which tokens spell which clause (COBOL-85, Nucleus, "Data description entry").
use Rattle.std.specs.Prelude.{Option, None, Some}
use Rattle.tokens.specs.declared.reserved.Reserved.{Reserved}
use Rattle.tokens.specs.declared.reserved.Reserved.TheVariants as w
use Rattle.tokens.specs.declared.token.Kind.{Kind}
use Rattle.tokens.specs.declared.token.Kind.TheVariants as k
use Rattle.tokens.specs.declared.token.Token.{Token}
use Rattle.lexical.specs.declared.place.Place.{Place}
use Rattle.source_tree.specs.declared.name.Name.{Name}
use Rattle.source_tree.specs.declared.literal.Integer.{Integer}
use Rattle.source_tree.specs.declared.literal.Literal.{Literal}
use Rattle.source_tree.specs.declared.entry.PictureText.{PictureText}
use Rattle.source_tree.specs.declared.entry.UsageClause.{UsageClause}
use Rattle.source_tree.specs.declared.entry.SignClause.{SignClause}
use Rattle.grammar.specs.Parts.{Part, ◌then◌, ◌or◌, optional, optional_part, word, token_with, name}
use Rattle.grammar.specs.OptionalWords.{led_by}
use Rattle.expressions.specs.Subscripts.{integer}
use Rattle.expressions.specs.Literals.{literal}
use Rattle.data_division.specs.Words.{usage_in, position_in}
use Rattle.data_division.specs.declared.clause.Clause.{Clause}
use Rattle.data_division.specs.declared.clause.Clause.TheVariants as clause_as

-- {one|other}
abbrev pub either : Reserved → Reserved → Part
either one other = word one or word other

-- REDEFINES n
abbrev pub redefines : Name → Part
redefines n = word w.Redefines then name n

abbrev pub picture_by : Kind → Place → Option PictureText
picture_by (k.Picture characters) place = Some (record { characters = characters; place = place })
picture_by _ place = None

abbrev pub picture_in : Token → Option PictureText
picture_in one = picture_by one.kind one.place

-- {PIC|PICTURE} [IS] pic
abbrev pub picture : PictureText → Part
picture text = either w.Pic w.Picture then optional (word w.Is) then token_with picture_in text

-- [USAGE [IS]] {DISPLAY|COMP|COMPUTATIONAL|BINARY|PACKED-DECIMAL|COMP-3|COMPUTATIONAL-3}
abbrev pub usage : UsageClause → Part
usage one = led_by w.Usage then token_with usage_in one

-- SEPARATE [CHARACTER]
abbrev pub separate : Part
separate = word w.Separate then optional (word w.Character)

-- [SIGN [IS]] {LEADING|TRAILING} [SEPARATE [CHARACTER]]
abbrev pub sign : SignClause → Part
sign one = led_by w.Sign then token_with position_in one.position then optional_part separate one.separate

-- OCCURS int [TIMES]
abbrev pub occurs : Integer → Part
occurs count = word w.Occurs then integer count then optional (word w.Times)

-- {SYNC|SYNCHRONIZED} [LEFT|RIGHT]
abbrev pub synchronized_clause : Part
synchronized_clause = either w.Sync w.Synchronized then optional (either w.Left w.Right)

-- {JUST|JUSTIFIED} [RIGHT]
abbrev pub justified_clause : Part
justified_clause = either w.Just w.Justified then optional (word w.Right)

-- BLANK [WHEN] ZERO
abbrev pub blank_when_zero : Part
blank_when_zero = word w.Blank then optional (word w.When) then word w.Zero

-- VALUE [IS] lit
abbrev pub value : Literal → Part
value one = word w.Value then optional (word w.Is) then literal one

abbrev pub clause : Clause → Part
clause (clause_as.Redefines n) = redefines n
clause (clause_as.Picture text) = picture text
clause (clause_as.Usage one) = usage one
clause (clause_as.Sign one) = sign one
clause (clause_as.Occurs count) = occurs count
clause clause_as.Synchronized = synchronized_clause
clause clause_as.Justified = justified_clause
clause clause_as.BlankWhenZero = blank_when_zero
clause (clause_as.Value one) = value one
