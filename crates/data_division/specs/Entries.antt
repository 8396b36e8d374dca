-- Which tokens spell which entry (COBOL-85, Nucleus, "Data description entry").
use Rattle.std.specs.Prelude.{◌≡◌, ◌==◌, Bool, true, false, Option, None, Some}
use Rattle.tokens.specs.declared.reserved.Reserved.TheVariants as w
use Rattle.source_tree.specs.declared.name.Name.{Name}
use Rattle.source_tree.specs.declared.literal.Integer.{Integer}
use Rattle.source_tree.specs.declared.literal.Literal.{Literal}
use Rattle.source_tree.specs.declared.entry.ItemEntry.{ItemEntry}
use Rattle.source_tree.specs.declared.entry.ValueRange.{ValueRange}
use Rattle.source_tree.specs.declared.entry.ConditionEntry.{ConditionEntry}
use Rattle.source_tree.specs.declared.entry.Entry.{Entry}
use Rattle.source_tree.specs.declared.entry.Entry.TheVariants as entry_as
use Rattle.source_tree.specs.Integers.{number_of}
use Rattle.grammar.specs.Parts.{Part, ◌then◌, ◌or◌, absence_of, optional, some_of, several, lookahead, word, period, name}
use Rattle.expressions.specs.Subscripts.{integer}
use Rattle.expressions.specs.Literals.{literal, begins_literal}
use Rattle.data_division.specs.declared.stated.Stated.{Stated}
use Rattle.data_division.specs.Clauses.{either}
use Rattle.data_division.specs.Stated.{stated_clauses}

-- Level 88 is that of condition names, and of nothing else.
abbrev pub is_condition : Integer → Bool
is_condition level = number_of level == 88

-- [n|FILLER]
abbrev pub entry_name : Option Name → Part
entry_name None = word w.Filler or absence_of (some_of name or word w.Filler)
entry_name (Some n) = name n

-- SYNCHRONIZED leaves nothing.
abbrev pub item_of : Integer → Option Name → Stated → ItemEntry
item_of level given clauses = record {
  level = level;
  name = given;
  redefines = clauses.redefines;
  picture = clauses.picture;
  usage = clauses.usage;
  sign = clauses.sign;
  occurs = clauses.occurs;
  justified = clauses.justified;
  blank_when_zero = clauses.blank_when_zero;
  value = clauses.value;
}

-- int [n|FILLER] clauses .
abbrev pub item_entry : ItemEntry → Part
item_entry one = λ from rest.
    (clauses : Stated) × (one ≡ item_of one.level one.name clauses) × (is_condition one.level ≡ false)
    × (integer one.level then entry_name one.name then stated_clauses clauses then period) from rest

abbrev pub through_word : Part
through_word = either w.Thru w.Through

-- [{THRU|THROUGH} lit]
abbrev pub last_value : Option Literal → Part
last_value None = absence_of through_word
last_value (Some one) = through_word then literal one

-- lit [{THRU|THROUGH} lit]
abbrev pub range : ValueRange → Part
range one = literal one.first then last_value one.last

-- an integer that is 88
abbrev pub condition_level : Part
condition_level = λ from rest. (level : Integer) × (is_condition level ≡ true) × integer level from rest

-- 88 n {VALUE|VALUES} [IS|ARE] {lit [{THRU|THROUGH} lit]}... . (COBOL-85, Nucleus, "Condition-names")
abbrev pub condition_entry : ConditionEntry → Part
condition_entry one =
    condition_level then name one.name then either w.Value w.Values then optional (either w.Is w.Are)
    then several range (lookahead begins_literal) one.values then period

abbrev pub entry : Entry → Part
entry (entry_as.Item one) = item_entry one
entry (entry_as.Condition one) = condition_entry one
