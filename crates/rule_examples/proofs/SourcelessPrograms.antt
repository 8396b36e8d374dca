-- Rules that programs break which no source text has: literals of a form that tokens never have, a literal in
-- arithmetic that is no number, and a procedure division without sections.
use Rattle.std.proofs.Common.{◌≡◌, ℕ, false, List, [], ◌∷◌, None, Some, refl}
use Rattle.std.specs.Prelude.{codes}
use Rattle.lexical.specs.declared.place.Place.{Place}
use Rattle.lexical.specs.declared.number.Sign.TheVariants as sign
use Rattle.source_tree.specs.declared.name.Name.{Name}
use Rattle.source_tree.specs.declared.literal.LiteralValue.{LiteralValue}
use Rattle.source_tree.specs.declared.literal.LiteralValue.TheVariants.{Numeric, Nonnumeric}
use Rattle.source_tree.specs.declared.reference.Reference.{Reference}
use Rattle.source_tree.specs.declared.expression.Operand.{Operand}
use Rattle.source_tree.specs.declared.expression.Operand.TheVariants as operand
use Rattle.source_tree.specs.declared.entry.Entry.{Entry}
use Rattle.source_tree.specs.declared.entry.Entry.TheVariants as entry
use Rattle.source_tree.specs.declared.arithmetic.Operation.TheVariants as operation
use Rattle.source_tree.specs.declared.data_statement.DataStatement.TheVariants as verbs
use Rattle.source_tree.specs.declared.statement.Verb.{Verb}
use Rattle.source_tree.specs.declared.statement.Verb.TheVariants as verb
use Rattle.source_tree.specs.declared.statement.Statement.{Statement, roll-Statement}
use Rattle.source_tree.specs.declared.statement.Statement.TheOpen.{Statement-F}
use Rattle.source_tree.specs.declared.statement.Statement.TheFolds.{map-Statement, fold-roll-Statement}
use Rattle.source_tree.specs.declared.program.Section.{Section}
use Rattle.source_tree.specs.declared.program.Program.{Program}
use Rattle.source_tree.specs.Broken.{RuleBreach}
use Rattle.source_tree.specs.Setting.{scope}
use Rattle.source_tree.specs.Rules.{program_rules, statement_rules, statement_layer, all_permitted}
use Rattle.source_tree.specs.StatementCount.{statement_places, places_layer}
use Rattle.picture.specs.Symbols as symbols
use Rattle.picture.specs.Runs as runs
use Rattle.picture.specs.Forms as forms
use Rattle.picture.specs.Categories as categories
use Rattle.picture.specs.Deciding as deciding
use Rattle.picture.specs.Places as places
use Rattle.picture.specs.Text as text
use Rattle.picture.specs.Regions as regions
use Rattle.picture.specs.Pictures as pictures
use Rattle.items.specs.Values as values

-- what unfolds where a program is looked at
unfoldable computing : Unit {0}
unfolding
    symbols.class_has runs.runs_past runs.past_one runs.from_first runs.occurrences runs.ends_in runs.size_of
    forms.suppression_of categories.kind_of deciding.category_of deciding.is_of deciding.is_edited
    deciding.is_arranged deciding.past_core deciding.has_one_sign deciding.begins_before_point
    deciding.has_digits deciding.is_numeric_picture deciding.is_only places.each_place places.repeated_places
    places.region_from text.runs_of text.runs_from text.run_at text.run_from text.pair_at text.character_at
    text.count_at text.count_before_parenthesis text.number_at text.symbol_of regions.digits_in
    pictures.picture_of pictures.of_form pictures.of_digits pictures.of_characters pictures.scale_of
    values.value_of
computing = tt

-- a place of the first line
abbrev at : ℕ → Place
at column = record { line = 1; column = column }

abbrev name : ℕ → List ℕ → Name
name column characters = record { characters = characters; place = at column }

-- 77 M PIC 9
abbrev item_m : Entry
item_m = entry.Item (record {
  level = record { digits = codes "77"; place = at 8 };
  name = Some (name 12 (codes "M"));
  redefines = None;
  picture = Some (record { characters = codes "9"; place = at 16 });
  usage = None;
  sign = None;
  occurs = None;
  justified = false;
  blank_when_zero = false;
  value = None;
})

-- the program P of these sections
abbrev program_of : List Section → Program
program_of sections = record {
  name = name 20 (codes "P");
  selects = [];
  files = [];
  storage = item_m ∷ [];
  sections = sections;
}

abbrev statement : Verb Statement → Statement-F Statement
statement one = record { place = at 12; verb = one }

-- the program of one statement, which has no section name and no paragraph name
abbrev of_statement : Verb Statement → Program
of_statement one = program_of (record {
  name = None;
  paragraphs = record {
    name = None;
    sentences = record { statements = roll-Statement (statement one) ∷ [] } ∷ [];
  } ∷ [];
} ∷ [])

abbrev literal : LiteralValue → Operand
literal value = operand.Literal (record { value = value; place = at 20 })

abbrev number : List ℕ → LiteralValue
number whole = Numeric (record { sign = sign.Unsigned; whole = whole; decimals = [] })

abbrev m : Reference
m = record { item = record { name = name 30 (codes "M"); qualifiers = [] }; subscripts = []; part = None }

-- MOVE of a literal TO M
abbrev move : LiteralValue → Verb Statement
move value = verb.DataStatement (verbs.Move (literal value) (m ∷ []))

-- ADD of a literal TO M
abbrev add : LiteralValue → Verb Statement
add value = verb.Arithmetic (record {
  operation = operation.Add (literal value ∷ []) (record { item = m; rounded = false } ∷ []);
  phrases = record { arose = None; did_not = None };
})

abbrev broken : ℕ → List RuleBreach
broken rule = record { rule = rule; place = at 20 } ∷ []

-- the rules that the statement breaks, and where it stands

abbrev statement_rules_in : Verb Statement → Statement → List RuleBreach
statement_rules_in one = statement_rules (scope (of_statement one)) all_permitted

abbrev rules_layer : Verb Statement → Statement-F (List RuleBreach) → List RuleBreach
rules_layer one = statement_layer (scope (of_statement one)) all_permitted

rolled_rules : (one : Verb Statement) → statement_rules_in one (roll-Statement (statement one))
    ≡ rules_layer one (map-Statement Statement (List RuleBreach) (statement_rules_in one) (statement one))
unfolding statement_rules
rolled_rules one = fold-roll-Statement (List RuleBreach) (rules_layer one) (statement one)

rolled_places : (one : Verb Statement) → statement_places (roll-Statement (statement one))
    ≡ places_layer (map-Statement Statement (List Place) statement_places (statement one))
unfolding statement_places
rolled_places one = fold-roll-Statement (List Place) places_layer (statement one)

-- ---- 18: a text without a character

abbrev empty_text : Verb Statement
empty_text = move (Nonnumeric [])

empty_text_breaks_18 : program_rules (of_statement empty_text) ≡ broken 18
unfolding computing
empty_text_breaks_18 = rw (rolled_rules empty_text) (rw (rolled_places empty_text) refl)

-- ---- 17: more than 18 digits, and none

abbrev long_number : Verb Statement
long_number = move (number (codes "1234567890123456789"))

long_number_breaks_17 : program_rules (of_statement long_number) ≡ broken 17
unfolding computing
long_number_breaks_17 = rw (rolled_rules long_number) (rw (rolled_places long_number) refl)

abbrev no_digits : Verb Statement
no_digits = move (number [])

no_digits_break_17 : program_rules (of_statement no_digits) ≡ broken 17
unfolding computing
no_digits_break_17 = rw (rolled_rules no_digits) (rw (rolled_places no_digits) refl)

abbrev one_digit : Verb Statement
one_digit = move (number (codes "1"))

one_digit_breaks_none : program_rules (of_statement one_digit) ≡ []
unfolding computing
one_digit_breaks_none = rw (rolled_rules one_digit) (rw (rolled_places one_digit) refl)

-- ---- 51: a text where a number is needed

abbrev text_added : Verb Statement
text_added = add (Nonnumeric (codes "5"))

text_added_breaks_51 : program_rules (of_statement text_added) ≡ broken 51
unfolding computing
text_added_breaks_51 = rw (rolled_rules text_added) (rw (rolled_places text_added) refl)

abbrev number_added : Verb Statement
number_added = add (number (codes "5"))

number_added_breaks_none : program_rules (of_statement number_added) ≡ []
unfolding computing
number_added_breaks_none = rw (rolled_rules number_added) (rw (rolled_places number_added) refl)

-- ---- 56: no sections

no_sections_break_56 : program_rules (program_of []) ≡ broken 56
unfolding computing
no_sections_break_56 = refl
