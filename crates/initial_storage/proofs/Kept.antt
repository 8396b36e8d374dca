-- Entries that keep the rules are within the limits, and have values that their items take.
use Rattle.std.proofs.Common.{◌≡◌, ℕ, ◌*◌, ◌≤◌, ◌<◌, ◌==◌, nat_lt, Bool, true, false, not, ◌&&◌, ◌||◌, List, [], ◌∷◌}
use Rattle.std.proofs.Common.{◌++◌, drop, None, Some, is_some, refl, lit≤, arith}
use Rattle.std.specs.Prelude.{Option}
use Rattle.items.specs.declared.item.Item as Items
use Rattle.items.specs.declared.item.Kind.{Kind}
use Rattle.items.specs.declared.item.Kind.TheVariants as kind
use Rattle.items.specs.declared.numeric.Numeric.{Numeric}
use Rattle.lexical.specs.declared.place.Place.{Place}
use Rattle.source_tree.specs.declared.literal.Integer.{Integer}
use Rattle.source_tree.specs.declared.literal.Literal.{Literal}
use Rattle.source_tree.specs.declared.literal.LiteralValue.{LiteralValue}
use Rattle.source_tree.specs.declared.literal.LiteralValue.TheVariants as literal
use Rattle.source_tree.specs.declared.literal.Figurative.TheVariants as figurative
use Rattle.source_tree.specs.declared.entry.Around.{Around}
use Rattle.source_tree.specs.declared.entry.ItemEntry.{ItemEntry}
use Rattle.source_tree.specs.declared.entry.Entry.{Entry}
use Rattle.source_tree.specs.Integers.{number_of}
use Rattle.source_tree.specs.Levels.{Forest, End, Tree, level_of, leading_conditions, forest_of}
use Rattle.source_tree.specs.Clauses.{nothing_around, count_in, occurrences, picture_in}
use Rattle.source_tree.specs.Rooms.{redefines, item_with}
use Rattle.source_tree.specs.Literals.{literal_sender}
use Rattle.source_tree.specs.Broken.{RuleBreach, where_so, each}
use Rattle.source_tree.specs.ClauseRules.{most_item_bytes, most_occurrences, most_dimensions, may_be_justified}
use Rattle.source_tree.specs.ClauseRules.{wrong_occurs, wrong_blank, wrong_form, another_usage, too_large, too_many}
use Rattle.source_tree.specs.ClauseRules.{wrong_clause, wrong_picture}
use Rattle.source_tree.specs.RedefinitionRules.{Redefinable, redefinable_after}
use Rattle.source_tree.specs.ValueRules.{has_form, wrong_number, wrong_class, wrong_value, value_rules}
use Rattle.source_tree.specs.EntryRules.{Position, outermost, is_outermost, level_rules, wrong_level}
use Rattle.source_tree.specs.EntryRules.{redefinition_rules, own_rules, below, forest_rules, storage_rules, excess}
use Rattle.source_tree.specs.EntryRules.{homeless, most_entries, entry_rules}
use Rattle.data_entries.specs.Nesting.{AreTold}
use Rattle.data_entries.proofs.TreeRules.{tree_parts}
use Rattle.initial_storage.specs.Fits.{Suits, HasValue, FitsEntry, Fits}

pub front_nil : {A : Type 0} (xs ys : List A) → xs ++ ys ≡ [] → xs ≡ []
front_nil [] ys e = refl
front_nil (x ∷ xs) ys e = cc

pub back_nil : {A : Type 0} (xs ys : List A) → xs ++ ys ≡ [] → ys ≡ []
back_nil [] ys e = e
back_nil (x ∷ xs) ys e = cc

pub kept : (test : Bool) (rule : ℕ) (place : Place) → where_so test rule place ≡ [] → test ≡ false
kept true rule place e = cc
kept false rule place e = refl

pub first_false : (a b : Bool) → (a || b) ≡ false → a ≡ false
first_false true b e = cc
first_false false b e = refl

pub second_false : (a b : Bool) → (a || b) ≡ false → b ≡ false
second_false true b e = cc
second_false false b e = e

pub true_where : (b : Bool) → not b ≡ false → b ≡ true
true_where true e = refl
true_where false e = cc

-- ---- an entry's own rules

pub at_most : (limit n : ℕ) → nat_lt limit n ≡ false → n ≤ limit
at_most limit n e = grind arith

not_none : (n : ℕ) → (n == 0) ≡ false → 1 ≤ n
not_none n e = grind arith

-- OCCURS is at least 1, and without it there is one occurrence.
some_times : (occurs : Option Integer) (outermost deep : Bool)
    → (is_some occurs && (outermost || deep || (count_in occurs == 0))) ≡ false → 1 ≤ count_in occurs
some_times None outermost deep e = lit≤ tt
some_times (Some count) outermost deep e =
    not_none (number_of count) (second_false (outermost || deep) (number_of count == 0) e)

some_occurrence : (outermost : Bool) (nesting : ℕ) (around : Around) (one : ItemEntry) (item : Items.Item)
    → wrong_clause outermost nesting around one item ≡ false → 1 ≤ occurrences one
some_occurrence outermost nesting around one item e =
    some_times one.occurs outermost (not (nat_lt nesting most_dimensions))
    (first_false (wrong_occurs outermost nesting one) (one.justified && not (may_be_justified item.kind))
    (first_false (wrong_occurs outermost nesting one || (one.justified && not (may_be_justified item.kind)))
    (wrong_blank around one (picture_in one))
    (first_false (wrong_occurs outermost nesting one || (one.justified && not (may_be_justified item.kind))
    || wrong_blank around one (picture_in one)) (wrong_form around one item (picture_in one))
    (first_false (wrong_occurs outermost nesting one || (one.justified && not (may_be_justified item.kind))
    || wrong_blank around one (picture_in one) || wrong_form around one item (picture_in one))
    (another_usage one.usage around.usage) e))))

number_suits : (numeric : Numeric) (value : LiteralValue) → wrong_number numeric value ≡ false
    → Suits (kind.Numeric numeric) (literal_sender value).taken
number_suits numeric (literal.Numeric one) e = refl
number_suits numeric (literal.Nonnumeric bytes) e = cc
number_suits numeric (literal.Figurative figurative.Zero) e = refl
number_suits numeric (literal.Figurative figurative.Space) e = cc
number_suits numeric (literal.Figurative figurative.HighValue) e = cc
number_suits numeric (literal.Figurative figurative.LowValue) e = cc
number_suits numeric (literal.Figurative figurative.Quote) e = cc
number_suits numeric (literal.All bytes) e = cc

suits : (kind : Kind) (size : ℕ) (value : LiteralValue) → wrong_class kind size value ≡ false
    → Suits kind (literal_sender value).taken
suits kind.Group size value e = tt
suits (kind.Alphabetic justified) size value e = tt
suits (kind.Alphanumeric justified) size value e = tt
suits kind.AlphanumericEdited size value e = tt
suits (kind.NumericEdited blank) size value e = tt
suits (kind.Numeric numeric) size value e = number_suits numeric value e

pub has_value : (forbidden : Bool) (item : Items.Item) (value : Option Literal) → value_rules forbidden item value ≡ []
    → HasValue item.kind value
has_value forbidden item None e = tt
has_value forbidden item (Some one) e =
    let right = second_false forbidden (wrong_value item.kind item.length one.value)
    (kept (forbidden || wrong_value item.kind item.length one.value) 47 one.place e) in (
      true_where (has_form one.value)
          (first_false (not (has_form one.value)) (wrong_class item.kind item.length one.value) right),
      suits item.kind item.length one.value
          (second_false (not (has_form one.value)) (wrong_class item.kind item.length one.value) right),
    )

own_parts : (times bytes level clause picture : Bool) (place : Place) (redefinition value : List RuleBreach)
    → where_so times 69 place ++ where_so bytes 48 place ++ where_so level 43 place ++ where_so clause 44 place
    ++ where_so picture 45 place ++ redefinition ++ value ≡ []
    → (times ≡ false) × (bytes ≡ false) × (clause ≡ false) × (picture ≡ false) × (redefinition ≡ []) × (value ≡ [])
own_parts true bytes level clause picture place redefinition value e = cc
own_parts false true level clause picture place redefinition value e = cc
own_parts false false true clause picture place redefinition value e = cc
own_parts false false false true picture place redefinition value e = cc
own_parts false false false false true place redefinition value e = cc
own_parts false false false false false place redefinition value e =
    (refl, refl, refl, refl, front_nil redefinition value e, back_nil redefinition value e)

-- What the rules of an entry say of it.
pub record KeepsOwn (at : Position) (one : ItemEntry) (inner : Forest) (last : Option Redefinable) : Type 0 where
  pub times : occurrences one ≤ most_occurrences
  pub bytes : (item_with at.around one inner).length ≤ most_item_bytes
  pub some : 1 ≤ occurrences one
  pub picture : wrong_picture one inner ≡ false
  pub redefinition : redefinition_rules (is_outermost at && at.in_file) one
      (occurrences one * (item_with at.around one inner).length) one.redefines last ≡ []
  pub value : HasValue (item_with at.around one inner).kind one.value

pub keeps_own : (at : Position) (one : ItemEntry) (inner : Forest) (last : Option Redefinable)
    → own_rules at one (item_with at.around one inner) inner last ≡ [] → KeepsOwn at one inner last
keeps_own at one inner last e =
    let item : Items.Item = item_with at.around one inner in
    let parts = own_parts (too_many one) (too_large item) (wrong_level at.in_file at.level (number_of one.level) inner)
    (wrong_clause (is_outermost at) at.nesting at.around one item) (wrong_picture one inner) one.level.place
    (redefinition_rules (is_outermost at && at.in_file) one (occurrences one * item.length) one.redefines last)
    (value_rules (at.in_file || at.has_no_value || redefines one) item one.value) e in
    record {
      times = at_most most_occurrences (occurrences one) parts.0;
      bytes = at_most most_item_bytes item.length parts.1;
      some = some_occurrence (is_outermost at) at.nesting at.around one item parts.2;
      picture = parts.3;
      redefinition = parts.4;
      value = has_value (at.in_file || at.has_no_value || redefines one) item one.value parts.5;
    }

entry_fits : (at : Position) (one : ItemEntry) (inner : Forest) (last : Option Redefinable) → level_of one < 100000
    → own_rules at one (item_with at.around one inner) inner last ≡ [] → FitsEntry at.around one inner
entry_fits at one inner last level e =
    let own : KeepsOwn at one inner last = keeps_own at one inner last e in
    record { level = level; some = own.some; times = own.times; bytes = own.bytes; value = own.value }

pub of_forest : (at : Position) (last : Option Redefinable) (F : Forest) → AreTold F → forest_rules at last F ≡ []
    → Fits at.around F
of_forest at last End levels e = tt
of_forest at last (Tree one conditions inner next) levels e =
    let after : Option Redefinable =
    redefinable_after one (occurrences one * (item_with at.around one inner).length) last in
    let parts = tree_parts at last one conditions inner next e in (
      entry_fits at one inner last levels.0 parts.1,
      of_forest (below at one inner) None inner levels.1 parts.0,
      of_forest at after next levels.2 parts.2,
    )

-- ---- all of working storage

pub rule_parts : (entries : List Entry) → entry_rules entries ≡ []
    → (each level_rules entries ≡ []) × (forest_rules (outermost false) None (forest_of entries) ≡ [])
    × (storage_rules 0 (forest_of entries) ≡ [])
rule_parts entries e =
    let counted = back_nil
    (each excess (drop most_entries entries)) (each level_rules entries ++ (each homeless (leading_conditions entries)
    ++ (forest_rules (outermost false) None (forest_of entries) ++ storage_rules 0 (forest_of entries)))) e in
    let rest = back_nil (each homeless (leading_conditions entries))
    (forest_rules (outermost false) None (forest_of entries) ++ storage_rules 0 (forest_of entries))
    (back_nil (each level_rules entries) (each homeless (leading_conditions entries) ++ (forest_rules (outermost false)
    None (forest_of entries) ++ storage_rules 0 (forest_of entries))) counted) in (
      front_nil (each level_rules entries) (each homeless (leading_conditions entries)
          ++ (forest_rules (outermost false) None (forest_of entries) ++ storage_rules 0 (forest_of entries))) counted,
      front_nil (forest_rules (outermost false) None (forest_of entries)) (storage_rules 0 (forest_of entries)) rest,
      back_nil (forest_rules (outermost false) None (forest_of entries)) (storage_rules 0 (forest_of entries)) rest,
    )

pub fits : (entries : List Entry) → entry_rules entries ≡ [] → AreTold (forest_of entries)
    → Fits nothing_around (forest_of entries)
fits entries e levels =
    let parts = rule_parts entries e in
    of_forest (outermost false) None (forest_of entries) levels parts.1
