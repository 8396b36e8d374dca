-- Levels of entries that keep the rules.
use Rattle.std.proofs.Common.{◌≡◌, ℕ, ◌<◌, ◌==◌, nat_lt, nat_le, Bool, true, false, not, ◌&&◌, ◌||◌, if◌then◌else◌}
use Rattle.std.proofs.Common.{List, [], ◌∷◌, ◌++◌, drop, None, refl, lit<, arith}
use Rattle.lexical.specs.declared.place.Place.{Place}
use Rattle.source_tree.specs.declared.entry.ItemEntry.{ItemEntry}
use Rattle.source_tree.specs.declared.entry.Entry.{Entry}
use Rattle.source_tree.specs.declared.entry.Entry.TheVariants.{Item, Condition}
use Rattle.source_tree.specs.declared.select.FileDescription.{FileDescription}
use Rattle.source_tree.specs.Integers.{number_of}
use Rattle.source_tree.specs.Levels.{Forest, End, Tree, level_of, deeper, beyond, leading_conditions, forest_of}
use Rattle.source_tree.specs.Broken.{where_so, each}
use Rattle.source_tree.specs.EntryRules.{is_level, level_rules, outermost, forest_rules, storage_rules, excess}
use Rattle.source_tree.specs.EntryRules.{homeless, most_entries, entry_rules}
use Rattle.source_tree.specs.FileRules.{description_rules, most_record_bytes}
use Rattle.source_tree.specs.Records.{record_length}
use Rattle.source_tree.specs.ValueRules.{are_some}
use Rattle.data_entries.specs.Nesting.{AreTold}

pub front_nil : {A : Type 0} (xs ys : List A) → xs ++ ys ≡ [] → xs ≡ []
front_nil [] ys e = refl
front_nil (x ∷ xs) ys e = cc

pub back_nil : {A : Type 0} (xs ys : List A) → xs ++ ys ≡ [] → ys ≡ []
back_nil [] ys e = e
back_nil (x ∷ xs) ys e = cc

kept : (test : Bool) (rule : ℕ) (place : Place) → where_so test rule place ≡ [] → test ≡ false
kept true rule place e = cc
kept false rule place e = refl

told_if : (b : Bool) (F G : Forest) → AreTold F → AreTold G → AreTold (if b then F else G)
told_if true F G f g = f
told_if false F G f g = g

told_deeper : (level : ℕ) (F : Forest) → AreTold F → AreTold (deeper level F)
told_deeper level End h = tt
told_deeper level (Tree one conditions inner next) h =
    told_if (nat_lt level (level_of one)) (Tree one conditions inner (deeper level next)) End
    (h.0, h.1, told_deeper level next h.2) tt

told_beyond : (level : ℕ) (F : Forest) → AreTold F → AreTold (beyond level F)
told_beyond level End h = tt
told_beyond level (Tree one conditions inner next) h =
    told_if (nat_lt level (level_of one)) (beyond level next) (Tree one conditions inner next)
    (told_beyond level next h.2) h

second_of : (d c : Bool) → ((d && c) || false) ≡ true → c ≡ true
second_of true true e = refl
second_of true false e = cc
second_of false c e = cc

low : (n : ℕ) → nat_le n 49 ≡ true → n < 100000
low n e = grind arith

known_by : (b : Bool) (n : ℕ) → ((nat_le 1 n && nat_le n 49) || b) ≡ true → (if b then 1 else n) < 100000
known_by true n e = lit< tt
known_by false n e = low n (second_of (nat_le 1 n) (nat_le n 49) e)

true_where : (b : Bool) → not b ≡ false → b ≡ true
true_where true e = refl
true_where false e = cc

known_level : (one : ItemEntry) → level_rules (Item one) ≡ [] → level_of one < 100000
known_level one e =
    known_by (number_of one.level == 77) (number_of one.level)
    (true_where (is_level (number_of one.level)) (kept (not (is_level (number_of one.level))) 43 one.level.place e))

pub levels_known : (entries : List Entry) → each level_rules entries ≡ [] → AreTold (forest_of entries)
levels_known [] e = tt
levels_known (Item one ∷ more) e =
    let rest = levels_known more (back_nil (level_rules (Item one)) (each level_rules more) e) in (
      known_level one (front_nil (level_rules (Item one)) (each level_rules more) e),
      told_deeper (level_of one) (forest_of more) rest,
      told_beyond (level_of one) (forest_of more) rest,
    )
levels_known (Condition one ∷ more) e = levels_known more e

pub all_told : (entries : List Entry) → entry_rules entries ≡ [] → AreTold (forest_of entries)
all_told entries e =
    let counted = back_nil
    (each excess (drop most_entries entries)) (each level_rules entries ++ (each homeless (leading_conditions entries)
    ++ (forest_rules (outermost false) None (forest_of entries) ++ storage_rules 0 (forest_of entries)))) e in
    levels_known entries (front_nil (each level_rules entries) (each homeless (leading_conditions entries)
    ++ (forest_rules (outermost false) None (forest_of entries) ++ storage_rules 0 (forest_of entries))) counted)

pub record_told : (one : FileDescription) → description_rules one ≡ [] → AreTold (forest_of one.entries)
record_told one e =
    let levels = each level_rules one.entries in
    let homes = each homeless (leading_conditions one.entries) in
    let forest = forest_rules (outermost true) None (forest_of one.entries) in
    let length = where_so (not (are_some most_record_bytes (record_length one.entries))) 69 one.name.place in
    levels_known one.entries
    (front_nil levels homes (front_nil (levels ++ homes) forest (front_nil (levels ++ homes ++ forest) length e)))
