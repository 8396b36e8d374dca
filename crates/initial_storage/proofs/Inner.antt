-- The items of groups are no 01.
use Rattle.std.proofs.Common.{◌≡◌, ℕ, ◌≤◌, ◌==◌, nat_lt, nat_le, Bool, true, false, not, ◌&&◌, ◌||◌, if◌then◌else◌}
use Rattle.std.proofs.Common.{List, [], ◌∷◌, refl, lit≤, arith}
use Rattle.source_tree.specs.declared.entry.ItemEntry.{ItemEntry}
use Rattle.source_tree.specs.declared.entry.Entry.{Entry}
use Rattle.source_tree.specs.declared.entry.Entry.TheVariants.{Item, Condition}
use Rattle.source_tree.specs.Integers.{number_of}
use Rattle.source_tree.specs.Levels.{Forest, End, Tree, level_of, deeper, beyond, forest_of}
use Rattle.source_tree.specs.Broken.{each}
use Rattle.source_tree.specs.EntryRules.{is_level, level_rules}
use Rattle.initial_storage.proofs.Kept.{front_nil, back_nil, kept, true_where}

abbrev pub Inner : Forest → Type 0
Inner End = Unit {0}
Inner (Tree one conditions inner next) = ((number_of one.level == 1) ≡ false) × Inner inner × Inner next

abbrev pub Outer : Forest → Type 0
Outer End = Unit {0}
Outer (Tree one conditions inner next) = Inner inner × Outer next

inner_if : (b : Bool) (F : Forest) → (b ≡ true → Inner F) → Inner (if b then F else End)
inner_if true F h = h refl
inner_if false F h = tt

outer_if : (b : Bool) (F G : Forest) → Outer F → Outer G → Outer (if b then F else G)
outer_if true F G f g = f
outer_if false F G f g = g

above_one : (level n : ℕ) → 1 ≤ level → nat_lt level n ≡ true → (n == 1) ≡ false
above_one level n some e = grind arith

-- 77 nests as 01 does, and so what is deeper is neither.
no_record : (b : Bool) (level n : ℕ) → 1 ≤ level → nat_lt level (if b then 1 else n) ≡ true → (n == 1) ≡ false
no_record true level n some e = let no : nat_lt level 1 ≡ true = e in grind arith
no_record false level n some e = above_one level n some e

inner_deeper : (level : ℕ) → 1 ≤ level → (F : Forest) → Outer F → Inner (deeper level F)
inner_deeper level some End h = tt
inner_deeper level some (Tree one conditions inner next) h =
    inner_if (nat_lt level (level_of one)) (Tree one conditions inner (deeper level next))
    (λ e. (
      no_record (number_of one.level == 77) level (number_of one.level) some e,
      h.0,
      inner_deeper level some next h.1,
    ))

outer_beyond : (level : ℕ) (F : Forest) → Outer F → Outer (beyond level F)
outer_beyond level End h = tt
outer_beyond level (Tree one conditions inner next) h =
    outer_if (nat_lt level (level_of one)) (beyond level next) (Tree one conditions inner next)
    (outer_beyond level next h.1) h

from_one : (n : ℕ) (b : Bool) → ((nat_le 1 n && nat_le n 49) || b) ≡ true → 1 ≤ (if b then 1 else n)
from_one n true e = lit≤ tt
from_one n false e = at_least n (nat_le n 49) e
  where
    at_least : (n : ℕ) (d : Bool) → ((nat_le 1 n && d) || false) ≡ true → 1 ≤ n
    at_least n d e = grind arith

level_some : (one : ItemEntry) → level_rules (Item one) ≡ [] → 1 ≤ level_of one
level_some one e =
    from_one (number_of one.level) (number_of one.level == 77)
    (true_where (is_level (number_of one.level)) (kept (not (is_level (number_of one.level))) 43 one.level.place e))

pub outer_nested : (entries : List Entry) → each level_rules entries ≡ [] → Outer (forest_of entries)
outer_nested [] e = tt
outer_nested (Item one ∷ more) e =
    let rest : Outer (forest_of more) =
    outer_nested more (back_nil (level_rules (Item one)) (each level_rules more) e) in (
      inner_deeper (level_of one) (level_some one (front_nil (level_rules (Item one)) (each level_rules more) e))
          (forest_of more) rest,
      outer_beyond (level_of one) (forest_of more) rest,
    )
outer_nested (Condition one ∷ more) e = outer_nested more e
