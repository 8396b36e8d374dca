-- Items have room for those in them, and aren't longer than what they redefine, except for records.
use Rattle.std.proofs.Common.{◌≡◌, ℕ, ◌*◌, ◌≤◌, ◌==◌, nat_lt, Bool, true, false, not, ◌&&◌, ◌||◌, if◌then◌else◌, []}
use Rattle.std.proofs.Common.{None, Some, is_some, refl, ap, subst, arith}
use Rattle.std.specs.Prelude.{Option}
use Rattle.items.specs.declared.item.Item.{Item}
use Rattle.source_tree.specs.declared.name.Name.{Name}
use Rattle.source_tree.specs.declared.entry.Around.{Around}
use Rattle.source_tree.specs.declared.entry.PictureText.{PictureText}
use Rattle.source_tree.specs.declared.entry.ItemEntry.{ItemEntry}
use Rattle.source_tree.specs.Integers.{number_of}
use Rattle.source_tree.specs.Names.{is_called}
use Rattle.source_tree.specs.Levels.{Forest, End, Tree}
use Rattle.source_tree.specs.Clauses.{inside, form_of, item_by, occurrences}
use Rattle.source_tree.specs.Rooms.{redefines, room, item_with}
use Rattle.source_tree.specs.Broken.{each}
use Rattle.source_tree.specs.ClauseRules.{wrong_picture}
use Rattle.source_tree.specs.RedefinitionRules.{Redefinable, redefinable_after, wrong_object, wrong_redefinition}
use Rattle.source_tree.specs.ValueRules.{condition_rules}
use Rattle.source_tree.specs.EntryRules.{Position, is_outermost, redefinition_rules, own_rules, below, forest_rules}
use Rattle.data_entries.proofs.TreeRules.{three_parts}
use Rattle.initial_storage.proofs.Kept.{kept, second_false, at_most, KeepsOwn, keeps_own}
use Rattle.initial_storage.proofs.Inner.{Inner}
use Rattle.initial_storage.proofs.Groups.{Sized}

none_of : (p : Option PictureText) (b : Bool) → (is_some p || b) ≡ false → p ≡ None
none_of None b e = refl
none_of (Some text) b e = cc

-- A group has as many bytes as its items, and an elementary item has none in it.
pub room_in : (around : Around) (one : ItemEntry) (inner : Forest) → wrong_picture one inner ≡ false
    → room (inside around one) inner ≤ (item_with around one inner).length
room_in around one End e = omega arith
room_in around one (Tree other conditions inner next) e =
    let bytes : ℕ = room (inside around one) (Tree other conditions inner next) in
    let same : (item_by around one (form_of one.picture) bytes).length ≡ bytes =
    ap (λ p. (item_by around one (form_of p) bytes).length) (none_of one.picture false e) in
    omega (arith, same)

abbrev pub bytes_of : Option Redefinable → ℕ
bytes_of None = 0
bytes_of (Some last) = last.bytes

not_longer : (outermost : Bool) (last bytes : ℕ) → outermost ≡ false → (not outermost && nat_lt last bytes) ≡ false
    → bytes ≤ last
not_longer true last bytes e h = cc
not_longer false last bytes e h = at_most last bytes h

-- in a group
object_longer : (one : ItemEntry) (bytes : ℕ) (name : Name) (last : Option Redefinable)
    → (number_of one.level == 1) ≡ false → wrong_object one bytes name last ≡ false → bytes ≤ bytes_of last
object_longer one bytes name None level e = cc
object_longer one bytes name (Some last) level e =
    not_longer (number_of one.level == 1) last.bytes bytes level
    (second_false (not (is_called name last.name) || not (number_of one.level == last.level) || last.has_occurs)
    (not (number_of one.level == 1) && nat_lt last.bytes bytes) e)

redefines_shorter : (is_record : Bool) (one : ItemEntry) (bytes : ℕ) (object : Option Name) (last : Option Redefinable)
    → (number_of one.level == 1) ≡ false
    → redefinition_rules is_record one bytes object last ≡ [] → is_some object ≡ true → bytes ≤ bytes_of last
redefines_shorter is_record one bytes None last level e so = cc
redefines_shorter is_record one bytes (Some name) last level e so =
    object_longer one bytes name last level (second_false is_record (wrong_object one bytes name last)
    (kept (wrong_redefinition is_record one bytes name last) 46 name.place e))

remembered_if : (b : Bool) (last one : Option Redefinable) (bytes : ℕ) → bytes_of one ≡ bytes
    → bytes_of (if b then last else one) ≡ (if b then bytes_of last else bytes)
remembered_if true last one bytes e = refl
remembered_if false last one bytes e = e

remembered_bytes : (one : ItemEntry) (bytes : ℕ) (last : Option Redefinable)
    → bytes_of (redefinable_after one bytes last) ≡ (if redefines one then bytes_of last else bytes)
remembered_bytes one bytes last = remembered_if (redefines one) last
    (Some (record { name = one.name; level = number_of one.level; bytes = bytes; has_occurs = is_some one.occurs }))
    bytes refl

pub sized : (at : Position) (last : Option Redefinable) (F : Forest) → Inner F → forest_rules at last F ≡ []
    → Sized at.around (bytes_of last) F
sized at last End levels e = tt
sized at last (Tree one conditions inner next) levels e =
    let item : Item = item_with at.around one inner in
    let bytes : ℕ = occurrences one * item.length in
    let after : Option Redefinable = redefinable_after one bytes last in
    let parts = three_parts (forest_rules (below at one inner) None inner) (own_rules at one item inner last)
    (each (condition_rules item) conditions) (forest_rules at after next) e in
    let own : KeepsOwn at one inner last = keeps_own at one inner last parts.1 in (
      record {
        some = own.some;
        shorter =
            redefines_shorter (is_outermost at && at.in_file) one bytes one.redefines last levels.0 own.redefinition;
        room = room_in at.around one inner own.picture;
      },
      sized (below at one inner) None inner levels.1 parts.0,
      subst (λ n. Sized at.around n next) (remembered_bytes one bytes last) (sized at after next levels.2 parts.2),
    )
