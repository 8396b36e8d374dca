-- Rule 46: REDEFINES (COBOL-85, Nucleus, "The REDEFINES clause").
use Rattle.std.specs.Prelude.{ℕ, ◌==◌, nat_lt, Bool, true, not, ◌&&◌, ◌||◌, is_some, if◌then◌else◌, Option, Some, None}
use Rattle.source_tree.specs.declared.name.Name.{Name}
use Rattle.source_tree.specs.declared.entry.ItemEntry.{ItemEntry}
use Rattle.source_tree.specs.Integers.{number_of}
use Rattle.source_tree.specs.Names.{is_called}
use Rattle.source_tree.specs.Rooms.{redefines}

-- The last entry before one, in its group, that redefines nothing: the one that it may redefine.
pub record Redefinable : Type 0 where
  pub name : Option Name
  pub level : ℕ
  -- of all occurrences
  pub bytes : ℕ
  pub has_occurs : Bool

abbrev pub redefinable_after : ItemEntry → ℕ → Option Redefinable → Option Redefinable
redefinable_after one bytes last =
    if redefines one then last
    else Some (record { name = one.name; level = number_of one.level; bytes = bytes; has_occurs = is_some one.occurs })

-- An entry of so many bytes can't redefine that one: it has another name or level, or OCCURS, or is shorter, which only a 01's
-- may be.
abbrev pub wrong_object : ItemEntry → ℕ → Name → Option Redefinable → Bool
wrong_object one bytes name None = true
wrong_object one bytes name (Some last) =
    not (is_called name last.name)
    || not (number_of one.level == last.level)
    || last.has_occurs
    || (not (number_of one.level == 1) && nat_lt last.bytes bytes)

-- Records of a file redefine nothing.
abbrev pub wrong_redefinition : Bool → ItemEntry → ℕ → Name → Option Redefinable → Bool
wrong_redefinition is_record one bytes name last = is_record || wrong_object one bytes name last
