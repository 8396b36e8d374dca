-- An entry with the item that its clauses describe.
use Rattle.std.specs.Prelude.{◌≡◌, ℕ, nat_lt, Bool, List, ◌++◌, Option}
use Rattle.picture.specs.declared.picture.Picture.{Picture}
use Rattle.items.specs.declared.item.Item.{Item}
use Rattle.source_tree.specs.declared.entry.Around.{Around}
use Rattle.source_tree.specs.declared.entry.ItemEntry.{ItemEntry}
use Rattle.source_tree.specs.Broken.{RuleBreach, where_so}
use Rattle.source_tree.specs.Clauses.{item_by}
use Rattle.source_tree.specs.ClauseRules.{too_large, too_many}
use Rattle.data_entries.specs.Forms.{IsKind}
use Rattle.entry_rules.specs.declared.described.Described.{Described}

abbrev pub is_above : ℕ → ℕ → Bool
is_above most n = nat_lt most n

-- 69 and 48
abbrev pub size_rules : ItemEntry → Item → List RuleBreach
size_rules one item = where_so (too_many one) 69 one.level.place ++ where_so (too_large item) 48 one.level.place

-- the entry with this picture, and with so many bytes in it
pub record IsDescribed (around : Around) (wanted : ItemEntry) (form : Option Picture) (within : ℕ) (one : Described) : Type 0 where
  pub entry : one.entry.now ≡ wanted
  pub picture : one.picture ≡ form
  pub item : one.item ≡ item_by around wanted form within
  pub kind : IsKind one.item.kind
