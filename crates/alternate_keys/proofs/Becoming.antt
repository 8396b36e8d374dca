-- A tree among others became another.
use Rattle.std.proofs.Common.{◌≡◌, true, false, ℕ, List, refl, sym, ap, subst, ◌∙◌}
use Rattle.std.specs.Prelude.{Option, Some, None, IsSome, is_some}
use Rattle.station.specs.Disk.{Sector}
use Rattle.btree_pages.specs.declared.row_layout.RowLayout.{RowLayout}
use Rattle.btree.specs.Tree.{IsTreeOrEmpty}
use Rattle.btree.specs.Rooted.{RootedTree}
use Rattle.btree.specs.Entries.{Entry, entries_of, entry_with, with_new_entry, with_value}
use Rattle.btree.specs.Changes.{Becomes, Inserts}
use Rattle.volume_format.specs.Forest.{TreeLevels, tree_levels}
use Rattle.volume_format.specs.Grows.{IsTreeAmong}
use Rattle.volume_format.proofs.Forests.{forest_moves}
use Rattle.volume_format.proofs.Whole.{whole_grows}

pub becomes_among : (before after : List (Option Sector)) (left right : List TreeLevels) (old new : RootedTree)
    (entries later : List Entry) → (stands : IsTreeAmong before left right old entries) → new.layout ≡ old.layout →
    Becomes old.layout before stands.levels after new.root later → IsTreeAmong after left right new later
becomes_among before after left right old new entries later stands layout becomes =
    let one : TreeLevels = tree_levels old stands.levels in
    let two : TreeLevels = tree_levels new becomes.levels in
    let holds = subst (λ (l : RowLayout). IsTreeOrEmpty l after new.root becomes.levels) (sym layout) becomes.holds in
    record {
      levels = becomes.levels;
      forest = forest_moves before after left right one two stands.forest becomes.moves
          (whole_grows after new becomes.levels holds);
      listed = ap (λ (l : RowLayout). entries_of l becomes.levels) layout ∙ becomes.listed;
    }

-- an entry was added to it
pub inserts_among : (before after : List (Option Sector)) (left right : List TreeLevels) (old new : RootedTree)
    (entries : List Entry) (key value : List ℕ) (stands : IsTreeAmong before left right old entries)
    → new.layout ≡ old.layout → Inserts old.layout before stands.levels after key value (Some new.root)
    → (entry_with entries key ≡ None) × IsTreeAmong after left right new
    (with_new_entry entries (record { key = key; value = value }))
inserts_among before after left right old new entries key value stands layout inserts = (
  ap (λ (es : List Entry). entry_with es key) (sym stands.listed) ∙ inserts.0,
  becomes_among before after left right old new entries
      (with_new_entry entries (record { key = key; value = value })) stands layout
      (subst (λ (es : List Entry). Becomes old.layout before stands.levels after new.root
      (with_new_entry es (record { key = key; value = value }))) stands.listed inserts.1),
)

-- an entry of a tree that is this one got another value
pub replaces_among : (before after : List (Option Sector)) (left right : List TreeLevels) (tree own : RootedTree)
    (entries : List Entry) (key own_key value own_value : List ℕ) (same : tree ≡ own) → key ≡ own_key
    → value ≡ own_value → (stands : IsTreeAmong before left right tree entries)
    → Becomes tree.layout before stands.levels after tree.root
    (with_value (entries_of tree.layout stands.levels) (record { key = key; value = value }))
    → IsTreeAmong after left right own (with_value entries (record { key = own_key; value = own_value }))
replaces_among before after left right tree own entries key own_key value own_value same key_is value_is stands
    becomes =
    subst (λ (t : RootedTree). IsTreeAmong after left right t
    (with_value entries (record { key = own_key; value = own_value }))) same
    (subst (λ (k : List ℕ). IsTreeAmong after left right tree
    (with_value entries (record { key = k; value = own_value }))) key_is
    (subst (λ (v : List ℕ). IsTreeAmong after left right tree
    (with_value entries (record { key = key; value = v }))) value_is
    (becomes_among before after left right tree tree entries
    (with_value entries (record { key = key; value = value })) stands refl
    (subst (λ (es : List Entry). Becomes tree.layout before stands.levels after tree.root
    (with_value es (record { key = key; value = value }))) stands.listed becomes))))

-- a key that is there is found
pub never_missing : {A : Type 0} (pages : List (Option Sector)) (left right : List TreeLevels) (tree : RootedTree)
    (entries : List Entry) (key own_key : List ℕ) → key ≡ own_key
    → (stands : IsTreeAmong pages left right tree entries)
    → entry_with (entries_of tree.layout stands.levels) key ≡ None → IsSome (entry_with entries own_key) → A
never_missing pages left right tree entries key own_key key_is stands none some =
    let missing : is_some (entry_with entries own_key) ≡ false = ap (λ (e : Option Entry). is_some e)
    (ap (λ (es : List Entry). entry_with es own_key) (sym stands.listed)
    ∙ ap (entry_with (entries_of tree.layout stands.levels)) (sym key_is) ∙ none) in
    let both : true ≡ false = sym some ∙ missing in
    cc
