-- A tree after an insert.
use Rattle.std.proofs.Common.{◌≡◌, ⊎_elim, ◌<◌, ◌≤◌, ℕ, List, [], ◌∷◌, ◌++◌, length, refl, sym, ap, subst}
use Rattle.std.specs.Prelude.{Option, Some, None, IsSome, slice_index_or}
use Rattle.std.proofs.lemmas.List.Elements.{All-nil}
use Rattle.station.specs.Disk.{Sector}
use Rattle.btree_pages.specs.declared.row_layout.RowLayout.{RowLayout}
use Rattle.btree_pages.specs.declared.row_layout.Kind.TheVariants.{Leaf}
use Rattle.btree_pages.specs.Keys.{key_of, Precedes}
use Rattle.btree.specs.Tree.{TreeNode, IsTree, IsTreeOrEmpty}
use Rattle.btree.specs.Path.{PathStep, EndsAt}
use Rattle.btree.specs.Entries.{Entry}
use Rattle.btree.specs.Moves.{ReplacesNodes}
use Rattle.btree.specs.Propagates.{node_with}
use Rattle.btree.specs.Changes.{InsertsIntoLeaf, Inserts}
use Rattle.btree.proofs.Order.{up_cons, up_none}
use Rattle.btree.proofs.Frames.{tree_holds}
use Rattle.btree.proofs.Searches.{leaf_among, FindsAt, FindsGap, got, got_none}
use Rattle.btree.proofs.NewRoots.{first_leaf, tree_after}
use Rattle.btree.proofs.Settling.{entry_is}

-- Under page 0 there are no levels.
pub no_levels : (layout : RowLayout) (pages : List (Option Sector)) (root : ℕ) (levels : List (List TreeNode))
    → root ≡ 0 → IsTreeOrEmpty layout pages root levels → levels ≡ []
no_levels layout pages root levels none holds = ⊎_elim (λ empty. empty.1) (λ tree. absurd (tree.0 none)) holds

-- into a tree without entries
pub planted : (layout : RowLayout) (before after : List (Option Sector)) (root : ℕ) (levels : List (List TreeNode))
    (new : ℕ) (key value : List ℕ) → root ≡ 0 → IsTreeOrEmpty layout before root levels → length key ≡ layout.key_length
    → 0 < new
    → ReplacesNodes layout Leaf before [] after (node_with new ((key ++ value) ∷ []) ∷ [])
    → Inserts layout before levels after key value (Some new)
planted layout before after root levels new key value none holds key_is some own =
    let leaf = node_with new ((key ++ value) ∷ []) in
    let became = first_leaf layout before after leaf own in
    let up = up_cons layout (key ++ value) []
    (All-nil (λ (row : List ℕ). Precedes (key_of layout (key ++ value)) (key_of layout row))) (up_none layout) in
    let tree = tree_after layout before after new [] ((leaf ∷ []) ∷ [])
    (All-nil (λ (page : ℕ). (0 < page) × (page < length before))) became (leaf, refl, refl) up in
    subst (λ (l : List (List TreeNode)). Inserts layout before l after key value (Some new))
    (sym (no_levels layout before root levels none holds)) (
      refl,
      record {
        levels = (leaf ∷ []) ∷ [];
        holds = tree_holds layout after new ((leaf ∷ []) ∷ []) tree;
        listed = ap (λ (e : Entry). e ∷ []) (entry_is layout key value key_is);
        moves = became.moves;
      },
    )

-- into a tree, where the key isn't there
pub came : (layout : RowLayout) (before after : List (Option Sector)) (root : ℕ) (levels : List (List TreeNode))
    (steps : List PathStep) (page : ℕ) (rows : List (List ℕ)) (right : Option (List ℕ)) (place : ℕ) (key value : List ℕ)
    (new : ℕ)
    → IsTree layout before root levels → EndsAt layout key levels steps page rows right → place ≤ length rows
    → FindsGap layout key rows place
    → InsertsIntoLeaf layout root before after steps page rows right place key value new
    → Inserts layout before levels after key value (Some new)
came layout before after root levels steps page rows right place key value new tree ends low finds enters =
    let leaf = leaf_among layout before root key levels steps page rows right tree ends in
    let entered = enters levels tree ends (finds leaf.up).0 (finds leaf.up).1 in (
      sym (got_none layout key levels rows right place leaf low finds),
      record {
        levels = entered.levels;
        holds = tree_holds layout after new entered.levels entered.tree;
        listed = entered.entries;
        moves = entered.moves;
      },
    )

-- and where it is
pub was_there : (layout : RowLayout) (before after : List (Option Sector)) (root : ℕ) (levels : List (List TreeNode))
    (steps : List PathStep) (page : ℕ) (rows : List (List ℕ)) (right : Option (List ℕ)) (place : ℕ) (key value : List ℕ)
    → IsTree layout before root levels → EndsAt layout key levels steps page rows right → place < length rows
    → key_of layout (slice_index_or rows place []) ≡ key → FindsAt layout key rows place
    → Inserts layout before levels after key value None
was_there layout before after root levels steps page rows right place key value tree ends low here finds =
    let leaf = leaf_among layout before root key levels steps page rows right tree ends in
    subst (λ (o : Option Entry). IsSome o) (got layout key levels rows right place leaf low here finds) refl
