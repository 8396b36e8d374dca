-- What the bytes of a page stand for.
use Rattle.std.proofs.Common.{◌≡◌, ℕ, ◌+◌, ◌*◌, ◌<◌, ◌≤◌, List, [], length, take, drop, get_or, slice_index, Some, None}
use Rattle.std.proofs.Common.{Option, inl, inr, sym, ap, subst, ◌∙◌, arith, rules, tests}
use Rattle.std.proofs.lemmas.Bool.{cases_lt}
use Rattle.std.proofs.lemmas.List.{length-drop}
use Rattle.btree_pages.specs.declared.row_layout.RowLayout.{RowLayout}
use Rattle.btree_pages.specs.declared.row_layout.Kind.{Kind}
use Rattle.btree_pages.specs.RowLayouts.{IsRowLayout, row_length, capacity}
use Rattle.btree_pages.specs.Node.{Node, IsNode, rows_in, count_in, kind_in, node_in, node_of_kind}
use Rattle.btree_pages.proofs.Places.{row_fits, rows_fit}
use Rattle.btree_pages.proofs.Rows.{get_or-rows_in, length-rows_in, lengths-rows_in}

abbrev pub node_of : RowLayout → Kind → ℕ → List ℕ → Node
node_of layout kind n bytes = record { layout = layout; kind = kind; rows = rows_in (row_length layout kind) n bytes }

pub counted : (layout : RowLayout) (kind : Kind) (n : ℕ) (bytes : List ℕ) (node : Node)
    → node_of layout kind n bytes ≡ node → n ≡ length node.rows
counted layout kind n bytes node e =
    sym (length-rows_in (row_length layout kind) n bytes) ∙ ap (λ (one : Node). length one.rows) e

module _ (layout : RowLayout) (kind : Kind) (n : ℕ) (bytes : List ℕ) (sound : IsRowLayout layout)
    (few : n ≤ capacity layout kind) (long : length bytes ≡ 4080) where
  pub is_node : IsNode (node_of layout kind n bytes)
  is_node = record {
    layout = sound;
    lengths = lengths-rows_in (row_length layout kind) n bytes (omega (arith, rows_fit layout kind n sound few));
    fits = omega (arith, length-rows_in (row_length layout kind) n bytes);
  }

  pub is_node_at : (node : Node) → node_of layout kind n bytes ≡ node → IsNode node
  is_node_at node e = let P : Node → Type 0 = λ one. IsNode one in subst P e is_node

  -- a row stands within the bytes
  pub row_within : (node : Node) (place long : ℕ) → node_of layout kind n bytes ≡ node → place < length node.rows
      → long ≡ row_length layout kind → place * long + long ≤ 4080
  row_within node place long e lt el =
      let fits : place * row_length layout kind + row_length layout kind ≤ 4080 =
      row_fits place n (row_length layout kind) 4080 (omega (arith, counted layout kind n bytes node e))
      (rows_fit layout kind n sound few) in
      rw el fits

  pub row_is : (node : Node) (place long : ℕ) → node_of layout kind n bytes ≡ node → place < length node.rows
      → long ≡ row_length layout kind → take long (drop (place * long) bytes) ≡ get_or node.rows place []
  row_is node place long e lt el =
      rw el
      (sym (get_or-rows_in (row_length layout kind) n place bytes (omega (arith, counted layout kind n bytes node e))))
      ∙ ap (λ (one : Node). get_or one.rows place []) e

-- what a page's bytes spell
node_of_fitting : (layout : RowLayout) (bytes : List ℕ) (kind : Kind) → count_in bytes ≤ capacity layout kind
    → node_of_kind layout bytes (Some kind) ≡ Some (node_of layout kind (count_in bytes) (drop 16 bytes))
node_of_fitting layout bytes kind le = search (rules, tests)

node_of_large : (layout : RowLayout) (bytes : List ℕ) (kind : Kind) → capacity layout kind < count_in bytes
    → node_of_kind layout bytes (Some kind) ≡ None
node_of_large layout bytes kind lt = search (rules, tests)

pub spelled_node : (layout : RowLayout) (bytes : List ℕ) (kind : Kind) (n : ℕ) (rows : List ℕ)
    → kind_in (slice_index bytes 0) ≡ Some kind → n ≡ count_in bytes → n ≤ capacity layout kind → rows ≡ drop 16 bytes
    → Some (node_of layout kind n rows) ≡ node_in layout bytes
spelled_node layout bytes kind n rows ek en le er =
    ap (λ (all : List ℕ). Some (node_of layout kind n all)) er
    ∙ ap (λ (m : ℕ). Some (node_of layout kind m (drop 16 bytes))) en
    ∙ sym (node_of_fitting layout bytes kind (omega (arith, en)))
    ∙ sym (ap (node_of_kind layout bytes) ek)

pub spelled_none : (layout : RowLayout) (bytes : List ℕ) (kind : Kind) (n : ℕ)
    → kind_in (slice_index bytes 0) ≡ Some kind → n ≡ count_in bytes → capacity layout kind < n
    → None ≡ node_in layout bytes
spelled_none layout bytes kind n ek en lt =
    sym (node_of_large layout bytes kind (omega (arith, en))) ∙ sym (ap (node_of_kind layout bytes) ek)

-- what bytes spell is a node
spells_by_kind : (layout : RowLayout) (bytes : List ℕ) (node : Node) (kind : Option Kind) → IsRowLayout layout
    → length bytes ≡ 4096 → node_of_kind layout bytes kind ≡ Some node → IsNode node
spells_by_kind layout bytes node None sound long e = cc
spells_by_kind layout bytes node (Some kind) sound long e = elim (cases_lt (capacity layout kind) (count_in bytes)) [
  | inl large ↦ let none = node_of_large layout bytes kind large in cc
  | inr few ↦
      let fitting = node_of_fitting layout bytes kind few in
      let same : node_of layout kind (count_in bytes) (drop 16 bytes) ≡ node = cc in
      is_node_at layout kind (count_in bytes) (drop 16 bytes) sound few (omega (arith, length-drop 16 bytes)) node same
]

pub spells_node : (layout : RowLayout) (bytes : List ℕ) (node : Node) → IsRowLayout layout → length bytes ≡ 4096
    → node_in layout bytes ≡ Some node → IsNode node
spells_node layout bytes node sound long e =
    spells_by_kind layout bytes node (kind_in (slice_index bytes 0)) sound long e
