-- A leaf of a tree that begins no later than a key and has an entry after it: the first of these is the first one of
-- the tree.
use Rattle.std.proofs.Common.{◌≡◌, ◌≢◌, ◌<◌, ℕ, zero, suc, Bool, true, false, List, [], ◌∷◌, ◌++◌, length, map}
use Rattle.std.proofs.Common.{drop}
use Rattle.std.proofs.Common.{refl, sym, ap, subst, ◌∙◌, arith, inl, inr, ◌⊎◌, ⊎_elim}
use Rattle.std.specs.Prelude.{slice_index_or, Option, Some, None, if◌then◌else◌, Contains}
use Rattle.std.specs.List.{All}
use Rattle.std.specs.Ordering.{is_gt}
use Rattle.std.proofs.lemmas.List.{map-append}
use Rattle.std.proofs.lemmas.List.Elements.{All-head, All-tail, Contains-append_right}
use Rattle.std.proofs.lemmas.Bool.{cases_lt}
use Rattle.std.proofs.lemmas.Option.{same_Some}
use Rattle.station.specs.Disk.{Sector}
use Rattle.btree_pages.specs.declared.row_layout.RowLayout.{RowLayout}
use Rattle.btree_pages.specs.declared.row_layout.Kind.{Kind}
use Rattle.btree_pages.specs.declared.row_layout.Kind.TheVariants.{Leaf, Inner}
use Rattle.btree_pages.specs.Keys.{key_cmp, key_of, keys_of, Ascend, Precedes, AllAbove}
use Rattle.btree_pages.specs.Node.{Node, node_in}
use Rattle.btree.specs.declared.place.LeafPlace.{LeafPlace}
use Rattle.btree.specs.declared.sought.Sought.TheVariants.{After}
use Rattle.btree.specs.Tree.{TreeNode, rows_of, rows_in_order, leaves_of, IsTree, IsOnPage, AreJoinedLevels, node_of}
use Rattle.btree.specs.Tree.{node_on}
use Rattle.btree.specs.Path.{LevelZipper, level_of}
use Rattle.btree.specs.Entries.{Entry, entry_of, entries_of_rows, first_entry_after, first_entry}
use Rattle.btree.specs.Places.{HasLeaf, IsLeafPlace, next_within, IsNextIn, IsNextOf, SpellsLeaf}
use Rattle.btree.proofs.Order.{Up, up_head, up_left, up_right, not_itself, greater_is, all_below_first}
use Rattle.btree.proofs.Order.{all_below_weaker}
use Rattle.btree.proofs.Runs.{in_head, in_none, in_cases}
use Rattle.btree.proofs.Ways.{rows_around}
use Rattle.btree.proofs.Descents.{spot_in}
use Rattle.btree.proofs.Found.{after_passes}
use Rattle.btree.proofs.Answering.{in_both, one_of_first, entry_there, first_at_end}

-- Bytes that spell an inner page spell no leaf, and those that spell a leaf do.
leaf_or_inner : Leaf ≡ Inner → ⊥
leaf_or_inner is = cc

pub inner_no_leaf : (layout : RowLayout) (bytes : Sector) (node : Node) (rows : List (List ℕ))
    → node_in layout bytes ≡ Some node → node.kind ≡ Inner → node_in layout bytes ≡ Some (node_of layout Leaf rows) → ⊥
inner_no_leaf layout bytes node rows is inner leaf =
    let same : node_of layout Leaf rows ≡ node = same_Some (node_of layout Leaf rows) node (sym leaf ∙ is) in
    leaf_or_inner (ap (λ (n : Node). n.kind) same ∙ inner)

pub spells_leaf : (layout : RowLayout) (bytes : Sector) (node : Node) → node_in layout bytes ≡ Some node
    → node.layout ≡ layout → node.kind ≡ Leaf → SpellsLeaf layout bytes
spells_leaf layout bytes node is layout_is leaf = (
  node.rows,
  is ∙ ap (λ (kind : Kind). Some (node_of node.layout kind node.rows)) leaf
      ∙ ap (λ (l : RowLayout). Some (node_of l Leaf node.rows)) layout_is,
)

-- Entries of rows above a key are above it.
above_at : (layout : RowLayout) (low : List ℕ) (rows : List (List ℕ)) (n : ℕ) (entry : Entry) → AllAbove layout low rows
    → first_entry (entries_of_rows layout (drop n rows)) ≡ Some entry → Precedes low entry.key
above_at layout low [] zero entry above is = cc
above_at layout low [] (suc n) entry above is = cc
above_at layout low (row ∷ rows) zero entry above is =
    let same : entry_of layout row ≡ entry = cc in
    subst (λ (e : Entry). Precedes low e.key) same (All-head (λ r. Precedes low (key_of layout r)) row rows above)
above_at layout low (row ∷ rows) (suc n) entry above is =
    above_at layout low rows n entry (All-tail (λ r. Precedes low (key_of layout r)) row rows above) is

one_or_other : (b : Bool) (one two entry : Entry) (other : Option Entry) → (if b then Some one else other) ≡ Some entry
    → (one ≡ entry) ⊎ (other ≡ Some entry)
one_or_other true one two entry other is = inl (cc)
one_or_other false one two entry other is = inr is

above_after : (layout : RowLayout) (low key : List ℕ) (rows : List (List ℕ)) (entry : Entry) → AllAbove layout low rows
    → first_entry_after (entries_of_rows layout rows) key ≡ Some entry → Precedes low entry.key
above_after layout low key [] entry above is = cc
above_after layout low key (row ∷ rows) entry above is =
    let P : List ℕ → Type 0 = λ r. Precedes low (key_of layout r) in
    ⊎_elim (λ same. subst (λ (e : Entry). Precedes low e.key) same (All-head P row rows above))
    (λ later. above_after layout low key rows entry (All-tail P row rows above) later)
    (one_or_other (is_gt (key_cmp (key_of layout row) key)) (entry_of layout row) entry entry
    (first_entry_after (entries_of_rows layout rows) key) is)

-- The place from which on the first entry is the next one, in rows that ascend: not the first place, if the next entry
-- is within.
passes_first : (b : Bool) (entry : Entry) (rest found : Option Entry) → (if b then Some entry else rest) ≡ found
    → (Some entry ≡ found → ⊥) → (if b then None else rest) ≡ found
passes_first true entry rest found is never = absurd (never is)
passes_first false entry rest found is never = is

within_at : (layout : RowLayout) (key : List ℕ) (rows : List (List ℕ)) (place : ℕ) → Up layout rows → 0 < place
    → first_entry_after (entries_of_rows layout rows) key ≡ first_entry (entries_of_rows layout (drop place rows))
    → next_within (entries_of_rows layout rows) key ≡ first_entry (entries_of_rows layout (drop place rows))
within_at layout key rows zero up some is = absurd (omega (arith, some))
within_at layout key [] (suc n) up some is = is
within_at layout key (row ∷ rows) (suc n) up some is =
    passes_first (is_gt (key_cmp (key_of layout row) key)) (entry_of layout row)
    (first_entry_after (entries_of_rows layout rows) key) (first_entry (entries_of_rows layout (drop n rows))) is
    (λ first. not_itself (key_of layout row)
    (above_at layout (key_of layout row) rows n (entry_of layout row) (up_head layout row rows up) (sym first)))

ends_first : (b : Bool) (entry : Entry) (rest : Option Entry) → (if b then Some entry else rest) ≡ Some entry
    → (rest ≡ Some entry → ⊥) → None ≡ (if b then None else rest)
ends_first true entry rest is never = refl
ends_first false entry rest is never = absurd (never is)

none_first : (layout : RowLayout) (key : List ℕ) (rows : List (List ℕ)) → Up layout rows
    → first_entry_after (entries_of_rows layout rows) key ≡ first_entry (entries_of_rows layout rows)
    → None ≡ next_within (entries_of_rows layout rows) key
none_first layout key [] up is = refl
none_first layout key (row ∷ rows) up is =
    ends_first (is_gt (key_cmp (key_of layout row) key)) (entry_of layout row)
    (first_entry_after (entries_of_rows layout rows) key) is
    (λ later. not_itself (key_of layout row)
    (above_after layout (key_of layout row) key rows (entry_of layout row) (up_head layout row rows up) later))

none_within : (layout : RowLayout) (key : List ℕ) (rows : List (List ℕ)) (place : ℕ) → Up layout rows
    → (0 < place → place < length rows → ⊥)
    → first_entry_after (entries_of_rows layout rows) key ≡ first_entry (entries_of_rows layout (drop place rows))
    → None ≡ next_within (entries_of_rows layout rows) key
none_within layout key rows zero up never is = none_first layout key rows up is
none_within layout key rows (suc n) up never is =
    elim (cases_lt (suc n) (length rows)) [
      | inl low ↦ absurd (never (omega arith) low)
      | inr high ↦ sym (within_at layout key rows (suc n) up (omega arith) is ∙ first_at_end layout rows (suc n) high)
    ]

-- What is read of the bytes of a leaf.
same_read : (layout : RowLayout) (bytes : Sector) (node : Node) (rows : List (List ℕ))
    → node_in layout bytes ≡ Some node
    → node_in layout bytes ≡ Some (node_of layout Leaf rows) → node ≡ node_of layout Leaf rows
same_read layout bytes node rows read is = let both : Some node ≡ Some (node_of layout Leaf rows) = sym read ∙ is in cc

abbrev pub IsPlaceAfter : Node → List ℕ → ℕ → Type 0
IsPlaceAfter node key place = Ascend (keys_of node.layout node.rows)
    → first_entry_after (entries_of_rows node.layout node.rows) key
    ≡ first_entry (entries_of_rows node.layout (drop place node.rows))

pub none_in : (layout : RowLayout) (bytes : Sector) (key : List ℕ) (entry : Entry) (node : Node) (place : ℕ)
    → node_in layout bytes ≡ Some node → IsPlaceAfter node key place → (0 < place → place < length node.rows → ⊥)
    → IsNextIn layout bytes key entry false
none_in layout bytes key entry node place read after never = λ rows is some up.
    let same = same_read layout bytes node rows read is in
    none_within layout key rows place up
    (subst (λ (n : Node). 0 < place → place < length n.rows → ⊥) same never)
    (subst (λ (n : Node). IsPlaceAfter n key place) same after up)

pub next_in : (layout : RowLayout) (bytes : Sector) (key : List ℕ) (entry : Entry) (node : Node) (place : ℕ)
    → node_in layout bytes ≡ Some node → IsPlaceAfter node key place → 0 < place → place < length node.rows
    → entry ≡ entry_of node.layout (slice_index_or node.rows place []) → IsNextIn layout bytes key entry true
next_in layout bytes key entry node place read after some low here = λ rows is any up.
    let same = same_read layout bytes node rows read is in
    ap Some (subst (λ (n : Node). entry ≡ entry_of n.layout (slice_index_or n.rows place [])) same here)
    ∙ entry_there layout rows place (subst (λ (n : Node). place < length n.rows) same low)
    ∙ sym (within_at layout key rows place up some (subst (λ (n : Node). IsPlaceAfter n key place) same after up))

-- The entry is next among more rows, on both sides.
begins_low : (b : Bool) (entry : Entry) (rest : Option Entry) → Some entry ≡ (if b then None else rest) → b ≡ false
begins_low true entry rest is = cc
begins_low false entry rest is = refl

whole : (b : Bool) (first : Entry) (rest : Option Entry) → b ≡ false
    → (if b then None else rest) ≡ (if b then Some first else rest)
whole b first rest is =
    subst (λ (c : Bool). (if c then None else rest) ≡ (if c then Some first else rest)) (sym is) refl

not_above : (layout : RowLayout) (key row : List ℕ) → is_gt (key_cmp (key_of layout row) key) ≡ false
    → Precedes key (key_of layout row) → ⊥
not_above layout key row low above =
    let e = greater_is (key_of layout row) key above in
    let high : is_gt (key_cmp (key_of layout row) key) ≡ true = ap is_gt e in
    cc

next_among : (layout : RowLayout) (key : List ℕ) (before rows after : List (List ℕ)) (entry : Entry)
    → Up layout (before ++ (rows ++ after)) → Some entry ≡ next_within (entries_of_rows layout rows) key
    → Some entry ≡ first_entry_after (entries_of_rows layout (before ++ (rows ++ after))) key
next_among layout key before [] after entry up is = cc
next_among layout key before (row ∷ rows) after entry up is =
    let rest = first_entry_after (entries_of_rows layout rows) key in
    let low = begins_low (is_gt (key_cmp (key_of layout row) key)) entry rest is in
    let here : Some entry ≡ first_entry_after (entries_of_rows layout (row ∷ rows)) key =
    is ∙ whole (is_gt (key_cmp (key_of layout row) key)) (entry_of layout row) rest low in
    let below = all_below_weaker layout (key_of layout row) key before (not_above layout key row low)
    (all_below_first layout before row (rows ++ after) up) in
    sym (after_passes layout key before ((row ∷ rows) ++ after) below
    ∙ ap (λ (e : List Entry). first_entry_after e key) (map-append (entry_of layout) (row ∷ rows) after)
    ∙ in_both After (entries_of_rows layout (row ∷ rows)) (entries_of_rows layout after) key
    ∙ one_of_first (first_entry_after (entries_of_rows layout (row ∷ rows)) key)
    (first_entry_after (entries_of_rows layout after) key) entry (sym here))

-- A leaf of a tree, by its page, and the leaves on both sides.
record SpotOf (nodes : List TreeNode) (page : ℕ) : Type 0 where
  pub spot : LevelZipper
  pub is : nodes ≡ level_of spot
  pub at_page : spot.node.page ≡ page

spot_of : (nodes : List TreeNode) (page : ℕ) → Contains (map (λ (n : TreeNode). n.page) nodes) page → SpotOf nodes page
spot_of [] page has = absurd (in_none page has)
spot_of (node ∷ nodes) page has =
    ⊎_elim
    (λ is. record { spot = record { before = []; node = node; after = nodes }; is = refl; at_page = sym is })
    (λ later. let rest = spot_of nodes page later in record {
      spot = record { before = node ∷ rest.spot.before; node = rest.spot.node; after = rest.spot.after };
      is = ap (λ (l : List TreeNode). node ∷ l) rest.is;
      at_page = rest.at_page;
    })
    (in_cases node.page (map (λ (n : TreeNode). n.page) nodes) page has)

pub has_spot : (levels : List (List TreeNode)) (spot : LevelZipper) → leaves_of levels ≡ level_of spot
    → HasLeaf levels spot.node.page
has_spot levels spot is =
    let page : TreeNode → ℕ = λ n. n.page in
    subst (λ (l : List TreeNode). Contains (map page l) spot.node.page) (sym is)
    (subst (λ (l : List ℕ). Contains l spot.node.page) (sym (map-append page spot.before (spot.node ∷ spot.after)))
    (Contains-append_right (map page spot.before) (spot.node.page ∷ map page spot.after) spot.node.page
    (in_head spot.node.page (map page spot.after))))

leaves_on_pages : (layout : RowLayout) (pages : List (Option Sector)) (levels : List (List TreeNode))
    → AreJoinedLevels layout pages levels → All (IsOnPage layout pages Leaf) (leaves_of levels)
leaves_on_pages layout pages [] joined = absurd joined
leaves_on_pages layout pages (leaves ∷ []) joined = joined
leaves_on_pages layout pages (upper ∷ lower ∷ more) joined = leaves_on_pages layout pages (lower ∷ more) joined.2

-- the next entry within a leaf of a tree is the next one of the tree
next_of_leaf : (layout : RowLayout) (pages : List (Option Sector)) (root : ℕ) (levels : List (List TreeNode))
    (spot : LevelZipper) (key : List ℕ) (bytes : Sector) (entry : Entry) → IsTree layout pages root levels
    → leaves_of levels ≡ level_of spot → slice_index_or pages spot.node.page None ≡ Some bytes
    → IsNextIn layout bytes key entry true
    → Some entry ≡ first_entry_after (entries_of_rows layout (rows_in_order levels)) key
next_of_leaf layout pages root levels spot key bytes entry tree is here next =
    let stands = spot_in (IsOnPage layout pages Leaf) spot.before spot.node spot.after
    (subst (All (IsOnPage layout pages Leaf)) is (leaves_on_pages layout pages levels tree.joined)) in
    let rows : rows_in_order levels ≡ rows_of spot.before ++ (spot.node.rows ++ rows_of spot.after) =
    ap rows_of is ∙ rows_around spot in
    let up = subst (Up layout) rows tree.ascend in
    let up_here = up_left layout spot.node.rows (rows_of spot.after) (up_right layout (rows_of spot.before)
    (spot.node.rows ++ rows_of spot.after) up) in
    let within = next spot.node.rows (sym (ap (node_on layout) here) ∙ stands.node) stands.enough up_here in
    subst (λ (all : List (List ℕ)). Some entry ≡ first_entry_after (entries_of_rows layout all) key) (sym rows)
    (next_among layout key (rows_of spot.before) spot.node.rows (rows_of spot.after) entry up within)

pub next_of_noted : (layout : RowLayout) (pages : List (Option Sector)) (root page : ℕ) (key : List ℕ) (bytes : Sector)
    (entry : Entry) → ((levels : List (List TreeNode)) → IsTree layout pages root levels → HasLeaf levels page)
    → slice_index_or pages page None ≡ Some bytes → IsNextIn layout bytes key entry true
    → IsNextOf layout pages root key entry
next_of_noted layout pages root page key bytes entry noted here next = λ levels tree.
    let leaf = spot_of (leaves_of levels) page (noted levels tree) in
    next_of_leaf layout pages root levels leaf.spot key bytes entry tree leaf.is
    (subst (λ (p : ℕ). slice_index_or pages p None ≡ Some bytes) (sym leaf.at_page) here) next

-- a place that is in a tree has a leaf of it
pub place_in : (place : LeafPlace) (pages : List (Option Sector)) (layout : RowLayout) (root : ℕ)
    → (place.leaf ≢ 0) × (place.root ≡ root) × (place.layout ≡ layout) → IsLeafPlace place pages
    → (levels : List (List TreeNode)) → IsTree layout pages root levels → HasLeaf levels place.leaf
place_in place pages layout root is noted =
    subst (λ (l : RowLayout). (levels : List (List TreeNode)) → IsTree l pages root levels → HasLeaf levels place.leaf)
    is.2 (subst (λ (r : ℕ). (levels : List (List TreeNode)) → IsTree place.layout pages r levels
    → HasLeaf levels place.leaf)
    is.1 (noted is.0))
