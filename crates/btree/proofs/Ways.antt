-- One step further down a tree.
use Rattle.std.proofs.Common.{◌≡◌, ◌≤◌, ◌<◌, ◌+◌, ◌^◌, ℕ, zero, suc, List, [], ◌∷◌, ◌++◌, length, map, take, drop}
use Rattle.std.proofs.Common.{get_or, refl, sym, ap, subst, ◌∙◌, arith, inl, inr}
use Rattle.std.specs.Prelude.{slice_index_or, Some}
use Rattle.std.specs.List.{All}
use Rattle.std.proofs.Math.Seq.{drop-append-add, drop-cons}
use Rattle.std.proofs.lemmas.List.{append-nil, length-take-le, length-map, length-append, length-drop, take-append-drop}
use Rattle.std.proofs.lemmas.List.{drop-append-le, drop-map, get_or-map, get_or-drop, get_or-append-add}
use Rattle.std.proofs.lemmas.List.{get_or_append_left}
use Rattle.std.proofs.lemmas.List.Elements.{All-append, All-drop}
use Rattle.byteorder.specs.Endian.{big_bytes, big_number}
use Rattle.byteorder.specs.Numbers.{big_number-reads_back}
use Rattle.btree_pages.specs.declared.row_layout.RowLayout.{RowLayout}
use Rattle.btree_pages.specs.Keys.{key_of, child_of, Precedes}
use Rattle.btree.specs.Tree.{TreeNode, least_key, row_of, rows_of}
use Rattle.btree.specs.Path.{LevelZipper, PathStep, level_of, StepsTo, IsSide, first_key, right_key, IsChosen}
use Rattle.btree.proofs.Order.{Up, up_right}
use Rattle.btree.proofs.Levels.{HasRows, key_of_row, rest_of_row, rows_of_append, above_rows, first_key_left}
use Rattle.btree.proofs.Levels.{first_names}

pub spells_none : TreeNode
spells_none = record { page = 0; rows = [] }

-- the node of a level at a place, with those left and right of it
pub spot_at : List TreeNode → ℕ → LevelZipper
spot_at level place =
    record { before = take place level; node = get_or level place spells_none; after = drop (place + 1) level }

-- the node of the level below that a row names
pub next_place : LevelZipper → ℕ → ℕ
next_place spot place = length (rows_of spot.before) + place

-- a level's rows, around one node
pub rows_around : (spot : LevelZipper)
    → rows_of (level_of spot) ≡ rows_of spot.before ++ (spot.node.rows ++ rows_of spot.after)
rows_around spot = rows_of_append spot.before (spot.node ∷ spot.after)

-- the names of the nodes below
pub record Names (layout : RowLayout) (spot : LevelZipper) (lower : List TreeNode) : Type 0 where
  pub is : rows_of spot.before ++ (spot.node.rows ++ rows_of spot.after) ≡ map (row_of layout) lower
  pub rows : All (HasRows layout) lower
  pub after : All (HasRows layout) spot.after
  pub up : Up layout (rows_of lower)

pub next_low : (layout : RowLayout) (spot : LevelZipper) (lower : List TreeNode) (place : ℕ) → Names layout spot lower
    → place < length spot.node.rows → next_place spot place < length lower
unfolding next_place
next_low layout spot lower place names low =
    let count : length (rows_of spot.before) + (length spot.node.rows + length (rows_of spot.after)) ≡ length lower =
    sym (length-append (rows_of spot.before) (spot.node.rows ++ rows_of spot.after)
    ∙ ap (λ (n : ℕ). length (rows_of spot.before) + n) (length-append spot.node.rows (rows_of spot.after)))
    ∙ ap length names.is ∙ length-map lower (row_of layout) in
    omega arith

pub level_at : (level : List TreeNode) (place : ℕ) → place < length level → level ≡ level_of (spot_at level place)
unfolding spot_at
level_at level place low =
    let next : suc place ≡ place + 1 = omega arith in
    sym (take-append-drop place level) ∙ ap (λ rest. take place level ++ rest)
    (drop-cons level place spells_none low ∙ ap (λ (n : ℕ). get_or level place spells_none ∷ drop n level) next)

-- the rows after the place name the nodes to the right
pub names_after : (layout : RowLayout) (spot : LevelZipper) (lower : List TreeNode) (place : ℕ)
    → Names layout spot lower → place < length spot.node.rows → map (row_of layout)
    (spot_at lower (next_place spot place)).after ≡ drop (place + 1) spot.node.rows ++ rows_of spot.after
unfolding spot_at next_place
names_after layout spot lower place names low =
    let behind : length (rows_of spot.before) + place + 1 ≡ length (rows_of spot.before) + (place + 1) = omega arith in
    sym (drop-map (row_of layout) (length (rows_of spot.before) + place + 1) lower)
    ∙ ap (λ rows. drop (length (rows_of spot.before) + place + 1) rows) (sym names.is)
    ∙ ap (λ (n : ℕ). drop n (rows_of spot.before ++ (spot.node.rows ++ rows_of spot.after))) behind
    ∙ drop-append-add (rows_of spot.before) (spot.node.rows ++ rows_of spot.after) (place + 1)
    ∙ drop-append-le (place + 1) spot.node.rows (rows_of spot.after) (omega arith)

-- the row at the place names the node
pub names_here : (layout : RowLayout) (spot : LevelZipper) (lower : List TreeNode) (place : ℕ)
    → Names layout spot lower → place < length spot.node.rows
    → row_of layout (spot_at lower (next_place spot place)).node ≡ slice_index_or spot.node.rows place []
unfolding spot_at next_place
names_here layout spot lower place names low =
    let low_below = next_low layout spot lower place names low in
    sym (get_or-map (row_of layout) lower (length (rows_of spot.before) + place) spells_none [] low_below)
    ∙ ap (λ rows. get_or rows (length (rows_of spot.before) + place) []) (sym names.is)
    ∙ get_or-append-add (rows_of spot.before) (spot.node.rows ++ rows_of spot.after) place []
    ∙ get_or_append_left spot.node.rows (rows_of spot.after) [] place low

pub next_has_rows : (layout : RowLayout) (spot : LevelZipper) (lower : List TreeNode) (place : ℕ)
    → Names layout spot lower → place < length spot.node.rows
    → HasRows layout (spot_at lower (next_place spot place)).node
unfolding spot_at
next_has_rows layout spot lower place names low =
    names.rows (next_place spot place) spells_none (next_low layout spot lower place names low)

pub next_after_rows : (layout : RowLayout) (spot : LevelZipper) (lower : List TreeNode) (place : ℕ)
    → Names layout spot lower → All (HasRows layout) (spot_at lower (next_place spot place)).after
unfolding spot_at
next_after_rows layout spot lower place names = All-drop (HasRows layout) (next_place spot place + 1) lower names.rows

pub next_after_up : (layout : RowLayout) (spot : LevelZipper) (lower : List TreeNode) (place : ℕ)
    → Names layout spot lower → place < length spot.node.rows
    → Up layout (rows_of (spot_at lower (next_place spot place)).after)
next_after_up layout spot lower place names low =
    let next = spot_at lower (next_place spot place) in
    let level : lower ≡ level_of next =
    level_at lower (next_place spot place) (next_low layout spot lower place names low) in
    let up : Up layout (rows_of next.before ++ (next.node.rows ++ rows_of next.after)) =
    subst (Up layout) (ap rows_of level ∙ rows_around next) names.up in
    up_right layout next.node.rows (rows_of next.after)
    (up_right layout (rows_of next.before) (next.node.rows ++ rows_of next.after) up)

least_next : (layout : RowLayout) (spot : LevelZipper) (lower : List TreeNode) (place : ℕ) → Names layout spot lower
    → place < length spot.node.rows → least_key layout (spot_at lower (next_place spot place)).node ≡ key_of layout
    (slice_index_or spot.node.rows place [])
least_next layout spot lower place names low =
    sym
    (key_of_row layout (spot_at lower (next_place spot place)).node (next_has_rows layout spot lower place names low))
    ∙ ap (key_of layout) (names_here layout spot lower place names low)

take_none : {X : Type 0} (n : ℕ) (xs : List X) → n ≡ 0 → take n xs ≡ []
take_none n xs is = ap (λ (m : ℕ). take m xs) is

next_first : (layout : RowLayout) (spot : LevelZipper) (lower : List TreeNode) (place : ℕ) → spot.before ≡ []
    → place ≡ 0 → (spot_at lower (next_place spot place)).before ≡ []
unfolding spot_at next_place
next_first layout spot lower place none first =
    let count : length (rows_of spot.before) ≡ 0 = ap (λ nodes. length (rows_of nodes)) none in
    take_none (length (rows_of spot.before) + place) lower (omega arith)

-- the key belongs to the child
pub next_side : (layout : RowLayout) (key : List ℕ) (spot : LevelZipper) (lower : List TreeNode) (place : ℕ)
    → Names layout spot lower → IsSide layout key spot → IsChosen layout key spot.node.rows place
    → IsSide layout key (spot_at lower (next_place spot place))
next_side layout key spot lower place names side chosen =
    let next = spot_at lower (next_place spot place) in
    let is = least_next layout spot lower place names chosen.low in
    let P : List ℕ → Type 0 = λ row. Precedes key (key_of layout row) in
    record {
      after = above_rows layout key next.after (next_after_rows layout spot lower place names)
          (next_after_up layout spot lower place names chosen.low)
          (subst (All P) (sym (names_after layout spot lower place names chosen.low))
          (All-append P (drop (place + 1) spot.node.rows) (rows_of spot.after) chosen.after side.after));
      before = elim chosen.here [
        | inl first ↦ elim side.before [
          | inl none ↦ inl (next_first layout spot lower place none first)
          | inr low ↦ inr (λ above. low (subst (Precedes key)
              (is ∙ ap (λ (n : ℕ). key_of layout (slice_index_or spot.node.rows n [])) first) above))
        ]
        | inr low ↦ inr (λ above. low (subst (Precedes key) is above))
      ];
    }

-- the first key to the right
pub next_right_within : (layout : RowLayout) (spot : LevelZipper) (lower : List TreeNode) (place : ℕ)
    → Names layout spot lower → place + 1 < length spot.node.rows → right_key layout
    (spot_at lower (next_place spot place)) ≡ Some (key_of layout (slice_index_or spot.node.rows (place + 1) []))
next_right_within layout spot lower place names low =
    let same : place + 1 + 0 ≡ place + 1 = omega arith in
    let next = spot_at lower (next_place spot place) in
    first_names layout next.after (next_after_rows layout spot lower place names)
    ∙ ap (first_key layout) (names_after layout spot lower place names (omega arith))
    ∙ first_key_left layout (drop (place + 1) spot.node.rows) (rows_of spot.after)
    (omega (arith, length-drop (place + 1) spot.node.rows))
    ∙ ap (λ row. Some (key_of layout row)) (get_or-drop (place + 1) spot.node.rows 0 []
    ∙ ap (λ (n : ℕ). get_or spot.node.rows n []) same)

pub drop_all : {X : Type 0} (n : ℕ) (xs : List X) → length xs ≤ n → drop n xs ≡ []
drop_all zero [] low = refl
drop_all zero (x ∷ xs) low = absurd (omega arith)
drop_all (suc n) [] low = refl
drop_all (suc n) (x ∷ xs) low = drop_all n xs (omega arith)

pub next_right_beyond : (layout : RowLayout) (spot : LevelZipper) (lower : List TreeNode) (place : ℕ)
    → Names layout spot lower → place < length spot.node.rows → length spot.node.rows ≤ place + 1
    → right_key layout (spot_at lower (next_place spot place)) ≡ right_key layout spot
next_right_beyond layout spot lower place names low last =
    let next = spot_at lower (next_place spot place) in
    first_names layout next.after (next_after_rows layout spot lower place names)
    ∙ ap (first_key layout) (names_after layout spot lower place names low
    ∙ ap (λ rows. rows ++ rows_of spot.after) (drop_all (place + 1) spot.node.rows last))

-- the child's page
pub next_page : (layout : RowLayout) (spot : LevelZipper) (lower : List TreeNode) (place : ℕ) → Names layout spot lower
    → place < length spot.node.rows → (spot_at lower (next_place spot place)).node.page < 2 ^ 32
    → child_of layout (slice_index_or spot.node.rows place []) ≡ (spot_at lower (next_place spot place)).node.page
next_page layout spot lower place names low small =
    let next = spot_at lower (next_place spot place) in
    ap (child_of layout) (sym (names_here layout spot lower place names low))
    ∙ ap (big_number 4) (rest_of_row layout next.node (next_has_rows layout spot lower place names low)
    ∙ sym (append-nil (big_bytes 4 next.node.page)))
    ∙ big_number-reads_back 4 next.node.page [] small

pub next_step : (layout : RowLayout) (spot : LevelZipper) (lower : List TreeNode) (step : PathStep)
    → Names layout spot lower → step.page ≡ spot.node.page → step.place < length spot.node.rows
    → StepsTo spot step (spot_at lower (next_place spot step.place))
unfolding spot_at next_place
next_step layout spot lower step names page low = record {
  page = page;
  place = low;
  leads = let below = next_low layout spot lower step.place names low in
      sym (length-take-le (length (rows_of spot.before) + step.place) lower (omega arith));
}
