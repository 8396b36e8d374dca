-- The names of pages, level by level.
use Rattle.std.proofs.Common.{◌≡◌, ◌≤◌, ◌<◌, ◌+◌, ◌-◌, ℕ, Bool, zero, suc, List, [], ◌∷◌, ◌++◌, length, map, take, drop}
use Rattle.std.proofs.Common.{refl, sym, ap, subst, ◌∙◌, arith}
use Rattle.std.specs.Prelude.{slice_index_or, Option, Some}
use Rattle.std.specs.List.{All}
use Rattle.std.proofs.Math.Seq.{drop-cons}
use Rattle.std.proofs.lemmas.List.{append_assoc, map-append, take_more, take-append-drop, append-nil, length-map}
use Rattle.std.proofs.lemmas.List.{get_or-map}
use Rattle.std.proofs.lemmas.List.Elements.{All-head, All-tail, All-cons, All-nil, All-push, All-append, All-weaker}
use Rattle.byteorder.specs.Endian.{big_number, big_bytes}
use Rattle.station.specs.Disk.{Sector}
use Rattle.btree_pages.specs.declared.row_layout.RowLayout.{RowLayout}
use Rattle.btree_pages.specs.declared.row_layout.Kind.{Kind}
use Rattle.btree_pages.specs.declared.row_layout.Kind.TheVariants.{Leaf}
use Rattle.btree_pages.specs.RowLayouts.{row_length}
use Rattle.btree_pages.specs.Node.{Node, IsNode}
use Rattle.btree_pages.specs.Keys.{key_of, key_cmp, rest_of, child_of, Precedes, AllBelow, AllAbove}
use Rattle.btree_check.specs.declared.separator.Separator.{Separator}
use Rattle.btree.specs.Tree.{TreeNode, IsOnPage, least_key, rows_of, node_at, node_of, fewest}
use Rattle.btree.specs.Propagates.{node_with}
use Rattle.btree_check.specs.Walks.{separator_of, separator_in, separator_row, separator_pages, CanMark, Marks}
use Rattle.btree_check.specs.Walks.{HasSeparator, IsLevel, Lists}
use Rattle.btree.proofs.Order.{Up, up_none, up_head, up_tail, up_left, up_right, up_across, up_append, below_below}
use Rattle.btree.proofs.Order.{all_left, above_from_first}
use Rattle.btree.proofs.Levels.{HasRows, all_have_rows}
use Rattle.btree.proofs.Descents.{rows_read, kind_read}
use Rattle.btree.proofs.Splices.{rows_append}
use Rattle.btree_check.proofs.Marking.{can_left, can_after, marks_append}

-- What the rows of a page name, one by one.
pub row_back : (layout : RowLayout) (row : List ℕ) → big_bytes 4 (child_of layout row) ≡ rest_of layout row
    → separator_row (separator_in layout row) ≡ row
row_back layout row is = ap (λ (rest : List ℕ). key_of layout row ++ rest) is ∙ take-append-drop layout.key_length row

pub row_named : (layout : RowLayout) (row key rest : List ℕ) (page : ℕ) → key ≡ key_of layout row
    → page ≡ big_number 4 rest → big_bytes 4 page ≡ rest → rest ≡ rest_of layout row
    → (◌≡◌ {A = Separator} (record { key = key; page = page }) (separator_in layout row))
    × (big_bytes 4 (child_of layout row) ≡ rest_of layout row)
row_named layout row key rest page key_is is back rest_is =
    let child : page ≡ child_of layout row = is ∙ ap (big_number 4) rest_is in (
      ap (λ (k : List ℕ). record { key = k; page = page }) key_is
          ∙ ap (λ (p : ℕ). record { key = key_of layout row; page = p }) child,
      ap (big_bytes 4) (sym child) ∙ back ∙ rest_is,
    )

pub read_more : (layout : RowLayout) (rows : List (List ℕ)) (place : ℕ) (old now next : List Separator)
    (separator : Separator) → place < length rows → now ≡ old ++ map (separator_in layout) (take place rows)
    → next ≡ now ++ separator ∷ [] → separator ≡ separator_in layout (slice_index_or rows place [])
    → next ≡ old ++ map (separator_in layout) (take (place + 1) rows)
read_more layout rows place old now next separator low is pushed separators =
    pushed ∙ ap (λ (xs : List Separator). xs ++ separator ∷ []) is
    ∙ append_assoc old (map (separator_in layout) (take place rows)) (separator ∷ [])
    ∙ ap (λ (n : Separator). old ++ (map (separator_in layout) (take place rows) ++ n ∷ [])) separators
    ∙ ap (λ (xs : List Separator). old ++ xs)
    (sym (map-append (separator_in layout) (take place rows) (slice_index_or rows place [] ∷ []))
    ∙ ap (map (separator_in layout)) (sym (take_more rows place [] low)))

pub back_more : (layout : RowLayout) (rows : List (List ℕ)) (place : ℕ) → place < length rows
    → map separator_row (map (separator_in layout) (take place rows)) ≡ take place rows
    → separator_row (separator_in layout (slice_index_or rows place [])) ≡ slice_index_or rows place []
    → map separator_row (map (separator_in layout) (take (place + 1) rows)) ≡ take (place + 1) rows
back_more layout rows place low is row =
    let P : List (List ℕ) → Type 0 = λ xs. map separator_row (map (separator_in layout) xs) ≡ xs in
    let last : List ℕ = slice_index_or rows place [] in
    subst P (sym (take_more rows place [] low))
    (ap (map separator_row) (map-append (separator_in layout) (take place rows) (last ∷ []))
    ∙ map-append separator_row (map (separator_in layout) (take place rows)) (separator_in layout last ∷ [])
    ∙ ap (λ (xs : List (List ℕ)). xs ++ separator_row (separator_in layout last) ∷ []) is
    ∙ ap (λ (x : List ℕ). take place rows ++ x ∷ []) row)

-- A page that is read by its name.
pub node_named : (layout : RowLayout) (pages : List (Option Sector)) (kind : Kind) (separator : Separator) (node : Node)
    → node_at layout pages separator.page ≡ Some node → IsNode node → node.layout ≡ layout → node.kind ≡ kind
    → fewest kind ≤ length node.rows → key_of node.layout (slice_index_or node.rows 0 []) ≡ separator.key
    → HasSeparator layout pages kind separator node.rows
node_named layout pages kind separator node read sound same_layout same_kind enough key = record {
  stands = record {
    node = read ∙ ap (λ (f : RowLayout). Some (node_of f node.kind node.rows)) same_layout
        ∙ ap (λ (k : Kind). Some (node_of layout k node.rows)) same_kind;
    lengths = subst (λ (f : RowLayout). All (λ row. length row ≡ row_length f kind) node.rows) same_layout
        (subst (λ (k : Kind). All (λ row. length row ≡ row_length node.layout k) node.rows) same_kind sound.lengths);
    enough = enough;
  };
  least = subst (λ (f : RowLayout). key_of f (slice_index_or node.rows 0 []) ≡ separator.key) same_layout key;
}

-- The rows of a leaf are below a key where the last one is.
pub last_below : (layout : RowLayout) (key : List ℕ) (rows : List (List ℕ)) (last : ℕ) → last + 1 ≡ length rows
    → Up layout rows → Precedes (key_of layout (slice_index_or rows last [])) key → AllBelow layout key rows
last_below layout key [] last is up below = absurd (omega arith)
last_below layout key (row ∷ []) zero is up below =
    All-cons (λ r. Precedes (key_of layout r) key) row [] below (All-nil (λ r. Precedes (key_of layout r) key))
last_below layout key (row ∷ []) (suc last) is up below = absurd (omega arith)
last_below layout key (row ∷ next ∷ rows) zero is up below = absurd (omega arith)
last_below layout key (row ∷ next ∷ rows) (suc last) is up below =
    let P : List ℕ → Type 0 = λ r. Precedes (key_of layout r) key in
    let rest : All P (next ∷ rows) =
    last_below layout key (next ∷ rows) last (omega arith) (up_tail layout row (next ∷ rows) up) below in
    let step : Precedes (key_of layout row) (key_of layout next) =
    All-head (λ r. Precedes (key_of layout row) (key_of layout r)) next rows (up_head layout row (next ∷ rows) up) in
    All-cons P row (next ∷ rows)
    (below_below (key_of layout row) (key_of layout next) key step (All-head P next rows rest)) rest

pub last_precedes : (layout : RowLayout) (rows : List (List ℕ)) (count : ℕ) (key bytes next : List ℕ)
    → count ≡ length rows → 0 < length rows → Up layout rows
    → key ≡ key_of layout (slice_index_or rows (count - 1) []) → bytes ≡ next → Precedes key bytes
    → AllBelow layout next rows
last_precedes layout rows count key bytes next all some up last_is is below =
    last_below layout next rows (count - 1) (omega (arith, all, some)) up
    (ap (λ (k : List ℕ). key_cmp k next) (sym last_is) ∙ ap (λ (k : List ℕ). key_cmp key k) (sym is) ∙ below)

-- A level, node by node.
pub level_none : (layout : RowLayout) (pages : List (Option Sector)) (kind : Kind) → IsLevel layout pages kind [] []
level_none layout pages kind = record { stand = All-nil (IsOnPage layout pages kind); named = refl }

pub level_more : (layout : RowLayout) (pages : List (Option Sector)) (kind : Kind) (separators : List Separator)
    (level : List TreeNode) (separator : Separator) (rows : List (List ℕ)) → IsLevel layout pages kind separators level
    → HasSeparator layout pages kind separator rows
    → IsLevel layout pages kind (separators ++ separator ∷ []) (level ++ node_with separator.page rows ∷ [])
level_more layout pages kind separators level separator rows is named = record {
  stand = All-push (IsOnPage layout pages kind) level (node_with separator.page rows) is.stand named.stands;
  named = map-append (separator_of layout) level (node_with separator.page rows ∷ [])
      ∙ ap (λ (xs : List Separator). xs ++ separator_of layout (node_with separator.page rows) ∷ []) is.named
      ∙ ap (λ (key : List ℕ). separators ++ record { key = key; page = separator.page } ∷ []) named.least;
}

pub rows_more : (level : List TreeNode) (page : ℕ) (rows : List (List ℕ))
    → rows_of (level ++ node_with page rows ∷ []) ≡ rows_of level ++ rows
rows_more level page rows =
    rows_append level (node_with page rows ∷ []) ∙ ap (λ (xs : List (List ℕ)). rows_of level ++ xs) (append-nil rows)

pub lists_none : (layout : RowLayout) → Lists layout [] []
lists_none layout = record { read = refl; back = refl }

pub lists_more : (layout : RowLayout) (rows more : List (List ℕ)) (separators next : List Separator)
    → Lists layout rows separators → next ≡ separators ++ map (separator_in layout) more
    → map separator_row (map (separator_in layout) more) ≡ more → Lists layout (rows ++ more) next
lists_more layout rows more separators next lists pushed back = record {
  read = pushed ∙ ap (λ (xs : List Separator). xs ++ map (separator_in layout) more) lists.read
      ∙ sym (map-append (separator_in layout) rows more);
  back = ap (map separator_row) pushed ∙ map-append separator_row separators (map (separator_in layout) more)
      ∙ ap (λ (xs : List (List ℕ)). xs ++ map separator_row (map (separator_in layout) more)) lists.back
      ∙ ap (λ (xs : List (List ℕ)). rows ++ xs) back;
}

-- the levels so far, one page further
pub level_next : (layout : RowLayout) (pages : List (Option Sector)) (kind : Kind) (separators : List Separator)
    (place : ℕ) (level : List TreeNode) (separator : Separator) (rows : List (List ℕ)) → place < length separators
    → separator ≡ slice_index_or separators place separator
    → IsLevel layout pages kind (take place separators) level → HasSeparator layout pages kind separator rows
    → IsLevel layout pages kind (take (place + 1) separators) (level ++ node_with separator.page rows ∷ [])
level_next layout pages kind separators place level separator rows low is level_is named =
    subst (λ (xs : List Separator). IsLevel layout pages kind xs (level ++ node_with separator.page rows ∷ []))
    (ap (λ (n : Separator). take place separators ++ n ∷ []) is ∙ sym (take_more separators place separator low))
    (level_more layout pages kind (take place separators) level separator rows level_is named)

-- The pages of separators, up to a place and at it.
pub pages_more : (separators : List Separator) (place : ℕ) (separator : Separator)
    → place < length separators → separator ≡ slice_index_or separators place separator
    → separator_pages (take (place + 1) separators) ≡ separator_pages (take place separators) ++ separator.page ∷ []
pages_more separators place separator low is =
    ap separator_pages
    (take_more separators place separator low ∙ ap (λ (n : Separator). take place separators ++ n ∷ []) (sym is))
    ∙ map-append (λ (n : Separator). n.page) (take place separators) (separator ∷ [])

pub pages_split : (separators : List Separator) (place : ℕ) (separator : Separator) → place < length separators
    → separator ≡ slice_index_or separators place separator → separator_pages separators ≡ separator_pages
    (take place separators) ++ (separator.page ∷ separator_pages (drop (suc place) separators))
pages_split separators place separator low is =
    ap
    separator_pages (sym (take-append-drop place separators) ∙ ap (λ (xs : List Separator). take place separators ++ xs)
    (drop-cons separators place separator low ∙ ap (λ (n : Separator). n ∷ drop (suc place) separators) (sym is)))
    ∙ map-append (λ (n : Separator). n.page) (take place separators) (separator ∷ drop (suc place) separators)

pub marks_next : (separators : List Separator) (place : ℕ) (separator : Separator) (one two three : List Bool)
    → place < length separators → separator ≡ slice_index_or separators place separator
    → Marks one (separator_pages (take place separators)) two
    → Marks two (separator.page ∷ []) three → Marks one (separator_pages (take (place + 1) separators)) three
marks_next separators place separator one two three low is first second =
    subst (λ (xs : List ℕ). Marks one xs three) (sym (pages_more separators place separator low is))
    (marks_append one two three (separator_pages (take place separators)) (separator.page ∷ []) first second)

pub can_next : (separators : List Separator) (place : ℕ) (separator : Separator) (one two : List Bool)
    → place < length separators → separator ≡ slice_index_or separators place separator
    → Marks one (separator_pages (take place separators)) two
    → CanMark one (separator_pages separators) → CanMark two (separator.page ∷ [])
can_next separators place separator one two low is marks can =
    can_left two (separator.page ∷ []) (separator_pages (drop (suc place) separators))
    (can_after one two (separator_pages (take place separators)) (separator.page ∷ separator_pages
    (drop (suc place) separators)) marks (subst (CanMark one) (pages_split separators place separator low is) can))

-- the node at a place
pub record IsTreeNode (layout : RowLayout) (pages : List (Option Sector)) (kind : Kind) (separator : Separator) :
    Type 0 where
  pub node : TreeNode
  pub named : separator_of layout node ≡ separator
  pub stands : IsOnPage layout pages kind node

pub named_node : (layout : RowLayout) (pages : List (Option Sector)) (kind : Kind) (separators : List Separator)
    (place : ℕ) (separator : Separator) (level : List TreeNode) → place < length separators
    → separator ≡ slice_index_or separators place separator
    → IsLevel layout pages kind separators level → IsTreeNode layout pages kind separator
named_node layout pages kind separators place separator level low is level_is =
    let none : TreeNode = node_with 0 [] in
    let count : length level ≡ length separators =
    sym (length-map level (separator_of layout)) ∙ ap length level_is.named in
    let within : place < length level = omega (arith, count) in
    record {
      node = slice_index_or level place none;
      named = sym (get_or-map (separator_of layout) level place none separator within)
          ∙ ap (λ (xs : List Separator). slice_index_or xs place separator) level_is.named ∙ sym is;
      stands = level_is.stand place none within;
    }

-- Leaves in order: the rows of those so far are below the next name.
abbrev pub BelowName : RowLayout → List Separator → ℕ → List (List ℕ) → Type 0
BelowName layout separators place rows =
    (none : Separator) → place < length separators → AllBelow layout (slice_index_or separators place none).key rows

pub record InOrder (layout : RowLayout) (separators : List Separator) (place : ℕ) (rows : List (List ℕ)) : Type 0 where
  pub up : Up layout rows
  pub below : BelowName layout separators place rows

pub in_order_none : (layout : RowLayout) (separators : List Separator) → InOrder layout separators 0 []
in_order_none layout separators = record {
  up = up_none layout;
  below = λ none low. All-nil (λ r. Precedes (key_of layout r) (slice_index_or separators 0 none).key);
}

above_least : (layout : RowLayout) (key : List ℕ) (rows : List (List ℕ)) → Up layout rows
    → Precedes key (key_of layout (slice_index_or rows 0 [])) → AllAbove layout key rows
above_least layout key [] up first = All-nil (λ row. Precedes key (key_of layout row))
above_least layout key (row ∷ rows) up first = above_from_first layout key row rows up first

pub in_order_next : (layout : RowLayout) (separators : List Separator) (place : ℕ) (separator : Separator)
    (rows more : List (List ℕ)) → place < length separators → separator ≡ slice_index_or separators place separator
    → InOrder layout separators place rows
    → 1 ≤ length more → key_of layout (slice_index_or more 0 []) ≡ separator.key → Up layout more
    → BelowName layout separators (place + 1) more → InOrder layout separators (place + 1) (rows ++ more)
in_order_next layout separators place separator rows more low is order some key up below =
    let first : List ℕ = key_of layout (slice_index_or more 0 []) in
    let under : AllBelow layout first rows = subst (λ (k : List ℕ). AllBelow layout k rows)
    (ap (λ (n : Separator). n.key) (sym is) ∙ sym key) (order.below separator low) in
    record {
      up = up_append layout rows more order.up up
          (All-weaker (λ r. Precedes (key_of layout r) first) (λ r. AllAbove layout (key_of layout r) more)
          (λ r step. above_least layout (key_of layout r) more up step) rows under);
      below = λ none within.
          let next : List ℕ = (slice_index_or separators (place + 1) none).key in
          let over : AllBelow layout next more = below none within in
          All-append (λ r. Precedes (key_of layout r) next) rows more
          (All-weaker (λ r. Precedes (key_of layout r) first) (λ r. Precedes (key_of layout r) next)
          (λ r step. below_below (key_of layout r) first next step (over 0 [] some)) rows under) over;
    }

-- where the rows of a level ascend, each node is in order
pub up_at : (layout : RowLayout) (level : List TreeNode) (place : ℕ) (none : TreeNode) → Up layout (rows_of level)
    → place < length level → Up layout (slice_index_or level place none).rows
up_at layout [] place none up low = absurd (omega arith)
up_at layout (node ∷ level) zero none up low = up_left layout node.rows (rows_of level) up
up_at layout (node ∷ level) (suc place) none up low =
    up_at layout level place none (up_right layout node.rows (rows_of level) up) (omega arith)

pub below_at : (layout : RowLayout) (level : List TreeNode) (place : ℕ) (none : TreeNode) → Up layout (rows_of level)
    → All (HasRows layout) level → suc place < length level
    → AllBelow layout (least_key layout (slice_index_or level (suc place) none)) (slice_index_or level place none).rows
below_at layout [] place none up all low = absurd (omega arith)
below_at layout (node ∷ []) place none up all low = absurd (omega arith)
below_at layout (node ∷ next ∷ level) zero none up all low =
    let has = All-head (HasRows layout) next level (All-tail (HasRows layout) node (next ∷ level) all) in
    All-weaker (λ r. AllAbove layout (key_of layout r) (rows_of (next ∷ level)))
    (λ r. Precedes (key_of layout r) (least_key layout next))
    (λ r above. all_left (λ s. Precedes (key_of layout r) (key_of layout s)) next.rows (rows_of level) above 0 []
    has.some) node.rows (up_across layout node.rows (rows_of (next ∷ level)) up)
below_at layout (node ∷ next ∷ level) (suc place) none up all low =
    below_at layout (next ∷ level) place none (up_right layout node.rows (rows_of (next ∷ level)) up)
    (All-tail (HasRows layout) node (next ∷ level) all) (omega arith)

-- so is the page that is read there
pub read_in_order : (layout : RowLayout) (pages : List (Option Sector)) (separators : List Separator)
    (place : ℕ) (separator : Separator) (rows : List (List ℕ)) (level : List TreeNode) → place < length separators
    → separator ≡ slice_index_or separators place separator
    → IsLevel layout pages Leaf separators level → Up layout (rows_of level)
    → HasSeparator layout pages Leaf separator rows → Up layout rows × BelowName layout separators (place + 1) rows
read_in_order layout pages separators place separator rows level low is level_is up named =
    let none : TreeNode = node_with 0 [] in
    let here : TreeNode = slice_index_or level place none in
    let count : length level ≡ length separators =
    sym (length-map level (separator_of layout)) ∙ ap length level_is.named in
    let within : place < length level = omega (arith, count) in
    let next : place + 1 ≡ suc place = omega arith in
    let page : here.page ≡ separator.page =
    ap (λ (n : Separator). n.page) (sym (get_or-map (separator_of layout) level place none separator within)
    ∙ ap (λ (xs : List Separator). slice_index_or xs place separator) level_is.named ∙ sym is) in
    let same : here.rows ≡ rows = rows_read layout pages Leaf here separator.page (node_of layout Leaf rows) page
    (level_is.stand place none within) named.stands.node in (
      subst (Up layout) same (up_at layout level place none up within),
      λ other further.
          let beyond : suc place < length level = omega (arith, count) in
          let key : least_key layout (slice_index_or level (suc place) none)
          ≡ (slice_index_or separators (place + 1) other).key =
          ap (λ (n : Separator). n.key) (sym (get_or-map (separator_of layout) level (suc place) none other beyond)
          ∙ ap (λ (xs : List Separator). slice_index_or xs (suc place) other) level_is.named)
          ∙ ap (λ (n : ℕ). (slice_index_or separators n other).key) (sym next) in
          subst (λ (k : List ℕ). AllBelow layout k rows) key
          (subst (λ (xs : List (List ℕ)). AllBelow layout (least_key layout (slice_index_or level (suc place) none)) xs)
          same (below_at layout level place none up (all_have_rows layout pages Leaf level level_is.stand) beyond)),
    )

-- the first page of a level tells its kind
pub level_kind : (layout : RowLayout) (pages : List (Option Sector)) (kind : Kind)
    (separators : List Separator) (separator : Separator) (level : List TreeNode) (node : Node) → 0 < length separators
    → separator ≡ slice_index_or separators 0 separator
    → IsLevel layout pages kind separators level → node_at layout pages separator.page ≡ Some node → kind ≡ node.kind
level_kind layout pages kind separators separator level node some is level_is read =
    let here = named_node layout pages kind separators 0 separator level some is level_is in
    kind_read layout pages kind here.node separator.page node (ap (λ (n : Separator). n.page) here.named) here.stands
    read
