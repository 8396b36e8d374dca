-- A level is read and marked, page by page.
use Rattle.std.proofs.Common.{◌≡◌, ◌≤◌, ◌<◌, ◌+◌, ℕ, Bool, List, [], ◌∷◌, ◌++◌, length, length-append, map, take, sym}
use Rattle.std.proofs.Common.{ap}
use Rattle.std.proofs.Common.{subst, ◌∙◌, arith}
use Rattle.std.specs.Prelude.{slice_index_or, Option}
use Rattle.std.proofs.lemmas.List.{length-map}
use Rattle.station.specs.Disk.{Sector}
use Rattle.station.specs.Calls.{OnlyReads}
use Rattle.station.specs.declared.device.Device.{Ghosts as Devices}
use Rattle.station.proofs.Calls.{reads_then, reads_nothing}
use Rattle.pages.specs.Pages.{Agrees, IsUnchanged}
use Rattle.pages.specs.declared.page_map.PageMap.{PageMap}
use Rattle.btree_pages.specs.declared.row_layout.RowLayout.{RowLayout}
use Rattle.btree_pages.specs.declared.row_layout.Kind.{Kind}
use Rattle.btree_pages.specs.declared.row_layout.Kind.TheVariants.{Leaf, Inner}
use Rattle.btree_check.specs.declared.separator.Separator.{Separator}
use Rattle.btree.specs.Calls.{OnPages, pages_on}
use Rattle.btree.specs.Tree.{TreeNode, IsOnPage, rows_of}
use Rattle.btree.specs.Propagates.{node_with}
use Rattle.btree_check.specs.Walks.{separator_in, separator_row, separator_pages, CanMark, Marks, NoNode}
use Rattle.btree_check.specs.Walks.{HasSeparator, IsLevel, Lists, FindsInner}
use Rattle.btree.proofs.Frames.{unchanged_still, unchanged_on, same_pages}
use Rattle.btree.proofs.Order.{Up}
use Rattle.btree_check.proofs.Marking.{marks_none}
use Rattle.btree_check.proofs.Walking.{BelowName, InOrder, in_order_next, read_in_order, level_next, lists_more}
use Rattle.btree_check.proofs.Walking.{rows_more, marks_next, can_next, named_node}
use Rattle.btree_check.proofs.Checking.{separators_so_far}

-- what the rows of a page are counted as
pub count_listed : (layout : RowLayout) (rows : List (List ℕ)) (old new : List Separator)
    → new ≡ old ++ map (separator_in layout) rows → length new ≡ length old + length rows
count_listed layout rows old new is = ap length is ∙ length-append old (map (separator_in layout) rows)
    ∙ ap (λ n. length old + n) (length-map rows (separator_in layout))

-- the leaves so far, in order
abbrev pub FindsInOrder : RowLayout → List (Option Sector) → List Separator → ℕ → Type 0
FindsInOrder layout pages separators place = (level : List TreeNode)
    × IsLevel layout pages Leaf (take place separators) level × InOrder layout separators place (rows_of level)

module _ {D : Type 0} (device : Devices D) where
  -- the pages of some numbers were read and marked
  pub record ReadsPages (old new : PageMap) (before after : D) (seen marked : List Bool) (numbers : List ℕ) :
      Type 0 where
    pub only : OnlyReads device ⊥ before after
    pub unchanged : IsUnchanged old new
    pub agrees : device.is_honest before → Agrees old (device.state before).disk → Agrees new (device.state after).disk
    pub marks : Marks seen numbers marked

  pub reads_none : (p : PageMap) (now : D) (seen : List Bool) → ReadsPages p p now now seen seen []
  reads_none p now seen = record {
    only = reads_nothing device now;
    unchanged = unchanged_still p;
    agrees = λ h a. a;
    marks = marks_none seen;
  }

  pub reads_next : (one two three : PageMap) (first mid last : D) (seen marks later : List Bool)
      (separators : List Separator) (place : ℕ) (separator : Separator) (blamed : Type 0)
      → ReadsPages one two first mid seen marks (separator_pages (take place separators))
      → OnlyReads device blamed mid last → IsUnchanged two three
      → (device.is_honest mid → Agrees two (device.state mid).disk → Agrees three (device.state last).disk)
      → place < length separators → separator ≡ slice_index_or separators place separator
      → Marks marks (separator.page ∷ []) later
      → ReadsPages one three first last seen later (separator_pages (take (place + 1) separators))
  reads_next one two three first mid last seen marks later separators place separator blamed reads only unchanged agrees
      low is marked = record {
        only = reads_then device ⊥ blamed ⊥ first mid last (λ e. absurd e) reads.only only;
        unchanged = unchanged_on one two three reads.unchanged unchanged;
        agrees = λ h a. agrees (reads.only.honest.0 h) (reads.agrees h a);
        marks = marks_next separators place separator seen marks later low is reads.marks marked;
      }

  module _ (one two : PageMap) (first mid : D) (seen marks : List Bool) (layout : RowLayout)
      (separators : List Separator) (place : ℕ) (separator : Separator)
      (reads : ReadsPages one two first mid seen marks (separator_pages (take place separators)))
      (low : place < length separators) (is : separator ≡ slice_index_or separators place separator) where
    same : device.is_honest first → pages_on device two mid ≡ pages_on device one first
    same h = same_pages one two (device.state first) (device.state mid) reads.unchanged (reads.only.state h)

    named : (kind : Kind) (rows : List (List ℕ))
        → OnPages device two mid (λ pages. HasSeparator layout pages kind separator rows)
        → OnPages device one first (λ pages. HasSeparator layout pages kind separator rows)
    named kind rows has = λ h a.
        subst (λ (p : List (Option Sector)). HasSeparator layout p kind separator rows) (same h)
        (has (reads.only.honest.0 h) (reads.agrees h a))

    -- a page that is refused as damaged is none of the level
    pub page_missing : (kind : Kind) (level : List TreeNode) (told : Type 0) → CanMark seen (separator_pages separators)
        → OnPages device one first (λ pages. IsLevel layout pages kind separators level → told
        → OnPages device two mid (NoNode layout kind separator marks told) → ⊥)
    page_missing kind level told can = λ h a are is_told none.
        let here = named_node layout (pages_on device one first) kind separators place separator level low is are in
        none (reads.only.honest.0 h) (reads.agrees h a) is_told
        (can_next separators place separator seen marks low is reads.marks can) here.node here.named
        (subst (λ (p : List (Option Sector)). IsOnPage layout p kind here.node) (sym (same h)) here.stands)

    -- an inner page whose rows name pages
    inner_next : (other : RowLayout) (rows : List (List ℕ)) (lower next : List Separator)
        → OnPages device two mid (λ pages. HasSeparator layout pages Inner separator rows) → other ≡ layout
        → next ≡ lower ++ map (separator_in other) rows
        → map separator_row (map (separator_in other) rows) ≡ rows
        → OnPages device one first (λ pages. FindsInner layout pages (take place separators) lower)
        → OnPages device one first (λ pages. FindsInner layout pages (take (place + 1) separators) next)
    inner_next other rows lower next has layout_is added back finds = λ h a.
        let pages = pages_on device one first in
        let was = finds h a in
        let lists = subst (λ f. Lists f (rows_of was.0) lower) (sym layout_is) was.2 in
        let more = lists_more other (rows_of was.0) rows lower next lists added back in (
          was.0 ++ node_with separator.page rows ∷ [],
          level_next layout pages Inner separators place was.0 separator rows low is was.1 (named Inner rows has h a),
          subst (λ all. Lists layout all next) (sym (rows_more was.0 separator.page rows))
              (subst (λ f. Lists f (rows_of was.0 ++ rows) next) layout_is more),
        )

    -- An inner page was read and marked, and its rows name two pages at least.
    pub inner_read : (three : PageMap) (last : D) (later : List Bool) (other : RowLayout) (rows : List (List ℕ))
        (lower next : List Separator) (blamed : Type 0) → OnlyReads device blamed mid last → IsUnchanged two three
        → (device.is_honest mid → Agrees two (device.state mid).disk → Agrees three (device.state last).disk)
        → Marks marks (separator.page ∷ []) later
        → OnPages device two mid (λ pages. HasSeparator layout pages Inner separator rows) → other ≡ layout
        → 2 ≤ length rows → next ≡ lower ++ map (separator_in other) rows
        → map separator_row (map (separator_in other) rows) ≡ rows → place ≤ length lower
        → OnPages device one first (λ pages. FindsInner layout pages (take place separators) lower)
        → ReadsPages one three first last seen later (separator_pages (take (place + 1) separators))
        × (place + 1 ≤ length next)
        × OnPages device one first (λ pages. FindsInner layout pages (take (place + 1) separators) next)
    inner_read three last later other rows lower next blamed only unchanged agrees marked has layout_is some
        added back more finds = (
          reads_next one two three first mid last seen marks later separators place separator blamed reads only
              unchanged agrees low is marked,
          omega (arith, some, more, count_listed other rows lower next added),
          inner_next other rows lower next has layout_is added back finds,
        )

    -- so many names are no more than the rows of the level
    pub names_within : (other : RowLayout) (rows : List (List ℕ)) (lower next : List Separator) (level : List TreeNode)
        → OnPages device two mid (λ pages. HasSeparator layout pages Inner separator rows)
        → next ≡ lower ++ map (separator_in other) rows
        → OnPages device one first (λ pages. FindsInner layout pages (take place separators) lower)
        → OnPages device one first (λ pages. IsLevel layout pages Inner separators level
        → length next ≤ length (rows_of level))
    names_within other rows lower next level has added finds = λ h a are.
        let was = finds h a in
        separators_so_far layout (pages_on device one first) Inner separators place was.0 separator rows lower
        (length next) level low is was.1 (named Inner rows has h a) was.2 (count_listed other rows lower next added) are

    -- a leaf in order
    pub leaves_next : (other : RowLayout) (rows : List (List ℕ))
        → OnPages device two mid (λ pages. HasSeparator layout pages Leaf separator rows) → other ≡ layout
        → 1 ≤ length rows
        → Up other rows → BelowName other separators (place + 1) rows
        → OnPages device one first (λ pages. FindsInOrder layout pages separators place)
        → OnPages device one first (λ pages. FindsInOrder layout pages separators (place + 1))
    leaves_next other rows has layout_is some up below finds = λ h a.
        let was = finds h a in
        let here = named Leaf rows has h a in
        let order = in_order_next layout separators place separator (rows_of was.0) rows low is was.2 some here.least
        (subst (λ (f : RowLayout). Up f rows) layout_is up)
        (subst (λ (f : RowLayout). BelowName f separators (place + 1) rows) layout_is below) in (
          was.0 ++ node_with separator.page rows ∷ [],
          level_next layout (pages_on device one first) Leaf separators place was.0 separator rows low is was.1 here,
          subst (InOrder layout separators (place + 1)) (sym (rows_more was.0 separator.page rows)) order,
        )

    -- a leaf out of order is none of the level
    pub leaf_missing : (other : RowLayout) (rows : List (List ℕ)) (level : List TreeNode)
        → OnPages device two mid (λ pages. HasSeparator layout pages Leaf separator rows) → other ≡ layout
        → Up layout (rows_of level) → (Up other rows → BelowName other separators (place + 1) rows → ⊥)
        → OnPages device one first (λ pages. IsLevel layout pages Leaf separators level → ⊥)
    leaf_missing other rows level has layout_is up never = λ h a are.
        let order = read_in_order layout (pages_on device one first) separators place separator rows level low is are up
        (named Leaf rows has h a) in
        never (subst (λ (f : RowLayout). Up f rows) (sym layout_is) order.0)
        (subst (λ (f : RowLayout). BelowName f separators (place + 1) rows) (sym layout_is) order.1)
