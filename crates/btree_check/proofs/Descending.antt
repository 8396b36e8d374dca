-- From a level to the one below it, and from a root to its levels.
use Rattle.std.proofs.Common.{◌≡◌, ◌≤◌, ◌<◌, ◌-◌, ◌^◌, ◌++◌, ℕ, Bool, List, [], ◌∷◌, length, refl, sym, ap, subst}
use Rattle.std.proofs.Common.{◌∙◌}
use Rattle.std.proofs.Common.{arith, true, false}
use Rattle.std.specs.Prelude.{slice_index_or, Option, Some, Result, Ok, Err}
use Rattle.std.specs.List.{All}
use Rattle.station.specs.Disk.{Sector}
use Rattle.pages.specs.Pages.{is_spent, page_count}
use Rattle.pages.specs.declared.page_map.PageMap.{PageMap}
use Rattle.pages.specs.declared.error.PagesError.{PagesError}
use Rattle.pages.specs.declared.error.PagesError.TheVariants.{Spent}
use Rattle.btree_pages.specs.declared.row_layout.RowLayout.{RowLayout}
use Rattle.btree_pages.specs.declared.row_layout.Kind.{Kind}
use Rattle.btree_pages.specs.Node.{Node}
use Rattle.btree_pages.specs.Keys.{key_of}
use Rattle.btree_check.specs.declared.separator.Separator.{Separator}
use Rattle.btree.specs.Changes.{pages_of_map}
use Rattle.btree.specs.Tree.{TreeNode, node_at, pages_of, IsTree, IsTreeOrEmpty}
use Rattle.btree.proofs.Depth.{few_levels}
use Rattle.btree.proofs.One.{small_numbers}
use Rattle.btree.proofs.TreeNodes.{few_pages}
use Rattle.btree.proofs.Frames.{holds_tree, tree_holds, false_unless, ok_or_err}
use Rattle.btree_check.specs.Walks.{separator_pages, IsUnmarked, CanMark, Marks, IsLevel, IsUnder, FindsInner}
use Rattle.btree_check.specs.Walks.{FindsLevels, FindsTree, NoLevels}
use Rattle.btree_check.proofs.Checking.{finds_inner, other_levels, tree_found, tree_under, tree_can}
use Rattle.btree_check.proofs.Walking.{level_kind}

-- the first page of a level has the kind of the level
pub first_kind : (layout : RowLayout) (pages : List (Option Sector)) (kind other : Kind)
    (separators : List Separator) (first : Separator) (level : List TreeNode) (node : Node) → 0 < length separators
    → first ≡ slice_index_or separators 0 first → IsLevel layout pages kind separators level
    → node_at layout pages (slice_index_or separators 0 first).page ≡ Some node → node.kind ≡ other
    → (kind ≡ other) × IsLevel layout pages other separators level
first_kind layout pages kind other separators first level node some is are read node_is =
    let kind_is : kind ≡ other =
    level_kind layout pages kind separators (slice_index_or separators 0 first) level node some
    (ap (λ (n : Separator). slice_index_or separators 0 n) is) are read ∙ node_is in
    (kind_is, subst (λ (k : Kind). IsLevel layout pages k separators level) kind_is are)

-- levels were found below an inner one
pub finds_lower : (layout : RowLayout) (pages after : List (Option Sector)) (separators kept lower : List Separator)
    (old mid new : List Bool) → kept ≡ separators → FindsInner layout pages kept lower
    → Marks old (separator_pages kept) mid → after ≡ pages → FindsLevels layout after lower mid new
    → FindsLevels layout pages separators old new
finds_lower layout pages after separators kept lower old mid new are level marks same finds =
    subst (λ (n : List Separator). FindsLevels layout pages n old new) are
    (finds_inner layout pages kept lower old mid new level.0 level.1 level.2 marks
    (subst (λ (p : List (Option Sector)). FindsLevels layout p lower mid new) same finds))

-- none are there, if none are below
pub lower_missing : (layout : RowLayout) (pages after : List (Option Sector)) (separators kept lower : List Separator)
    (old mid : List Bool) (levels : List (List TreeNode)) (depth : ℕ) (told : Type 0) → kept ≡ separators
    → 0 < length separators → FindsInner layout pages kept lower → Marks old (separator_pages kept) mid → after ≡ pages
    → IsUnder layout pages separators levels → CanMark old (pages_of levels)
    → All (λ page. page < 2 ^ 32) (pages_of levels) → length levels ≤ depth
    → NoLevels layout lower mid (depth - 1) told after → told → ⊥
lower_missing layout pages after separators kept lower old mid levels depth told are some level marks same under can
    small few never is =
    let others = other_levels layout pages kept lower old mid level.0 levels
    (subst (λ (n : List Separator). 0 < length n) (sym are) some) level.1 level.2 marks
    (subst (λ (n : List Separator). IsUnder layout pages n levels) (sym are) under) can small in
    never is others.levels
    (subst (λ (p : List (Option Sector)). IsUnder layout p lower others.levels) (sym same) others.under) others.can
    others.small (omega (arith, others.fewer, few))

-- the one separator of a root
root_separator : (separators none : List Separator) (key : List ℕ) (root : ℕ)
    → separators ≡ none ++ record { key = key; page = root } ∷ [] → none ≡ []
    → separators ≡ record { key = key; page = root } ∷ []
root_separator separators none key root pushed empty =
    pushed ∙ ap (λ (l : List Separator). l ++ record { key = key; page = root } ∷ []) empty

pub finds_root : (layout view : RowLayout) (pages after : List (Option Sector)) (root number : ℕ) (key : List ℕ)
    (separators none : List Separator) (old new : List Bool) → layout ≡ view → root ≡ number → after ≡ pages
    → separators ≡ none ++ record { key = key; page = root } ∷ [] → none ≡ []
    → FindsLevels layout after separators old new → FindsTree view pages number old new
finds_root layout view pages after root number key separators none old new layout_is root_is same pushed empty finds =
    let separator : Separator = record { key = key; page = root } in
    let found : FindsLevels layout pages (separator ∷ []) old new =
    subst (λ (n : List Separator). FindsLevels layout pages n old new)
    (root_separator separators none key root pushed empty)
    (subst (λ (p : List (Option Sector)). FindsLevels layout p separators old new) same finds) in
    subst (λ (l : RowLayout). FindsTree l pages number old new) layout_is
    (subst (λ (r : ℕ). FindsTree layout pages r old new) root_is (record {
      levels = found.levels;
      holds = tree_holds layout pages root found.levels
          (tree_found layout pages root separator old found.levels refl found.under found.marks.can);
      marks = found.marks;
    }))

root_held : (layout view : RowLayout) (pages : List (Option Sector)) (root number : ℕ)
    (levels : List (List TreeNode)) → layout ≡ view → root ≡ number → (root ≡ 0 → ⊥)
    → IsTreeOrEmpty view pages number levels → IsTree layout pages root levels
root_held layout view pages root number levels layout_is root_is some holds = holds_tree layout pages root levels
    (subst (λ (l : RowLayout). IsTreeOrEmpty l pages root levels) (sym layout_is)
    (subst (λ (r : ℕ). IsTreeOrEmpty view pages r levels) (sym root_is) holds)) some

-- a map from which a page was read has few pages, since it isn't spent
pub few_read : {T : Type 0} (top : T) (result : Result T PagesError) (p : PageMap) (image : List Sector) (number : ℕ)
    → result ≡ Ok top → (is_spent p ≡ true → result ≡ Err Spent) → length (pages_of_map p image) ≡ page_count p
    → number ≡ page_count p → (is_spent p ≡ false → number ≤ 921600) → length (pages_of_map p image) ≤ 2 ^ 20
few_read top result p image number was spent_if counted count few =
    few_pages (pages_of_map p image) (page_count p) number counted count
    (few (false_unless (is_spent p) (λ spent. ok_or_err top Spent (sym was ∙ spent_if spent))))

pub root_missing : (layout view : RowLayout) (pages after : List (Option Sector)) (root number : ℕ) (key : List ℕ)
    (top : Node) (separators none : List Separator) (seen : List Bool) (levels : List (List TreeNode)) (depth : ℕ)
    (told : Type 0) → layout ≡ view → root ≡ number → (root ≡ 0 → ⊥) → IsTreeOrEmpty view pages number levels
    → after ≡ pages → separators ≡ none ++ record { key = key; page = root } ∷ [] → none ≡ []
    → node_at layout pages root ≡ Some top → top.layout ≡ layout
    → key ≡ key_of top.layout (slice_index_or top.rows 0 []) → length pages ≤ 2 ^ 20
    → All (IsUnmarked seen) (pages_of levels) → 20 ≤ depth → NoLevels layout separators seen depth told after
    → told → ⊥
root_missing layout view pages after root number key top separators none seen levels depth told layout_is root_is some
    holds same pushed empty read top_is key_is few unmarked deep never is =
    let tree : IsTree layout pages root levels =
    root_held layout view pages root number levels layout_is root_is some holds in
    let least : key ≡ key_of layout (slice_index_or top.rows 0 []) =
    key_is ∙ ap (λ (f : RowLayout). key_of f (slice_index_or top.rows 0 [])) top_is in
    let under : IsUnder layout pages (record { key = key; page = root } ∷ []) levels =
    tree_under layout pages root key top levels read least tree in
    never is levels
    (subst (λ (n : List Separator). IsUnder layout after n levels)
    (sym (root_separator separators none key root pushed empty))
    (subst (λ (p : List (Option Sector)). IsUnder layout p (record { key = key; page = root } ∷ []) levels) (sym same)
    under))
    (tree_can layout pages root seen levels tree unmarked) (small_numbers layout pages root levels few tree)
    (omega (arith, few_levels layout pages root levels few tree, deep))

-- levels under separators are some
pub none_under : (layout : RowLayout) (pages : List (Option Sector)) (separators : List Separator)
    (levels : List (List TreeNode)) → IsUnder layout pages separators levels → length levels ≤ 0 → ⊥
none_under layout pages separators [] under few = under.top
none_under layout pages separators (top ∷ more) under few = omega (arith, few)
