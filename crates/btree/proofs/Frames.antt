-- What stays, from call to call.
use Rattle.std.proofs.Common.{◌≡◌, ◌<◌, ℕ, length, Bool, true, false, List, [], ◌∷◌, refl, sym, ap, subst, ◌∙◌, arith}
use Rattle.std.proofs.Common.{◌≢◌, inl, inr}
use Rattle.std.specs.Prelude.{Option, Ok, Err}
use Rattle.std.specs.List.{All}
use Rattle.std.proofs.lemmas.List.Elements.{All-head}
use Rattle.station.specs.Disk.{Sector}
use Rattle.station.specs.State.{State}
use Rattle.pages.specs.Image.{Map}
use Rattle.pages.specs.Pages.{map_now, IsUnchanged}
use Rattle.pages.specs.declared.page_map.PageMap.{PageMap}
use Rattle.btree_pages.specs.declared.row_layout.RowLayout.{RowLayout}
use Rattle.btree.specs.Tree.{TreeNode, IsTree, IsTreeOrEmpty, pages_of}
use Rattle.btree.specs.Rooted.{RootedTree}

pub unchanged_still : (p : PageMap) → IsUnchanged p p
unchanged_still p = record {
  map = λ image. refl;
  changed_pages = refl;
  filled = refl;
  committed = record { volume = refl; mark = refl; spent = refl };
}

pub unchanged_on : (one two three : PageMap) → IsUnchanged one two → IsUnchanged two three → IsUnchanged one three
unchanged_on one two three first second = record {
  map = λ image. second.map image ∙ first.map image;
  changed_pages = second.changed_pages ∙ first.changed_pages;
  filled = second.filled ∙ first.filled;
  committed = record {
    volume = second.committed.volume ∙ first.committed.volume;
    mark = second.committed.mark ∙ first.committed.mark;
    spent = second.committed.spent ∙ first.committed.spent;
  };
}

pub same_pages : (old new : PageMap) (before after : State) → IsUnchanged old new → after ≡ before
    → (map_now new after.disk.present).pages ≡ (map_now old before.disk.present).pages
same_pages old new before after unchanged same =
    ap (λ (state : State). (map_now new state.disk.present).pages) same
    ∙ ap (λ (map : Map). map.pages) (unchanged.map before.disk.present)

-- the pages where nothing was done yet
pub pages_yet : (one two three : PageMap) (before after : State) → IsUnchanged one two → three ≡ two → after ≡ before
    → (map_now three after.disk.present).pages ≡ (map_now one before.disk.present).pages
pages_yet one two three before after unchanged same state =
    ap (λ (p : PageMap). (map_now p after.disk.present).pages) same ∙ same_pages one two before after unchanged state

pub false_unless : (b : Bool) → (b ≡ true → ⊥) → b ≡ false
false_unless true never = absurd (never refl)
false_unless false never = refl

pub ok_or_err : {T E : Type 0} (x : T) (e : E) → Ok x ≡ Err e → ⊥
ok_or_err x e same = cc

-- A tree's root isn't page 0.
pub tree_rooted : (layout : RowLayout) (pages : List (Option Sector)) (root : ℕ) (levels : List (List TreeNode))
    → IsTree layout pages root levels → root ≡ 0 → ⊥
tree_rooted layout pages root [] tree none = absurd tree.top
tree_rooted layout pages root (top ∷ more) tree none =
    let P : List TreeNode → Type 0 =
    λ level. All (λ page. (0 < page) × (page < length pages)) (pages_of (level ∷ more)) in
    let numbers : P (tree.top.0 ∷ []) = subst P tree.top.1 tree.numbers in
    let high : 0 < tree.top.0.page =
    (All-head (λ page. (0 < page) × (page < length pages)) tree.top.0.page (pages_of more) numbers).0 in
    let is = tree.top.2 in
    omega arith

pub holds_tree : (layout : RowLayout) (pages : List (Option Sector)) (root : ℕ) (levels : List (List TreeNode))
    → IsTreeOrEmpty layout pages root levels → (root ≡ 0 → ⊥) → IsTree layout pages root levels
holds_tree layout pages root levels (inl none) some = absurd (some none.0)
holds_tree layout pages root levels (inr tree) some = tree.1

pub tree_holds : (layout : RowLayout) (pages : List (Option Sector)) (root : ℕ) (levels : List (List TreeNode))
    → IsTree layout pages root levels → IsTreeOrEmpty layout pages root levels
tree_holds layout pages root levels tree = inr (tree_rooted layout pages root levels tree, tree)

-- a root that is not 0 in the view is not 0 in the tree
pub root_there : (view : RootedTree) (layout : RowLayout) (root : ℕ) → record { layout = layout; root = root } ≡ view
    → view.root ≢ 0 → root ≡ 0 → ⊥
root_there view layout root is some none = some (sym (ap (λ (t : RootedTree). t.root) is) ∙ none)

-- the tree of a root that isn't page 0
pub rooted_tree : (view : RootedTree) (layout : RowLayout) (root : ℕ) (pages : List (Option Sector))
    (levels : List (List TreeNode)) → record { layout = layout; root = root } ≡ view → (root ≡ 0 → ⊥)
    → IsTreeOrEmpty view.layout pages view.root levels → IsTree layout pages root levels
rooted_tree view layout root pages levels is some holds =
    let T : RootedTree → Type 0 = λ t. IsTree t.layout pages t.root levels in
    let same : root ≡ view.root = ap (λ (t : RootedTree). t.root) is in
    subst T (sym is) (holds_tree view.layout pages view.root levels holds (λ none. some (same ∙ none)))
