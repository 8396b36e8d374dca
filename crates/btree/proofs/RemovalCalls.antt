-- An entry that leaves a tree, by the calls that take it out.
use Rattle.std.proofs.Common.{◌≡◌, ◌≤◌, ◌<◌, ◌+◌, ◌*◌, ◌^◌, ℕ, List, [], length, arith, subst}
use Rattle.std.specs.Prelude.{slice_index_or, Option, Result, Ok, Err, OnOk}
use Rattle.station.specs.Disk.{Sector}
use Rattle.pages.specs.declared.page_map.PageMap.{PageMap}
use Rattle.pages.specs.declared.error.PagesError.{PagesError}
use Rattle.btree_pages.specs.declared.row_layout.RowLayout.{RowLayout}
use Rattle.btree_pages.specs.declared.row_layout.Kind.TheVariants.{Leaf}
use Rattle.btree_pages.specs.Keys.{key_of}
use Rattle.btree_pages.specs.Node.{Node}
use Rattle.btree.specs.declared.removal_outcome.RemovalOutcome.{RemovalOutcome}
use Rattle.btree.specs.Changes.{pages_of_map}
use Rattle.btree.specs.Path.{PathStep, EndsAt}
use Rattle.btree.specs.Puts.{LosesRow}
use Rattle.btree.specs.Tree.{TreeNode, IsTree}
use Rattle.btree.proofs.Depth.{few_levels}
use Rattle.btree.proofs.Entering.{turns_count}
use Rattle.btree.proofs.Removing.{TakenOut}
use Rattle.btree.proofs.Searches.{FindsAt}

-- The row of the key leaves the leaf.
pub taken_out : (old new : PageMap) (image : List Sector) (layout : RowLayout) (key : List ℕ) (page : ℕ) (node : Node)
    (place : ℕ) (out : RemovalOutcome) → (node.layout ≡ layout) × (node.kind ≡ Leaf)
    → (place < length node.rows) × (key_of node.layout (slice_index_or node.rows place []) ≡ key)
    → FindsAt node.layout key node.rows place → LosesRow Leaf old new page node place out
    → TakenOut layout key (pages_of_map old image) (pages_of_map new image) page node place out
taken_out old new image layout key page node place out shape found finds loses = record {
  layout_is = shape.0;
  kind_is = shape.1;
  low = found.0;
  here = found.1;
  finds = finds;
  fares = loses image;
}

-- At most two pages are changed for each step above the leaf, and one more.
pub few_taken : (old taken shrunk left out outcome : ℕ) (path steps : List PathStep) → path ≡ steps
    → taken + out ≤ old + 1 → shrunk + outcome ≤ taken + out + 2 * length path → left ≤ shrunk + outcome
    → left ≤ old + (2 * length steps + 1)
few_taken old taken shrunk left out outcome path steps same one more all =
    subst (λ (s : List PathStep). left ≤ old + (2 * length s + 1)) same (omega (arith, one, more, all))

-- So at most 42 pages are changed for a removal, two for each of at most twenty levels.
pub few_removed : {T : Type 0} (result : Result T PagesError) (layout : RowLayout) (key : List ℕ)
    (pages : List (Option Sector)) (root : ℕ) (levels : List (List TreeNode)) (steps : List PathStep) (page : ℕ)
    (rows : List (List ℕ)) (right : Option (List ℕ)) (old read new : ℕ) → length pages ≤ 2 ^ 20
    → IsTree layout pages root levels → EndsAt layout key levels steps page rows right → read ≡ old
    → OnOk result (new ≤ read + (2 * length steps + 1)) → OnOk result (new ≤ old + 42)
few_removed (Ok x) layout key pages root levels steps page rows right old read new small tree ends same more =
    let few = few_levels layout pages root levels small tree in
    let count = turns_count layout key levels steps ends.reaches.top ends.reaches.below ends.reaches.leads in
    omega (arith, few, count, same, more)
few_removed (Err e) layout key pages root levels steps page rows right old read new small tree ends same more = tt
