-- The way of a key down a tree, by the calls that read it.
use Rattle.std.proofs.Common.{◌≡◌, ◌≢◌, ◌≤◌, ◌++◌, ◌+◌, ℕ, List, [], ◌∷◌, length, take, refl, sym, ap, subst, ◌∙◌}
use Rattle.std.specs.Prelude.{replicate, Option, Some, Result, IfOk}
use Rattle.std.proofs.lemmas.List.{length-append}
use Rattle.std.proofs.lemmas.Result.{IfOk-weaker}
use Rattle.station.specs.Calls.{OnlyReads}
use Rattle.station.specs.Disk.{Sector}
use Rattle.station.specs.declared.device.Device.{Ghosts as Devices}
use Rattle.station.proofs.Calls.{reads_then}
use Rattle.pages.specs.Pages.{Agrees, IsUnchanged}
use Rattle.pages.specs.declared.page_map.PageMap.{PageMap}
use Rattle.pages.specs.declared.error.PagesError.{PagesError}
use Rattle.btree_pages.specs.declared.row_layout.RowLayout.{RowLayout}
use Rattle.btree_pages.specs.declared.row_layout.Kind.TheVariants.{Leaf, Inner}
use Rattle.btree_pages.specs.Node.{Node}
use Rattle.btree.specs.declared.child.Child.{Child}
use Rattle.btree.specs.declared.sought.Sought.{Sought}
use Rattle.btree.specs.Calls.{IfAgrees, OnPages, OnTree, pages_on}
use Rattle.btree.specs.Entries.{Entry, entries_of, first_from, first_entry}
use Rattle.btree.specs.Path.{PathStep, EndsAt}
use Rattle.btree.specs.Propagates.{node_with}
use Rattle.btree.specs.Rooted.{RootedTree}
use Rattle.btree.specs.Sought.{sought_in, AnswersAt}
use Rattle.btree.specs.Steps.{LeadsTo, StepsAt}
use Rattle.btree.specs.Tree.{TreeNode, IsTree, IsTreeOrEmpty, node_at}
use Rattle.btree.proofs.Answering.{found_entry}
use Rattle.btree.proofs.Descents.{Along, rows_read, kind_read}
use Rattle.btree.proofs.Firsts.{first_from_zeros, take_zeros}
use Rattle.btree.proofs.Frames.{rooted_tree}
use Rattle.btree.proofs.Passing.{pages_before}
use Rattle.btree.proofs.Stepping.{step_on, stepped_before}

-- A list got one element more.
pub one_more : {A : Type 0} (old new : List A) (x : A) (count : ℕ) → new ≡ old ++ x ∷ [] → length old ≡ count
    → length new ≡ count + 1
one_more old new x count is same =
    ap length is ∙ length-append old (x ∷ []) ∙ ap (λ (n : ℕ). n + 1) same

-- Where a way leads in each tree under a root.
abbrev pub LeadsIn : RowLayout → ℕ → List ℕ → List PathStep → ℕ → Option (List ℕ) → List (Option Sector) → Type 0
LeadsIn layout root key steps page right pages = (levels : List (List TreeNode)) → IsTree layout pages root levels
    → LeadsTo layout pages key levels steps page right

-- The first entry from a key of zeros on is the first one.
pub first_of_zeros : (tree : RootedTree) (layout : RowLayout) (pages : List (Option Sector))
    (levels : List (List TreeNode)) (result : Result (Option Entry) PagesError) → layout ≡ tree.layout
    → layout.key_length ≤ 1360 → IsTreeOrEmpty tree.layout pages tree.root levels
    → IfOk result (λ entry. entry
    ≡ first_from (entries_of tree.layout levels) (take {A = ℕ} layout.key_length (replicate {A = ℕ} 1360 0)))
    → IfOk result (λ entry. entry ≡ first_entry (entries_of tree.layout levels))
first_of_zeros tree layout pages levels result layout_is low holds found =
    let entries = entries_of tree.layout levels in
    let zeros = take_zeros 1360 layout.key_length low
    ∙ ap (λ (f : RowLayout). replicate {A = ℕ} f.key_length 0) layout_is in
    IfOk-weaker result (λ (entry : Option Entry). entry
    ≡ first_from entries (take {A = ℕ} layout.key_length (replicate {A = ℕ} 1360 0)))
    (λ (entry : Option Entry). entry ≡ first_entry entries)
    (λ entry is. is ∙ ap (first_from entries) zeros ∙ first_from_zeros tree.layout pages tree.root levels holds) found

leaf_or_inner : Leaf ≡ Inner → ⊥
leaf_or_inner is = cc

module _ {D : Type 0} (device : Devices D) where
  -- Two calls only read, one after the other.
  pub still_reads : {A : Type 0} {a b d : D} → OnlyReads device ⊥ a b → OnlyReads device A b d
      → OnlyReads device ⊥ a d
  still_reads {A} {a} {b} {d} first second = reads_then device ⊥ A ⊥ a b d (λ e. absurd e) first second

  -- A way goes on by the step that was read.
  pub along_on : (old now : PageMap) (a b : D) (layout : RowLayout) (levels : List (List TreeNode)) (key : List ℕ)
      (steps path : List PathStep) (page : ℕ) (right new : Option (List ℕ)) (was : Option Child) (child : Child)
      → IsUnchanged old now → OnlyReads device ⊥ a b → IfAgrees device old a (Agrees now (device.state b).disk)
      → was ≡ Some child → path ≡ steps ++ record { page = page; place = child.place } ∷ []
      → OnPages device now b (λ p. StepsAt layout p page key right new was)
      → OnPages device old a
      (λ p. Along layout p levels key steps page right → Along layout p levels key path child.page new)
  along_on old now a b layout levels key steps path page right new was child unchanged only agrees is path_is at =
      λ honest agreed along.
      let pages = pages_on device old a in
      subst (λ (s : List PathStep). Along layout pages levels key s child.page new) (sym path_is)
      (step_on layout pages levels key steps page right new child along
      (stepped_before device old now a b layout page key right new was (Some child) unchanged only agrees is at honest
      agreed))

  -- A way ends at the leaf that was read.
  pub ends_read : (A : Type 0) (old now : PageMap) (a b : D) (layout : RowLayout) (root : ℕ) (key : List ℕ)
      (steps : List PathStep) (page : ℕ) (right : Option (List ℕ)) (node : Node) → IsUnchanged old now
      → OnlyReads device A a b → IfAgrees device old a (Agrees now (device.state b).disk)
      → OnPages device old a (LeadsIn layout root key steps page right)
      → OnPages device now b (λ p. node_at layout p page ≡ Some node)
      → OnPages device old a (λ p. (levels : List (List TreeNode)) → IsTree layout p root levels
      → EndsAt layout key levels steps page node.rows right)
  ends_read A old now a b layout root key steps page right node unchanged only agrees way read =
      λ honest agreed levels tree.
      let pages = pages_on device old a in
      let leads = way honest agreed levels tree in
      let there = pages_before device A old now a b (λ p. node_at layout p page ≡ Some node) unchanged only agrees read
      honest agreed in
      subst (λ (rows : List (List ℕ)). EndsAt layout key levels steps page rows right)
      (rows_read layout pages Leaf (node_with page leads.rows) page node refl leads.stands there) leads.ends

  -- That leaf is no inner page.
  pub never_inner_end : (A : Type 0) (old now : PageMap) (a b : D) (layout : RowLayout) (root : ℕ) (key : List ℕ)
      (steps : List PathStep) (page : ℕ) (right : Option (List ℕ)) (node : Node) → IsUnchanged old now
      → OnlyReads device A a b → IfAgrees device old a (Agrees now (device.state b).disk)
      → OnPages device old a (LeadsIn layout root key steps page right)
      → OnPages device now b (λ p. node_at layout p page ≡ Some node) → node.kind ≡ Inner
      → OnPages device old a (λ p. (levels : List (List TreeNode)) → IsTree layout p root levels → ⊥)
  never_inner_end A old now a b layout root key steps page right node unchanged only agrees way read inner =
      λ honest agreed levels tree.
      let leads = way honest agreed levels tree in
      let there = pages_before device A old now a b (λ p. node_at layout p page ≡ Some node) unchanged only agrees read
      honest agreed in
      leaf_or_inner (kind_read layout (pages_on device old a) Leaf (node_with page leads.rows) page node refl
      leads.stands there ∙ inner)

  -- Its answer is the entry of the tree that is sought.
  pub found_by : (A : Type 0) (old now : PageMap) (a b : D) (tree : RootedTree) (layout : RowLayout) (root : ℕ)
      (key : List ℕ) (steps : List PathStep) (page : ℕ) (right : Option (List ℕ)) (sought : Sought)
      (answer : Option Entry) (found : Entry) → record { layout = layout; root = root } ≡ tree → root ≢ 0
      → IsUnchanged old now → OnlyReads device A a b → IfAgrees device old a (Agrees now (device.state b).disk)
      → OnPages device old a (LeadsIn layout root key steps page right) → answer ≡ Some found
      → OnPages device now b (λ p. AnswersAt layout p page key sought answer)
      → OnTree device tree.layout tree.root old a
      (λ levels. Some found ≡ sought_in sought (entries_of tree.layout levels) key)
  found_by A old now a b tree layout root key steps page right sought answer found tree_is some unchanged only agrees
      way
      is answers = λ honest agreed levels holds.
      let pages = pages_on device old a in
      let here = rooted_tree tree layout root pages levels tree_is some holds in
      let there = pages_before device A old now a b (λ p. AnswersAt layout p page key sought answer) unchanged only
      agrees answers honest agreed in
      subst (λ (t : RootedTree). Some found ≡ sought_in sought (entries_of t.layout levels) key) tree_is
      (found_entry layout pages root key levels steps page right sought found here (way honest agreed levels here)
      (subst (AnswersAt layout pages page key sought) is there))
