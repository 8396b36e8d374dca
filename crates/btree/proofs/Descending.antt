-- A search so far, which keeps nothing of its way.
use Rattle.std.proofs.Common.{◌≡◌, ◌≤◌, ◌+◌, ◌^◌, true, false, ℕ, List, [], ◌∷◌, ◌++◌, length, refl, sym, ap, subst}
use Rattle.std.proofs.Common.{◌∙◌, arith, inl, inr, ◌⊎◌}
use Rattle.std.specs.Prelude.{slice_index_or, Option, Some, None}
use Rattle.std.proofs.lemmas.List.{length-append}
use Rattle.std.proofs.lemmas.Bool.{cases_lt}
use Rattle.station.specs.Calls.{OnlyReads}
use Rattle.station.specs.Disk.{Sector}
use Rattle.station.specs.declared.device.Device.{Ghosts as Devices}
use Rattle.pages.specs.Pages.{Agrees, IsUnchanged}
use Rattle.pages.specs.declared.page_map.PageMap.{PageMap}
use Rattle.btree_pages.specs.declared.row_layout.RowLayout.{RowLayout}
use Rattle.btree_pages.specs.Keys.{key_of}
use Rattle.btree.specs.declared.sought.Sought.{Sought}
use Rattle.btree.specs.declared.sought.Look.{Look}
use Rattle.btree.specs.declared.sought.Sought.TheVariants.{From, After}
use Rattle.btree.specs.Tree.{TreeNode, IsTree, rows_in_order}
use Rattle.btree.specs.Path.{PathStep, first_key}
use Rattle.btree.specs.Entries.{Entry, entries_of}
use Rattle.btree.specs.Steps.{LeadsTo}
use Rattle.btree.specs.Sought.{AnswersAt, DescendsAt, LooksAt, FindsEntry}
use Rattle.btree.specs.Calls.{IfAgrees, OnPages, pages_on}
use Rattle.btree.specs.Rooted.{RootedTree}
use Rattle.btree.specs.Places.{HasLeaf}
use Rattle.btree.proofs.Descents.{Along, IsBeside, start, step_read, too_deep, leaf_of}
use Rattle.btree.proofs.Stepping.{step_ends}
use Rattle.btree.proofs.Answering.{got_entry, found_entry, IsBehind, behind}
use Rattle.btree.proofs.Nearby.{has_spot}
use Rattle.btree.proofs.Passing.{pages_before}

-- steps of so many levels led there
pub record Down (layout : RowLayout) (pages : List (Option Sector)) (levels : List (List TreeNode)) (key : List ℕ)
    (page depth : ℕ) : Type 0 where
  pub steps : List PathStep
  pub right : Option (List ℕ)
  pub along : Along layout pages levels key steps page right
  pub count : length steps ≡ depth

pub down_start : (layout : RowLayout) (pages : List (Option Sector)) (root : ℕ) (levels : List (List TreeNode))
    (key : List ℕ) → length pages ≤ 2 ^ 20 → IsTree layout pages root levels → Down layout pages levels key root 0
down_start layout pages root levels key small tree =
    record { steps = []; right = None; along = start layout pages root levels key small tree; count = refl }

-- what stands to the right of a row
record Next (layout : RowLayout) (rows : List (List ℕ)) (place : ℕ) (old : Option (List ℕ)) : Type 0 where
  pub new : Option (List ℕ)
  pub is : IsBeside layout rows place old new

next_of : (layout : RowLayout) (rows : List (List ℕ)) (place : ℕ) (old : Option (List ℕ)) → Next layout rows place old
next_of layout rows place old =
    elim (cases_lt (place + 1) (length rows)) [
      | inl more ↦ record {
        new = Some (key_of layout (slice_index_or rows (place + 1) []));
        is = record { within = λ _. refl; beyond = λ last. absurd (omega arith) };
      }
      | inr last ↦ record { new = old; is = record { within = λ more. absurd (omega arith); beyond = λ _. refl } }
    ]

pub down_on : (layout : RowLayout) (pages : List (Option Sector)) (levels : List (List TreeNode)) (key : List ℕ)
    (page depth child : ℕ) → Down layout pages levels key page depth → DescendsAt layout pages page key child
    → Down layout pages levels key child (depth + 1)
down_on layout pages levels key page depth child down at =
    let next = next_of at.node.layout at.node.rows at.place down.right in
    let step : PathStep = record { page = page; place = at.place } in
    record {
      steps = down.steps ++ step ∷ [];
      right = next.new;
      along = subst (λ (c : ℕ). Along layout pages levels key (down.steps ++ step ∷ []) c next.new) (sym at.child_is)
          (step_read layout at.node.layout pages levels key down.steps page down.right next.new at.node at.place
          at.layout_is down.along at.read at.inner at.chosen next.is);
      count = length-append down.steps (step ∷ []) ∙ ap (λ (n : ℕ). n + 1) down.count;
    }

pub down_deep : (layout : RowLayout) (pages : List (Option Sector)) (root : ℕ) (levels : List (List TreeNode))
    (key : List ℕ) (page depth : ℕ) → length pages ≤ 2 ^ 20 → IsTree layout pages root levels
    → Down layout pages levels key page depth → 21 ≤ depth → ⊥
down_deep layout pages root levels key page depth small tree down deep =
    let count = down.count in
    too_deep layout pages root levels key down.steps page down.right small tree down.along (omega (arith, count))

ends : (layout : RowLayout) (pages : List (Option Sector)) (root : ℕ) (levels : List (List TreeNode)) (key : List ℕ)
    (page depth : ℕ) (sought : Sought) (answer : Option Entry)
    → IsTree layout pages root levels → (down : Down layout pages levels key page depth)
    → AnswersAt layout pages page key sought answer → LeadsTo layout pages key levels down.steps page down.right
ends layout pages root levels key page depth sought answer tree down answers =
    step_ends layout pages root levels key down.steps page down.right down.right tree down.along
    (record { node = answers.node; read = answers.read; layout_is = answers.layout_is; steps = (answers.leaf, refl) })

-- what the leaf at the end answers, all entries do
pub finds_entry : (layout : RowLayout) (pages : List (Option Sector)) (root : ℕ) (levels : List (List TreeNode))
    (key : List ℕ) (page depth : ℕ) (sought : Sought) (entry : Entry)
    → IsTree layout pages root levels → Down layout pages levels key page depth
    → AnswersAt layout pages page key sought (Some entry) → FindsEntry (entries_of layout levels) key sought entry true
finds_entry layout pages root levels key page depth sought entry tree down answers =
    found_entry layout pages root key levels down.steps page down.right sought entry tree
    (ends layout pages root levels key page depth sought (Some entry) tree down answers) answers

pub finds_none : (layout : RowLayout) (pages : List (Option Sector)) (root : ℕ) (levels : List (List TreeNode))
    (key : List ℕ) (page depth : ℕ) (sought : Sought) (entry : Entry)
    → IsTree layout pages root levels → Down layout pages levels key page depth
    → AnswersAt layout pages page key sought None → FindsEntry (entries_of layout levels) key sought entry false
finds_none layout pages root levels key page depth sought entry tree down answers = λ with.
    got_entry layout pages root key levels down.steps page down.right None tree
    (ends layout pages root levels key page depth sought None tree down answers)
    (subst (λ (s : Sought). AnswersAt layout pages page key s None) with answers)

-- its page is that of a leaf of the tree
pub leaf_of_way : (layout : RowLayout) (pages : List (Option Sector)) (root : ℕ) (key : List ℕ)
    (levels : List (List TreeNode)) (steps : List PathStep) (page : ℕ) (right : Option (List ℕ))
    → IsTree layout pages root levels → LeadsTo layout pages key levels steps page right → HasLeaf levels page
leaf_of_way layout pages root key levels steps page right tree leads =
    let at = leads.ends in
    subst (HasLeaf levels) at.at_page
    (has_spot levels at.leaf (leaf_of layout pages key levels steps at.leaf tree.joined at.reaches).leaves)

pub ends_in_leaf : (layout : RowLayout) (pages : List (Option Sector)) (root : ℕ) (levels : List (List TreeNode))
    (key : List ℕ) (page depth : ℕ) (sought : Sought) (answer : Option Entry)
    → IsTree layout pages root levels → Down layout pages levels key page depth
    → AnswersAt layout pages page key sought answer → HasLeaf levels page
ends_in_leaf layout pages root levels key page depth sought answer tree down answers =
    leaf_of_way layout pages root key levels down.steps page down.right tree
    (ends layout pages root levels key page depth sought answer tree down answers)

-- what a page answers after a call that only reads, it answered before it
pub looked_before : {D : Type 0} (device : Devices D) (old new : PageMap) (a b : D) (layout : RowLayout) (page : ℕ)
    (key : List ℕ) (sought : Sought) (entry : Entry) (was look : Look) → IsUnchanged old new → OnlyReads device ⊥ a b
    → IfAgrees device old a (Agrees new (device.state b).disk) → was ≡ look
    → OnPages device new b (λ p. LooksAt layout p page key sought entry was)
    → OnPages device old a (λ p. LooksAt layout p page key sought entry look)
looked_before device old new a b layout page key sought entry was look unchanged only agrees is looks =
    pages_before device ⊥ old new a b (λ p. LooksAt layout p page key sought entry look) unchanged only agrees
    (subst (λ (l : Look). OnPages device new b (λ p. LooksAt layout p page key sought entry l)) is looks)

-- What is claimed of the rows after a leaf, by the first key there, in each tree under a root.
abbrev pub OfRight : RootedTree → Option (List ℕ) → (List (List ℕ) → Type 0) → List (Option Sector) → Type 0
OfRight tree right claim pages = (levels : List (List TreeNode)) → IsTree tree.layout pages tree.root levels
    → (passed after : List (List ℕ)) → rows_in_order levels ≡ passed ++ after → right ≡ first_key tree.layout after
    → claim after

-- After a leaf that answers nothing, it is claimed of the rows whose first entry is the one that is sought.
pub right_of : {D : Type 0} (device : Devices D) (old mid new : PageMap) (a b d : D) (tree view : RootedTree)
    (key : List ℕ) (levels : List (List TreeNode)) (steps : List PathStep) (page : ℕ) (right : Option (List ℕ))
    (sought : Sought) (answer : Option Entry) (claim : List (List ℕ) → Type 0) (A B : Type 0) → tree ≡ view
    → (sought ≡ From) ⊎ (sought ≡ After) → IsUnchanged old mid → OnlyReads device A a b
    → IfAgrees device old a (Agrees mid (device.state b).disk) → IsUnchanged mid new → OnlyReads device B b d
    → IfAgrees device mid b (Agrees new (device.state d).disk) → answer ≡ None
    → OnPages device mid b (λ p. AnswersAt tree.layout p page key sought answer)
    → OnPages device new d (OfRight view right claim) → OnPages device old a
    (λ p. IsTree tree.layout p tree.root levels → LeadsTo tree.layout p key levels steps page right
    → (is : IsBehind view.layout key levels sought right) × claim is.after)
right_of device old mid new a b d tree view key levels steps page right sought answer claim A B same which unchanged
    only agrees still only_still agrees_still none answers claimed = λ honest agreed is leads.
    let here = pages_before device A old mid a b (λ p. AnswersAt tree.layout p page key sought answer) unchanged only
    agrees answers honest agreed in
    let after = behind tree.layout (pages_on device old a) tree.root key levels steps page right sought which is leads
    (subst (AnswersAt tree.layout (pages_on device old a) page key sought) none here) in
    let view_after = subst (λ (t : RootedTree). IsBehind t.layout key levels sought right) same after in
    let seen = pages_before device A old mid a b (OfRight view right claim) unchanged only agrees
    (pages_before device B mid new b d (OfRight view right claim) still only_still agrees_still claimed) in (
      view_after,
      seen honest agreed levels
          (subst (λ (t : RootedTree). IsTree t.layout (pages_on device old a) t.root levels) same is) view_after.passed
          view_after.after view_after.around view_after.beside,
    )
