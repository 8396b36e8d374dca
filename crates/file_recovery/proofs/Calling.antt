-- Calls on pages, one after the other.
use Rattle.std.proofs.Common.{◌≡◌, ◌≤◌, false, ℕ, List, ◌∙◌, ap, subst, arith}
use Rattle.std.specs.Prelude.{Option}
use Rattle.station.specs.Disk.{Sector}
use Rattle.station.specs.declared.device.Device.{Ghosts as Devices}
use Rattle.pages.specs.Pages.{sectors_of, is_spent, mark_of}
use Rattle.pages.specs.declared.page_map.PageMap.{PageMap}
use Rattle.pages.specs.declared.volume.VolumeMap.{VolumeMap}
use Rattle.btree_pages.specs.declared.row_layout.RowLayout.{RowLayout}
use Rattle.btree.specs.Calls.{OnPages, OnTree, pages_on}
use Rattle.btree.specs.Tree.{TreeNode, IsTreeOrEmpty}
use Rattle.btree.proofs.Frames.{same_pages}
use Rattle.records.specs.Rows.{Row}
use Rattle.volume_format.specs.Calls.{LooksAt}
use Rattle.volume_format.proofs.Looks.{looks_then}

module _ {D : Type 0} (d : Devices D) where
  -- what stays
  pub unspent_kept : (A : Type 0) (p q : PageMap) (a b : D) → LooksAt d A p a q b → is_spent p ≡ false
      → is_spent q ≡ false
  unspent_kept A p q a b looks is = looks.unchanged.committed.spent ∙ is

  pub sectors_kept : (A : Type 0) (p q : PageMap) (a b : D) → LooksAt d A p a q b → sectors_of p ≤ d.sectors a
      → sectors_of q ≤ d.sectors b
  sectors_kept A p q a b looks fits =
      let same = ap (λ (v : VolumeMap). v.sectors) looks.unchanged.committed.volume in
      let many = looks.only.sectors in
      omega (arith, same, many, fits)

  pub pages_kept : (A : Type 0) (p q : PageMap) (a b : D) → LooksAt d A p a q b → d.is_honest a
      → pages_on d q b ≡ pages_on d p a
  pages_kept A p q a b looks honest = same_pages p q (d.state a) (d.state b) looks.unchanged (looks.only.state honest)

  -- a claim of the pages that a call leaves, of those before it
  pub on_pages_before : {A : Type 0} {p q : PageMap} {a b : D} (C : List (Option Sector) → Type 0) → LooksAt d A p a q b
      → OnPages d q b C → OnPages d p a C
  on_pages_before {A} {p} {q} {a} {b} C looks claim = λ honest agrees.
      subst C (pages_kept A p q a b looks honest) (claim (looks.only.honest.0 honest) (looks.agrees honest agrees))

  -- and that two calls leave, with rows and a value in other words
  pub on_pages_before_both :
      {A B : Type 0} {p q r : PageMap} {a b c : D} {rows rows' : List Row} {value value' : List ℕ}
      (C : List (Option Sector) → List Row → List ℕ → Type 0) → LooksAt d A p a q b → LooksAt d B q b r c
      → rows' ≡ rows → value' ≡ value → OnPages d r c (λ pages. C pages rows' value')
      → OnPages d p a (λ pages. C pages rows value)
  on_pages_before_both {r = r} {c = last} {rows = rows} {value = value} {value' = value'} C one two rows_are value_is
      claim = on_pages_before (λ pages. C pages rows value) one (on_pages_before (λ pages. C pages rows value) two
      (λ honest agrees. subst (C (pages_on d r last) rows) value_is
      (subst (λ (l : List Row). C (pages_on d r last) l value') rows_are (claim honest agrees))))

  -- and of their mark
  pub on_marked_before : {A : Type 0} {p q : PageMap} {a b : D} (C : ℕ → List (Option Sector) → Type 0)
      → LooksAt d A p a q b → OnPages d q b (C (mark_of q)) → OnPages d p a (C (mark_of p))
  on_marked_before {p = p} {q} {b = b} C looks claim = on_pages_before (C (mark_of p)) looks
      (λ honest agrees. subst (λ n. C n (pages_on d q b)) looks.unchanged.committed.mark (claim honest agrees))

  -- of the tree under a root there
  pub on_tree_before : {A : Type 0} {p q : PageMap} {a b : D} {layout : RowLayout} {root : ℕ}
      (C : List (Option Sector) → List (List TreeNode) → Type 0) → LooksAt d A p a q b
      → OnTree d layout root q b (C (pages_on d q b)) → OnTree d layout root p a (C (pages_on d p a))
  on_tree_before {layout = layout} {root} C looks claim = on_pages_before
      (λ pages. (levels : List (List TreeNode)) → IsTreeOrEmpty layout pages root levels → C pages levels) looks claim

  -- a call after others, none of which failed
  pub looks_on : {A : Type 0} {p q r : PageMap} {a b c : D} → LooksAt d ⊥ p a q b → LooksAt d A q b r c
      → LooksAt d ⊥ p a r c
  looks_on {A} {p} {q} {r} {a} {b} {c} before looks = looks_then d ⊥ A ⊥ p q r a b c (λ is. absurd is) before looks
