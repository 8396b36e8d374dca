-- Calls on pages, one after the other.
use Rattle.std.proofs.Common.{◌≡◌, ℕ, List, sym, ap, subst, ◌∙◌}
use Rattle.std.specs.Prelude.{Option, Result, Err}
use Rattle.std.specs.Result.{IsErrAnd}
use Rattle.station.specs.Disk.{Sector}
use Rattle.station.specs.State.{State}
use Rattle.station.specs.Calls.{OnlyReads}
use Rattle.station.specs.declared.device.Device.{Ghosts as Devices}
use Rattle.pages.specs.Image.{Map}
use Rattle.pages.specs.Pages.{map_now, Agrees, IsUnchanged}
use Rattle.pages.specs.declared.page_map.PageMap.{PageMap}
use Rattle.btree_pages.specs.declared.row_layout.RowLayout.{RowLayout}
use Rattle.btree.specs.Calls.{OnPages, OnChange, OnTree, pages_on}
use Rattle.btree.specs.Tree.{TreeNode, IsTreeOrEmpty}
pub use Rattle.btree.proofs.EditedPages.{edits_by, edits_where, edits_then, edits_last, edits_more, edits_kept}
use Rattle.btree.proofs.EditedPages.{edits_read}
use Rattle.volume_format.specs.Calls.{LooksAt}
use Rattle.row_trees.specs.Calls.{EditsPages}

-- a refusal that is passed on is that of the call
pub refused_by_call : {T U E : Type 0} {call : Result T E} {given : Result U E} {e fault : E} → call ≡ Err e
    → IsErrAnd given (λ x. x ≡ e) → given ≡ Err fault → call ≡ Err fault
refused_by_call was is refused = was ∙ ap Err (sym (rw refused at is))

module _ {D : Type 0} (d : Devices D) where
  -- what a call keeps that only reads
  pub looks_by : (A : Type 0) (p q : PageMap) (a b : D) → OnlyReads d A a b → IsUnchanged p q
      → (d.is_honest a → Agrees p (d.state a).disk → Agrees q (d.state b).disk) → LooksAt d A p a q b
  looks_by A p q a b only unchanged agrees = record {
    only = only;
    unchanged = unchanged;
    agrees = agrees;
  }

  pub looks_edits : (A : Type 0) (p q : PageMap) (a b : D) → LooksAt d A p a q b → EditsPages d A p a q b
  looks_edits A p q a b looks = edits_read d A p q a b looks.only looks.unchanged looks.agrees

  -- Such a call changes nothing, whoever is to blame.
  pub read_edits : {A B : Type 0} {p q : PageMap} {a b : D} → (B → A) → OnlyReads d A a b → IsUnchanged p q
      → (d.is_honest a → Agrees p (d.state a).disk → Agrees q (d.state b).disk) → EditsPages d B p a q b
  read_edits {A} {B} {p} {q} {a} {b} from only unchanged agrees =
      edits_where d A B p q a b from (edits_read d A p q a b only unchanged agrees)

  -- After it the last call alone is to blame.
  pub edits_after : {A B C : Type 0} {p q r : PageMap} {a b c : D} → LooksAt d A p a q b → EditsPages d B q b r c
      → (C → B) → EditsPages d C p a r c
  edits_after {A} {B} {C} {p} {q} {r} {a} {b} {c} looks edits from =
      edits_last d A B C p q r a b c from (looks_edits A p q a b looks) edits

  -- What a call says of the pages of a device, where another call read before it.
  pub pages_told : (A : Type 0) (p : PageMap) (a b : D) (claim : List (Option Sector) → Type 0) → d.is_honest a
      → OnlyReads d A a b → Agrees p (d.state b).disk → OnPages d p b claim → claim (pages_on d p a)
  pages_told A p a b claim honest only agrees told =
      subst (λ (s : State). claim (map_now p s.disk.present).pages) (only.state honest)
      (told (only.honest.0 honest) agrees)

  pub change_told : (A : Type 0) (p q : PageMap) (a b : D)
      (claim : List (Option Sector) → List (Option Sector) → Type 0) → d.is_honest a → OnlyReads d A a b
      → Agrees p (d.state b).disk → OnChange d p q b claim → claim (pages_on d p a) (pages_on d q a)
  change_told A p q a b claim honest only agrees told =
      subst (λ (s : State). claim (map_now p s.disk.present).pages (map_now q s.disk.present).pages)
      (only.state honest) (told (only.honest.0 honest) agrees)

  -- the pages after a call that only reads
  pub same_on : (p q : PageMap) (a : D) → IsUnchanged p q → pages_on d q a ≡ pages_on d p a
  same_on p q a unchanged = ap (λ (m : Map). m.pages) (unchanged.map (d.state a).disk.present)

  -- what a call says of the pages, after another one that only reads, it says of them before that one
  pub told_before : (A : Type 0) (p q : PageMap) (a b : D) (claim : List (Option Sector) → Type 0) → d.is_honest a
      → Agrees p (d.state a).disk → OnlyReads d A a b → IsUnchanged p q
      → (d.is_honest a → Agrees p (d.state a).disk → Agrees q (d.state b).disk) → OnPages d q b claim
      → claim (pages_on d p a)
  told_before A p q a b claim honest agrees only unchanged still told =
      subst claim (same_on p q a unchanged) (pages_told A q a b claim honest only (still honest agrees) told)

  -- and what it says of a tree
  pub tree_before : {A : Type 0} {p q : PageMap} {a b : D} {layout : RowLayout} {root : ℕ}
      {claim : List (List TreeNode) → Type 0} → LooksAt d A p a q b → OnTree d layout root q b claim
      → OnTree d layout root p a claim
  tree_before {A} {p} {q} {a} {b} {layout} {root} {claim} looks told = λ honest agrees.
      told_before A p q a b (λ l. (levels : List (List TreeNode)) → IsTreeOrEmpty layout l root levels → claim levels)
      honest agrees looks.only looks.unchanged looks.agrees told
