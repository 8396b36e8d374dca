-- What calls that change pages leave, one after the other.
use Rattle.std.proofs.Common.{◌≡◌, ◌⊎◌, ℕ, Bool, false, inr, [], ap, ◌∙◌}
use Rattle.std.specs.Prelude.{Result, Ok, Err}
use Rattle.station.specs.Calls.{OnlyReads}
use Rattle.station.specs.declared.device.Device.{Ghosts as Devices}
use Rattle.station.proofs.Calls.{reads_then, reads_nothing}
use Rattle.pages.specs.Image.{Map}
use Rattle.pages.specs.Pages.{is_spent, catalog_of, Agrees, FewFree, IsUnchanged, KeepsCommitted, SameCommitted}
use Rattle.pages.specs.declared.page_map.PageMap.{PageMap}
use Rattle.pages.specs.declared.error.PagesError.{PagesError}
use Rattle.pages.specs.declared.error.PagesError.TheVariants.{Full}
use Rattle.btree_pages.specs.declared.row_layout.RowLayout.{RowLayout}
use Rattle.btree.specs.Calls.{EditsPages, OnTree, pages_on}
use Rattle.btree.specs.Results.{FewChanged, FewFilled, FullIfUsed}
use Rattle.btree.specs.Rooted.{RootedTree}
use Rattle.btree.specs.TreeEdits.{TakesFewPages, OkOnlyIfEditsFew}
use Rattle.btree.proofs.Frames.{unchanged_still}
use Rattle.btree.proofs.NamedTrees.{same_holds}
use Rattle.btree.proofs.Passing.{never_ok, reads_where, committed_on}
use Rattle.btree.proofs.Refused.{few_left}

module _ {D : Type 0} (d : Devices D) where
  pub edits_by : (A : Type 0) (p q : PageMap) (a b : D) → OnlyReads d A a b → SameCommitted p q
      → catalog_of q ≡ catalog_of p → (d.is_honest a → Agrees p (d.state a).disk → Agrees q (d.state b).disk)
      → EditsPages d A p a q b
  edits_by A p q a b only committed catalog agrees = record {
    only = only;
    committed = committed;
    catalog = catalog;
    agrees = agrees;
  }

  -- a call that only reads
  pub edits_read : (A : Type 0) (p q : PageMap) (a b : D) → OnlyReads d A a b → IsUnchanged p q
      → (d.is_honest a → Agrees p (d.state a).disk → Agrees q (d.state b).disk) → EditsPages d A p a q b
  edits_read A p q a b only unchanged agrees =
      edits_by A p q a b only unchanged.committed (ap (λ (m : Map). m.catalog) (unchanged.map [])) agrees

  -- no call
  pub edits_none : (p : PageMap) (a : D) → EditsPages d ⊥ p a p a
  edits_none p a = edits_read ⊥ p p a a (reads_nothing d a) (unchanged_still p) (λ honest agrees. agrees)

  pub edits_where : (A B : Type 0) (p q : PageMap) (a b : D) → (B → A) → EditsPages d A p a q b
      → EditsPages d B p a q b
  edits_where A B p q a b from edits = record {
    only = reads_where d A B a b from edits.only;
    committed = edits.committed;
    catalog = edits.catalog;
    agrees = edits.agrees;
  }

  pub edits_then : (A B C : Type 0) (p q r : PageMap) (a b c : D) → (C → A ⊎ B) → EditsPages d A p a q b
      → EditsPages d B q b r c → EditsPages d C p a r c
  edits_then A B C p q r a b c which first second = record {
    only = reads_then d A B C a b c which first.only second.only;
    committed = committed_on p q r first.committed second.committed;
    catalog = second.catalog ∙ first.catalog;
    agrees = λ honest agrees. second.agrees (first.only.honest.0 honest) (first.agrees honest agrees);
  }

  -- the last call alone is to blame
  pub edits_last : (A B C : Type 0) (p q r : PageMap) (a b c : D) → (C → B) → EditsPages d A p a q b
      → EditsPages d B q b r c → EditsPages d C p a r c
  edits_last A B C p q r a b c from first second = edits_then A B C p q r a b c (λ is. inr (from is)) first second

  -- none is to blame
  pub edits_more : (B : Type 0) (p q r : PageMap) (a b c : D) → EditsPages d ⊥ p a q b → EditsPages d B q b r c
      → EditsPages d ⊥ p a r c
  edits_more B p q r a b c first second = edits_last ⊥ B ⊥ p q r a b c (λ never. absurd never) first second

  -- a call that needs no device
  pub edits_kept : (A B : Type 0) (p q r : PageMap) (a b : D) → (B → A) → EditsPages d A p a q b → KeepsCommitted q r
      → EditsPages d B p a r b
  edits_kept A B p q r a b from edits keeps = record {
    only = reads_where d A B a b from edits.only;
    committed = committed_on p q r edits.committed keeps.committed;
    catalog = keeps.catalog ∙ edits.catalog;
    agrees = λ honest agrees. keeps.agrees (d.state b).disk (edits.agrees honest agrees);
  }

  -- What is claimed on a tree is also claimed on one whose layout and root have other names.
  tree_named : (tree : RootedTree) (layout : RowLayout) (root : ℕ) (p : PageMap) (a : D) (claim : Type 0)
      → layout ≡ tree.layout → root ≡ tree.root → OnTree d layout root p a (λ levels. claim)
      → OnTree d tree.layout tree.root p a (λ levels. claim)
  tree_named tree layout root p a claim same is told = λ honest agrees levels holds. told honest agrees levels
      (same_holds tree.layout layout tree.root root (pages_on d p a) levels same is holds)

  -- So it is with how many pages a call takes, and when it returns `Full`.
  pub takes_few : (most : ℕ) (tree : RootedTree) (layout : RowLayout) (root : ℕ) (p q : PageMap) (a : D)
      (result : Result Bool PagesError) → layout ≡ tree.layout → root ≡ tree.root
      → OnTree d layout root p a (λ levels. FewChanged most p q)
      → OnTree d layout root p a (λ levels. FewFilled most p q) → FullIfUsed q result
      → (result ≡ Err Full → is_spent p ≡ false) → FewFree → SameCommitted p q
      → TakesFewPages d most tree p a q result
  takes_few most tree layout root p q a result same is changed filled full unspent law committed =
      let few = tree_named tree layout root p a (FewChanged most p q) same is changed in
      record {
        changed_pages = few;
        filled = tree_named tree layout root p a (FewFilled most p q) same is filled;
        full = full;
        room = λ honest agrees levels holds refused.
            few_left p q most law committed (unspent refused) (full refused) (few honest agrees levels holds);
      }

  pub takes_few_ok : (most : ℕ) (tree : RootedTree) (layout : RowLayout) (root : ℕ) (p q : PageMap) (a : D) (b : Bool)
      → layout ≡ tree.layout → root ≡ tree.root → OnTree d layout root p a (λ levels. FewChanged most p q)
      → OnTree d layout root p a (λ levels. FewFilled most p q) → TakesFewPages d most tree p a q (Ok b)
  takes_few_ok most tree layout root p q a b same is changed filled = record {
    changed_pages = tree_named tree layout root p a (FewChanged most p q) same is changed;
    filled = tree_named tree layout root p a (FewFilled most p q) same is filled;
    full = λ refused. never_ok refused;
    room = λ honest agrees levels holds refused. never_ok refused;
  }

  pub few_named_ok : (most : ℕ) (tree : RootedTree) (layout : RowLayout) (root : ℕ) (p q : PageMap) (a : D) (b : Bool)
      → layout ≡ tree.layout → root ≡ tree.root → OnTree d layout root p a (λ levels. FewChanged most p q)
      → OnTree d layout root p a (λ levels. FewFilled most p q) → OkOnlyIfEditsFew d most tree p a q (Ok b)
  few_named_ok most tree layout root p q a b same is changed filled = record {
    changed_pages = tree_named tree layout root p a (FewChanged most p q) same is changed;
    filled = tree_named tree layout root p a (FewFilled most p q) same is filled;
  }
