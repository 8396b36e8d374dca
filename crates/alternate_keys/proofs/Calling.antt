-- Calls on pages, one after the other.
use Rattle.std.proofs.Common.{◌≤◌, ◌⊎◌, inr, ◌∙◌, List, [], sym, ap, subst, arith}
use Rattle.station.specs.Calls.{OnlyReads}
use Rattle.station.specs.State.{State}
use Rattle.station.specs.declared.device.Device.{Ghosts as Devices}
use Rattle.station.proofs.Calls.{reads_then}
use Rattle.pages.specs.Image.{Map, Volume}
use Rattle.station.specs.Disk.{Disk}
use Rattle.pages.specs.Pages.{map_now, sectors_of, Agrees, SameCommitted}
use Rattle.pages.specs.declared.page_map.PageMap.{PageMap}
use Rattle.btree.specs.Calls.{pages_on}
use Rattle.btree.specs.Entries.{Entry}
use Rattle.btree.specs.Rooted.{RootedTree}
use Rattle.volume_format.specs.Calls.{LooksAt}
use Rattle.volume_format.specs.Forest.{TreeLevels}
use Rattle.volume_format.specs.Grows.{IsTreeAmong}
use Rattle.volume_format.proofs.Looks.{reads_blamed, looks_nowhere}
use Rattle.row_trees.specs.Calls.{EditsPages}
use Rattle.alternate_keys.specs.Created.{Prepares}
use Rattle.alternate_keys.proofs.Still.{same_volume}

module _ {D : Type 0} (d : Devices D) where
  -- a call that only reads changes nothing
  pub looks_edits : (A : Type 0) (p q : PageMap) (a b : D) → LooksAt d A p a q b → EditsPages d A p a q b
  looks_edits A p q a b looks = record {
    only = looks.only;
    committed = looks.unchanged.committed;
    catalog = ap (λ (m : Map). m.catalog) (looks.unchanged.map []);
    agrees = looks.agrees;
  }

  pub edits_nothing : (p : PageMap) (a : D) → EditsPages d ⊥ p a p a
  edits_nothing p a = looks_edits ⊥ p p a a (looks_nowhere d p a)

  pub edits_blamed : (A B : Type 0) (p q : PageMap) (a b : D) → (B → A) → EditsPages d A p a q b → EditsPages d B p a q
      b
  edits_blamed A B p q a b from edits = record {
    only = reads_blamed d A B a b from edits.only;
    committed = edits.committed;
    catalog = edits.catalog;
    agrees = edits.agrees;
  }

  pub edits_then : (A B C : Type 0) (p q r : PageMap) (a b c : D) → (C → A ⊎ B) → EditsPages d A p a q b → EditsPages d
      B q b r c
      → EditsPages d C p a r c
  edits_then A B C p q r a b c which first second = record {
    only = reads_then d A B C a b c which first.only second.only;
    committed = record {
      volume = second.committed.volume ∙ first.committed.volume;
      mark = second.committed.mark ∙ first.committed.mark;
      spent = second.committed.spent ∙ first.committed.spent;
    };
    catalog = second.catalog ∙ first.catalog;
    agrees = λ honest agrees. second.agrees (first.only.honest.0 honest) (first.agrees honest agrees);
  }

  pub sectors_still : (A : Type 0) (p q : PageMap) (a b : D) → OnlyReads d A a b → SameCommitted p q
      → sectors_of p ≤ d.sectors a → sectors_of q ≤ d.sectors b
  sectors_still A p q a b only committed fits =
      let same = ap (λ (v : Volume). v.root.sectors) (same_volume p q committed) in
      let many = only.sectors in
      omega (arith, same, many, fits)

  -- the last call alone is to blame
  pub edits_last : (A B C : Type 0) (p q r : PageMap) (a b c : D) → (C → B) → EditsPages d A p a q b → EditsPages d B q
      b r c
      → EditsPages d C p a r c
  edits_last A B C p q r a b c from first second = edits_then A B C p q r a b c (λ is. inr (from is)) first second

  -- A tree among others is there over the device after a call, since the call leaves the device's state; and before it.
  pub among_after : {A : Type 0} {p q : PageMap} {a b : D} → EditsPages d A p a q b → d.is_honest a → (r : PageMap)
      → {left right : List TreeLevels} {tree : RootedTree} {entries : List Entry}
      → IsTreeAmong (pages_on d r a) left right tree entries → IsTreeAmong (pages_on d r b) left right tree entries
  among_after edits honest r {left} {right} {tree} {entries} there =
      subst (λ (s : State). IsTreeAmong (map_now r s.disk.present).pages left right tree entries)
      (sym (edits.only.state honest)) there

  pub among_before : {A : Type 0} {p q : PageMap} {a b : D} → EditsPages d A p a q b → d.is_honest a → (r : PageMap)
      → {left right : List TreeLevels} {tree : RootedTree} {entries : List Entry}
      → IsTreeAmong (pages_on d r b) left right tree entries → IsTreeAmong (pages_on d r a) left right tree entries
  among_before edits honest r {left} {right} {tree} {entries} there =
      subst (λ (s : State). IsTreeAmong (map_now r s.disk.present).pages left right tree entries)
      (edits.only.state honest) there

  -- and where the root of the catalog may be another
  pub prepares_of : (A : Type 0) (p q : PageMap) (a b : D) → EditsPages d A p a q b → Prepares d A p a q b
  prepares_of A p q a b edits =
      record { only = edits.only; committed = edits.committed; agrees = edits.agrees }

  pub prepares_then : (A B C : Type 0) (p q r : PageMap) (a b c : D) → (C → B) → EditsPages d A p a q b
      → Prepares d B q b r c → Prepares d C p a r c
  prepares_then A B C p q r a b c from first second = record {
    only = reads_then d A B C a b c (λ is. inr (from is)) first.only second.only;
    committed = record {
      volume = second.committed.volume ∙ first.committed.volume;
      mark = second.committed.mark ∙ first.committed.mark;
      spent = second.committed.spent ∙ first.committed.spent;
    };
    agrees = λ honest agrees. second.agrees (first.only.honest.0 honest) (first.agrees honest agrees);
  }

  pub prepares_set : (A B : Type 0) (p q r : PageMap) (a b : D) → (B → A) → EditsPages d A p a q b → SameCommitted q r
      → ((disk : Disk) → Agrees q disk → Agrees r disk) → Prepares d B p a r b
  prepares_set A B p q r a b from edits same agrees = record {
    only = reads_blamed d A B a b from edits.only;
    committed = record {
      volume = same.volume ∙ edits.committed.volume;
      mark = same.mark ∙ edits.committed.mark;
      spent = same.spent ∙ edits.committed.spent;
    };
    agrees = λ honest was. agrees (d.state b).disk (edits.agrees honest was);
  }
