-- The trees of alternate keys are cleared, one after the other.
use Rattle.std.proofs.Common.{◌≡◌, ◌<◌, ◌+◌, ◌++◌, ℕ, List, ◌∷◌, length, drop, sym, ap, subst, arith}
use Rattle.std.specs.Prelude.{slice_index_or}
use Rattle.station.specs.State.{State}
use Rattle.station.specs.declared.device.Device.{Ghosts as Devices}
use Rattle.pages.specs.Pages.{map_now, Agrees}
use Rattle.pages.specs.declared.page_map.PageMap.{PageMap}
use Rattle.btree.specs.Calls.{pages_on}
use Rattle.records.specs.declared.key.KeyOfReference.TheVariants.{Alternate}
use Rattle.volume_format.specs.Forest.{TreeLevels, IsForest}
use Rattle.volume_format.specs.Volume.{FileTrees, listing_of, no_tree}
use Rattle.row_trees.specs.Calls.{EditsPages}
use Rattle.alternate_keys.specs.Created.{HasStored, OnStored}
use Rattle.alternate_keys.proofs.Pairing.{rest_of}

module _ {D : Type 0} (d : Devices D) where
  -- the tree that is next is among those that are left
  pub stored_next : {A : Type 0} {p q : PageMap} {a b : D} {value : List ℕ} {kept : FileTrees}
      (left right : List TreeLevels) (i : ℕ) (claim : List TreeLevels → List TreeLevels → Type 0)
      → EditsPages d A p a q b → d.is_honest a → Agrees p (d.state a).disk → HasStored value kept
      → i < length kept.named.file.spec.alternates
      → IsForest (pages_on d q a) (left ++ (drop i kept.alternates ++ right))
      → OnStored d value (Alternate i) q b claim → claim left (drop (i + 1) kept.alternates ++ right)
  stored_next {A} {p} {q} {a} {b} {value} {kept} left right i claim edits honest agrees stored low forest told =
      let next : TreeLevels = slice_index_or kept.alternates i no_tree in
      let later : List TreeLevels = drop (i + 1) kept.alternates in
      let rest : drop i kept.alternates ++ right ≡ next ∷ (later ++ right) =
      ap (λ (ts : List TreeLevels). ts ++ right)
      (rest_of kept.alternates i no_tree (omega (arith, stored.count, low))) in
      told (edits.only.honest.0 honest) (edits.agrees honest agrees) (listing_of kept) next left (later ++ right)
      stored.good stored.says (omega (arith, low)) (stored.trees i low) (stored.whole i low)
      (subst (λ (s : State). IsForest (map_now q s.disk.present).pages (left ++ (next ∷ (later ++ right))))
      (sym (edits.only.state honest))
      (subst (λ (ts : List TreeLevels). IsForest (pages_on d q a) (left ++ ts)) rest forest))

  -- and then it is none of them
  pub forest_next : {A : Type 0} {p q : PageMap} (r : PageMap) {a b : D} {value : List ℕ} {kept : FileTrees}
      (left right : List TreeLevels) (i : ℕ) → EditsPages d A p a q b → d.is_honest a → Agrees p (d.state a).disk
      → HasStored value kept → i < length kept.named.file.spec.alternates
      → IsForest (pages_on d q a) (left ++ (drop i kept.alternates ++ right))
      → OnStored d value (Alternate i) q b (λ left right. IsForest (pages_on d r b) (left ++ right))
      → IsForest (pages_on d r a) (left ++ (drop (i + 1) kept.alternates ++ right))
  forest_next {A} {p} {q} r {a} {b} {value} {kept} left right i edits honest agrees stored low forest cleared =
      subst (λ (s : State). IsForest (map_now r s.disk.present).pages (left ++ (drop (i + 1) kept.alternates ++ right)))
      (edits.only.state honest)
      (stored_next left right i (λ left right. IsForest (pages_on d r b) (left ++ right)) edits honest agrees stored low
      forest
      cleared)
