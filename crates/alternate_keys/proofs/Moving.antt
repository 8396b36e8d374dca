-- What is known of a file's trees when the tree of rows has changed, and the pairs of the row are still to move.
use Rattle.std.proofs.Common.{◌≡◌, ◌<◌, ◌+◌, ◌*◌, ℕ, List, length, sym, ap, subst, ◌∙◌, arith}
use Rattle.station.specs.State.{State}
use Rattle.station.specs.declared.device.Device.{Ghosts as Devices}
use Rattle.pages.specs.Pages.{map_now, committed_of, changed_pages_of, Agrees, SameCommitted}
use Rattle.pages.specs.Use.{free_count}
use Rattle.pages.specs.declared.page_map.PageMap.{PageMap}
use Rattle.btree.specs.Calls.{pages_on}
use Rattle.btree.specs.Results.{FewChanged}
use Rattle.chains.specs.Chain.{pages_for}
use Rattle.records.specs.Spec.{Spec}
use Rattle.records.specs.Changes.{FileChange}
use Rattle.records.specs.Files.{NamedFile}
use Rattle.volume_format.specs.Chained.{chained_bytes}
use Rattle.volume_format.specs.Calls.{LooksAt}
use Rattle.volume_format.specs.Forest.{TreeLevels}
use Rattle.alternate_keys.specs.declared.row_verb.RowVerb.{RowVerb}
use Rattle.row_trees.specs.Calls.{EditsPages}
use Rattle.alternate_keys.specs.Moved.{HasChangedRows, PairsMayMove, named_after}
use Rattle.alternate_keys.specs.Placed.{HasFileTrees}
use Rattle.alternate_keys.proofs.HeldTrees.{HoldsTrees}
use Rattle.alternate_keys.proofs.Still.{same_volume}

module _ {D : Type 0} (d : Devices D) where
  -- From the pages `p` over the device `a` on, few pages were changed. Over `b` the pages `q` have the new rows.
  pub record IsMoving (verb : RowVerb) (spec : Spec) (named after : NamedFile) (generation : ℕ)
      (left right : List TreeLevels) (listing : List ℕ) (root : ℕ) (old bytes : List ℕ) (arrival next : ℕ)
      (p : PageMap) (a : D) (q : PageMap) (b : D) : Type 0 where
    pub honest : d.is_honest b
    pub agrees : Agrees q (d.state b).disk
    pub still : d.state b ≡ d.state a
    pub committed : SameCommitted p q
    pub few : FewChanged (42 + pages_for (chained_bytes spec)) p q
    pub changed : HasChangedRows verb spec named after generation (pages_on d q b) left right listing root old bytes
        arrival next
    pub may : PairsMayMove verb named.file old bytes arrival

  pub moving_from : {A : Type 0} {verb : RowVerb} {spec : Spec} {named after : NamedFile} {generation : ℕ}
      {left right : List TreeLevels} {listing : List ℕ} {root : ℕ} {old bytes : List ℕ} {arrival next : ℕ}
      {p q : PageMap} {a b : D} → HoldsTrees d spec named generation left right listing p a → EditsPages d A p a q b
      → FewChanged (42 + pages_for (chained_bytes spec)) p q
      → HasChangedRows verb spec named after generation (pages_on d q a) left right listing root old bytes arrival next
      → PairsMayMove verb named.file old bytes arrival →
      IsMoving verb spec named after generation left right listing root old bytes arrival next p a q b
  moving_from {verb} {spec} {named} {after} {generation} {left} {right} {listing} {root} {old} {bytes} {arrival} {next}
      {q} held edits few changed may =
      let still = edits.only.state held.honest in
      record {
        honest = edits.only.honest.0 held.honest;
        agrees = edits.agrees held.honest held.agrees;
        still = still;
        committed = edits.committed;
        few = few;
        changed = subst (λ (s : State). HasChangedRows verb spec named after generation (map_now q s.disk.present).pages
            left right listing root old bytes arrival next) (sym still) changed;
        may = may;
      }

  module _ {verb : RowVerb} {spec : Spec} {named after : NamedFile} {generation : ℕ} {left right : List TreeLevels}
      {listing : List ℕ} {root : ℕ} {old bytes : List ℕ} {arrival next : ℕ} {p : PageMap} {a : D} {q : PageMap} {b : D}
    where
      -- calls that only read came before
      pub moving_since : {A : Type 0} {o : PageMap} {e : D} → d.is_honest e → LooksAt d A o e p a
          → IsMoving verb spec named after generation left right listing root old bytes arrival next p a q b
          → IsMoving verb spec named after generation left right listing root old bytes arrival next o e q b
      moving_since honest looks moving =
          let before = looks.unchanged.committed in
          let same = ap (λ (l : List ℕ). length l) looks.unchanged.changed_pages in
          let few = moving.few in
          record {
            honest = moving.honest;
            agrees = moving.agrees;
            still = moving.still ∙ looks.only.state honest;
            committed = record {
              volume = moving.committed.volume ∙ before.volume;
              mark = moving.committed.mark ∙ before.mark;
              spent = moving.committed.spent ∙ before.spent;
            };
            few = omega (arith, few, same);
            changed = moving.changed;
            may = moving.may;
          }

      pub room_then : (keys : ℕ)
          → IsMoving verb spec named after generation left right listing root old bytes arrival next p a q b
          → free_count (committed_of q) < length (changed_pages_of q) + 84 * keys
          → free_count (committed_of p) < length (changed_pages_of p) + (84 * keys +
          (42 + pages_for (chained_bytes spec)))
      room_then keys moving room =
          let same = ap free_count (same_volume p q moving.committed) in
          let few = moving.few in
          omega (arith, room, few, same)

      pub few_then : (keys : ℕ)
          → IsMoving verb spec named after generation left right listing root old bytes arrival next p a q b
          → (r : PageMap) → FewChanged (84 * keys) q r → FewChanged (84 * keys + (42 + pages_for (chained_bytes spec)))
          p r
      few_then keys moving r more = let few = moving.few in omega (arith, more, few)

      pub placed_then : IsMoving verb spec named after generation left right listing root old bytes arrival next p a q b
          → (r : PageMap) (new : List ℕ) → HasFileTrees after (generation + 1) (pages_on d r b) left right new →
          HasFileTrees after (generation + 1) (pages_on d r a) left right new
      placed_then moving r new placed = subst (λ (s : State).
          HasFileTrees after (generation + 1) (map_now r s.disk.present).pages left right new) moving.still placed

  -- the file after it, by another word
  pub moving_as : {verb : RowVerb} {spec : Spec} {named : NamedFile} {generation : ℕ} {left right : List TreeLevels}
      {listing : List ℕ} {root : ℕ} {old bytes : List ℕ} {arrival next : ℕ} {p : PageMap} {a : D} {q : PageMap} {b : D}
      {one two : FileChange} → two ≡ one → IsMoving verb spec named (named_after named one) generation left right
      listing root old bytes arrival next p a q b → IsMoving verb spec named (named_after named two) generation left
      right listing root old bytes arrival next p a q b
  moving_as {verb} {spec} {named} {generation} {left} {right} {listing} {root} {old} {bytes} {arrival} {next} {p} {a}
      {q} {b} same moving =
      subst (λ (ch : FileChange). IsMoving verb spec named (named_after named ch) generation left right listing root old
      bytes arrival next p a q b) (sym same) moving
