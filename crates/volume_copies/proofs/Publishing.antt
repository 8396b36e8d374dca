-- A volume that is made, compared and published.
use Rattle.std.proofs.Common.{◌≡◌, Bool, true, false, List, refl, ◌∙◌, sym, ap, subst, inl, inr, ⊎_elim}
use Rattle.std.proofs.lemmas.Bool.{true≢false}
use Rattle.std.specs.Prelude.{None, Some, Result, is_some, is_ok, Ok, Err}
use Rattle.station.specs.Disk.{Disk, Sector, idle_disk, IsCrashImage}
use Rattle.station.specs.History.{Through, EachImage}
use Rattle.station.specs.State.{State}
use Rattle.station.proofs.Crash.{settled_image}
use Rattle.station.proofs.Spans.{goes, weakens}
use Rattle.roots.specs.declared.pair.RootsFault.TheVariants as roots
use Rattle.roots.specs.Reading.{roots_in}
use Rattle.pages.specs.Layout.{root_of, known_families as tree_families}
use Rattle.half_store.specs.Half.{known_families as half_families}
use Rattle.records.specs.Files.{Files}
use Rattle.records.specs.declared.fault.StoreFault.{StoreFault}
use Rattle.file_recovery.specs.Recovered.{HoldsFiles}
use Rattle.unfinished_volume.specs.DeviceLaws.{inverted_possible}
use Rattle.unfinished_volume.specs.Hidden.{IsRootHidden}
use Rattle.unfinished_volume.specs.Inverted.{inverted_image, inverted_state}
use Rattle.unfinished_volume.specs.Laws.{HiddenRootIsDamage}
use Rattle.unfinished_volume.specs.Moments.{PossibleOr, PossibleOrHidden}
use Rattle.volume_copies.specs.Copied.{IsReadBack, IsNoVolume, HoldsSame, IsWhileMade, IsWhileCopied}
use Rattle.volume_copies.specs.Copied.{IsCopied}
use Rattle.volume_copies.specs.Blamed.{blamed_on_new}
use Rattle.volume_copies.specs.declared.copied.VolumeCopy.{VolumeCopy}
use Rattle.volume_copies.specs.declared.copied.VolumeCopy.TheVariants.{Done, Different}
use Rattle.volume_copies.specs.declared.copy_error.CopyError.{CopyError}
use Rattle.volume_copies.specs.Made.{IsNoneOrSame}

no_files : (image : List Sector) (files : Files) → roots_in tree_families image ≡ Err roots.Damaged
    → roots_in half_families image ≡ Err roots.Damaged → HoldsFiles image files → ⊥
no_files image files trees halves holds = ⊎_elim
    (λ tree. let clash : None ≡ Some tree.1.0.root = sym (ap root_of trees) ∙ tree.1.1.root in
    true≢false (sym (ap is_some clash)))
    (λ half. true≢false (sym (ap is_ok (sym halves ∙ half.2.reads)))) holds

-- without a root
pub no_volume : HiddenRootIsDamage → (image : List Sector) → IsRootHidden image → IsNoVolume image
no_volume law image hidden =
    let trees : roots_in tree_families image ≡ Err roots.Damaged =
    law tree_families image ((refl, (refl, tt)), ((refl, tt), tt)) hidden in
    let halves : roots_in half_families image ≡ Err roots.Damaged =
    law half_families image ((refl, tt), ((refl, (refl, tt)), tt)) hidden in
    record {
      trees = trees;
      halves = halves;
      files = λ files holds. no_files image files trees halves holds;
    }

pub no_volumes : HiddenRootIsDamage → (state : State) → EachImage IsRootHidden state → EachImage IsNoVolume state
no_volumes law state hidden = λ image crash. no_volume law image (hidden image crash)

pub none_yet : HiddenRootIsDamage → (files : Files) (state : State) → EachImage IsRootHidden state
    → EachImage (IsNoneOrSame files) state
none_yet law files state hidden = λ image crash. inl (no_volume law image (hidden image crash))

-- what was read back is there once the root is shown
pub same_shown : (files : Files) (state : State) → IsReadBack files (inverted_state state)
    → IsCrashImage state.disk state.disk.present → HoldsSame files (inverted_image state.disk.present)
same_shown files state back possible = record {
  copies = back.copies;
  holds = back.durable (inverted_image state.disk.present) (inverted_possible state.disk state.disk.present possible);
  same = back.same;
}

-- while the root is shown
none_or_same : HiddenRootIsDamage → (files : Files) (before : State) → EachImage IsRootHidden before
    → HoldsSame files (inverted_image before.disk.present) → (state : State)
    → EachImage (PossibleOr before.disk (inverted_image before.disk.present)) state
    → EachImage (IsNoneOrSame files) state
none_or_same law files before hidden same state leaves = λ image crash. ⊎_elim
    (λ possible. inl (no_volume law image (hidden image possible)))
    (λ shown. inr (subst (HoldsSame files) (sym shown) same)) (leaves image crash)

-- since the root was hidden, and while it is shown
pub published : HiddenRootIsDamage → (files : Files) (first hidden shown : List State) (before after : State)
    → Through first hidden before (EachImage IsRootHidden) → HoldsSame files (inverted_image before.disk.present)
    → Through hidden shown after (EachImage (PossibleOr before.disk (inverted_image before.disk.present)))
    → Through first shown after (EachImage (IsNoneOrSame files))
published law files first hidden shown before after since same leaves =
    goes first hidden shown before after (EachImage (IsNoneOrSame files))
    (weakens first hidden before (EachImage IsRootHidden) _ (none_yet law files) since)
    (weakens hidden shown after _ _ (none_or_same law files before since.now same) leaves)

-- once it is shown
pub shown_back : (files : Files) (sectors : List Sector) (state : State) → HoldsSame files sectors
    → state.disk ≡ idle_disk sectors → IsReadBack files state
shown_back files sectors state same disk = record {
  copies = same.copies;
  durable = λ image crash. subst (λ (l : List Sector). HoldsFiles l same.copies)
      (sym (settled_image sectors image (subst (λ (d : Disk). IsCrashImage d image) disk crash))) same.holds;
  same = same.same;
}

-- while the root is hidden
pub hidden_made : HiddenRootIsDamage → (files : Files) (before : Disk) (state : State)
    → EachImage (PossibleOrHidden before) state → EachImage (IsWhileMade files before) state
hidden_made law files before state leaves = λ image crash. ⊎_elim (λ possible. inl possible)
    (λ hidden. inr (inl (no_volume law image hidden))) (leaves image crash)

pub made_then : (files : Files) (before : Disk) (state : State) → EachImage (IsNoneOrSame files) state
    → EachImage (IsWhileMade files before) state
made_then files before state leaves = λ image crash. inr (leaves image crash)

pub made_copied : (files : Files) (old new : State) → HoldsFiles old.disk.present files → (state : State)
    → EachImage (IsWhileMade files new.disk) state → EachImage (IsWhileCopied old new) state
made_copied files old new holds state leaves = λ image crash. ⊎_elim (λ possible. inl possible)
    (λ made. inr (⊎_elim (λ none. inl none)
    (λ same. inr (record { files = files; holds = holds; copy = same })) made)) (leaves image crash)

pub copied_back : (files : Files) (old new : State) → HoldsFiles old.disk.present files → IsReadBack files new
    → IsCopied old new
copied_back files old new holds back =
    record { files = files; holds = holds; copies = back.copies; durable = back.durable; same = back.same }

abbrev is_done : Result VolumeCopy CopyError → Bool
is_done (Ok Done) = true
is_done (Ok Different) = false
is_done (Err error) = false

pub not_blamed : (copy : Result VolumeCopy StoreFault) → blamed_on_new copy ≡ Ok Done → copy ≡ Ok Done
not_blamed (Ok Done) is = refl
not_blamed (Ok Different) is = absurd (true≢false (sym (ap is_done is)))
not_blamed (Err fault) is = absurd (true≢false (sym (ap is_done is)))
