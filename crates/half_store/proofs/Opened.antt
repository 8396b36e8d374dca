-- What an image holds, as it is read.
use Rattle.std.proofs.Common.{◌≡◌, inl, inr, ◌≤◌, ℕ, List, length, refl, sym, ◌∙◌, ap, subst}
use Rattle.std.specs.Prelude.{Option, Some, None, IfSome, Result, Ok, Err, IfErr, IfOk}
use Rattle.answers.specs.Answer.{Gives}
use Rattle.station.specs.Disk.{Sector}
use Rattle.station.specs.State.{State, state_after_sync}
use Rattle.roots.specs.declared.error.RootsError.{RootsError}
use Rattle.roots.specs.declared.error.RootsError.TheVariants as error
use Rattle.roots.specs.declared.pair.Roots.{Roots}
use Rattle.roots.specs.declared.pair.RootsFault.{RootsFault}
use Rattle.roots.specs.declared.pair.RootsFault.TheVariants as fault
use Rattle.roots.specs.declared.root.Root.{Root}
use Rattle.roots.specs.Pair.{EachRoot}
use Rattle.roots.specs.Root.{IsWithinVolume}
use Rattle.roots.specs.Reading.{roots_in, fault_of}
use Rattle.records.specs.declared.fault.StoreFault.{StoreFault}
use Rattle.records.specs.declared.fault.StoreFault.TheVariants.{Device, Full, Damaged, Memory, Spent, Layout, Old}
use Rattle.records.specs.Files.{Files}
use Rattle.half_store.specs.Spelled.{files_bytes}
use Rattle.file_bytes.specs.Stored.{files_of}
use Rattle.half_store.specs.Half.{known_families, named_length, named_bytes, IsHalfRoot, IsForeign, AreHalfFiles}
use Rattle.half_store.specs.Half.{HoldsAt}
use Rattle.half_store.specs.Half.{Holds, Rests}
use Rattle.half_store.specs.Opened.{HoldsNone, IsOpenRefusal, FailsWith, of_roots, IsReadCause}
use Rattle.half_store.specs.Stands.{Represents}
use Rattle.half_store.specs.declared.store.HalfStore.{HalfStore}

module _ (image : List Sector) where
  roots_same : (roots : Roots) (files : Files) → roots_in known_families image ≡ Ok roots → (holds : Holds image files)
      → holds.2.roots ≡ roots
  roots_same roots files is holds = let e = sym holds.2.reads ∙ is in cc

  pub no_half_roots : (roots : Roots) → roots_in known_families image ≡ Ok roots → (EachRoot IsHalfRoot roots → ⊥)
      → HoldsNone image
  no_half_roots roots is never =
      λ files holds. never (subst (EachRoot IsHalfRoot) (roots_same roots files is holds) holds.2.halves)

  pub no_spelled : (roots : Roots) (bytes : List ℕ) → roots_in known_families image ≡ Ok roots
      → bytes ≡ named_bytes image roots.newest
      → ((files : Files) → bytes ≡ files_bytes files → AreHalfFiles roots.newest.generation files → ⊥)
      → HoldsNone image
  no_spelled roots bytes is named never = λ files holds.
      let same = roots_same roots files is holds in
      never files (named ∙ ap (λ (r : Roots). named_bytes image r.newest) (sym same) ∙ holds.2.bytes)
      (subst (λ (n : ℕ). AreHalfFiles n files) (sym holds.2.generation ∙ ap (λ (r : Roots). r.newest.generation) same)
      (record { sound = holds.2.sound; early = holds.2.early; short = holds.2.short }))

  no_roots : (f : RootsFault) → roots_in known_families image ≡ Err f → HoldsNone image
  no_roots f is = λ files holds. let e = sym holds.2.reads ∙ is in cc

  pub roots_refused : (e : RootsError) → Gives (λ (r : Roots). r) fault_of (Err e) (roots_in known_families image)
      → IsOpenRefusal image (of_roots e)
  roots_refused error.Device gives = tt
  roots_refused (error.Roots fault.Damaged) gives = no_roots fault.Damaged gives
  roots_refused (error.Roots fault.ForeignMark) gives = gives

  pub roots_foreign : (T : Type 0) (e : RootsError)
      → Gives (λ (r : Roots). r) fault_of (Err e) (roots_in known_families image) → IsForeign image
      → FailsWith {T = T} Layout (Err (of_roots e))
  roots_foreign T error.Device gives is = inr (inl refl)
  roots_foreign T (error.Roots fault.Damaged) gives is = let e = sym gives ∙ is in cc
  roots_foreign T (error.Roots fault.ForeignMark) gives is = inl refl

  -- own roots aren't the other format's
  pub not_foreign : (roots : Roots) → roots_in known_families image ≡ Ok roots → IsForeign image → ⊥
  not_foreign roots reads is = let e = sym reads ∙ is in cc

  pub holds_now : (roots : Roots) (bytes : List ℕ) (files : Files) → roots_in known_families image ≡ Ok roots
      → EachRoot IsHalfRoot roots → bytes ≡ named_bytes image roots.newest → length bytes ≡ named_length roots.newest
      → (bytes ≡ files_bytes files) × AreHalfFiles roots.newest.generation files
      → HoldsAt roots.newest.sectors roots.newest.generation image files
  holds_now roots bytes files is halves named long spells = record {
    roots = roots;
    reads = is;
    halves = halves;
    generation = refl;
    sectors = refl;
    bytes = sym named ∙ spells.0;
    counted = sym long ∙ ap length spells.0;
    sound = spells.1.sound;
    early = spells.1.early;
    short = spells.1.short;
  }

  pub opened_cause : {T : Type 0} (result : Result T StoreFault) (files : Files)
      → IfErr result (λ f. IsOpenRefusal image f) → Holds image files → IfErr result IsReadCause
  opened_cause (Ok x) files refused holds = tt
  opened_cause (Err Device) files refused holds = inl refl
  opened_cause (Err Full) files refused holds = absurd refused
  opened_cause (Err Damaged) files refused holds = absurd (refused files holds)
  opened_cause (Err Memory) files refused holds = inr refl
  opened_cause (Err Spent) files refused holds = absurd refused
  opened_cause (Err Old) files refused holds = absurd refused
  opened_cause (Err Layout) files refused holds = absurd (let e = sym holds.2.reads ∙ refused in cc)

pub stands_now : (store : HalfStore) (old new : State)
    → new ≡ state_after_sync old → HoldsAt store.sectors store.generation old.disk.present (files_of store.files.items)
    → Represents store new.disk (files_of store.files.items)
stands_now store old new is holds = record {
  rests = subst (λ (s : State). Rests store.sectors store.generation s.disk (files_of store.files.items)) (sym is)
      (record { settled = refl; holds = holds });
  memory = refl;
}

-- the store that was read once the device was synced
module _ (result : Result HalfStore StoreFault) (old synced : State) (is : synced ≡ state_after_sync old)
    (holds : IfOk result (λ store. HoldsAt store.sectors store.generation synced.disk.present
    (files_of store.files.items))) where
  pub opened_stands : (new : State) → new ≡ synced
      → IfOk result (λ store. Represents store new.disk (files_of store.files.items))
  opened_stands new same = by result holds
    where
      by : (result : Result HalfStore StoreFault) → IfOk result (λ store. HoldsAt store.sectors store.generation
          synced.disk.present (files_of store.files.items))
          → IfOk result (λ store. Represents store new.disk (files_of store.files.items))
      by (Ok store) holds = stands_now store old new (same ∙ is) (subst (λ (s : State). HoldsAt store.sectors
          store.generation s.disk.present (files_of store.files.items)) is holds)
      by (Err e) holds = tt

  pub opened_holds : IfOk result (λ store. Holds old.disk.present (files_of store.files.items))
  opened_holds = by result holds
    where
      by : (result : Result HalfStore StoreFault) → IfOk result (λ store. HoldsAt store.sectors store.generation
          synced.disk.present (files_of store.files.items))
          → IfOk result (λ store. Holds old.disk.present (files_of store.files.items))
      by (Ok store) holds = (
        store.sectors,
        store.generation,
        subst (λ (s : State). HoldsAt store.sectors store.generation s.disk.present (files_of store.files.items)) is
            holds,
      )
      by (Err e) holds = tt

older_least : (n : ℕ) (older : Option Root) → IfSome older (IsWithinVolume n)
    → IfSome older (λ (root : Root). 1024 ≤ root.sectors)
older_least n None within = tt
older_least n (Some root) within = within.least

pub each_least : (n : ℕ) (roots : Roots) → EachRoot (IsWithinVolume n) roots
    → EachRoot (λ (root : Root). 1024 ≤ root.sectors) roots
each_least n roots within = record { newest = within.newest.least; older = older_least n roots.older within.older }
