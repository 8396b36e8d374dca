-- A volume is opened, and lines become rows of a file in it.
use Rattle.std.proofs.Common.{◌≡◌, ◌+◌, ℕ, List, inl, inr, ⊎_elim, refl, sym, ap, subst, ◌∙◌}
use Rattle.station.specs.Blocks.{CrashLeaves}
use Rattle.station.specs.Disk.{Sector}
use Rattle.station.specs.History.{Through}
use Rattle.station.specs.Opening.{IsOpening}
use Rattle.station.specs.State.{State, state_after_sync}
use Rattle.station.proofs.Spans.{goes, weakens}
use Rattle.records.specs.declared.fault.StoreFault.{StoreFault}
use Rattle.records.specs.declared.fault.StoreFault.TheVariants.{Damaged, Layout}
use Rattle.records.specs.Files.{Files}
use Rattle.file_recovery.specs.Recovered.{HoldsFiles, IsReadCause}
use Rattle.file_recovery.proofs.Reopened.{same_present}
use Rattle.volume_copies.specs.Lines.{lines_of}
use Rattle.volume_copies.specs.Loaded.{HoldsLines}
use Rattle.volume_copies.specs.Loads.{IsDurable, EndsLoad, LoadsLines, IsLoading, IsUnwritten, EndsOpened, Unopened}
use Rattle.volume_copies.specs.Loads.{Opened}
use Rattle.volume_copies.specs.Loads.{LoadsOpened, IsUnknown, LoadsVolume}
use Rattle.volume_copies.specs.declared.load_end.LoadEnd.{LoadEnd}
use Rattle.volume_copies.specs.declared.load_end.LoadEnd.TheVariants.{Done, UnknownName, Malformed, Rejected, Refused}

-- the device and memory are no layout
pub not_layout : {fault : StoreFault} → fault ≡ Layout → IsReadCause fault → ⊥
not_layout is (inl device) = cc
not_layout is (inr memory) = cc

pub same_fault : (one two : StoreFault) → Refused one ≡ Refused two → one ≡ two
same_fault one two e = cc

-- nothing was written, twice
pub unwritten_then : (old mid new : State) → IsUnwritten old mid → IsUnwritten mid new → IsUnwritten old new
unwritten_then old mid new (inl one) (inl two) = inl (two ∙ one)
unwritten_then old mid new (inl one) (inr two) = inr (two ∙ ap state_after_sync one)
unwritten_then old mid new (inr one) (inl two) = inr (two ∙ one)
unwritten_then old mid new (inr one) (inr two) = inr (two ∙ ap state_after_sync one)

module _ (name text : List ℕ) (files : Files) (rows : ℕ) where
  opening_is : (old state : State) → IsOpening old state → IsLoading name text files rows old state
  opening_is old state opening =
      record { events = opening.events; images = λ image crash. inl (opening.images image crash) }

  pub opening_through : (a b : List State) (old new : State) → Through a b new (IsOpening old)
      → Through a b new (IsLoading name text files rows old)
  opening_through a b old new =
      weakens a b new (IsOpening old) (IsLoading name text files rows old) (opening_is old)

  later : (old mid state : State) → IsOpening old mid → IsLoading name text files rows mid state
      → IsLoading name text files rows old state
  later old mid state opening loading = record {
    events = loading.events ∙ opening.events;
    images = λ image crash.
        ⊎_elim (λ before. inl (opening.images image before)) (λ lines. inr lines) (loading.images image crash);
  }

  pub opening_then : (a b c : List State) (old mid new : State) → Through a b mid (IsOpening old)
      → Through b c new (IsLoading name text files rows mid) → Through a c new (IsLoading name text files rows old)
  opening_then a b c old mid new first second =
      goes a b c mid new (IsLoading name text files rows old) (opening_through a b old mid first)
      (weakens b c new (IsLoading name text files rows mid) (IsLoading name text files rows old)
      (λ state loading. later old mid state first.now loading) second)

  -- lines over a store that was opened
  module _ (holds : List Sector → Files → Type 0) (into : (image : List Sector) (files : Files) → holds image files
      → HoldsFiles image files) where
    lines_into : (image : List Sector) → HoldsLines holds name (lines_of text) files (rows + 1) image
        → HoldsLines HoldsFiles name (lines_of text) files (rows + 1) image
    lines_into image lines = record {
      count = lines.count;
      now = lines.now;
      few = lines.few;
      adds = lines.adds;
      there = into image lines.now lines.there;
    }

    durable_into : (end : LoadEnd) (state : State) (now : Files) → IsDurable holds end state now
        → IsDurable HoldsFiles end state now
    durable_into Done state now durable = λ image crash. into image now (durable image crash)
    durable_into UnknownName state now durable = λ image crash. into image now (durable image crash)
    durable_into (Malformed fault) state now durable = λ image crash. into image now (durable image crash)
    durable_into (Rejected status) state now durable = λ image crash. into image now (durable image crash)
    durable_into (Refused fault) state now durable = tt

    ends_into : (end : LoadEnd) (state : State) → EndsLoad holds name (lines_of text) files rows end state
        → EndsLoad HoldsFiles name (lines_of text) files rows end state
    ends_into end state ends = record {
      now = ends.now;
      adds = ends.adds;
      file = ends.file;
      there = ends.there;
      why = ends.why;
      durable = durable_into end state ends.now ends.durable;
    }

    pub opened_loads : (end : LoadEnd) (a b c : List State) (old mid new : State) → Through a b mid (IsOpening old)
        → LoadsLines holds name text files rows end b mid c new → LoadsOpened name text files rows end a old c new
    opened_loads end a b c old mid new first loads = record {
      moments = opening_then a b c old mid new first
          (weakens b c new (CrashLeaves mid.events (HoldsLines holds name (lines_of text) files (rows + 1)))
          (IsLoading name text files rows mid)
          (λ state leaves. record {
            events = leaves.events;
            images = λ image crash. inr (lines_into image (leaves.images image crash));
          }) loads.moments);
      ends = Opened (ends_into end new loads.ends);
    }

  -- a volume that isn't opened
  pub unopened_loads : (end : LoadEnd) (fault : StoreFault) (a b : List State) (old new : State) → end ≡ Refused fault
      → IsReadCause fault → rows ≡ 0 → Through a b new (IsOpening old) → IsUnwritten old new
      → LoadsOpened name text files rows end a old b new
  unopened_loads end fault a b old new is cause none first unwritten = record {
    moments = opening_through a b old new first;
    ends = Unopened fault is cause none unwritten;
  }

  ends_later : (end : LoadEnd) (old mid new : State) → IsUnwritten old mid → EndsOpened name text files rows end mid new
      → EndsOpened name text files rows end old new
  ends_later end old mid new first (Unopened fault is cause none unwritten) =
      Unopened fault is cause none (unwritten_then old mid new first unwritten)
  ends_later end old mid new first (Opened ends) = Opened ends

  -- a volume that is opened once more
  pub opened_later : (end : LoadEnd) (a b c : List State) (old mid new : State) → Through a b mid (IsOpening old)
      → IsUnwritten old mid → LoadsOpened name text files rows end b mid c new
      → LoadsOpened name text files rows end a old c new
  opened_later end a b c old mid new first unwritten loads = record {
    moments = opening_then a b c old mid new first loads.moments;
    ends = ends_later end old mid new unwritten loads.ends;
  }

  unknown_later : (end : LoadEnd) (old mid new : State) → IsUnwritten old mid → IsUnknown rows end mid new
      → IsUnknown rows end old new
  unknown_later end old mid new first unknown = record {
    end_is = unknown.end_is;
    none = unknown.none;
    unwritten = unwritten_then old mid new first unknown.unwritten;
  }

  pub volume_later : (end : LoadEnd) (a b c : List State) (old mid new : State) → Through a b mid (IsOpening old)
      → IsUnwritten old mid → LoadsVolume name text files rows end b mid c new
      → LoadsVolume name text files rows end a old c new
  volume_later end a b c old mid new first unwritten loads = record {
    moments = opening_then a b c old mid new first loads.moments;
    ends = ⊎_elim (λ opened. inl (ends_later end old mid new unwritten opened))
        (λ unknown. inr (unknown.0, unknown_later end old mid new unwritten unknown.1)) loads.ends;
  }

  pub volume_of_opened : (end : LoadEnd) (a c : List State) (old new : State)
      → LoadsOpened name text files rows end a old c new → LoadsVolume name text files rows end a old c new
  volume_of_opened end a c old new loads = record { moments = loads.moments; ends = inl loads.ends }

  never_damaged : (fault : StoreFault) → IsReadCause fault → fault ≡ Damaged → ⊥
  never_damaged fault (inl is) e = cc
  never_damaged fault (inr is) e = cc

  never_ends : (end : LoadEnd) (old new : State) → EndsOpened name text files rows end old new → end ≡ Refused Damaged
      → ⊥
  never_ends end old new (Unopened fault is cause none unwritten) e = never_damaged fault cause cc
  never_ends end old new (Opened ends) e =
      let damaged : EndsLoad HoldsFiles name (lines_of text) files rows (Refused Damaged) new =
      subst (λ (x : LoadEnd). EndsLoad HoldsFiles name (lines_of text) files rows x new) e ends in
      damaged.why.1 refl

  -- no volume that holds files is damaged
  pub never_found_damaged : (end : LoadEnd) (a c : List State) (old new : State)
      → LoadsVolume name text files rows end a old c new → end ≡ Refused Damaged → ⊥
  never_found_damaged end a c old new loads e = ⊎_elim (λ opened. never_ends end old new opened e)
      (λ unknown.
      let clash : Refused Damaged ≡ UnknownName = sym e ∙ unknown.1.end_is in
      cc) loads.ends

-- the same name, in a volume that was opened
pub volume_as :
    (name name' text : List ℕ) (files : Files) (rows : ℕ) (end : LoadEnd) (a c : List State) (old new : State)
    → name ≡ name' → LoadsOpened name text files rows end a old c new
    → LoadsVolume name' text files rows end a old c new
volume_as name name' text files rows end a c old new same loads =
    subst (λ (n : List ℕ). LoadsVolume n text files rows end a old c new) same
    (volume_of_opened name text files rows end a c old new loads)

-- The files of a volume were read first, and it was synced.
pub volume_read : (name text : List ℕ) (own files : Files) (rows : ℕ) (end : LoadEnd) (a b c : List State)
    (old mid new : State) → own ≡ files → Through a b mid (IsOpening old) → mid ≡ state_after_sync old
    → HoldsFiles old.disk.present own
    → (HoldsFiles mid.disk.present own → LoadsVolume name text own rows end b mid c new)
    → LoadsVolume name text files rows end a old c new
volume_read name text own files rows end a b c old mid new same opening synced held loads =
    let present = same_present old mid (inr synced) in
    subst (λ (l : Files). LoadsVolume name text l rows end a old c new) same
    (volume_later name text own rows end a b c old mid new opening (inr synced)
    (loads (subst (λ (l : List Sector). HoldsFiles l own) (sym present) held)))
