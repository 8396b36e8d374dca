-- The state of a volume, from what its calls answer.
use Rattle.std.proofs.Common.{◌≡◌, ◌⊎◌, ℕ, List, Result, Ok, Err, inl, inr, ⊎_elim, sym, ap, subst, ◌∙◌}
use Rattle.std.specs.Prelude.{◌↔◌, IfOk, IfErr}
use Rattle.station.specs.Calls.{OnlyReads, OnlyWrites}
use Rattle.station.specs.Disk.{Sector}
use Rattle.station.specs.History.{Through}
use Rattle.station.specs.Opening.{IsOpening}
use Rattle.station.specs.State.{State, state_after_sync, SameConsole}
use Rattle.station.specs.Failures.{Blames}
use Rattle.station.specs.declared.device.Device.{Ghosts as Devices}
use Rattle.station.proofs.Calls.{reads_writes, writes_then}
use Rattle.file_recovery.proofs.Reopened.{opens_again}
use Rattle.roots.specs.declared.root.Root.{Root}
use Rattle.records.specs.declared.fault.StoreFault.{StoreFault}
use Rattle.records.specs.declared.fault.StoreFault.TheVariants as store
use Rattle.pages.specs.Layout.{known_families as page_families}
use Rattle.pages.specs.Image.{Volume, Reads}
use Rattle.pages.specs.Use.{free_count}
use Rattle.volume_commands.specs.declared.volume_state.Layout.{Layout}
use Rattle.volume_commands.specs.declared.volume_state.Layout.TheVariants.{Trees}
use Rattle.volume_commands.specs.declared.volume_state.VolumeState.{VolumeState}
use Rattle.volume_commands.specs.State.{IsStateOf, IsStateAs, HasRoot}
use Rattle.volume_commands.specs.declared.volume_error.VolumeError.{VolumeError}
use Rattle.volume_commands.specs.declared.volume_error.VolumeError.TheVariants.{Device, Output, Damaged, Memory}
use Rattle.volume_commands.specs.Faults.{error_of, IsReadFailure, IsReadError}
use Rattle.volume_commands.specs.Calls.{ReadsVolume, IsVolumeRefusal}
use Rattle.volume_commands.proofs.Beginnings.{on_ok}
use Rattle.volume_commands.proofs.Reading.{refused, failed_device}

ok_so : {T E : Type 0} {P Q : T → Type 0} (result : Result T E) → ((x : T) → P x → Q x) → IfOk result P
    → IfOk result Q
ok_so (Ok x) so p = so x p
ok_so (Err e) so p = tt

trees_state : (image : List Sector) (state : VolumeState) (v : Volume) → Reads image v
    → (state.layout ≡ Trees) × (state.free ≡ free_count v) × ((root : Root) × HasRoot page_families image state root)
    → IsStateOf image state
trees_state image state v reads (layout, free, root) =
    subst (λ (l : Layout). IsStateAs l image state) (sym layout)
    (record { root = root.0; has = root.1; volume = v; reads = reads; free = free })

-- of a volume whose sectors were read again
pub trees_states : (image present : List Sector) (r : Result VolumeState VolumeError) (v : Volume) (free : ℕ)
    → present ≡ image → Reads present v → free ≡ free_count v
    → IfOk r (λ state. (state.layout ≡ Trees) × (state.free ≡ free)
    × ((root : Root) × HasRoot page_families present state root)) → IfOk r (IsStateOf image)
trees_states image present r v free same reads count = ok_so r (λ state is. trees_state image state v
    (subst (λ (l : List Sector). Reads l v) same reads) (
      is.0,
      is.1 ∙ count,
      (is.2.0, subst (λ (l : List Sector). HasRoot page_families l state is.2.0) same is.2.1),
    ))

pub same_console : (old new : State) → (new ≡ old) ⊎ (new ≡ state_after_sync old) → SameConsole old new
same_console old new same = ⊎_elim
    (λ e. record { events = ap (λ (s : State). s.events) e; lines = ap (λ (s : State). s.lines) e })
    (λ e. record { events = ap (λ (s : State). s.events) e; lines = ap (λ (s : State). s.lines) e }) same

-- no refusal of recovery is the writer's
pub read_error : (fault : StoreFault) → IsReadError (error_of fault)
read_error store.Device = tt
read_error store.Full = tt
read_error store.Damaged = tt
read_error store.Memory = tt
read_error store.Spent = tt
read_error store.Layout = tt
read_error store.Old = tt

-- a read that is refused for its cause
pub read_cause : (fault : StoreFault) → (fault ≡ store.Device) ⊎ (fault ≡ store.Memory) → IsReadFailure (error_of fault)
read_cause fault (inl same) = subst (λ (f : StoreFault). IsReadFailure (error_of f)) (sym same) tt
read_cause fault (inr same) = subst (λ (f : StoreFault). IsReadFailure (error_of f)) (sym same) tt

abbrev answered : (T : Type 0) → T → Result T VolumeError
answered T x = Ok x

-- the device and memory say nothing of an image
says_nothing : {T : Type 0} (image : List Sector) (r : Result T VolumeError) → IfErr r IsReadFailure
    → IfErr r (IsVolumeRefusal image)
says_nothing image (Ok x) cause = tt
says_nothing image (Err Device) cause = tt
says_nothing image (Err Output) cause = absurd cause
says_nothing image (Err Damaged) cause = absurd cause
says_nothing image (Err Memory) cause = tt

module _ {D : Type 0} (d : Devices D) where
  -- a volume that isn't opened
  pub only_refused : (A B : Type 0) (fault : StoreFault) (error : VolumeError) (old new : D) → error ≡ error_of fault
      → (d.is_honest old ↔ d.is_honest new) → d.sectors new ≡ d.sectors old
      → Blames (refused A StoreFault fault ≡ refused A StoreFault store.Device) (d.failures old) (d.failures new)
      → (d.is_honest old → (d.state new ≡ d.state old) ⊎ (d.state new ≡ state_after_sync (d.state old)))
      → OnlyWrites d (refused B VolumeError error ≡ refused B VolumeError Device) old new
  only_refused A B fault error old new is honest sectors failures unwritten = record {
    honest = honest;
    sectors = sectors;
    failures = record {
      no_fewer = failures.no_fewer;
      failed = λ e. failures.failed (failed_device A B fault (sym (ap (refused B VolumeError) is) ∙ e));
    };
    console = λ h. same_console (d.state old) (d.state new) (unwritten h);
  }

  -- a volume that is opened, and then read
  pub only_opened : (A B : Type 0) (old mid new : D) → (d.is_honest old ↔ d.is_honest mid)
      → d.sectors mid ≡ d.sectors old → Blames A (d.failures old) (d.failures mid)
      → (d.is_honest old → d.state mid ≡ state_after_sync (d.state old)) → OnlyReads d B mid new
      → OnlyWrites d B old new
  only_opened A B old mid new honest sectors failures synced reads = writes_then d A B B old mid new (λ e. inr e)
      (record {
        honest = honest;
        sectors = sectors;
        failures = failures;
        console = λ h. same_console (d.state old) (d.state mid) (inr (synced h));
      })
      (reads_writes d B mid new reads)

  -- the state of a volume that was read before
  pub state_reads :
      (A T : Type 0) (x : A) (r : Result T VolumeError) (r' : Result VolumeState VolumeError) (old mid new : D)
      → ReadsVolume d (answered A x) old mid
      → (r ≡ refused T VolumeError Device → r' ≡ refused VolumeState VolumeError Device)
      → OnlyWrites d (r' ≡ refused VolumeState VolumeError Device) mid new
      → (d.is_honest mid → Through (d.history mid) (d.history new) (d.state new) (IsOpening (d.state mid)))
      → (d.is_honest mid → (d.state new ≡ d.state mid) ⊎ (d.state new ≡ state_after_sync (d.state mid)))
      → (d.is_honest old → IfErr r IsReadFailure) → ReadsVolume d r old new
  state_reads A T x r r' old mid new reads which only moments unwritten cause =
      let synced : d.is_honest old → d.state new ≡ state_after_sync (d.state old) = λ h.
      ⊎_elim (λ e. e ∙ reads.state h) (λ e. e ∙ ap state_after_sync (reads.state h))
      (unwritten (reads.only.honest.0 h)) in
      record {
        only = writes_then d _ _ _ old mid new (λ e. inr (which e)) reads.only only;
        moments =
            λ h. opens_again (d.history old) (d.history mid) (d.history new) (d.state old) (d.state mid) (d.state new)
            (reads.moments h) (moments (reads.only.honest.0 h));
        state = λ h. on_ok r _ (synced h);
        unwritten = λ h. inr (synced h);
        refused = λ h. says_nothing (d.state old).disk.present r (cause h);
        opens = λ h files holds e. subst (λ (q : Result T VolumeError). IfErr q IsReadFailure) e (cause h);
      }
