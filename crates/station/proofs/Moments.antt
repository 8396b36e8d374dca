-- The moments of writes that a sync follows.
use Rattle.std.proofs.Common.{◌≡◌, ℕ, List, sym, ◌∙◌, ap, subst}
use Rattle.std.specs.Prelude.{Result, OnOk, OnErr}
use Rattle.station.specs.Disk.{Sector, IsSettled}
use Rattle.station.specs.State.{State, MayHaveWritten, wrote, state_after_sync}
use Rattle.station.specs.History.{Moves, Through}
use Rattle.station.specs.declared.blocks.Block.{Block}
use Rattle.station.specs.Blocks.{SameOutside, WithOrWithout, OldOrNew, IsWriting, CrashLeaves, wrote_all, with_all}
use Rattle.station.proofs.Spans.{moved, moves_on, goes, weakens, either}
use Rattle.station.proofs.Crash.{write_events}
use Rattle.station.proofs.TwoPhase.{same_outside, synced_same_outside, synced_disk, wrote_events, early, late}
use Rattle.station.proofs.TwoPhase.{one_begins, one_saved}

-- a sync after other calls: if it fails, the state is as before
sync_moments : {T E : Type 0} (r : Result T E) (a b c : List State) (mid new : State) (P : State → Type 0)
    → OnOk r (new ≡ state_after_sync mid) → OnErr r (new ≡ mid) → Moves b mid c new → Through a b mid P
    → (new ≡ state_after_sync mid → P new) → Through a c new P
sync_moments r a b c mid new P synced unsynced moves first at_ok =
    moves_on a b c mid new P first moves
    (either r (P new) synced unsynced at_ok (λ same. subst P (sym same) first.now))

-- a write of one sector over settled sectors
pub write_moments : (a b : List State) (old mid : State) (root : ℕ) (bytes : Sector) → IsSettled old.disk
    → MayHaveWritten old root bytes mid → Moves a old b mid
    → Through a b mid (CrashLeaves old.events (WithOrWithout old.disk.present root bytes))
write_moments a b old mid root bytes disk may moves =
    let there = one_begins old root bytes mid disk may in
    record {
      spans = moved a old b mid (CrashLeaves old.events (WithOrWithout old.disk.present root bytes)) moves there;
      now = there;
    }

-- a write of one sector, and a sync
pub write_sync_moments : {T E : Type 0} (r : Result T E) (a b c : List State) (old mid new : State) (root : ℕ)
    (bytes : Sector) → OnOk r (new ≡ state_after_sync mid) → OnErr r (new ≡ mid) → Moves b mid c new
    → IsSettled old.disk → MayHaveWritten old root bytes mid → Moves a old b mid → mid ≡ wrote old root bytes
    → Through a c new (CrashLeaves old.events (WithOrWithout old.disk.present root bytes))
write_sync_moments r a b c old mid new root bytes synced unsynced moves disk may first is =
    sync_moments r a b c mid new (CrashLeaves old.events (WithOrWithout old.disk.present root bytes)) synced unsynced
    moves (write_moments a b old mid root bytes disk may first)
    (λ saved. one_saved old.events old.disk.present root bytes new
    (ap (λ (s : State). s.events) saved ∙ write_events old root bytes mid may)
    (ap (λ (s : State). s.disk) saved ∙ ap (λ (s : State). (state_after_sync s).disk) is))

-- writes of blocks, and a sync
pub blocks_sync_moments : {T E : Type 0} (r : Result T E) (a b c : List State) (old mid new : State)
    (blocks : List Block) → OnOk r (new ≡ state_after_sync mid) → OnErr r (new ≡ mid) → Moves b mid c new
    → Through a b mid (IsWriting old.events old.disk.present blocks) → mid ≡ wrote_all old blocks
    → Through a c new (CrashLeaves old.events (SameOutside old.disk.present blocks))
blocks_sync_moments r a b c old mid new blocks synced unsynced moves first is =
    sync_moments r a b c mid new (CrashLeaves old.events (SameOutside old.disk.present blocks)) synced unsynced moves
    (weakens a b mid (IsWriting old.events old.disk.present blocks) _
    (same_outside old.events old.disk.present blocks) first)
    (λ saved. synced_same_outside old.events old.disk.present blocks new
    (ap (λ (s : State). s.events) saved ∙ wrote_events old mid blocks is)
    (synced_disk old mid new blocks is (ap (λ (s : State). s.disk) saved)))

-- blocks that are durable, and then the root
pub two_phase_moments : (a b c : List State) (old mid new : State) (blocks : List Block) (root : ℕ) (bytes : Sector)
    → mid.events ≡ old.events → mid.disk.present ≡ with_all old.disk.present blocks
    → Through a b mid (CrashLeaves old.events (SameOutside old.disk.present blocks))
    → Through b c new (CrashLeaves mid.events (WithOrWithout mid.disk.present root bytes))
    → Through a c new (CrashLeaves old.events (OldOrNew old.disk.present blocks root bytes))
two_phase_moments a b c old mid new blocks root bytes events present first second =
    let base = old.disk.present in
    let P = CrashLeaves old.events (OldOrNew base blocks root bytes) in
    goes a b c mid new P
    (weakens a b mid (CrashLeaves old.events (SameOutside base blocks)) P (early old.events base blocks root bytes)
    first)
    (weakens b c new (CrashLeaves mid.events (WithOrWithout mid.disk.present root bytes)) P
    (late old.events mid.events base mid.disk.present blocks root bytes events present) second)
