-- A volume that is opened again, after a call that synced it or did nothing.
use Rattle.std.proofs.Common.{◌≡◌, ◌⊎◌, ◌↔◌, inl, inr, List, sym, ap, subst, ◌∙◌}
use Rattle.station.specs.Calls.{OnlyReads, OnlyWrites}
use Rattle.station.specs.Failures.{Blames}
use Rattle.station.specs.State.{State, SameConsole, state_after_sync}
use Rattle.station.specs.History.{Through}
use Rattle.station.specs.Opening.{IsOpening}
use Rattle.station.specs.declared.device.Device.{Ghosts as Devices}
use Rattle.station.proofs.Calls.{reads_writes, writes_then}
use Rattle.station.proofs.Spans.{goes, weakens}

opening_then : (old mid new : State) → IsOpening old mid → IsOpening mid new → IsOpening old new
opening_then old mid new first second = record {
  events = second.events ∙ first.events;
  images = λ image crash. first.images image (second.images image crash);
}

-- whatever a crash leaves at a moment of the second call was possible before the first one
pub opens_again : (a b c : List State) (old mid new : State) → Through a b mid (IsOpening old)
    → Through b c new (IsOpening mid) → Through a c new (IsOpening old)
opens_again a b c old mid new first second = goes a b c mid new (IsOpening old) first
    (weakens b c new (IsOpening mid) (IsOpening old) (λ state from. opening_then old mid state first.now from) second)

pub same_present : (old mid : State) → (mid ≡ old) ⊎ (mid ≡ state_after_sync old) → mid.disk.present ≡ old.disk.present
same_present old mid (inl same) = ap (λ (s : State). s.disk.present) same
same_present old mid (inr same) = ap (λ (s : State). s.disk.present) same

-- a device that is synced, and then read
module _ {D : Type 0} (d : Devices D) where
  pub synced_then_read : (A B : Type 0) (old mid new : D) → (d.is_honest old ↔ d.is_honest mid)
      → d.sectors mid ≡ d.sectors old → Blames A (d.failures old) (d.failures mid)
      → (d.is_honest old → d.state mid ≡ state_after_sync (d.state old)) → OnlyReads d B mid new
      → OnlyWrites d B old new
  synced_then_read A B old mid new honest sectors failures synced reads = writes_then d A B B old mid new (λ e. inr e)
      (record {
        honest = honest;
        sectors = sectors;
        failures = failures;
        console = λ h. record {
          events = ap (λ (s : State). s.events) (synced h);
          lines = ap (λ (s : State). s.lines) (synced h);
        };
      })
      (reads_writes d B mid new reads)

  -- it is as it was when it was synced
  pub still_synced : (B : Type 0) (old mid new : D) → (d.is_honest old ↔ d.is_honest mid)
      → (d.is_honest old → d.state mid ≡ state_after_sync (d.state old)) → OnlyReads d B mid new → d.is_honest old
      → d.state new ≡ state_after_sync (d.state old)
  still_synced B old mid new honest synced reads h = reads.state (honest.0 h) ∙ synced h

  pub still_opening : (B : Type 0) (old mid new : D) → (d.is_honest old ↔ d.is_honest mid)
      → (d.is_honest old → Through (d.history old) (d.history mid) (d.state mid) (IsOpening (d.state old)))
      → OnlyReads d B mid new → d.is_honest old
      → Through (d.history old) (d.history new) (d.state new) (IsOpening (d.state old))
  still_opening B old mid new honest moments reads h =
      subst (λ (s : State). Through (d.history old) (d.history new) s (IsOpening (d.state old)))
      (sym (reads.state (honest.0 h)))
      (subst (λ (l : List State). Through (d.history old) l (d.state mid) (IsOpening (d.state old)))
      (sym (reads.history (honest.0 h))) (moments h))

-- a device that was synced, or not
console_stays : (old new : State) → (new ≡ old) ⊎ (new ≡ state_after_sync old) → SameConsole old new
console_stays old new (inl same) =
    record { events = ap (λ (s : State). s.events) same; lines = ap (λ (s : State). s.lines) same }
console_stays old new (inr synced) =
    record { events = ap (λ (s : State). s.events) synced; lines = ap (λ (s : State). s.lines) synced }

pub synced_at_most : {D : Type 0} (d : Devices D) (A B : Type 0) (old new : D) → (d.is_honest old ↔ d.is_honest new)
    → d.sectors new ≡ d.sectors old → Blames A (d.failures old) (d.failures new) → (B → A)
    → (d.is_honest old → (d.state new ≡ d.state old) ⊎ (d.state new ≡ state_after_sync (d.state old)))
    → OnlyWrites d B old new
synced_at_most d A B old new honest sectors failures from unwritten = record {
  honest = honest;
  sectors = sectors;
  failures = record { no_fewer = failures.no_fewer; failed = λ blamed. failures.failed (from blamed) };
  console = λ h. console_stays (d.state old) (d.state new) (unwritten h);
}
