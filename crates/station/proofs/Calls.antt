-- Calls on a device, one after the other.
use Rattle.std.proofs.Common.{◌≡◌, ◌↔◌, ◌⊎◌, inl, inr, ⊎_elim, ℕ, refl, ◌∙◌, ap, arith}
use Rattle.std.specs.Prelude.{Result, OnOk, OnErr, IsErr}
use Rattle.station.specs.Disk.{Sector}
use Rattle.station.specs.State.{State, state_after_sync, MayHaveWritten}
use Rattle.station.specs.Failures.{Blames, CountsFailure}
use Rattle.station.specs.Calls.{OnlyReads, OnlyWrites}
use Rattle.station.specs.declared.device.Device.{Ghosts as Devices}
use Rattle.station.proofs.Crash.{console_then, write_console, sync_console}

-- the failures of calls, of which one may be to blame
pub blames_one : (A B C : Type 0) (a b c : ℕ) → (C → A ⊎ B) → Blames A a b → Blames B b c → Blames C a c
blames_one A B C a b c which first second = record {
  no_fewer = omega (arith, first.no_fewer, second.no_fewer);
  failed = λ blamed. ⊎_elim
      (λ one. ⊎_elim (λ rose. inl (omega (arith, rose, second.no_fewer)))
      (λ most. inr (omega (arith, most, second.no_fewer))) (first.failed one))
      (λ two. ⊎_elim (λ rose. inl (omega (arith, rose, first.no_fewer))) (λ most. inr most) (second.failed two))
      (which blamed);
}

module _ {D : Type 0} (device : Devices D) where
  -- no call
  pub reads_nothing : (a : D) → OnlyReads device ⊥ a a
  reads_nothing a = record {
    honest = (λ h. h, λ h. h);
    sectors = refl;
    failures = record { no_fewer = omega arith; failed = λ never. absurd never };
    state = λ _. refl;
    history = λ _. refl;
  }

  pub writes_nothing : (a : D) → OnlyWrites device ⊥ a a
  writes_nothing a = record {
    honest = (λ h. h, λ h. h);
    sectors = refl;
    failures = record { no_fewer = omega arith; failed = λ never. absurd never };
    console = λ _. record { events = refl; lines = refl };
  }

  -- a write of a sector
  pub writes : (A : Type 0) (i : ℕ) (bytes : Sector) (a b : D) → (device.is_honest a ↔ device.is_honest b)
      → device.sectors b ≡ device.sectors a → Blames A (device.failures a) (device.failures b)
      → (device.is_honest a → MayHaveWritten (device.state a) i bytes (device.state b)) → OnlyWrites device A a b
  writes A i bytes a b honest sectors failures may = record {
    honest = honest;
    sectors = sectors;
    failures = failures;
    console = λ h. write_console (device.state a) i bytes (device.state b) (may h);
  }

  pub syncs : {T E : Type 0} (result : Result T E) (a b : D) → (device.is_honest a ↔ device.is_honest b)
      → device.sectors b ≡ device.sectors a → CountsFailure result (device.failures a) (device.failures b)
      → (device.is_honest a → OnOk result (device.state b ≡ state_after_sync (device.state a)))
      → (device.is_honest a → OnErr result (device.state b ≡ device.state a)) → OnlyWrites device (IsErr result) a b
  syncs result a b honest sectors failures ok err = record {
    honest = honest;
    sectors = sectors;
    failures = failures;
    console = λ h. sync_console (device.state a) (device.state b) result (ok h) (err h);
  }

  -- a call that only reads writes nothing
  pub reads_writes : (A : Type 0) (a b : D) → OnlyReads device A a b → OnlyWrites device A a b
  reads_writes A a b reads = record {
    honest = reads.honest;
    sectors = reads.sectors;
    failures = reads.failures;
    console = λ h. record {
      events = ap (λ (s : State). s.events) (reads.state h);
      lines = ap (λ (s : State). s.lines) (reads.state h);
    };
  }

  -- to blame where another fact says so
  pub blamed_where : (A B : Type 0) (a b : D) → (B → A) → OnlyWrites device A a b → OnlyWrites device B a b
  blamed_where A B a b from only = record {
    honest = only.honest;
    sectors = only.sectors;
    failures = record { no_fewer = only.failures.no_fewer; failed = λ blamed. only.failures.failed (from blamed) };
    console = only.console;
  }

  -- two calls, of which one may be to blame
  pub reads_then : (A B C : Type 0) (a b c : D) → (C → A ⊎ B) → OnlyReads device A a b → OnlyReads device B b c
      → OnlyReads device C a c
  reads_then A B C a b c which first second = record {
    honest = (λ h. second.honest.0 (first.honest.0 h), λ h. first.honest.1 (second.honest.1 h));
    sectors = second.sectors ∙ first.sectors;
    failures = blames_one A B C (device.failures a) (device.failures b) (device.failures c) which first.failures
        second.failures;
    state = λ h. second.state (first.honest.0 h) ∙ first.state h;
    history = λ h. second.history (first.honest.0 h) ∙ first.history h;
  }

  pub writes_then : (A B C : Type 0) (a b c : D) → (C → A ⊎ B) → OnlyWrites device A a b → OnlyWrites device B b c
      → OnlyWrites device C a c
  writes_then A B C a b c which first second = record {
    honest = (λ h. second.honest.0 (first.honest.0 h), λ h. first.honest.1 (second.honest.1 h));
    sectors = second.sectors ∙ first.sectors;
    failures = blames_one A B C (device.failures a) (device.failures b) (device.failures c) which first.failures
        second.failures;
    console = λ h. console_then (device.state a) (device.state b) (device.state c) (first.console h)
        (second.console (first.honest.0 h));
  }
