-- What calls on a device keep that is made a volume.
use Rattle.std.proofs.Common.{◌⊎◌, refl, ◌∙◌, arith}
use Rattle.std.specs.Prelude.{◌≡◌, ◌↔◌}
use Rattle.station.specs.Calls.{OnlyWrites}
use Rattle.station.specs.Failures.{Blames}
use Rattle.station.specs.declared.device.Device.{Ghosts as Devices}
use Rattle.station.proofs.Calls.{blames_one}
use Rattle.volume_copies.specs.Copied.{KeepsDevice}

module _ {D : Type 0} (d : Devices D) where
  pub keeps_nothing : (A : Type 0) (a : D) → (A → ⊥) → KeepsDevice d A a a
  keeps_nothing A a never = record {
    honest = (λ h. h, λ h. h);
    sectors = refl;
    failures = record { no_fewer = omega arith; failed = λ blamed. absurd (never blamed) };
  }

  -- a call that succeeded
  pub keeps_done : (A : Type 0) (a b : D) → (d.is_honest a ↔ d.is_honest b) → d.sectors b ≡ d.sectors a
      → Blames A (d.failures a) (d.failures b) → KeepsDevice d ⊥ a b
  keeps_done A a b honest sectors failures = record {
    honest = honest;
    sectors = sectors;
    failures = record { no_fewer = failures.no_fewer; failed = λ never. absurd never };
  }

  pub writes_keep : (A B : Type 0) (a b : D) → (B → A) → OnlyWrites d A a b → KeepsDevice d B a b
  writes_keep A B a b from only = record {
    honest = only.honest;
    sectors = only.sectors;
    failures = record { no_fewer = only.failures.no_fewer; failed = λ blamed. only.failures.failed (from blamed) };
  }

  pub keeps_where : (A B : Type 0) (a b : D) → (B → A) → KeepsDevice d A a b → KeepsDevice d B a b
  keeps_where A B a b from keeps = record {
    honest = keeps.honest;
    sectors = keeps.sectors;
    failures = record { no_fewer = keeps.failures.no_fewer; failed = λ blamed. keeps.failures.failed (from blamed) };
  }

  -- a call after others, of which none failed
  pub keeps_then : (A B C : Type 0) (a b c : D) → (C → A ⊎ B) → KeepsDevice d A a b → KeepsDevice d B b c
      → KeepsDevice d C a c
  keeps_then A B C a b c which first second = record {
    honest = (λ h. second.honest.0 (first.honest.0 h), λ h. first.honest.1 (second.honest.1 h));
    sectors = second.sectors ∙ first.sectors;
    failures = blames_one A B C (d.failures a) (d.failures b) (d.failures c) which first.failures second.failures;
  }
