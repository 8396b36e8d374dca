-- What calls do to a device whose sector 0 is inverted.
use Rattle.std.proofs.Common.{◌≡◌, ◌+◌, ◌≤◌, ◌-◌, ◌^◌, ℕ, zero, suc, Bool, true, false, List, [], ◌∷◌, ◌++◌, map, set}
use Rattle.std.proofs.Common.{refl}
use Rattle.std.proofs.Common.{◌∙◌, ap, ap₂, inl, inr, ⊎_elim, arith}
use Rattle.std.proofs.Common.{◌≢◌}
use Rattle.std.specs.Prelude.{Result, Ok, Err, OnOk}
use Rattle.std.proofs.lemmas.List.{map-append}
use Rattle.station.specs.Disk.{Sector}
use Rattle.station.specs.Failures.{Blames}
use Rattle.unfinished_volume.specs.Refusals.{refusals}
use Rattle.station.specs.State.{State, wrote, state_after_failed_write, MayHaveWritten, Nothing, Kept, Wrote}
use Rattle.station.specs.History.{Moves, Stays, Goes}
use Rattle.unfinished_volume.specs.Inverted.{inverted_sector, stored_for, inverted_image, inverted_write}
use Rattle.unfinished_volume.specs.Inverted.{inverted_state}

-- a sector is stored as these bytes
pub inverted_set : (image : List Sector) (i : ℕ) (stored bytes : Sector) → stored_for i stored ≡ bytes
    → inverted_image (set image i stored) ≡ set (inverted_image image) i bytes
inverted_set [] i stored bytes same = refl
inverted_set (x ∷ xs) zero stored bytes same = ap (λ (b : Sector). b ∷ xs) same
inverted_set (x ∷ xs) (suc i) stored bytes same =
    ap (λ (b : Sector). inverted_sector x ∷ set xs i b) same

inverted_written : (written : List (ℕ × Sector)) (i : ℕ) (stored bytes : Sector) → stored_for i stored ≡ bytes
    → map inverted_write (written ++ (i, stored) ∷ []) ≡ map inverted_write written ++ (i, bytes) ∷ []
inverted_written written i stored bytes same = map-append inverted_write written ((i, stored) ∷ [])
    ∙ ap (λ (b : Sector). map inverted_write written ++ (i, b) ∷ []) same

pub inverted_wrote : (state : State) (i : ℕ) (stored bytes : Sector) → stored_for i stored ≡ bytes
    → inverted_state (wrote state i stored) ≡ wrote (inverted_state state) i bytes
inverted_wrote state i stored bytes same =
    ap₂ (λ (present : List Sector) (written : List (ℕ × Sector)). record state {
      disk = record { present = present; stable = inverted_image state.disk.stable; written = written };
    }) (inverted_set state.disk.present i stored bytes same) (inverted_written state.disk.written i stored bytes same)

inverted_failed : (state : State) (i : ℕ) (stored bytes : Sector) → stored_for i stored ≡ bytes
    → inverted_state (state_after_failed_write state i stored)
    ≡ state_after_failed_write (inverted_state state) i bytes
inverted_failed state i stored bytes same =
    ap (λ (written : List (ℕ × Sector)). record state {
      disk = record {
        present = inverted_image state.disk.present;
        stable = inverted_image state.disk.stable;
        written = written;
      };
    }) (inverted_written state.disk.written i stored bytes same)

pub inverted_may : (old : State) (i : ℕ) (stored bytes : Sector) (new : State) → stored_for i stored ≡ bytes
    → MayHaveWritten old i stored new → MayHaveWritten (inverted_state old) i bytes (inverted_state new)
inverted_may old i stored bytes new same (Nothing is) = Nothing (ap inverted_state is)
inverted_may old i stored bytes new same (Kept is) =
    Kept (ap inverted_state is ∙ inverted_failed old i stored bytes same)
inverted_may old i stored bytes new same (Wrote is) =
    Wrote (ap inverted_state is ∙ inverted_wrote old i stored bytes same)

pub inverted_moves : (past : List State) (old : State) (later : List State) (new : State) → Moves past old later new
    → Moves (map inverted_state past) (inverted_state old) (map inverted_state later) (inverted_state new)
inverted_moves past old later new (Stays history state) =
    Stays (ap (map inverted_state) history) (ap inverted_state state)
inverted_moves past old later new (Goes history) =
    Goes (ap (map inverted_state) history ∙ map-append inverted_state past (new ∷ []))

pub on_ok : {T E A B : Type 0} (r : Result T E) → (A → B) → OnOk r A → OnOk r B
on_ok (Ok x) from here = from here
on_ok (Err e) from here = tt

-- every other sector is stored as it is
pub stored_other : (i : ℕ) (bytes : Sector) → i ≢ 0 → stored_for i bytes ≡ bytes
stored_other zero bytes ne = absurd (ne refl)
stored_other (suc i) bytes ne = refl

-- failures that are counted with the refused writes
pub with_refusals : (A : Type 0) (old new : ℕ) (refused : Bool) → Blames A old new
    → Blames A (old + refusals refused) (new + refusals refused)
with_refusals A old new refused blames = record {
  no_fewer = let fewer = blames.no_fewer in omega (arith, fewer);
  failed =
      λ blamed. ⊎_elim (λ rose. inl (omega (arith, rose))) (λ most. inr (omega (arith, most))) (blames.failed blamed);
}

few_refusals : (refused : Bool) → refusals refused ≤ 2 ^ 64 - 1
few_refusals true = omega arith
few_refusals false = omega arith

pub once_refused : (A : Type 0) (count : ℕ) (refused : Bool)
    → Blames A (count + refusals refused) (count + refusals true)
once_refused A count refused = record {
  no_fewer = let few = few_refusals refused in omega (arith, few);
  failed = λ blamed. inr (omega arith);
}
