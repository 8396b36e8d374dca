-- What a write changes in each image, and what a crash leaves.
use Rattle.std.proofs.Common.{◌≡◌, ◌≢◌, ◌⊎◌, inl, inr, ⊎_elim, ◌<◌, ℕ, List, [], ◌∷◌, ◌++◌, length, set, refl, sym, ◌∙◌}
use Rattle.std.proofs.Common.{ap, subst, arith, length-set, get_or-set_same, get_or-set_other}
use Rattle.std.specs.List.{Contains}
use Rattle.std.proofs.lemmas.Bool.{cases_eq}
use Rattle.std.proofs.lemmas.List.Elements.{Contains-push_cases}
use Rattle.station.specs.Disk.{Sector, idle_disk, sector_at, IsCrashImage}
use Rattle.station.specs.State.{State, MayHaveWritten, Nothing, Kept, Wrote}
use Rattle.station.specs.Choice.{chosen_sectors, state_after_crash}
use Rattle.station.specs.Changes.{ChangesOnly}
use Rattle.station.proofs.Crash.{settled_image}

-- the settled sectors are possible
pub settled_possible : (base image : List Sector) → image ≡ base → IsCrashImage (idle_disk base) image
settled_possible base image same =
    subst (IsCrashImage (idle_disk base)) (sym same) (record { count = refl; each = λ i lt. inl refl })

-- a disk after a crash has the image alone that was left
pub crashed_image : (s : State) (choose : List ℕ) (image : List Sector)
    → IsCrashImage (state_after_crash s choose).disk image → image ≡ chosen_sectors s.disk choose
crashed_image s choose image crash = settled_image (chosen_sectors s.disk choose) image crash

write_stable : (old : State) (i : ℕ) (b : Sector) (new : State) → MayHaveWritten old i b new
    → new.disk.stable ≡ old.disk.stable
write_stable old i b new (Nothing same) = ap (λ (s : State). s.disk.stable) same
write_stable old i b new (Kept same) = ap (λ (s : State). s.disk.stable) same
write_stable old i b new (Wrote same) = ap (λ (s : State). s.disk.stable) same

pushed_other : (ws : List (ℕ × Sector)) (i : ℕ) (b : Sector) (j : ℕ) (v : Sector) → j ≢ i
    → Contains (ws ++ (i, b) ∷ []) (j, v) → Contains ws (j, v)
pushed_other ws i b j v ne has = ⊎_elim (λ before. before)
    (λ same. absurd (ne (sym (ap (λ (w : ℕ × Sector). w.0) same)))) (Contains-push_cases ws (i, b) (j, v) has)

write_other : (old : State) (i : ℕ) (b : Sector) (new : State) → MayHaveWritten old i b new → (j : ℕ) (v : Sector)
    → j ≢ i → Contains new.disk.written (j, v) → Contains old.disk.written (j, v)
write_other old i b new (Nothing same) j v ne has = subst (λ (s : State). Contains s.disk.written (j, v)) same has
write_other old i b new (Kept same) j v ne has =
    pushed_other old.disk.written i b j v ne (subst (λ (s : State). Contains s.disk.written (j, v)) same has)
write_other old i b new (Wrote same) j v ne has =
    pushed_other old.disk.written i b j v ne (subst (λ (s : State). Contains s.disk.written (j, v)) same has)

-- with that sector put back, the image was possible before the write
pub write_changes : (old : State) (i : ℕ) (b : Sector) (new : State) → MayHaveWritten old i b new
    → ChangesOnly i old new
write_changes old i b new may image crash =
    let stable : new.disk.stable ≡ old.disk.stable = write_stable old i b new may in
    let back : List Sector = set image i (sector_at old.disk.stable i) in
    let count : length back ≡ length image = length-set image i (sector_at old.disk.stable i) in (
      back,
      record {
        count = count ∙ crash.count ∙ ap length stable;
        each = λ j lt. ⊎_elim
            (λ same. let here : i < length image = omega arith in
            inl (subst (λ k. sector_at back k ≡ sector_at old.disk.stable k) (sym same)
            (get_or-set_same image i (sector_at old.disk.stable i) [] here)))
            (λ ne. let other : sector_at back j ≡ sector_at image j =
            get_or-set_other image i j (sector_at old.disk.stable i) [] ne in
            let within : j < length image = omega arith in
            subst (λ (v : Sector). (v ≡ sector_at old.disk.stable j) ⊎ Contains old.disk.written (j, v)) (sym other)
            (⊎_elim (λ is. inl (is ∙ ap (λ (l : List Sector). sector_at l j) stable))
            (λ has. inr (write_other old i b new may j (sector_at image j) ne has)) (crash.each j within)))
            (cases_eq j i);
      },
      record { count = sym count; each = λ j ne. sym (get_or-set_other image i j (sector_at old.disk.stable i) [] ne) },
    )
