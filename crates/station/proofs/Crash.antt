-- What a crash may leave, from one call to the next.
use Rattle.std.proofs.Common.{◌≡◌, ◌≢◌, ◌⊎◌, inl, inr, ⊎_elim, ◌<◌, ◌≤◌, ℕ, List, [], ◌∷◌, ◌++◌, length, set, refl, sym}
use Rattle.std.proofs.Common.{◌∙◌, ap, subst, arith, get_or-set_same, get_or-set_other, length-set}
use Rattle.std.specs.Prelude.{Result, Ok, Err, OnOk, OnErr}
use Rattle.std.proofs.lemmas.List.{ext_get_or}
use Rattle.std.proofs.lemmas.List.Elements.{Contains-push_cases}
use Rattle.std.proofs.lemmas.Bool.{cases_eq, cases_lt}
use Rattle.station.specs.Disk.{Disk, Sector, idle_disk, sector_at, IsCrashImage, OnlyWrote}
use Rattle.station.specs.State.{State, SameConsole, state_after_sync, MayHaveWritten, Nothing, Kept, Wrote}

-- nothing waits on a settled disk
pub settled_wrote : (base : List Sector) (Q : ℕ → Sector → Type 0) → OnlyWrote base Q (idle_disk base)
settled_wrote base Q = record { stable = refl; each = λ i bytes has. absurd (omega (arith, has.1)) }

module _ (base : List Sector) (Q : ℕ → Sector → Type 0) where
  pushed : (d : Disk) (i : ℕ) (b : Sector) (present : List Sector) → OnlyWrote base Q d → Q i b
      → OnlyWrote base Q (record { present = present; stable = d.stable; written = d.written ++ (i, b) ∷ [] })
  pushed d i b present only here = record {
    stable = only.stable;
    each = λ j c has. ⊎_elim (λ before. only.each j c before) (λ same. subst (λ (w : ℕ × Sector). Q w.0 w.1) same here)
        (Contains-push_cases d.written (i, b) (j, c) has);
  }

  -- one more write, which may have failed
  pub write_only : (old : State) (i : ℕ) (b : Sector) (new : State) → OnlyWrote base Q old.disk → Q i b
      → MayHaveWritten old i b new → OnlyWrote base Q new.disk
  write_only old i b new only here (Nothing same) = subst (λ (s : State). OnlyWrote base Q s.disk) (sym same) only
  write_only old i b new only here (Kept same) =
      subst (λ (s : State). OnlyWrote base Q s.disk) (sym same) (pushed old.disk i b old.disk.present only here)
  write_only old i b new only here (Wrote same) = subst (λ (s : State). OnlyWrote base Q s.disk) (sym same)
      (pushed old.disk i b (set old.disk.present i b) only here)

  -- each sector of what a crash leaves is the old one, or one of those writes
  pub image_count : (d : Disk) (image : List Sector) → OnlyWrote base Q d → IsCrashImage d image
      → length image ≡ length base
  image_count d image only crash = crash.count ∙ ap length only.stable

  pub image_each : (d : Disk) (image : List Sector) → OnlyWrote base Q d → IsCrashImage d image → (i : ℕ)
      → i < length image → (sector_at image i ≡ sector_at base i) ⊎ Q i (sector_at image i)
  image_each d image only crash i lt =
      ⊎_elim (λ old. inl (old ∙ ap (λ (l : List Sector). sector_at l i) only.stable))
      (λ has. inr (only.each i (sector_at image i) has)) (crash.each i lt)

-- a crash leaves a settled disk as it is
pub settled_image : (base image : List Sector) → IsCrashImage (idle_disk base) image → image ≡ base
settled_image base image crash = ext_get_or [] image base crash.count
    (λ i lt. ⊎_elim (λ old. old) (λ has. absurd (omega (arith, has.1))) (crash.each i lt))

-- the one write that waits is that of these bytes to this sector
abbrev pub IsWriteOf : ℕ → Sector → ℕ → Sector → Type 0
IsWriteOf root bytes i b = (i ≡ root) × (b ≡ bytes)

-- with one write that waits, a crash leaves all as it was, or with that sector written
pub one_image : (base : List Sector) (root : ℕ) (bytes : Sector) (d : Disk) (image : List Sector)
    → OnlyWrote base (IsWriteOf root bytes) d → IsCrashImage d image
    → (image ≡ base) ⊎ (image ≡ set base root bytes)
one_image base root bytes d image only crash =
    ⊎_elim (λ lt. ⊎_elim (λ old. inl (all_old old)) (λ new. inr (all_new lt new.1))
    (image_each base (IsWriteOf root bytes) d image only crash root lt))
    (λ past. inl (all_past past)) (cases_lt root (length image))
  where
    count : length image ≡ length base
    count = image_count base (IsWriteOf root bytes) d image only crash

    other : (i : ℕ) → i < length image → i ≢ root → sector_at image i ≡ sector_at base i
    other i lt ne =
        ⊎_elim (λ old. old) (λ new. absurd (ne new.0)) (image_each base (IsWriteOf root bytes) d image only crash i lt)

    all_old : sector_at image root ≡ sector_at base root → image ≡ base
    all_old old =
        ext_get_or [] image base count (λ i lt. ⊎_elim (λ same. rw same old) (λ ne. other i lt ne) (cases_eq i root))

    all_past : length image ≤ root → image ≡ base
    all_past past = ext_get_or [] image base count (λ i lt. other i lt (omega arith))

    all_new : root < length image → sector_at image root ≡ bytes → image ≡ set base root bytes
    all_new below new = ext_get_or [] image (set base root bytes) (count ∙ sym (length-set base root bytes))
        (λ i lt. ⊎_elim (λ same. rw same (new ∙ sym (get_or-set_same base root bytes [] (omega (arith, count)))))
        (λ ne. other i lt ne ∙ sym (get_or-set_other base root i bytes [] ne)) (cases_eq i root))

-- a write changes no event, failed or not
pub write_events : (old : State) (i : ℕ) (b : Sector) (new : State) → MayHaveWritten old i b new
    → new.events ≡ old.events
write_events old i b new (Nothing same) = ap (λ (s : State). s.events) same
write_events old i b new (Kept same) = ap (λ (s : State). s.events) same
write_events old i b new (Wrote same) = ap (λ (s : State). s.events) same

pub write_console : (old : State) (i : ℕ) (b : Sector) (new : State) → MayHaveWritten old i b new → SameConsole old new
write_console old i b new (Nothing same) =
    record { events = ap (λ (s : State). s.events) same; lines = ap (λ (s : State). s.lines) same }
write_console old i b new (Kept same) =
    record { events = ap (λ (s : State). s.events) same; lines = ap (λ (s : State). s.lines) same }
write_console old i b new (Wrote same) =
    record { events = ap (λ (s : State). s.events) same; lines = ap (λ (s : State). s.lines) same }

pub console_then : (a b c : State) → SameConsole a b → SameConsole b c → SameConsole a c
console_then a b c first second = record { events = second.events ∙ first.events; lines = second.lines ∙ first.lines }

pub sync_console : {T E : Type 0} (old new : State) (r : Result T E) → OnOk r (new ≡ state_after_sync old)
    → OnErr r (new ≡ old) → SameConsole old new
sync_console old new (Ok x) ok err =
    record { events = ap (λ (s : State). s.events) ok; lines = ap (λ (s : State). s.lines) ok }
sync_console old new (Err e) ok err =
    record { events = ap (λ (s : State). s.events) err; lines = ap (λ (s : State). s.lines) err }
