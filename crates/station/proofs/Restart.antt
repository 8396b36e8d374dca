-- After a crash: the image may be left, and what was shown and read stays.
use Rattle.std.proofs.Common.{◌≡◌, ◌⊎◌, inl, inr, ⊎_elim, ℕ, zero, suc, ◌+◌, ◌<◌, List, [], ◌∷◌, length, get_or, cond}
use Rattle.std.proofs.Common.{Vec, refl, sym, ◌∙◌, ap, subst, arith}
use Rattle.std.specs.declared.alloc.Global.{Global}
use Rattle.std.specs.List.{filter, Contains}
use Rattle.std.proofs.lemmas.List.Elements.{Contains-append_left, Contains-append_right, Contains-append_cases}
use Rattle.std.proofs.lemmas.Bool.Decides.{eqb_tells}
use Rattle.station.specs.Disk.{Disk, Sector, idle_disk, sector_at, IsCrashImage}
use Rattle.station.specs.State.{State}
use Rattle.station.specs.Choice.{values, pick, used_after, chosen_from, chosen_sectors, state_after_crash}
use Rattle.station.specs.Replay.{state_after_calls, next, is_of_console, made_of}
use Rattle.station.specs.declared.call.Call.{Call}
use Rattle.station.specs.declared.call.Call.TheVariants.{Show, Hear, Take, Write, Keep, Sync}

-- the calls that changed no sector, over another disk
pub console_replay : (s : State) (d : Disk) (calls : List Call) → state_after_calls (record s { disk = d })
    (filter is_of_console calls) ≡ record (state_after_calls s calls) { disk = d }
console_replay s d [] = refl
console_replay s d (Show bytes ∷ calls) = console_replay (next s (Show bytes)) d calls
console_replay s d (Hear note ∷ calls) = console_replay (next s (Hear note)) d calls
console_replay s d (Take ∷ calls) = console_replay (next s Take) d calls
console_replay s d (Write i b ∷ calls) = console_replay (next s (Write i b)) d calls
console_replay s d (Keep i b ∷ calls) = console_replay (next s (Keep i b)) d calls
console_replay s d (Sync ∷ calls) = console_replay (next s Sync) d calls

pick_cases : (old : Sector) (vs : List Sector) (k : ℕ) → (pick old vs k ≡ old) ⊎ Contains vs (pick old vs k)
pick_cases old [] k = inl refl
pick_cases old (v ∷ vs) zero = inl refl
pick_cases old (v ∷ vs) (suc k) = inr (⊎_elim (λ first. (zero, omega arith, sym first))
    (λ later. Contains-append_right (v ∷ []) vs (pick v vs k) later) (pick_cases v vs k))

only_one : (x y : Sector) → Contains (x ∷ []) y → x ≡ y
only_one x y (zero, lt, is) = is
only_one x y (suc k, lt, is) = absurd (omega arith)

values_from : (ws : List (ℕ × Sector)) (i : ℕ) (v : Sector) → Contains (values ws i) v → Contains ws (i, v)
values_from [] i v has = absurd (omega (arith, has.1))
values_from (w ∷ ws) i v has = ⊎_elim
    (λ at. let has' : Contains (w.1 ∷ values ws i) v =
    subst (λ test. Contains (cond test (w.1 ∷ values ws i) (values ws i)) v) at.0 has in
    ⊎_elim (λ first. let here : w ≡ (i, v) = ap (λ n. (n, w.1)) at.1 ∙ ap (λ (b : Sector). (i, b))
    (only_one w.1 v first) in Contains-append_left (w ∷ []) ws (i, v) (zero, omega arith, here))
    (λ later. Contains-append_right (w ∷ []) ws (i, v) (values_from ws i v later))
    (Contains-append_cases (w.1 ∷ []) (values ws i) v has'))
    (λ other. Contains-append_right (w ∷ []) ws (i, v)
    (values_from ws i v (subst (λ test. Contains (cond test (w.1 ∷ values ws i) (values ws i)) v) other.0 has)))
    (eqb_tells w.0 i)

module _ (ws : List (ℕ × Sector)) (choose : List ℕ) where
  chosen_count : (j used : ℕ) (ss : List Sector) → length (chosen_from ws choose j used ss) ≡ length ss
  chosen_count j used [] = refl
  chosen_count j used (s ∷ ss) = ap suc (chosen_count (j + 1) (used_after (values ws j) used) ss)

  chosen_at : (j used : ℕ) (ss : List Sector) (i : ℕ) → i < length ss
      → (k : ℕ) × (sector_at (chosen_from ws choose j used ss) i ≡ pick (sector_at ss i) (values ws (j + i)) k)
  chosen_at j used [] i lt = absurd (omega arith)
  chosen_at j used (s ∷ ss) zero lt =
      (get_or choose used 0, ap (λ n. pick s (values ws n) (get_or choose used 0)) (omega arith))
  chosen_at j used (s ∷ ss) (suc i) lt =
      let more = chosen_at (j + 1) (used_after (values ws j) used) ss i (omega arith) in
      let place : j + 1 + i ≡ j + suc i = omega arith in
      (more.0, more.1 ∙ ap (λ n. pick (sector_at ss i) (values ws n) more.0) place)

-- a crash may leave it
pub chosen_image : (d : Disk) (choose : List ℕ) → IsCrashImage d (chosen_sectors d choose)
chosen_image d choose = record {
  count = chosen_count d.written choose 0 0 d.stable;
  each = λ i lt.
      let at =
      chosen_at d.written choose 0 0 d.stable i (subst (λ n. i < n) (chosen_count d.written choose 0 0 d.stable) lt) in
      let is : sector_at (chosen_sectors d choose) i ≡ pick (sector_at d.stable i) (values d.written i) at.0 =
      at.1 ∙ ap (λ n. pick (sector_at d.stable i) (values d.written n) at.0) (omega arith) in
      subst (λ (v : Sector). (v ≡ sector_at d.stable i) ⊎ Contains d.written (i, v)) (sym is)
      (⊎_elim (λ old. inl old)
      (λ has. inr (values_from d.written i (pick (sector_at d.stable i) (values d.written i) at.0) has))
      (pick_cases (sector_at d.stable i) (values d.written i) at.0));
}

pub crash_state : (start image found : List Sector) (lines : List (Vec ℕ Global)) (calls kept : List Call)
    (choose : List ℕ) → found ≡ image → kept ≡ filter is_of_console calls
    → image ≡ chosen_sectors (state_after_calls (made_of start lines) calls).disk choose → state_after_calls
    (made_of found lines) kept ≡ state_after_crash (state_after_calls (made_of start lines) calls) choose
crash_state start image found lines calls kept choose here same is =
    ap (λ (l : List Sector). state_after_calls (made_of l lines) kept) here
    ∙ ap (state_after_calls (made_of image lines)) same
    ∙ console_replay (made_of start lines) (idle_disk image) calls
    ∙ ap (λ (l : List Sector). record (state_after_calls (made_of start lines) calls) { disk = idle_disk l }) is

-- they change no sector
pub console_keeps : (found : List Sector) (lines : List (Vec ℕ Global)) (calls kept : List Call)
    → kept ≡ filter is_of_console calls → (state_after_calls (made_of found lines) kept).disk.present ≡ found
console_keeps found lines calls kept same =
    ap (λ (l : List Call). (state_after_calls (made_of found lines) l).disk.present) same
    ∙ ap (λ (s : State). s.disk.present) (console_replay (made_of found lines) (idle_disk found) calls)
