-- A root stays hidden.
use Rattle.std.proofs.Common.{◌≡◌, ◌<◌, ◌≤◌, ◌+◌, ℕ, zero, suc, List, [], ◌∷◌, ◌++◌, length, take, get_or, set, refl}
use Rattle.std.proofs.Common.{◌∙◌}
use Rattle.std.proofs.Common.{sym, ap, subst, ⊎_elim, arith, true, true≢false, drop, length-append, length-drop}
use Rattle.std.proofs.Common.{get_or-drop, take-append-drop}
use Rattle.std.specs.Prelude.{Result, Ok, Err, OnOk, OnErr}
use Rattle.std.proofs.lemmas.Bool.{cases_lt}
use Rattle.std.proofs.lemmas.List.{take_all}
use Rattle.std.proofs.lemmas.List.Elements.{Contains-push_cases, recursion_from_All}
use Rattle.station.specs.Disk.{Disk, Sector, sector_at, IsCrashImage}
use Rattle.station.specs.State.{State, state_after_sync, MayHaveWritten, Nothing, Kept, Wrote}
use Rattle.station.specs.History.{Moves, Stays, Goes, EndsIn, Through, EachImage}
use Rattle.unfinished_volume.specs.Hidden.{hides_root, HidesRoot, IsRootHidden, IsHiddenSince}

at_end : (states : List State) (state d : State) → get_or (states ++ state ∷ []) (length states) d ≡ state
at_end [] state d = refl
at_end (x ∷ xs) state d = at_end xs state d

before_end : (states : List State) (state d : State) (n : ℕ) → n < length states
    → get_or (states ++ state ∷ []) n d ≡ get_or states n d
before_end [] state d n lt = absurd (omega (arith, lt))
before_end (x ∷ xs) state d zero lt = refl
before_end (x ∷ xs) state d (suc n) lt = before_end xs state d n (omega (arith, lt))

take_before : (k : ℕ) (states : List State) (state : State) → k ≤ length states
    → take k (states ++ state ∷ []) ≡ take k states
take_before zero states state le = refl
take_before (suc k) [] state le = absurd (omega (arith, le))
take_before (suc k) (x ∷ xs) state le = ap (λ (l : List State). x ∷ l) (take_before k xs state (omega (arith, le)))

-- the newest state hides the root
pub hidden_now : (first history : List State) (state : State) → IsHiddenSince first history
    → EndsIn history state → HidesRoot state.disk
hidden_now first history state hidden ends =
    let count : length history ≡ length ends.earlier + 1 =
    ap length ends.is ∙ length-append ends.earlier (state ∷ []) in
    let here : get_or history (length ends.earlier) state ≡ state
    = ap (λ (l : List State). get_or l (length ends.earlier) state) ends.is ∙ at_end ends.earlier state state in
    subst (λ (s : State). HidesRoot s.disk) here
    (hidden.2 (length ends.earlier) state (omega (arith, hidden.1, count)) (omega (arith, count)))

-- it is so from now on
pub hidden_from : (first history : List State) (state : State) → first ≡ history → EndsIn history state
    → HidesRoot state.disk → IsHiddenSince first history
hidden_from first history state same ends here =
    let count : length history ≡ length ends.earlier + 1 =
    ap length ends.is ∙ length-append ends.earlier (state ∷ []) in
    subst (λ (f : List State). IsHiddenSince f history) (sym same) (
      take_all (length history) history (omega arith),
      omega arith,
      λ n d from lt. subst (λ (k : ℕ). HidesRoot (get_or history k d).disk)
          (sym (let at : n ≡ length ends.earlier = omega (arith, from, lt, count) in at))
          (subst (λ (l : List State). HidesRoot (get_or l (length ends.earlier) d).disk) (sym ends.is)
          (subst (λ (s : State). HidesRoot s.disk) (sym (at_end ends.earlier state d)) here)),
    )

hidden_then : (first history : List State) (state : State) → IsHiddenSince first history → HidesRoot state.disk
    → IsHiddenSince first (history ++ state ∷ [])
hidden_then first history state hidden here =
    let count : length (history ++ state ∷ []) ≡ length history + 1 = length-append history (state ∷ []) in (
      take_before (length first) history state (omega (arith, hidden.1)) ∙ hidden.0,
      omega (arith, hidden.1, count),
      λ n d from lt. ⊎_elim
          (λ below. subst (λ (s : State). HidesRoot s.disk) (sym (before_end history state d n below))
          (hidden.2 n d from below))
          (λ past. let at : n ≡ length history = omega (arith, past, lt, count) in
          subst (λ (k : ℕ). HidesRoot (get_or (history ++ state ∷ []) k d).disk) (sym at)
          (subst (λ (s : State). HidesRoot s.disk) (sym (at_end history state d)) here))
          (cases_lt n (length history)),
    )

-- a call that leaves the root hidden
pub hidden_moves : (first past : List State) (old : State) (later : List State) (new : State)
    → IsHiddenSince first past → Moves past old later new → HidesRoot new.disk → IsHiddenSince first later
hidden_moves first past old later new hidden (Stays history state) here =
    subst (IsHiddenSince first) (sym history) hidden
hidden_moves first past old later new hidden (Goes history) here =
    subst (IsHiddenSince first) (sym history) (hidden_then first past new hidden here)

hidden_push : (disk : Disk) (i : ℕ) (bytes : Sector) (present : List Sector) → HidesRoot disk
    → (0 ≡ i → hides_root bytes ≡ true)
    → HidesRoot (record { present = present; stable = disk.stable; written = disk.written ++ (i, bytes) ∷ [] })
hidden_push disk i bytes present hidden hides = (
  hidden.0,
  λ b has. ⊎_elim (λ before. hidden.1 b before)
      (λ same. subst (λ (v : Sector). hides_root v ≡ true) (ap (λ (w : ℕ × Sector). w.1) same)
      (hides (sym (ap (λ (w : ℕ × Sector). w.0) same))))
      (Contains-push_cases disk.written (i, bytes) (0, b) has),
)

-- a write of another sector, or of a sector 0 that is no root
pub hidden_write : (old : State) (i : ℕ) (bytes : Sector) (new : State) → HidesRoot old.disk
    → (0 ≡ i → hides_root bytes ≡ true) → MayHaveWritten old i bytes new → HidesRoot new.disk
hidden_write old i bytes new hidden hides (Nothing same) = subst (λ (s : State). HidesRoot s.disk) (sym same) hidden
hidden_write old i bytes new hidden hides (Kept same) = subst (λ (s : State). HidesRoot s.disk) (sym same)
    (hidden_push old.disk i bytes old.disk.present hidden hides)
hidden_write old i bytes new hidden hides (Wrote same) = subst (λ (s : State). HidesRoot s.disk) (sym same)
    (hidden_push old.disk i bytes (set old.disk.present i bytes) hidden hides)

some_sector : (image : List Sector) → hides_root (sector_at image 0) ≡ true → 0 < length image
some_sector [] hides = absurd (true≢false (sym hides))
some_sector (x ∷ xs) hides = omega arith

-- whatever a crash leaves in sector 0 is no root
pub hidden_image : (disk : Disk) (image : List Sector) → HidesRoot disk → IsCrashImage disk image
    → IsRootHidden image
hidden_image disk image hidden crash =
    let some : 0 < length disk.stable = some_sector disk.stable hidden.0 in
    ⊎_elim (λ old. subst (λ (b : Sector). hides_root b ≡ true) (sym old) hidden.0)
    (λ has. hidden.1 (sector_at image 0) has) (crash.each 0 (omega (arith, some, crash.count)))

hidden_settled : (state : State) → HidesRoot state.disk → IsCrashImage state.disk state.disk.present
    → HidesRoot (state_after_sync state).disk
hidden_settled state hidden possible =
    (hidden_image state.disk state.disk.present hidden possible, λ b has. absurd (omega (arith, has.1)))

-- a sync, whether it succeeds or not
pub hidden_sync : {T E : Type 0} (result : Result T E) (old new : State) → HidesRoot old.disk
    → IsCrashImage old.disk old.disk.present → OnOk result (new ≡ state_after_sync old) → OnErr result (new ≡ old)
    → HidesRoot new.disk
hidden_sync (Ok x) old new hidden possible synced same =
    subst (λ (s : State). HidesRoot s.disk) (sym synced) (hidden_settled old hidden possible)
hidden_sync (Err e) old new hidden possible synced same =
    subst (λ (s : State). HidesRoot s.disk) (sym same) hidden

-- whatever a crash leaves at each moment since
pub hidden_through : (first history : List State) (state : State) → IsHiddenSince first history
    → EndsIn history state → Through first history state (EachImage IsRootHidden)
hidden_through first history state hidden ends = record {
  spans = record {
    during = drop (length first) history;
    adds = sym (take-append-drop (length first) history)
        ∙ ap (λ (l : List State). l ++ drop (length first) history) hidden.0;
    each = recursion_from_All (EachImage IsRootHidden) (drop (length first) history) (λ n d lt.
        let below : length first + n < length history = omega (arith, lt, length-drop (length first) history) in
        subst (EachImage IsRootHidden) (sym (get_or-drop (length first) history n d))
        (λ image crash. hidden_image (get_or history (length first + n) d).disk image
        (hidden.2 (length first + n) d (omega arith) below) crash));
  };
  now = λ image crash. hidden_image state.disk image (hidden_now first history state hidden ends) crash;
}
