-- One more call in a record.
use Rattle.std.proofs.Common.{◌≡◌, ℕ, ◌+◌, ◌<◌, ◌≤◌, List, [], ◌∷◌, ◌++◌, length, take, drop, get_or, arith, refl, sym}
use Rattle.std.proofs.Common.{◌∙◌, ap, append_assoc, length-append}
use Rattle.std.proofs.lemmas.List.{append-nil, take_more, take-append-le, drop-append-le, take_all, drop_all}
use Rattle.std.specs.Prelude.{IsFalse, Bool, true, false, if◌then◌else◌}
use Rattle.station.specs.State.{State}
use Rattle.station.specs.Disk.{Sector}
use Rattle.station.specs.Replay.{state_after_calls, states_during_calls, next, passes, since, is_write}
use Rattle.station.specs.Newest.{after_split}
use Rattle.station.specs.declared.call.Call.{Call}
use Rattle.station.specs.declared.call.Call.TheVariants.{Show, Hear, Take, Write, Keep, Sync}

pub after_push : (s : State) (calls : List Call) (call : Call)
    → state_after_calls s (calls ++ call ∷ []) ≡ next (state_after_calls s calls) call
after_push s [] call = refl
after_push s (c ∷ calls) call = after_push (next s c) calls call

pub past_push : (s : State) (calls : List Call) (call : Call) → states_during_calls s
    (calls ++ call ∷ []) ≡ states_during_calls s calls ++ passes (state_after_calls s calls) call
past_push s [] call = append-nil (passes s call)
past_push s (c ∷ calls) call =
    ap (λ (l : List State). passes s c ++ l) (past_push (next s c) calls call) ∙ sym (append_assoc (passes s c)
    (states_during_calls (next s c) calls) (passes (state_after_calls (next s c) calls) call))

pub after_more : (s : State) (calls : List Call) (i : ℕ) (call : Call) → i < length calls → call ≡ get_or calls i call
    → state_after_calls s (take (i + 1) calls) ≡ next (state_after_calls s (take i calls)) call
after_more s calls i call lt is = ap (state_after_calls s) (take_more calls i call lt)
    ∙ after_push s (take i calls) (get_or calls i call) ∙ ap (next (state_after_calls s (take i calls))) (sym is)

-- the states since a crash, with one more call
pub since_push : (s : State) (calls more : List Call) (call : Call) (i : ℕ) → i ≤ length calls
    → more ≡ calls ++ call ∷ [] → since s more i ≡ since s calls i ++ passes (state_after_calls s calls) call
since_push s calls more call i le is =
    ap (λ (l : List Call). since s l i) is
    ∙ ap (λ (l : List Call). state_after_calls s l
    ∷ states_during_calls (state_after_calls s l) (drop i (calls ++ call ∷ []))) (take-append-le i calls (call ∷ []) le)
    ∙ ap (λ (l : List Call). state_after_calls s (take i calls)
    ∷ states_during_calls (state_after_calls s (take i calls)) l) (drop-append-le i calls (call ∷ []) le)
    ∙ ap (λ (l : List State). state_after_calls s (take i calls) ∷ l)
    (past_push (state_after_calls s (take i calls)) (drop i calls) call)
    ∙ ap (λ (t : State). since s calls i ++ passes t call) (after_split s calls i)

pub since_all : (s : State) (calls : List Call) (i : ℕ) → length calls ≤ i
    → since s calls i ≡ state_after_calls s calls ∷ []
since_all s calls i le = ap (λ (l : List Call). state_after_calls s l
    ∷ states_during_calls (state_after_calls s l) (drop i calls)) (take_all i calls le) ∙ ap (λ (l : List Call).
    state_after_calls s calls ∷ states_during_calls (state_after_calls s calls) l) (drop_all i calls le)

present_kept : (s : State) (call : Call) → IsFalse (is_write call) → (next s call).disk.present ≡ s.disk.present
present_kept s (Show bytes) not_write = refl
present_kept s (Hear note) not_write = refl
present_kept s Take not_write = refl
present_kept s (Write i b) not_write = cc
present_kept s (Keep i b) not_write = refl
present_kept s Sync not_write = refl

-- a call that writes nothing, whether the record grew or not
pub present_same : (s : State) (calls more : List Call) (call : Call) (grown : Bool) (now : List Sector)
    → IsFalse (is_write call) → more ≡ (if grown then calls ++ call ∷ [] else calls)
    → now ≡ (state_after_calls s calls).disk.present → now ≡ (state_after_calls s more).disk.present
present_same s calls more call true now not_write is same =
    same ∙ sym (present_kept (state_after_calls s calls) call not_write)
    ∙ sym (ap (λ (t : State). t.disk.present) (ap (state_after_calls s) is ∙ after_push s calls call))
present_same s calls more call false now not_write is same =
    same ∙ sym (ap (λ (l : List Call). (state_after_calls s l).disk.present) is)

pub grown_within : (calls more : List Call) (call : Call) (grown : Bool) (i : ℕ)
    → more ≡ (if grown then calls ++ call ∷ [] else calls) → i ≤ length calls → i ≤ length more
grown_within calls more call true i is le = omega (arith, ap length is, length-append calls (call ∷ []), le)
grown_within calls more call false i is le = omega (arith, ap length is, le)

-- the record grew by a call that goes to this state
pub after_one : (s : State) (calls more : List Call) (call : Call) (t : State) → more ≡ calls ++ call ∷ []
    → next (state_after_calls s calls) call ≡ t → state_after_calls s more ≡ t
after_one s calls more call t is to = ap (state_after_calls s) is ∙ after_push s calls call ∙ to
