-- The newest state of a record of calls is the one after all of them.
use Rattle.std.specs.Prelude.{◌≡◌, ℕ, List, [], ◌∷◌, ◌++◌, map, take, drop, refl}
use Rattle.std.proofs.Common.{◌∙◌, sym, ap, subst, append_assoc}
use Rattle.std.proofs.lemmas.List.{append-nil, take-append-drop}
use Rattle.station.specs.State.{State, Event, Shown, state_after_show, states_while_showing}
use Rattle.station.specs.History.{EndsIn}
use Rattle.station.specs.Replay.{state_after_calls, states_during_calls, next, passes, since}
use Rattle.station.specs.declared.call.Call.{Call}
use Rattle.station.specs.declared.call.Call.TheVariants.{Show, Hear, Take, Write, Keep, Sync}

shown_more : (s : State) (b : ℕ) (more : List ℕ) → state_after_show (state_after_show s (b ∷ [])) more ≡ state_after_show s (b ∷ more)
shown_more s b more = ap (λ (l : List Event). record s { events = l }) (append_assoc s.events (Shown b ∷ []) (map Shown more))

showing_ends : (s : State) (bytes : List ℕ) → EndsIn (s ∷ states_while_showing s bytes) (state_after_show s bytes)
showing_ends s [] = record { earlier = []; is = ap (λ (l : List Event). record s { events = l } ∷ []) (sym (append-nil s.events)) }
showing_ends s (b ∷ bytes) =
    let more = showing_ends (state_after_show s (b ∷ [])) bytes in
    record { earlier = s ∷ more.earlier; is = ap (λ (l : List State). s ∷ l) (more.is ∙ ap (λ (t : State). more.earlier ++ t ∷ []) (shown_more s b bytes)) }

call_ends : (s : State) (call : Call) → EndsIn (s ∷ passes s call) (next s call)
call_ends s (Show bytes) = showing_ends s bytes.items
call_ends s (Hear note) = record { earlier = s ∷ []; is = refl }
call_ends s Take = record { earlier = s ∷ []; is = refl }
call_ends s (Write i b) = record { earlier = s ∷ []; is = refl }
call_ends s (Keep i b) = record { earlier = s ∷ []; is = refl }
call_ends s Sync = record { earlier = s ∷ []; is = refl }

replay_ends : (s : State) (calls : List Call) → EndsIn (s ∷ states_during_calls s calls) (state_after_calls s calls)
replay_ends s [] = record { earlier = []; is = refl }
replay_ends s (call ∷ calls) =
    let one = call_ends s call in
    let more = replay_ends (next s call) calls in
    record {
      earlier = one.earlier ++ more.earlier;
      is = ap (λ (l : List State). l ++ states_during_calls (next s call) calls) one.is
          ∙ append_assoc one.earlier (next s call ∷ []) (states_during_calls (next s call) calls)
          ∙ ap (λ (l : List State). one.earlier ++ l) more.is
          ∙ sym (append_assoc one.earlier more.earlier (state_after_calls (next s call) calls ∷ []));
    }

after_append : (s : State) (calls more : List Call) → state_after_calls s (calls ++ more) ≡ state_after_calls (state_after_calls s calls) more
after_append s [] more = refl
after_append s (call ∷ calls) more = after_append (next s call) calls more

pub after_split : (s : State) (calls : List Call) (i : ℕ) → state_after_calls (state_after_calls s (take i calls)) (drop i calls) ≡ state_after_calls s calls
after_split s calls i = sym (after_append s (take i calls) (drop i calls)) ∙ ap (state_after_calls s) (take-append-drop i calls)

pub since_ends : (s : State) (calls : List Call) (i : ℕ) → EndsIn (since s calls i) (state_after_calls s calls)
since_ends s calls i = subst (EndsIn (since s calls i)) (after_split s calls i) (replay_ends (state_after_calls s (take i calls)) (drop i calls))
