-- How what is true of each moment of a call goes on over the next call.
use Rattle.std.proofs.Common.{◌≡◌, ◌≤◌, refl, ℕ, suc, List, [], ◌∷◌, ◌++◌, length, take, drop, map, sym, ◌∙◌, ap, subst}
use Rattle.std.proofs.Common.{append_assoc, arith, length-take}
use Rattle.std.proofs.lemmas.List.{append-nil, take-take, take_all, map-append, take-append-drop}
use Rattle.std.specs.Prelude.{Result, Ok, Err, OnOk, OnErr}
use Rattle.std.specs.List.{AllByRecursion}
use Rattle.station.specs.State.{State, Event, Shown, Begins, state_after_show, states_while_showing}
use Rattle.station.specs.History.{Moves, Stays, Goes, Shows, Spans, Through, HasShownSome, EndsIn}

both : (P : State → Type 0) (xs ys : List State) → AllByRecursion P xs → AllByRecursion P ys
    → AllByRecursion P (xs ++ ys)
both P [] ys first second = second
both P (x ∷ xs) ys first second = (first.0, both P xs ys first.1 second)

-- no call
pub no_moment : (h : List State) (P : State → Type 0) → Spans h h P
no_moment h P = record { during = []; adds = sym (append-nil h); each = tt }

-- a call after others
pub then : (a b c : List State) (P : State → Type 0) → Spans a b P → Spans b c P → Spans a c P
then a b c P first second = record {
  during = first.during ++ second.during;
  adds =
      second.adds ∙ ap (λ (h : List State). h ++ second.during) first.adds ∙ append_assoc a first.during second.during;
  each = both P first.during second.during first.each second.each;
}

-- one call, after which the state has P
pub moved : (past : List State) (old : State) (later : List State) (new : State) (P : State → Type 0)
    → Moves past old later new → P new → Spans past later P
moved past old later new P (Stays same _) here = record { during = []; adds = same ∙ sym (append-nil past); each = tt }
moved past old later new P (Goes goes) here = record { during = new ∷ []; adds = goes; each = (here, tt) }

-- a call that answered the one or the other
pub either : {T E A B : Type 0} (r : Result T E) (G : Type 0) → OnOk r A → OnErr r B → (A → G) → (B → G) → G
either (Ok x) G ok err at_ok at_err = at_ok ok
either (Err x) G ok err at_ok at_err = at_err err

showing_each : (s : State) (bytes : List ℕ) (P : State → Type 0)
    → ((n : ℕ) → n ≤ length bytes → P (state_after_show s (take n bytes)))
    → AllByRecursion P (states_while_showing s bytes)
showing_each s [] P each = tt
showing_each s (b ∷ bytes) P each = (
  each 1 (omega arith),
  showing_each (state_after_show s (b ∷ [])) bytes P
      (λ n le. subst P (sym (shown_more s b (take n bytes))) (each (suc n) (omega arith))),
)
  where
    shown_more : (s : State) (b : ℕ) (more : List ℕ)
        → state_after_show (state_after_show s (b ∷ [])) more ≡ state_after_show s (b ∷ more)
    shown_more s b more =
        ap (λ (l : List Event). record s { events = l }) (append_assoc s.events (Shown b ∷ []) (map Shown more))

-- a show, where the state has P after any number of its bytes
pub showed : (past : List State) (old : State) (bytes : List ℕ) (later : List State) (new : State) (P : State → Type 0)
    → Shows past old bytes later new
    → ((n : ℕ) → n ≤ length bytes → P (state_after_show old (take n bytes))) → Spans past later P
showed past old bytes later new P shows each =
    record { during = states_while_showing old bytes; adds = shows.history; each = showing_each old bytes P each }

-- what is weaker holds too
pub weaker : (past later : List State) (P Q : State → Type 0) → ((s : State) → P s → Q s) → Spans past later P
    → Spans past later Q
weaker past later P Q from spans =
    record { during = spans.during; adds = spans.adds; each = weaker_each spans.during spans.each }
  where
    weaker_each : (states : List State) → AllByRecursion P states → AllByRecursion Q states
    weaker_each [] all = tt
    weaker_each (s ∷ states) all = (from s all.0, weaker_each states all.1)

-- no call
pub stays : (h : List State) (s : State) (P : State → Type 0) → P s → Through h h s P
stays h s P here = record { spans = no_moment h P; now = here }

-- calls after others
pub goes : (a b c : List State) (mid new : State) (P : State → Type 0) → Through a b mid P → Through b c new P
    → Through a c new P
goes a b c mid new P first second = record { spans = then a b c P first.spans second.spans; now = second.now }

pub weakens : (a b : List State) (s : State) (P Q : State → Type 0) → ((s : State) → P s → Q s) → Through a b s P
    → Through a b s Q
weakens a b s P Q from through = record { spans = weaker a b P Q from through.spans; now = from s through.now }

-- one more call
pub moves_on : (a b c : List State) (mid new : State) (P : State → Type 0) → Through a b mid P → Moves b mid c new
    → P new → Through a c new P
moves_on a b c mid new P first moves here =
    record { spans = then a b c P first.spans (moved b mid c new P moves here); now = here }

-- a show, cut anywhere
pub tells : (past : List State) (old : State) (bytes : List ℕ) (later : List State) (new : State)
    → (n : ℕ) × Shows past old (take n bytes) later new → Through past later new (HasShownSome old bytes)
tells past old bytes later new (n, shows) = record {
  spans = showed past old (take n bytes) later new (HasShownSome old bytes) shows
      (λ m le. (m, ap (state_after_show old) (take_cut m le)));
  now = (n, shows.state);
}
  where
    take_cut : (m : ℕ) → m ≤ length (take n bytes) → take m (take n bytes) ≡ take m bytes
    take_cut m le = take-take m n bytes (omega (arith, length-take n bytes))

-- what was shown so far is a beginning
pub told_begins : (old : State) (bytes : List ℕ) (s : State) → HasShownSome old bytes s
    → Begins s.events (state_after_show old bytes).events
told_begins old bytes s (n, is) = record {
  rest = map Shown (drop n bytes);
  whole_is = sym
      (ap (λ (t : State). t.events ++ map Shown (drop n bytes)) is
      ∙ append_assoc old.events (map Shown (take n bytes)) (map Shown (drop n bytes))
      ∙ ap (λ (l : List Event). old.events ++ l) (sym (map-append Shown (take n bytes) (drop n bytes))
      ∙ ap (map Shown) (take-append-drop n bytes)));
}

-- a show that works, or does nothing
pub shows_or_not : {T E : Type 0} (r : Result T E) (past : List State)
    (old : State) (bytes : List ℕ) (later : List State) (new : State) → OnOk r (new ≡ state_after_show old bytes)
    → OnOk r (later ≡ past ++ states_while_showing old bytes)
    → OnErr r (new ≡ old) → OnErr r (later ≡ past) → (n : ℕ) × Shows past old (take n bytes) later new
shows_or_not (Ok x) past old bytes later new state history same_state same_history = (
  length bytes,
  subst (λ (l : List ℕ). Shows past old l later new) (sym (take_all (length bytes) bytes (omega arith)))
      (record { history = history; state = state }),
)
shows_or_not (Err e) past old bytes later new state history same_state same_history = (
  0,
  record {
    history = same_history ∙ sym (append-nil past);
    state = same_state ∙ ap (λ (l : List Event). record old { events = l }) (sym (append-nil old.events));
  },
)

-- a read goes by unseen
pub unseen : (a b c : List State) (mid new : State) (P : State → Type 0) → Through a b mid P → c ≡ b → new ≡ mid
    → Through a c new P
unseen a b c mid new P through later is =
    subst (λ (h : List State). Through a h new P) (sym later) (subst (λ (s : State). Through a b s P) (sym is) through)

-- the newest of some states
abbrev newest_of : State → List State → State
newest_of s [] = s
newest_of s (t ∷ more) = newest_of t more

newest_append : (s : State) (past : List State) (t : State) (more : List State)
    → newest_of s (past ++ t ∷ more) ≡ newest_of t more
newest_append s [] t more = refl
newest_append s (u ∷ past) t more = newest_append u past t more

newest_has : (P : State → Type 0) (s : State) (more : List State) → P s → AllByRecursion P more → P (newest_of s more)
newest_has P s [] here all = here
newest_has P s (t ∷ more) here all = newest_has P t more all.0 all.1

-- what is so at the entry of calls, and at each moment of it, is so of the state that it left
pub arrives : (past later : List State) (old new : State) (P : State → Type 0) → EndsIn past old → EndsIn later new
    → P old → Spans past later P → P new
arrives past later old new P from to here spans =
    let whole : from.earlier ++ old ∷ spans.during ≡ to.earlier ++ new ∷ [] =
    sym (append_assoc from.earlier (old ∷ []) spans.during) ∙ ap (λ (l : List State). l ++ spans.during) (sym from.is)
    ∙ sym spans.adds ∙ to.is in
    let same : newest_of old spans.during ≡ new = sym (newest_append old from.earlier old spans.during)
    ∙ ap (newest_of old) whole ∙ newest_append old to.earlier new [] in
    subst P same (newest_has P old spans.during here spans.each)
