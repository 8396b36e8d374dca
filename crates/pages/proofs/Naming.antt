-- A name is replaced by a fresh sector, or by none.
use Rattle.std.proofs.Common.{◌≡◌, ◌≢◌, ◌⊎◌, inl, inr, ⊎_elim, ◌<◌, ◌≤◌, ◌+◌, ◌==◌, Bool, true, false, cond, ℕ, List}
use Rattle.std.proofs.Common.{[], ◌∷◌, ◌++◌, length, set, get_or, refl, sym, ◌∙◌, ap, subst, arith, get_or-set_other}
use Rattle.std.proofs.Common.{get_or-set_same, length-set}
use Rattle.std.specs.Prelude.{Contains}
use Rattle.std.proofs.lemmas.Bool.{cases_eq, cond-true, cond-false, eq-eqb, ne_eqb, false≢true, cond_both, eqb-false}
use Rattle.std.proofs.lemmas.List.{get_or_default}
use Rattle.std.specs.List.{All}
use Rattle.std.proofs.lemmas.List.Elements.{All-nil, All-cons, All-append}
use Rattle.pages.specs.Image.{Volume, names, IsPlace, NamesOnce, IsFree}
use Rattle.pages.specs.Use.{IsUse, use_after, turns_of}
use Rattle.pages.proofs.Uses.{root_or_named, not_marked}
use Rattle.pages.specs.Draft.{NamesSectors}
use Rattle.pages.specs.declared.draft.UseChange.{UseChange}

-- the place of a number in a list of which some place has it
at_place : (list : List ℕ) (t : ℕ) (has : Contains list t) → (k : ℕ) × (k < length list) × (get_or list k 0 ≡ t)
at_place list t has = (has.0, has.1, get_or_default list has.0 0 t has.1 ∙ has.2)

contains_at : (list : List ℕ) (k t : ℕ) → k < length list → get_or list k 0 ≡ t → Contains list t
contains_at list k t lt is = (k, lt, get_or_default list k t 0 lt ∙ is)

-- what the list has after one place was set
pub set_cases : (list : List ℕ) (i s t : ℕ) → i < length list → Contains (set list i s) t
    → (t ≡ s) ⊎ ((k : ℕ) × (k < length list) × (k ≢ i) × (get_or list k 0 ≡ t))
set_cases list i s t low has =
    let (k, lt, is) = at_place (set list i s) t has in
    ⊎_elim (λ at. inl (sym is ∙ rw at (get_or-set_same list i s 0 low)))
    (λ other. inr (k, omega (arith, lt, length-set list i s), other, sym (get_or-set_other list i k s 0 other) ∙ is))
    (cases_eq k i)

pub set_new : (list : List ℕ) (i s : ℕ) → i < length list → Contains (set list i s) s
set_new list i s low =
    contains_at (set list i s) i s (omega (arith, low, length-set list i s)) (get_or-set_same list i s 0 low)

set_old : (list : List ℕ) (i s k t : ℕ) → k < length list → k ≢ i → get_or list k 0 ≡ t → Contains (set list i s) t
set_old list i s k t lt other is =
    contains_at (set list i s) k t (omega (arith, lt, length-set list i s)) (get_or-set_other list i k s 0 other ∙ is)

-- no number but 0 is there twice after 0, or a number that wasn't there, was set
pub set_once : (list : List ℕ) (i s : ℕ) → i < length list → NamesOnce list → (s ≡ 0) ⊎ (Contains list s → ⊥)
    → NamesOnce (set list i s)
set_once list i s low once fresh j k j_low k_low some same = ⊎_elim
    (λ j_at. ⊎_elim (λ k_at. j_at ∙ sym k_at)
    (λ k_other. absurd (clash k k_other (omega (arith, k_low, length-set list i s))
    (sym (get_or-set_other list i k s 0 k_other) ∙ sym same ∙ rw j_at (get_or-set_same list i s 0 low))
    (λ none. some (rw j_at (get_or-set_same list i s 0 low) ∙ none)))) (cases_eq k i))
    (λ j_other. ⊎_elim
    (λ k_at. absurd (clash j j_other (omega (arith, j_low, length-set list i s))
    (sym (get_or-set_other list i j s 0 j_other) ∙ same ∙ rw k_at (get_or-set_same list i s 0 low))
    (λ none. some (same ∙ rw k_at (get_or-set_same list i s 0 low) ∙ none))))
    (λ k_other. once j k (omega (arith, j_low, length-set list i s)) (omega (arith, k_low, length-set list i s))
    (λ none. some (get_or-set_other list i j s 0 j_other ∙ none)) (sym (get_or-set_other list i j s 0 j_other)
    ∙ same ∙ get_or-set_other list i k s 0 k_other))
    (cases_eq k i))
    (cases_eq j i)
  where
    clash : (m : ℕ) → m ≢ i → m < length list → get_or list m 0 ≡ s → s ≢ 0 → ⊥
    clash m other lt is nonzero = ⊎_elim (λ none. nonzero none) (λ unnamed. unnamed (contains_at list m s lt is)) fresh

-- the use of all sectors but one is right
record ButAt (n : ℕ) (list : List ℕ) (s : ℕ) (used : List Bool) : Type 0 where
  pub count : length used ≡ n
  pub free : (t : ℕ) → t < n → t ≢ s → get_or used t false ≡ false → (2 ≤ t) × (Contains list t → ⊥)
  pub taken : (t : ℕ) → t < n → t ≢ s → get_or used t false ≡ true → (t < 2) ⊎ Contains list t

module _ (n : ℕ) (list : List ℕ) (i s : ℕ) (used : List Bool) (low : i < length list) (once : NamesOnce list)
    (right : IsUse n list used) where
  abbrev old : ℕ
  old = get_or list i 0

  -- no sector was named there
  none_left : old ≡ 0 → ButAt n (set list i s) s used
  none_left none = record {
    count = right.count;
    free = λ t lt other is. let was = right.free t lt is in (
      was.0,
      λ has. ⊎_elim (λ at. other at) (λ (k, k_lt, k_other, at). was.1 (contains_at list k t k_lt at))
          (set_cases list i s t low has),
    );
    taken = λ t lt other is. ⊎_elim (λ root. inl root)
        (λ has. let (k, k_lt, at) = at_place list t has in
        ⊎_elim (λ here. inl (omega (arith, none, at, ap (λ (m : ℕ). get_or list m 0) here)))
        (λ away. inr (set_old list i s k t k_lt away at)) (cases_eq k i)) (root_or_named n list used right t lt is);
  }

  -- its sector is no longer used
  one_left : old ≢ 0 → 2 ≤ old → old < n → ButAt n (set list i s) s (set used old false)
  one_left some high below = record {
    count = length-set used old false ∙ right.count;
    free = λ t lt other is. ⊎_elim
        (λ at. (
          omega (arith, at, high),
          λ has. ⊎_elim (λ same. other same) (λ (k, k_lt, k_other, there). k_other (once k i k_lt low
              (λ none. some (sym at ∙ sym there ∙ none)) (there ∙ at))) (set_cases list i s t low has),
        ))
        (λ away. let was = right.free t lt (sym (get_or-set_other used old t false false away) ∙ is) in (
          was.0,
          λ has. ⊎_elim (λ same. other same) (λ (k, k_lt, k_other, there). was.1 (contains_at list k t k_lt there))
              (set_cases list i s t low has),
        ))
        (cases_eq t old);
    taken = λ t lt other is. ⊎_elim
        (λ at. absurd (false≢true (sym (subst (λ (m : ℕ). get_or (set used old false) m false ≡ false) (sym at)
        (get_or-set_same used old false false (omega (arith, below, right.count)))) ∙ is)))
        (λ away. ⊎_elim (λ root. inl root)
        (λ has. let (k, k_lt, there) = at_place list t has in
        ⊎_elim (λ here. absurd (away (sym there ∙ ap (λ (m : ℕ). get_or list m 0) here)))
        (λ k_away. inr (set_old list i s k t k_lt k_away there)) (cases_eq k i))
        (root_or_named n list used right t lt (sym (get_or-set_other used old t false false away) ∙ is)))
        (cases_eq t old);
  }

  -- the new name's sector is used
  one_taken : (now : List Bool) → ButAt n (set list i s) s now → 2 ≤ s → s < n → IsUse n (set list i s) (set now s true)
  one_taken now but high below = record {
    count = length-set now s true ∙ but.count;
    free = λ t lt is. ⊎_elim
        (λ at. absurd (false≢true (sym is ∙ subst (λ (m : ℕ). get_or (set now s true) m false ≡ true) (sym at)
        (get_or-set_same now s true false (omega (arith, below, but.count))))))
        (λ away. but.free t lt away (sym (get_or-set_other now s t true false away) ∙ is)) (cases_eq t s);
    unnamed = λ t lt. not_marked (set list i s) (set now s true) t
        (λ is. ⊎_elim (λ at. inr (subst (Contains (set list i s)) (sym at) (set_new list i s low)))
        (λ away. but.taken t lt away (sym (get_or-set_other now s t true false away) ∙ is)) (cases_eq t s));
  }

  none_taken : (now : List Bool) → ButAt n (set list i s) s now → s ≡ 0 → (get_or now 0 false ≡ false → ⊥)
      → IsUse n (set list i s) now
  none_taken now but none root = record {
    count = but.count;
    free = λ t lt is. ⊎_elim (λ at. absurd (root (subst (λ (m : ℕ). get_or now m false ≡ false) (at ∙ none) is)))
        (λ away. but.free t lt away is) (cases_eq t s);
    unnamed = λ t lt. not_marked (set list i s) now t
        (λ is. ⊎_elim (λ at. inl (omega (arith, at, none))) (λ away. but.taken t lt away is) (cases_eq t s));
  }

  root_used : 0 < n → get_or used 0 false ≡ false → ⊥
  root_used some is = let free = right.free 0 some is in omega (arith, free.0)

  abbrev Fresh : Type 0
  Fresh = (s ≡ 0) ⊎ ((2 ≤ s) × (s < n) × (Contains list s → ⊥))

  then_taken : (now : List Bool) → ButAt n (set list i s) s now → (get_or now 0 false ≡ false → ⊥) → Fresh
      → IsUse n (set list i s) (use_after now (cond (s == 0) [] (record { sector = s; used = true } ∷ [])))
  then_taken now but root fresh = ⊎_elim
      (λ none. subst (λ (l : List UseChange). IsUse n (set list i s) (use_after now l)) (sym (cond-true (s == 0) []
      (record { sector = s; used = true } ∷ []) (eq-eqb s 0 none))) (none_taken now but none root))
      (λ (high, below, unnamed). subst (λ (l : List UseChange). IsUse n (set list i s) (use_after now l)) (sym
      (cond-false (s == 0) [] (record { sector = s; used = true } ∷ []) (ne_eqb s 0 (λ e. omega (arith, e, high)))))
      (one_taken now but high below))
      fresh

  -- one name of a list replaced, and the use of the sectors after the turns for it
  pub use_set : 0 < n → IsPlace n old → Fresh → IsUse n (set list i s) (use_after used (turns_of old s))
  use_set some place fresh = ⊎_elim
      (λ none. subst (λ (l : List UseChange).
      IsUse n (set list i s) (use_after used (l ++ cond (s == 0) [] (record { sector = s; used = true } ∷ []))))
      (sym (cond-true (old == 0) [] (record { sector = old; used = false } ∷ []) (eq-eqb old 0 none)))
      (then_taken used (none_left none) (root_used some) fresh))
      (λ (high, below). subst (λ (l : List UseChange).
      IsUse n (set list i s) (use_after used (l ++ cond (s == 0) [] (record { sector = s; used = true } ∷ []))))
      (sym (cond-false (old == 0) [] (record { sector = old; used = false } ∷ [])
      (ne_eqb old 0 (λ e. omega (arith, e, high)))))
      (then_taken (set used old false) (one_left (λ e. omega (arith, e, high)) high below) (λ is.
      root_used some (sym (get_or-set_other used old 0 false false (λ e. omega (arith, e, high))) ∙ is)) fresh))
      place

-- turns after others
pub turned_more : (used : List Bool) (turns more : List UseChange)
    → use_after used (turns ++ more) ≡ use_after (use_after used turns) more
turned_more used [] more = refl
turned_more used (t ∷ turns) more = turned_more (set used t.sector t.used) turns more

one_low : (n s : ℕ) (used : Bool) → (s ≡ 0 → ⊥) → IsPlace n s
    → All (λ (t : UseChange). t.sector < n) (record { sector = s; used = used } ∷ [])
one_low n s used some place = All-cons (λ (t : UseChange). t.sector < n) (record { sector = s; used = used }) []
    (⊎_elim (λ none. absurd (some none)) (λ (high, below). below) place) (All-nil (λ (t : UseChange). t.sector < n))

-- the turns for two places are within the volume
turns_within : (n old new : ℕ) → IsPlace n old → IsPlace n new
    → All (λ (t : UseChange). t.sector < n) (turns_of old new)
turns_within n old new old_place new_place =
    All-append (λ (t : UseChange). t.sector < n) (cond (old == 0) [] (record { sector = old; used = false } ∷ []))
    (cond (new == 0) [] (record { sector = new; used = true } ∷ []))
    (cond_both (old == 0) [] (record { sector = old; used = false } ∷ []) (λ l. All (λ (t : UseChange). t.sector < n) l)
    (λ _. All-nil (λ (t : UseChange). t.sector < n)) (λ is. one_low n old false (eqb-false old 0 is) old_place))
    (cond_both (new == 0) [] (record { sector = new; used = true } ∷ []) (λ l. All (λ (t : UseChange). t.sector < n) l)
    (λ _. All-nil (λ (t : UseChange). t.sector < n)) (λ is. one_low n new true (eqb-false new 0 is) new_place))

-- a name replaced by none, or by a sector from `next` on that is free in v
pub renamed : (v : Volume) (used : List Bool) (named : List ℕ) (turns : List UseChange) (next : ℕ) (i s after : ℕ)
    → 0 < v.root.sectors → i < length named → NamesSectors v used named turns next
    → ((s ≡ 0) × (after ≡ next)) ⊎ ((next ≤ s) × IsFree v s × (after ≡ s + 1))
    → NamesSectors v used (set named i s) (turns ++ turns_of (get_or named i 0) s) after
renamed v used named turns next i s after some low naming choice = record {
  start = ⊎_elim (λ (_, same). omega (arith, same, naming.start))
      (λ (later, _, is). omega (arith, later, is, naming.start)) choice;
  places = λ t has. ⊎_elim (λ at. subst (IsPlace v.root.sectors) (sym at) place)
      (λ (k, k_lt, _, is). naming.places t (contains_at named k t k_lt is)) (set_cases named i s t low has);
  once = set_once named i s low naming.once
      (⊎_elim (λ (none, _). inl none) (λ (later, free, _). inr (unnamed later free)) choice);
  fresh = λ t has.
      ⊎_elim (λ at. ⊎_elim (λ (none, _). inr_zero t (at ∙ none) has) (λ (_, _, is). inr (omega (arith, at, is))) choice)
      (λ (k, k_lt, _, is). older t (naming.fresh t (contains_at named k t k_lt is))) (set_cases named i s t low has);
  in_use = subst (IsUse v.root.sectors (set named i s)) (sym (turned_more used turns (turns_of (get_or named i 0) s)))
      (use_set v.root.sectors named i s (use_after used turns) low naming.once naming.in_use some
      (naming.places (get_or named i 0) (contains_at named i (get_or named i 0) low refl))
      (⊎_elim (λ (none, _). inl none) (λ (later, free, _). inr (free.high, free.low, unnamed later free)) choice));
  turns_low =
      All-append (λ (t : UseChange). t.sector < v.root.sectors) turns (turns_of (get_or named i 0) s) naming.turns_low
      (turns_within v.root.sectors (get_or named i 0) s
      (naming.places (get_or named i 0) (contains_at named i (get_or named i 0) low refl)) place);
}
  where
    unnamed : next ≤ s → IsFree v s → Contains named s → ⊥
    unnamed later free has = ⊎_elim (λ old. free.unnamed old) (λ lt. omega (arith, lt, later)) (naming.fresh s has)

    place : IsPlace v.root.sectors s
    place = ⊎_elim (λ (none, _). inl none) (λ (later, free, _). inr (free.high, free.low)) choice

    older : (t : ℕ) → Contains (names v) t ⊎ (t < next) → Contains (names v) t ⊎ (t < after)
    older t (inl has) = inl has
    older t (inr lt) =
        inr (⊎_elim (λ (_, same). omega (arith, lt, same)) (λ (later, _, is). omega (arith, lt, later, is)) choice)

    inr_zero : (t : ℕ) → t ≡ 0 → Contains (set named i s) t → Contains (names v) t ⊎ (t < after)
    inr_zero t none has = inr (⊎_elim (λ (_, same). omega (arith, none, same, naming.start))
        (λ (later, _, is). omega (arith, none, later, is, naming.start)) choice)
