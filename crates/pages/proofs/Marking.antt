-- One more name is marked.
use Rattle.std.proofs.Common.{◌≡◌, ◌≢◌, ◌⊎◌, inl, inr, ⊎_elim, ◌<◌, ◌≤◌, ◌+◌, Bool, true, false, ℕ, List, [], ◌∷◌, ◌++◌}
use Rattle.std.proofs.Common.{length, set, get_or, take, drop, refl, sym, ◌∙◌, ap, subst, arith, get_or-set_other}
use Rattle.std.proofs.Common.{get_or-set_same, length-set}
use Rattle.std.specs.Prelude.{Contains}
use Rattle.std.proofs.lemmas.Bool.{cases_eq, cases_lt, false≢true}
use Rattle.std.proofs.lemmas.List.{length-append, get_or_append_left, get_or_push, get_or_default, take-append-drop}
use Rattle.std.proofs.lemmas.List.{append_assoc, take_more}
use Rattle.std.proofs.lemmas.List.Elements.{Contains-append_left, Contains-push, Contains-push_cases}
use Rattle.pages.specs.Image.{IsPlace, NamesOnce}
use Rattle.pages.specs.Marked.{IsMarked, AreNames}
use Rattle.pages.proofs.Uses.{root_or_named}

contains_at : (list : List ℕ) (k t : ℕ) → k < length list → get_or list k 0 ≡ t → Contains list t
contains_at list k t lt is = (k, lt, get_or_default list k t 0 lt ∙ is)

-- a front of names is names
front_once : (list more : List ℕ) → NamesOnce (list ++ more) → NamesOnce list
front_once list more once i j i_low j_low some same =
    once i j (omega (arith, i_low, length-append list more)) (omega (arith, j_low, length-append list more))
    (λ none. some (sym (get_or_append_left list more 0 i i_low) ∙ none)) (get_or_append_left list more 0 i i_low ∙ same
    ∙ sym (get_or_append_left list more 0 j j_low))

pub front_names : (n : ℕ) (list more : List ℕ) → AreNames n (list ++ more) → AreNames n list
front_names n list more are = record {
  places = λ s has. are.places s (Contains-append_left list more s has);
  once = front_once list more are.once;
}

pub push_once : (list : List ℕ) (s : ℕ) → NamesOnce list → (s ≡ 0) ⊎ (Contains list s → ⊥) → NamesOnce (list ++ s ∷ [])
push_once list s once fresh i j i_low j_low some same = ⊎_elim
    (λ i_in. ⊎_elim
    (λ j_in. once i j i_in j_in (λ none. some (get_or_append_left list (s ∷ []) 0 i i_in ∙ none))
    (sym (get_or_append_left list (s ∷ []) 0 i i_in) ∙ same ∙ get_or_append_left list (s ∷ []) 0 j j_in))
    (λ j_out. let j_at : length list ≡ j = omega (arith, j_out, j_low, length-append list (s ∷ [])) in
    absurd (clash i i_in (sym (get_or_append_left list (s ∷ []) 0 i i_in) ∙ same ∙ get_or_push list s 0 j j_at)
    (λ none. some (same ∙ get_or_push list s 0 j j_at ∙ none)))) (cases_lt j (length list)))
    (λ i_out. let i_at : length list ≡ i = omega (arith, i_out, i_low, length-append list (s ∷ [])) in
    ⊎_elim
    (λ j_in. absurd (clash j j_in (sym (get_or_append_left list (s ∷ []) 0 j j_in) ∙ sym same
    ∙ get_or_push list s 0 i i_at) (λ none. some (get_or_push list s 0 i i_at ∙ none))))
    (λ j_out. sym i_at ∙ omega (arith, j_out, j_low, length-append list (s ∷ []))) (cases_lt j (length list)))
    (cases_lt i (length list))
  where
    clash : (k : ℕ) → k < length list → get_or list k 0 ≡ s → s ≢ 0 → ⊥
    clash k lt is nonzero = ⊎_elim (λ none. nonzero none) (λ unnamed. unnamed (contains_at list k s lt is)) fresh

-- 0 names none
pub mark_zero : (list : List ℕ) (used : List Bool) → IsMarked list used → IsMarked (list ++ 0 ∷ []) used
mark_zero list used marked = record {
  names = record {
    places = λ s has. ⊎_elim (λ old. marked.names.places s old) (λ at. inl (sym at)) (Contains-push_cases list 0 s has);
    once = push_once list 0 marked.names.once (inl refl);
  };
  in_use = record {
    count = refl;
    free = λ s lt is. let was = marked.in_use.free s lt is in
        (was.0, λ has. ⊎_elim was.1 (λ at. omega (arith, at, was.0)) (Contains-push_cases list 0 s has));
    unnamed = λ s lt high absent. marked.in_use.unnamed s lt high
        (λ has. absent (Contains-append_left list (0 ∷ []) s has));
  };
}

-- a sector that wasn't marked
pub mark_one : (list : List ℕ) (used : List Bool) (s : ℕ) → s < length used → get_or used s false ≡ false
    → IsMarked list used → IsMarked (list ++ s ∷ []) (set used s true)
mark_one list used s low is marked =
    let free = marked.in_use.free s low is in
    let count : length (set used s true) ≡ length used = length-set used s true in
    record {
      names = record {
        places = λ t has. subst (λ (n : ℕ). IsPlace n t) (sym count) (⊎_elim (λ old. marked.names.places t old)
            (λ at. inr (omega (arith, at, free.0), omega (arith, at, low))) (Contains-push_cases list s t has));
        once = push_once list s marked.names.once (inr free.1);
      };
      in_use = record {
        count = refl;
        free = λ t lt unused. ⊎_elim
            (λ at. absurd (false≢true (sym unused ∙ subst (λ (m : ℕ). get_or (set used s true) m false ≡ true) (sym at)
            (get_or-set_same used s true false low))))
            (λ away. let was = marked.in_use.free t (omega (arith, lt, count))
            (sym (get_or-set_other used s t true false away) ∙ unused) in
            (was.0, λ has. ⊎_elim was.1 (λ at. away (sym at)) (Contains-push_cases list s t has))) (cases_eq t s);
        unnamed = λ t lt high absent. ⊎_elim
            (λ at. absurd (absent (subst (Contains (list ++ s ∷ [])) (sym at) (Contains-push list s))))
            (λ away. get_or-set_other used s t true false away ∙ marked.in_use.unnamed t (omega (arith, lt, count)) high
            (λ has. absent (Contains-append_left list (s ∷ []) t has))) (cases_eq t s);
      };
    }

-- a sector past the volume
pub past_sector : (n : ℕ) (list : List ℕ) (s : ℕ) → s ≢ 0 → n ≤ s → AreNames n (list ++ s ∷ []) → ⊥
past_sector n list s some past are =
    ⊎_elim some (λ place. omega (arith, past, place.1)) (are.places s (Contains-push list s))

-- a sector that is marked already
pub marked_twice : (list : List ℕ) (used : List Bool) (s : ℕ) → s ≢ 0 → s < length used → get_or used s false ≡ true
    → IsMarked list used → AreNames (length used) (list ++ s ∷ []) → ⊥
marked_twice list used s some low is marked are = ⊎_elim
    (λ root. ⊎_elim some (λ place. omega (arith, root, place.0)) (are.places s (Contains-push list s)))
    (λ (k, lt, at).
    let here : get_or list k 0 ≡ s = get_or_default list k 0 s lt ∙ at in
    let same : k ≡ length list = are.once
    k (length list) (omega (arith, lt, length-append list (s ∷ []))) (omega (arith, length-append list (s ∷ [])))
    (λ none. some (sym here ∙ sym (get_or_append_left list (s ∷ []) 0 k lt) ∙ none))
    (get_or_append_left list (s ∷ []) 0 k lt ∙ here ∙ sym (get_or_push list s 0 (length list) refl)) in
    omega (arith, same, lt))
    (root_or_named (length used) list used marked.in_use s low is)

-- the names up to one of them
pub front_at : (n : ℕ) (before names : List ℕ) (i d : ℕ) → i < length names → AreNames n (before ++ names)
    → AreNames n (before ++ take i names ++ get_or names i d ∷ [])
front_at n before names i d lt are =
    front_names n (before ++ take i names ++ get_or names i d ∷ []) (drop (i + 1) names) (subst (AreNames n) all are)
  where
    all : before ++ names ≡ before ++ take i names ++ get_or names i d ∷ [] ++ drop (i + 1) names
    all = ap (λ (l : List ℕ). before ++ l)
        (sym (take-append-drop (i + 1) names) ∙ ap (λ (l : List ℕ). l ++ drop (i + 1) names) (take_more names i d lt))
        ∙ sym (append_assoc before (take i names ++ get_or names i d ∷ []) (drop (i + 1) names))
        ∙ ap (λ (l : List ℕ). l ++ drop (i + 1) names)
        (sym (append_assoc before (take i names) (get_or names i d ∷ [])))

pub more_at : (before names : List ℕ) (i d : ℕ) → i < length names
    → before ++ take i names ++ get_or names i d ∷ [] ≡ before ++ take (i + 1) names
more_at before names i d lt = append_assoc before (take i names) (get_or names i d ∷ [])
    ∙ ap (λ (l : List ℕ). before ++ l) (sym (take_more names i d lt))
