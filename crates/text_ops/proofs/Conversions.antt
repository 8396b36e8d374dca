-- CONVERTING by a table is REPLACING ALL of each character.
use Rattle.std.proofs.Common.{◌≡◌, ◌&&◌, leb, eqb, nat_eq, ℕ, zero, suc, ◌+◌, ◌-◌, ◌<◌, ◌≤◌, Bool, true, false, cond}
use Rattle.std.proofs.Common.{List, [], ◌∷◌, ◌++◌, map, length, take, drop, Option, Some, None, inl, inr, refl, ap, sym}
use Rattle.std.proofs.Common.{◌∙◌, arith, add-one, append_assoc, get_or, length-append, length-drop, min, set}
use Rattle.std.proofs.Common.{subst, take_at, drop_at}
use Rattle.std.specs.List.{starts_with}
use Rattle.std.specs.Prelude.{◌⊎◌, slice_set}
use Rattle.std.specs.Option.{option_map}
use Rattle.std.proofs.lemmas.Bool.Decides.{nat_tests}
use Rattle.std.proofs.lemmas.Option.{same_Some}
use Rattle.std.proofs.lemmas.List.{drop_more, length-take-le, take-append-drop}
use Rattle.text_ops.specs.declared.entry.Span.{Span}
use Rattle.text_ops.specs.declared.entry.Fit.{Fit}
use Rattle.text_ops.specs.declared.entry.Fit.TheVariants as f
use Rattle.text_ops.specs.declared.entry.Entry.{Entry}
use Rattle.text_ops.specs.declared.progress.Progress.{Progress}
use Rattle.text_ops.specs.declared.progress.Fitted.{Fitted}
use Rattle.text_ops.specs.Entries.{bytes_in, fit_length, IsSpan, IsFit, IsBy, IsEntry}
use Rattle.text_ops.specs.Beginnings.{text_of}
use Rattle.text_ops.specs.Walk.{first_place_after, end_before, initial_progress, fits, progress_after, later, first_fit}
use Rattle.text_ops.specs.Walk.{walk_after, size_of, walk_on, walk}
use Rattle.text_ops.specs.Inspect.{replacement, text_written_at, with_each, replaced_subject}
use Rattle.text_ops.specs.Convert.{character_span, character_entry, entries_from, entries_between, character_entries}
use Rattle.text_ops.specs.Convert.{character_for, changed_within}

-- ---- a loop through a text

-- one character more
set_one : (how : ℕ → ℕ) (i : ℕ) (xs : List ℕ) → i < length xs
    → take (suc i) (set xs i (how (get_or xs i 0))) ++ map how (drop (suc i) (set xs i (how (get_or xs i 0))))
    ≡ take i xs ++ map how (drop i xs)
set_one how i [] h = absurd (omega (arith, h))
set_one how zero (x ∷ xs) h = refl
set_one how (suc i) (x ∷ xs) h = ap (λ ys. x ∷ ys) (set_one how i xs (omega (arith, h)))

pub turn : (how : ℕ → ℕ) (i : ℕ) (xs : List ℕ) → i < length xs
    → take (i + 1) (set xs i (how (get_or xs i 0))) ++ map how (drop (i + 1) (set xs i (how (get_or xs i 0))))
    ≡ take i xs ++ map how (drop i xs)
turn how i xs h =
    let new = set xs i (how (get_or xs i 0)) in
    ap (λ n. take n new ++ map how (drop n new)) (add-one i) ∙ set_one how i xs h

-- nothing is left
pub through : (how : ℕ → ℕ) (i : ℕ) (xs : List ℕ) → length xs ≤ i → take i xs ++ map how (drop i xs) ≡ xs
through how zero [] h = refl
through how (suc i) [] h = refl
through how zero (x ∷ xs) h = absurd (omega (arith, h))
through how (suc i) (x ∷ xs) h = ap (λ ys. x ∷ ys) (through how i xs (omega (arith, h)))

-- ---- characters within limits

either : (a b : ℕ) → (a ≤ b) ⊎ (b ≤ a)
either zero b = inl (omega arith)
either (suc a) zero = inr (omega arith)
either (suc a) (suc b) = further (either a b)
  where
    further : (a ≤ b) ⊎ (b ≤ a) → (suc a ≤ suc b) ⊎ (suc b ≤ suc a)
    further (inl le) = inl (omega (arith, le))
    further (inr le) = inr (omega (arith, le))

nothing_left : (n : ℕ) (xs : List ℕ) → length xs ≤ n → drop n xs ≡ []
nothing_left zero [] h = refl
nothing_left (suc n) [] h = refl
nothing_left zero (x ∷ xs) h = absurd (omega (arith, h))
nothing_left (suc n) (x ∷ xs) h = nothing_left n xs (omega (arith, h))

module _ (how : ℕ → ℕ) (first limit : ℕ) where
  pub past_limit : (at : ℕ) (xs : List ℕ) → limit ≤ at → changed_within how first limit at xs ≡ xs
  past_limit at [] h = refl
  past_limit at (c ∷ rest) h =
      let shut : leb (at + 1) limit ≡ false = grind (arith, nat_tests) in
      ap (λ b. cond (b && leb first at) (how c) c ∷ changed_within how first limit (at + 1) rest) shut
      ∙ ap (λ l. c ∷ l) (past_limit (at + 1) rest (omega (arith, h)))

  pub before_first : (at : ℕ) (xs : List ℕ) → at + length xs ≤ first → changed_within how first limit at xs ≡ xs
  before_first at [] h = refl
  before_first at (c ∷ rest) h =
      let shut : leb first at ≡ false = grind (arith, nat_tests) in
      let both : (leb (at + 1) limit && leb first at) ≡ false = by_right (leb (at + 1) limit) (leb first at) shut in
      ap (λ b. cond b (how c) c ∷ changed_within how first limit (at + 1) rest) both
      ∙ ap (λ l. c ∷ l) (before_first (at + 1) rest (omega (arith, h)))
    where
      by_right : (a b : Bool) → b ≡ false → (a && b) ≡ false
      by_right true b e = e
      by_right false b e = refl

  pub all_within : (at : ℕ) (xs : List ℕ) → first ≤ at → at + length xs ≤ limit
      → changed_within how first limit at xs ≡ map how xs
  all_within at [] h k = refl
  all_within at (c ∷ rest) h k =
      let low : leb (at + 1) limit ≡ true = grind (arith, nat_tests) in
      let high : leb first at ≡ true = grind (arith, nat_tests) in
      ap (λ b. cond (b && leb first at) (how c) c ∷ changed_within how first limit (at + 1) rest) low
      ∙ ap (λ b. cond b (how c) c ∷ changed_within how first limit (at + 1) rest) high
      ∙ ap (λ l. how c ∷ l) (all_within (at + 1) rest (omega (arith, h)) (omega (arith, k)))

  pub changed_append : (at : ℕ) (xs ys : List ℕ)
      → changed_within how first limit at (xs ++ ys)
      ≡ changed_within how first limit at xs ++ changed_within how first limit (at + length xs) ys
  changed_append at [] ys = ap (λ n. changed_within how first limit n ys) (omega arith)
  changed_append at (c ∷ rest) ys =
      let on : at + 1 + length rest ≡ at + suc (length rest) = omega arith in
      ap (λ l. cond (leb (at + 1) limit && leb first at) (how c) c ∷ l) (changed_append (at + 1) rest ys
      ∙ ap (λ n. changed_within how first limit (at + 1) rest ++ changed_within how first limit n ys) on)

  -- before the first place, up to the limit, and after it
  pub changed_parts : (before part behind : List ℕ) → length before ≡ first
      → (length before + length part ≤ limit)
      → (limit ≤ length before + length part) ⊎ (behind ≡ [])
      → changed_within how first limit 0 (before ++ (part ++ behind)) ≡ before ++ (map how part ++ behind)
  changed_parts before part behind e h k =
      changed_append 0 before (part ++ behind)
      ∙ ap (λ n. changed_within how first limit 0 before ++ changed_within how first limit n (part ++ behind))
      (omega arith)
      ∙ ap (λ l. l ++ changed_within how first limit (length before) (part ++ behind))
      (before_first 0 before (omega (arith, e)))
      ∙ ap (λ l. before ++ l) (changed_append (length before) part behind
      ∙ ap (λ l. l ++ changed_within how first limit (length before + length part) behind)
      (all_within (length before) part (omega (arith, e)) h)
      ∙ ap (λ l. map how part ++ l) (rest k))
    where
      rest : (limit ≤ length before + length part) ⊎ (behind ≡ [])
          → changed_within how first limit (length before + length part) behind ≡ behind
      rest (inl le) = past_limit (length before + length part) behind le
      rest (inr none) = ap (changed_within how first limit (length before + length part)) none ∙ sym none

-- from the first place to the end of the places within the limits
pub changed_middle : (how : ℕ → ℕ) (first limit end : ℕ) (xs : List ℕ) → end ≡ min limit (length xs) → first < end
    → take first xs ++ (map how (take (end - first) (drop first xs)) ++ drop (end - first) (drop first xs))
    ≡ changed_within how first limit 0 xs
changed_middle how first limit end xs e h =
    let n = end - first in
    let last : first + n ≡ end = omega (arith, h) in
    let long : end ≤ length xs = omega (arith, e) in
    let part = take n (drop first xs) in
    let behind = drop n (drop first xs) in
    let whole : take first xs ++ (part ++ behind) ≡ xs =
    ap (λ l. take first xs ++ l) (take-append-drop n (drop first xs)) ∙ take-append-drop first xs in
    let front : length (take first xs) ≡ first = length-take-le first xs (omega (arith, long, h)) in
    let middle : length part ≡ n = length-take-le n (drop first xs) (omega (arith, length-drop first xs, long, h)) in
    let ends : (limit ≤ length (take first xs) + length part) ⊎ (behind ≡ []) =
    by_end (length (take first xs) + length part) behind (omega (arith, front, middle, last))
    (λ le. nothing_left n (drop first xs) (omega (arith, length-drop first xs, le, last))) (either limit (length xs)) in
    sym (changed_parts how first limit (take first xs) part behind front (omega (arith, front, middle, last, e)) ends)
    ∙ ap (changed_within how first limit 0) whole
  where
    by_end : (place : ℕ) (behind : List ℕ) → place ≡ end → (length xs ≤ end → behind ≡ [])
        → (limit ≤ length xs) ⊎ (length xs ≤ limit) → (limit ≤ place) ⊎ (behind ≡ [])
    by_end place behind is none (inl le) = inl (omega (arith, is, e, le))
    by_end place behind is none (inr le) = inr (none (omega (arith, e, le)))

-- no place is within the limits
pub changed_nowhere : (how : ℕ → ℕ) (first limit end : ℕ) (xs : List ℕ) → end ≡ min limit (length xs) → end ≤ first
    → xs ≡ changed_within how first limit 0 xs
changed_nowhere how first limit end xs e h = sym (by_limit (either limit (length xs)))
  where
    nowhere : (at : ℕ) (ys : List ℕ) → limit ≤ first → changed_within how first limit at ys ≡ ys
    nowhere at [] le = refl
    nowhere at (c ∷ rest) le =
        let shut : (leb (at + 1) limit && leb first at) ≡ false = grind (arith, nat_tests) in
        ap (λ b. cond b (how c) c ∷ changed_within how first limit (at + 1) rest) shut
        ∙ ap (λ l. c ∷ l) (nowhere (at + 1) rest le)

    by_limit : (limit ≤ length xs) ⊎ (length xs ≤ limit) → changed_within how first limit 0 xs ≡ xs
    by_limit (inl le) = nowhere 0 xs (omega (arith, e, h, le))
    by_limit (inr le) = before_first how first limit 0 xs (omega (arith, e, h, le))

-- ---- the walk, where each character has its answer whatever was found before

-- What is found at a place: nothing, and the character stays, or one entry for the character, after which all are as
-- they were.
abbrev pub Answers : List ℕ → List Progress → ℕ → ℕ → ℕ → Option Fitted → Type 0
Answers texts active at c to None = to ≡ c
Answers texts active at c to (Some fitted) =
    (size_of fitted ≡ 1) × (fitted.at ≡ at) × (replacement texts fitted.progress.entry.by ≡ to ∷ [])
    × (walk_after active (Some fitted) ≡ active)

written_there : (front rest : List ℕ) (at c to : ℕ) → length front ≡ at
    → text_written_at at (to ∷ []) (front ++ (c ∷ rest)) ≡ (front ++ (to ∷ [])) ++ rest
written_there front rest at c to e =
    let whole = front ++ (c ∷ rest) in
    let one : front ++ (c ∷ rest) ≡ (front ++ (c ∷ [])) ++ rest = sym (append_assoc front (c ∷ []) rest) in
    let long : length (front ++ (c ∷ [])) ≡ at + 1 = length-append front (c ∷ []) ∙ ap (λ n. n + 1) e in
    ap (λ l. (l ++ (to ∷ [])) ++ drop (at + 1) whole) (take_at front (c ∷ rest) at e)
    ∙ ap (λ l. (front ++ (to ∷ [])) ++ l)
    (ap (drop (at + 1)) one ∙ drop_at (front ++ (c ∷ [])) rest (at + 1) long)

module _ (texts : List ℕ) (active : List Progress) (how : ℕ → ℕ) (first limit : ℕ)
    (answers : (at c : ℕ) (rest : List ℕ)
    → Answers texts active at c (cond (leb (at + 1) limit && leb first at) (how c) c)
    (first_fit texts active at (c ∷ rest))) where
  abbrev Changes : ℕ → List ℕ → Type 0
  Changes depth rest = (at : ℕ) (front : List ℕ) → length front ≡ at
      → with_each texts (walk depth texts active at rest) (front ++ rest)
      ≡ front ++ changed_within how first limit at rest

  one_on : (depth : ℕ) (c : ℕ) (rest : List ℕ) → Changes depth rest → (at : ℕ) (front : List ℕ) → length front ≡ at
      → (to : ℕ) (o : Option Fitted) → Answers texts active at c to o
      → with_each texts (walk_on (walk depth texts) active at (c ∷ rest) o) (front ++ (c ∷ rest))
      ≡ front ++ (to ∷ changed_within how first limit (at + 1) rest)
  one_on depth c rest on at front e to None is =
      let long : length (front ++ (c ∷ [])) ≡ at + 1 = length-append front (c ∷ []) ∙ ap (λ n. n + 1) e in
      ap (with_each texts (walk depth texts active (at + 1) rest)) (sym (append_assoc front (c ∷ []) rest))
      ∙ on (at + 1) (front ++ (c ∷ [])) long
      ∙ append_assoc front (c ∷ []) (changed_within how first limit (at + 1) rest)
      ∙ ap (λ x. front ++ (x ∷ changed_within how first limit (at + 1) rest)) (sym is)
  one_on depth c rest on at front e to (Some fitted) (one, there, by, same) =
      let long : length (front ++ (to ∷ [])) ≡ at + 1 = length-append front (to ∷ []) ∙ ap (λ n. n + 1) e in
      let whole = front ++ (c ∷ rest) in
      let more :
      walk depth texts (walk_after active (Some fitted)) (at + size_of fitted) (drop (size_of fitted) (c ∷ rest))
      ≡ walk depth texts active (at + 1) rest =
      ap (λ l. walk depth texts l (at + size_of fitted) (drop (size_of fitted) (c ∷ rest))) same
      ∙ ap (λ n. walk depth texts active (at + n) (drop n (c ∷ rest))) one in
      let put : text_written_at fitted.at (replacement texts fitted.progress.entry.by) whole
      ≡ (front ++ (to ∷ [])) ++ rest =
      ap (λ n. text_written_at n (replacement texts fitted.progress.entry.by) whole) there
      ∙ ap (λ l. text_written_at at l whole) by ∙ written_there front rest at c to e in
      ap (λ l. with_each texts l (text_written_at fitted.at (replacement texts fitted.progress.entry.by) whole)) more
      ∙ ap (with_each texts (walk depth texts active (at + 1) rest)) put
      ∙ on (at + 1) (front ++ (to ∷ [])) long
      ∙ append_assoc front (to ∷ []) (changed_within how first limit (at + 1) rest)

  changes : (depth : ℕ) (rest : List ℕ) → length rest ≤ depth → Changes depth rest
  unfolding walk
  changes zero [] le at front e = refl
  changes zero (c ∷ rest) le at front e = absurd (omega (arith, le))
  changes (suc depth) [] le at front e = refl
  changes (suc depth) (c ∷ rest) le at front e =
      one_on depth c rest (changes depth rest (omega (arith, le))) at front e
      (cond (leb (at + 1) limit && leb first at) (how c) c) (first_fit texts active at (c ∷ rest)) (answers at c rest)

  pub walk_changes : (subject : List ℕ)
      → with_each texts (walk (length subject) texts active 0 subject) subject
      ≡ changed_within how first limit 0 subject
  walk_changes subject = changes (length subject) subject (omega arith) 0 [] refl

-- ---- an entry for each character

bytes_one : (texts : List ℕ) (at : ℕ) → at < length texts → bytes_in texts (character_span at) ≡ get_or texts at 0 ∷ []
bytes_one texts at h =
    let one : at + 1 - at ≡ 1 = omega arith in
    ap (λ n. take n (drop at texts)) one ∙ ap (take 1) (drop_more texts at 0 h)

and_three : (a b c : Bool) → (a && (b && (c && true))) ≡ ((a && b) && c)
and_three true true true = refl
and_three true true false = refl
and_three true false c = refl
and_three false b c = refl

module _ (texts : List ℕ) where
  -- none of an entry in front
  answers_more : (p : Progress) (more : List Progress) (at c to other : ℕ) (o : Option Fitted) → to ≡ other
      → Answers texts more at c other o → Answers texts (p ∷ more) at c to (option_map later o)
  answers_more p more at c to other None e is = e ∙ is
  answers_more p more at c to other (Some fitted) e (one, there, by, same) = (
    one,
    there,
    by ∙ ap (λ x. x ∷ []) (sym e),
    ap (λ k. slice_set (p ∷ more) k (progress_after fitted.progress fitted.progress.entry.fit fitted.at))
        (add-one fitted.number)
        ∙ ap (λ l. p ∷ l) same,
  )

  record IsOne (p : Progress) (at y : ℕ) : Type 0 where
    size : fit_length p.entry.fit ≡ 1
    by : replacement texts p.entry.by ≡ y ∷ []
    stays : progress_after p p.entry.fit at ≡ p

  -- the entry in front, by whether the place is within the limits and the character is its own
  answers_by : (f o t : Bool) (p : Progress) (more : List Progress) (at c to y z : ℕ) (found : Option Fitted)
      → f ≡ (o && t) → to ≡ cond o (cond t y z) c → IsOne p at y → Answers texts more at c (cond o z c) found
      → Answers texts (p ∷ more) at c to
      (cond f (Some (record { number = 0; progress = p; at = at })) (option_map later found))
  answers_by true true true p more at c to y z found f e one is =
      (one.size, refl, one.by ∙ ap (λ x. x ∷ []) (sym e), ap (λ q. q ∷ more) one.stays)
  answers_by false true true p more at c to y z found f e one is = absurd cc
  answers_by true true false p more at c to y z found f e one is = absurd cc
  answers_by false true false p more at c to y z found f e one is = answers_more p more at c to z found e is
  answers_by true false t p more at c to y z found f e one is = absurd cc
  answers_by false false t p more at c to y z found f e one is = answers_more p more at c to c found e is

module _ (texts subject : List ℕ) (one : Entry) where
  abbrev started : ℕ → ℕ → ℕ → List Progress
  started from by n = map (initial_progress texts subject) (entries_from one from by n)

  abbrev first : ℕ
  first = first_place_after texts one.after subject

  abbrev limit : ℕ
  limit = end_before texts one.before subject

  abbrev pub how : ℕ → ℕ → ℕ → ℕ → ℕ
  how from by n c = character_for (take n (drop from texts)) (take n (drop by texts)) c

  fits_one : (from by at c : ℕ) (rest : List ℕ) → from < length texts
      → fits texts (initial_progress texts subject (character_entry one from by)) at (c ∷ rest)
      ≡ ((leb (at + 1) limit && leb first at) && eqb (get_or texts from 0) c)
  fits_one from by at c rest h =
      ap (λ l. leb (at + 1) limit && (leb first at && starts_with nat_eq (c ∷ rest) l)) (bytes_one texts from h)
      ∙ and_three (leb (at + 1) limit) (leb first at) (eqb (get_or texts from 0) c)

  no_change : (b : Bool) (c : ℕ) → cond b c c ≡ c
  no_change true c = refl
  no_change false c = refl

  answers_at : (n from by at c : ℕ) (rest : List ℕ) → from + n ≤ length texts → by + n ≤ length texts
      → Answers texts (started from by n) at c (cond (leb (at + 1) limit && leb first at) (how from by n c) c)
      (first_fit texts (started from by n) at (c ∷ rest))
  answers_at zero from by at c rest h k = no_change (leb (at + 1) limit && leb first at) c
  answers_at (suc n) from by at c rest h k =
      let x = get_or texts from 0 in
      let y = get_or texts by 0 in
      let z = how (from + 1) (by + 1) n c in
      let inside : Bool = leb (at + 1) limit && leb first at in
      let low : from < length texts = omega (arith, h) in
      let high : by < length texts = omega (arith, k) in
      let p = initial_progress texts subject (character_entry one from by) in
      let is : how from by (suc n) c ≡ cond (eqb x c) y z =
      ap (λ l. character_for (take (suc n) l) (take (suc n) (drop by texts)) c) (drop_more texts from 0 low)
      ∙ ap (λ l. character_for (x ∷ take n (drop (from + 1) texts)) (take (suc n) l) c) (drop_more texts by 0 high) in
      answers_by texts (fits texts p at (c ∷ rest)) inside (eqb x c) p (started (from + 1) (by + 1) n) at c
      (cond inside (how from by (suc n) c) c) y z
      (first_fit texts (started (from + 1) (by + 1) n) at (c ∷ rest))
      (fits_one from by at c rest low) (ap (λ m. cond inside m c) is)
      (record { size = refl; by = bytes_one texts by high; stays = refl })
      (answers_at n (from + 1) (by + 1) at c rest (omega (arith, h)) (omega (arith, k)))

  pub entries_change : (from by n : ℕ) → from + n ≤ length texts → by + n ≤ length texts
      → changed_within (how from by n) first limit 0 subject
      ≡ replaced_subject texts (entries_from one from by n) subject
  unfolding replaced_subject
  entries_change from by n h k =
      sym (walk_changes texts (started from by n) (how from by n) first limit
      (λ at c rest. answers_at n from by at c rest h k) subject)

no_fit : (texts subject : List ℕ) (depth at : ℕ) (rest : List ℕ)
    → subject ≡ with_each texts (walk depth texts [] at rest) subject
unfolding walk
no_fit texts subject zero at rest = refl
no_fit texts subject (suc depth) at [] = refl
no_fit texts subject (suc depth) at (c ∷ rest) = no_fit texts subject depth (at + 1) (drop 1 (c ∷ rest))

none_change : (texts subject : List ℕ) → subject ≡ replaced_subject texts [] subject
unfolding replaced_subject
none_change texts subject = no_fit texts subject (length subject) 0 subject

-- ---- the texts of an entry

text_is : (texts : List ℕ) (span : Span) → bytes_in texts span ≡ take span.length (drop span.start texts)
text_is texts span = ap (λ n. take n (drop span.start texts)) (omega arith)

fit_span : (size : ℕ) (what : Fit) (span : Span) → IsFit size what → text_of what ≡ Some span
    → IsSpan size span × (fit_length what ≡ span.length)
fit_span size f.Characters span is e = absurd cc
fit_span size (f.All text) span is e =
    let same : text ≡ span = same_Some text span e in (subst (IsSpan size) same is, ap (λ (x : Span). x.length) same)
fit_span size (f.Leading text) span is e =
    let same : text ≡ span = same_Some text span e in (subst (IsSpan size) same is, ap (λ (x : Span). x.length) same)
fit_span size (f.First text) span is e =
    let same : text ≡ span = same_Some text span e in (subst (IsSpan size) same is, ap (λ (x : Span). x.length) same)

-- by a table of what each character becomes
pub table_converts : (texts subject new : List ℕ) (one : Entry) (from by : Span) (limits : Progress) (table : ℕ → ℕ)
    → IsEntry (length texts) one → text_of one.fit ≡ Some from → one.by ≡ Some by
    → limits ≡ initial_progress texts subject one
    → ((c : ℕ) → c < 256 → table c ≡ character_for (bytes_in texts from) (bytes_in texts by) c)
    → ((how : ℕ → ℕ) → ((c : ℕ) → c < 256 → table c ≡ how c)
    → new ≡ changed_within how limits.first limits.limit 0 subject)
    → new ≡ replaced_subject texts (character_entries one) subject
table_converts texts subject new one from by limits table is has_from has_by begun sets changes =
    let n = from.length in
    let fit = fit_span (length texts) one.fit from is.fit has_from in
    let other : IsBy (length texts) one.fit (Some by) = subst (IsBy (length texts) one.fit) has_by is.by in
    let low = fit.0.within in
    let high = other.0.within in
    let same : by.length ≡ n = other.1 ∙ fit.1 in
    let to = how texts subject one from.start by.start n in
    let sets_to : (c : ℕ) → c < 256 → table c ≡ to c = λ c h.
    sets c h ∙ ap (λ l. character_for l (bytes_in texts by) c) (text_is texts from)
    ∙ ap (λ l. character_for (take n (drop from.start texts)) l c) (text_is texts by)
    ∙ ap (λ k. character_for (take n (drop from.start texts)) (take k (drop by.start texts)) c) same in
    let entries : character_entries one ≡ entries_from one from.start by.start n =
    ap (λ o. entries_between one o one.by) has_from ∙ ap (entries_between one (Some from)) has_by in
    changes to sets_to
    ∙ ap (λ (p : Progress). changed_within to p.first p.limit 0 subject) begun
    ∙ entries_change texts subject one from.start by.start n (omega (arith, low)) (omega (arith, high, same))
    ∙ ap (λ l. replaced_subject texts l subject) (sym entries)

pub without_text : (texts subject : List ℕ) (one : Entry) → text_of one.fit ≡ None
    → subject ≡ replaced_subject texts (character_entries one) subject
without_text texts subject one e =
    none_change texts subject
    ∙ ap (λ o. replaced_subject texts (entries_between one o one.by) subject) (sym e)

pub without_by : (texts subject : List ℕ) (one : Entry) → one.by ≡ None
    → subject ≡ replaced_subject texts (character_entries one) subject
without_by texts subject one e =
    none_change texts subject
    ∙ ap (λ l. replaced_subject texts l subject) (sym (nothing (text_of one.fit))
    ∙ ap (entries_between one (text_of one.fit)) (sym e))
  where
    nothing : (o : Option Span) → entries_between one o None ≡ []
    nothing None = refl
    nothing (Some from) = refl
