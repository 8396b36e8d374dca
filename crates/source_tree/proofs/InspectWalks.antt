-- INSPECT's walk over texts does what its walk over spans of joined texts does. An entry over spans has a counter for
-- LEADING and a limit for FIRST; an entry over texts knows where its fits so far end.
use Rattle.std.proofs.Common.{◌≡◌, ◌≢◌, ◌&&◌, leb, eqb, ℕ, zero, suc, ◌+◌, ◌-◌, ◌≤◌, Bool, true, false, cond, List, []}
use Rattle.std.proofs.Common.{◌∷◌, ◌++◌, map, length, drop, Option, Some, None, refl, ap, sym, subst, ◌∙◌, arith}
use Rattle.std.proofs.Common.{append_assoc, length-append, length-drop, drop-drop, take_at, drop_at, add-one}
use Rattle.std.specs.Prelude.{slice_set, nat_eq}
use Rattle.std.specs.Option.{option_map, unwrap_or}
use Rattle.std.specs.List.{AllByRecursion, starts_with}
use Rattle.std.proofs.lemmas.Bool.{leb-true}
use Rattle.std.proofs.lemmas.Bool.Decides.{nat_tests}
use Rattle.std.proofs.lemmas.List.{length-take-le, length-map}
use Rattle.std.proofs.lemmas.List.Sums.{sum_by-cons}
use Rattle.text_ops.specs.declared.entry.Span.{Span}
use Rattle.text_ops.specs.declared.entry.Fit.{Fit}
use Rattle.text_ops.specs.declared.entry.Fit.TheVariants as f
use Rattle.text_ops.specs.declared.entry.Entry.{Entry}
use Rattle.text_ops.specs.declared.progress.Progress.{Progress}
use Rattle.text_ops.specs.declared.progress.Fitted.{Fitted}
use Rattle.text_ops.specs.Places.{first_place}
use Rattle.text_ops.specs.Entries.{bytes_in, fit_length, IsSpan, IsFit, IfSpan, IsBy, IsEntry}
use Rattle.text_ops.specs.Walk as spans
use Rattle.text_ops.specs.Walk.{fits_at, progress_after, later, walk_after, size_of, walk as walk_spans}
use Rattle.text_ops.specs.Inspect.{count_of, replacement, text_written_at, with_each, tally}
use Rattle.text_ops.specs.Inspect.{replaced_subject as replaced_spans}
use Rattle.source_tree.specs.declared.inspect_statement.Occurrences.TheVariants as how
use Rattle.source_tree.specs.InspectWalk.{Pattern, AnyCharacter, Occurrence, TextEntry, ActiveEntry, pattern_size}
use Rattle.source_tree.specs.InspectWalk.{first_place_after, end_before, entry_at_start, may_fit, is_met, fits}
use Rattle.source_tree.specs.InspectWalk.{after_fit, FirstFit, with_active_entry, first_fit, WalkResult, after_text}
use Rattle.source_tree.specs.InspectWalk.{walk_on, walk, tallies, replaced_subject}

-- ---- plain facts

and_true : (b : Bool) → (b && true) ≡ b
and_true true = refl
and_true false = refl

and_false : (b : Bool) → (b && false) ≡ false
and_false true = refl
and_false false = refl

left_true : (b c : Bool) → (b && c) ≡ true → b ≡ true
left_true true c e = refl
left_true false c e = e

right_true : (b c : Bool) → (b && c) ≡ true → c ≡ true
right_true true c e = e
right_true false c e = cc

at_any : (n m at first limit a b : ℕ) (c : Bool) → n ≡ m → first ≡ a → limit ≡ b
    → (leb (at + n) limit && (leb first at && c)) ≡ (leb (at + m) b && (leb a at && (c && true)))
at_any n m at first limit a b c e g h = rw (e, g, h) (ap (λ x. leb (at + m) b && (leb a at && x)) (sym (and_true c)))

at_one : (at first limit a b : ℕ) → first ≡ a → limit ≡ b
    → (leb (at + 1) limit && leb first at) ≡ (leb (at + 1) b && (leb a at && true))
at_one at first limit a b g h = rw (g, h) (ap (λ x. leb (at + 1) b && x) (sym (and_true (leb a at))))

-- LEADING's place lies within its limits
at_place : (a at next : ℕ) (c : Bool) → a ≤ next → (eqb next at && c) ≡ (leb a at && (c && eqb at next))
at_place a at next true h = grind (arith, nat_tests)
at_place a at next false h = grind (arith, nat_tests)

at_next : (n m at first limit a b next : ℕ) (c : Bool) → n ≡ m → first ≡ next → limit ≡ b → a ≤ next
    → (leb (at + n) limit && (eqb first at && c)) ≡ (leb (at + m) b && (leb a at && (c && eqb at next)))
at_next n m at first limit a b next c e g h le = rw (e, g, h)
    (ap (λ x. leb (at + m) b && x) (at_place a at next c le))

-- FIRST after its fit
at_none : (n m at limit : ℕ) (c d x y : Bool) → 1 ≤ n → limit ≡ 0
    → (leb (at + n) limit && c) ≡ (x && (y && (d && false)))
at_none n m at limit c d x y some none = ap (λ z. z && c) shut
    ∙ sym (ap (λ z. x && (y && z)) (and_false d) ∙ ap (λ z. x && z) (and_false y) ∙ and_false x)
  where
    shut : leb (at + n) limit ≡ false
    shut = grind (arith, nat_tests)

module _ (texts : List ℕ) where
  -- ---- an entry over spans with its texts

  abbrev pub pattern_of : Fit → Pattern
  pattern_of f.Characters = AnyCharacter
  pattern_of (f.All span) = Occurrence how.All (bytes_in texts span)
  pattern_of (f.Leading span) = Occurrence how.Leading (bytes_in texts span)
  pattern_of (f.First span) = Occurrence how.First (bytes_in texts span)

  abbrev pub text_of : Option Span → Option (List ℕ)
  text_of None = None
  text_of (Some span) = Some (bytes_in texts span)

  abbrev pub entry_of : Entry → TextEntry
  entry_of one = record {
    pattern = pattern_of one.fit;
    by = replacement texts one.by;
    before = text_of one.before;
    after = text_of one.after;
  }

  span_size : (span : Span) → IsSpan (length texts) span → length (bytes_in texts span) ≡ span.length
  span_size span is =
      length-take-le (span.start + span.length - span.start) (drop span.start texts)
      (omega (arith, length-drop span.start texts, is.within)) ∙ omega arith

  size_same : (what : Fit) → IsFit (length texts) what → pattern_size (pattern_of what) ≡ fit_length what
  size_same f.Characters is = refl
  size_same (f.All span) is = span_size span is
  size_same (f.Leading span) is = span_size span is
  size_same (f.First span) is = span_size span is

  size_some : (what : Fit) → IsFit (length texts) what → 1 ≤ fit_length what
  size_some f.Characters is = omega arith
  size_some (f.All span) is = is.some
  size_some (f.Leading span) is = is.some
  size_some (f.First span) is = is.some

  -- ---- how far it has come

  -- where LEADING fits next
  abbrev next : ℕ → List ℕ → ℕ
  next first [] = first
  next first (last ∷ others) = last

  -- up to where FIRST may still fit
  abbrev left : ℕ → List ℕ → ℕ
  left limit [] = limit
  left limit (last ∷ others) = 0

  abbrev IsAsFar : Fit → ℕ → ℕ → ActiveEntry → Type 0
  IsAsFar f.Characters first limit one = (first ≡ one.first) × (limit ≡ one.limit)
  IsAsFar (f.All span) first limit one = (first ≡ one.first) × (limit ≡ one.limit)
  IsAsFar (f.Leading span) first limit one = (first ≡ next one.first one.fit_ends) × (limit ≡ one.limit) ×
      (one.first ≤ next one.first one.fit_ends)
  IsAsFar (f.First span) first limit one = (first ≡ one.first) × (limit ≡ left one.limit one.fit_ends)

  -- ---- one place

  leads : (first : ℕ) (gone : List ℕ) (at : ℕ) → may_fit how.Leading first gone at ≡ eqb at (next first gone)
  leads first [] at = refl
  leads first (last ∷ others) at = refl

  first_met : (span : Span) (first limit at : ℕ) (rest : List ℕ) (one : ActiveEntry) (gone : List ℕ)
      → IsSpan (length texts) span → first ≡ one.first → limit ≡ left one.limit gone
      → (leb (at + span.length) limit && (leb first at && starts_with nat_eq rest (bytes_in texts span)))
      ≡ (leb (at + length (bytes_in texts span)) one.limit &&
      (leb one.first at && (starts_with nat_eq rest (bytes_in texts span) && may_fit how.First one.first gone
      at)))
  first_met span first limit at rest one [] is e h =
      at_any span.length (length (bytes_in texts span)) at first limit one.first one.limit
      (starts_with nat_eq rest (bytes_in texts span)) (sym (span_size span is)) e h
  first_met span first limit at rest one (last ∷ others) is e h =
      at_none span.length (length (bytes_in texts span)) at limit _ (starts_with nat_eq rest (bytes_in texts span)) _
      _ is.some h

  met : (what : Fit) (p : Progress) (one : ActiveEntry) (at : ℕ) (rest : List ℕ) → IsFit (length texts) what
      → IsAsFar what p.first p.limit one
      → (leb (at + fit_length what) p.limit && fits_at texts p what at rest)
      ≡ (leb (at + pattern_size (pattern_of what)) one.limit && (leb one.first at && is_met (pattern_of what) one at
      rest))
  met f.Characters p one at rest is far = at_one at p.first p.limit one.first one.limit far.0 far.1
  met (f.All span) p one at rest is far =
      at_any span.length (length (bytes_in texts span)) at p.first p.limit one.first one.limit
      (starts_with nat_eq rest (bytes_in texts span)) (sym (span_size span is)) far.0 far.1
  met (f.Leading span) p one at rest is far =
      let text = bytes_in texts span in
      let found = starts_with nat_eq rest text in
      at_next span.length (length text) at p.first p.limit one.first one.limit (next one.first one.fit_ends) found
      (sym (span_size span is)) far.0 far.1 far.2
      ∙ ap (λ x. leb (at + length text) one.limit && (leb one.first at && (found && x)))
      (sym (leads one.first one.fit_ends at))
  met (f.First span) p one at rest is far = first_met span p.first p.limit at rest one one.fit_ends is far.0 far.1

  -- ---- after a fit

  entry_stays : (p : Progress) (what : Fit) (at : ℕ) → (progress_after p what at).entry ≡ p.entry
  entry_stays p f.Characters at = refl
  entry_stays p (f.All text) at = refl
  entry_stays p (f.Leading text) at = refl
  entry_stays p (f.First text) at = refl

  behind_fit : (what : Fit) (p : Progress) (one : ActiveEntry) (at : ℕ)
      → pattern_size one.entry.pattern ≡ fit_length what → IsAsFar what p.first p.limit one → one.first ≤ at
      → IsAsFar what (progress_after p what at).first (progress_after p what at).limit (after_fit one at)
  behind_fit f.Characters p one at size far le = far
  behind_fit (f.All span) p one at size far le = far
  behind_fit (f.Leading span) p one at size far le = (ap (λ n. at + n) (sym size), far.1, omega (arith, le))
  behind_fit (f.First span) p one at size far le = (far.0, refl)

-- ---- counts, of entries by their number

abbrev raised : List ℕ → ℕ → List ℕ
raised [] n = []
raised (x ∷ xs) zero = suc x ∷ xs
raised (x ∷ xs) (suc n) = x ∷ raised xs n

abbrev all_raised : List Fitted → List ℕ → List ℕ
all_raised [] xs = xs
all_raised (one ∷ more) xs = all_raised more (raised xs one.number)

-- what is said of so many numbers, from one on
abbrev pub of_each : (ℕ → ℕ) → ℕ → ℕ → List ℕ
of_each count from zero = []
of_each count from (suc more) = count from ∷ of_each count (from + 1) more

each_same : (c d : ℕ → ℕ) (from k : ℕ) → ((n : ℕ) → from ≤ n → c n ≡ d n) → of_each c from k ≡ of_each d from k
each_same c d from zero h = refl
each_same c d from (suc k) h =
    ap (λ x. x ∷ of_each c (from + 1) k) (h from (omega arith))
    ∙ ap (λ l. d from ∷ l) (each_same c d (from + 1) k (λ n le. h n (omega (arith, le))))

raised_each : (c : ℕ → ℕ) (from k m : ℕ)
    → raised (of_each c from k) m ≡ of_each (λ n. c n + cond (eqb (from + m) n) 1 0) from k
raised_each c from zero m = refl
raised_each c from (suc k) zero =
    let here : suc (c from) ≡ c from + cond (eqb (from + 0) from) 1 0 = grind (arith, nat_tests) in
    ap (λ x. x ∷ of_each c (from + 1) k) here
    ∙ ap (λ l. (c from + cond (eqb (from + 0) from) 1 0) ∷ l) (each_same c (λ n. c n + cond (eqb (from + 0) n) 1 0)
    (from + 1) k (λ n le. grind (arith, nat_tests, le)))
raised_each c from (suc k) (suc m) =
    let here : c from ≡ c from + cond (eqb (from + suc m) from) 1 0 = grind (arith, nat_tests) in
    let there : from + 1 + m ≡ from + suc m = omega arith in
    ap (λ x. x ∷ raised (of_each c (from + 1) k) m) here
    ∙ ap (λ l. (c from + cond (eqb (from + suc m) from) 1 0) ∷ l) (raised_each c (from + 1) k m
    ∙ ap (λ s. of_each (λ n. c n + cond (eqb s n) 1 0) (from + 1) k) there)

all_raised_each : (all : List Fitted) (c : ℕ → ℕ) (k : ℕ)
    → all_raised all (of_each c 0 k) ≡ of_each (λ n. c n + count_of n all) 0 k
all_raised_each [] c k = each_same c (λ n. c n + count_of n []) 0 k (λ n le. omega arith)
all_raised_each (one ∷ more) c k =
    ap (all_raised more) (raised_each c 0 k one.number)
    ∙ all_raised_each more (λ n. c n + cond (eqb (0 + one.number) n) 1 0) k
    ∙ each_same (λ n. (c n + cond (eqb (0 + one.number) n) 1 0) + count_of n more)
    (λ n. c n + count_of n (one ∷ more)) 0 k (λ n le.
    let first : count_of n (one ∷ more) ≡ cond (eqb one.number n) 1 0 + count_of n more = sum_by-cons
    (λ (x : Fitted). cond (eqb x.number n) 1 0) one more in
    let same : ◌≡◌ {A = ℕ} (cond (eqb (0 + one.number) n) 1 0) (cond (eqb one.number n) 1 0) = ap
    (λ (m : ℕ). cond (eqb m n) 1 0) (omega arith) in
    omega (arith, first, same))

none_yet : (from k : ℕ) → (all : List ActiveEntry) → length all ≡ k → AllByRecursion (λ one. one.fit_ends ≡ []) all
    → map (λ one. length one.fit_ends) all ≡ of_each (λ n. 0) from k
none_yet from zero [] e h = refl
none_yet from zero (one ∷ more) e h = absurd (omega (arith, e))
none_yet from (suc k) [] e h = absurd (omega (arith, e))
none_yet from (suc k) (one ∷ more) e h = ap (λ l. length l ∷ map (λ (x : ActiveEntry). length x.fit_ends) more) h.0
    ∙ ap (λ l. 0 ∷ l) (none_yet (from + 1) k more (omega (arith, e)) h.1)

-- ---- the walk

abbrev count_in : ActiveEntry → ℕ
count_in one = length one.fit_ends

-- a fit takes so many characters
skipped : (rest : List ℕ) (active : List ActiveEntry) (at n : ℕ)
    → walk rest active at n ≡ walk (drop n rest) active (at + n) 0
unfolding walk
skipped rest active at zero = ap (λ k. walk rest active k 0) (omega arith)
skipped [] active at (suc n) = refl
skipped (c ∷ rest) active at (suc n) = skipped rest active (at + 1) n
    ∙ ap (λ k. walk (drop n rest) active k 0) (omega arith)

drop_some : (c n : ℕ) (rest : List ℕ) → 1 ≤ n → drop n (c ∷ rest) ≡ drop (n - 1) rest
drop_some c zero rest h = absurd (omega (arith, h))
drop_some c (suc n) rest h = ap (λ k. drop k rest) (omega arith)

skipped_some : (c : ℕ) (rest : List ℕ) (active : List ActiveEntry) (at n : ℕ) → 1 ≤ n
    → walk rest active (at + 1) (n - 1) ≡ walk (drop n (c ∷ rest)) active (at + n) 0
skipped_some c rest active at n h =
    skipped rest active (at + 1) (n - 1)
    ∙ ap (λ l. walk l active (at + 1 + (n - 1)) 0) (sym (drop_some c n rest h))
    ∙ ap (λ k. walk (drop n (c ∷ rest)) active k 0) (omega (arith, h))

-- after what is done a text is put in the place of as many characters
put_behind : (done by left : List ℕ) (at : ℕ) → length done ≡ at
    → text_written_at at by (done ++ left) ≡ (done ++ by) ++ drop (length by) left
put_behind done by left at e =
    ap (λ l. (l ++ by) ++ drop (at + length by) (done ++ left)) (take_at done left at e)
    ∙ ap (λ l. (done ++ by) ++ l) (sym (drop-drop (length by) at (done ++ left))
    ∙ ap (drop (length by)) (drop_at done left at e))

-- ---- Each entry over spans keeps what K says.

abbrev pub HasBy : Entry → Type 0
HasBy one = one.by ≢ None

module _ (texts : List ℕ) (K : Entry → Type 0) (is_entry : (one : Entry) → K one → IsEntry (length texts) one) where
  record Follows (p : Progress) (one : ActiveEntry) : Type 0 where
    keeps : K p.entry
    entry : one.entry ≡ entry_of texts p.entry
    far : IsAsFar texts p.entry.fit p.first p.limit one

  abbrev Follow : List Progress → List ActiveEntry → Type 0
  Follow [] [] = Unit {0}
  Follow [] (one ∷ more) = ⊥
  Follow (p ∷ ps) [] = ⊥
  Follow (p ∷ ps) (one ∷ more) = Follows p one × Follow ps more

  same_size : (p : Progress) (one : ActiveEntry) → Follows p one
      → pattern_size one.entry.pattern ≡ fit_length p.entry.fit
  same_size p one h = ap (λ (e : TextEntry). pattern_size e.pattern) h.entry
      ∙ size_same texts p.entry.fit (is_entry p.entry h.keeps).fit

  fits_same : (p : Progress) (one : ActiveEntry) (at : ℕ) (rest : List ℕ) → Follows p one
      → spans.fits texts p at rest ≡ fits one at rest
  fits_same p one at rest h =
      met texts p.entry.fit p one at rest (is_entry p.entry h.keeps).fit h.far
      ∙ ap (λ (e : TextEntry). leb (at + pattern_size e.pattern) one.limit &&
      (leb one.first at && is_met e.pattern one at rest)) (sym h.entry)

  follows_on : (p : Progress) (one : ActiveEntry) (at : ℕ) (rest : List ℕ) → Follows p one → fits one at rest ≡ true
      → Follows (progress_after p p.entry.fit at) (after_fit one at)
  follows_on p one at rest h e =
      let here = right_true (leb (at + pattern_size one.entry.pattern) one.limit)
      (leb one.first at && is_met one.entry.pattern one at rest) e in
      let le = leb-true one.first at (left_true (leb one.first at) (is_met one.entry.pattern one at rest) here) in
      let q = progress_after p p.entry.fit at in
      let stays : p.entry ≡ q.entry = sym (entry_stays texts p p.entry.fit at) in
      record {
        keeps = subst K stays h.keeps;
        entry = h.entry ∙ ap (entry_of texts) stays;
        far = subst (λ (x : Entry). IsAsFar texts x.fit q.first q.limit (after_fit one at)) stays
            (behind_fit texts p.entry.fit p one at (same_size p one h) h.far le);
      }

  record IsFound (ps : List Progress) (all : List ActiveEntry) (at : ℕ) (g : Fitted) (h : FirstFit) : Type 0 where
    keeps : K g.progress.entry
    entry : h.entry ≡ entry_of texts g.progress.entry
    place : g.at ≡ at
    active : Follow (walk_after ps (Some g)) h.active
    counts : map count_in h.active ≡ raised (map count_in all) g.number

  abbrev AreFound : List Progress → List ActiveEntry → ℕ → Option Fitted → Option FirstFit → Type 0
  AreFound ps all at None None = Unit {0}
  AreFound ps all at None (Some h) = ⊥
  AreFound ps all at (Some g) None = ⊥
  AreFound ps all at (Some g) (Some h) = IsFound ps all at g h

  found_later : (p : Progress) (ps : List Progress) (one : ActiveEntry) (all : List ActiveEntry) (at : ℕ)
      (o : Option Fitted) (q : Option FirstFit)
      → Follows p one → AreFound ps all at o q
      → AreFound (p ∷ ps) (one ∷ all) at (option_map later o) (option_map (with_active_entry one) q)
  found_later p ps one all at None None h found = tt
  found_later p ps one all at None (Some b) h found = absurd found
  found_later p ps one all at (Some a) None h found = absurd found
  found_later p ps one all at (Some a) (Some b) h found =
      let further : a.number + 1 ≡ suc a.number = add-one a.number in
      let there = progress_after a.progress a.progress.entry.fit a.at in
      record {
        keeps = found.keeps;
        entry = found.entry;
        place = found.place;
        active = subst (λ n. Follow (slice_set (p ∷ ps) n there) (one ∷ b.active)) (sym further) (h, found.active);
        counts = ap (λ l. count_in one ∷ l) found.counts
            ∙ ap (raised (count_in one ∷ map count_in all)) (sym further);
      }

  found_first : (b : Bool) (p : Progress) (ps : List Progress) (one : ActiveEntry) (all : List ActiveEntry) (at : ℕ)
      (rest : List ℕ) (o : Option Fitted) (q : Option FirstFit)
      → fits one at rest ≡ b → Follows p one → Follow ps all → AreFound ps all at o q
      → AreFound (p ∷ ps) (one ∷ all) at (cond b (Some (record { number = 0; progress = p; at = at }))
      (option_map later o))
      (cond b (Some (record { entry = one.entry; active = after_fit one at ∷ all }))
      (option_map (with_active_entry one) q))
  found_first true p ps one all at rest o q e h others found =
      record {
        keeps = h.keeps;
        entry = h.entry;
        place = refl;
        active = (follows_on p one at rest h e, others);
        counts = refl;
      }
  found_first false p ps one all at rest o q e h others found = found_later p ps one all at o q h found

  found_same : (ps : List Progress) (all : List ActiveEntry) (at : ℕ) (rest : List ℕ) → Follow ps all
      → AreFound ps all at (spans.first_fit texts ps at rest) (first_fit all at rest)
  found_same [] [] at rest h = tt
  found_same [] (one ∷ more) at rest h = absurd h
  found_same (p ∷ ps) [] at rest h = absurd h
  found_same (p ∷ ps) (one ∷ more) at rest h =
      let o = spans.first_fit texts ps at rest in
      let q = first_fit more at rest in
      subst (λ b. AreFound (p ∷ ps) (one ∷ more) at (cond b (Some (record { number = 0; progress = p; at = at }))
      (option_map later o)) (first_fit (one ∷ more) at rest))
      (sym (fits_same p one at rest h.0))
      (found_first (fits one at rest) p ps one more at rest o q refl h.0 h.1 (found_same ps more at rest h.1))

  -- ---- all places

  record Walks (all : List Fitted) (active : List ActiveEntry) (w : WalkResult) (at : ℕ) (rest : List ℕ) : Type 0
    where
      counts : map count_in w.active ≡ all_raised all (map count_in active)
      text : ((one : Entry) → K one → HasBy one) → (done : List ℕ) → length done ≡ at
          → with_each texts all (done ++ rest) ≡ done ++ w.text

  by_size : (one : Entry) → IsEntry (length texts) one → HasBy one
      → length (replacement texts one.by) ≡ fit_length one.fit
  by_size one is has = by_option one.by is.by has
    where
      by_option : (by : Option Span) → IsBy (length texts) one.fit by → by ≢ None
          → length (replacement texts by) ≡ fit_length one.fit
      by_option None is has = absurd (has refl)
      by_option (Some span) is has = span_size texts span is.0 ∙ is.1

  no_place : (all : List ActiveEntry) (at : ℕ) → Walks [] all (record { active = all; text = [] }) at []
  no_place all at = record { counts = refl; text = λ has done e. refl }

  past_none : (all : List Fitted) (active : List ActiveEntry) (w : WalkResult) (at c : ℕ) (rest : List ℕ)
      → Walks all active w (at + 1) rest → Walks all active (after_text (c ∷ []) w) at (c ∷ rest)
  past_none all active w at c rest h = record {
    counts = h.counts;
    text = λ has done e.
        let next : length (done ++ c ∷ []) ≡ at + 1 = omega (arith, length-append done (c ∷ []), e) in
        ap (with_each texts all) (sym (append_assoc done (c ∷ []) rest)) ∙ h.text has (done ++ c ∷ []) next
        ∙ append_assoc done (c ∷ []) w.text;
  }

  past_fit : (g : Fitted) (all : List Fitted) (ps : List Progress) (active : List ActiveEntry) (h : FirstFit)
      (w : WalkResult) (at : ℕ) (rest : List ℕ) → IsFound ps active at g h
      → Walks all h.active w (at + size_of g) (drop (size_of g) rest)
      → Walks (g ∷ all) active (after_text h.entry.by w) at rest
  past_fit g all ps active h w at rest found walks = record {
    counts = walks.counts ∙ ap (all_raised all) found.counts;
    text = λ has done e.
        let one = g.progress.entry in
        let by = replacement texts one.by in
        let size : length by ≡ size_of g = by_size one (is_entry one found.keeps) (has one found.keeps) in
        let next : length (done ++ by) ≡ at + size_of g = omega (arith, length-append done by, e, size) in
        ap (λ n. with_each texts all (text_written_at n by (done ++ rest))) found.place
        ∙ ap (with_each texts all) (put_behind done by rest at e ∙ ap (λ n. (done ++ by) ++ drop n rest) size)
        ∙ walks.text has (done ++ by) next
        ∙ append_assoc done by w.text
        ∙ ap (λ (x : TextEntry). done ++ (x.by ++ w.text)) (sym found.entry);
  }

  abbrev WalksOn : ℕ → Type 0
  WalksOn depth = (ps : List Progress) (active : List ActiveEntry) (at : ℕ) (rest : List ℕ) → Follow ps active
      → length rest ≤ depth
      → Walks (walk_spans depth texts ps at rest) active (walk rest active at 0) at rest

  past_place : (depth : ℕ) (on : WalksOn depth) (ps : List Progress) (active : List ActiveEntry) (at c : ℕ)
      (rest : List ℕ) → Follow ps active → length rest ≤ depth
      → (o : Option Fitted) (q : Option FirstFit) → AreFound ps active at o q
      → Walks (spans.walk_on (walk_spans depth texts) ps at (c ∷ rest) o) active (walk_on (walk rest) active at c q)
      at (c ∷ rest)
  past_place depth on ps active at c rest h le None None found = past_none _ active _ at c rest
      (on ps active (at + 1) rest h le)
  past_place depth on ps active at c rest h le None (Some b) found = absurd found
  past_place depth on ps active at c rest h le (Some a) None found = absurd found
  past_place depth on ps active at c rest h le (Some a) (Some b) found =
      let size = size_of a in
      let fit = (is_entry a.progress.entry found.keeps).fit in
      let some : 1 ≤ size = size_some texts a.progress.entry.fit fit in
      let long : pattern_size b.entry.pattern ≡ size = ap (λ (x : TextEntry). pattern_size x.pattern) found.entry
      ∙ size_same texts a.progress.entry.fit fit in
      let further : walk rest b.active (at + 1) (pattern_size b.entry.pattern - 1)
      ≡ walk (drop size (c ∷ rest)) b.active (at + size) 0 =
      ap (λ n. walk rest b.active (at + 1) (n - 1)) long ∙ skipped_some c rest b.active at size some in
      let more = on (walk_after ps (Some a)) b.active (at + size) (drop size (c ∷ rest)) found.active
      (omega (arith, length-drop size (c ∷ rest), le, some)) in
      subst (λ w. Walks (a ∷ walk_spans depth texts (walk_after ps (Some a)) (at + size) (drop size (c ∷ rest))) active
      (after_text b.entry.by w) at (c ∷ rest)) (sym further)
      (past_fit a _ ps active b _ at (c ∷ rest) found more)

  walks_on : (depth : ℕ) → WalksOn depth
  unfolding walk_spans walk
  walks_on zero ps active at [] h le = no_place active at
  walks_on zero ps active at (c ∷ rest) h le = absurd (omega (arith, le))
  walks_on (suc depth) ps active at [] h le = no_place active at
  walks_on (suc depth) ps active at (c ∷ rest) h le =
      past_place depth (walks_on depth) ps active at c rest h (omega (arith, le))
      (spans.first_fit texts ps at (c ∷ rest)) (first_fit active at (c ∷ rest))
      (found_same ps active at (c ∷ rest) h)

  -- ---- from the left

  after_same : (one : Option Span) (subject : List ℕ) → IfSpan (length texts) one
      → spans.first_place_after texts one subject ≡ first_place_after (text_of texts one) subject
  after_same None subject is = refl
  after_same (Some span) subject is = behind (first_place (bytes_in texts span) subject)
    where
      behind : (o : Option ℕ)
          → spans.end_of_first span.length (length subject) o
          ≡ unwrap_or (option_map (λ at. at + length (bytes_in texts span)) o) (length subject)
      behind None = refl
      behind (Some at) = ap (λ n. at + n) (sym (span_size texts span is))

  before_same : (one : Option Span) (subject : List ℕ)
      → spans.end_before texts one subject ≡ end_before (text_of texts one) subject
  before_same None subject = refl
  before_same (Some span) subject = up_to (first_place (bytes_in texts span) subject)
    where
      up_to : (o : Option ℕ) → spans.place_or (length subject) o ≡ unwrap_or o (length subject)
      up_to None = refl
      up_to (Some at) = refl

  begins : (what : Fit) (first limit : ℕ) (one : ActiveEntry) → first ≡ one.first → limit ≡ one.limit
      → one.fit_ends ≡ [] → IsAsFar texts what first limit one
  begins f.Characters first limit one e h none = (e, h)
  begins (f.All span) first limit one e h none = (e, h)
  begins (f.Leading span) first limit one e h none =
      let here : next texts one.first one.fit_ends ≡ one.first = ap (next texts one.first) none in
      (e ∙ sym here, h, omega (arith, here))
  begins (f.First span) first limit one e h none = (e, h ∙ sym (ap (left texts one.limit) none))

  follows_begun : (one : Entry) (subject : List ℕ) → K one
      → Follows (spans.initial_progress texts subject one) (entry_at_start subject (entry_of texts one))
  follows_begun one subject k = record {
    keeps = k;
    entry = refl;
    far = begins one.fit _ _ (entry_at_start subject (entry_of texts one))
        (after_same one.after subject (is_entry one k).after) (before_same one.before subject) refl;
  }

  follow_begun : (all : List Entry) (subject : List ℕ) → AllByRecursion K all
      → Follow (map (spans.initial_progress texts subject) all)
      (map (entry_at_start subject) (map (entry_of texts) all))
  follow_begun [] subject h = tt
  follow_begun (one ∷ more) subject h = (follows_begun one subject h.0, follow_begun more subject h.1)

  begun_none : (all : List TextEntry) (subject : List ℕ)
      → AllByRecursion (λ (one : ActiveEntry). one.fit_ends ≡ []) (map (entry_at_start subject) all)
  begun_none [] subject = tt
  begun_none (one ∷ more) subject = (refl, begun_none more subject)

  walks_whole : (all : List Entry) (subject : List ℕ) → AllByRecursion K all
      → Walks (spans.fits_of texts all subject) (map (entry_at_start subject) (map (entry_of texts) all))
      (walk subject (map (entry_at_start subject) (map (entry_of texts) all)) 0 0) 0 subject
  walks_whole all subject h = walks_on (length subject) _ _ 0 subject (follow_begun all subject h) (omega arith)

  pub tallied_same : (all : List Entry) (subject : List ℕ) → AllByRecursion K all
      → tallies (map (entry_of texts) all) subject ≡ of_each (tally texts all subject) 0 (length all)
  unfolding tallies tally
  tallied_same all subject h =
      let found = spans.fits_of texts all subject in
      let entries = map (entry_of texts) all in
      let active = map (entry_at_start subject) entries in
      (walks_whole all subject h).counts
      ∙ ap (all_raised found) (none_yet 0 (length all) active (length-map entries (entry_at_start subject)
      ∙ length-map all (entry_of texts)) (begun_none entries subject))
      ∙ all_raised_each found (λ n. 0) (length all)
      ∙ each_same (λ n. 0 + count_of n found) (λ n. count_of n found) 0 (length all) (λ n le. omega arith)

  pub replaced_same : (all : List Entry) (subject : List ℕ) → AllByRecursion K all
      → ((one : Entry) → K one → HasBy one)
      → replaced_subject (map (entry_of texts) all) subject ≡ replaced_spans texts all subject
  unfolding replaced_subject replaced_spans
  replaced_same all subject h has = sym ((walks_whole all subject h).text has [] refl)
