-- The first entry that fits, and what is known of it.
use Rattle.std.proofs.Common.{◌≡◌, ◌&&◌, leb, eqb, nat_eq, ℕ, zero, suc, ◌+◌, ◌-◌, ◌<◌, ◌≤◌, Bool, true, false, cond}
use Rattle.std.proofs.Common.{List, [], ◌∷◌, map, length, take, drop, get_or, Option, Some, None, refl, ap, sym, subst}
use Rattle.std.proofs.Common.{◌∙◌, arith, length-drop, drop-drop, add-one}
use Rattle.std.specs.Option.{option_map}
use Rattle.std.proofs.lemmas.Bool.{leb-true}
use Rattle.std.proofs.lemmas.List.{length-take-le, length-take}
use Rattle.std.proofs.lemmas.List.Elements.{All-set}
use lib.Pointwise.{pointwise_long}
use Rattle.std.specs.List.{starts_with}
use Rattle.text_ops.specs.Entries.{bytes_in, fit_length, AreWithin, IsSpan, IsFit, IsEntry}
use Rattle.text_ops.specs.declared.entry.Span.{Span}
use Rattle.text_ops.specs.declared.entry.Entry.{Entry}
use Rattle.text_ops.specs.declared.entry.Fit.{Fit}
use Rattle.text_ops.specs.declared.entry.Fit.TheVariants as f
use Rattle.text_ops.specs.Walk.{initial_progress, fits_at, fits, progress_after, later, first_fit, walk_after, size_of}
use Rattle.text_ops.specs.Walk.{walk_on, walk, AreActive, IsFitted, FitsNone}
use Rattle.text_ops.specs.declared.progress.Progress.{Progress}
use Rattle.text_ops.specs.declared.progress.Fitted.{Fitted}

-- ---- counted from further on

abbrev pub counted : ℕ → Fitted → Fitted
counted by fitted = record fitted { number = fitted.number + by }

abbrev pub counted_from : ℕ → Option Fitted → Option Fitted
counted_from by o = option_map (counted by) o

-- ---- what was found

pub record IsFound (texts : List ℕ) (active : List Progress) (at : ℕ) (rest : List ℕ) (fitted : Fitted) : Type 0 where
  pub number : fitted.number < length active
  pub progress : (d : Progress) → get_or active fitted.number d ≡ fitted.progress
  pub fits : fits texts fitted.progress at rest ≡ true
  pub place : fitted.at ≡ at

found_later : (texts : List ℕ) (p : Progress) (more : List Progress) (at : ℕ) (rest : List ℕ) (fitted : Fitted)
    (o : Option Fitted) → ((g : Fitted) → o ≡ Some g → IsFound texts more at rest g) → option_map later o ≡ Some fitted
    → IsFound texts (p ∷ more) at rest fitted
found_later texts p more at rest fitted None known e = cc
found_later texts p more at rest fitted (Some g) known e =
    let one = known g refl in
    let h : later g ≡ fitted = cc in
    let P : Fitted → Type 0 = λ x. IsFound texts (p ∷ more) at rest x in
    subst P h (record {
      number = omega (arith, one.number);
      progress = λ d. rw (add-one g.number) (one.progress d);
      fits = one.fits;
      place = one.place;
    })

found_first :
    (texts : List ℕ) (p : Progress) (more : List Progress) (at : ℕ) (rest : List ℕ) (fitted : Fitted) (b : Bool)
    → fits texts p at rest ≡ b → ((g : Fitted) → first_fit texts more at rest ≡ Some g → IsFound texts more at rest g)
    → cond b (Some (record { number = 0; progress = p; at = at }))
    (option_map later (first_fit texts more at rest)) ≡ Some fitted → IsFound texts (p ∷ more) at rest fitted
found_first texts p more at rest fitted true is known e =
    let here : Fitted = record { number = 0; progress = p; at = at } in
    let h : here ≡ fitted = cc in
    let P : Fitted → Type 0 = λ x. IsFound texts (p ∷ more) at rest x in
    subst P h (record { number = omega arith; progress = λ d. refl; fits = is; place = refl })
found_first texts p more at rest fitted false is known e =
    found_later texts p more at rest fitted (first_fit texts more at rest) known e

pub found : (texts : List ℕ) (active : List Progress) (at : ℕ) (rest : List ℕ) (fitted : Fitted)
    → first_fit texts active at rest ≡ Some fitted → IsFound texts active at rest fitted
found texts [] at rest fitted e = cc
found texts (p ∷ more) at rest fitted e =
    found_first texts p more at rest fitted (fits texts p at rest) refl (λ g. found texts more at rest g) e

left_true : (b c : Bool) → (b && c) ≡ true → b ≡ true
left_true true c e = refl
left_true false c e = e

right_true : (b c : Bool) → (b && c) ≡ true → c ≡ true
right_true true c e = e
right_true false c e = cc

-- what fits ends within the limit
pub room_left : (texts : List ℕ) (p : Progress) (at : ℕ) (rest : List ℕ) → fits texts p at rest ≡ true
    → at + fit_length p.entry.fit ≤ p.limit
room_left texts p at rest e =
    leb-true (at + fit_length p.entry.fit) p.limit
    (left_true (leb (at + fit_length p.entry.fit) p.limit) (fits_at texts p p.entry.fit at rest) e)

-- ---- the size of what fits

pub span_size : (texts : List ℕ) (span : Span) → IsSpan (length texts) span → length (bytes_in texts span) ≡ span.length
span_size texts span is =
    length-take-le (span.start + span.length - span.start) (drop span.start texts)
    (omega (arith, length-drop span.start texts, is.within)) ∙ omega arith

stands_within : (texts : List ℕ) (span : Span) (rest : List ℕ) → IsSpan (length texts) span
    → starts_with nat_eq rest (bytes_in texts span) ≡ true → span.length ≤ length rest
stands_within texts span rest is stands =
    let alike = pointwise_long nat_eq (bytes_in texts span) (take (length (bytes_in texts span)) rest) stands in
    omega (arith, alike, span_size texts span is, length-take (length (bytes_in texts span)) rest)

sizes : (texts : List ℕ) (p : Progress) (what : Fit) (at : ℕ) (rest : List ℕ) → IsFit (length texts) what
    → 1 ≤ length rest → fits_at texts p what at rest ≡ true → (1 ≤ fit_length what) × (fit_length what ≤ length rest)
sizes texts p f.Characters at rest is some e = (omega arith, some)
sizes texts p (f.All text) at rest is some e = (
  is.some,
  stands_within texts text rest is (right_true (leb p.first at) (starts_with nat_eq rest (bytes_in texts text)) e),
)
sizes texts p (f.Leading text) at rest is some e = (
  is.some,
  stands_within texts text rest is (right_true (eqb p.first at) (starts_with nat_eq rest (bytes_in texts text)) e),
)
sizes texts p (f.First text) at rest is some e = (
  is.some,
  stands_within texts text rest is (right_true (leb p.first at) (starts_with nat_eq rest (bytes_in texts text)) e),
)

pub fitted_is : (texts : List ℕ) (active : List Progress) (at : ℕ) (rest : List ℕ) (fitted : Fitted)
    → AreActive active (length texts) → 1 ≤ length rest → first_fit texts active at rest ≡ Some fitted
    → IsFitted (length texts) (length active) at (length rest) fitted
fitted_is texts active at rest fitted are some e =
    let one = found texts active at rest fitted e in
    let entry : IsEntry (length texts) fitted.progress.entry =
    rw (one.progress fitted.progress) at (are fitted.number fitted.progress one.number) in
    let p = fitted.progress in
    let fit = sizes texts p p.entry.fit at rest entry.fit some
    (right_true (leb (at + fit_length p.entry.fit) p.limit) (fits_at texts p p.entry.fit at rest) one.fits) in
    record { number = one.number; entry = entry; at = one.place; some = fit.0; within = fit.1 }

pub entry_stays : (p : Progress) (what : Fit) (at : ℕ) → (progress_after p what at).entry ≡ p.entry
entry_stays p f.Characters at = refl
entry_stays p (f.All text) at = refl
entry_stays p (f.Leading text) at = refl
entry_stays p (f.First text) at = refl

pub still_active : (texts : List ℕ) (active : List Progress) (fitted : Fitted) → AreActive active (length texts)
    → IsEntry (length texts) fitted.progress.entry → AreActive (walk_after active (Some fitted)) (length texts)
still_active texts active fitted are is =
    let p = fitted.progress in
    let same : IsEntry (length texts) (progress_after p p.entry.fit fitted.at).entry =
    rw (entry_stays p p.entry.fit fitted.at) is in
    All-set (λ x. IsEntry (length texts) x.entry) active fitted.number (progress_after p p.entry.fit fitted.at) same are

pub active_begun : (texts subject : List ℕ) (entries : List Entry) (size : ℕ) → AreWithin entries size
    → AreActive (map (initial_progress texts subject) entries) size
active_begun texts subject [] size are k d h = absurd (omega arith)
active_begun texts subject (entry ∷ more) size are zero d h = are zero entry (omega arith)
active_begun texts subject (entry ∷ more) size are (suc k) d h =
    active_begun texts subject more size (λ j e l. are (suc j) e (omega arith)) k d (omega arith)

-- ---- on from here: all fits from a place on

pub record Goes (texts : List ℕ) (active : List Progress) (at : ℕ) (rest : List ℕ) (all : List Fitted) : Type 0 where
  pub depth : ℕ
  pub enough : length rest ≤ depth
  pub walk : all ≡ walk depth texts active at rest

pub goes_from : (texts : List ℕ) (active : List Progress) (at : ℕ) (rest : List ℕ)
    → Goes texts active at rest (walk (length rest) texts active at rest)
goes_from texts active at rest = record { depth = length rest; enough = omega arith; walk = refl }

none_at : (depth : ℕ) (texts : List ℕ) (active : List Progress) (at : ℕ) (rest : List ℕ) (all : List Fitted)
    → length rest ≤ depth → all ≡ walk depth texts active at rest → 1 ≤ length rest
    → first_fit texts active at rest ≡ None → Goes texts active (at + 1) (drop 1 rest) all
unfolding walk
none_at depth texts active at [] all enough is some e = absurd (omega arith)
none_at zero texts active at (c ∷ rest) all enough is some e = absurd (omega arith)
none_at (suc depth) texts active at (c ∷ rest) all enough is some e = record {
  depth = depth;
  enough = omega arith;
  walk = is ∙ ap (walk_on (walk depth texts) active at (c ∷ rest)) e;
}

pub goes_on : (texts : List ℕ) (active : List Progress) (at : ℕ) (rest : List ℕ) (all : List Fitted)
    → Goes texts active at rest all → 1 ≤ length rest → first_fit texts active at rest ≡ None
    → Goes texts active (at + 1) (drop 1 rest) all
goes_on texts active at rest all goes some e = none_at goes.depth texts active at rest all goes.enough goes.walk some e

some_at : (depth : ℕ) (texts : List ℕ) (active : List Progress) (at : ℕ) (rest : List ℕ) (all : List Fitted)
    (fitted : Fitted) → length rest ≤ depth → all ≡ walk depth texts active at rest → 1 ≤ length rest
    → 1 ≤ size_of fitted → first_fit texts active at rest ≡ Some fitted → (more : List Fitted) × (all ≡ fitted ∷ more)
    × Goes texts (walk_after active (Some fitted)) (at + size_of fitted) (drop (size_of fitted) rest) more
unfolding walk
some_at depth texts active at [] all fitted enough is some size e = absurd (omega arith)
some_at zero texts active at (c ∷ rest) all fitted enough is some size e = absurd (omega arith)
some_at (suc depth) texts active at (c ∷ rest) all fitted enough is some size e =
    let left = drop (size_of fitted) (c ∷ rest) in
    let more = walk depth texts (walk_after active (Some fitted)) (at + size_of fitted) left in
    let room : length left ≤ depth = omega (arith, length-drop (size_of fitted) (c ∷ rest)) in (
      more,
      is ∙ ap (walk_on (walk depth texts) active at (c ∷ rest)) e,
      record { depth = depth; enough = room; walk = refl },
    )

pub goes_past : (texts : List ℕ) (active : List Progress) (at : ℕ) (rest : List ℕ) (all : List Fitted) (fitted : Fitted)
    → Goes texts active at rest all → 1 ≤ length rest → 1 ≤ size_of fitted
    → first_fit texts active at rest ≡ Some fitted → (more : List Fitted) × (all ≡ fitted ∷ more)
    × Goes texts (walk_after active (Some fitted)) (at + size_of fitted) (drop (size_of fitted) rest) more
goes_past texts active at rest all fitted goes some size e =
    some_at goes.depth texts active at rest all fitted goes.enough goes.walk some size e

ended_at : (depth : ℕ) (texts : List ℕ) (active : List Progress) (at : ℕ) → walk depth texts active at [] ≡ []
unfolding walk
ended_at zero texts active at = refl
ended_at (suc depth) texts active at = refl

pub goes_out : (texts : List ℕ) (active : List Progress) (at : ℕ) (rest : List ℕ) (all : List Fitted)
    → Goes texts active at rest all → rest ≡ [] → all ≡ []
goes_out texts active at rest all goes e =
    goes.walk ∙ ap (walk goes.depth texts active at) e ∙ ended_at goes.depth texts active at

-- ---- a turn of a loop, which stands at a place of its subject

pub past_fit : (texts : List ℕ) (active new : List Progress) (at size : ℕ) (subject rest : List ℕ)
    (all : List Fitted) (fitted : Fitted) → Goes texts active at (drop at subject) all → at < length subject
    → rest ≡ drop at subject → Some fitted ≡ first_fit texts active at rest → 1 ≤ size_of fitted
    → new ≡ walk_after active (Some fitted) → size ≡ size_of fitted → (more : List Fitted) × (all ≡ fitted ∷ more)
    × Goes texts new (at + size) (drop (at + size) subject) more
past_fit texts active new at size subject rest all fitted goes h rest-is first some new-is size-is =
    let left = drop at subject in
    let some-left : 1 ≤ length left = omega (arith, length-drop at subject) in
    let is-first : first_fit texts active at left ≡ Some fitted =
    ap (first_fit texts active at) (sym rest-is) ∙ sym first in
    let past = goes_past texts active at left all fitted goes some-left some is-first in
    let further : drop (size_of fitted) left ≡ drop (at + size) subject =
    drop-drop (size_of fitted) at subject ∙ ap (λ n. drop (at + n) subject) (sym size-is) in
    let P : List Progress → Type 0 = λ xs. Goes texts xs (at + size) (drop (at + size) subject) past.0 in
    let Q : ℕ → Type 0 = λ n. Goes texts (walk_after active (Some fitted)) (at + n) (drop (at + size) subject) past.0 in
    let R : List ℕ → Type 0 = λ xs. Goes texts (walk_after active (Some fitted)) (at + size_of fitted) xs past.0 in
    (past.0, past.1, subst P (sym new-is) (subst Q (sym size-is) (subst R further past.2)))

pub past_none : (texts : List ℕ) (active : List Progress) (at n : ℕ) (subject rest : List ℕ) (all : List Fitted)
    → Goes texts active at (drop at subject) all → rest ≡ drop at subject → n ≤ length rest
    → ((k : ℕ) → k < n → first_fit texts active (at + k) (drop k rest) ≡ None)
    → Goes texts active (at + n) (drop (at + n) subject) all
past_none texts active at zero subject rest all goes is low none =
    let same : at + 0 ≡ at = omega arith in
    subst (λ (place : ℕ). Goes texts active place (drop place subject) all) (sym same) goes
past_none texts active at (suc n) subject rest all goes is low none =
    let before = past_none texts active at n subject rest all goes is (omega arith) (λ k h. none k (omega arith)) in
    let place = at + n in
    let long : length rest ≡ length (drop at subject) = ap length is in
    let some : 1 ≤ length (drop place subject) =
    omega (arith, length-drop place subject, length-drop at subject, long) in
    let same-rest : drop n rest ≡ drop place subject = ap (drop n) is ∙ drop-drop n at subject in
    let here : first_fit texts active place (drop place subject) ≡ None =
    ap (first_fit texts active place) (sym same-rest) ∙ none n (omega arith) in
    let next : Goes texts active (place + 1) (drop (place + 1) subject) all =
    subst (λ (xs : List ℕ). Goes texts active (place + 1) xs all) (drop-drop 1 place subject)
    (goes_on texts active place (drop place subject) all before some here) in
    let same : place + 1 ≡ at + suc n = omega arith in
    subst (λ (k : ℕ). Goes texts active k (drop k subject) all) same next

pub past_places : (texts : List ℕ) (active new : List Progress) (at n : ℕ) (subject rest : List ℕ) (all : List Fitted)
    → Goes texts active at (drop at subject) all → rest ≡ drop at subject → FitsNone texts active at rest n
    → new ≡ active → Goes texts new (at + n) (drop (at + n) subject) all
past_places texts active new at n subject rest all goes is none same =
    let P : List Progress → Type 0 = λ xs. Goes texts xs (at + n) (drop (at + n) subject) all in
    subst P (sym same) (past_none texts active at n subject rest all goes is none.within none.none)
