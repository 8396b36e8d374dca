-- What follows where a character begins no fit.
use Rattle.std.proofs.Common.{◌≡◌, ◌&&◌, leb, eqb, nat_eq, ℕ, zero, suc, ◌+◌, ◌<◌, ◌≤◌, Bool, true, false, List, []}
use Rattle.std.proofs.Common.{◌∷◌, length, drop, length-drop, get_or, set, refl, ap, sym, subst, ◌∙◌, arith}
use Rattle.std.proofs.Common.{inl, inr}
use Rattle.std.specs.Prelude.{Some, None, replicate, if◌then◌else◌}
use Rattle.std.specs.Option.{option_map}
use Rattle.std.specs.List.{starts_with}
use Rattle.std.proofs.Math.Bool.{and-false}
use Rattle.std.proofs.lemmas.Bool.{ne_eqb, cases_lt}
use Rattle.std.proofs.lemmas.List.{get_or-replicate, get_or_past, length-replicate, get_or-drop}
use Rattle.std.proofs.lemmas.List.Elements.{All-head, All-tail}
use Rattle.text_ops.specs.Entries.{bytes_in, fit_length}
use Rattle.text_ops.specs.declared.entry.Span.{Span}
use Rattle.text_ops.specs.declared.entry.Entry.{Entry}
use Rattle.text_ops.specs.declared.entry.Fit.{Fit}
use Rattle.text_ops.specs.declared.entry.Fit.TheVariants as f
use Rattle.text_ops.specs.Walk.{fits_at, fits, later, first_fit, FitsNone}
use Rattle.text_ops.specs.Beginnings.{text_of, Skips, AreMarked, entries_on}
use Rattle.text_ops.specs.declared.progress.Progress.{Progress}
use Rattle.text_ops.specs.declared.progress.Fitted.{Fitted}

-- where no entry fits, none is the first that does
pub none_fits : (texts : List ℕ) (marks : List Bool) (active : List Progress) (at : ℕ) (rest : List ℕ)
    → AreMarked texts marks active → 1 ≤ length rest → get_or marks (get_or rest 0 0) true ≡ false
    → first_fit texts active at rest ≡ None
none_fits texts marks [] at rest are some un = refl
none_fits texts marks (p ∷ more) at rest are some un =
    let P : Progress → Type 0 = λ x. Skips texts marks x.entry in
    let no : fits texts p at rest ≡ false = All-head P p more are p at rest refl some un in
    let others : first_fit texts more at rest ≡ None =
    none_fits texts marks more at rest (All-tail P p more are) some un in
    let here : Fitted = record { number = 0; progress = p; at = at } in
    ap (λ (b : Bool). if b then Some here else option_map later (first_fit texts more at rest)) no
    ∙ ap (option_map later) others

-- the same entries are marked
head_same : (e g : Entry) (es gs : List Entry) → e ∷ es ≡ g ∷ gs → e ≡ g
head_same e g es gs is = cc

tail_same : (e g : Entry) (es gs : List Entry) → e ∷ es ≡ g ∷ gs → es ≡ gs
tail_same e g es gs is = cc

pub still_marked : (texts : List ℕ) (marks : List Bool) (old new : List Progress) → entries_on new ≡ entries_on old
    → AreMarked texts marks old → AreMarked texts marks new
still_marked texts marks old [] same are k d h = absurd (omega arith)
still_marked texts marks [] (n ∷ new) same are k d h = absurd (cc)
still_marked texts marks (o ∷ old) (n ∷ new) same are zero d h =
    subst (Skips texts marks) (sym (head_same n.entry o.entry (entries_on new) (entries_on old) same))
    (are zero d (omega arith))
still_marked texts marks (o ∷ old) (n ∷ new) same are (suc k) d h =
    still_marked texts marks old new (tail_same n.entry o.entry (entries_on new) (entries_on old) same)
    (λ j e l. are (suc j) e (omega arith)) k d (omega arith)

pub entries_stay : (active : List Progress) (k : ℕ) (x : Progress)
    → ((d : Progress) → (get_or active k d).entry ≡ x.entry) → entries_on (set active k x) ≡ entries_on active
entries_stay [] k x is = refl
entries_stay (p ∷ more) zero x is = ap (λ (e : Entry). e ∷ entries_on more) (sym (is p))
entries_stay (p ∷ more) (suc k) x is = ap (λ (es : List Entry). p.entry ∷ es) (entries_stay more k x is)

-- an entry without a text: all are marked
all_true : (n c : ℕ) → get_or (replicate n true) c true ≡ false → true ≡ false
all_true n c un =
    elim (cases_lt c n) [
      | inl low ↦ sym (get_or-replicate n c true true low) ∙ un
      | inr high ↦ sym (get_or_past (replicate n true) c true (omega (arith, high, length-replicate n true))) ∙ un
    ]

pub all_skip : (texts : List ℕ) (n : ℕ) (entry : Entry) → Skips texts (replicate n true) entry
all_skip texts n entry = λ p at rest same some un. let never : true ≡ false = all_true n (get_or rest 0 0) un in cc

-- one more is marked
pub record Unmarked (marks : List Bool) (k c : ℕ) : Type 0 where
  pub before : get_or marks c true ≡ false
  pub other : c ≡ k → ⊥

one_more : (marks : List Bool) (k c : ℕ) → get_or (set marks k true) c true ≡ false → Unmarked marks k c
one_more [] k c un = absurd (cc)
one_more (m ∷ marks) zero zero un = absurd (cc)
one_more (m ∷ marks) zero (suc c) un = record { before = un; other = λ is. absurd (omega arith) }
one_more (m ∷ marks) (suc k) zero un = record { before = un; other = λ is. absurd (omega arith) }
one_more (m ∷ marks) (suc k) (suc c) un =
    let below = one_more marks k c un in
    record { before = below.before; other = λ is. below.other (omega arith) }

pub others_skip : (texts : List ℕ) (marks : List Bool) (k : ℕ) (entry : Entry) → Skips texts marks entry
    → Skips texts (set marks k true) entry
others_skip texts marks k entry skips =
    λ p at rest same some un. skips p at rest same some (one_more marks k (get_or rest 0 0) un).before

-- a text that begins with another character doesn't stand there
differs : (text rest : List ℕ) → 1 ≤ length text → 1 ≤ length rest → (get_or rest 0 0 ≡ get_or text 0 0 → ⊥)
    → starts_with nat_eq rest text ≡ false
differs [] rest some more not = absurd (omega arith)
differs (c ∷ text) [] some more not = absurd (omega arith)
differs (c ∷ text) (r ∷ rest) some more not =
    ap (λ (b : Bool). b && starts_with nat_eq rest text) (ne_eqb c r (λ is. not (sym is)))

stands_not : (texts : List ℕ) (p : Progress) (what : Fit) (at : ℕ) (rest : List ℕ) (text : Span)
    → text_of what ≡ Some text → starts_with nat_eq rest (bytes_in texts text) ≡ false
    → fits_at texts p what at rest ≡ false
stands_not texts p f.Characters at rest text is not = absurd (cc)
stands_not texts p (f.All span) at rest text is not =
    let same : span ≡ text = cc in
    ap (λ (s : Span). leb p.first at && starts_with nat_eq rest (bytes_in texts s)) same
    ∙ ap (λ (b : Bool). leb p.first at && b) not ∙ and-false (leb p.first at)
stands_not texts p (f.Leading span) at rest text is not =
    let same : span ≡ text = cc in
    ap (λ (s : Span). eqb p.first at && starts_with nat_eq rest (bytes_in texts s)) same
    ∙ ap (λ (b : Bool). eqb p.first at && b) not ∙ and-false (eqb p.first at)
stands_not texts p (f.First span) at rest text is not =
    let same : span ≡ text = cc in
    ap (λ (s : Span). leb p.first at && starts_with nat_eq rest (bytes_in texts s)) same
    ∙ ap (λ (b : Bool). leb p.first at && b) not ∙ and-false (leb p.first at)

pub own_skips : (texts : List ℕ) (marks : List Bool) (entry : Entry) (text : Span) (first : ℕ)
    → text_of entry.fit ≡ Some text → 1 ≤ length (bytes_in texts text) → first ≡ get_or (bytes_in texts text) 0 0
    → Skips texts (set marks first true) entry
own_skips texts marks entry text first is some front = λ p at rest same more un.
    let other = (one_more marks first (get_or rest 0 0) un).other in
    let not = differs (bytes_in texts text) rest some more (λ e. other (e ∙ sym front)) in
    let looks : text_of p.entry.fit ≡ Some text = ap (λ (e : Entry). text_of e.fit) same ∙ is in
    let bound = leb (at + fit_length p.entry.fit) p.limit in
    ap (λ (b : Bool). bound && b) (stands_not texts p p.entry.fit at rest text looks not) ∙ and-false bound

-- no entry fits at characters that aren't marked
pub none_unmarked : (texts : List ℕ) (marks : List Bool) (active : List Progress) (at n : ℕ) (rest : List ℕ)
    → AreMarked texts marks active → n ≤ length rest
    → ((k : ℕ) → k < n → get_or marks (get_or rest k 0) true ≡ false)
    → (k : ℕ) → k < n → first_fit texts active (at + k) (drop k rest) ≡ None
none_unmarked texts marks active at n rest are low un k lt =
    let some : 1 ≤ length (drop k rest) = omega (arith, length-drop k rest) in
    let first : get_or (drop k rest) 0 0 ≡ get_or rest k 0 =
    get_or-drop k rest 0 0 ∙ ap (λ (j : ℕ). get_or rest j 0) (let e : k + 0 ≡ k = omega arith in e) in
    none_fits texts marks active (at + k) (drop k rest) are some
    (ap (λ (c : ℕ). get_or marks c true) first ∙ un k lt)

-- the first of them
pub none_here : (texts : List ℕ) (active : List Progress) (at : ℕ) (rest : List ℕ)
    → None ≡ first_fit texts active at rest → 1 ≤ length rest → FitsNone texts active at rest 1
none_here texts active at rest none some = record {
  some = omega arith;
  within = some;
  none = λ k lt.
      let zero-th : k ≡ 0 = omega arith in
      subst (λ (j : ℕ). first_fit texts active (at + j) (drop j rest) ≡ None) (sym zero-th)
      (let same : at + 0 ≡ at = omega arith in
      ap (λ (place : ℕ). first_fit texts active place rest) same ∙ sym none);
}
