-- What is read from a text is spelled by it, and what it spells is read.
use Rattle.std.proofs.Common.{◌≡◌, ◌≤◌, ◌+◌, ◌-◌, ◌*◌, ◌==◌, ℕ, zero, suc, Bool, true, false, ◌&&◌, nat_le}
use Rattle.std.proofs.Common.{if◌then◌else◌, List, [], ◌∷◌, ◌++◌, length, Option, Some, None, inl, inr, refl, sym, ap}
use Rattle.std.proofs.Common.{◌∙◌, subst, append_assoc, length-append, arith}
use Rattle.std.proofs.lemmas.Bool.{eqb-true, leb-true, le-leb}
use Rattle.std.proofs.lemmas.List.{append-nil}
use Rattle.picture.specs.declared.run.Run.{Run}
use Rattle.picture.specs.declared.symbol.Symbol.{Symbol}
use Rattle.picture.specs.declared.symbol.Symbol.TheVariants as s
use Rattle.std.specs.Char.{to_ascii_uppercase}
use Rattle.picture.specs.Text.{left_parenthesis, right_parenthesis, is_digit, letter, number_from, AreDigits, Times}
use Rattle.picture.specs.Text.{Repeats, Pair, Writes, SpellsRuns, symbol_of, number_at, count_before_parenthesis}
use Rattle.picture.specs.Text.{count_at, with_character, character_at, with_symbol, with_second, pair_at, run_from}
use Rattle.picture.specs.Text.{after_character, run_at, then_runs, runs_from, runs_of}

some_is : {A : Type 0} {a b : A} → Some a ≡ Some b → a ≡ b
some_is e = cc

split : (a b : Bool) → (a && b) ≡ true → (a ≡ true) × (b ≡ true)
split true b e = (refl, e)
split false b e = cc

abbrev got : {A : Type 0} → A → List ℕ → Option (A × List ℕ)
got a rest = Some (a, rest)

-- ---- what is read is spelled

digits_found : (v : ℕ) (text : List ℕ) → (digits : List ℕ) × (text ≡ digits ++ (number_at v text).1) × AreDigits digits
    × (number_from v digits ≡ (number_at v text).0)
unfolding number_at
digits_found v [] = ([], refl, tt, refl)
digits_found v (byte ∷ more) = go (is_digit byte) refl (digits_found (v * 10 + (byte - 48)) more)
  where
    go : (b : Bool) → is_digit byte ≡ b
        → (digits : List ℕ) × (more ≡ digits ++ (number_at (v * 10 + (byte - 48)) more).1) × AreDigits digits
        × (number_from (v * 10 + (byte - 48)) digits ≡ (number_at (v * 10 + (byte - 48)) more).0)
        → (digits : List ℕ)
        × (byte ∷ more ≡ digits ++ (if b then number_at (v * 10 + (byte - 48)) more else (v, byte ∷ more)).1)
        × AreDigits digits
        × (number_from v digits ≡ (if b then number_at (v * 10 + (byte - 48)) more else (v, byte ∷ more)).0)
    go true e h = (byte ∷ h.0, ap (λ l. byte ∷ l) h.1, (e, h.2), h.3)
    go false e h = ([], refl, tt, refl)

closed_found : (number : ℕ) (text rest : List ℕ) (count : ℕ) → count_before_parenthesis number text ≡ got count rest
    → (text ≡ right_parenthesis ∷ rest) × (number ≡ count) × (1 ≤ count)
unfolding count_before_parenthesis
closed_found number [] rest count e = cc
closed_found number (byte ∷ more) rest count e = go ((byte == right_parenthesis) && nat_le 1 number) refl e
  where
    go : (b : Bool) → ((byte == right_parenthesis) && nat_le 1 number) ≡ b
        → (if b then got number more else None) ≡ got count rest
        → (byte ∷ more ≡ right_parenthesis ∷ rest) × (number ≡ count) × (1 ≤ count)
    go true is e =
        let both = split (byte == right_parenthesis) (nat_le 1 number) is in
        let pair = some_is e in
        let byte_is = eqb-true byte right_parenthesis both.0 in
        let number_is : number ≡ count = ap (λ p. p.0) pair in
        let more_is : more ≡ rest = ap (λ p. p.1) pair in
        (cc, number_is, subst (λ n. 1 ≤ n) number_is (leb-true 1 number both.1))
    go false is e = cc

count_found : (text rest : List ℕ) (count : ℕ) → count_at text ≡ got count rest
    → (front : List ℕ) × (text ≡ front ++ rest) × Times count front
unfolding count_at
count_found [] rest count e = ([], ap (λ p. p.1) (some_is e), inl (refl, sym (ap (λ p. p.0) (some_is e))))
count_found (byte ∷ more) rest count e = go (byte == left_parenthesis) refl e
  where
    go : (b : Bool) → (byte == left_parenthesis) ≡ b
        → (if b then count_before_parenthesis (number_at 0 more).0 (number_at 0 more).1 else got 1 (byte ∷ more)) ≡ got
        count rest
        → (front : List ℕ) × (byte ∷ more ≡ front ++ rest) × Times count front
    go true is e =
        let found = digits_found 0 more in
        let end = closed_found (number_at 0 more).0 (number_at 0 more).1 rest count e in
        let byte_is = eqb-true byte left_parenthesis is in
        let whole : more ≡ found.0 ++ right_parenthesis ∷ rest = found.1 ∙ ap (λ l. found.0 ++ l) end.0 in (
          left_parenthesis ∷ (found.0 ++ right_parenthesis ∷ []),
          ap (λ x. x ∷ more) byte_is
              ∙ ap (λ l. left_parenthesis ∷ l) (whole ∙ sym (append_assoc found.0 (right_parenthesis ∷ []) rest)),
          inr (found.0, refl, found.2, found.3 ∙ end.1, end.2),
        )
    go false is e = ([], ap (λ p. p.1) (some_is e), inl (refl, sym (ap (λ p. p.0) (some_is e))))

abbrev Front : List ℕ → ℕ × ℕ × List ℕ → Type 0
Front text x = (front : List ℕ) × (text ≡ front ++ x.2) × Repeats x.0 x.1 front

character_found : (text : List ℕ) (x : ℕ × ℕ × List ℕ) → character_at text ≡ Some x → Front text x
unfolding character_at
character_found [] x e = cc
character_found (byte ∷ more) x e = go (count_at more) refl e
  where
    go : (o : Option (ℕ × List ℕ)) → count_at more ≡ o → with_character byte o ≡ Some x → Front (byte ∷ more) x
    go None is e = cc
    go (Some counted) is e =
        let found = count_found more counted.1 counted.0 is in
        subst (Front (byte ∷ more)) (some_is e)
        (byte ∷ found.0, ap (λ l. byte ∷ l) found.1, (byte, found.0, refl, refl, found.2))

step : (c k : ℕ) (y x : Symbol) {rest : Option Symbol} → letter y ≡ k → (if c == k then Some y else rest) ≡ Some x
    → (rest ≡ Some x → c ≡ letter x) → c ≡ letter x
step c k y x {rest = rest} l e next = go (c == k) refl e
  where
    go : (b : Bool) → (c == k) ≡ b → (if b then Some y else rest) ≡ Some x → c ≡ letter x
    go true is e = eqb-true c k is ∙ sym l ∙ ap letter (some_is e)
    go false is e = next e

symbol_found : (c : ℕ) (x : Symbol) → symbol_of c ≡ Some x → c ≡ letter x
unfolding symbol_of
symbol_found c x e =
    step c 65 s.A x refl e
    (λ e. step c 88 s.X x refl e (λ e. step c 57 s.Nine x refl e (λ e. step c 83 s.S x refl e (λ e.
    step c 86 s.V x refl e
    (λ e. step c 66 s.B x refl e (λ e. step c 48 s.Zero x refl e (λ e. step c 47 s.Slash x refl e (λ e.
    step c 44 s.Comma x refl e
    (λ e. step c 46 s.Point x refl e (λ e. step c 90 s.Z x refl e (λ e. step c 42 s.Star x refl e (λ e.
    step c 43 s.Plus x refl e
    (λ e. step c 45 s.Minus x refl e (λ e. step c 36 s.Currency x refl e (λ e. none e)))))))))))))))
  where
    none : None ≡ Some x → c ≡ letter x
    none e = cc

-- a symbol that one character writes
single : (x : Symbol) (count : ℕ) (front : List ℕ) → symbol_of (letter x) ≡ Some x → Repeats (letter x) count front
    → Writes x count front
unfolding symbol_of
single s.A count front e h = h
single s.X count front e h = h
single s.Nine count front e h = h
single s.S count front e h = h
single s.V count front e h = h
single s.B count front e h = h
single s.Zero count front e h = h
single s.Slash count front e h = h
single s.Comma count front e h = h
single s.Point count front e h = h
single s.Z count front e h = h
single s.Star count front e h = h
single s.Plus count front e h = h
single s.Minus count front e h = h
single s.Currency count front e h = h
single s.Cr count front e h = cc
single s.Db count front e h = cc

abbrev Found : List ℕ → Run × List ℕ → Type 0
Found text x = (front : List ℕ) × (text ≡ front ++ x.1) × Writes x.0.symbol x.0.count front

abbrev Second : ℕ → Symbol → ℕ → List ℕ → Run × List ℕ → Type 0
Second second symbol count text x = (count ≡ 1) × (x.0 ≡ record { symbol = symbol; count = 1 }) × (other : List ℕ)
    × (text ≡ other ++ x.1) × Repeats second 1 other

second_found : (second : ℕ) (symbol : Symbol) (count : ℕ) (text : List ℕ) (x : Run × List ℕ)
    → pair_at second symbol count text ≡ Some x → Second second symbol count text x
unfolding pair_at
second_found second symbol count text x e = go (count == 1) refl e
  where
    check : (y : ℕ × ℕ × List ℕ) (b : Bool) → ((y.0 == second) && (y.1 == 1)) ≡ b → count ≡ 1 → Front text y
        → (if b then got (record { symbol = symbol; count = 1 }) y.2 else None) ≡ Some x
        → Second second symbol count text x
    check y true is one found e =
        let both = split (y.0 == second) (y.1 == 1) is in
        let rest_is = ap (λ p. p.1) (some_is e) in
        let second_is = eqb-true y.0 second both.0 in
        let one_is = eqb-true y.1 1 both.1 in (
          one,
          sym (ap (λ p. p.0) (some_is e)),
          found.0,
          found.1 ∙ ap (λ l. found.0 ++ l) rest_is,
          subst (λ n. Repeats second n found.0) one_is (subst (λ n. Repeats n y.1 found.0) second_is found.2),
        )
    check y false is one found e = cc

    inner : (o : Option (ℕ × ℕ × List ℕ)) → character_at text ≡ o → count ≡ 1 → with_second second symbol o ≡ Some x
        → Second second symbol count text x
    inner None is one e = cc
    inner (Some y) is one e = check y ((y.0 == second) && (y.1 == 1)) refl one (character_found text y is) e

    go : (b : Bool) → (count == 1) ≡ b → (if b then with_second second symbol (character_at text) else None) ≡ Some x
        → Second second symbol count text x
    go true is e = inner (character_at text) refl (eqb-true count 1 is) e
    go false is e = cc

-- two characters that write a symbol
pair_found : (first second : ℕ) (symbol : Symbol) (text : List ℕ) (y : ℕ × ℕ × List ℕ) (x : Run × List ℕ)
    → ((front : List ℕ) → Pair first second 1 front → Writes symbol 1 front)
    → y.0 ≡ first → Front text y → Second second symbol y.1 y.2 x → Found text x
pair_found first second symbol text y x writes first_is found other = (
  found.0 ++ other.2,
  found.1 ∙ ap (λ l. found.0 ++ l) other.3 ∙ sym (append_assoc found.0 other.2 x.1),
  subst (λ run. Writes run.symbol run.count (found.0 ++ other.2)) (sym other.1)
      (writes (found.0 ++ other.2) (
        refl,
        found.0,
        other.2,
        refl,
        subst (λ n. Repeats first n found.0) other.0 (subst (λ n. Repeats n y.1 found.0) first_is found.2),
        other.4,
      )),
)

run_found : (text : List ℕ) (x : Run × List ℕ) → run_at text ≡ Some x → Found text x
unfolding run_at run_from
run_found text x e = go (character_at text) refl e
  where
    other : (y : ℕ × ℕ × List ℕ) (o : Option Symbol) → symbol_of y.0 ≡ o → Front text y → with_symbol o y.1 y.2 ≡ Some x
        → Found text x
    other y None is found e = cc
    other y (Some symbol) is found e =
        let c_is = symbol_found y.0 symbol is in
        let same = ap symbol_of (sym c_is) ∙ is in
        subst (Found text) (some_is e)
        (found.0, found.1, single symbol y.1 found.0 same (subst (λ n. Repeats n y.1 found.0) c_is found.2))

    db : (y : ℕ × ℕ × List ℕ) (b : Bool) → (y.0 == 68) ≡ b → Front text y
        → (if b then pair_at 66 s.Db y.1 y.2 else with_symbol (symbol_of y.0) y.1 y.2) ≡ Some x → Found text x
    db y true is found e =
        pair_found 68 66 s.Db text y x (λ front h. h) (eqb-true y.0 68 is) found (second_found 66 s.Db y.1 y.2 x e)
    db y false is found e = other y (symbol_of y.0) refl found e

    cr : (y : ℕ × ℕ × List ℕ) (b : Bool) → (y.0 == 67) ≡ b → Front text y
        → (if b then pair_at 82 s.Cr y.1 y.2 else if y.0 == 68 then pair_at 66 s.Db y.1 y.2
        else with_symbol (symbol_of y.0) y.1 y.2) ≡ Some x → Found text x
    cr y true is found e =
        pair_found 67 82 s.Cr text y x (λ front h. h) (eqb-true y.0 67 is) found (second_found 82 s.Cr y.1 y.2 x e)
    cr y false is found e = db y (y.0 == 68) refl found e

    go : (o : Option (ℕ × ℕ × List ℕ)) → character_at text ≡ o → after_character o ≡ Some x → Found text x
    go None is e = cc
    go (Some y) is e = cr y (y.0 == 67) refl (character_found text y is) e

abbrev Rest : List Run → List Run → List ℕ → Type 0
Rest found all text = (more : List Run) × (all ≡ found ++ more) × SpellsRuns more text

runs_found : (turns : ℕ) (found all : List Run) (text : List ℕ) → runs_from turns found text ≡ Some all
    → Rest found all text
unfolding runs_from
runs_found turns found all [] e = ([], sym (some_is e) ∙ sym (append-nil found), refl)
runs_found zero found all (byte ∷ text) e = cc
runs_found (suc turns) found all (byte ∷ text) e =
    go (λ more rest. runs_found turns more all rest) (run_at (byte ∷ text)) refl e
  where
    go : ((more : List Run) (rest : List ℕ) → runs_from turns more rest ≡ Some all → Rest more all rest)
        → (o : Option (Run × List ℕ)) → run_at (byte ∷ text) ≡ o
        → then_runs o (λ run rest. runs_from turns (found ++ run ∷ []) rest) ≡ Some all → Rest found all (byte ∷ text)
    go again None is e = cc
    go again (Some x) is e =
        let first = run_found (byte ∷ text) x is in
        let others = again (found ++ x.0 ∷ []) x.1 e in
        (x.0 ∷ others.0, others.1 ∙ append_assoc found (x.0 ∷ []) others.0, (first.0, x.1, first.1, first.2, others.2))

-- The runs that are answered are spelled by the text, which is short enough.
pub runs_spelled : (text : List ℕ) (runs : List Run) → runs_of text ≡ Some runs
    → SpellsRuns runs text × (length text ≤ 30)
unfolding runs_of
runs_spelled text runs e = go (nat_le (length text) 30) refl e
  where
    go : (b : Bool) → nat_le (length text) 30 ≡ b → (if b then runs_from 30 [] text else None) ≡ Some runs
        → SpellsRuns runs text × (length text ≤ 30)
    go true is e = let found = runs_found 30 [] runs text e in
        (subst (λ l. SpellsRuns l text) (sym found.1) found.2, leb-true (length text) 30 is)
    go false is e = cc

-- ---- what is spelled is read

digits_read : (v : ℕ) (digits rest : List ℕ) → AreDigits digits
    → number_at v (digits ++ right_parenthesis ∷ rest) ≡ (number_from v digits, right_parenthesis ∷ rest)
unfolding number_at
digits_read v [] rest all = refl
digits_read v (digit ∷ more) rest all = rw all.0 (digits_read (v * 10 + (digit - 48)) more rest all.1)

NotOpening : List ℕ → Type 0
NotOpening [] = Unit {0}
NotOpening (byte ∷ more) = (byte == left_parenthesis) ≡ false

closed_read : (number : ℕ) (rest : List ℕ) → 1 ≤ number
    → count_before_parenthesis number (right_parenthesis ∷ rest) ≡ got number rest
unfolding count_before_parenthesis
closed_read number rest h = rw (le-leb 1 number h) refl

count_once : (rest : List ℕ) → NotOpening rest → count_at rest ≡ got 1 rest
unfolding count_at NotOpening
count_once [] h = refl
count_once (byte ∷ more) h = rw h refl

count_in : (text : List ℕ) (number : ℕ) (rest : List ℕ) → number_at 0 text ≡ (number, right_parenthesis ∷ rest)
    → 1 ≤ number → count_at (left_parenthesis ∷ text) ≡ got number rest
unfolding count_at
count_in text number rest e h = ap (λ x. count_before_parenthesis x.0 x.1) e ∙ closed_read number rest h

count_read : (count : ℕ) (front rest : List ℕ) → Times count front → NotOpening rest
    → count_at (front ++ rest) ≡ got count rest
count_read count front rest (inl h) n =
    ap (λ l. count_at (l ++ rest)) h.0 ∙ count_once rest n ∙ ap (λ k. got k rest) (sym h.1)
count_read count front rest (inr h) n =
    ap (λ l. count_at (l ++ rest)) h.1
    ∙ ap (λ l. count_at (left_parenthesis ∷ l)) (append_assoc h.0 (right_parenthesis ∷ []) rest)
    ∙ count_in (h.0 ++ right_parenthesis ∷ rest) (number_from 0 h.0) rest (digits_read 0 h.0 rest h.2)
    (subst (λ k. 1 ≤ k) (sym h.3) h.4)
    ∙ ap (λ k. got k rest) h.3

abbrev character : ℕ → ℕ → List ℕ → Option (ℕ × ℕ × List ℕ)
character c count rest = Some (c, count, rest)

character_of : (byte : ℕ) (text : List ℕ) (count : ℕ) (rest : List ℕ) → count_at text ≡ got count rest
    → character_at (byte ∷ text) ≡ character (to_ascii_uppercase byte) count rest
unfolding character_at
character_of byte text count rest e = ap (with_character byte) e

character_read : (c count : ℕ) (front rest : List ℕ) → Repeats c count front → NotOpening rest
    → character_at (front ++ rest) ≡ character c count rest
character_read c count front rest h n =
    ap (λ l. character_at (l ++ rest)) h.2 ∙ character_of h.0 (h.1 ++ rest) count rest (count_read count h.1 rest h.4 n)
    ∙ ap (λ x. character x count rest) h.3

-- a character that isn't `(` in upper case isn't it before
not_opening : (byte : ℕ) (more : List ℕ) (c : ℕ) → to_ascii_uppercase byte ≡ c → (c == left_parenthesis) ≡ false
    → NotOpening (byte ∷ more)
unfolding NotOpening
not_opening byte more c e h = go (byte == left_parenthesis) refl
  where
    go : (b : Bool) → (byte == left_parenthesis) ≡ b → b ≡ false
    go true is =
        let byte_is = eqb-true byte left_parenthesis is in
        let c_is : 40 ≡ c = sym (ap to_ascii_uppercase byte_is) ∙ e in
        ap (λ k. k == 40) c_is ∙ h
    go false is = refl

repeats_not_opening : (c count : ℕ) (front rest : List ℕ) → (c == left_parenthesis) ≡ false → Repeats c count front
    → NotOpening (front ++ rest)
repeats_not_opening c count front rest is h =
    subst (λ l. NotOpening (l ++ rest)) (sym h.2) (not_opening h.0 (h.1 ++ rest) c h.3 is)

pair_not_opening : (first second count : ℕ) (front rest : List ℕ) → (first == left_parenthesis) ≡ false
    → Pair first second count front → NotOpening (front ++ rest)
pair_not_opening first second count front rest is h =
    subst NotOpening (sym (append_assoc h.1 h.2 rest) ∙ ap (λ l. l ++ rest) (sym h.3))
    (repeats_not_opening first 1 h.1 (h.2 ++ rest) is h.4)

writes_not_opening : (x : Symbol) (count : ℕ) (front rest : List ℕ) → Writes x count front → NotOpening (front ++ rest)
writes_not_opening s.A count front rest h = repeats_not_opening 65 count front rest refl h
writes_not_opening s.X count front rest h = repeats_not_opening 88 count front rest refl h
writes_not_opening s.Nine count front rest h = repeats_not_opening 57 count front rest refl h
writes_not_opening s.S count front rest h = repeats_not_opening 83 count front rest refl h
writes_not_opening s.V count front rest h = repeats_not_opening 86 count front rest refl h
writes_not_opening s.B count front rest h = repeats_not_opening 66 count front rest refl h
writes_not_opening s.Zero count front rest h = repeats_not_opening 48 count front rest refl h
writes_not_opening s.Slash count front rest h = repeats_not_opening 47 count front rest refl h
writes_not_opening s.Comma count front rest h = repeats_not_opening 44 count front rest refl h
writes_not_opening s.Point count front rest h = repeats_not_opening 46 count front rest refl h
writes_not_opening s.Z count front rest h = repeats_not_opening 90 count front rest refl h
writes_not_opening s.Star count front rest h = repeats_not_opening 42 count front rest refl h
writes_not_opening s.Plus count front rest h = repeats_not_opening 43 count front rest refl h
writes_not_opening s.Minus count front rest h = repeats_not_opening 45 count front rest refl h
writes_not_opening s.Currency count front rest h = repeats_not_opening 36 count front rest refl h
writes_not_opening s.Cr count front rest h = pair_not_opening 67 82 count front rest refl h
writes_not_opening s.Db count front rest h = pair_not_opening 68 66 count front rest refl h

spells_not_opening : (runs : List Run) (text : List ℕ) → SpellsRuns runs text → NotOpening text
unfolding NotOpening
spells_not_opening [] text h = subst NotOpening (sym h) tt
spells_not_opening (run ∷ more) text h =
    subst NotOpening (sym h.2) (writes_not_opening run.symbol run.count h.0 h.1 h.3)

run_of : (c count : ℕ) (front rest : List ℕ) → Repeats c count front → NotOpening rest
    → run_at (front ++ rest) ≡ run_from c count rest
unfolding run_at
run_of c count front rest h n = ap after_character (character_read c count front rest h n)

second_read : (second : ℕ) (symbol : Symbol) (other rest : List ℕ) → (second == second) ≡ true → Repeats second 1 other
    → NotOpening rest
    → pair_at second symbol 1 (other ++ rest) ≡ got (record { symbol = symbol; count = 1 }) rest
unfolding pair_at
second_read second symbol other rest same h n =
    ap (with_second second symbol) (character_read second 1 other rest h n) ∙ rw same refl

pair_read : (first second count : ℕ) (symbol : Symbol) (front rest : List ℕ) → (second == second) ≡ true
    → (second == left_parenthesis) ≡ false
    → ((rest : List ℕ) → run_from first 1 rest ≡ pair_at second symbol 1 rest)
    → Pair first second count front → NotOpening rest
    → run_at (front ++ rest) ≡ got (record { symbol = symbol; count = count }) rest
pair_read first second count symbol front rest same other_is by h n =
    ap (λ l. run_at (l ++ rest)) h.3 ∙ ap run_at (append_assoc h.1 h.2 rest)
    ∙ run_of first 1 h.1 (h.2 ++ rest) h.4 (repeats_not_opening second 1 h.2 rest other_is h.5)
    ∙ by (h.2 ++ rest) ∙ second_read second symbol h.2 rest same h.5 n
    ∙ ap (λ k. got (record { symbol = symbol; count = k }) rest) (sym h.0)

run_read : (x : Symbol) (count : ℕ) (front rest : List ℕ) → Writes x count front → NotOpening rest
    → run_at (front ++ rest) ≡ got (record { symbol = x; count = count }) rest
unfolding run_from symbol_of
run_read s.A count front rest h n = run_of 65 count front rest h n
run_read s.X count front rest h n = run_of 88 count front rest h n
run_read s.Nine count front rest h n = run_of 57 count front rest h n
run_read s.S count front rest h n = run_of 83 count front rest h n
run_read s.V count front rest h n = run_of 86 count front rest h n
run_read s.B count front rest h n = run_of 66 count front rest h n
run_read s.Zero count front rest h n = run_of 48 count front rest h n
run_read s.Slash count front rest h n = run_of 47 count front rest h n
run_read s.Comma count front rest h n = run_of 44 count front rest h n
run_read s.Point count front rest h n = run_of 46 count front rest h n
run_read s.Z count front rest h n = run_of 90 count front rest h n
run_read s.Star count front rest h n = run_of 42 count front rest h n
run_read s.Plus count front rest h n = run_of 43 count front rest h n
run_read s.Minus count front rest h n = run_of 45 count front rest h n
run_read s.Currency count front rest h n = run_of 36 count front rest h n
run_read s.Cr count front rest h n = pair_read 67 82 count s.Cr front rest refl refl (λ rest. refl) h n
run_read s.Db count front rest h n = pair_read 68 66 count s.Db front rest refl refl (λ rest. refl) h n

-- ---- a run takes a character at least

repeats_long : (c count : ℕ) (front : List ℕ) → Repeats c count front → 1 ≤ length front
repeats_long c count front h = subst (λ l. 1 ≤ length l) (sym h.2) (omega arith)

pair_long : (first second count : ℕ) (front : List ℕ) → Pair first second count front → 1 ≤ length front
pair_long first second count front h =
    let one = repeats_long first 1 h.1 h.4 in let all = ap length h.3 ∙ length-append h.1 h.2 in omega arith

writes_long : (x : Symbol) (count : ℕ) (front : List ℕ) → Writes x count front → 1 ≤ length front
writes_long s.A count front h = repeats_long 65 count front h
writes_long s.X count front h = repeats_long 88 count front h
writes_long s.Nine count front h = repeats_long 57 count front h
writes_long s.S count front h = repeats_long 83 count front h
writes_long s.V count front h = repeats_long 86 count front h
writes_long s.B count front h = repeats_long 66 count front h
writes_long s.Zero count front h = repeats_long 48 count front h
writes_long s.Slash count front h = repeats_long 47 count front h
writes_long s.Comma count front h = repeats_long 44 count front h
writes_long s.Point count front h = repeats_long 46 count front h
writes_long s.Z count front h = repeats_long 90 count front h
writes_long s.Star count front h = repeats_long 42 count front h
writes_long s.Plus count front h = repeats_long 43 count front h
writes_long s.Minus count front h = repeats_long 45 count front h
writes_long s.Currency count front h = repeats_long 36 count front h
writes_long s.Cr count front h = pair_long 67 82 count front h
writes_long s.Db count front h = pair_long 68 66 count front h

no_text : (turns : ℕ) (found : List Run) → runs_from turns found [] ≡ Some found
unfolding runs_from
no_text zero found = refl
no_text (suc turns) found = refl

one_run : (turns : ℕ) (found : List Run) (text : List ℕ) (run : Run) (rest : List ℕ) → 1 ≤ length text
    → run_at text ≡ got run rest
    → runs_from (suc turns) found text ≡ runs_from turns (found ++ run ∷ []) rest
unfolding runs_from
one_run turns found [] run rest h e = absurd (omega arith)
one_run turns found (byte ∷ more) run rest h e =
    ap (λ o. then_runs o (λ run rest. runs_from turns (found ++ run ∷ []) rest)) e

runs_read : (turns : ℕ) (found runs : List Run) (text : List ℕ) → SpellsRuns runs text → length text ≤ turns
    → runs_from turns found text ≡ Some (found ++ runs)
runs_read turns found [] text h enough =
    ap (runs_from turns found) h ∙ no_text turns found ∙ ap Some (sym (append-nil found))
runs_read zero found (run ∷ more) text h enough =
    let long = writes_long run.symbol run.count h.0 h.3 in let all =
    ap length h.2 ∙ length-append h.0 h.1 in absurd (omega arith)
runs_read (suc turns) found (run ∷ more) text h enough =
    let long = writes_long run.symbol run.count h.0 h.3 in
    let all = ap length h.2 ∙ length-append h.0 h.1 in
    let first = ap run_at h.2 ∙ run_read run.symbol run.count h.0 h.1 h.3 (spells_not_opening more h.1 h.4) in
    one_run turns found text run h.1 (omega arith) first
    ∙ runs_read turns (found ++ run ∷ []) more h.1 h.4 (omega arith)
    ∙ ap Some (append_assoc found (run ∷ []) more)

-- The runs that a text of at most 30 characters spells are answered.
pub runs_answered : (text : List ℕ) (runs : List Run) → SpellsRuns runs text → length text ≤ 30
    → runs_of text ≡ Some runs
unfolding runs_of
runs_answered text runs h short = rw (le-leb (length text) 30 short) (runs_read 30 [] runs text h short)
