-- Runs fit where a text spells them, and the text that is told is the shortest.
use Rattle.std.proofs.Common.{◌≡◌, ◌≤◌, ◌<◌, ◌+◌, ◌-◌, ◌*◌, ◌/◌, ◌%◌, ◌^◌, ◌==◌, ℕ, zero, suc, Bool, true, false, ◌&&◌}
use Rattle.std.proofs.Common.{nat_le, nat_lt, IsTrue, if◌then◌else◌, List, [], ◌∷◌, ◌++◌, length, inl, inr, refl, sym}
use Rattle.std.proofs.Common.{ap, ◌∙◌, subst, length-append, arith, lit<, lit≤}
use Rattle.std.specs.Cmp.Derive.{both_true}
use Rattle.std.proofs.lemmas.Bool.{eqb-true, leb-true, le-leb}
use Rattle.std.proofs.lemmas.Bool.Decides.{nat_tests}
use Rattle.std.proofs.Math.Nat.{pow-succ', pow-le-pow_right}
use Rattle.picture.specs.declared.run.Run.{Run}
use Rattle.picture.specs.declared.symbol.Symbol.{Symbol}
use Rattle.picture.specs.declared.symbol.Symbol.TheVariants as s
use Rattle.std.specs.Char.{to_ascii_uppercase}
use Rattle.picture.specs.Runs.{symbol_count}
use Rattle.picture.specs.Text.{left_parenthesis, right_parenthesis, is_digit, number_from, AreDigits, Times}
use Rattle.picture.specs.Text.{InParentheses, Repeats, Pair, Writes, SpellsRuns}
use Rattle.picture.specs.Spelling.{decimal, repeat_count_text, count_most, can_repeat, letters, run_text, spelling_of}
use Rattle.picture.specs.Spelling.{fit_in}
use Rattle.picture.proofs.Numbers.{below_power, one_more}

split : (a b : Bool) → (a && b) ≡ true → (a ≡ true) × (b ≡ true)
split true b e = (refl, e)
split false b e = cc

-- ---- digits

value_end : (v : ℕ) (digits : List ℕ) (d : ℕ) → number_from v (digits ++ d ∷ []) ≡ number_from v digits * 10 + (d - 48)
value_end v [] d = refl
value_end v (digit ∷ more) d = value_end (v * 10 + (digit - 48)) more d

digits_end : (digits : List ℕ) (d : ℕ) → AreDigits digits → is_digit d ≡ true → AreDigits (digits ++ d ∷ [])
digits_end [] d h e = (e, tt)
digits_end (digit ∷ more) d h e = (h.0, digits_end more d h.1 e)

is_one_digit : (k : ℕ) → k < 10 → is_digit (48 + k) ≡ true
is_one_digit k h = grind (arith, nat_tests)

tenth : (n k : ℕ) → k < 10 ^ suc n → k / 10 < 10 ^ n
tenth n k h = let p = pow-succ' 10 n in omega arith

some_left : (n k : ℕ) → 10 ≤ k → k < 10 ^ suc n → 1 ≤ n
some_left zero k h e = absurd (omega arith)
some_left (suc n) k h e = omega arith

pub decimal_next : (n k : ℕ) → 10 ≤ k → decimal (suc n) k ≡ decimal n (k / 10) ++ (48 + k % 10) ∷ []
unfolding decimal
decimal_next n k h = let e : nat_lt k 10 ≡ false = grind (arith, nat_tests) in rw e refl

pub decimal_last : (n k : ℕ) → k < 10 → decimal (suc n) k ≡ (48 + k) ∷ []
unfolding decimal
decimal_last n k h = let e : nat_lt k 10 ≡ true = grind (arith, nat_tests) in rw e refl

record IsDecimal (k : ℕ) (text : List ℕ) : Type 0 where
  value : number_from 0 text ≡ k
  digits : AreDigits text

is_decimal : (n k : ℕ) → 1 ≤ n → k < 10 ^ n → IsDecimal k (decimal n k)
is_decimal zero k h e = absurd (omega arith)
is_decimal (suc n) k h e = go (λ i j. is_decimal n (k / 10) i j) (nat_lt k 10) refl
  where
    go : (1 ≤ n → k / 10 < 10 ^ n → IsDecimal (k / 10) (decimal n (k / 10))) → (b : Bool) → nat_lt k 10 ≡ b
        → IsDecimal k (decimal (suc n) k)
    go less true is =
        let small : k < 10 = grind (arith, nat_tests) in
        subst (IsDecimal k) (sym (decimal_last n k small))
        (record { value = omega arith; digits = (is_one_digit k small, tt) })
    go less false is =
        let large : 10 ≤ k = grind (arith, nat_tests) in
        let front = less (some_left n k large e) (tenth n k e) in
        let last = value_end 0 (decimal n (k / 10)) (48 + k % 10) in
        let front_value = front.value in
        subst (IsDecimal k) (sym (decimal_next n k large)) (record {
          value = omega arith;
          digits = digits_end (decimal n (k / 10)) (48 + k % 10) front.digits (is_one_digit (k % 10) (omega arith));
        })

decimal_short : (n m k : ℕ) → 1 ≤ m → k < 10 ^ m → length (decimal n k) ≤ m
unfolding decimal
decimal_short zero m k h e = omega arith
decimal_short (suc n) zero k h e = absurd (omega arith)
decimal_short (suc n) (suc m) k h e = go (λ i j. decimal_short n m (k / 10) i j) (nat_lt k 10) refl
  where
    go : (1 ≤ m → k / 10 < 10 ^ m → length (decimal n (k / 10)) ≤ m) → (b : Bool) → nat_lt k 10 ≡ b
        → length (if b then (48 + k) ∷ [] else decimal n (k / 10) ++ (48 + k % 10) ∷ []) ≤ suc m
    go less true is = omega arith
    go less false is =
        let large : 10 ≤ k = grind (arith, nat_tests) in
        let front = less (some_left m k large e) (tenth m k e) in
        omega (arith, length-append (decimal n (k / 10)) ((48 + k % 10) ∷ []))

digit_most : (byte : ℕ) → is_digit byte ≡ true → byte - 48 ≤ 9
digit_most byte e = grind (arith, nat_tests)

number_below : (v : ℕ) (digits : List ℕ) → AreDigits digits → number_from v digits < (v + 1) * 10 ^ length digits
number_below v [] h = below_power v 1 (lit≤ tt)
number_below v (digit ∷ more) h =
    let rest = number_below (v * 10 + (digit - 48)) more h.1 in
    let step = one_more v (digit - 48) (10 ^ length more) (10 ^ suc (length more)) (digit_most digit h.0)
    (pow-succ' 10 (length more)) in
    omega arith

-- ---- counts

Short : ℕ → List ℕ → Type 0
Short count text = (1 ≤ count) × (count < 10 ^ 27) × (length (repeat_count_text count) ≤ length text)

parentheses_short : (count : ℕ) (text : List ℕ) → InParentheses count text → length text ≤ 29 → Short count text
unfolding Short
parentheses_short count text h most = go (count == 1)
  where
    digits : List ℕ
    digits = h.0

    long : length text ≡ 2 + length digits
    long = omega (arith, ap length h.1, length-append digits (right_parenthesis ∷ []))

    below : count < 10 ^ length digits
    below = let n = number_below 0 digits h.2 in let e = h.3 in omega arith

    some : 1 ≤ length digits
    some = some_digit digits h.3
      where
        some_digit : (digits : List ℕ) → number_from 0 digits ≡ count → 1 ≤ length digits
        some_digit [] e = let one = h.4 in absurd (omega arith)
        some_digit (digit ∷ more) e = omega arith

    go : (b : Bool) → (1 ≤ count) × (count < 10 ^ 27)
        × (length (if b then [] else left_parenthesis ∷ (decimal 27 count ++ right_parenthesis ∷ [])) ≤ length text)
    go b = (
      h.4,
      (let p = pow-le-pow_right {n = 10} (lit< tt) (let e : length digits ≤ 27 = omega (arith, long) in e) in
          omega (arith, below, p)),
      inner b,
    )
      where
        inner : (b : Bool)
            → length (if b then [] else left_parenthesis ∷ (decimal 27 count ++ right_parenthesis ∷ [])) ≤ length text
        inner true = omega arith
        inner false = omega (
          arith,
          long,
          decimal_short 27 (length digits) count some below,
          length-append (decimal 27 count) (right_parenthesis ∷ []),
        )

times_short : (count : ℕ) (text : List ℕ) → Times count text → length text ≤ 29 → Short count text
unfolding Short
times_short count text (inl (none, one)) most = subst (λ n. (1 ≤ n) × (n < 10 ^ 27)
    × (length (repeat_count_text n) ≤ length text)) (sym one) (lit≤ tt, lit< tt, omega arith)
times_short count text (inr h) most = parentheses_short count text h most

times_told : (count : ℕ) → 1 ≤ count → count < 10 ^ 27 → Times count (repeat_count_text count)
times_told count h most = go (count == 1) refl
  where
    go : (b : Bool) → (count == 1) ≡ b
        → Times count (if b then [] else left_parenthesis ∷ (decimal 27 count ++ right_parenthesis ∷ []))
    go true is = inl (refl, eqb-true count 1 is)
    go false is = let d = is_decimal 27 count (lit≤ tt) most in inr (decimal 27 count, refl, d.digits, d.value, h)

-- ---- symbols

abbrev Least : Symbol → ℕ → List ℕ → Type 0
Least x count text = (can_repeat x count ≡ true) × (length (letters x ++ repeat_count_text count) ≤ length text)

within : (count limit : ℕ) → 1 ≤ count → count < limit → (nat_le 1 count && nat_lt count limit) ≡ true
within count limit h e = grind (arith, nat_tests)

single : (c count : ℕ) (text : List ℕ) → Repeats c count text → length text ≤ 30
    → ((nat_le 1 count && nat_lt count count_most) ≡ true) × (suc (length (repeat_count_text count)) ≤ length text)
unfolding Short
single c count text h most =
    let all = ap length h.2 in
    let t = times_short count h.1 h.4 (omega arith) in
    (within count (10 ^ 27) t.0 t.1, omega (arith, t.2))

once : (c count : ℕ) (text : List ℕ) → Repeats c count text → 1 ≤ length text
once c count text h = omega (arith, ap length h.2)

pair : (first second count : ℕ) (text : List ℕ) → Pair first second count text → (2 ≤ length text) × (count ≡ 1)
pair first second count text h =
    (omega (arith, once first 1 h.1 h.4, once second 1 h.2 h.5, ap length h.3, length-append h.1 h.2), h.0)

pair_least : (count : ℕ) (text : List ℕ) → (2 ≤ length text) × (count ≡ 1) → ((nat_le 1 count && nat_lt count 2) ≡ true)
    × (suc (suc (length (repeat_count_text count))) ≤ length text)
pair_least count text h = subst (λ n. ((nat_le 1 n && nat_lt n 2) ≡ true)
    × (suc (suc (length (repeat_count_text n))) ≤ length text)) (sym h.1) (refl, h.0)

least : (x : Symbol) (count : ℕ) (text : List ℕ) → Writes x count text → length text ≤ 30 → Least x count text
least s.A count text h most = single 65 count text h most
least s.X count text h most = single 88 count text h most
least s.Nine count text h most = single 57 count text h most
least s.S count text h most = single 83 count text h most
least s.V count text h most = single 86 count text h most
least s.B count text h most = single 66 count text h most
least s.Zero count text h most = single 48 count text h most
least s.Slash count text h most = single 47 count text h most
least s.Comma count text h most = single 44 count text h most
least s.Point count text h most = single 46 count text h most
least s.Z count text h most = single 90 count text h most
least s.Star count text h most = single 42 count text h most
least s.Plus count text h most = single 43 count text h most
least s.Minus count text h most = single 45 count text h most
least s.Currency count text h most = single 36 count text h most
least s.Cr count text h most = pair_least count text (pair 67 82 count text h)
least s.Db count text h most = pair_least count text (pair 68 66 count text h)

limits : (count limit : ℕ) → (nat_le 1 count && nat_lt count limit) ≡ true → (1 ≤ count) × (count < limit)
limits count limit e =
    let h = split (nat_le 1 count) (nat_lt count limit) e in
    let more = h.1 in
    (leb-true 1 count h.0, (let less : count < limit = grind (arith, nat_tests) in less))

single_told : (c count : ℕ) → to_ascii_uppercase c ≡ c → (nat_le 1 count && nat_lt count count_most) ≡ true
    → Repeats c count (c ∷ repeat_count_text count)
single_told c count upper e = let h =
    limits count count_most e in (c, repeat_count_text count, refl, upper, times_told count h.0 h.1)

pair_told : (first second count : ℕ) → to_ascii_uppercase first ≡ first → to_ascii_uppercase second ≡ second
    → (nat_le 1 count && nat_lt count 2) ≡ true
    → Pair first second count (first ∷ second ∷ repeat_count_text count)
pair_told first second count one two e =
    let h = limits count 2 e in
    let is : 1 ≡ count = omega arith in
    subst (λ n. Pair first second n (first ∷ second ∷ repeat_count_text n)) is (
      refl,
      first ∷ [],
      second ∷ [],
      refl,
      (first, [], refl, one, inl (refl, refl)),
      (second, [], refl, two, inl (refl, refl)),
    )

told : (x : Symbol) (count : ℕ) → can_repeat x count ≡ true → Writes x count (letters x ++ repeat_count_text count)
told s.A count e = single_told 65 count refl e
told s.X count e = single_told 88 count refl e
told s.Nine count e = single_told 57 count refl e
told s.S count e = single_told 83 count refl e
told s.V count e = single_told 86 count refl e
told s.B count e = single_told 66 count refl e
told s.Zero count e = single_told 48 count refl e
told s.Slash count e = single_told 47 count refl e
told s.Comma count e = single_told 44 count refl e
told s.Point count e = single_told 46 count refl e
told s.Z count e = single_told 90 count refl e
told s.Star count e = single_told 42 count refl e
told s.Plus count e = single_told 43 count refl e
told s.Minus count e = single_told 45 count refl e
told s.Currency count e = single_told 36 count refl e
told s.Cr count e = pair_told 67 82 count refl refl e
told s.Db count e = pair_told 68 66 count refl refl e

-- ---- runs

-- Runs that fit are spelled by their text, and it fits.
pub spelled : (room : ℕ) (runs : List Run) → fit_in room runs ≡ true
    → SpellsRuns runs (spelling_of runs) × (length (spelling_of runs) ≤ room)
unfolding fit_in
spelled room [] e = (refl, omega arith)
spelled room (run ∷ more) e =
    let both = split (can_repeat run.symbol run.count && nat_le (length (run_text run)) room) _ e in
    let each = split (can_repeat run.symbol run.count) (nat_le (length (run_text run)) room) both.0 in
    let rest = spelled (room - length (run_text run)) more both.1 in
    let fits = leb-true (length (run_text run)) room each.1 in (
      (run_text run, spelling_of more, refl, told run.symbol run.count each.0, rest.0),
      omega (arith, rest.1, length-append (run_text run) (spelling_of more)),
    )

-- Runs that a text spells fit where it does.
pub spells_fit : (room : ℕ) (runs : List Run) (text : List ℕ) → room ≤ 30 → SpellsRuns runs text → length text ≤ room
    → fit_in room runs ≡ true
unfolding fit_in
spells_fit room [] text most h short = refl
spells_fit room (run ∷ more) text most h short =
    let all = ap length h.2 ∙ length-append h.0 h.1 in
    let first = least run.symbol run.count h.0 h.3 (omega arith) in
    let fits = first.1 in
    both_true (both_true first.0 (le-leb (length (run_text run)) room (omega arith)))
    (spells_fit (room - length (run_text run)) more h.1 (omega arith) h.4 (omega arith))

at_least_one : (x : Symbol) (rest : List ℕ) → 1 ≤ length (letters x ++ rest)
at_least_one s.Cr rest = omega arith
at_least_one s.Db rest = omega arith
at_least_one s.A rest = omega arith
at_least_one s.X rest = omega arith
at_least_one s.Nine rest = omega arith
at_least_one s.S rest = omega arith
at_least_one s.V rest = omega arith
at_least_one s.B rest = omega arith
at_least_one s.Zero rest = omega arith
at_least_one s.Slash rest = omega arith
at_least_one s.Comma rest = omega arith
at_least_one s.Point rest = omega arith
at_least_one s.Z rest = omega arith
at_least_one s.Star rest = omega arith
at_least_one s.Plus rest = omega arith
at_least_one s.Minus rest = omega arith
at_least_one s.Currency rest = omega arith

below_limit : (b : Bool) (count : ℕ) → count < (if b then 2 else count_most) → count < 10 ^ 27
below_limit true count h = omega arith
below_limit false count h = h

pub count_below : (x : Symbol) (count : ℕ) → can_repeat x count ≡ true → count < 10 ^ 27
count_below x count e = let h = limits count _ e in below_limit _ count h.1

pub fit_total : (room : ℕ) (runs : List Run) → fit_in room runs ≡ true → symbol_count runs ≤ room * 10 ^ 27
unfolding fit_in symbol_count
fit_total room [] e = omega arith
fit_total room (run ∷ more) e =
    let both = split (can_repeat run.symbol run.count && nat_le (length (run_text run)) room) _ e in
    let each = split (can_repeat run.symbol run.count) (nat_le (length (run_text run)) room) both.0 in
    let rest = fit_total (room - length (run_text run)) more both.1 in
    let fits = leb-true (length (run_text run)) room each.1 in
    let one = at_least_one run.symbol (repeat_count_text run.count) in
    let count = count_below run.symbol run.count each.0 in
    omega arith

pub bounded : (b : Bool) (runs : List Run) → b ≡ fit_in 30 runs → IsTrue b → 2 * symbol_count runs < 2 ^ 128
bounded true runs e h = let most = fit_total 30 runs (sym e) in omega arith
bounded false runs e h = cc

-- one digit more is counted
pub counted : (number digits rest : ℕ) → 10 ≤ rest → 1 ≤ digits → rest < 10 ^ (27 - (digits - 1))
    → length (decimal 27 number) + 1 ≡ digits + length (decimal (27 - (digits - 1)) rest)
    → (digits + 1 ≤ 27) × (rest / 10 < 10 ^ (27 - (digits + 1 - 1)))
    × (length (decimal 27 number) + 1 ≡ digits + 1 + length (decimal (27 - (digits + 1 - 1)) (rest / 10)))
counted number digits rest large one small is = go (27 - (digits - 1)) refl small is
  where
    go : (room : ℕ) → 27 - (digits - 1) ≡ room → rest < 10 ^ room
        → length (decimal 27 number) + 1 ≡ digits + length (decimal room rest)
        → (digits + 1 ≤ 27) × (rest / 10 < 10 ^ (27 - (digits + 1 - 1)))
        × (length (decimal 27 number) + 1 ≡ digits + 1 + length (decimal (27 - (digits + 1 - 1)) (rest / 10)))
    go zero e small is = absurd (omega arith)
    go (suc room) e small is =
        let left = some_left room rest large small in
        let same : room ≡ 27 - (digits + 1 - 1) = omega arith in
        let next = ap length (decimal_next room rest large) in
        let longer = length-append (decimal room (rest / 10)) ((48 + rest % 10) ∷ []) in (
          omega arith,
          subst (λ n. rest / 10 < 10 ^ n) same (tenth room rest small),
          subst (λ n. length (decimal 27 number) + 1 ≡ digits + 1 + length (decimal n (rest / 10))) same (omega arith),
        )

pub counted_last : (number digits rest : ℕ) → rest < 10 → 1 ≤ digits → digits ≤ 27
    → length (decimal 27 number) + 1 ≡ digits + length (decimal (27 - (digits - 1)) rest)
    → digits ≡ length (decimal 27 number)
counted_last number digits rest small one most is = go (27 - (digits - 1)) refl is
  where
    go : (room : ℕ) → 27 - (digits - 1) ≡ room → length (decimal 27 number) + 1 ≡ digits + length (decimal room rest)
        → digits ≡ length (decimal 27 number)
    go zero e is = absurd (omega arith)
    go (suc room) e is = omega (arith, ap length (decimal_last room rest small))
