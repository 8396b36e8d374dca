-- How many turns an integer says: digit by digit, and that no run can tell that some were cut.
use Rattle.std.proofs.Common.{◌≡◌, ℕ, zero, suc, ◌+◌, ◌-◌, ◌*◌, ◌^◌, ◌<◌, ◌≤◌, List, [], ◌∷◌, ◌++◌, length, refl, sym}
use Rattle.std.proofs.Common.{ap, ◌∙◌, ⊎_elim, arith, lit<}
use Rattle.std.specs.Prelude.{min}
use Rattle.std.specs.List.{AllByRecursion}
use Rattle.std.proofs.Math.Nat.{mul-le-mul_right, mul_assoc, pow-succ', pow-le-pow_right}
use Rattle.std.proofs.lemmas.Bool.{cases_lt}
use Rattle.decimal18.specs.Digits.{digits_after}
use Rattle.lexical.specs.declared.place.Place.{Place}
use Rattle.source_tree.specs.declared.literal.Integer.{Integer}
use Rattle.source_tree.specs.declared.statement.Statement.{Statement}
use Rattle.source_tree.specs.Integers.{number_of}
use Rattle.source_tree.specs.State.{State, Outcome, then_do, in_turn}
use Rattle.source_tree.specs.Performing.{turns, most_turns, IsDigit, turns_of}
use Rattle.source_tree.specs.Setting.{ProgramContext}
use Rattle.source_tree.specs.Meaning.{exec}
use Rattle.source_tree.proofs.Runs.{IsRun, in_turn_runs}
use Rattle.source_tree.proofs.StatementRuns.{exec_runs}
use Rattle.source_tree.proofs.Depth.{then_same, spend_same}

-- the integer with these digits
abbrev pub of_digits : Place → List ℕ → Integer
of_digits place digits = record { digits = digits; place = place }

behind_last : (n : ℕ) (digits : List ℕ) (digit : ℕ)
    → digits_after n (digits ++ digit ∷ []) ≡ 10 * digits_after n digits + (digit - 48)
behind_last n [] digit = refl
behind_last n (first ∷ more) digit = behind_last (10 * n + (first - 48)) more digit

cut_last : (n d : ℕ) → min (min (min n most_turns * 10) most_turns + d) most_turns ≡ min (10 * n + d) most_turns
cut_last n d = omega arith

-- one digit more, in numbers of eight bytes
pub turns_more : (place : Place) (digits : List ℕ) (digit : ℕ)
    → min (min (turns_of (of_digits place digits) * 10) most_turns + (digit - 48)) most_turns
    ≡ turns_of (of_digits place (digits ++ digit ∷ []))
turns_more place digits digit =
    cut_last (digits_after 0 digits) (digit - 48) ∙ ap (λ n. min n most_turns) (sym (behind_last 0 digits digit))

-- ---- 18 digits

below : (n : ℕ) (digits : List ℕ) → AllByRecursion IsDigit digits
    → digits_after n digits + 1 ≤ (n + 1) * 10 ^ length digits
below n [] all = omega arith
below n (first ∷ more) all =
    let next = 10 * n + (first - 48) in
    let p = 10 ^ length more in
    let rest = below next more all.1 in
    let wide : next + 1 ≤ (n + 1) * 10 = omega (arith, all.0) in
    let product = mul-le-mul_right p wide in
    let regrouped = mul_assoc (n + 1) 10 p in
    let power = ap (λ q. (n + 1) * q) (pow-succ' 10 (length more)) in
    omega (arith, rest, product, regrouped, power)

pub eighteen_digits : (count : Integer) → AllByRecursion IsDigit count.digits → length count.digits ≤ 18
    → turns_of count ≡ number_of count
eighteen_digits count all few =
    let most = below 0 count.digits all in
    let power : 10 ^ length count.digits ≤ 10 ^ 18 = pow-le-pow_right (lit< tt) few in
    let value : 10 ^ 18 ≡ 1000000000000000000 = refl in
    omega (arith, most, power, value)

-- ---- more turns than budget

-- with less of the budget than either says, two loops are the same
turns_same : (line : ℕ) (go : State → Outcome) → IsRun go → (n m : ℕ) (s : State) → s.budget < n → s.budget < m
    → turns line n go s ≡ turns line m go s
turns_same line go r zero m s below under = absurd (omega arith)
turns_same line go r (suc n) zero s below under = absurd (omega arith)
turns_same line go r (suc n) (suc m) s below under =
    spend_same s.budget line s (λ t. then_do (go t) (turns line n go)) (λ t. then_do (go t) (turns line m go))
    (λ left lt.
    let t : State = record s { budget = left; line = line } in
    then_same left (go t) (go t) (turns line n go) (turns line m go) (r.falls t) refl
    (record { by = λ u le. turns_same line go r n m u (omega arith) (omega arith) }))

pub cut_is_same : (around : ProgramContext) (count : Integer) (line depth : ℕ) (statements : List Statement) (s : State)
    → s.budget < most_turns
    → turns line (turns_of count) (in_turn (exec around depth) statements) s
    ≡ turns line (number_of count) (in_turn (exec around depth) statements) s
cut_is_same around count line depth statements s below =
    let go = in_turn (exec around depth) statements in
    ⊎_elim
    (λ less. let same : turns_of count ≡ number_of count = omega arith in ap (λ n. turns line n go s) same)
    (λ more. turns_same line go (in_turn_runs (exec around depth) (exec_runs around depth) statements) (turns_of count)
    (number_of count) s (omega arith) (omega arith))
    (cases_lt (number_of count) most_turns)
