-- Runs of digits in two parts.
use Rattle.std.proofs.Common.{◌≡◌, ℕ, suc, ◌+◌, ◌-◌, ◌*◌, ◌^◌, ◌<◌, ◌≤◌, Bool, true, false, ◌&&◌, List, [], ◌∷◌, ◌++◌}
use Rattle.std.proofs.Common.{take, drop, length, get_or, Option, Some, None, if◌then◌else◌, refl, ap, sym, ◌∙◌, subst}
use Rattle.std.proofs.Common.{add-one, arith}
use Rattle.std.specs.Char.{is_ascii_digit}
use Rattle.std.specs.List.{list_all}
use Rattle.std.proofs.lemmas.List.{take-append-drop}
use Rattle.std.proofs.lemmas.List.Folds.{list_all-append}
use Rattle.std.proofs.lemmas.Nat.{pow-add}
use Rattle.std.proofs.Math.Seq.{drop-cons}
use Rattle.std.specs.Prelude.{IfSome}
use Rattle.std.proofs.Math.Nat.{pow-suc, mul_assoc, mul-le-mul_right, mul_comm, le-mul_of_pos_right}
use Rattle.decimal18.specs.Digits.{digits_after, number_after}
use Rattle.decimal18.specs.TotalOrder.{ten_pos}

pub behind_joined : (n : ℕ) (xs ys : List ℕ) → digits_after n (xs ++ ys) ≡ digits_after (digits_after n xs) ys
behind_joined n [] ys = refl
behind_joined n (x ∷ xs) ys = behind_joined (10 * n + (x - 48)) xs ys

one_place : (n d p r : ℕ) → (10 * n + d) * p + r ≡ n * (p * 10) + (d * p + r)
one_place n d p r = grind arith

-- What stands in front counts as many zeros as digits follow it.
pub behind_front : (n : ℕ) (xs : List ℕ) → digits_after n xs ≡ n * 10 ^ length xs + digits_after 0 xs
behind_front n [] = let e : n ≡ n * 1 + 0 = omega arith in e
behind_front n (x ∷ xs) =
    let none : 10 * 0 + (x - 48) ≡ x - 48 = omega arith in
    behind_front (10 * n + (x - 48)) xs
    ∙ one_place n (x - 48) (10 ^ length xs) (digits_after 0 xs)
    ∙ ap (λ r. n * (10 ^ length xs * 10) + r) (sym (ap (λ m. digits_after m xs) none ∙ behind_front (x - 48) xs))
    ∙ ap (λ p. n * p + digits_after (10 * 0 + (x - 48)) xs) (sym (pow-suc 10 (length xs)))

-- ---- the first eight digits, and those after them

some_parts : (b : Bool) (n m : ℕ) → Some m ≡ (if b then Some n else None) → (b ≡ true) × (m ≡ n)
some_parts true n m e = (refl, cc)
some_parts false n m e = cc

none_parts : (b : Bool) (n : ℕ) → None ≡ (if b then Some n else None) → b ≡ false
none_parts true n e = cc
none_parts false n e = refl

front_eight : (front e : ℕ) (xs : List ℕ) → length xs ≡ 8 → e ≡ digits_after 0 xs
    → 100000000 * front + e ≡ digits_after front xs
front_eight front e xs size is =
    let whole : front * 10 ^ 8 + digits_after 0 xs ≡ digits_after front xs =
    sym (behind_front front xs ∙ ap (λ k. front * 10 ^ k + digits_after 0 xs) size) in
    omega (arith, is, whole)

eight_before : (front e : ℕ) (xs ys : List ℕ) → length xs ≡ 8 → Some e ≡ number_after 0 xs
    → number_after (100000000 * front + e) ys ≡ number_after front (xs ++ ys)
eight_before front e xs ys size found =
    let parts = some_parts (list_all is_ascii_digit xs) (digits_after 0 xs) e found in
    ap (λ n. if list_all is_ascii_digit ys then Some (digits_after n ys) else None)
    (front_eight front e xs size parts.1)
    ∙ ap (λ n. if list_all is_ascii_digit ys then Some n else None) (sym (behind_joined front xs ys))
    ∙ ap (λ b. if b && list_all is_ascii_digit ys then Some (digits_after front (xs ++ ys)) else None) (sym parts.0)
    ∙ ap (λ b. if b then Some (digits_after front (xs ++ ys)) else None) (sym (list_all-append is_ascii_digit xs ys))

none_before : (front : ℕ) (xs ys : List ℕ) → None ≡ number_after 0 xs → None ≡ number_after front (xs ++ ys)
none_before front xs ys none =
    let fails = none_parts (list_all is_ascii_digit xs) (digits_after 0 xs) none in
    sym (ap (λ b. if b then Some (digits_after front (xs ++ ys)) else None) (list_all-append is_ascii_digit xs ys)
    ∙ ap (λ b. if b && list_all is_ascii_digit ys then Some (digits_after front (xs ++ ys)) else None) fails)

-- The same of a run that code has split.
pub split_found : (front e : ℕ) (cs xs ys : List ℕ) → xs ≡ take 8 cs → ys ≡ drop 8 cs → length xs ≡ 8
    → Some e ≡ number_after 0 xs → number_after (100000000 * front + e) ys ≡ number_after front cs
split_found front e cs xs ys first rest size found =
    eight_before front e xs ys size found
    ∙ ap (λ t. number_after front (t ++ ys)) first ∙ ap (λ t. number_after front (take 8 cs ++ t)) rest
    ∙ ap (number_after front) (take-append-drop 8 cs)

pub split_none : (front : ℕ) (cs xs ys : List ℕ) → xs ≡ take 8 cs → ys ≡ drop 8 cs → None ≡ number_after 0 xs
    → None ≡ number_after front cs
split_none front cs xs ys first rest none =
    none_before front xs ys none
    ∙ ap (λ t. number_after front (t ++ ys)) first ∙ ap (λ t. number_after front (take 8 cs ++ t)) rest
    ∙ ap (number_after front) (take-append-drop 8 cs)

-- ---- the room that is left

eight_more : (size rest : ℕ) → rest + 8 ≡ size → 10 ^ size ≡ 100000000 * 10 ^ rest
eight_more size rest e = ap (λ k. 10 ^ k) (sym e) ∙ pow-add 10 rest 8 ∙ mul_comm (10 ^ rest) (10 ^ 8)

pub less_room : (front e size rest : ℕ) → rest + 8 ≡ size → e < 10 ^ 8
    → (100000000 * front + e + 1) * 10 ^ rest ≤ (front + 1) * 10 ^ size
less_room front e size rest split small =
    let most : 100000000 * front + e + 1 ≤ (front + 1) * 100000000 = omega (arith, small) in
    let more : (100000000 * front + e + 1) * 10 ^ rest ≤ (front + 1) * 100000000 * 10 ^ rest =
    mul-le-mul_right (10 ^ rest) most in
    subst (λ n. (100000000 * front + e + 1) * 10 ^ rest ≤ n) (mul_assoc (front + 1) 100000000 (10 ^ rest)
    ∙ ap (λ p. (front + 1) * p) (sym (eight_more size rest split))) more

pub front_small : (front size rest : ℕ) → rest + 8 ≡ size → (front + 1) * 10 ^ size ≤ 10 ^ 18 → front + 1 ≤ 10 ^ 10
front_small front size rest split room =
    let some : 1 ≤ 10 ^ rest = ten_pos rest in
    let up : 100000000 ≤ 100000000 * 10 ^ rest = le-mul_of_pos_right 100000000 (ten_pos rest) in
    let least : (front + 1) * 100000000 ≤ (front + 1) * 10 ^ size =
    subst (λ p. (front + 1) * 100000000 ≤ (front + 1) * p) (sym (eight_more size rest split))
    (mul-le_left (front + 1) 100000000 (100000000 * 10 ^ rest) up) in
    omega (arith, least, room)
  where
    mul-le_left : (a b c : ℕ) → b ≤ c → a * b ≤ a * c
    mul-le_left a b c h = let flipped : b * a ≤ c * a =
        mul-le-mul_right a h in omega (arith, flipped, mul_comm a b, mul_comm a c)

-- ---- one digit after the other

pub next_room : (n d left all : ℕ) → d ≤ 9 → 0 < left → (n + 1) * 10 ^ left ≤ all
    → (10 * n + d + 1) * 10 ^ (left - 1) ≤ all
next_room n d left all small some room =
    let one : left ≡ suc (left - 1) = omega arith in
    let most : 10 * n + d + 1 ≤ (n + 1) * 10 = omega (arith, small) in
    let more : (10 * n + d + 1) * 10 ^ (left - 1) ≤ (n + 1) * 10 * 10 ^ (left - 1) =
    mul-le-mul_right (10 ^ (left - 1)) most in
    let same : (n + 1) * 10 * 10 ^ (left - 1) ≡ (n + 1) * 10 ^ left =
    mul_assoc (n + 1) 10 (10 ^ (left - 1)) ∙ ap (λ p. (n + 1) * p)
    (mul_comm 10 (10 ^ (left - 1)) ∙ sym (pow-suc 10 (left - 1)) ∙ ap (λ k. 10 ^ k) (sym one)) in
    omega (arith, more, same, room)

-- after the digit at a place of the run
pub room_after : (n d size at all : ℕ) → d ≤ 9 → at < size → (n + 1) * 10 ^ (size - at) ≤ all
    → (10 * n + d + 1) * 10 ^ (size - (at + 1)) ≤ all
room_after n d size at all small lt room =
    let left : size - at - 1 ≡ size - (at + 1) = omega arith in
    subst (λ k. (10 * n + d + 1) * 10 ^ k ≤ all) left (next_room n d (size - at) all small (omega arith) room)

pub room_now : (n left all : ℕ) → (n + 1) * 10 ^ left ≤ all → n < all
room_now n left all room =
    let up : n + 1 ≤ (n + 1) * 10 ^ left = le-mul_of_pos_right (n + 1) (ten_pos left) in
    omega (arith, up, room)

pub some_below : (r : Option ℕ) (a b : ℕ) → a ≤ b → IfSome r (λ n. n < a) → IfSome r (λ n. n < b)
some_below None a b h below = below
some_below (Some n) a b h below = omega (arith, h, below)

-- A digit of the run, where it is one.
pub digits_next : (cs : List ℕ) (i : ℕ) → i < length cs → is_ascii_digit (get_or cs i 0) ≡ true
    → list_all is_ascii_digit (drop (i + 1) cs) ≡ list_all is_ascii_digit (drop i cs)
digits_next cs i h digit =
    ap (λ k. list_all is_ascii_digit (drop k cs)) (add-one i)
    ∙ sym (ap (list_all is_ascii_digit) (drop-cons cs i 0 h)
    ∙ ap (λ b. b && list_all is_ascii_digit (drop (suc i) cs)) digit)
