-- The order of texts: by parts, beside as many of one character, beside a literal that is repeated, and padded.
use Rattle.std.proofs.Common.{◌≡◌, ◌≢◌, ℕ, zero, suc, ◌+◌, ◌-◌, ◌≤◌, List, [], ◌∷◌, ◌++◌, length, take, drop, replicate}
use Rattle.std.proofs.Common.{max, refl, ap, sym, ◌∙◌, arith, inl, inr, ⊎_elim, length-append, length-drop, ◌⊎◌}
use Rattle.std.specs.declared.cmp.Ordering.{Ordering}
use Rattle.std.specs.declared.cmp.Ordering.TheVariants.{Less, Equal, Greater}
use Rattle.std.specs.Ordering.{nat_cmp, ordering_then, ordering_reverse}
use Rattle.std.specs.Cmp.Lexicographic.{slice_cmp}
use Rattle.std.proofs.lemmas.Cmp.{nat_list_cmp_total}
use Rattle.std.specs.List.{repeat}
use Rattle.std.proofs.lemmas.List.{take-append-le, take-append-drop, append-nil, length-take-le, take_all}
use Rattle.std.proofs.lemmas.List.{length-replicate}
use Rattle.std.proofs.Math.Seq.{take-append-add, take-length}
use Rattle.items.specs.Texts.{padded_text, repeated_text}
use Rattle.text_ops.specs.Compare.{order_of_texts}

abbrev pub order : List ℕ → List ℕ → Ordering
order xs ys = slice_cmp nat_cmp xs ys

-- ---- orders one after another

pub then_assoc : (a b c : Ordering) → ordering_then (ordering_then a b) c ≡ ordering_then a (ordering_then b c)
then_assoc Less b c = refl
then_assoc Equal b c = refl
then_assoc Greater b c = refl

pub then_decided : (a b : Ordering) → a ≢ Equal → ordering_then a b ≡ a
then_decided Less b ne = refl
then_decided Equal b ne = absurd (ne refl)
then_decided Greater b ne = refl

pub reverse_then : (a b : Ordering)
    → ordering_reverse (ordering_then a b) ≡ ordering_then (ordering_reverse a) (ordering_reverse b)
reverse_then Less b = refl
reverse_then Equal b = refl
reverse_then Greater b = refl

pub reversed : (xs ys : List ℕ) → order xs ys ≡ ordering_reverse (order ys xs)
reversed xs ys = nat_list_cmp_total.antisymm xs ys

pub parts : (a c b d : List ℕ) → length a ≡ length c → order (a ++ b) (c ++ d) ≡ ordering_then (order a c) (order b d)
parts [] [] b d e = refl
parts [] (y ∷ ys) b d e = absurd (omega arith)
parts (x ∷ xs) [] b d e = absurd (omega arith)
parts (x ∷ xs) (y ∷ ys) b d e =
    ap (λ o. ordering_then (nat_cmp x y) o) (parts xs ys b d (omega arith))
    ∙ sym (then_assoc (nat_cmp x y) (order xs ys) (order b d))

-- ---- beside a literal

le_or_more : (m size : ℕ) → (m ≤ size) ⊎ ((n : ℕ) × (m ≡ size + n))
le_or_more zero size = inl (omega arith)
le_or_more (suc m) zero = inr (suc m, omega arith)
le_or_more (suc m) (suc size) = ⊎_elim (λ h. inl (omega arith)) (λ w. inr (w.0, omega (arith, w.1))) (le_or_more m size)

alike_by : (m k j : ℕ) (l : List ℕ) → (m ≤ length l) ⊎ ((n : ℕ) × (m ≡ length l + n))
    → ((n : ℕ) → m ≡ length l + n → take n (repeat k l) ≡ take n (repeat j l))
    → take m (l ++ repeat k l) ≡ take m (l ++ repeat j l)
alike_by m k j l (inl h) more = take-append-le m l (repeat k l) h ∙ sym (take-append-le m l (repeat j l) h)
alike_by m k j l (inr w) more =
    rw w.1 (take-append-add l (repeat k l) w.0 ∙ ap (λ x. l ++ x) (more w.0 w.1)
    ∙ sym (take-append-add l (repeat j l) w.0))

repeat_alike : (m k j : ℕ) (l : List ℕ) → 1 ≤ length l → m ≤ k → m ≤ j → take m (repeat k l) ≡ take m (repeat j l)
repeat_alike zero k j l some mk mj = refl
repeat_alike (suc m) zero j l some mk mj = absurd (omega arith)
repeat_alike (suc m) (suc k) zero l some mk mj = absurd (omega arith)
repeat_alike (suc m) (suc k) (suc j) l some mk mj = alike_by (suc m) k j l (le_or_more (suc m) (length l))
    (λ n e. repeat_alike n k j l some (omega arith) (omega arith))

pub last_repeated : (m : ℕ) (l : List ℕ) → m ≤ length l → take m l ≡ repeated_text m l
last_repeated zero l h = refl
last_repeated (suc m) l h = sym (take-append-le (suc m) l (repeat m l) h)

pub next_repeated : (m : ℕ) (l : List ℕ) → 1 ≤ length l → repeated_text (length l + m) l ≡ l ++ repeated_text m l
next_repeated m l some =
    let size : length l + m ≡ suc (length l + m - 1) = omega arith in
    let e : repeat (length l + m) l ≡ l ++ repeat (length l + m - 1) l = ap (λ n. repeat n l) size in
    ap (take (length l + m)) e ∙ take-append-add l (repeat (length l + m - 1) l) m
    ∙ ap (λ x. l ++ x) (repeat_alike m (length l + m - 1) m l some (omega arith) (omega arith))

pub front_repeated : (text literal : List ℕ) → 1 ≤ length literal → length literal ≤ length text
    → order text (repeated_text (length text) literal) ≡ ordering_then (order (take (length literal) text) literal)
    (order (drop (length literal) text) (repeated_text (length (drop (length literal) text)) literal))
front_repeated text literal some h =
    let size : length text ≡ length literal + length (drop (length literal) text) =
    omega (arith, length-drop (length literal) text) in
    let whole : text ≡ take (length literal) text ++ drop (length literal) text =
    sym (take-append-drop (length literal) text) in
    let beside :
    repeated_text (length text) literal ≡ literal ++ repeated_text (length (drop (length literal) text)) literal =
    ap (λ n. repeated_text n literal) size ∙ next_repeated (length (drop (length literal) text)) literal some in
    ap (λ x. order text x) beside
    ∙ ap (λ x. order x (literal ++ repeated_text (length (drop (length literal) text)) literal)) whole
    ∙ parts (take (length literal) text) literal (drop (length literal) text)
    (repeated_text (length (drop (length literal) text)) literal) (length-take-le (length literal) text h)

pub front_decides : (text literal front back : List ℕ) (o : Ordering) → 1 ≤ length literal
    → length literal ≤ length text → front ≡ take (length literal) text → o ≡ order front literal → o ≢ Equal
    → o ≡ order text (repeated_text (length text) literal)
front_decides text literal front back o some h is e ne =
    let o-is : o ≡ order (take (length literal) text) literal = e ∙ ap (λ x. order x literal) is in
    let rest = order (drop (length literal) text) (repeated_text (length (drop (length literal) text)) literal) in
    sym (front_repeated text literal some h ∙ ap (λ x. ordering_then x rest) (sym o-is) ∙ then_decided o rest ne)

pub front_agrees : (text literal front back : List ℕ) (o : Ordering) → 1 ≤ length literal → length literal ≤ length text
    → front ≡ take (length literal) text → back ≡ drop (length literal) text → o ≡ order front literal → o ≡ Equal
    → order text (repeated_text (length text) literal) ≡ order back (repeated_text (length back) literal)
front_agrees text literal front back o some h is after e equal =
    let o-is : order (take (length literal) text) literal ≡ Equal =
    ap (λ x. order x literal) (sym is) ∙ sym e ∙ equal in
    let rest = order (drop (length literal) text) (repeated_text (length (drop (length literal) text)) literal) in
    front_repeated text literal some h ∙ ap (λ x. ordering_then x rest) o-is
    ∙ ap (λ x. order x (repeated_text (length x) literal)) (sym after)

-- ---- padded

max_right : (a b : ℕ) → a ≤ b → max a b ≡ b
max_right a b h = omega arith

max_swaps : (a b : ℕ) → max a b ≡ max b a
max_swaps a b = omega arith

pub texts_reversed : (one other : List ℕ) → order_of_texts one other ≡ ordering_reverse (order_of_texts other one)
unfolding order_of_texts
texts_reversed one other =
    let size = max (length other) (length one) in
    rw (max_swaps (length one) (length other)) (reversed (padded_text size one) (padded_text size other))

padded_longer : (text : List ℕ) → padded_text (length text) text ≡ text
padded_longer text = let e : length text - length text ≡ 0 = omega arith in rw (e, take-length text) (append-nil text)

padded_shorter : (size : ℕ) (text : List ℕ) → length text ≤ size
    → padded_text size text ≡ text ++ replicate (size - length text) 32
padded_shorter size text h = ap (λ x. x ++ replicate (size - length text) 32) (take_all size text h)

pub padded_order : (shorter front back : List ℕ) → length shorter ≡ length front → order_of_texts shorter
    (front ++ back) ≡ ordering_then (order shorter front) (ordering_reverse (order back (replicate (length back) 32)))
unfolding order_of_texts
padded_order shorter front back e =
    let longer = front ++ back in
    let sizes : length longer ≡ length front + length back = length-append front back in
    let size : max (length shorter) (length longer) ≡ length longer = omega arith in
    let room : length longer - length shorter ≡ length back = omega arith in
    let one : padded_text (length longer) shorter ≡ shorter ++ replicate (length back) 32 =
    padded_shorter (length longer) shorter (omega arith) ∙ ap (λ n. shorter ++ replicate n 32) room in
    let whole : padded_text (length longer) longer ≡ front ++ back = padded_longer longer in
    ap (λ n. order (padded_text n shorter) (padded_text n longer)) size
    ∙ ap (λ x. order x (padded_text (length longer) longer)) one
    ∙ ap (λ x. order (shorter ++ replicate (length back) 32) x) whole ∙ parts shorter front (replicate (length back) 32)
    back e ∙ ap (λ o. ordering_then (order shorter front) o) (reversed (replicate (length back) 32) back)

pub split_order : (shorter longer front back : List ℕ) → length shorter ≤ length longer
    → front ≡ take (length shorter) longer → back ≡ drop (length shorter) longer → order_of_texts shorter
    longer ≡ ordering_then (order shorter front) (ordering_reverse (order back (replicate (length back) 32)))
split_order shorter longer front back h is after =
    let whole : longer ≡ front ++ back = sym (ap (λ x. x ++ back) is ∙ ap (λ x. take (length shorter) longer ++ x) after
    ∙ take-append-drop (length shorter) longer) in
    let size : length shorter ≡ length front = sym (ap (λ x. length x) is ∙ length-take-le (length shorter) longer h) in
    ap (λ x. order_of_texts shorter x) whole ∙ padded_order shorter front back size

-- texts of one size
pub same_size : (one other : List ℕ) → length one ≡ length other → order_of_texts one other ≡ order one other
unfolding order_of_texts
same_size one other e =
    let size : max (length one) (length other) ≡ length one = omega arith in
    ap (λ n. order (padded_text n one) (padded_text n other)) size ∙ ap (λ x. order x (padded_text (length one) other))
    (padded_longer one) ∙ ap (λ n. order one (padded_text n other)) e ∙ ap (λ x. order one x) (padded_longer other)

pub beside_character : (text : List ℕ) (c : ℕ)
    → order_of_texts text (replicate (length text) c) ≡ order text (replicate (length text) c)
beside_character text c = same_size text (replicate (length text) c) (sym (length-replicate (length text) c))

length_repeat : (n : ℕ) (l : List ℕ) → 1 ≤ length l → n ≤ length (repeat n l)
length_repeat zero l some = omega arith
length_repeat (suc n) l some = omega (arith, length-append l (repeat n l), length_repeat n l some)

pub beside_repeated : (text literal : List ℕ) → 1 ≤ length literal
    → order_of_texts text (repeated_text (length text) literal) ≡ order text (repeated_text (length text) literal)
beside_repeated text literal some =
    same_size text (repeated_text (length text) literal)
    (sym (length-take-le (length text) (repeat (length text) literal) (length_repeat (length text) literal some)))
