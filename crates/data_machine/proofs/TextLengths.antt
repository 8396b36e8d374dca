-- Lengths of texts among numbers, and entries that have them.
use Rattle.std.proofs.Common.{◌≡◌, ◌≢◌, ℕ, zero, suc, ◌+◌, ◌-◌, ◌<◌, ◌≤◌, Bool, true, false, cond, List, [], ◌∷◌, ◌++◌}
use Rattle.std.proofs.Common.{map, take, drop}
use Rattle.std.proofs.Common.{length, get_or, Some, None, refl, ap, sym, ◌∙◌, arith, take-suc, take_at}
use Rattle.std.specs.Prelude.{◌==◌, nat_le, reverse}
use Rattle.std.proofs.lemmas.Bool.Decides.{nat_tests}
use Rattle.std.proofs.lemmas.List.{length-reverse, reverse-append}
use Rattle.std.proofs.lemmas.List.Elements.{All-from_recursion, recursion_from_All}
use Rattle.text_ops.specs.declared.entry.Entry.{Entry}
use Rattle.source_tree.specs.Computed.{ArithmeticValue}
use Rattle.text_ops.specs.Entries.{IsEntry, AreWithin}
use Rattle.source_tree.specs.MeasuredTexts.{length_at}
use Rattle.source_tree.proofs.Measures.{entries_are, no_entries}
use Rattle.data_instructions.specs.declared.tables.Inspection.{Inspection}
use Rattle.data_instructions.specs.Scratch.{Scratch, Step, Stuck}
use Rattle.data_instructions.specs.Table.{natural_in, lengths_in, measured_by, measured_inspection, at_numbers}
use Rattle.data_machine.specs.Measured.{length_among}

pub none_measured : (numbers : List ArithmeticValue) (entries : List Entry) → numbers ≡ []
    → entries ≡ map (measured_by (reverse numbers)) entries
none_measured numbers entries e = sym (ap (λ l. map (measured_by (reverse l)) entries) e ∙ no_entries entries)

-- the newest two of the first ones
last_two : (numbers : List ArithmeticValue) (n : ℕ) (x y : ArithmeticValue) → n + 2 ≤ length numbers
    → x ≡ get_or numbers n x → y ≡ get_or numbers (suc n) y
    → reverse (take (n + 2) numbers) ≡ y ∷ x ∷ reverse (take n numbers)
last_two numbers n x y h a b =
    let two : n + 2 ≡ suc (suc n) = omega arith in
    ap (λ m. reverse (take m numbers)) two
    ∙ ap reverse (take-suc numbers (suc n) y (omega (arith, h)))
    ∙ reverse-append (take (suc n) numbers) (get_or numbers (suc n) y ∷ [])
    ∙ ap (λ z. z ∷ reverse (take (suc n) numbers)) (sym b)
    ∙ ap (λ l. y ∷ reverse l) (take-suc numbers n x (omega (arith, h)))
    ∙ ap (λ l. y ∷ l) (reverse-append (take n numbers) (get_or numbers n x ∷ []))
    ∙ ap (λ z. y ∷ z ∷ reverse (take n numbers)) (sym a)

-- by the last two, and by those before them
length_next : (numbers : List ArithmeticValue) (left at : ℕ) (x y : ArithmeticValue) → 2 ≤ left → left ≤ length numbers
    → x ≡ get_or numbers (left - 2) x → y ≡ get_or numbers (left - 1) y
    → length_among (reverse (take left numbers)) at
    ≡ cond (natural_in x == at) (Some (natural_in y)) (length_among (reverse (take (left - 2) numbers)) at)
length_next numbers left at x y some within a b =
    let n = left - 2 in
    let same : left ≡ n + 2 = omega (arith, some) in
    let before : left - 1 ≡ suc n = omega (arith, some) in
    ap (λ m. length_among (reverse (take m numbers)) at) same
    ∙ ap (λ l. length_among l at)
    (last_two numbers n x y (omega (arith, some, within)) a (b ∙ ap (λ m. get_or numbers m y) before))

pub length_here : (numbers : List ArithmeticValue) (left at : ℕ) (x y : ArithmeticValue) → 2 ≤ left
    → left ≤ length numbers → x ≡ get_or numbers (left - 2) x → y ≡ get_or numbers (left - 1) y
    → natural_in x ≡ at → length_among (reverse (take left numbers)) at ≡ Some (natural_in y)
length_here numbers left at x y some within a b e =
    length_next numbers left at x y some within a b
    ∙ ap (λ t. cond t (Some (natural_in y)) (length_among (reverse (take (left - 2) numbers)) at)) same
  where
    same : (natural_in x == at) ≡ true
    same = grind (arith, nat_tests, e)

-- the number after another is some number
pub length_before : (numbers : List ArithmeticValue) (left at : ℕ) (x : ArithmeticValue) → 2 ≤ left
    → left ≤ length numbers → x ≡ get_or numbers (left - 2) x → natural_in x ≢ at
    → length_among (reverse (take left numbers)) at ≡ length_among (reverse (take (left - 2) numbers)) at
length_before numbers left at x some within a e =
    let y = get_or numbers (left - 1) x in
    length_next numbers left at x y some within a (any numbers (left - 1) x (omega (arith, some, within)))
    ∙ ap (λ t. cond t (Some (natural_in y)) (length_among (reverse (take (left - 2) numbers)) at))
    (other (natural_in x == at) refl)
  where
    other : (t : Bool) → (natural_in x == at) ≡ t → t ≡ false
    other true s = absurd (e (grind (arith, nat_tests, s)))
    other false s = refl

    any : (xs : List ArithmeticValue) (n : ℕ) (d : ArithmeticValue) → n < length xs
        → get_or xs n d ≡ get_or xs n (get_or xs n d)
    any [] n d h = absurd (omega (arith, h))
    any (x ∷ xs) zero d h = refl
    any (x ∷ xs) (suc n) d h = any xs n d (omega (arith, h))

-- without two there is none
pub no_length : (numbers : List ArithmeticValue) (left at : ℕ) → left < 2
    → length_among (reverse (take left numbers)) at ≡ None
no_length numbers zero at h = refl
no_length [] (suc zero) at h = refl
no_length (x ∷ numbers) (suc zero) at h = refl
no_length numbers (suc (suc n)) at h = absurd (omega (arith, h))

-- one entry more
pub measured_next : (numbers : List ArithmeticValue) (entries : List Entry) (room : List Entry) (n : ℕ) (d : Entry)
    (one : Entry) → n < length entries → one ≡ measured_by (reverse numbers) (get_or entries n d)
    → take n room ≡ map (measured_by (reverse numbers)) (take n entries)
    → take n room ++ one ∷ [] ≡ map (measured_by (reverse numbers)) (take (n + 1) entries)
measured_next numbers entries room n d one h is so_far =
    let f = measured_by (reverse numbers) in
    let next : suc n ≡ n + 1 = omega arith in
    ap (λ l. l ++ one ∷ []) so_far
    ∙ ap (λ e. map f (take n entries) ++ e ∷ []) is
    ∙ sym (joined (take n entries))
    ∙ ap (map f) (sym (take-suc entries n d h))
    ∙ ap (λ m. map f (take m entries)) next
  where
    joined : (xs : List Entry) → map (measured_by (reverse numbers)) (xs ++ get_or entries n d ∷ [])
        ≡ map (measured_by (reverse numbers)) xs ++ measured_by (reverse numbers) (get_or entries n d) ∷ []
    joined [] = refl
    joined (x ∷ xs) = ap (λ l. measured_by (reverse numbers) x ∷ l) (joined xs)

-- the entries have their texts within the same bytes
pub measured_within : (numbers : List ArithmeticValue) (entries : List Entry) (size : ℕ) → AreWithin entries size
    → AreWithin (map (measured_by numbers) entries) size
measured_within numbers entries size h =
    All-from_recursion (IsEntry size) (map (measured_by numbers) entries)
    (entries_are (length_at (lengths_in numbers)) size entries (recursion_from_All (IsEntry size) entries h))

pub none_found : (one : Inspection) → measured_inspection [] one ≡ one
none_found one =
    ap (λ l. record one { tallying = l; replacing = map (measured_by []) one.replacing }) (no_entries one.tallying)
    ∙ ap (λ l. record one { replacing = l }) (no_entries one.replacing)

-- an instruction that takes these numbers
pub at_found : (n : ℕ) (found : List ArithmeticValue) (s : Scratch) (go : List ArithmeticValue → Scratch → Step)
    → length found ≡ n → n ≤ length s.numbers → s.numbers ≡ reverse found ++ drop n s.numbers
    → at_numbers n go s ≡ go (reverse found) (record s { numbers = drop n s.numbers })
at_found n found s go many within is =
    let t : Scratch = record s { numbers = drop n s.numbers } in
    let taken : take n s.numbers ≡ reverse found =
    ap (take n) is ∙ take_at (reverse found) (drop n s.numbers) n (length-reverse found ∙ many) in
    ap (λ b. cond b (go (take n s.numbers) t) Stuck) (enough n (length s.numbers) within)
    ∙ ap (λ l. go l t) taken
  where
    enough : (a b : ℕ) → a ≤ b → nat_le a b ≡ true
    enough a b h = grind (arith, nat_tests, h)

-- no numbers
pub at_none : (s : Scratch) (go : List ArithmeticValue → Scratch → Step) → at_numbers 0 go s ≡ go [] s
at_none s go = at_found 0 [] s go refl (omega arith) refl
