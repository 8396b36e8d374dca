-- The parts of what keeps its rules keep theirs.
use Rattle.std.proofs.Common.{◌≡◌, ℕ, zero, suc, ◌<◌, ◌≤◌, ◌*◌, ◌^◌, Bool, true, false, not, ◌&&◌, nat_le, List, []}
use Rattle.std.proofs.Common.{◌∷◌, ◌++◌, length, get_or, refl, ap, arith}
use Rattle.std.proofs.Math.Nat.{pow-le-pow_right}
use Rattle.std.specs.Char.{is_ascii_digit}
use Rattle.std.specs.List.{list_all}
use Rattle.lexical.specs.declared.place.Place.{Place}
use Rattle.source_tree.specs.declared.literal.Integer.{Integer}
use Rattle.source_tree.specs.declared.reference.Reference.{Reference}
use Rattle.source_tree.specs.declared.arithmetic.Receiver.{Receiver}
use Rattle.source_tree.specs.Broken.{RuleBreach, where_so, each}
use Rattle.source_tree.specs.NameRules.{is_integer, integer_rules, subscript_rules, part_rules, number_rules_of}
use Rattle.source_tree.specs.NameRules.{reference_rules}
use Rattle.source_tree.specs.Places.{LocatedItem}

pub front_kept : (xs ys : List RuleBreach) → xs ++ ys ≡ [] → xs ≡ []
front_kept [] ys e = refl
front_kept (x ∷ xs) ys e = cc

pub back_kept : (xs ys : List RuleBreach) → xs ++ ys ≡ [] → ys ≡ []
back_kept [] ys e = e
back_kept (x ∷ xs) ys e = cc

-- what is in front of two phrases, and both of them
pub phrases_kept : (own first second : List RuleBreach) → own ++ (first ++ second) ≡ []
    → (own ≡ []) × (first ≡ []) × (second ≡ [])
phrases_kept own first second e =
    let phrases = back_kept own (first ++ second) e in
    (front_kept own (first ++ second) e, front_kept first second phrases, back_kept first second phrases)

pub both_kept : (xs ys : List RuleBreach) → xs ≡ [] → ys ≡ [] → xs ++ ys ≡ []
both_kept [] ys e f = f
both_kept (x ∷ xs) ys e f = cc

pub one_kept : {A : Type 0} (rules : A → List RuleBreach) (all : List A) (i : ℕ) (d : A) → i < length all
    → each rules all ≡ [] → rules (get_or all i d) ≡ []
one_kept rules [] i d lt e = absurd (omega arith)
one_kept rules (one ∷ more) zero d lt e = front_kept (rules one) (each rules more) e
one_kept rules (one ∷ more) (suc i) d lt e =
    one_kept rules more i d (omega arith) (back_kept (rules one) (each rules more) e)

-- the numbers of references whose items keep their rules
pub numbers_kept : (items : List LocatedItem) (asked : Place → LocatedItem → List RuleBreach) (all : List Reference)
    → each (reference_rules items asked) all ≡ [] → each (number_rules_of items) all ≡ []
numbers_kept items asked [] e = refl
numbers_kept items asked (one ∷ more) e =
    both_kept (number_rules_of items one) (each (number_rules_of items) more)
    (back_kept _ _ (front_kept (reference_rules items asked one) (each (reference_rules items asked) more) e))
    (numbers_kept items asked more
    (back_kept (reference_rules items asked one) (each (reference_rules items asked) more) e))

-- the numbers of a reference whose item keeps its rules
pub item_kept : (items : List LocatedItem) (asked : Place → LocatedItem → List RuleBreach) (one : Reference)
    → reference_rules items asked one ≡ [] → number_rules_of items one ≡ []
item_kept items asked one e = back_kept _ _ e

-- the subscripts of a reference, and those of its part
pub subscripts_kept : (items : List LocatedItem) (one : Reference) → number_rules_of items one ≡ []
    → each (subscript_rules items) one.subscripts ≡ []
subscripts_kept items one e = front_kept (each (subscript_rules items) one.subscripts) (part_rules items one.part) e

pub part_kept : (items : List LocatedItem) (one : Reference) → number_rules_of items one ≡ []
    → part_rules items one.part ≡ []
part_kept items one e = back_kept (each (subscript_rules items) one.subscripts) (part_rules items one.part) e

-- those of one of the receivers of an arithmetic statement
pub receiver_kept : (items : List LocatedItem) (asked : Place → LocatedItem → List RuleBreach) (all : List Receiver)
    (i : ℕ) (d : Receiver) → i < length all
    → each (λ (one : Receiver). reference_rules items asked one.item) all ≡ []
    → number_rules_of items (get_or all i d).item ≡ []
receiver_kept items asked all i d lt e = item_kept items asked (get_or all i d).item
    (one_kept (λ (one : Receiver). reference_rules items asked one.item) all i d lt e)

-- ---- integers

is_so : (test : Bool) (rule : ℕ) (place : Place) → where_so (not test) rule place ≡ [] → test ≡ true
is_so true rule place e = refl
is_so false rule place e = cc

last_of : (a b c : Bool) → (a && (b && c)) ≡ true → c ≡ true
last_of true true true e = refl
last_of true true false e = cc
last_of true false c e = cc
last_of false b c e = cc

at_most : (limit n : ℕ) → nat_le n limit ≡ true → n ≤ limit
at_most limit n e = grind arith

-- An integer of 1 to 18 digits fits.
pub room : (one : Integer) (digits : List ℕ) → integer_rules one ≡ [] → digits ≡ one.digits
    → 1 * 10 ^ length digits ≤ 1000000000000000000
room one digits kept e =
    let n : ℕ = length one.digits in
    let h : n ≤ 18 = at_most 18 n (last_of (list_all is_ascii_digit one.digits) (nat_le 1 n) (nat_le n 18)
    (is_so (is_integer one) 17 one.place kept)) in
    let k : length digits ≤ 18 = omega (arith, h, ap length e) in
    let top : 10 ^ length digits ≤ 10 ^ 18 = pow-le-pow_right (omega arith) k in
    omega (arith, top)
