-- How many levels a tree has at most.
use Rattle.std.proofs.Common.{◌≡◌, ◌≢◌, ◌≤◌, ◌<◌, ◌-◌, ◌*◌, ◌^◌, ℕ, suc, Bool, true, false, eqb, List, [], ◌∷◌, length}
use Rattle.std.proofs.Common.{map, sym, ap, subst, ◌∙◌, arith, inl, inr}
use Rattle.std.specs.Prelude.{◌||◌, Option}
use Rattle.std.specs.List.{All, AllPairs, list_any, IsDistinct}
use Rattle.std.proofs.Math.Pow.{pow_mono}
use Rattle.std.proofs.Math.Nat.{pow-suc, mul_assoc, mul-le-mul_left}
use Rattle.std.proofs.lemmas.Bool.{cases_lt}
use Rattle.std.proofs.lemmas.Bool.Decides.{Decides-eqb, eqb_tells}
use Rattle.std.proofs.lemmas.List.{length-map, length-append}
use Rattle.std.proofs.lemmas.List.Elements.{All-head, All-tail, All-cons, All-weaker, recursion_from_All}
use Rattle.std.proofs.lemmas.Map.Made.{IsDistinct-from_AllPairs}
use Rattle.std.proofs.lemmas.Map.Steps.{length-le_from_distinct_below}
use Rattle.station.specs.Disk.{Sector}
use Rattle.btree_pages.specs.declared.row_layout.RowLayout.{RowLayout}
use Rattle.btree_pages.specs.declared.row_layout.Kind.TheVariants.{Inner}
use Rattle.btree.specs.Tree.{TreeNode, row_of, rows_of, IsOnPage, AreJoinedLevels, pages_of, IsTree, IsTreeOrEmpty}

-- Numbers below a bound, none of them twice.
any_tail : (q x : ℕ) (xs : List ℕ) → eqb q x ≡ false → list_any (eqb q) (x ∷ xs) ≡ true → list_any (eqb q) xs ≡ true
any_tail q x xs other any = let P : Bool → Type 0 = λ b. (b || list_any (eqb q) xs) ≡ true in subst P other any

list_any_below : (n q : ℕ) (xs : List ℕ) → All (λ x. x < n) xs → list_any (eqb q) xs ≡ true → q < n
list_any_below n q [] all any = let clash : false ≡ true = any in cc
list_any_below n q (x ∷ xs) all any =
    elim (eqb_tells q x) [
      | inl same ↦ subst (λ (y : ℕ). y < n) (sym same.1) (All-head (λ y. y < n) x xs all)
      | inr other ↦ list_any_below n q xs (All-tail (λ y. y < n) x xs all) (any_tail q x xs other.0 any)
    ]

pub few_numbers : (n : ℕ) (xs : List ℕ) → AllPairs (λ one two. one ≢ two) xs → All (λ x. x < n) xs → length xs ≤ n
few_numbers n xs once below = length-le_from_distinct_below xs n (IsDistinct-from_AllPairs Decides-eqb xs once)
    (λ q any. list_any_below n q xs below any)

apart_from_zero : (y : ℕ) → 0 < y → eqb 0 y ≡ false
apart_from_zero y some =
    elim (eqb_tells 0 y) [ inl same ↦ absurd (let e : 0 ≡ y = same.1 in omega arith) | inr other ↦ other.0 ]

with_zero : (n : ℕ) (xs : List ℕ) → 0 < n → AllPairs (λ one two. one ≢ two) xs → All (λ x. (0 < x) × (x < n)) xs
    → length (0 ∷ xs) ≤ n
unfolding IsDistinct
with_zero n xs some once between =
    length-le_from_distinct_below (0 ∷ xs) n (
      recursion_from_All (λ y. eqb 0 y ≡ false) xs
          (All-weaker (λ x. (0 < x) × (x < n)) (λ y. eqb 0 y ≡ false) (λ x is. apart_from_zero x is.0) xs between),
      IsDistinct-from_AllPairs Decides-eqb xs once,
    )
    (λ q any. list_any_below n q (0 ∷ xs) (All-cons (λ x. x < n) 0 xs some (λ k d low. (between k d low).1)) any)

pub few_numbers_above : (n : ℕ) (xs : List ℕ) → AllPairs (λ one two. one ≢ two) xs → All (λ x. (0 < x) × (x < n)) xs
    → length xs ≤ n - 1
few_numbers_above n [] once between = omega arith
few_numbers_above n (x ∷ xs) once between =
    let head = All-head (λ y. (0 < y) × (y < n)) x xs between in
    let some : 0 < n = let low = head.1 in omega arith in
    let count = with_zero n (x ∷ xs) some once between in
    omega arith

-- Each level of inner pages has twice as many nodes below it.
pub twice : (layout : RowLayout) (pages : List (Option Sector)) (level : List TreeNode)
    → All (IsOnPage layout pages Inner) level → 2 * length level ≤ length (rows_of level)
twice layout pages [] all = omega arith
twice layout pages (node ∷ level) all =
    let here = All-head (IsOnPage layout pages Inner) node level all in
    let more = twice layout pages level (All-tail (IsOnPage layout pages Inner) node level all) in
    let enough : 2 ≤ length node.rows = here.enough in
    let count = length-append node.rows (rows_of level) in
    omega arith

split : (power level lower below all next : ℕ) → next ≡ power * 2 → power * lower ≤ below → 2 * level ≤ lower
    → below ≤ all → next * level ≤ all
split power level lower below all next is low double more =
    let e : next * level ≡ power * (2 * level) = ap (λ (n : ℕ). n * level) is ∙ mul_assoc power 2 level in
    let f : power * (2 * level) ≤ power * lower = mul-le-mul_left power double in
    omega arith

grows : (layout : RowLayout) (pages : List (Option Sector)) (level : List TreeNode) (more : List (List TreeNode))
    → AreJoinedLevels layout pages (level ∷ more) → 2 ^ length more * length level ≤ length (pages_of (level ∷ more))
grows layout pages level [] joined =
    let count = length-map level (λ (node : TreeNode). node.page) in
    let end = length-append (map (λ (node : TreeNode). node.page) level) [] in
    omega arith
grows layout pages level (lower ∷ more) joined =
    let below = grows layout pages lower more joined.2 in
    let double = twice layout pages level joined.0 in
    let names : length (rows_of level) ≡ length lower = ap length joined.1 ∙ length-map lower (row_of layout) in
    let count = length-append (map (λ (node : TreeNode). node.page) level) (pages_of (lower ∷ more)) in
    split (2 ^ length more) (length level) (length lower) (length (pages_of (lower ∷ more)))
    (length (pages_of (level ∷ lower ∷ more))) (2 ^ suc (length more)) (pow-suc 2 (length more)) below (omega arith)
    (omega arith)

few_levels_from : (count n : ℕ) → 2 ^ count ≤ n - 1 → n ≤ 2 ^ 20 → count ≤ 19
few_levels_from count n low high =
    elim (cases_lt 19 count) [
      | inl more ↦ absurd (let above : 2 ^ 20 ≤ 2 ^ count = pow_mono {i = 20} {j = count} (omega arith) in omega arith)
      | inr less ↦ omega arith
    ]

pub few_levels : (layout : RowLayout) (pages : List (Option Sector)) (root : ℕ) (levels : List (List TreeNode))
    → length pages ≤ 2 ^ 20 → IsTree layout pages root levels → length levels ≤ 20
few_levels layout pages root [] small tree = omega arith
few_levels layout pages root (top ∷ more) small tree =
    let one : length top ≡ 1 = ap length tree.top.1 in
    let many = grows layout pages top more tree.joined in
    let below : length (pages_of (top ∷ more)) ≤ length pages - 1 =
    few_numbers_above (length pages) (pages_of (top ∷ more)) tree.once tree.numbers in
    let low : 2 ^ length more * 1 ≤ length pages - 1 =
    subst (λ (n : ℕ). 2 ^ length more * n ≤ length pages - 1) one (omega arith) in
    let few = few_levels_from (length more) (length pages) (omega arith) small in
    omega arith

pub few_levels_held : (layout : RowLayout) (pages : List (Option Sector)) (root : ℕ) (levels : List (List TreeNode))
    → length pages ≤ 2 ^ 20 → IsTreeOrEmpty layout pages root levels → length levels ≤ 20
few_levels_held layout pages root levels small (inl none) = let count : length levels ≡ 0 =
    ap length none.1 in omega arith
few_levels_held layout pages root levels small (inr tree) = few_levels layout pages root levels small tree.1
