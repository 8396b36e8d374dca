-- What a refusal that is passed on tells.
use Rattle.std.proofs.Common.{◌≡◌, ◌≢◌, ◌↔◌, ◌≤◌, ◌<◌, ◌+◌, true, false, ℕ, List, length, sym, ap, subst, ◌∙◌, arith}
use Rattle.std.specs.Prelude.{Result, Ok, Err, OnOk, OnErr, Option, Some, None, IsSome, is_some}
use Rattle.std.specs.Result.{IsErrAnd}
use Rattle.pages.specs.declared.error.PagesError.{PagesError}
use Rattle.pages.specs.declared.error.PagesError.TheVariants.{Device, Full, Damaged, Memory, Spent}
use Rattle.pages.specs.Pages.{is_spent, SameCommitted}
use Rattle.pages.specs.declared.page_map.PageMap.{PageMap}
use Rattle.btree_pages.specs.declared.row_layout.RowLayout.{RowLayout}
use Rattle.btree.specs.Reading.{IsSearchRefusal}
use Rattle.btree.specs.Refusals.{IsWriteRefusal}
use Rattle.btree.proofs.Frames.{false_unless}
use Rattle.btree.proofs.Passing.{refused_never, same_error}
use Rattle.chains.specs.Chain.{pages_for}

-- a refusal that is passed on is not `Ok`
pub never_answered : {T E A : Type 0} {y : T} {r : Result T E} (x : E) → IsErrAnd r (λ e. e ≡ x) → r ≡ Ok y → A
never_answered {y = y} {r = r} x why is = refused_never r x y why is

-- memory that ran out is no failure of the device
pub never_device : {T A : Type 0} (r : Result T PagesError) → IsErrAnd r (λ y. y ≡ Memory) → r ≡ Err Device → A
never_device (Ok x) why is = absurd why
never_device (Err y) why is = let told : y ≡ Device = same_error is in cc (why, told)

-- nor is a search refused because no page number is left, or a chain that is laid as damaged
pub search_not_full : {T A : Type 0} (layout : RowLayout) (r : Result T PagesError) (x : PagesError)
    → IsErrAnd r (λ y. y ≡ x) → IsSearchRefusal layout x → r ≡ Err Full → A
search_not_full layout (Ok y) x why cause is = absurd why
search_not_full layout (Err y) x why cause is =
    absurd (subst (IsSearchRefusal layout) (sym why ∙ same_error is) cause)

pub write_not_damaged : {T A : Type 0} (r : Result T PagesError) (x : PagesError) → IsErrAnd r (λ y. y ≡ x)
    → IsWriteRefusal x → r ≡ Err Damaged → A
write_not_damaged (Ok y) x why cause is = absurd why
write_not_damaged (Err y) x why cause is = absurd (subst IsWriteRefusal (sym why ∙ same_error is) cause)

pub on_err : {T E : Type 0} (r : Result T E) (A B : Type 0) → (A → B) → OnErr r A → OnErr r B
on_err (Ok x) A B from err = tt
on_err (Err x) A B from err = from err

pub on_ok : {T E : Type 0} (r : Result T E) (A B : Type 0) → (A → B) → OnOk r A → OnOk r B
on_ok (Ok x) A B from ok = from ok
on_ok (Err x) A B from ok = tt

-- a call that was refused because no page number is left had a map that isn't spent
pub full_unspent : {T : Type 0} (r : Result T PagesError) (size : ℕ) (p q : PageMap) → SameCommitted p q
    → ((r ≡ Err Spent) ↔ ((is_spent q ≡ true) × (size ≢ 0))) → size ≢ 0 → r ≡ Err Full → is_spent p ≡ false
full_unspent r size p q same spent some full = false_unless (is_spent p)
    (λ was. let told : Full ≡ Spent = same_error (sym full ∙ spent.1 (same.spent ∙ was, some)) in cc)

-- how many pages more were changed
pub few_laid : (old mid new : List ℕ) (size n most : ℕ) → mid ≡ old → length new ≤ length mid + pages_for size
    → size ≡ n → length new ≤ length old + (most + pages_for n)
few_laid old mid new size n most same few is =
    let as_many = ap (λ (l : List ℕ). length l) same in
    let pages = ap pages_for is in
    omega (arith, as_many, pages, few)

pub few_first : (old mid new : List ℕ) (size n : ℕ) → mid ≡ old → length new ≤ length mid + pages_for size → size ≡ n
    → length new ≤ length old + pages_for n
few_first old mid new size n same few is =
    let as_many = ap (λ (l : List ℕ). length l) same in
    let pages = ap pages_for is in
    omega (arith, as_many, pages, few)

pub few_added : (old mid one new : List ℕ) (size n most : ℕ) → mid ≡ old → length one ≤ length mid + pages_for size
    → size ≡ n → length new ≤ length one + most → length new ≤ length old + (most + pages_for n)
few_added old mid one new size n most same few is more =
    let as_many = ap (λ (l : List ℕ). length l) same in
    let pages = ap pages_for is in
    omega (arith, as_many, pages, few, more)

pub room_weaker : (free old m n : ℕ) → free < old + m → free < old + (m + n)
room_weaker free old m n room = omega (arith, room)

-- a search that found nothing, and an entry that is there
pub none_or_some : {X A : Type 0} {o told : Option X} → o ≡ told → is_some told ≡ false → IsSome o → A
none_or_some same none some = let clash : true ≡ false = sym some ∙ ap is_some same ∙ none in cc

pub none_not_some : {X A : Type 0} {x : X} → (◌≡◌ {A = Option X} None (Some x)) → A
none_not_some is = cc

-- how many pages were changed in a chain after those of the tree
pub few_released : (old mid one new : List ℕ) (n most : ℕ) → mid ≡ old → length one ≤ length mid + most
    → length new ≤ length one + pages_for n → length new ≤ length old + (most + pages_for n)
few_released old mid one new n most same few more =
    let as_many = ap (λ (l : List ℕ). length l) same in
    omega (arith, as_many, few, more)

-- what a call says of its refusal
pub err_told : {T E A : Type 0} (r : Result T E) (x : E) → r ≡ Err x → OnErr r A → A
err_told (Ok y) x is told = let never : Ok y ≡ Err x = is in cc
err_told (Err y) x is told = told
