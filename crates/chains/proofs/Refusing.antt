-- What is known after a refusal, and of a call that goes on.
use Rattle.std.proofs.Common.{◌≡◌, ◌≢◌, ◌⊎◌, ⊎_elim, ◌<◌, ◌≤◌, ◌+◌, ℕ, Bool, true, false, List, length, sym}
use Rattle.std.proofs.Common.{◌∙◌, arith}
use Rattle.std.specs.Prelude.{◌↔◌, Result, Ok, Err, OnOk}
use Rattle.pages.specs.Changes.{ChangesPage}
use Rattle.pages.specs.declared.error.PagesError.{PagesError}
use Rattle.pages.specs.declared.error.PagesError.TheVariants.{Device, Damaged, Memory, Spent}
use Rattle.btree.proofs.Frames.{false_unless}
use Rattle.btree.proofs.Passing.{never_ok, same_error}
use Rattle.btree.proofs.ChangedPages.{changes_count}
use Rattle.chains.specs.Chain.{pages_for}

spent_or_device : Spent ≡ Device → ⊥
spent_or_device is = cc

spent_or_damaged : Spent ≡ Damaged → ⊥
spent_or_damaged is = cc

pub spent_not_device : {T A : Type 0} → (◌≡◌ {A = Result T PagesError} (Err Spent) (Err Device)) → A
spent_not_device is = absurd (spent_or_device (same_error is))

pub spent_not_damaged : {T A : Type 0} → (◌≡◌ {A = Result T PagesError} (Err Spent) (Err Damaged)) → A
spent_not_damaged is = absurd (spent_or_damaged (same_error is))

-- an error of writing is none of reading a chain
memory_or_damaged : Memory ≡ Damaged → ⊥
memory_or_damaged is = cc

pub edit_not_damaged : {T A : Type 0} (x : PagesError) → (x ≡ Memory) ⊎ (x ≡ Spent)
    → (◌≡◌ {A = Result T PagesError} (Err x) (Err Damaged)) → A
edit_not_damaged x why is =
    absurd (⊎_elim (λ a. memory_or_damaged (sym a ∙ same_error is)) (λ b. spent_or_damaged (sym b ∙ same_error is)) why)

-- what holds anyway holds where a call answered
pub on_ok_anyway : {T E P : Type 0} (r : Result T E) → P → OnOk r P
on_ok_anyway (Ok x) holds = holds
on_ok_anyway (Err x) holds = tt

-- a map that was found unspent isn't spent
pub never_spent : {A : Type 0} (one two : Bool) → one ≡ two → one ≡ false → two ≡ true → A
never_spent one two same none some = cc

-- after `Ok` of a call that returns `Spent` exactly if the map is spent, it wasn't
pub never_was : {T : Type 0} {x : T} {r : Result T PagesError} {one two : Bool} → r ≡ Ok x → two ≡ one
    → ((r ≡ Err Spent) ↔ (two ≡ true)) → one ≡ false
never_was {one = one} ok same spent = false_unless one (λ was. never_ok (sym ok ∙ spent.1 (same ∙ was)))

-- a record of which a part is left has bytes
pub some_bytes : (bytes place : ℕ) → place < pages_for bytes → bytes ≢ 0
some_bytes bytes place low none = let is : pages_for bytes ≡ 0 = omega arith in omega arith

-- so many pages more were changed at most
pub changed_more : (old now : List ℕ) (page : ℕ) (new : List ℕ) (place : ℕ) → length now ≤ length old + place
    → ChangesPage now page new → length new ≤ length old + (place + 1)
changed_more old now page new place few changes = let one = changes_count now page new changes in omega arith

pub filled_more : (old now new place : ℕ) → now ≤ old + place → new ≤ now + 1 → new ≤ old + (place + 1)
filled_more old now new place few one = omega arith

pub few_of_all : (old new place all : ℕ) → new ≤ old + place → place ≤ all → new ≤ old + all
few_of_all old new place all few low = omega arith

pub some_pages : (bytes place : ℕ) → 0 < place → place ≤ pages_for bytes → bytes ≢ 0
some_pages bytes place some low none = let is : pages_for bytes ≡ 0 = omega arith in omega arith

-- a record with bytes has a page
pub some_place : (bytes place count : ℕ) → bytes ≢ 0 → count ≡ pages_for bytes → count ≤ place → 0 < place
some_place bytes place count some is all = omega arith
