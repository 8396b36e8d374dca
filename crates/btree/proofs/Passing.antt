-- What is known after a refusal that is passed on, and after two calls.
use Rattle.std.proofs.Common.{◌≡◌, ◌↔◌, ◌*◌, Bool, true, false, ◌⊎◌, ⊎_elim, ◌<◌, ◌≤◌, ◌+◌, ℕ, suc, List, length, sym}
use Rattle.std.proofs.Common.{ap}
use Rattle.std.proofs.Common.{subst, ◌∙◌, arith}
use Rattle.std.specs.Prelude.{Result, Option, Some, None, Ok, Err, OnErr, OnOk, IfErr, IfOk}
use Rattle.std.specs.Result.{IsErrAnd}
use Rattle.station.specs.Calls.{OnlyReads}
use Rattle.station.specs.declared.device.Device.{Ghosts as Devices}
use Rattle.station.specs.Disk.{Sector}
use Rattle.station.proofs.Calls.{reads_nothing}
use Rattle.pages.specs.Changes.{ChangesPage}
use Rattle.pages.specs.Pages.{IsPage, SameCommitted, sectors_of, is_spent, Agrees, IsUnchanged}
use Rattle.pages.specs.Pages.{KeepsCommitted}
use Rattle.pages.specs.declared.volume.VolumeMap.{VolumeMap}
use Rattle.pages.specs.declared.page_map.PageMap.{PageMap}
use Rattle.pages.specs.declared.error.PagesError.{PagesError}
use Rattle.pages.specs.declared.error.PagesError.TheVariants.{Device, Full, Damaged, Memory, Spent, ForeignMark}
use Rattle.btree_pages.specs.declared.row_layout.RowLayout.{RowLayout}
use Rattle.btree.specs.Reading.{IsReadRefusal, IsSearchRefusal}
use Rattle.btree.specs.Refusals.{IsPutRefusal, IsRestRefusal, IsChangeRefusal, IsWriteRefusal, IsInsertRefusal}
use Rattle.btree.specs.Refusals.{IsParentRefusal}
use Rattle.btree.specs.Calls.{IfAgrees, OnPages}
use Rattle.btree.proofs.ChangedPages.{changes_count}
use Rattle.btree.proofs.Frames.{same_pages, false_unless}

-- what holds of an error holds of the result with which `?` passes it on
pub passed : {T E : Type 0} (r : Result T E) (x : E) → IsErrAnd r (λ e. e ≡ x) → (P : Result T E → Type 0) → P (Err x)
    → P r
passed (Ok y) x is P holds = absurd is
passed (Err y) x is P holds = subst (λ e. P (Err e)) (sym is) holds

-- a result is one thing
pub never_ok : {T E A : Type 0} {x : T} {e : E} → (◌≡◌ {A = Result T E} (Ok x) (Err e)) → A
never_ok is = cc

pub never_err : {T E A : Type 0} {x : T} {e : E} → (◌≡◌ {A = Result T E} (Err e) (Ok x)) → A
never_err is = cc

pub ok_is : {T E : Type 0} {x y : T} → (◌≡◌ {A = Result T E} (Ok x) (Ok y)) → x ≡ y
ok_is is = cc

pub some_not_none : {T E A : Type 0} {x : T} → (◌≡◌ {A = Result (Option T) E} (Ok (Some x)) (Ok None)) → A
some_not_none is = cc

pub false_not_true : {E A : Type 0} → (◌≡◌ {A = Result Bool E} (Ok false) (Ok true)) → A
false_not_true is = cc

pub true_not_false : {E A : Type 0} → (◌≡◌ {A = Result Bool E} (Ok true) (Ok false)) → A
true_not_false is = cc

pub never_true : {A : Type 0} {b : Bool} → b ≡ false → b ≡ true → A
never_true off on = cc

pub same_error : {T E : Type 0} {x y : E} → (◌≡◌ {A = Result T E} (Err x) (Err y)) → x ≡ y
same_error is = cc

-- so is it of a call with another answer
pub still_error : {T U E : Type 0} {x y : E} → (◌≡◌ {A = Result T E} (Err x) (Err y))
    → (◌≡◌ {A = Result U E} (Err x) (Err y))
still_error is = ap Err (same_error is)

-- and what a result is passed on from is the same error
pub was_error : {T U E : Type 0} (r : Result T E) (s : Result U E) (x e : E) → IsErrAnd r (λ y. y ≡ x) → s ≡ Err x
    → r ≡ Err e → s ≡ Err e
was_error {U = U} {E = E} r s x e from was is =
    was ∙ passed r x from (λ q. q ≡ Err e → (◌≡◌ {A = Result U E} (Err x) (Err e))) (λ same. still_error same) is

-- a refusal that is passed on has no value
pub if_refused : {T E : Type 0} (r : Result T E) (x : E) → IsErrAnd r (λ e. e ≡ x) → (P : T → Type 0) → IfOk r P
if_refused r x is P = passed r x is (λ r. IfOk r P) tt

pub on_refused : {T E : Type 0} (r : Result T E) (x : E) → IsErrAnd r (λ e. e ≡ x) → (A : Type 0) → OnOk r A
on_refused r x is A = passed r x is (λ r. OnOk r A) tt

pub refused_never : {T E A : Type 0} (r : Result T E) (x : E) (y : T) → IsErrAnd r (λ e. e ≡ x) → r ≡ Ok y → A
refused_never {A = A} r x y is same = passed r x is (λ r. r ≡ Ok y → A) (λ s. never_err s) same

damaged_or_device : Damaged ≡ Device → ⊥
damaged_or_device is = cc

damaged_or_spent : Damaged ≡ Spent → ⊥
damaged_or_spent is = cc

damaged_or_full : Damaged ≡ Full → ⊥
damaged_or_full is = cc

pub damaged_not_device : {T A : Type 0} → (◌≡◌ {A = Result T PagesError} (Err Damaged) (Err Device)) → A
damaged_not_device is = absurd (damaged_or_device (same_error is))

pub damaged_not_spent : {T A : Type 0} → (◌≡◌ {A = Result T PagesError} (Err Damaged) (Err Spent)) → A
damaged_not_spent is = absurd (damaged_or_spent (same_error is))

pub damaged_not_full : {T A : Type 0} → (◌≡◌ {A = Result T PagesError} (Err Damaged) (Err Full)) → A
damaged_not_full is = absurd (damaged_or_full (same_error is))

-- why a call is refused is a reason for its caller's refusal
pub edit_is_put : (e : PagesError) → (e ≡ Memory) ⊎ (e ≡ Spent) → IsPutRefusal e
edit_is_put e why = ⊎_elim (λ is. subst IsPutRefusal (sym is) tt) (λ is. subst IsPutRefusal (sym is) tt) why

pub put_is_rest : (e : PagesError) → IsPutRefusal e → IsRestRefusal e
put_is_rest Device why = why
put_is_rest Full why = why
put_is_rest Damaged why = tt
put_is_rest Memory why = tt
put_is_rest Spent why = tt
put_is_rest ForeignMark why = why

pub rest_is_change : (e : PagesError) → IsRestRefusal e → IsChangeRefusal e
rest_is_change Device why = tt
rest_is_change Full why = why
rest_is_change Damaged why = tt
rest_is_change Memory why = tt
rest_is_change Spent why = tt
rest_is_change ForeignMark why = why

pub search_is_change : (layout : RowLayout) (e : PagesError) → IsSearchRefusal layout e → IsChangeRefusal e
search_is_change layout Device why = tt
search_is_change layout Full why = why
search_is_change layout Damaged why = tt
search_is_change layout Memory why = tt
search_is_change layout Spent why = tt
search_is_change layout ForeignMark why = why

pub read_is_change : (e : PagesError) → IsReadRefusal e → IsChangeRefusal e
read_is_change Device why = tt
read_is_change Full why = why
read_is_change Damaged why = tt
read_is_change Memory why = tt
read_is_change Spent why = tt
read_is_change ForeignMark why = why

pub write_is_insert : (e : PagesError) → IsWriteRefusal e → IsInsertRefusal e
write_is_insert Device why = tt
write_is_insert Full why = tt
write_is_insert Damaged why = tt
write_is_insert Memory why = tt
write_is_insert Spent why = tt
write_is_insert ForeignMark why = why

pub search_is_insert : (layout : RowLayout) (e : PagesError) → IsSearchRefusal layout e → IsInsertRefusal e
search_is_insert layout Device why = tt
search_is_insert layout Full why = tt
search_is_insert layout Damaged why = tt
search_is_insert layout Memory why = tt
search_is_insert layout Spent why = tt
search_is_insert layout ForeignMark why = why

pub put_is_insert : (e : PagesError) → IsPutRefusal e → IsInsertRefusal e
put_is_insert Device why = tt
put_is_insert Full why = tt
put_is_insert Damaged why = tt
put_is_insert Memory why = tt
put_is_insert Spent why = tt
put_is_insert ForeignMark why = why

pub put_is_write : (e : PagesError) → IsPutRefusal e → IsWriteRefusal e
put_is_write Device why = why
put_is_write Full why = absurd why
put_is_write Damaged why = why
put_is_write Memory why = tt
put_is_write Spent why = tt
put_is_write ForeignMark why = why

pub write_is_parent : (e : PagesError) → IsWriteRefusal e → IsParentRefusal e
write_is_parent Device why = why
write_is_parent Full why = tt
write_is_parent Damaged why = absurd why
write_is_parent Memory why = tt
write_is_parent Spent why = tt
write_is_parent ForeignMark why = why

pub read_is_search : (layout : RowLayout) (e : PagesError) → IsReadRefusal e → IsSearchRefusal layout e
read_is_search layout Device why = tt
read_is_search layout Full why = why
read_is_search layout Damaged why = tt
read_is_search layout Memory why = absurd why
read_is_search layout Spent why = tt
read_is_search layout ForeignMark why = why

pub read_is_insert : (e : PagesError) → IsReadRefusal e → IsInsertRefusal e
read_is_insert Device why = tt
read_is_insert Full why = tt
read_is_insert Damaged why = tt
read_is_insert Memory why = tt
read_is_insert Spent why = tt
read_is_insert ForeignMark why = why

pub parent_is_insert : (e : PagesError) → IsParentRefusal e → IsInsertRefusal e
parent_is_insert Device why = tt
parent_is_insert Full why = tt
parent_is_insert Damaged why = tt
parent_is_insert Memory why = tt
parent_is_insert Spent why = tt
parent_is_insert ForeignMark why = why

pub edit_is_write : (e : PagesError) → (e ≡ Memory) ⊎ (e ≡ Spent) → IsWriteRefusal e
edit_is_write e why = ⊎_elim (λ is. subst IsWriteRefusal (sym is) tt) (λ is. subst IsWriteRefusal (sym is) tt) why

pub allocate_is_write : (e : PagesError) → (e ≡ Full) ⊎ ((e ≡ Memory) ⊎ (e ≡ Spent)) → IsWriteRefusal e
allocate_is_write e why = ⊎_elim (λ is. subst IsWriteRefusal (sym is) tt) (λ more. edit_is_write e more) why

pub damaged_is_read : {T : Type 0} (r : Result T PagesError) → OnErr r (r ≡ Err Damaged) → IfErr r IsReadRefusal
damaged_is_read (Ok x) why = tt
damaged_is_read (Err y) why = subst IsReadRefusal (sym (same_error why)) tt

-- and none that is another's
pub put_not_device : {T A : Type 0} (x : PagesError) → IsPutRefusal x
    → (◌≡◌ {A = Result T PagesError} (Err x) (Err Device)) → A
put_not_device x why is = absurd (subst IsPutRefusal (same_error is) why)

pub rest_not_device : {T A : Type 0} (x : PagesError) → IsRestRefusal x
    → (◌≡◌ {A = Result T PagesError} (Err x) (Err Device)) → A
rest_not_device x why is = absurd (subst IsRestRefusal (same_error is) why)

pub write_not_device : {T A : Type 0} (x : PagesError) → IsWriteRefusal x
    → (◌≡◌ {A = Result T PagesError} (Err x) (Err Device)) → A
write_not_device x why is = absurd (subst IsWriteRefusal (same_error is) why)

pub put_not_full : {T A : Type 0} (x : PagesError) → IsPutRefusal x
    → (◌≡◌ {A = Result T PagesError} (Err x) (Err Full)) → A
put_not_full x why is = absurd (subst IsPutRefusal (same_error is) why)

pub put_so_write : {T : Type 0} (r : Result T PagesError) → IfErr r IsPutRefusal → IfErr r IsWriteRefusal
put_so_write (Ok y) why = tt
put_so_write (Err e) why = put_is_write e why

pub put_so_not_full : {T A : Type 0} (r : Result T PagesError) → IfErr r IsPutRefusal → r ≡ Err Full → A
put_so_not_full (Ok y) why is = never_ok is
put_so_not_full (Err e) why is = put_not_full e why is

pub write_not_damaged : {T A : Type 0} (x : PagesError) → IsWriteRefusal x
    → (◌≡◌ {A = Result T PagesError} (Err x) (Err Damaged)) → A
write_not_damaged x why is = absurd (subst IsWriteRefusal (same_error is) why)

pub damaged_alone : {T A : Type 0} (r : Result T PagesError) → OnErr r (r ≡ Err Damaged) → r ≡ Err Device → A
damaged_alone (Ok x) why is = never_ok is
damaged_alone (Err y) why is = damaged_not_device (sym why ∙ is)

damaged_unspent : {T A : Type 0} (r : Result T PagesError) → OnErr r (r ≡ Err Damaged) → r ≡ Err Spent → A
damaged_unspent (Ok x) why is = never_ok is
damaged_unspent (Err y) why is = damaged_not_spent (sym why ∙ is)

-- pages that were read were not spent, and what is made of them tells no more
pub spent_exactly : {T : Type 0} (r : Result T PagesError) (spent : Bool) → OnErr r (r ≡ Err Damaged)
    → (spent ≡ true → ⊥) → (r ≡ Err Spent) ↔ (spent ≡ true)
spent_exactly r spent why never = (λ is. damaged_unspent r why is, λ was. absurd (never was))

-- nor does a search in them, which memory may be wanting for
memory_or_device : Memory ≡ Device → ⊥
memory_or_device is = cc

memory_or_spent : Memory ≡ Spent → ⊥
memory_or_spent is = cc

pub search_alone : {T A : Type 0} (r : Result T PagesError) (size : ℕ)
    → OnErr r ((r ≡ Err Damaged) ⊎ ((r ≡ Err Memory) × (128 < size))) → r ≡ Err Device → A
search_alone (Ok x) size why is = never_ok is
search_alone (Err y) size why is = ⊎_elim (λ a. damaged_not_device (sym a ∙ is))
    (λ a. absurd (memory_or_device (same_error (sym a.0 ∙ is)))) why

search_unspent : {T A : Type 0} (r : Result T PagesError) (size : ℕ)
    → OnErr r ((r ≡ Err Damaged) ⊎ ((r ≡ Err Memory) × (128 < size))) → r ≡ Err Spent → A
search_unspent (Ok x) size why is = never_ok is
search_unspent (Err y) size why is = ⊎_elim (λ a. damaged_not_spent (sym a ∙ is))
    (λ a. absurd (memory_or_spent (same_error (sym a.0 ∙ is)))) why

pub search_spent : {T : Type 0} (r : Result T PagesError) (spent : Bool) (size : ℕ)
    → OnErr r ((r ≡ Err Damaged) ⊎ ((r ≡ Err Memory) × (128 < size))) → (spent ≡ true → ⊥)
    → (r ≡ Err Spent) ↔ (spent ≡ true)
search_spent r spent size why never = (λ is. search_unspent r size why is, λ was. absurd (never was))

pub put_not_damaged : {T A : Type 0} (x : PagesError) → IsPutRefusal x
    → (◌≡◌ {A = Result T PagesError} (Err x) (Err Damaged)) → A
put_not_damaged x why is = absurd (subst IsPutRefusal (same_error is) why)

-- A call that is refused for want of memory alone is refused as a call that writes may be.
pub memory_is_put : (e : PagesError) → e ≡ Memory → IsPutRefusal e
memory_is_put e is = subst IsPutRefusal (sym is) tt

pub memory_not_spent : {T A : Type 0} (x : PagesError) → x ≡ Memory
    → (◌≡◌ {A = Result T PagesError} (Err x) (Err Spent)) → A
memory_not_spent x why is = let same : x ≡ Spent = same_error is in cc (why, same)

-- Only reading, when what is to blame changes.
module _ {D : Type 0} (device : Devices D) where
  pub reads_where : (A B : Type 0) (a b : D) → (B → A) → OnlyReads device A a b → OnlyReads device B a b
  reads_where A B a b from only = record {
    honest = only.honest;
    sectors = only.sectors;
    failures = record { no_fewer = only.failures.no_fewer; failed = λ blamed. only.failures.failed (from blamed) };
    state = only.state;
    history = only.history;
  }

  -- what is claimed of the pages after a call that only reads is claimed of them before it
  pub pages_before : (A : Type 0) (old new : PageMap) (a b : D) (P : List (Option Sector) → Type 0)
      → IsUnchanged old new → OnlyReads device A a b → IfAgrees device old a (Agrees new (device.state b).disk)
      → OnPages device new b P → OnPages device old a P
  pages_before A old new a b P unchanged only agrees claim = λ honest agreed.
      subst P (same_pages old new (device.state a) (device.state b) unchanged (only.state honest))
      (claim (only.honest.0 honest) (agrees honest agreed))

  -- and so it is after a call that only notes a use
  pub pages_noted : (old new : PageMap) (a : D) (P : List (Option Sector) → Type 0) → IsUnchanged old new
      → KeepsCommitted old new → OnPages device new a P → OnPages device old a P
  pages_noted old new a P unchanged keeps claim =
      pages_before ⊥ old new a a P unchanged (reads_nothing device a)
      (λ honest agrees. keeps.agrees (device.state a).disk agrees) claim

-- A map that is spent after a call that only reads was spent before, and a page of it is never read.
pub unspent_before : {T : Type 0} {x : T} (old new : PageMap) → IsUnchanged old new
    → ((◌≡◌ {A = Result T PagesError} (Ok x) (Err Spent)) ↔ (is_spent new ≡ true)) → is_spent old ≡ false
unspent_before old new unchanged exactly =
    sym unchanged.committed.spent ∙ false_unless (is_spent new) (λ spent. never_ok (exactly.1 spent))

pub unspent_damaged : {T : Type 0} (r : Result T PagesError) (old new : PageMap) → IsUnchanged old new
    → ((r ≡ Err Spent) ↔ (is_spent new ≡ true)) → r ≡ Err Damaged → is_spent old ≡ false
unspent_damaged r old new unchanged exactly is = sym unchanged.committed.spent
    ∙ false_unless (is_spent new) (λ spent. damaged_not_spent (sym is ∙ exactly.1 spent))

-- What is committed stays, and so do the sectors and the page numbers.
pub committed_on : (one two three : PageMap) → SameCommitted one two → SameCommitted two three → SameCommitted one three
committed_on one two three first second = record {
  volume = second.volume ∙ first.volume;
  mark = second.mark ∙ first.mark;
  spent = second.spent ∙ first.spent;
}

pub sectors_on : (old new : PageMap) (before after : ℕ) → new.volume ≡ old.volume → after ≡ before
    → sectors_of old ≤ before → sectors_of new ≤ after
sectors_on old new before after same count few = subst (λ (v : VolumeMap). v.sectors ≤ after) (sym same)
    (subst (λ (n : ℕ). sectors_of old ≤ n) (sym count) few)

pub page_stays : (old new : PageMap) (page : ℕ) → SameCommitted old new → IsPage old page → IsPage new page
page_stays old new page same is =
    subst (λ (v : VolumeMap). (0 < page) × (page < length v.table)) (sym same.volume) is

-- Two pages more at most were changed.
pub changes_two : (old : List ℕ) (one : ℕ) (mid : List ℕ) (two : ℕ) (new : List ℕ) → ChangesPage old one mid
    → ChangesPage mid two new → length new ≤ length old + 2
changes_two old one mid two new first second =
    let some = changes_count old one mid first in
    let more = changes_count mid two new second in
    omega arith

-- how many more there are after two calls
pub few_then : (old mid new m n : ℕ) → mid ≤ old + m → new ≤ mid + n → new ≤ old + (m + n)
few_then old mid new m n first second = omega arith

pub one_spare : (n : ℕ) → n + 1 ≤ n + 1
one_spare n = omega arith

pub few_none : (old new m : ℕ) → new ≤ old + m → new + 0 ≤ old + m
few_none old new m few = omega arith

-- and after a row is put into a leaf, and told to the pages above it
pub few_one : (old one steps : ℕ) → one ≤ old + 2 → one ≤ old + 2 * steps + 3
few_one old one steps first = omega arith

pub few_two : (old one two n steps : ℕ) → one ≤ old + 2 → two ≤ one + 2 * n → n ≡ steps → two ≤ old + 2 * steps + 3
few_two old one two n steps first second same = omega arith

pub few_three : (old one two three n steps : ℕ) → one ≤ old + 2 → two ≤ one + 2 * n → n ≡ steps → three ≤ two + 1
    → three ≤ old + 2 * steps + 3
few_three old one two three n steps first second same third = omega arith

-- and of the pages above, with one step more
pub few_more : (old n : ℕ) → old ≤ old + n
few_more old n = omega arith

pub few_below : (old new below steps : ℕ) → new ≤ old + 2 * below → steps ≡ suc below → new ≤ old + 2 * steps
few_below old new below steps few more = omega arith

pub few_above : (old mid seen new below steps : ℕ) → mid ≤ old + 2 * below → seen ≡ mid → new ≤ seen + 2
    → steps ≡ suc below → new ≤ old + 2 * steps
few_above old mid seen new below steps few same two more = omega arith

-- a list of changed pages that stays, or stays after it grew
pub few_equal : (old new : List ℕ) (m : ℕ) → new ≡ old → length new ≤ length old + m
few_equal old new m same = subst (λ (l : List ℕ). length l ≤ length old + m) (sym same) (omega arith)

pub same_after : (old mid new : List ℕ) (m : ℕ) → length mid ≤ length old + m → new ≡ mid
    → length new ≤ length old + m
same_after old mid new m few same = subst (λ (l : List ℕ). length l ≤ length old + m) (sym same) few

pub few_same : (old new m : ℕ) → new ≡ old → new ≤ old + m
few_same old new m same = omega arith

pub few_weaker : (old new m n : ℕ) → new ≤ old + m → new ≤ old + (m + n)
few_weaker old new m n few = omega arith

pub few_after : (old mid new : List ℕ) (m n : ℕ) → length mid ≤ length old + m → new ≡ mid
    → length new ≤ length old + (m + n)
few_after old mid new m n few same =
    few_weaker (length old) (length new) m n (same_after old mid new m few same)

pub few_later : (old mid new : List ℕ) (m n : ℕ) → mid ≡ old → length new ≤ length mid + m
    → length new ≤ length old + (m + n)
few_later old mid new m n same few =
    subst (λ (l : List ℕ). length new ≤ length l + (m + n)) same (few_weaker (length mid) (length new) m n few)

-- an edit is never refused because no page number is left
full_or_memory : Memory ≡ Full → ⊥
full_or_memory is = cc

full_or_spent : Spent ≡ Full → ⊥
full_or_spent is = cc

pub edit_not_full : {T A : Type 0} (x : PagesError) → (x ≡ Memory) ⊎ (x ≡ Spent)
    → (◌≡◌ {A = Result T PagesError} (Err x) (Err Full)) → A
edit_not_full x why is = absurd (⊎_elim (λ a. full_or_memory (sym a ∙ same_error is))
    (λ a. full_or_spent (sym a ∙ same_error is)) why)
