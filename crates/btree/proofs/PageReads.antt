-- What a call answers that reads a page of a tree, by where the bytes of the page are.
use Rattle.std.proofs.Common.{◌≡◌, ◌↔◌, ◌⊎◌, ⊎_elim, inr, ◌<◌, true, ℕ, List, refl, sym, subst, ◌∙◌}
use Rattle.std.specs.Prelude.{Option, Some, None, Result, Ok, Err, OnErr, IfOk, IfErr, slice_index_or}
use Rattle.std.specs.Result.{IsErrAnd}
use Rattle.station.specs.Calls.{OnlyReads}
use Rattle.station.specs.Disk.{Disk, Sector}
use Rattle.station.specs.declared.device.Device.{Ghosts as Devices}
use Rattle.station.proofs.Calls.{reads_then, reads_nothing}
use Rattle.pages.specs.Pages.{is_spent, map_now, page_of, Agrees, IsUnchanged, KeepsCommitted}
use Rattle.pages.specs.declared.page_map.PageMap.{PageMap}
use Rattle.pages.specs.declared.error.PagesError.{PagesError}
use Rattle.pages.specs.declared.error.PagesError.TheVariants.{Device, Damaged, Memory, Spent}
use Rattle.btree_pages.specs.declared.row_layout.RowLayout.{RowLayout}
use Rattle.btree.specs.declared.child.Child.{Child}
use Rattle.btree.specs.Calls.{IfAgrees, pages_on}
use Rattle.btree.specs.PageReads.{AnswersFromPage}
use Rattle.btree.specs.Reading.{IsReadRefusal, IsSearchRefusal, SpellsNoNode, NoneStands}
use Rattle.btree.specs.Results.{ReturnsDamaged, ExactlyIfSpent}
use Rattle.btree.specs.Steps.{StepsIn, StepsAt}
use Rattle.btree.proofs.Frames.{unchanged_still, unchanged_on}
use Rattle.btree.proofs.Passing.{passed, same_error, still_error, damaged_not_device, damaged_not_spent, reads_where}
use Rattle.btree.proofs.Passing.{pages_before, search_alone, search_spent}
use Rattle.btree.proofs.Stepping.{if_ok, step_there}
use Rattle.btree.proofs.TreeNodes.{read_none, spells_none}

-- Bytes that are in memory are not none.
pub never_none : {T A : Type 0} {x : T} → (◌≡◌ {A = Option T} (Some x) None) → A
never_none is = cc

-- Why a page isn't read is a reason to refuse a read, and why a step on it is refused is one to refuse a search.
pub page_refused : {T : Type 0} (e : PagesError) → (◌≡◌ {A = Result T PagesError} (Err e) (Err Device))
    ⊎ (◌≡◌ {A = Result T PagesError} (Err e) (Err Spent)) → IsReadRefusal e
page_refused e why = ⊎_elim (λ is. subst IsReadRefusal (sym (same_error is)) tt)
    (λ is. subst IsReadRefusal (sym (same_error is)) tt) why

step_refused : {T : Type 0} (layout : RowLayout) (r : Result T PagesError)
    → OnErr r ((r ≡ Err Damaged) ⊎ ((r ≡ Err Memory) × (128 < layout.key_length))) → IfErr r (IsSearchRefusal layout)
step_refused layout (Ok x) why = tt
step_refused layout (Err y) why = ⊎_elim (λ is. subst (IsSearchRefusal layout) (sym (same_error is)) tt)
    (λ is. subst (IsSearchRefusal layout) (sym (same_error is.0)) is.1) why

module _ {D : Type 0} (d : Devices D) where
  -- The bytes of the page were read.
  pub from_bytes : {T : Type 0} (A : Type 0) (layout : RowLayout) (page : ℕ)
      (answers : List (Option Sector) → T → Type 0) (reason : PagesError → Type 0) (P : T → Type 0)
      (old now : PageMap) (a b : D) (bytes : Sector) (result : Result T PagesError) → OnlyReads d A a b
      → IsUnchanged old now → IfAgrees d old a (Agrees now (d.state b).disk)
      → IfAgrees d old a (slice_index_or (pages_on d old a) page None ≡ Some bytes)
      → ((pages : List (Option Sector)) → slice_index_or pages page None ≡ Some bytes → (x : T) → P x
      → answers pages x)
      → IfOk result P → (result ≡ Err Damaged → SpellsNoNode layout bytes) → (result ≡ Err Device → A)
      → ExactlyIfSpent old result → IfErr result reason
      → AnswersFromPage d layout page answers reason old a now b result
  from_bytes A layout page answers reason P old now a b bytes result only unchanged agrees here to ok none blamed
      spent
      cause = record {
        only = reads_where d A (result ≡ Err Device) a b blamed only;
        unchanged = unchanged;
        agrees = agrees;
        answer = λ honest agreed. if_ok P (answers (pages_on d old a)) result
            (to (pages_on d old a) (here honest agreed)) ok;
        damaged = λ honest agreed is kind node same stands.
            spells_none layout (pages_on d old a) page bytes (here honest agreed) (none is) kind node same stands;
        spent = spent;
        cause = cause;
      }

  -- They are in memory.
  pub from_memory : {T : Type 0} (layout : RowLayout) (page : ℕ) (answers : List (Option Sector) → T → Type 0)
      (reason : PagesError → Type 0) (P : T → Type 0) (old : PageMap) (a : D) (bytes : Sector)
      (result : Result T PagesError)
      → ((disk : Disk) → Agrees old disk → page_of (map_now old disk.present) page ≡ Some bytes)
      → ((pages : List (Option Sector)) → slice_index_or pages page None ≡ Some bytes → (x : T) → P x
      → answers pages x)
      → IfOk result P → (result ≡ Err Damaged → SpellsNoNode layout bytes) → (result ≡ Err Device → ⊥)
      → ExactlyIfSpent old result → IfErr result reason
      → AnswersFromPage d layout page answers reason old a old a result
  from_memory layout page answers reason P old a bytes result seen to ok none never spent cause =
      from_bytes ⊥ layout page answers reason P old old a a bytes result (reads_nothing d a) (unchanged_still old)
      (λ honest agreed. agreed) (λ honest agreed. seen (d.state a).disk agreed) to ok none never spent cause

  -- The page isn't read.
  pub from_error : {T U : Type 0} (layout : RowLayout) (page : ℕ) (answers : List (Option Sector) → T → Type 0)
      (reason : PagesError → Type 0) (old now : PageMap) (a b : D) (r : Result T PagesError) (e : PagesError)
      → IsErrAnd r (λ x. x ≡ e) → OnlyReads d (◌≡◌ {A = Result U PagesError} (Err e) (Err Device)) a b
      → IsUnchanged old now → IfAgrees d old a (Agrees now (d.state b).disk)
      → ((◌≡◌ {A = Result U PagesError} (Err e) (Err Spent)) ↔ (is_spent old ≡ true))
      → (◌≡◌ {A = Result U PagesError} (Err e) (Err Device)) ⊎ (◌≡◌ {A = Result U PagesError} (Err e) (Err Spent))
      → reason e → AnswersFromPage d layout page answers reason old a now b r
  from_error layout page answers reason old now a b r e from only unchanged agrees spent why cause =
      passed r e from (λ r. AnswersFromPage d layout page answers reason old a now b r) (record {
        only = reads_where d _ _ a b (λ is. still_error is) only;
        unchanged = unchanged;
        agrees = agrees;
        answer = λ honest agreed. tt;
        damaged = λ honest agreed is kind node same stands.
            ⊎_elim (λ one. damaged_not_device (sym (still_error is) ∙ one))
            (λ one. damaged_not_spent (sym (still_error is) ∙ one)) why;
        spent = (λ is. spent.0 (still_error is), λ was. still_error (spent.1 was));
        cause = cause;
      })

  -- The map has no such page.
  pub from_nothing : {T : Type 0} (A : Type 0) (layout : RowLayout) (page : ℕ)
      (answers : List (Option Sector) → T → Type 0) (reason : PagesError → Type 0) (old now : PageMap) (a b : D)
      → OnlyReads d A a b → IsUnchanged old now → IfAgrees d old a (Agrees now (d.state b).disk)
      → IfAgrees d old a (None ≡ slice_index_or (pages_on d old a) page None) → (is_spent old ≡ true → ⊥)
      → reason Damaged → AnswersFromPage d layout page answers reason old a now b (Err Damaged)
  from_nothing A layout page answers reason old now a b only unchanged agrees here live cause = record {
    only = reads_where d A _ a b (λ is. damaged_not_device is) only;
    unchanged = unchanged;
    agrees = agrees;
    answer = λ honest agreed. tt;
    damaged = λ honest agreed is kind node same stands.
        read_none layout (pages_on d old a) page None kind node (here honest agreed) refl same stands;
    spent = (λ is. damaged_not_spent is, λ was. absurd (live was));
    cause = cause;
  }

  -- A call before it only reads, or notes a use.
  pub after_reading : {T : Type 0} (A : Type 0) (layout : RowLayout) (page : ℕ)
      (answers : List (Option Sector) → T → Type 0) (reason : PagesError → Type 0) (old now new : PageMap)
      (a b c : D) (result : Result T PagesError) → OnlyReads d A a b → IsUnchanged old now
      → IfAgrees d old a (Agrees now (d.state b).disk)
      → AnswersFromPage d layout page answers reason now b new c result
      → AnswersFromPage d layout page answers reason old a new c result
  after_reading A layout page answers reason old now new a b c result only unchanged agrees next = record {
    only = reads_then d A (result ≡ Err Device) (result ≡ Err Device) a b c (λ is. inr is) only next.only;
    unchanged = unchanged_on old now new unchanged next.unchanged;
    agrees = λ honest agreed. next.agrees (only.honest.0 honest) (agrees honest agreed);
    answer = pages_before d A old now a b (λ pages. IfOk result (answers pages)) unchanged only agrees next.answer;
    damaged = pages_before d A old now a b (NoneStands layout page (ReturnsDamaged result)) unchanged only agrees
        next.damaged;
    spent = (
      λ is. sym unchanged.committed.spent ∙ next.spent.0 is,
      λ was. next.spent.1 (unchanged.committed.spent ∙ was),
    );
    cause = next.cause;
  }

  pub after_note : {T : Type 0} (layout : RowLayout) (page : ℕ) (answers : List (Option Sector) → T → Type 0)
      (reason : PagesError → Type 0) (old now new : PageMap) (a b : D) (result : Result T PagesError)
      → IsUnchanged old now → KeepsCommitted old now
      → AnswersFromPage d layout page answers reason now a new b result
      → AnswersFromPage d layout page answers reason old a new b result
  after_note layout page answers reason old now new a b result unchanged keeps next =
      after_reading ⊥ layout page answers reason old now new a a b result (reads_nothing d a) unchanged
      (λ honest agreed. keeps.agrees (d.state a).disk agreed) next

  -- A step is taken on the bytes of the page.
  pub step_on_bytes : (A : Type 0) (layout : RowLayout) (page : ℕ) (key : List ℕ) (old_right right : Option (List ℕ))
      (old now : PageMap) (a b : D) (bytes : Sector) (result : Result (Option Child) PagesError) → OnlyReads d A a b
      → IsUnchanged old now → IfAgrees d old a (Agrees now (d.state b).disk)
      → IfAgrees d old a (slice_index_or (pages_on d old a) page None ≡ Some bytes)
      → IfOk result (λ child. StepsIn layout bytes key old_right right child)
      → (result ≡ Err Damaged → SpellsNoNode layout bytes)
      → OnErr result ((result ≡ Err Damaged) ⊎ ((result ≡ Err Memory) × (128 < layout.key_length)))
      → (is_spent old ≡ true → ⊥)
      → AnswersFromPage d layout page (λ pages. StepsAt layout pages page key old_right right) (IsSearchRefusal layout)
      old a now b result
  step_on_bytes A layout page key old_right right old now a b bytes result only unchanged agrees here ok none why live =
      from_bytes A layout page (λ pages. StepsAt layout pages page key old_right right) (IsSearchRefusal layout)
      (λ child. StepsIn layout bytes key old_right right child) old now a b bytes result only unchanged agrees here
      (λ pages is child step. step_there layout pages page bytes key old_right right child is step) ok none
      (λ is. search_alone result layout.key_length why is)
      (search_spent result (is_spent old) layout.key_length why live) (step_refused layout result why)

  -- They are in memory.
  pub step_in_memory : (layout : RowLayout) (page : ℕ) (key : List ℕ) (old_right right : Option (List ℕ))
      (old : PageMap) (a : D) (bytes : Sector) (result : Result (Option Child) PagesError)
      → ((disk : Disk) → Agrees old disk → page_of (map_now old disk.present) page ≡ Some bytes)
      → IfOk result (λ child. StepsIn layout bytes key old_right right child)
      → (result ≡ Err Damaged → SpellsNoNode layout bytes)
      → OnErr result ((result ≡ Err Damaged) ⊎ ((result ≡ Err Memory) × (128 < layout.key_length)))
      → (is_spent old ≡ true → ⊥)
      → AnswersFromPage d layout page (λ pages. StepsAt layout pages page key old_right right) (IsSearchRefusal layout)
      old a old a result
  step_in_memory layout page key old_right right old a bytes result seen ok none why live =
      step_on_bytes ⊥ layout page key old_right right old old a a bytes result (reads_nothing d a) (unchanged_still old)
      (λ honest agreed. agreed) (λ honest agreed. seen (d.state a).disk agreed) ok none why live
