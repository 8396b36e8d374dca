-- How many sectors a commit takes.
use Rattle.std.proofs.Common.{◌≡◌, ⊎_elim, ◌<◌, ◌≤◌, ◌+◌, ◌-◌, cond, Bool, true, false, not, ℕ, zero, suc, List, []}
use Rattle.std.proofs.Common.{◌∷◌, ◌++◌, length, take, drop, take_all, set, get_or, refl, sym, ◌∙◌, ap, subst, arith}
use Rattle.std.proofs.Common.{add-zero, zero-add, length-append, length-set}
use Rattle.std.specs.Prelude.{count_by}
use Rattle.std.proofs.lemmas.Bool.{cases_lt, cases_Bool, false≢true}
use Rattle.std.proofs.lemmas.List.{get_or_past, take-append-drop, get_or_append_left, get_or_push}
use Rattle.std.proofs.lemmas.List.Elements.{All-push, All-nil}
use Rattle.std.specs.List.{All}
use Rattle.station.specs.Disk.{Sector}
use Rattle.station.specs.declared.blocks.Block.{Block}
use Rattle.std.proofs.lemmas.List.Sums.{count_by_more_yes, count_by_more_no, sum_by-append, sum_by-set}
use Rattle.std.proofs.lemmas.List.Sums.{count_by-le-length}
use Rattle.pages.specs.Use.{IsUse}
use Rattle.pages.specs.declared.draft.Draft.{Draft}
use Rattle.pages.specs.Volumes.{unused_count, unused_below, AreAscending, IsTaken, PlacesBlock}

-- a sector that is marked is there
marked_low : (used : List Bool) (s : ℕ) → get_or used s false ≡ true → s < length used
marked_low used s is = ⊎_elim (λ lt. lt) (λ past. absurd (false≢true (sym (get_or_past used s false past) ∙ is)))
    (cases_lt s (length used))

-- sectors that are marked don't count
pub count_skip : (used : List Bool) (n k : ℕ) → ((s : ℕ) → n ≤ s → s < n + k → get_or used s false ≡ true)
    → unused_count (take (n + k) used) ≡ unused_count (take n used)
count_skip used n zero all = ap (λ (m : ℕ). unused_count (take m used)) (add-zero n)
count_skip used n (suc k) all =
    let is = all (n + k) (omega arith) (omega arith) in
    let next : n + suc k ≡ n + k + 1 = omega arith in
    ap (λ (m : ℕ). unused_count (take m used)) next
    ∙ count_by_more_no (λ u. not u) used (n + k) false (marked_low used (n + k) is) (ap not is)
    ∙ count_skip used n k (λ s le lt. all s le (omega (arith, lt)))

pub count_to : (used : List Bool) (n m : ℕ) → n ≤ m → ((s : ℕ) → n ≤ s → s < m → get_or used s false ≡ true)
    → unused_count (take m used) ≡ unused_count (take n used)
count_to used n m le all =
    let there : n + (m - n) ≡ m = omega arith in
    ap (λ (k : ℕ). unused_count (take k used)) (sym there)
    ∙ count_skip used n (m - n) (λ s from below. all s from (omega (arith, below, there)))

-- the first sector that isn't marked
pub count_next : (used : List Bool) (n s : ℕ)
    → n ≤ s → s < length used → ((t : ℕ) → n ≤ t → t < s → get_or used t false ≡ true) → get_or used s false ≡ false
    → unused_count (take (s + 1) used) ≡ unused_count (take n used) + 1
count_next used n s le lt all is =
    count_by_more_yes (λ u. not u) used s false lt (ap not is) ∙ ap (λ (m : ℕ). m + 1) (count_to used n s le all)

-- each is marked
pub count_rest : (used : List Bool) (n : ℕ) → ((t : ℕ) → n ≤ t → t < length used → get_or used t false ≡ true)
    → unused_count used ≡ unused_count (take n used)
count_rest used n all = ⊎_elim
    (λ lt. ap unused_count (sym (take_all (length used) used (omega arith)))
    ∙ count_to used n (length used) (omega (arith, lt)) all)
    (λ past. ap unused_count (sym (take_all n used past)))
    (cases_lt n (length used))

-- a front has no more
pub front_le : {X : Type 0} (p : X → Bool) (xs : List X) (k : ℕ) → count_by p (take k xs) ≤ count_by p xs
front_le p xs k = omega
    (arith, ap (λ l. count_by p l) (take-append-drop k xs), sum_by-append (λ x. cond (p x) 1 0) (take k xs) (drop k xs))

pub count_push : {X : Type 0} (p : X → Bool) (xs : List X) (x : X)
    → count_by p (xs ++ x ∷ []) ≡ count_by p xs + cond (p x) 1 0
count_push p xs x =
    sum_by-append (λ y. cond (p y) 1 0) xs (x ∷ []) ∙ ap (λ (n : ℕ). count_by p xs + n) (zero-add (cond (p x) 1 0))

-- a sector that is marked doesn't count
pub marked_room : (used : List Bool) (i : ℕ) → i < length used → get_or used i false ≡ true
    → unused_count used < length used
marked_room used i lt is = omega (
  arith,
  length-set used i false,
  count_by-le-length (λ u. not u) (set used i false),
  sum_by-set (λ u. cond (not u) 1 0) used i false false lt,
  ap {B = ℕ} (λ (b : Bool). cond (not b) 1 0) is,
)

-- the roots are marked
pub roots_marked : (n : ℕ) (named : List ℕ) (used : List Bool) → 2 ≤ n → IsUse n named used
    → unused_count (take 2 used) ≡ 0
roots_marked n named used some right =
    count_to used 0 2 (omega arith) (λ s from lt. ⊎_elim (λ yes. yes) (λ no. let free =
    right.free s (omega (arith, lt, some)) no in absurd (omega (arith, free.0, lt))) (cases_Bool (get_or used s false)))

-- one of a list's front passes
pub front_lt : {X : Type 0} (p : X → Bool) (xs : List X) (i : ℕ) (d : X) → i < length xs → p (get_or xs i d) ≡ true
    → count_by p (take i xs) < count_by p xs
front_lt p xs i d lt is = omega (arith, count_by_more_yes p xs i d lt is, front_le p xs (i + 1))

ascending_push : (blocks : List Block) (b : Block) (next : ℕ) → AreAscending blocks
    → All (λ (x : Block). x.sector < next) blocks → next ≤ b.sector → AreAscending (blocks ++ b ∷ [])
ascending_push blocks b next ascending low later i j d e before lt = ⊎_elim
    (λ inside. subst (λ (x : Block). x.sector < (get_or (blocks ++ b ∷ []) j e).sector)
    (sym (get_or_append_left blocks (b ∷ []) d i (omega (arith, before, inside))))
    (subst (λ (x : Block). (get_or blocks i d).sector < x.sector) (sym (get_or_append_left blocks (b ∷ []) e j inside))
    (ascending i j d e before inside)))
    (λ last. let at : length blocks ≡ j = omega (arith, last, lt, length-append blocks (b ∷ [])) in
    let i_low : i < length blocks = omega (arith, before, at) in
    subst (λ (x : Block). x.sector < (get_or (blocks ++ b ∷ []) j e).sector)
    (sym (get_or_append_left blocks (b ∷ []) d i i_low))
    (subst (λ (x : Block). (get_or blocks i d).sector < x.sector) (sym (get_or_push blocks b e j at))
    (omega (arith, low i d i_low, later))))
    (cases_lt j (length blocks))

-- one more block
pub taken_next : (used : List Bool) (old new : Draft) (s : ℕ) (bytes : Sector)
    → IsTaken used old.start old.next old.blocks.items → PlacesBlock used old new s bytes
    → IsTaken used new.start new.next new.blocks.items
taken_next used old new s bytes taken placed =
    let b : Block = record { sector = s; bytes = bytes } in
    subst (λ (n : ℕ). IsTaken used n new.next new.blocks.items)
    (sym placed.start) (subst (λ (n : ℕ). IsTaken used old.start n new.blocks.items) (sym placed.next)
    (subst (λ (l : List Block). IsTaken used old.start (s + 1) l) (sym placed.blocks) (record {
      start = omega arith;
      count = omega (
        arith,
        count_next used old.next s placed.later placed.low placed.first placed.free,
        taken.count,
        length-append old.blocks.items (b ∷ []),
      );
      low = All-push (λ (x : Block). x.sector < s + 1) old.blocks.items b
          (λ k d lt. omega (arith, taken.low k d lt, placed.later)) (omega arith);
      ascending = ascending_push old.blocks.items b old.next taken.ascending taken.low placed.later;
    })))

pub taken_as : (used used' : List Bool) (from from' next next' : ℕ) (blocks blocks' : List Block) → used' ≡ used
    → from' ≡ from → next' ≡ next → blocks' ≡ blocks → IsTaken used from next blocks → IsTaken used' from' next' blocks'
taken_as used used' from from' next next' blocks blocks' u f n b is = subst
    (λ (x : List Bool). IsTaken x from' next' blocks') (sym u) (subst (λ (x : ℕ). IsTaken used x next' blocks') (sym f)
    (subst (λ (x : ℕ). IsTaken used from x blocks') (sym n)
    (subst (λ (x : List Block). IsTaken used from next x) (sym b) is)))

-- no block yet
pub taken_start : (used : List Bool) (from next : ℕ) (blocks : List Block) → 0 < from → next ≡ from → blocks ≡ []
    → IsTaken used from next blocks
taken_start used from next blocks some at none =
    taken_as used used from from from next [] blocks refl refl at none (record {
      start = some;
      count = sym (add-zero (unused_below used from));
      low = All-nil (λ (x : Block). x.sector < from);
      ascending = λ i j d e before lt. absurd (omega (arith, lt));
    })
