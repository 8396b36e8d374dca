-- Another record for a row among rows in memory, and a row that is taken out.
use Rattle.std.proofs.Common.{◌≡◌, ◌≤◌, ◌<◌, ◌+◌, Bool, true, false, not, ◌&&◌, ◌||◌, cond, ℕ, zero, suc, List, [], ◌∷◌}
use Rattle.std.proofs.Common.{◌++◌, length, drop, map, set, get_or, append_assoc, refl, sym, ◌∙◌, ap, subst, arith}
use Rattle.std.specs.Prelude.{Option, Some, None, Result, Ok, Vec, filter}
use Rattle.std.specs.Result.{IsErrAnd}
use Rattle.std.specs.Vec.{with_item}
use Rattle.std.specs.declared.alloc.Global.{Global}
use Rattle.std.specs.List.{AllByRecursion, list_any, remove}
use Rattle.std.specs.Ordering.{is_eq, ordering_reverse}
use Rattle.std.specs.declared.cmp.Ordering.TheVariants.{Less}
use Rattle.std.proofs.lemmas.Bool.{cond-true, cond-false}
use Rattle.std.proofs.lemmas.List.{drop_more, drop_all, append-nil}
use Rattle.std.proofs.lemmas.Map.Keys.{sorted_head, sorted_tail}
use Rattle.records.specs.declared.file_spec.AlternateKey.{AlternateKey}
use Rattle.records.specs.declared.file_spec.Organization.{Organization}
use Rattle.records.specs.declared.answer.Outcome.{Outcome}
use Rattle.records.specs.declared.answer.Outcome.TheVariants.{Done, Taken}
use Rattle.records.specs.declared.fault.StoreFault.{StoreFault}
use Rattle.records.specs.declared.fault.StoreFault.TheVariants.{Memory}
use Rattle.records.specs.Files.{File}
use Rattle.records.specs.Stores.{is_change}
use Rattle.records.specs.Rows.{Row, Pair, pair_cmp, prime_pair, named_pair}
use Rattle.records.specs.Changes.{FileChange, without_change, done_outcome, is_at, row_at, in_place, without_pair}
use Rattle.records.specs.Changes.{is_taken, is_duplicate, changes, changed_row, arrivals_after, replacement}
use Rattle.records.specs.Changes.{replaced_row, removal, removed_row}
use Rattle.records.specs.Laws.{RowsAscend}
use Rattle.records.proofs.Ascending.{pair_total}
use Rattle.records.proofs.Changed.{pair_same}
use Rattle.file_bytes.specs.declared.stored.StoredFile.{StoredFile}
use Rattle.file_bytes.specs.declared.stored.StoredRow.{StoredRow}
use Rattle.file_bytes.specs.Stored.{row_of, file_of}
use Rattle.half_store.specs.Changing.{Becomes}
use Rattle.half_store.proofs.Passed.{if_refused, on_refused, memory_never_full, memory_never_damaged}

-- tests of what a filter leaves
kept : {A : Type 0} (b : Bool) (p : A → Bool) (x : A) (xs : List A) (rest : Bool) → list_any p xs ≡ rest
    → list_any p (cond b (x ∷ xs) xs) ≡ ((b && p x) || rest)
kept true p x xs rest is = ap (λ (r : Bool). p x || r) is
kept false p x xs rest is = is

pub any_filter : {A : Type 0} (p q : A → Bool) (xs : List A) → list_any p (filter q xs) ≡ list_any (λ x. q x && p x) xs
any_filter p q [] = refl
any_filter p q (x ∷ xs) = kept (q x) p x (filter q xs) (list_any (λ x. q x && p x) xs) (any_filter p q xs)

pub any_row_filter : (p q : Row → Bool) (rows : List StoredRow)
    → list_any p (filter q (map row_of rows)) ≡ list_any (λ (r : StoredRow). q (row_of r) && p (row_of r)) rows
any_row_filter p q [] = refl
any_row_filter p q (row ∷ rows) = kept (q (row_of row)) p (row_of row) (filter q (map row_of rows))
    (list_any (λ (r : StoredRow). q (row_of r) && p (row_of r)) rows) (any_row_filter p q rows)

-- arrivals under the keys from one on
module _ (old bytes : List ℕ) (next : ℕ) where
  abbrev arrived : AlternateKey → ℕ → ℕ
  arrived key arrival = cond (changes old bytes key) next arrival

  pub arrivals_none : (arrivals : List ℕ) → arrivals_after old bytes next [] arrivals ≡ []
  arrivals_none [] = refl
  arrivals_none (arrival ∷ arrivals) = refl

  pub arrivals_out : (keys : List AlternateKey) → arrivals_after old bytes next keys [] ≡ []
  arrivals_out [] = refl
  arrivals_out (key ∷ keys) = refl

  pub arrivals_more : (keys : List AlternateKey) (arrivals : List ℕ) (k : ℕ) (d : AlternateKey) (so_far : List ℕ)
      → k < length keys → k < length arrivals
      → so_far ++ arrivals_after old bytes next (drop k keys) (drop k arrivals)
      ≡ (so_far ++ arrived (get_or keys k d) (get_or arrivals k 0) ∷ [])
      ++ arrivals_after old bytes next (drop (k + 1) keys) (drop (k + 1) arrivals)
  arrivals_more keys arrivals k d so_far lt lt' =
      ap (λ (l : List AlternateKey). so_far ++ arrivals_after old bytes next l (drop k arrivals))
      (drop_more keys k d lt)
      ∙ ap (λ (l : List ℕ). so_far ++ arrivals_after old bytes next (get_or keys k d ∷ drop (k + 1) keys) l)
      (drop_more arrivals k 0 lt')
      ∙ sym (append_assoc so_far (arrived (get_or keys k d) (get_or arrivals k 0) ∷ [])
      (arrivals_after old bytes next (drop (k + 1) keys) (drop (k + 1) arrivals)))

  pub arrivals_end : (keys : List AlternateKey) (arrivals so_far : List ℕ) (k : ℕ) → length keys ≤ k
      → so_far ++ arrivals_after old bytes next (drop k keys) (drop k arrivals) ≡ so_far
  arrivals_end keys arrivals so_far k le =
      ap (λ (l : List AlternateKey). so_far ++ arrivals_after old bytes next l (drop k arrivals)) (drop_all k keys le)
      ∙ ap (λ (l : List ℕ). so_far ++ l) (arrivals_none (drop k arrivals)) ∙ append-nil so_far

  pub arrivals_cut : (keys : List AlternateKey) (arrivals so_far : List ℕ) (k : ℕ) → length arrivals ≤ k
      → so_far ++ arrivals_after old bytes next (drop k keys) (drop k arrivals) ≡ so_far
  arrivals_cut keys arrivals so_far k le =
      ap (λ (l : List ℕ). so_far ++ arrivals_after old bytes next (drop k keys) l) (drop_all k arrivals le)
      ∙ ap (λ (l : List ℕ). so_far ++ l) (arrivals_out (drop k keys)) ∙ append-nil so_far

module _ (o : Organization) (pair : Pair) where
  -- the row at a pair is found from the first one on
  abbrev found_by : Bool → StoredRow → List StoredRow → Option Row
  found_by b row rows = cond b (Some (row_of row)) (row_at o pair (map row_of rows))

  pub past_row : (rows : List StoredRow) (k : ℕ) (d : StoredRow)
      → k < length rows → is_at o pair (row_of (get_or rows k d)) ≡ false
      → row_at o pair (map row_of (drop k rows)) ≡ row_at o pair (map row_of (drop (k + 1) rows))
  past_row rows k d lt other = ap (λ (l : List StoredRow). row_at o pair (map row_of l)) (drop_more rows k d lt)
      ∙ ap (λ (b : Bool). found_by b (get_or rows k d) (drop (k + 1) rows)) other

  pub here_row : (rows : List StoredRow) (k : ℕ) (d : StoredRow) → k < length rows → is_at o pair
      (row_of (get_or rows k d)) ≡ true → row_at o pair (map row_of (drop k rows)) ≡ Some (row_of (get_or rows k d))
  here_row rows k d lt same = ap (λ (l : List StoredRow). row_at o pair (map row_of l)) (drop_more rows k d lt)
      ∙ ap (λ (b : Bool). found_by b (get_or rows k d) (drop (k + 1) rows)) same

  pub no_row : (rows : List StoredRow) (k : ℕ) → length rows ≤ k → row_at o pair (map row_of (drop k rows)) ≡ None
  no_row rows k le = ap (λ (l : List StoredRow). row_at o pair (map row_of l)) (drop_all k rows le)

  -- no row after one at a pair is there
  abbrev Behind : Pair → List Row → Type 0
  Behind p rows = AllByRecursion (λ other. pair_cmp p other ≡ Less) (map (prime_pair o) rows)

  not_at : (row : Row) → pair_cmp pair (prime_pair o row) ≡ Less → is_at o pair row ≡ false
  not_at row less = ap is_eq (pair_total.antisymm (prime_pair o row) pair ∙ ap ordering_reverse less)

  in_place_none : (new : Row) (rows : List Row) → Behind pair rows → in_place o pair new rows ≡ rows
  in_place_none new [] all = refl
  in_place_none new (row ∷ rows) all = ap (λ (b : Bool). cond b new row ∷ in_place o pair new rows) (not_at row all.0)
      ∙ ap (λ (l : List Row). row ∷ l) (in_place_none new rows all.1)

  without_none : (rows : List Row) → Behind pair rows → without_pair o pair rows ≡ rows
  without_none [] all = refl
  without_none (row ∷ rows) all =
      ap (λ (b : Bool). cond (not b) (row ∷ without_pair o pair rows) (without_pair o pair rows)) (not_at row all.0)
      ∙ ap (λ (l : List Row). row ∷ l) (without_none rows all.1)

  at : (p : Pair) (rows : List StoredRow) (i : ℕ) (d : StoredRow) → i < length rows → Behind p (map row_of rows)
      → pair_cmp p (prime_pair o (row_of (get_or rows i d))) ≡ Less
  at p [] i d lt all = absurd (omega (arith, lt))
  at p (row ∷ rows) zero d lt all = all.0
  at p (row ∷ rows) (suc i) d lt all = at p rows i d (omega (arith, lt)) all.1

  before_at : (row : StoredRow) (rows : List StoredRow) (i : ℕ) (d : StoredRow)
      → i < length rows → RowsAscend o (map row_of (row ∷ rows)) → is_at o pair (row_of (get_or rows i d)) ≡ true
      → is_at o pair (row_of row) ≡ false
  before_at row rows i d lt ascend is =
      let less = at (prime_pair o (row_of row)) rows i d lt
      (sorted_head pair_cmp (prime_pair o (row_of row)) (map (prime_pair o) (map row_of rows)) ascend) in
      ap is_eq (subst (λ (p : Pair). pair_cmp (prime_pair o (row_of row)) p ≡ Less)
      (pair_same (prime_pair o (row_of (get_or rows i d))) pair is) less)

  behind_at : (row : StoredRow) (rows : List StoredRow) → RowsAscend o (map row_of (row ∷ rows))
      → is_at o pair (row_of row) ≡ true → Behind pair (map row_of rows)
  behind_at row rows ascend is =
      subst (λ (p : Pair). Behind p (map row_of rows)) (pair_same (prime_pair o (row_of row)) pair is)
      (sorted_head pair_cmp (prime_pair o (row_of row)) (map (prime_pair o) (map row_of rows)) ascend)

  rest_ascend : (row : StoredRow) (rows : List StoredRow) → RowsAscend o (map row_of (row ∷ rows))
      → RowsAscend o (map row_of rows)
  rest_ascend row rows ascend =
      sorted_tail pair_cmp (prime_pair o (row_of row)) (map (prime_pair o) (map row_of rows)) ascend

  pub in_place_at : (rows : List StoredRow) (i : ℕ) (d new : StoredRow) → i < length rows
      → RowsAscend o (map row_of rows) → is_at o pair (row_of (get_or rows i d)) ≡ true
      → map row_of (set rows i new) ≡ in_place o pair (row_of new) (map row_of rows)
  in_place_at [] i d new lt ascend is = absurd (omega (arith, lt))
  in_place_at (row ∷ rows) zero d new lt ascend is = sym (
      ap (λ (b : Bool). cond b (row_of new) (row_of row) ∷ in_place o pair (row_of new) (map row_of rows)) is
      ∙ ap (λ (l : List Row). row_of new ∷ l)
      (in_place_none (row_of new) (map row_of rows) (behind_at row rows ascend is)))
  in_place_at (row ∷ rows) (suc i) d new lt ascend is =
      ap (λ (l : List Row). row_of row ∷ l)
      (in_place_at rows i d new (omega (arith, lt)) (rest_ascend row rows ascend) is)
      ∙ sym (ap (λ (b : Bool). cond b (row_of new) (row_of row) ∷ in_place o pair (row_of new) (map row_of rows))
      (before_at row rows i d (omega (arith, lt)) ascend is))

  pub without_at : (rows : List StoredRow) (i : ℕ) (d : StoredRow) → i < length rows → RowsAscend o (map row_of rows)
      → is_at o pair (row_of (get_or rows i d)) ≡ true
      → map row_of (remove rows i) ≡ without_pair o pair (map row_of rows)
  without_at [] i d lt ascend is = absurd (omega (arith, lt))
  without_at (row ∷ rows) zero d lt ascend is = sym (
      ap (λ (b : Bool).
      cond (not b) (row_of row ∷ without_pair o pair (map row_of rows)) (without_pair o pair (map row_of rows))) is
      ∙ without_none (map row_of rows) (behind_at row rows ascend is))
  without_at (row ∷ rows) (suc i) d lt ascend is =
      ap (λ (l : List Row). row_of row ∷ l) (without_at rows i d (omega (arith, lt)) (rest_ascend row rows ascend) is)
      ∙ sym (ap (λ (b : Bool). cond (not b) (row_of row ∷ without_pair o pair (map row_of rows))
      (without_pair o pair (map row_of rows))) (before_at row rows i d (omega (arith, lt)) ascend is))

-- what a change of a row comes to
pub found_row : (o : Organization) (pair pair' : Pair) (rows seen : List StoredRow) (i : ℕ) (old : StoredRow)
    → seen ≡ rows → pair ≡ pair' → get_or rows i old ≡ old
    → (row_at o pair (map row_of seen) ≡ Some (row_of (get_or seen i old)))
    × (is_at o pair (row_of (get_or seen i old)) ≡ true)
    → (row_at o pair' (map row_of rows) ≡ Some (row_of old)) × (is_at o pair' (row_of (get_or rows i old)) ≡ true)
found_row o pair pair' rows seen i old same named here found =
    let F : List StoredRow → Type 0 = λ l. (row_at o pair (map row_of l) ≡ Some (row_of (get_or l i old)))
    × (is_at o pair (row_of (get_or l i old)) ≡ true) in
    let G : Pair → Type 0 = λ p. (row_at o p (map row_of rows) ≡ Some (row_of (get_or rows i old)))
    × (is_at o p (row_of (get_or rows i old)) ≡ true) in
    let there = subst G named (subst F same found) in
    (there.0 ∙ ap (λ (r : StoredRow). Some (row_of r)) here, there.1)

pub four : {A B C D R : Type 0} (f : A → B → C → D → R) (a a' : A) (b b' : B) (c c' : C) (d d' : D) → a ≡ a' → b ≡ b'
    → c ≡ c' → d ≡ d' → f a b c d ≡ f a' b' c' d'
four f a a' b b' c c' d d' p q r s =
    ap (λ x. f x b c d) p ∙ ap (λ x. f a' x c d) q ∙ ap (λ x. f a' b' x d) r ∙ ap (λ x. f a' b' c' x) s

module _ (file : File) (number : ℕ) (bytes : List ℕ) (row : Row)
    (found : row_at file.spec.organization (named_pair file.spec.organization number bytes) file.rows ≡ Some row) where
  abbrev named : Pair
  named = named_pair file.spec.organization number bytes

  abbrev keys : List AlternateKey
  keys = filter (changes row.bytes bytes) file.spec.alternates

  abbrev others : List Row
  others = without_pair file.spec.organization named file.rows

  abbrev next : ℕ
  next = cond (list_any (λ key. changes row.bytes bytes key) file.spec.alternates) (file.next_arrival + 1)
      file.next_arrival

  abbrev after : FileChange
  after = record {
    outcome = done_outcome (is_duplicate keys others bytes);
    file = record file
        { rows = in_place file.spec.organization named (changed_row file bytes row) file.rows; next_arrival = next };
  }

  pub replaced_taken : is_taken keys others bytes ≡ true → replacement number bytes file ≡ without_change Taken file
  replaced_taken is = ap (replaced_row named bytes file) found
      ∙ cond-true (is_taken keys others bytes) (without_change Taken file) after is

  pub replaced_done : is_taken keys others bytes ≡ false → replacement number bytes file ≡ after
  replaced_done is = ap (replaced_row named bytes file) found
      ∙ cond-false (is_taken keys others bytes) (without_change Taken file) after is

pub removed_done : (file : File) (pair : Pair) (row : Row) → row_at file.spec.organization pair file.rows ≡ Some row
    → removal pair file
    ≡ record { outcome = Done; file = record file { rows = without_pair file.spec.organization pair file.rows } }
removed_done file pair row found = ap (removed_row pair file) found

pub done_changes : (b : Bool) → is_change (done_outcome b) ≡ true
done_changes true = refl
done_changes false = refl

-- A row was found at a place, and what was seen of its file is what is there.
pub record IsSeen (file : StoredFile) (pair : Pair) (place : ℕ) (old : StoredRow) : Type 0 where
  pub lt : place < length file.rows.items
  pub here : get_or file.rows.items place old ≡ old
  pub found : row_at file.spec.organization pair (map row_of file.rows.items) ≡ Some (row_of old)
  pub at : is_at file.spec.organization pair (row_of (get_or file.rows.items place old)) ≡ true

pub is_seen : (file : StoredFile) (place : ℕ) (old : StoredRow) {seen : List StoredRow} {named pair : Pair}
    → seen ≡ file.rows.items → named ≡ pair → place < length seen → old ≡ get_or seen place old
    → (row_at file.spec.organization named (map row_of seen) ≡ Some (row_of (get_or seen place old)))
    × (is_at file.spec.organization named (row_of (get_or seen place old)) ≡ true)
    → IsSeen file pair place old
is_seen file place old {seen} {named} {pair} same called lt read found =
    let here = sym (subst (λ (l : List StoredRow). old ≡ get_or l place old) same read) in
    let there = found_row file.spec.organization named pair file.rows.items seen place old same called here found in
    record {
      lt = subst (λ (l : List StoredRow). place < length l) same lt;
      here = here;
      found = there.0;
      at = there.1;
    }

-- tests of the other rows, on a record, keys, a place and rows
abbrev pub taken_by : Organization → List ℕ → List ℕ → List AlternateKey → Pair → List StoredRow → Bool
taken_by o bytes old keys pair rows =
    is_taken (filter (changes old bytes) keys) (without_pair o pair (map row_of rows)) bytes

abbrev pub repeated_by : Organization → List ℕ → List ℕ → List AlternateKey → Pair → List StoredRow → Bool
repeated_by o bytes old keys pair rows =
    is_duplicate (filter (changes old bytes) keys) (without_pair o pair (map row_of rows)) bytes

-- another record for the row, where the tests were made on what was seen
module _ {file : StoredFile} (number : ℕ) (bytes : List ℕ) {place : ℕ} {old : StoredRow}
    (is : IsSeen file (named_pair file.spec.organization number bytes) place old) {before : List ℕ}
    {keys_seen : List AlternateKey} {named_seen : Pair} {rows_seen : List StoredRow} {taken : Bool}
    (before_is : before ≡ old.bytes.items) (keys_are : keys_seen ≡ file.spec.alternates.items)
    (named_is : named_seen ≡ named_pair file.spec.organization number bytes) (rows_are : rows_seen ≡ file.rows.items)
    (tested : taken ≡ taken_by file.spec.organization bytes before keys_seen named_seen rows_seen) where
  abbrev pair_there : Pair
  pair_there = named_pair file.spec.organization number bytes

  seen_as : (T : List ℕ → List AlternateKey → Pair → List StoredRow → Bool) → T before keys_seen named_seen rows_seen
      ≡ T old.bytes.items file.spec.alternates.items pair_there file.rows.items
  seen_as T = four T before old.bytes.items keys_seen file.spec.alternates.items named_seen pair_there rows_seen
      file.rows.items before_is keys_are named_is rows_are

  own_test : (b : Bool) → taken ≡ b
      → taken_by file.spec.organization bytes old.bytes.items file.spec.alternates.items pair_there file.rows.items ≡ b
  own_test b told = sym (tested ∙ seen_as (taken_by file.spec.organization bytes)) ∙ told

  pub taken_becomes : taken ≡ true → Becomes (Ok Taken) (replacement number bytes (file_of file)) file file
  taken_becomes told = subst (λ (changed : FileChange). Becomes (Ok Taken) changed file file)
      (sym (replaced_taken (file_of file) number bytes (row_of old) is.found (own_test true told))) (record {
        outcome = refl;
        after = refl;
        spec = refl;
        idle = λ none. refl;
        full = λ e. absurd cc;
        changes = λ e. absurd cc;
        sound = λ e. absurd cc;
      })

  pub row_becomes : {twice changed : Bool} {outcome : Outcome} {next_is : ℕ} (row : StoredRow)
      → RowsAscend file.spec.organization (map row_of file.rows.items) → taken ≡ false
      → twice ≡ repeated_by file.spec.organization bytes before keys_seen named_seen rows_seen
      → outcome ≡ done_outcome twice → changed ≡ list_any (λ key. changes before bytes key) keys_seen
      → next_is ≡ cond changed (file.next_arrival + 1) file.next_arrival
      → row_of row ≡ record {
        number = old.number;
        bytes = bytes;
        arrivals = arrivals_after old.bytes.items bytes file.next_arrival keys_seen old.arrivals.items;
      }
      → Becomes (Ok outcome) (replacement number bytes (file_of file)) file
      (record file { rows = with_item file.rows place row; next_arrival = next_is })
  row_becomes {twice} {changed} {outcome} {next_is} row ascend told twice_is outcome_is changed_is raised row_is =
      let o = file.spec.organization in
      let own = repeated_by o bytes old.bytes.items file.spec.alternates.items pair_there file.rows.items in
      let done : outcome ≡ done_outcome own = outcome_is ∙ ap done_outcome (twice_is ∙ seen_as (repeated_by o bytes)) in
      let next_told = raised ∙ ap (λ (b : Bool). cond b (file.next_arrival + 1) file.next_arrival) (changed_is
      ∙ ap (λ (l : List ℕ). list_any (λ key. changes l bytes key) keys_seen) before_is
      ∙ ap (λ (l : List AlternateKey). list_any (λ key. changes old.bytes.items bytes key) l) keys_are) in
      let new_row : row_of row ≡ changed_row (file_of file) bytes (row_of old) =
      row_is ∙ ap (λ (l : List AlternateKey). let r : Row = record {
        number = old.number;
        bytes = bytes;
        arrivals = arrivals_after old.bytes.items bytes file.next_arrival l old.arrivals.items;
      } in r) keys_are in
      subst (λ (changed : FileChange). Becomes (Ok outcome) changed file
      (record file { rows = with_item file.rows place row; next_arrival = next_is }))
      (sym (replaced_done (file_of file) number bytes (row_of old) is.found (own_test false told))) (record {
        outcome = done;
        after = ap (λ (l : List Row). record (file_of file) { rows = l; next_arrival = next_is })
            (in_place_at o pair_there file.rows.items place old row is.lt ascend is.at
            ∙ ap (λ (r : Row). in_place o pair_there r (map row_of file.rows.items)) new_row)
            ∙ ap (λ (n : ℕ). record (file_of file) {
              rows = in_place o pair_there (changed_row (file_of file) bytes (row_of old)) (map row_of file.rows.items);
              next_arrival = n;
            }) next_told;
        spec = refl;
        idle = λ none. let yes : is_change outcome ≡ true = ap is_change done ∙ done_changes own in absurd {0} cc;
        full = λ e. absurd cc;
        changes = λ e. absurd cc;
        sound = λ e. absurd cc;
      })

-- a row that is taken out
pub removed_becomes : {file : StoredFile} {pair : Pair} {place : ℕ} {old : StoredRow} → IsSeen file pair place old
    → RowsAscend file.spec.organization (map row_of file.rows.items) → (left : Vec StoredRow Global)
    → left.items ≡ remove file.rows.items place
    → Becomes (Ok Done) (removal pair (file_of file)) file (record file { rows = left })
removed_becomes {file} {pair} {place} {old} is ascend left left_is =
    subst (λ (changed : FileChange). Becomes (Ok Done) changed file (record file { rows = left }))
    (sym (removed_done (file_of file) pair (row_of old) is.found)) (record {
      outcome = refl;
      after = ap (λ (l : List Row). record (file_of file) { rows = l })
          (ap (map row_of) left_is
          ∙ without_at file.spec.organization pair file.rows.items place old is.lt ascend is.at);
      spec = refl;
      idle = λ none. absurd cc;
      full = λ e. absurd cc;
      changes = λ e. absurd cc;
      sound = λ e. absurd cc;
    })

-- a change that is refused for want of memory
pub memory_becomes : {changed : FileChange} {old new : StoredFile} (r : Result Outcome StoreFault) (x : StoreFault)
    → IsErrAnd r (λ e. e ≡ x) → x ≡ Memory → Becomes r changed old new
memory_becomes {changed} {old} {new} r x is why = record {
  outcome = if_refused r x is _;
  after = on_refused r x is _;
  spec = on_refused r x is _;
  idle = if_refused r x is _;
  full = memory_never_full r x is why;
  changes = memory_never_full r x is why;
  sound = memory_never_damaged r x is why;
}
