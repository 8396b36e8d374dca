-- The lines of a file that become rows of an empty one are its records again, in their order.
use Rattle.std.proofs.Common.{◌≡◌, ◌<◌, ◌≤◌, ◌+◌, ℕ, zero, suc, List, [], ◌∷◌, ◌++◌, length, map, take, get_or}
use Rattle.std.proofs.Common.{Some, Ok, Result, true, refl, sym, ap, subst, ◌∙◌, arith}
use Rattle.std.specs.List.{AllByRecursion}
use Rattle.std.specs.Ordering.{is_lt, nat_cmp}
use Rattle.std.specs.declared.cmp.Ordering.TheVariants.{Less}
use Rattle.std.proofs.lemmas.Bool.{cond-true, lt-ltb}
use Rattle.std.proofs.lemmas.List.{take_more, take_all, get_or-map, length-map}
use Rattle.std.proofs.lemmas.Map.Keys.{sorted_head, sorted_tail}
use Rattle.records.specs.declared.file_spec.KeyPlace.{KeyPlace}
use Rattle.records.specs.declared.file_spec.Organization.{Organization}
use Rattle.records.specs.declared.file_spec.Organization.TheVariants.{Sequential, Relative, Indexed}
use Rattle.records.specs.Spec.{Spec}
use Rattle.records.specs.Rows.{Row, Pair, part, key_pair, pair_cmp, prime_pair}
use Rattle.records.specs.Files.{File, Files, IsFile, file_at, empty_file}
use Rattle.records.specs.Changes.{new_number, new_row, with_row}
use Rattle.records.specs.Stores.{is_change}
use Rattle.records.specs.Laws.{RowsAscend}
use Rattle.records.proofs.Maps.{found_again}
use Rattle.volume_commands.specs.Dump.{dump_text}
use Rattle.volume_copies.specs.declared.load_end.LineFault.{LineFault}
use Rattle.volume_copies.specs.Lines.{lines_of}
use Rattle.volume_copies.specs.Record.{record_of}
use Rattle.volume_copies.specs.Loaded.{greatest_number, number_among, next_number, file_change, AddsLine, AddsLines}
use Rattle.volume_copies.specs.Unloaded.{records_of, HasRecords}
use Rattle.volume_copies.proofs.Inserted.{rows_after, arrival_after, same_spec_after}
use Rattle.volume_copies.proofs.Unloads.{unloaded}

-- A row that is after all others is the last one.
last_row : (o : Organization) (new : Row) (rows : List Row)
    → AllByRecursion (λ row. pair_cmp (prime_pair o row) (prime_pair o new) ≡ Less) rows
    → with_row o new rows ≡ rows ++ new ∷ []
last_row o new [] all = refl
last_row o new (row ∷ rows) all =
    cond-true (is_lt (pair_cmp (prime_pair o row) (prime_pair o new))) (row ∷ with_row o new rows) (new ∷ row ∷ rows)
    (ap is_lt all.0) ∙ ap (λ (l : List Row). row ∷ l) (last_row o new rows all.1)

records_push : (rows : List Row) (new : Row) → records_of (rows ++ new ∷ []) ≡ records_of rows ++ new.bytes ∷ []
records_push [] new = refl
records_push (row ∷ rows) new = ap (λ (l : List (List ℕ)). row.bytes ∷ l) (records_push rows new)

all_push : (P : Row → Type 0) (rows : List Row) (new : Row) → AllByRecursion P rows → P new
    → AllByRecursion P (rows ++ new ∷ [])
all_push P [] new all here = (here, tt)
all_push P (row ∷ rows) new all here = (all.0, all_push P rows new all.1 here)

all_so : (P Q : Row → Type 0) (rows : List Row) → ((row : Row) → P row → Q row) → AllByRecursion P rows
    → AllByRecursion Q rows
all_so P Q [] so all = tt
all_so P Q (row ∷ rows) so all = (so row all.0, all_so P Q rows so all.1)

all_of_records : (P : List ℕ → Type 0) (rows : List Row) → AllByRecursion P (records_of rows)
    → AllByRecursion (λ row. P row.bytes) rows
all_of_records P [] all = tt
all_of_records P (row ∷ rows) all = (all.0, all_of_records P rows all.1)

numbers_ascend : (one two : ℕ) → one < two → nat_cmp one two ≡ Less
numbers_ascend one two less = cond-true _ Less _ (lt-ltb one two less)

-- no number is past the greatest
at_most : (rows : List Row) (most : ℕ) → greatest_number rows ≤ most → AllByRecursion (λ row. row.number ≤ most) rows
at_most [] most le = tt
at_most (row ∷ rows) most le = (omega (arith, le), at_most rows most (omega (arith, le)))

module _ (place : KeyPlace) where
  key_of : List ℕ → Pair
  key_of bytes = key_pair (part place bytes)

  below_at : (pair : Pair) (rows : List Row) (k : ℕ) (d : List ℕ)
      → AllByRecursion (λ p. pair_cmp pair p ≡ Less) (map (prime_pair (Indexed place)) rows) → k < length rows
      → pair_cmp pair (key_pair (part place (get_or (records_of rows) k d))) ≡ Less
  below_at pair [] k d all lt = absurd (omega (arith, lt))
  below_at pair (row ∷ rows) zero d all lt = all.0
  below_at pair (row ∷ rows) (suc k) d all lt = below_at pair rows k d all.1 (omega (arith, lt))

  -- the first records have lesser keys than the next one
  before_at : (rows : List Row) (k : ℕ) (d : List ℕ) → RowsAscend (Indexed place) rows → k < length rows
      → AllByRecursion (λ bytes. pair_cmp (key_pair (part place bytes))
      (key_pair (part place (get_or (records_of rows) k d))) ≡ Less) (take k (records_of rows))
  before_at [] k d ascend lt = absurd (omega (arith, lt))
  before_at (row ∷ rows) zero d ascend lt = tt
  before_at (row ∷ rows) (suc k) d ascend lt = (
    below_at (prime_pair (Indexed place) row) rows k d
        (sorted_head pair_cmp (prime_pair (Indexed place) row) (map (prime_pair (Indexed place)) rows) ascend)
        (omega (arith, lt)),
    before_at rows k d
        (sorted_tail pair_cmp (prime_pair (Indexed place) row) (map (prime_pair (Indexed place)) rows) ascend)
        (omega (arith, lt)),
  )

-- the row numbers of a sequential file were given
abbrev IsEarlier : Organization → ℕ → Row → Type 0
IsEarlier Sequential next row = row.number < next
IsEarlier Relative next row = Unit {0}
IsEarlier (Indexed place) next row = Unit {0}

-- the file has the first records
record HasFirst (file : File) (k : ℕ) (now : File) : Type 0 where
  spec : now.spec ≡ file.spec
  records : records_of now.rows ≡ take k (records_of file.rows)
  numbers : AllByRecursion (IsEarlier now.spec.organization now.next_arrival) now.rows

-- the number of a new row
abbrev IsNumbered : Organization → ℕ → List Row → Row → Type 0
IsNumbered Sequential next rows new = new.number ≡ next
IsNumbered Relative next rows new = new.number ≡ greatest_number rows + 1
IsNumbered (Indexed place) next rows new = Unit {0}

-- the next record is after them
after_all : (o : Organization) (file : File) (k : ℕ) (rows : List Row) (next : ℕ) (new : Row)
    → RowsAscend o file.rows → k < length file.rows → records_of rows ≡ take k (records_of file.rows)
    → AllByRecursion (IsEarlier o next) rows → new.bytes ≡ get_or (records_of file.rows) k []
    → IsNumbered o next rows new
    → AllByRecursion (λ row. pair_cmp (prime_pair o row) (prime_pair o new) ≡ Less) rows
after_all Sequential file k rows next new ascend lt records numbers bytes numbered =
    all_so (λ row. row.number < next) (λ row. nat_cmp row.number new.number ≡ Less) rows
    (λ row less. numbers_ascend row.number new.number (omega (arith, less, numbered))) numbers
after_all Relative file k rows next new ascend lt records numbers bytes numbered =
    all_so (λ row. row.number ≤ greatest_number rows) (λ row. nat_cmp row.number new.number ≡ Less) rows
    (λ row le. numbers_ascend row.number new.number (omega (arith, le, numbered)))
    (at_most rows (greatest_number rows) (omega arith))
after_all (Indexed place) file k rows next new ascend lt records numbers bytes numbered =
    all_of_records (λ b. pair_cmp (key_pair (part place b)) (key_pair (part place new.bytes)) ≡ Less) rows
    (subst (AllByRecursion (λ b. pair_cmp (key_pair (part place b)) (key_pair (part place new.bytes)) ≡ Less))
    (sym records)
    (subst (λ (n : List ℕ). AllByRecursion (λ b. pair_cmp (key_pair (part place b)) (key_pair (part place n)) ≡ Less)
    (take k (records_of file.rows))) (sym bytes) (before_at place file.rows k [] ascend lt)))

is_numbered : (now : File) (bytes : List ℕ)
    → IsNumbered now.spec.organization now.next_arrival now.rows (new_row now (next_number now) bytes)
is_numbered now bytes = numbered_by now.spec.organization now bytes refl
  where
    numbered_by : (o : Organization) (now : File) (bytes : List ℕ) → now.spec.organization ≡ o
        → IsNumbered o now.next_arrival now.rows (new_row now (next_number now) bytes)
    numbered_by Sequential now bytes is =
        ap (λ (o : Organization). new_number o (number_among o now.rows) now.next_arrival) is
    numbered_by Relative now bytes is =
        ap (λ (o : Organization). new_number o (number_among o now.rows) now.next_arrival) is
    numbered_by (Indexed place) now bytes is = tt

-- with the new row no number is past the next arrival
earlier_push : (o : Organization) (next : ℕ) (rows : List Row) (new : Row) → AllByRecursion (IsEarlier o next) rows
    → IsNumbered o next rows new → AllByRecursion (IsEarlier o (next + 1)) (rows ++ new ∷ [])
earlier_push Sequential next rows new all numbered = all_push (λ row. row.number < next + 1) rows new
    (all_so (λ row. row.number < next) (λ row. row.number < next + 1) rows (λ row less. omega (arith, less)) all)
    (omega (arith, numbered))
earlier_push Relative next rows new all numbered =
    all_push (IsEarlier Relative (next + 1)) rows new (all_so _ _ rows (λ row _. tt) all) tt
earlier_push (Indexed place) next rows new all numbered =
    all_push (IsEarlier (Indexed place) (next + 1)) rows new (all_so _ _ rows (λ row _. tt) all) tt

earlier_after : (bytes : List ℕ) (now : File) → is_change (file_change bytes now).outcome ≡ true
    → (file_change bytes now).file.rows ≡ now.rows ++ new_row now (next_number now) bytes ∷ []
    → AllByRecursion (IsEarlier now.spec.organization now.next_arrival) now.rows
    → AllByRecursion
    (IsEarlier (file_change bytes now).file.spec.organization (file_change bytes now).file.next_arrival)
    (file_change bytes now).file.rows
earlier_after bytes now added last numbers =
    let after = (file_change bytes now).file in
    let new = new_row now (next_number now) bytes in
    let o = now.spec.organization in
    subst (λ (s : Spec). AllByRecursion (IsEarlier s.organization after.next_arrival) after.rows)
    (sym (same_spec_after bytes now))
    (subst (λ (n : ℕ). AllByRecursion (IsEarlier o n) after.rows) (sym (arrival_after bytes now added))
    (subst (AllByRecursion (IsEarlier o (now.next_arrival + 1))) (sym last)
    (earlier_push o now.next_arrival now.rows new numbers (is_numbered now bytes))))

module _ (file : File) (is : IsFile file) where
  line_count : length (lines_of (dump_text file.rows)) ≡ length file.rows
  line_count =
      sym (length-map (lines_of (dump_text file.rows)) (record_of file.spec.record_length))
      ∙ ap length (unloaded file is) ∙ length-map file.rows (λ (row : Row). Ok row.bytes)

  -- the record that the line of a row spells
  line_spells : (k : ℕ) (bytes : List ℕ) → k < length file.rows
      → record_of file.spec.record_length (get_or (lines_of (dump_text file.rows)) k []) ≡ Ok bytes
      → bytes ≡ get_or (records_of file.rows) k []
  line_spells k bytes lt reads =
      let d : Row = record { number = 0; bytes = []; arrivals = [] } in
      let e : Result (List ℕ) LineFault = Ok [] in
      let lines = lines_of (dump_text file.rows) in
      let there : k < length lines = omega (arith, line_count, lt) in
      let same : Ok bytes ≡ Ok (get_or file.rows k d).bytes =
      sym reads ∙ sym (get_or-map (record_of file.spec.record_length) lines k [] e there)
      ∙ ap (λ (l : List (Result (List ℕ) LineFault)). get_or l k e) (unloaded file is)
      ∙ get_or-map (λ (row : Row). Ok row.bytes) file.rows k d e lt in
      let bytes_are : bytes ≡ (get_or file.rows k d).bytes = cc in
      bytes_are ∙ sym (get_or-map (λ (row : Row). row.bytes) file.rows k d [] lt)

  -- one line more
  first_more : (k : ℕ) (now : File) (bytes : List ℕ) → k < length file.rows → HasFirst file k now
      → bytes ≡ get_or (records_of file.rows) k [] → is_change (file_change bytes now).outcome ≡ true
      → HasFirst file (k + 1) (file_change bytes now).file
  first_more k now bytes lt first same added =
      let new = new_row now (next_number now) bytes in
      let o = now.spec.organization in
      let ascend = subst (λ (s : Spec). RowsAscend s.organization file.rows) (sym first.spec) is.ascend in
      let last = rows_after bytes now added ∙ last_row o new now.rows
      (after_all o file k now.rows now.next_arrival new ascend lt first.records first.numbers same
      (is_numbered now bytes)) in
      let few : k < length (records_of file.rows) =
      omega (arith, lt, length-map file.rows (λ (row : Row). row.bytes)) in
      record {
        spec = same_spec_after bytes now ∙ first.spec;
        records = ap records_of last ∙ records_push now.rows new
            ∙ ap (λ (l : List (List ℕ)). l ++ bytes ∷ []) first.records
            ∙ ap (λ (b : List ℕ). take k (records_of file.rows) ++ b ∷ []) same
            ∙ sym (take_more (records_of file.rows) k [] few);
        numbers = earlier_after bytes now added last first.numbers;
      }

  abbrev IsFirst : List ℕ → ℕ → Files → Type 0
  IsFirst name k mid = (now : File) × (file_at name mid ≡ Some now) × HasFirst file k now

  line_more : (name : List ℕ) (k : ℕ) (mid after : Files) → k < length file.rows → IsFirst name k mid
      → AddsLine name (get_or (lines_of (dump_text file.rows)) k []) mid after → IsFirst name (k + 1) after
  line_more name k mid after lt (now, there, first) adds =
      let both : Some now ≡ Some adds.file = sym there ∙ adds.there in
      let same : now ≡ adds.file = cc in
      let here : HasFirst file k adds.file = subst (HasFirst file k) same first in
      let reads =
      subst (λ (s : Spec). record_of s.record_length (get_or (lines_of (dump_text file.rows)) k []) ≡ Ok adds.bytes)
      here.spec adds.reads in (
        (file_change adds.bytes adds.file).file,
        ap (file_at name) adds.after_is ∙ found_again name (file_change adds.bytes adds.file).file mid,
        first_more k adds.file adds.bytes lt here (line_spells k adds.bytes lt reads) adds.added,
      )

  first_lines : (name : List ℕ) (before : Files) → file_at name before ≡ Some (empty_file file.spec)
      → (k : ℕ) (mid : Files) → k ≤ length file.rows → AddsLines name (lines_of (dump_text file.rows)) before k mid
      → IsFirst name k mid
  first_lines name before empty zero mid le adds = (
    empty_file file.spec,
    ap (file_at name) adds ∙ empty,
    record { spec = refl; records = refl; numbers = tt },
  )
  first_lines name before empty (suc k) mid le (earlier, adds, one) =
      let more : k + 1 ≡ suc k = omega arith in
      subst (λ (n : ℕ). IsFirst name n mid) more
      (line_more name k earlier mid (omega (arith, le))
      (first_lines name before empty k earlier (omega (arith, le)) adds) one)

pub rows_come_back : (name : List ℕ) (file : File) (before after : Files) → IsFile file
    → file_at name before ≡ Some (empty_file file.spec)
    → AddsLines name (lines_of (dump_text file.rows)) before (length file.rows) after → HasRecords name file after
rows_come_back name file before after is empty adds =
    let first = first_lines file is name before empty (length file.rows) after (omega arith) adds in
    record {
      now = first.0;
      there = first.1;
      spec = first.2.spec;
      records = first.2.records ∙ take_all (length file.rows) (records_of file.rows)
          (omega (arith, length-map file.rows (λ (row : Row). row.bytes)));
    }
