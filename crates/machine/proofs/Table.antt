-- What the table of file statements says of the number in the RELATIVE KEY item, and of statuses.
use Rattle.std.proofs.Common.{◌≡◌, ◌≤◌, ◌<◌, ◌⊎◌, ℕ, suc, ◌+◌, ◌^◌, Bool, true, false, not, ◌&&◌, ◌||◌, ◌==◌, nat_le}
use Rattle.std.proofs.Common.{List, [], ◌∷◌, length, filter, Option, Some, None, refl, sym, ◌∙◌, ap, subst, inl, inr}
use Rattle.std.proofs.Common.{arith, if◌then◌else◌}
use Rattle.std.specs.Prelude.{is_some}
use Rattle.std.specs.Ordering.{is_lt, is_gt, nat_cmp}
use Rattle.std.proofs.lemmas.Bool.Decides.{nat_tests}
use Rattle.std.proofs.lemmas.Option.{same_Some}
use Rattle.std.proofs.lemmas.Map.Keys.{ge_from_not_lt, le_from_not_gt}
use Rattle.records.specs.declared.file_spec.Organization.{Organization}
use Rattle.records.specs.declared.file_spec.Organization.TheVariants as organization
use Rattle.records.specs.declared.key.KeyOfReference.{KeyOfReference}
use Rattle.records.specs.declared.key.KeyOfReference.TheVariants.{Prime, Alternate}
use Rattle.records.specs.declared.key.Side.TheVariants.{From, After}
use Rattle.records.specs.declared.status.Status.{Status}
use Rattle.records.specs.declared.status.Status.TheVariants as status
use Rattle.records.specs.declared.answer.Outcome.{Outcome}
use Rattle.records.specs.declared.answer.Outcome.TheVariants as outcome
use Rattle.records.specs.declared.verb.OpenMode.{OpenMode}
use Rattle.records.specs.declared.verb.OpenMode.TheVariants.{Input, Output, InputOutput, Extend}
use Rattle.records.specs.declared.verb.Relation.TheVariants as relation
use Rattle.records.specs.declared.verb.Verb.{Verb}
use Rattle.records.specs.declared.verb.Verb.TheVariants.{Open, Close, ReadNext, Read, Write, Rewrite, Delete, Start}
use Rattle.records.specs.Spec.{Spec, same_spec, is_spec, are_keys}
use Rattle.records.specs.Rows.{Row, Pair, number_pair, named_pair, pair_cmp, pair_under}
use Rattle.records.specs.Order.{RowBound, is_after, is_repeated, lesser, least_row, sought_row}
use Rattle.records.specs.Files.{File, Files}
use Rattle.records.specs.Changes.{FileChange, insertion, replacement, removal}
use Rattle.records.specs.Stores.{IsKey, key_length, is_change}
use Rattle.records.specs.Tests.{is_sequential}
use Rattle.records.specs.Connector.{Entry, Connector, Area}
use Rattle.records.specs.Steps as steps
use Rattle.records.specs.Steps.{Step, is_relative, is_too_long, is_row_number, is_past, is_out, is_other, next_number}
use Rattle.records.specs.Steps.{status_after, end_step, takes, step}
use Rattle.records.specs.FileStep.{entry_at, connector_at, own_step, barred_at, file_step, is_close, needs_no_store}
use Rattle.records.specs.FileStep.{Suits}
use Rattle.machine.specs.Ends.{is_barring}

-- ---- one of two steps

by_test : (P : Step → Type 0) (test : Bool) (x y : Step) → (test ≡ true → P x) → (test ≡ false → P y)
    → P (if test then x else y)
by_test P true x y one other = one refl
by_test P false x y one other = other refl

-- ---- the number: it stays, or has no more digits than the item

abbrev pub StaysOrFits : Option ℕ → ℕ → ℕ → Type 0
StaysOrFits None old new = Unit {0}
StaysOrFits (Some digits) old new = (new ≡ old) ⊎ (new < 10 ^ digits)

same_number : (digits : Option ℕ) (n : ℕ) → StaysOrFits digits n n
same_number None n = tt
same_number (Some digits) n = inl refl

fits_by : (digits : Option ℕ) (old new : ℕ) → is_too_long digits new ≡ false → StaysOrFits digits old new
fits_by None old new fits = tt
fits_by (Some digits) old new fits = inr (below (10 ^ digits) new fits)
  where
    below : (limit n : ℕ) → nat_le limit n ≡ false → n < limit
    below limit n e = grind (arith, nat_tests)

-- a number that is taken where this holds
chosen : (digits : Option ℕ) (test : Bool) (old new : ℕ) → (test ≡ true → StaysOrFits digits old new)
    → StaysOrFits digits old (if test then new else old)
chosen digits true old new fits = fits refl
chosen digits false old new fits = same_number digits old

and_first : (a b : Bool) → (a && b) ≡ true → a ≡ true
and_first true b e = refl
and_first false b e = absurd cc

and_second : (a b : Bool) → (a && b) ≡ true → b ≡ true
and_second true b e = e
and_second false b e = absurd cc

true_or_false : (b : Bool) → b ≡ true → b ≡ false → (let never : Type 0 = ⊥ in never)
true_or_false true so not_so = absurd cc
true_or_false false so not_so = absurd cc

not_too_long : (o b : Bool) → (o && b) ≡ false → o ≡ true → b ≡ false
not_too_long true b e so = e
not_too_long false b e so = absurd cc

-- ---- a row that was sought follows the place

kept : (first : Row) (spec : Spec) (key : KeyOfReference) (rest : Option Row) (row : Row)
    → lesser spec key first rest ≡ Some row → (row ≡ first) ⊎ (rest ≡ Some row)
kept first spec key None row e = inl (sym (same_Some first row e))
kept first spec key (Some other) row e =
    by (is_gt (pair_cmp (pair_under spec key first) (pair_under spec key other))) (same_Some _ row e)
  where
    by : (b : Bool) → (if b then other else first) ≡ row → (row ≡ first) ⊎ (Some other ≡ Some row)
    by true e = inr (ap Some e)
    by false e = inl (sym e)

filtered_by : (spec : Spec) (key : KeyOfReference) (P : Row → Bool) (first : Row) (more : List Row) (row : Row)
    → (least_row spec key (filter P more) ≡ Some row → P row ≡ true) → (b : Bool) → P first ≡ b
    → least_row spec key (if b then first ∷ filter P more else filter P more) ≡ Some row → P row ≡ true
filtered_by spec key P first more row later true is e =
    elim (kept first spec key (least_row spec key (filter P more)) row e) [
      | inl same ↦ subst (λ (r : Row). P r ≡ true) (sym same) is
      | inr found ↦ later found
    ]
filtered_by spec key P first more row later false is e = later e

filtered : (spec : Spec) (key : KeyOfReference) (P : Row → Bool) (rows : List Row) (row : Row)
    → least_row spec key (filter P rows) ≡ Some row → P row ≡ true
filtered spec key P [] row e = absurd cc
filtered spec key P (first ∷ more) row e =
    filtered_by spec key P first more row (filtered spec key P more row) (P first) refl e

sought_behind : (spec : Spec) (key : KeyOfReference) (bound : RowBound) (rows : List Row) (row : Row)
    → sought_row spec key bound rows ≡ Some row
    → is_after bound.side bound.pair (pair_under spec key row) ≡ true
sought_behind spec key bound rows row e =
    filtered spec key (λ r. is_after bound.side bound.pair (pair_under spec key r)) rows row e

-- a number that is neither less nor greater
between : (m n : ℕ) → is_lt (nat_cmp m n) ≡ false → is_gt (nat_cmp m n) ≡ false → m ≡ n
between m n no_less no_more =
    let least = ge_from_not_lt m n no_less in
    let most = le_from_not_gt m n no_more in
    omega (arith, least, most)

untrue : (b : Bool) → not b ≡ true → b ≡ false
untrue true e = absurd cc
untrue false e = refl

-- ---- READ by a relative number reads the row of that number

module _ (entry : Entry) (files : Files) (c : Connector) (area : Area) where
  spec_is : is_spec entry.spec ≡ true
      → are_keys entry.spec.record_length entry.spec.organization entry.spec.alternates ≡ true
  spec_is e = and_second (nat_le 1 entry.spec.record_length && nat_le entry.spec.record_length 16000)
      (are_keys entry.spec.record_length entry.spec.organization entry.spec.alternates) e

  -- under its prime key
  own_number : (o : Organization) → entry.spec.organization ≡ o → is_relative o ≡ true → (key : KeyOfReference)
      → is_spec entry.spec ≡ true
      → IsKey entry.spec key → (row : Row) → pair_under entry.spec key row ≡ number_pair row.number
  own_number organization.Relative is so Prime e has row =
      ap (λ (o : Organization). named_pair o row.number row.bytes) is
  own_number organization.Relative is so (Alternate i) e has row =
      absurd (no_alternate (length entry.spec.alternates) i
      (subst (λ (o : Organization). are_keys entry.spec.record_length o entry.spec.alternates ≡ true) is (spec_is e))
      has)
    where
      no_alternate : (n i : ℕ) → (n == 0) ≡ true → suc i ≤ n → (let never : Type 0 = ⊥ in never)
      no_alternate n i none some = grind (arith, nat_tests)
  own_number organization.Sequential is so key e has row = absurd cc
  own_number (organization.Indexed place) is so key e has row = absurd cc

  named_number : (o : Organization) → is_relative o ≡ true → (key : KeyOfReference) (count : ℕ)
      → steps.area_pair entry.spec o key count area ≡ number_pair area.number
  named_number organization.Relative so key count = refl
  named_number organization.Sequential so key count = absurd cc
  named_number (organization.Indexed place) so key count = absurd cc

  fits_place : (o : Organization) → is_relative o ≡ true → (place pair : Pair)
      → steps.if_fits o relation.Equal place pair ≡ not (is_after After place pair)
  fits_place organization.Relative so place pair = refl
  fits_place organization.Sequential so place pair = absurd cc
  fits_place (organization.Indexed p) so place pair = absurd cc

  -- the row that a number names has it
  found_number : is_relative entry.spec.organization ≡ true → (key : KeyOfReference) → is_spec entry.spec ≡ true
      → IsKey entry.spec key → (count : ℕ) (row : Row)
      → steps.first_fitting entry files c area relation.Equal key
      (steps.area_pair entry.spec entry.spec.organization key count area) ≡ Some row
      → row.number ≡ area.number
  found_number so key e has count row found =
      by (sought_row entry.spec key (record { side = From; pair = place }) (steps.rows entry files c area)) refl found
    where
      place : Pair
      place = steps.area_pair entry.spec entry.spec.organization key count area

      place_is : place ≡ number_pair area.number
      place_is = named_number entry.spec.organization so key count

      by_fit : (other : Row) (b : Bool)
          → steps.if_fits entry.spec.organization relation.Equal place (pair_under entry.spec key other) ≡ b
          → sought_row entry.spec key (record { side = From; pair = place }) (steps.rows entry files c area)
          ≡ Some other
          → (if b then Some other else None) ≡ Some row → row.number ≡ area.number
      by_fit other true fit is e3 =
          let same : other ≡ row = same_Some other row e3 in
          let own : pair_under entry.spec key other ≡ number_pair other.number =
          own_number entry.spec.organization refl so key e has other in
          let behind = sought_behind entry.spec key (record { side = From; pair = place })
          (steps.rows entry files c area) other is in
          let no_less : is_lt (nat_cmp other.number area.number) ≡ false =
          untrue (is_lt (nat_cmp other.number area.number))
          (sym (ap (λ (q : Pair). is_after From place q) own
          ∙ ap (λ (q : Pair). is_after From q (number_pair other.number)) place_is) ∙ behind) in
          let no_more : is_gt (nat_cmp other.number area.number) ≡ false =
          untrue (is_gt (nat_cmp other.number area.number))
          (sym (fits_place entry.spec.organization so place (pair_under entry.spec key other)
          ∙ ap (λ (q : Pair). not (is_after After place q)) own
          ∙ ap (λ (q : Pair). not (is_after After q (number_pair other.number))) place_is) ∙ fit) in
          ap (λ (r : Row). r.number) (sym same) ∙ between other.number area.number no_less no_more
      by_fit other false fit is e = absurd cc

      by : (o : Option Row)
          → sought_row entry.spec key (record { side = From; pair = place }) (steps.rows entry files c area) ≡ o
          → steps.row_if_fits entry files c area relation.Equal key place o ≡ Some row → row.number ≡ area.number
      by None is e = absurd cc
      by (Some other) is e = by_fit other
          (steps.if_fits entry.spec.organization relation.Equal place (pair_under entry.spec key other)) refl is e

  -- ---- the number after each verb

  abbrev Stays : Step → Type 0
  Stays s = StaysOrFits entry.key_digits area.number s.area.number

  same : StaysOrFits entry.key_digits area.number area.number
  same = same_number entry.key_digits area.number

  absent_fits : (mode : OpenMode) → Stays (steps.open_absent entry files c area mode)
  absent_fits Input = same
  absent_fits Output = same
  absent_fits InputOutput = same
  absent_fits Extend = same

  there_fits : (mode : OpenMode) (o : Option File) → Stays (steps.open_there entry files c area mode o)
  there_fits mode None = by_test Stays entry.optional (steps.open_absent entry files c area mode)
      (steps.end_step entry files c area status.FileMissing) (λ so. absent_fits mode) (λ not_so. same)
  there_fits mode (Some there) =
      by_test Stays (same_spec there.spec entry.spec) (steps.opens entry files c area mode status.Success)
      (steps.end_step entry files c area status.FileDiffers) (λ so. same) (λ not_so. same)

  open_fits : (mode : OpenMode) → Stays (steps.open_step entry files c area mode)
  open_fits Output = same
  open_fits Input = there_fits Input (steps.file entry files c area)
  open_fits InputOutput = there_fits InputOutput (steps.file entry files c area)
  open_fits Extend = there_fits Extend (steps.file entry files c area)

  taken_fits : (key : KeyOfReference) (row : Row)
      → (is_relative entry.spec.organization ≡ true → StaysOrFits entry.key_digits area.number row.number)
      → Stays (takes entry files c area key row)
  taken_fits key row fits =
      chosen entry.key_digits (is_relative entry.spec.organization && is_some entry.key_digits) area.number row.number
      (λ both. fits (and_first (is_relative entry.spec.organization) (is_some entry.key_digits) both))

  next_fits : (o : Option Row) → Stays (steps.read_next entry files c area o)
  next_fits None = same
  next_fits (Some row) =
      by_test Stays (is_relative entry.spec.organization && is_too_long entry.key_digits row.number)
      (steps.ends_nowhere entry files c area c.reference status.NumberTooLong)
      (takes entry files c area c.reference row) (λ so. same)
      (λ not_so. taken_fits c.reference row (λ relative. fits_by entry.key_digits area.number row.number
      (not_too_long (is_relative entry.spec.organization) (is_too_long entry.key_digits row.number) not_so relative)))

  position_fits : (o : Option RowBound) → Stays (steps.next_from entry files c area o)
  position_fits None = same
  position_fits (Some bound) = next_fits (sought_row entry.spec c.reference bound (steps.rows entry files c area))

  equal_number : (digits : Option ℕ) (old new : ℕ) → new ≡ old → StaysOrFits digits old new
  equal_number None old new is = tt
  equal_number (Some digits) old new is = inl is

  read_fits : (key : KeyOfReference) (count : ℕ) → is_spec entry.spec ≡ true → IsKey entry.spec key → (o : Option Row)
      → steps.first_fitting entry files c area relation.Equal key
      (steps.area_pair entry.spec entry.spec.organization key count area) ≡ o
      → Stays (steps.read_found entry files c area key o)
  read_fits key count is has None found = same
  read_fits key count is has (Some row) found =
      taken_fits key row (λ relative.
      equal_number entry.key_digits area.number row.number (found_number relative key is has count row found))

  stands_fits : (key : KeyOfReference) (o : Option Row) → Stays (steps.stands_at entry files c area key o)
  stands_fits key None = same
  stands_fits key (Some row) = same

  or_second : (a b : Bool) → (a || b) ≡ false → b ≡ false
  or_second true b e = absurd cc
  or_second false b e = e

  written_fits : (o : Organization) → is_relative o ≡ true
      → is_past o entry.access entry.key_digits (next_number o entry.access c.last.number area.number) ≡ false
      → StaysOrFits entry.key_digits area.number (next_number o entry.access c.last.number area.number)
  written_fits organization.Relative so past = by (is_sequential entry.access) past
    where
      by : (b : Bool) → (not (is_row_number (if b then c.last.number + 1 else area.number)) || b
          && is_too_long entry.key_digits (if b then c.last.number + 1 else area.number)) ≡ false
          → StaysOrFits entry.key_digits area.number (if b then c.last.number + 1 else area.number)
      by true e = fits_by entry.key_digits area.number (c.last.number + 1)
          (or_second (not (is_row_number (c.last.number + 1))) (is_too_long entry.key_digits (c.last.number + 1)) e)
      by false e = same
  written_fits organization.Sequential so past = absurd cc
  written_fits (organization.Indexed place) so past = absurd cc

  write_fits : Stays (steps.write entry files c area)
  write_fits =
      by_test Stays (is_past entry.spec.organization entry.access entry.key_digits number)
      (end_step entry files c area status.Boundary) _ (λ so. same)
      (λ past. by_test Stays (is_out entry.spec.organization entry.access area.bytes c.last.value)
      (end_step entry files c area status.OutOfSequence)
      (steps.writes entry files c area changed) (λ so. same) (λ not_so. chosen entry.key_digits
      (is_change changed.outcome && is_relative entry.spec.organization && is_some entry.key_digits)
      area.number number (λ all. written_fits entry.spec.organization
      (and_second (is_change changed.outcome) (is_relative entry.spec.organization)
      (and_first (is_change changed.outcome && is_relative entry.spec.organization) (is_some entry.key_digits) all))
      past)))
    where
      number : ℕ
      number = steps.number_to_write entry files c area

      changed : FileChange
      changed = insertion number area.bytes (steps.held_file entry files c area)

  rewrite_fits : Stays (steps.rewrite entry files c area)
  rewrite_fits = by_test Stays
      (is_other entry.spec.organization entry.access area.bytes (steps.row_to_change entry files c area).value)
      (end_step entry files c area status.OutOfSequence) (steps.changes entry files c area
      (replacement (steps.row_to_change entry files c area).number area.bytes (steps.held_file entry files c area)))
      (λ so. same) (λ not_so. same)

  step_fits : (verb : Verb) → is_spec entry.spec ≡ true → Suits entry verb → Stays (step entry files c area verb)
  step_fits (Open mode) is suits = open_fits mode
  step_fits Close is suits = same
  step_fits ReadNext is suits = position_fits c.position
  step_fits (Read key) is suits = read_fits key (key_length entry.spec key) is suits _ refl
  step_fits Write is suits = write_fits
  step_fits Rewrite is suits = rewrite_fits
  step_fits Delete is suits = same
  step_fits (Start relation key count) is suits = stands_fits key _

  own_fits : (verb : Verb) (o : Option Status) → is_spec entry.spec ≡ true → Suits entry verb
      → Stays (own_step entry files c area verb o)
  own_fits verb (Some status) is suits = same
  own_fits verb None is suits = step_fits verb is suits

  -- ---- the status after each verb that looks at files

  abbrev Looks : Step → Type 0
  Looks s = is_barring s.status ≡ false

  absent_looks : (mode : OpenMode) → Looks (steps.open_absent entry files c area mode)
  absent_looks Input = refl
  absent_looks Output = refl
  absent_looks InputOutput = refl
  absent_looks Extend = refl

  there_looks : (mode : OpenMode) (o : Option File) → Looks (steps.open_there entry files c area mode o)
  there_looks mode None = by_test Looks entry.optional (steps.open_absent entry files c area mode)
      (steps.end_step entry files c area status.FileMissing) (λ so. absent_looks mode) (λ not_so. refl)
  there_looks mode (Some there) =
      by_test Looks (same_spec there.spec entry.spec) (steps.opens entry files c area mode status.Success)
      (steps.end_step entry files c area status.FileDiffers) (λ so. refl) (λ not_so. refl)

  open_looks : (mode : OpenMode) → Looks (steps.open_step entry files c area mode)
  open_looks Output = refl
  open_looks Input = there_looks Input (steps.file entry files c area)
  open_looks InputOutput = there_looks InputOutput (steps.file entry files c area)
  open_looks Extend = there_looks Extend (steps.file entry files c area)

  duplicate_or_not : (b : Bool) → is_barring (if b then status.SuccessDuplicate else status.Success) ≡ false
  duplicate_or_not true = refl
  duplicate_or_not false = refl

  taken_looks : (key : KeyOfReference) (row : Row) → Looks (takes entry files c area key row)
  taken_looks key row = duplicate_or_not (is_repeated entry.spec key row (steps.rows entry files c area))

  next_looks : (o : Option Row) → Looks (steps.read_next entry files c area o)
  next_looks None = refl
  next_looks (Some row) = by_test Looks (is_relative entry.spec.organization && is_too_long entry.key_digits row.number)
      (steps.ends_nowhere entry files c area c.reference status.NumberTooLong)
      (takes entry files c area c.reference row) (λ so. refl)
      (λ not_so. taken_looks c.reference row)

  position_looks : (o : Option RowBound) → Looks (steps.next_from entry files c area o)
  position_looks None = refl
  position_looks (Some bound) = next_looks (sought_row entry.spec c.reference bound (steps.rows entry files c area))

  read_looks : (key : KeyOfReference) (o : Option Row) → Looks (steps.read_found entry files c area key o)
  read_looks key None = refl
  read_looks key (Some row) = taken_looks key row

  stands_looks : (key : KeyOfReference) (o : Option Row) → Looks (steps.stands_at entry files c area key o)
  stands_looks key None = refl
  stands_looks key (Some row) = refl

  after_looks : (o : Outcome) → is_barring (status_after o) ≡ false
  after_looks outcome.Missing = refl
  after_looks outcome.Taken = refl
  after_looks outcome.Done = refl
  after_looks outcome.Duplicate = refl

  write_looks : Looks (steps.write entry files c area)
  write_looks =
      by_test Looks (is_past entry.spec.organization entry.access entry.key_digits
      (steps.number_to_write entry files c area)) (end_step entry files c area status.Boundary) _ (λ so. refl)
      (λ past. by_test Looks (is_out entry.spec.organization entry.access area.bytes c.last.value)
      (end_step entry files c area status.OutOfSequence)
      (steps.writes entry files c area (insertion (steps.number_to_write entry files c area) area.bytes
      (steps.held_file entry files c area))) (λ so. refl)
      (λ not_so. after_looks (insertion (steps.number_to_write entry files c area) area.bytes
      (steps.held_file entry files c area)).outcome))

  rewrite_looks : Looks (steps.rewrite entry files c area)
  rewrite_looks = by_test Looks
      (is_other entry.spec.organization entry.access area.bytes (steps.row_to_change entry files c area).value)
      (end_step entry files c area status.OutOfSequence) (steps.changes entry files c area
      (replacement (steps.row_to_change entry files c area).number area.bytes (steps.held_file entry files c area)))
      (λ so. refl) (λ not_so. after_looks (replacement (steps.row_to_change entry files c area).number area.bytes
      (steps.held_file entry files c area)).outcome)

  step_looks : (verb : Verb) → is_close verb ≡ false → Looks (step entry files c area verb)
  step_looks (Open mode) other = open_looks mode
  step_looks Close other = absurd cc
  step_looks ReadNext other = position_looks c.position
  step_looks (Read key) other = read_looks key _
  step_looks Write other = write_looks
  step_looks Rewrite other = rewrite_looks
  step_looks Delete other =
      after_looks (removal (steps.row_to_change entry files c area) (steps.held_file entry files c area)).outcome
  step_looks (Start relation key count) other = stands_looks key _

  own_looks : (verb : Verb) (o : Option Status) → (is_some o || is_close verb) ≡ false
      → Looks (own_step entry files c area verb o)
  own_looks verb (Some status) asks = absurd cc
  own_looks verb None asks = step_looks verb asks

-- The number that a file statement leaves is the one before, or has no more digits than the item of RELATIVE KEY.
pub number_fits :
    (entries : List Entry) (files : Files) (connectors : List Connector) (i : ℕ) (verb : Verb) (area : Area)
    → is_spec (entry_at entries i).spec ≡ true → Suits (entry_at entries i) verb
    → StaysOrFits (entry_at entries i).key_digits area.number
    (file_step entries files connectors i verb area).area.number
number_fits entries files connectors i verb area is suits =
    own_fits (entry_at entries i) files (connector_at connectors i) area verb (barred_at entries connectors i verb) is
    suits

-- What looks at files has a status that no test of the connectors gives.
pub looks_at_files :
    (entries : List Entry) (files : Files) (connectors : List Connector) (i : ℕ) (verb : Verb) (area : Area)
    → needs_no_store entries connectors i verb ≡ false
    → is_barring (file_step entries files connectors i verb area).status ≡ false
looks_at_files entries files connectors i verb area asks =
    own_looks (entry_at entries i) files (connector_at connectors i) area verb (barred_at entries connectors i verb)
    asks
