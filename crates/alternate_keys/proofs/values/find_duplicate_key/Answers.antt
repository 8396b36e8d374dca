use Rattle.std.proofs.Common.{◌≡◌, ◌<◌, ◌+◌, ◌&&◌, ◌||◌, inr, Bool, true, false, not, ℕ, List, length, take, sym}
use Rattle.std.proofs.Common.{ap, subst, ◌∙◌, arith}
use Rattle.std.specs.Prelude.{filter, Option, slice_index_or, if◌then◌else◌}
use Rattle.std.specs.List.{list_any}
use Rattle.std.proofs.lemmas.List.{get_or_read}
use Rattle.station.specs.Disk.{Sector}
use Rattle.btree.specs.Calls.{IfAgrees, pages_on}
use Rattle.btree.proofs.Frames.{same_pages}
use Rattle.records.specs.declared.answer.Outcome.{Outcome}
use Rattle.records.specs.declared.answer.Outcome.TheVariants.{Taken}
use Rattle.records.specs.declared.file_spec.AlternateKey.{AlternateKey}
use Rattle.records.specs.declared.key.KeyOfReference.TheVariants.{Alternate}
use Rattle.records.specs.Rows.{Row, no_key}
use Rattle.records.specs.Changes.{repeats, is_taken, is_duplicate, done_outcome}
use Rattle.records.specs.Stores.{spec_of}
use Rattle.alternate_keys.specs.Moved.{is_new}
use Rattle.alternate_keys.specs.Placed.{HasAllPairs, listed_tree}
use Rattle.alternate_keys.specs.Seen.{HasPairs}
use Rattle.volume_format.proofs.Looks.{looks_then}
use Rattle.alternate_keys.proofs.Walks.{any_more, any_at, all_taken, allowed, any_filtered}
use Rattle.alternate_keys.proofs.Passing.{never_ok}
use Rattle.alternate_keys.proofs.Faults.{refused_by_call}
use Rattle.alternate_keys.proofs.values.find_duplicate_key.Given.{Over}
use Rattle.std.specs.Prelude.{IfErr}
use Rattle.alternate_keys.proofs.Passing.{if_refused, passed, spent_before}
use Rattle.volume_format.proofs.Looks.{looks_blamed}
use Rattle.alternate_keys.specs.Faults.{IsReadFault}
use Rattle.alternate_keys.proofs.Calling.{sectors_still}
use Rattle.alternate_keys.proofs.values.find_duplicate_key.Goals as goal
use Rattle.alternate_keys.proofs.values.find_duplicate_key.Goals.{After-is_repeated}

pub returns-in_err-repeated-clause-looks : goal.returns-in_err-repeated-clause-looks
returns-in_err-repeated-clause-looks g c =
    let loop = c.loop-key in
    looks_then g.D.Device ⊥ _ _ c.args.pages.now loop.pages c.is_repeated.new.pages c.args.device.now loop.device
    c.is_repeated.new.device
    (λ is. inr (let told = refused_by_call c.in_err-repeated.was c.from_residual.ensures.1 is in told))
    loop.invariant.looks c.is_repeated.ensures.looks

-- the key is one of the file's
low : (g : Over) (c : After-is_repeated g) → c.loop-key.key < length (spec_of c.args.file.now).alternates
low g c = omega (arith, c.len-count.ensures, c.args.file.now.alternates.ok, c.loop-key-test.true)

-- whether the row comes to its value of a key
abbrev new_at : (g : Over) (c : After-is_repeated g) → AlternateKey → Bool
new_at g c = is_new c.args.new_record.verb (take c.args.file.now.record_length c.args.new_record.old_value.now)
    c.args.new_record.bytes.now

-- its pairs are there still
here : (g : Over) (c : After-is_repeated g) → IfAgrees g.D.Device c.args.pages.now c.args.device.now
    ((rows : List Row) → HasAllPairs (spec_of c.args.file.now)
    (pages_on g.D.Device c.args.pages.now c.args.device.now) rows c.args.listing.now
    → HasPairs (spec_of c.args.file.now) (Alternate c.loop-key.key)
    (pages_on g.D.Device c.loop-key.pages c.loop-key.device) rows
    (listed_tree (spec_of c.args.file.now) c.loop-key.key c.args.listing.now))
here g c honest agrees rows pairs =
    let looks = c.loop-key.invariant.looks in
    subst (λ (p : List (Option Sector)). HasPairs (spec_of c.args.file.now) (Alternate c.loop-key.key) p rows
    (listed_tree (spec_of c.args.file.now) c.loop-key.key c.args.listing.now))
    (sym (same_pages c.args.pages.now c.loop-key.pages (g.D.Device.state c.args.device.now)
    (g.D.Device.state c.loop-key.device) looks.unchanged (looks.only.state honest))) (pairs c.loop-key.key (low g c))

pub returns-in_err-repeated-clause-damaged : goal.returns-in_err-repeated-clause-damaged
returns-in_err-repeated-clause-damaged g c = λ honest agrees rows pairs is.
    let at = (goal.at.returns-in_err-repeated-clause-damaged g c).After-is_repeated in
    let looks = c.loop-key.invariant.looks in
    c.is_repeated.ensures.damaged (looks.only.honest.0 honest) (looks.agrees honest agrees) rows
    (here g at honest agrees rows pairs) (refused_by_call c.in_err-repeated.was c.from_residual.ensures.1 is)

pub returns-then-is_barred-clause-looks : goal.returns-then-is_barred-clause-looks
returns-then-is_barred-clause-looks g c =
    let loop = c.loop-key in
    looks_then g.D.Device ⊥ _ _ c.args.pages.now loop.pages c.is_repeated.new.pages c.args.device.now loop.device
    c.is_repeated.new.device
    (λ is. never_ok is) loop.invariant.looks c.is_repeated.ensures.looks

-- what is known of a key, and of those before it
module _ (keys : List AlternateKey) (rows : List Row) (bytes : List ℕ) (new : AlternateKey → Bool) where
  abbrev wanted : AlternateKey → Bool
  wanted key = new key && repeats rows bytes key

  abbrev bars : AlternateKey → Bool
  bars key = not key.duplicates && wanted key

  abbrev doubles : AlternateKey → Bool
  doubles key = key.duplicates && wanted key

  abbrev answer : Bool → Bool → Outcome
  answer taken duplicate = if taken then Taken else done_outcome duplicate

  pub taken_is : is_taken (filter new keys) rows bytes ≡ list_any bars keys
  taken_is = any_filtered new (λ key. not key.duplicates) (repeats rows bytes) keys

  pub duplicate_is : is_duplicate (filter new keys) rows bytes ≡ list_any doubles keys
  duplicate_is = any_filtered new (λ key. key.duplicates) (repeats rows bytes) keys

  pub barred : (k : ℕ) → k < length keys → bars (slice_index_or keys k no_key) ≡ true
      → Taken ≡ answer (is_taken (filter new keys) rows bytes) (is_duplicate (filter new keys) rows bytes)
  barred k low is = sym (ap (λ (b : Bool). answer b (is_duplicate (filter new keys) rows bytes))
      (taken_is ∙ any_at bars keys k no_key low is))

  pub free : (k : ℕ) → take k keys ≡ keys → list_any bars (take k keys) ≡ false
      → (duplicate : Bool) → duplicate ≡ list_any doubles (take k keys) → done_outcome duplicate ≡ answer
      (is_taken (filter new keys) rows bytes) (is_duplicate (filter new keys) rows bytes)
  free k all none duplicate is =
      sym (ap (λ (b : Bool). answer b (is_duplicate (filter new keys) rows bytes))
      (taken_is ∙ ap (λ (ks : List AlternateKey). list_any bars ks) (sym all) ∙ none)
      ∙ ap done_outcome (duplicate_is ∙ ap (λ (ks : List AlternateKey). list_any doubles ks) (sym all) ∙ sym is))

  -- one key more: it bars the record, or the answer so far holds of it too
  pub bars_at : (k : ℕ) (key : AlternateKey) (repeated barred answer : Bool) → key ≡ slice_index_or keys k no_key
      → repeated ≡ wanted (slice_index_or keys k no_key) → barred ≡ (not key.duplicates && repeated)
      → barred ≡ answer → bars (slice_index_or keys k no_key) ≡ answer
  bars_at k key repeated barred answer at there is out =
      ap (λ (b : Bool). not (slice_index_or keys k no_key).duplicates && b) (sym there)
      ∙ ap (λ (x : AlternateKey). not x.duplicates && repeated) (sym at) ∙ sym is ∙ out

  pub none_more : (k : ℕ) → k < length keys → list_any bars (take k keys) ≡ false
      → bars (slice_index_or keys k no_key) ≡ false → list_any bars (take (k + 1) keys) ≡ false
  none_more k low so_far own =
      any_more bars keys k no_key low ∙ ap (λ (b : Bool). b || bars (slice_index_or keys k no_key)) so_far ∙ own

  pub double_more : (k : ℕ) (duplicate repeated either : Bool)
      → k < length keys → duplicate ≡ list_any doubles (take k keys) → repeated ≡ wanted (slice_index_or keys k no_key)
      → bars (slice_index_or keys k no_key) ≡ false → either ≡ (duplicate || repeated) →
      either ≡ list_any doubles (take (k + 1) keys)
  double_more k duplicate repeated either low so_far there own is =
      is ∙ ap (λ (b : Bool). b || repeated) so_far
      ∙ ap (λ (b : Bool). list_any doubles (take k keys) || b)
      (there ∙ sym (allowed (slice_index_or keys k no_key).duplicates (wanted (slice_index_or keys k no_key)) own))
      ∙ sym (any_more doubles keys k no_key low)

  pub goes_on : (k : ℕ) (key : AlternateKey) (duplicate repeated barred either : Bool) → k < length keys
      → key ≡ slice_index_or keys k no_key → repeated ≡ wanted (slice_index_or keys k no_key)
      → barred ≡ (not key.duplicates && repeated) → barred ≡ false → either ≡ (duplicate || repeated)
      → (list_any bars (take k keys) ≡ false) × (duplicate ≡ list_any doubles (take k keys))
      → (list_any bars (take (k + 1) keys) ≡ false) × (either ≡ list_any doubles (take (k + 1) keys))
  goes_on k key duplicate repeated barred either low at there is out both so_far =
      let own = bars_at k key repeated barred false at there is out in (
        none_more k low so_far.0 own,
        double_more k duplicate repeated either low so_far.1 there own both,
      )

pub returns-then-is_barred-clause-told : goal.returns-then-is_barred-clause-told
returns-then-is_barred-clause-told g c = λ honest agrees rows pairs.
    let at = (goal.at.returns-then-is_barred-clause-told g c).After-is_repeated in
    let keys = (spec_of c.args.file.now).alternates in
    let new = new_at g at in
    let looks = c.loop-key.invariant.looks in
    barred keys rows c.args.new_record.bytes.now new c.loop-key.key (low g at)
    (bars_at keys rows c.args.new_record.bytes.now new c.loop-key.key c.index.result.now c.in_ok-repeated.repeated
    c.is_barred.result true (get_or_read keys c.loop-key.key c.index.result.now (low g at) c.index.ensures no_key)
    (c.in_ok-repeated.ensures.repeated (looks.only.honest.0 honest) (looks.agrees honest agrees) rows
    (here g at honest agrees rows pairs)) c.is_barred.ensures c.if-is_barred.true)

pub loop-key-preserved : goal.loop-key-preserved
loop-key-preserved g c =
    let at = (goal.at.loop-key-preserved g c).After-is_repeated in
    let keys = (spec_of c.args.file.now).alternates in
    let new = new_at g at in
    let loop = c.loop-key.invariant in
    record {
      looks = looks_then g.D.Device ⊥ _ ⊥ _ _ _ _ _ _ (λ is. absurd is) loop.looks c.is_repeated.ensures.looks;
      told = λ honest agrees rows pairs. goes_on keys rows c.args.new_record.bytes.now new c.loop-key.key
          c.index.result.now c.loop-key.duplicate c.in_ok-repeated.repeated c.is_barred.result c.either-duplicate.result
          (low g at) (get_or_read keys c.loop-key.key c.index.result.now (low g at) c.index.ensures no_key)
          (c.in_ok-repeated.ensures.repeated (loop.looks.only.honest.0 honest) (loop.looks.agrees honest agrees)
          rows (here g at honest agrees rows pairs)) c.is_barred.ensures c.if-is_barred.false c.either-duplicate.ensures
          (loop.told honest agrees rows pairs);
    }

pub returns-then-duplicate-clause-told : goal.returns-then-duplicate-clause-told
returns-then-duplicate-clause-told g c = λ honest agrees rows pairs.
    let loop = c.loop-key in
    let bytes : List ℕ = c.args.new_record.bytes.now in
    let keys : List AlternateKey = c.args.file.now.alternates.items in
    let new : AlternateKey → Bool =
    is_new c.args.new_record.verb (take c.args.file.now.record_length c.args.new_record.old_value.now) bytes in
    let n : c.len-count.result ≡ length c.args.file.now.alternates.items =
    omega (arith, c.len-count.ensures, c.args.file.now.alternates.ok) in
    let all : take loop.key keys ≡ keys = all_taken keys loop.key (let test = c.loop-key-test.false in let end =
    loop.auto.key-end in omega (arith, n, test, end)) in
    let so_far = loop.invariant.told honest agrees rows pairs in
    free keys rows bytes new loop.key all so_far.0 true (sym c.if-duplicate.true ∙ so_far.1)

pub returns-clause-told : goal.returns-clause-told
returns-clause-told g c = λ honest agrees rows pairs.
    let loop = c.loop-key in
    let bytes : List ℕ = c.args.new_record.bytes.now in
    let keys : List AlternateKey = c.args.file.now.alternates.items in
    let new : AlternateKey → Bool =
    is_new c.args.new_record.verb (take c.args.file.now.record_length c.args.new_record.old_value.now) bytes in
    let n : c.len-count.result ≡ length c.args.file.now.alternates.items =
    omega (arith, c.len-count.ensures, c.args.file.now.alternates.ok) in
    let all : take loop.key keys ≡ keys = all_taken keys loop.key (let test = c.loop-key-test.false in let end =
    loop.auto.key-end in omega (arith, n, test, end)) in
    let so_far = loop.invariant.told honest agrees rows pairs in
    free keys rows bytes new loop.key all so_far.0 false (sym c.if-duplicate.false ∙ so_far.1)

pub returns-in_err-repeated-clause-told : goal.returns-in_err-repeated-clause-told
returns-in_err-repeated-clause-told g c =
    λ honest agrees rows pairs.
    if_refused c.from_residual.result c.in_err-repeated.field-0.0 c.from_residual.ensures.1 _

pub returns-in_err-repeated-clause-spent : goal.returns-in_err-repeated-clause-spent
returns-in_err-repeated-clause-spent g c =
    λ is. spent_before c.args.pages.now c.loop-key.pages c.loop-key.invariant.looks.unchanged.committed
    (c.is_repeated.ensures.spent (refused_by_call c.in_err-repeated.was c.from_residual.ensures.1 is))

pub returns-in_err-repeated-clause-cause : goal.returns-in_err-repeated-clause-cause
returns-in_err-repeated-clause-cause g c =
    passed c.from_residual.result c.in_err-repeated.field-0.0 c.from_residual.ensures.1
    (λ r. IfErr r IsReadFault) c.in_err-repeated.ensures.cause

pub returns-then-is_barred-clause-damaged : goal.returns-then-is_barred-clause-damaged
returns-then-is_barred-clause-damaged g c =
    λ honest agrees rows pairs is. never_ok is

pub returns-then-is_barred-clause-spent : goal.returns-then-is_barred-clause-spent
returns-then-is_barred-clause-spent g c =
    λ is. never_ok is

pub returns-then-duplicate-clause-looks : goal.returns-then-duplicate-clause-looks
returns-then-duplicate-clause-looks g c =
    looks_blamed g.D.Device ⊥ _ _ _ _ _ (λ is. never_ok is) c.loop-key.invariant.looks

pub returns-then-duplicate-clause-damaged : goal.returns-then-duplicate-clause-damaged
returns-then-duplicate-clause-damaged g c =
    λ honest agrees rows pairs is. never_ok is

pub returns-then-duplicate-clause-spent : goal.returns-then-duplicate-clause-spent
returns-then-duplicate-clause-spent g c =
    λ is. never_ok is

pub returns-clause-looks : goal.returns-clause-looks
returns-clause-looks g c =
    looks_blamed g.D.Device ⊥ _ _ _ _ _ (λ is. never_ok is) c.loop-key.invariant.looks

pub returns-clause-damaged : goal.returns-clause-damaged
returns-clause-damaged g c =
    λ honest agrees rows pairs is. never_ok is

pub returns-clause-spent : goal.returns-clause-spent
returns-clause-spent g c =
    λ is. never_ok is

pub is_repeated-requires-clause-sectors : goal.is_repeated-requires-clause-sectors
is_repeated-requires-clause-sectors g c =
    sectors_still g.D.Device _ c.args.pages.now c.loop-key.pages c.args.device.now
    c.loop-key.device c.loop-key.invariant.looks.only c.loop-key.invariant.looks.unchanged.committed c.requires.sectors
