use Rattle.std.proofs.Common.{◌≡◌, inr, Result, Err, ◌+◌, ◌≤◌, true, ℕ, Bool, List, length, refl, sym, ap, subst, ◌∙◌}
use Rattle.std.proofs.Common.{arith}
use Rattle.std.specs.Prelude.{take, drop, Ok, Option, Some, IfSome, OnErr}
use Rattle.std.specs.List.{flat_map}
use Rattle.std.specs.Result.{IsErrAnd}
use Rattle.std.proofs.lemmas.List.{length-append, take_at}
use Rattle.std.proofs.lemmas.List.Elements.{All-contains}
use Rattle.byteorder.specs.Endian.{big_bytes, big_number}
use Rattle.station.specs.Disk.{Sector}
use Rattle.pages.specs.Pages.{map_now, is_spent}
use Rattle.btree.specs.Rooted.{RootedTree}
use Rattle.btree.specs.Entries.{Entry, entries_of, entry_with}
use Rattle.btree.specs.Calls.{pages_on}
use Rattle.records.specs.declared.answer.Found.{Found}
use Rattle.records.specs.declared.key.KeyOfReference.TheVariants.{Prime, Alternate}
use Rattle.records.specs.Spec.{Spec}
use Rattle.records.specs.Rows.{Row}
use Rattle.row_trees.specs.RowTree.{ChainedTree}
use Rattle.row_trees.specs.Reading.{IsRecordLength, ReadsRow}
use Rattle.volume_format.specs.Chained.{chained_bytes}
use Rattle.alternate_keys.proofs.RowForms.{record_length_is}
use Rattle.alternate_keys.specs.declared.search_start.SearchStart.TheVariants as aim
use Rattle.volume_format.specs.Pairs.{IsUnder}
use Rattle.alternate_keys.specs.Aims.{found_entry}
use Rattle.alternate_keys.specs.Searches.{OnPairEntry}
use Rattle.alternate_keys.specs.Seen.{begins_with_value, IsPairEntry}
use Rattle.volume_format.specs.Trees.{entry_under}
use Rattle.btree.proofs.Passing.{passed, if_refused, on_refused, never_ok, same_error}
use Rattle.btree.proofs.Passing.{damaged_not_spent}
use Rattle.pages.specs.declared.error.PagesError.{PagesError}
use Rattle.pages.specs.declared.error.PagesError.TheVariants.{Device, Damaged, Spent}
use Rattle.volume_format.specs.Calls.{LooksAt}
use Rattle.volume_format.proofs.Looks.{looks_blamed, looks_nowhere, looks_then}
use Rattle.alternate_keys.proofs.Tells.{repeated_is, row_there, alternate_number, alternate_long}
use Rattle.alternate_keys.proofs.Faults.{refused_by_call}
use Rattle.alternate_keys.proofs.HeldTrees.{rows_still}
use Rattle.alternate_keys.proofs.found_rows.read_alternate_row.Given.{Over}
use Rattle.alternate_keys.proofs.found_rows.read_alternate_row.Goals as goal
use Rattle.alternate_keys.proofs.found_rows.read_alternate_row.Goals.{After-is_repeated, After-read_row, In_ok-read_row}

-- the calls only read
looked : (g : Over) (c : After-is_repeated g) → LooksAt g.D.Device (c.is_repeated.result ≡ Err Device)
    c.args.pages.now c.args.device.now c.is_repeated.new.pages c.is_repeated.new.device
looked g c = record {
  only = c.is_repeated.ensures.only;
  unchanged = c.is_repeated.ensures.unchanged;
  agrees = c.is_repeated.ensures.agrees;
}

both : (g : Over) (c : After-read_row g) (C : Type 0) → (C → c.read_row.result ≡ Err Device)
    → LooksAt g.D.Device C c.args.pages.now c.args.device.now c.read_row.new.pages c.read_row.new.device
both g c C from =
    looks_then g.D.Device (c.is_repeated.result ≡ Err Device) (c.read_row.result ≡ Err Device) C _ _ _ _ _ _
    (λ is. inr (from is)) (record {
      only = c.is_repeated.ensures.only;
      unchanged = c.is_repeated.ensures.unchanged;
      agrees = c.is_repeated.ensures.agrees;
    }) c.read_row.ensures.looks

damaged_clash : {A : Type 0} → Damaged ≡ Device → A
damaged_clash is = cc

-- damage that is passed on isn't the device's refusal
not_device : {T U A : Type 0} {call : Result T PagesError} {given : Result U PagesError} {e : PagesError}
    → call ≡ Err e → e ≡ Damaged → IsErrAnd given (λ x. x ≡ e) → given ≡ Err Device → A
not_device was why passed_on is =
    damaged_clash (sym why ∙ same_error (sym was ∙ refused_by_call was passed_on is))

pub returns-in_err-number-clause-looks : goal.returns-in_err-number-clause-looks
returns-in_err-number-clause-looks g c =
    looks_blamed g.D.Device ⊥ _ _ _ _ _
    (λ is. not_device c.in_err-number.was c.in_err-number.ensures.err.0 c.from_residual.ensures.1 is)
    (looks_nowhere g.D.Device c.args.pages.now c.args.device.now)

pub returns-in_err-repeated-clause-looks : goal.returns-in_err-repeated-clause-looks
returns-in_err-repeated-clause-looks g c =
    looks_blamed g.D.Device (c.is_repeated.result ≡ Err Device) _ _ _ _ _
    (λ is. refused_by_call c.in_err-repeated.was c.from_residual-in_err-repeated.ensures.1 is)
    (looked g (goal.at.returns-in_err-repeated-clause-looks g c).After-is_repeated)

pub returns-in_err-read_row-clause-looks : goal.returns-in_err-read_row-clause-looks
returns-in_err-read_row-clause-looks g c =
    both g (goal.at.returns-in_err-read_row-clause-looks g c).After-read_row _
    (λ is. refused_by_call c.in_err-read_row.was c.from_residual-in_err-read_row.ensures.1 is)

pub returns-clause-looks : goal.returns-clause-looks
returns-clause-looks g c =
    both g (goal.at.returns-clause-looks g c).After-read_row _ (λ is. damaged_clash (same_error is))

pub returns-then-branch-clause-looks : goal.returns-then-branch-clause-looks
returns-then-branch-clause-looks g c =
    both g (goal.at.returns-then-branch-clause-looks g c).After-read_row _ (λ is. never_ok is)

-- the row that the pair names is in the tree of rows
row_in : (spec : Spec) (i n : ℕ) (pages : List (Option Sector)) (rows : List Row) (prime : ChainedTree)
    (under : RootedTree) (entry : Entry) (row : Row) (key : List ℕ)
    → (told : IsPairEntry spec i pages rows prime under n entry row) → key ≡ entry.value
    → entry_with told.there.planted.entries key ≡ Some (entry_under spec Prime row)
row_in spec i n pages rows prime under entry row key told same =
    ap (entry_with told.there.planted.entries) same ∙ row_there spec i n pages rows prime under entry row told

row_fits : (spec : Spec) (size bytes : ℕ) → bytes ≡ chained_bytes spec → size ≡ spec.record_length
    → IsRecordLength bytes size
row_fits spec size bytes form fits =
    subst (λ (k : ℕ). IsRecordLength k size) (sym form)
    (subst (IsRecordLength (chained_bytes spec)) (sym fits) (record_length_is spec))

-- so the record of that row was read
row_told : (g : Over) (c : In_ok-read_row g) → OnPairEntry g.D.Device c.args.pages.now c.args.device.now
    c.args.prime.now c.args.under.now c.args.value_length c.args.notes.now.entry
    (λ spec i rows row. length c.args.bytes.now ≡ spec.record_length
    → ReadsRow (Some (entry_under spec Prime row)) c.args.bytes.now c.read_row.new.into c.in_ok-read_row.field-0)
row_told g c = λ honest agrees spec i rows row told fits.
    subst (λ (o : Option Entry). ReadsRow o c.args.bytes.now c.read_row.new.into c.in_ok-read_row.field-0)
    (row_in spec i c.args.value_length (pages_on g.D.Device c.args.pages.now c.args.device.now) rows c.args.prime.now
    c.args.under.now c.args.notes.now.entry row c.value-prime_key.result.now told c.value-prime_key.ensures)
    (c.in_ok-read_row.ensures.record (c.is_repeated.ensures.only.honest.0 honest)
    (c.is_repeated.ensures.agrees honest agrees) told.there.planted
    (rows_still g.D.Device c.args.pages.now c.is_repeated.new.pages c.args.device.now
    c.is_repeated.new.device c.is_repeated.ensures.unchanged (c.is_repeated.ensures.only.state honest) told.there)
    (row_fits spec (length c.args.bytes.now) c.args.prime.now.record_bytes told.there.form fits))

pub returns-in_err-read_row-clause-damaged : goal.returns-in_err-read_row-clause-damaged
returns-in_err-read_row-clause-damaged g c = λ honest agrees spec i rows row told near fits is.
    let count = length-append row.bytes (flat_map (big_bytes 8) row.arrivals) in
    let record_is =
    All-contains (λ (r : Row). length r.bytes ≡ spec.record_length) rows row told.there.records told.has in
    c.read_row.ensures.damaged (c.is_repeated.ensures.only.honest.0 honest) (c.is_repeated.ensures.agrees honest agrees)
    told.there.planted (rows_still g.D.Device c.args.pages.now c.is_repeated.new.pages c.args.device.now
    c.is_repeated.new.device c.is_repeated.ensures.unchanged (c.is_repeated.ensures.only.state honest) told.there)
    (row_fits spec (length c.args.bytes.now) c.args.prime.now.record_bytes told.there.form fits)
    (subst (λ (o : Option Entry). IfSome o (λ e. length c.args.bytes.now ≤ length e.value))
    (sym (row_in spec i c.args.value_length (pages_on g.D.Device c.args.pages.now c.args.device.now) rows
    c.args.prime.now c.args.under.now c.args.notes.now.entry row c.value-prime_key.result.now told
    c.value-prime_key.ensures))
    (omega (arith, count, record_is, fits)))
    (refused_by_call c.in_err-read_row.was c.from_residual-in_err-read_row.ensures.1 is)

pub returns-clause-damaged : goal.returns-clause-damaged
returns-clause-damaged g c = λ honest agrees spec i rows row told near fits is.
    let own = row_told g (goal.at.returns-clause-damaged g c).In_ok-read_row honest agrees spec i rows row told fits in
    let here : c.in_ok-read_row.field-0 ≡ true = own.0 in
    let none = c.if-branch.false in
    cc (here, none)

pub returns-in_err-number-clause-damaged : goal.returns-in_err-number-clause-damaged
returns-in_err-number-clause-damaged g c = λ honest agrees spec i rows row told near fits is.
    let under = All-contains (IsUnder spec (Alternate i)) rows row told.pairs.fits told.has in
    let count : length c.key-key.result.now ≡ c.args.value_length + 8 = ap length c.key-key.ensures
    ∙ ap (λ (e : Entry). length e.key) told.is ∙ alternate_long spec i c.args.value_length row under told.long in
    let low = c.in_err-number.ensures.err.1 in
    omega arith

pub returns-in_err-repeated-clause-damaged : goal.returns-in_err-repeated-clause-damaged
returns-in_err-repeated-clause-damaged g c = λ honest agrees spec i rows row told near fits is.
    let damaged = refused_by_call c.in_err-repeated.was c.from_residual-in_err-repeated.ensures.1 is in
    c.is_repeated.ensures.damaged honest agrees (damaged, near) told.pairs.levels told.pairs.holds

pub returns-then-branch-clause-found : goal.returns-then-branch-clause-found
returns-then-branch-clause-found g c = λ honest agrees spec i rows row told near.
    let pages : List (Option Sector) =
    (map_now c.args.pages.now (g.D.Device.state c.args.device.now).disk.present).pages in
    let under = All-contains (IsUnder spec (Alternate i)) rows row told.pairs.fits told.has in
    let n = c.args.value_length in
    let tree : RootedTree = c.args.under.now in
    let number = c.in_ok-number.ensures.ok ∙ ap (λ k. big_number 8 (drop n k)) c.key-key.ensures
    ∙ ap (λ (e : Entry). big_number 8 (drop n e.key)) told.is ∙ alternate_number spec i n row under told.long in
    let repeated = c.in_ok-repeated.ensures.repeated honest agrees told.pairs.levels told.pairs.holds near
    ∙ ap (λ k. begins_with_value (take n k) (found_entry aim.After (entries_of tree.layout told.pairs.levels) k))
    (c.key-key.ensures ∙ ap (λ (e : Entry). e.key) told.is)
    ∙ repeated_is spec i n pages rows tree row told.pairs told.has told.long in
    let Told : ℕ → Bool → Found = λ a b. record { number = a; repeated = b } in
    ap (λ a. Told a c.in_ok-repeated.repeated) number ∙ ap (Told _) repeated

pub returns-then-branch-clause-bytes : goal.returns-then-branch-clause-bytes
returns-then-branch-clause-bytes g c = λ honest agrees spec i rows row told fits.
    let own = row_told g (goal.at.returns-then-branch-clause-bytes g c).In_ok-read_row honest agrees spec i rows row
    told fits in
    let record_is =
    All-contains (λ (r : Row). length r.bytes ≡ spec.record_length) rows row told.there.records told.has in
    own.1 ∙ take_at row.bytes (flat_map (big_bytes 8) row.arrivals) (length c.args.bytes.now) (record_is ∙ sym fits)

pub returns-clause-kept : goal.returns-clause-kept
returns-clause-kept g c = c.read_row.ensures.missing (c.in_ok-read_row.was ∙ ap Ok c.if-branch.false)

pub returns-in_err-number-clause-found : goal.returns-in_err-number-clause-found
returns-in_err-number-clause-found g c =
    λ honest agrees spec i rows row told near.
    if_refused c.from_residual.result c.in_err-number.field-0.0 c.from_residual.ensures.1 _

pub returns-in_err-number-clause-bytes : goal.returns-in_err-number-clause-bytes
returns-in_err-number-clause-bytes g c =
    λ honest agrees spec i rows row told fits.
    on_refused c.from_residual.result c.in_err-number.field-0.0 c.from_residual.ensures.1 _

pub returns-in_err-number-clause-file : goal.returns-in_err-number-clause-file
returns-in_err-number-clause-file g c =
    (refl, refl)

pub returns-in_err-number-clause-place : goal.returns-in_err-number-clause-place
returns-in_err-number-clause-place g c =
    λ honest agrees near. near

pub returns-in_err-number-clause-spent : goal.returns-in_err-number-clause-spent
returns-in_err-number-clause-spent g c =
    passed c.from_residual.result c.in_err-number.field-0.0 c.from_residual.ensures.1
    (λ r. r ≡ Err Spent → is_spent c.args.pages.now ≡ true)
    (λ is. damaged_not_spent (ap Err (sym c.in_err-number.ensures.err.0) ∙ is))

pub returns-in_err-number-clause-kept : goal.returns-in_err-number-clause-kept
returns-in_err-number-clause-kept g c =
    passed c.from_residual.result c.in_err-number.field-0.0 c.from_residual.ensures.1
    (λ r. OnErr r (c.args.bytes.now ≡ c.args.bytes.now)) refl

pub returns-in_err-repeated-clause-found : goal.returns-in_err-repeated-clause-found
returns-in_err-repeated-clause-found g c =
    λ honest agrees spec i rows row told near. if_refused c.from_residual-in_err-repeated.result
    c.in_err-repeated.field-0.0 c.from_residual-in_err-repeated.ensures.1 _

pub returns-in_err-repeated-clause-bytes : goal.returns-in_err-repeated-clause-bytes
returns-in_err-repeated-clause-bytes g c =
    λ honest agrees spec i rows row told fits. on_refused c.from_residual-in_err-repeated.result
    c.in_err-repeated.field-0.0 c.from_residual-in_err-repeated.ensures.1 _

pub returns-in_err-repeated-clause-file : goal.returns-in_err-repeated-clause-file
returns-in_err-repeated-clause-file g c =
    (refl, refl)

pub returns-in_err-read_row-clause-found : goal.returns-in_err-read_row-clause-found
returns-in_err-read_row-clause-found g c =
    λ honest agrees spec i rows row told near. if_refused c.from_residual-in_err-read_row.result
    c.in_err-read_row.field-0.0 c.from_residual-in_err-read_row.ensures.1 _

pub returns-in_err-read_row-clause-bytes : goal.returns-in_err-read_row-clause-bytes
returns-in_err-read_row-clause-bytes g c =
    λ honest agrees spec i rows row told fits. on_refused c.from_residual-in_err-read_row.result
    c.in_err-read_row.field-0.0 c.from_residual-in_err-read_row.ensures.1 _

pub returns-in_err-read_row-clause-file : goal.returns-in_err-read_row-clause-file
returns-in_err-read_row-clause-file g c =
    (refl, refl)
