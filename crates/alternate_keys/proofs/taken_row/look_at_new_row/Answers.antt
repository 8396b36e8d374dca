use Rattle.std.proofs.Common.{◌≡◌, inr, true, false, ℕ, List, [], length, Err, refl, sym, ap, ◌∙◌, arith}
use Rattle.std.specs.Prelude.{IfErr}
use Rattle.pages.specs.Use.{free_count}
use Rattle.btree.specs.Calls.{pages_on}
use Rattle.records.specs.declared.fault.StoreFault.TheVariants.{Device}
use Rattle.records.specs.Changes.{FileChange}
use Rattle.records.specs.Files.{NamedFile}
use Rattle.records.specs.Stores.{spec_of}
use Rattle.volume_format.specs.Forest.{TreeLevels}
use Rattle.volume_format.proofs.Looks.{looks_blamed, looks_then}
use Rattle.alternate_keys.specs.Faults.{IsReadFault}
use Rattle.alternate_keys.specs.Placed.{OnTrees}
use Rattle.alternate_keys.specs.Seen.{HasRows, row_tree_of}
use Rattle.alternate_keys.proofs.Bytes.{all_bytes}
use Rattle.alternate_keys.proofs.Calling.{sectors_still}
use Rattle.alternate_keys.proofs.Faults.{refused_by_call}
use Rattle.alternate_keys.proofs.FileTrees.{arrival_is, prime_rows, all_pairs}
use Rattle.alternate_keys.proofs.HeldTrees.{HoldsTrees, still_holds}
use Rattle.alternate_keys.proofs.InsertRow.{IsNew, inserted_there, inserted_taken, there_told, look_free, look_full}
use Rattle.alternate_keys.proofs.InsertRow.{look_taken}
use Rattle.alternate_keys.proofs.Passing.{never_ok, passed, spent_before}
use Rattle.alternate_keys.proofs.Still.{same_volume}
use Rattle.alternate_keys.proofs.TakenRow.{new_row_changes}
use Rattle.alternate_keys.proofs.taken_row.look_at_new_row.Given.{Over}
use Rattle.alternate_keys.proofs.Passing.{if_refused}
use Rattle.btree.proofs.Passing.{never_true}
use Rattle.alternate_keys.proofs.taken_row.look_at_new_row.Goals as goal
use Rattle.alternate_keys.proofs.taken_row.look_at_new_row.Goals.{After-is_row_there}

pub returns-in_err-outcome-clause-looks : goal.returns-in_err-outcome-clause-looks
returns-in_err-outcome-clause-looks g c =
    looks_blamed g.D.Device (c.find_duplicate_key.result ≡ Err Device) _ _ _ _ _
    (λ is. refused_by_call c.in_err-outcome.was c.from_residual.ensures.1 is) c.find_duplicate_key.ensures.looks

pub returns-in_err-outcome-clause-damaged : goal.returns-in_err-outcome-clause-damaged
returns-in_err-outcome-clause-damaged g c = λ honest agrees named generation left right has refused.
    c.find_duplicate_key.ensures.damaged honest agrees named.file.rows (all_pairs _ _ _ _ _ _ _ has)
    (refused_by_call c.in_err-outcome.was c.from_residual.ensures.1 refused)

pub returns-then-not-is_done-clause-looks : goal.returns-then-not-is_done-clause-looks
returns-then-not-is_done-clause-looks g c =
    looks_blamed g.D.Device (c.find_duplicate_key.result ≡ Err Device) _ _ _ _ _ (λ is. never_ok is)
    c.find_duplicate_key.ensures.looks

pub returns-then-not-is_done-clause-taken : goal.returns-then-not-is_done-clause-taken
returns-then-not-is_done-clause-taken g c = λ honest agrees named generation left right has none.
    let spec = spec_of c.args.file.now in
    let told = c.in_ok-outcome.ensures.told honest agrees named.file.rows (all_pairs _ _ _ _ _ _ _ has) in
    look_taken spec named.file has.spec_is [] c.args.bytes.now c.in_ok-outcome.outcome told none
    ∙ sym (ap (λ (ch : FileChange). ch.outcome) (inserted_taken c.args.number c.args.bytes.now named.file
    (look_full spec named.file has.spec_is [] c.args.bytes.now c.in_ok-outcome.outcome told none)))

pub returns-then-not-is_scarce-clause-looks : goal.returns-then-not-is_scarce-clause-looks
returns-then-not-is_scarce-clause-looks g c =
    looks_blamed g.D.Device (c.find_duplicate_key.result ≡ Err Device) _ _ _ _ _ (λ is. never_ok is)
    c.find_duplicate_key.ensures.looks

pub returns-then-not-is_scarce-clause-told : goal.returns-then-not-is_scarce-clause-told
returns-then-not-is_scarce-clause-told g c = λ honest agrees named generation left right has done_is.
    c.in_ok-outcome.ensures.told honest agrees named.file.rows (all_pairs _ _ _ _ _ _ _ has)

pub returns-then-not-is_scarce-clause-free : goal.returns-then-not-is_scarce-clause-free
returns-then-not-is_scarce-clause-free g c = λ unspent honest agrees named generation left right has done_is few.
    let unchanged = c.find_duplicate_key.ensures.looks.unchanged in
    let committed = ap free_count (same_volume c.args.pages.now c.find_duplicate_key.new.pages unchanged.committed) in
    let changed = ap (λ (l : List ℕ). length l) unchanged.changed_pages in
    let scarce = c.is_scarce.ensures (unchanged.committed.spent ∙ unspent) (omega (arith, few, committed, changed)) in
    let clash : true ≡ false = sym scarce ∙ c.if-not-is_scarce.true in
    absurd cc

-- the trees after the values were looked at, and their rows
trees_looked : (g : Over) (c : After-is_row_there g) → OnTrees g.D.Device (spec_of c.args.file.now) c.args.pages.now
    c.args.device.now c.args.listing.now (λ named generation left right. HoldsTrees g.D.Device
    (spec_of c.args.file.now) named generation left right c.args.listing.now c.find_duplicate_key.new.pages
    c.find_duplicate_key.new.device)
trees_looked g c honest agrees named generation left right has =
    still_holds g.D.Device (record { honest = honest; agrees = agrees; has = has }) c.find_duplicate_key.ensures.looks

rows_looked : (g : Over) (c : After-is_row_there g) {named : NamedFile} {generation : ℕ} {left right : List TreeLevels}
    → HoldsTrees g.D.Device (spec_of c.args.file.now) named generation left right c.args.listing.now
    c.find_duplicate_key.new.pages c.find_duplicate_key.new.device → HasRows (spec_of c.args.file.now)
    (pages_on g.D.Device c.find_duplicate_key.new.pages c.find_duplicate_key.new.device) named.file.rows
    (row_tree_of (spec_of c.args.file.now) c.file_tree-prime.result)
rows_looked g c trees = prime_rows _ _ _ _ _ _ _ trees.has
    (row_tree_of (spec_of c.args.file.now) c.file_tree-prime.result) c.file_tree-prime.ensures.layout
    c.file_tree-prime.ensures.root refl

is_new : (g : Over) (c : After-is_row_there g) {named : NamedFile} {generation : ℕ} {left right : List TreeLevels}
    → HoldsTrees g.D.Device (spec_of c.args.file.now) named generation left right c.args.listing.now
    c.find_duplicate_key.new.pages c.find_duplicate_key.new.device →
    IsNew (spec_of c.args.file.now) named.file c.args.number c.next_arrival.result c.args.bytes.now
is_new g c trees = record {
  same = c.next_arrival.ensures ∙ arrival_is _ _ _ _ _ _ _ trees.has;
  good = c.args.file.now.sound;
  long = c.requires.bytes;
  low = all_bytes c.args.bytes.now c.type_inv.bytes;
  numbered = c.requires.number;
}

pub returns-in_err-is_row_there-clause-looks : goal.returns-in_err-is_row_there-clause-looks
returns-in_err-is_row_there-clause-looks g c =
    looks_then g.D.Device (c.find_duplicate_key.result ≡ Err Device) (c.is_row_there.result ≡ Err Device) _ _ _ _ _ _ _
    (λ is. inr (refused_by_call c.in_err-is_row_there.was c.from_residual-in_err-is_row_there.ensures.1 is))
    c.find_duplicate_key.ensures.looks c.is_row_there.ensures.looks

pub returns-in_err-is_row_there-clause-damaged : goal.returns-in_err-is_row_there-clause-damaged
returns-in_err-is_row_there-clause-damaged g c = λ honest agrees named generation left right has refused.
    let at = (goal.at.returns-in_err-is_row_there-clause-damaged g c).After-is_row_there in
    let trees = trees_looked g at honest agrees named generation left right has in
    c.is_row_there.ensures.damaged trees.honest trees.agrees named.file.rows (rows_looked g at trees)
    (refused_by_call c.in_err-is_row_there.was c.from_residual-in_err-is_row_there.ensures.1 refused)

pub returns-then-branch-clause-looks : goal.returns-then-branch-clause-looks
returns-then-branch-clause-looks g c =
    looks_then g.D.Device (c.find_duplicate_key.result ≡ Err Device) (c.is_row_there.result ≡ Err Device) _ _ _ _ _ _ _
    (λ is. never_ok is) c.find_duplicate_key.ensures.looks c.is_row_there.ensures.looks

pub returns-then-branch-clause-taken : goal.returns-then-branch-clause-taken
returns-then-branch-clause-taken g c = λ honest agrees named generation left right has none.
    let at = (goal.at.returns-then-branch-clause-taken g c).After-is_row_there in
    let trees = trees_looked g at honest agrees named generation left right has in
    let told = there_told trees.has (is_new g at trees) _ c.number_of_new-own.ensures
    (c.in_ok-is_row_there.ensures.there trees.honest trees.agrees named.file.rows (rows_looked g at trees)) in
    sym (ap (λ (ch : FileChange). ch.outcome)
    (inserted_there c.args.number c.args.bytes.now named.file (sym told ∙ c.if-branch.true)))

pub returns-clause-looks : goal.returns-clause-looks
returns-clause-looks g c =
    looks_then g.D.Device (c.find_duplicate_key.result ≡ Err Device) (c.is_row_there.result ≡ Err Device) _ _ _ _ _ _ _
    (λ is. never_ok is) c.find_duplicate_key.ensures.looks c.is_row_there.ensures.looks

pub returns-clause-told : goal.returns-clause-told
returns-clause-told g c = λ honest agrees named generation left right has done_is.
    c.in_ok-outcome.ensures.told honest agrees named.file.rows (all_pairs _ _ _ _ _ _ _ has)

pub returns-clause-free : goal.returns-clause-free
returns-clause-free g c = λ unspent honest agrees named generation left right has done_is few.
    let at = (goal.at.returns-clause-free g c).After-is_row_there in
    let trees = trees_looked g at honest agrees named generation left right has in
    let told = there_told trees.has (is_new g at trees) _ c.number_of_new-own.ensures
    (c.in_ok-is_row_there.ensures.there trees.honest trees.agrees named.file.rows (rows_looked g at trees)) in
    new_row_changes c.args.number c.args.bytes.now named.file (sym told ∙ c.if-branch.false)
    (look_free (spec_of c.args.file.now) named.file has.spec_is [] c.args.bytes.now c.in_ok-outcome.outcome
    (c.in_ok-outcome.ensures.told honest agrees named.file.rows (all_pairs _ _ _ _ _ _ _ has)) done_is)

pub returns-in_err-outcome-clause-spent : goal.returns-in_err-outcome-clause-spent
returns-in_err-outcome-clause-spent g c =
    λ is. c.find_duplicate_key.ensures.spent (refused_by_call c.in_err-outcome.was c.from_residual.ensures.1 is)

pub returns-in_err-outcome-clause-cause : goal.returns-in_err-outcome-clause-cause
returns-in_err-outcome-clause-cause g c =
    passed c.from_residual.result c.in_err-outcome.field-0.0 c.from_residual.ensures.1 (λ r. IfErr r IsReadFault)
    c.in_err-outcome.ensures.cause

pub is_row_there-requires-clause-sectors : goal.is_row_there-requires-clause-sectors
is_row_there-requires-clause-sectors g c =
    sectors_still g.D.Device _ c.args.pages.now c.find_duplicate_key.new.pages c.args.device.now
    c.find_duplicate_key.new.device c.find_duplicate_key.ensures.looks.only
    c.find_duplicate_key.ensures.looks.unchanged.committed c.requires.sectors

pub returns-in_err-is_row_there-clause-spent : goal.returns-in_err-is_row_there-clause-spent
returns-in_err-is_row_there-clause-spent g c =
    λ is. spent_before c.args.pages.now c.find_duplicate_key.new.pages
    c.find_duplicate_key.ensures.looks.unchanged.committed (c.is_row_there.ensures.spent (refused_by_call
    c.in_err-is_row_there.was c.from_residual-in_err-is_row_there.ensures.1 is))

pub returns-in_err-is_row_there-clause-cause : goal.returns-in_err-is_row_there-clause-cause
returns-in_err-is_row_there-clause-cause g c =
    passed c.from_residual-in_err-is_row_there.result c.in_err-is_row_there.field-0.0
    c.from_residual-in_err-is_row_there.ensures.1 (λ r. IfErr r IsReadFault) c.in_err-is_row_there.ensures.cause

pub returns-then-not-is_done-clause-spent : goal.returns-then-not-is_done-clause-spent
returns-then-not-is_done-clause-spent g c = λ is. never_ok is

pub returns-then-not-is_scarce-clause-spent : goal.returns-then-not-is_scarce-clause-spent
returns-then-not-is_scarce-clause-spent g c = λ is. never_ok is

pub returns-then-branch-clause-spent : goal.returns-then-branch-clause-spent
returns-then-branch-clause-spent g c = λ is. never_ok is

pub returns-clause-spent : goal.returns-clause-spent
returns-clause-spent g c = λ is. never_ok is

pub returns-in_err-outcome-clause-told : goal.returns-in_err-outcome-clause-told
returns-in_err-outcome-clause-told g c =
    λ honest agrees named generation left right has.
    if_refused c.from_residual.result c.in_err-outcome.field-0.0 c.from_residual.ensures.1 _

pub returns-in_err-outcome-clause-taken : goal.returns-in_err-outcome-clause-taken
returns-in_err-outcome-clause-taken g c =
    λ honest agrees named generation left right has.
    if_refused c.from_residual.result c.in_err-outcome.field-0.0 c.from_residual.ensures.1 _

pub returns-in_err-outcome-clause-free : goal.returns-in_err-outcome-clause-free
returns-in_err-outcome-clause-free g c =
    λ unspent honest agrees named generation left right has.
    if_refused c.from_residual.result c.in_err-outcome.field-0.0 c.from_residual.ensures.1 _

pub returns-in_err-is_row_there-clause-told : goal.returns-in_err-is_row_there-clause-told
returns-in_err-is_row_there-clause-told g c =
    λ honest agrees named generation left right has.
    if_refused c.from_residual-in_err-is_row_there.result c.in_err-is_row_there.field-0.0
    c.from_residual-in_err-is_row_there.ensures.1 _

pub returns-in_err-is_row_there-clause-taken : goal.returns-in_err-is_row_there-clause-taken
returns-in_err-is_row_there-clause-taken g c =
    λ honest agrees named generation left right has.
    if_refused c.from_residual-in_err-is_row_there.result c.in_err-is_row_there.field-0.0
    c.from_residual-in_err-is_row_there.ensures.1 _

pub returns-in_err-is_row_there-clause-free : goal.returns-in_err-is_row_there-clause-free
returns-in_err-is_row_there-clause-free g c =
    λ unspent honest agrees named generation left right has.
    if_refused c.from_residual-in_err-is_row_there.result c.in_err-is_row_there.field-0.0
    c.from_residual-in_err-is_row_there.ensures.1 _

pub returns-then-not-is_done-clause-told : goal.returns-then-not-is_done-clause-told
returns-then-not-is_done-clause-told g c =
    λ honest agrees named generation left right has told.
    never_true (sym c.is_done.ensures ∙ c.if-not-is_done.true) told

pub returns-then-not-is_done-clause-free : goal.returns-then-not-is_done-clause-free
returns-then-not-is_done-clause-free g c =
    λ unspent honest agrees named generation left right has told few.
    never_true (sym c.is_done.ensures ∙ c.if-not-is_done.true) told

pub returns-then-not-is_scarce-clause-taken : goal.returns-then-not-is_scarce-clause-taken
returns-then-not-is_scarce-clause-taken g c =
    λ honest agrees named generation left right has none.
    never_true none (sym c.is_done.ensures ∙ c.if-not-is_done.false)

pub returns-clause-taken : goal.returns-clause-taken
returns-clause-taken g c =
    λ honest agrees named generation left right has none.
    never_true none (sym c.is_done.ensures ∙ c.if-not-is_done.false)

pub returns-then-branch-clause-told : goal.returns-then-branch-clause-told
returns-then-branch-clause-told g c =
    λ honest agrees named generation left right has told. never_true refl told

pub returns-then-branch-clause-free : goal.returns-then-branch-clause-free
returns-then-branch-clause-free g c =
    λ unspent honest agrees named generation left right has told few. never_true refl told

pub returns-then-not-is_done-clause-damaged : goal.returns-then-not-is_done-clause-damaged
returns-then-not-is_done-clause-damaged g c =
    λ honest agrees named generation left right has is. never_ok is

pub returns-then-not-is_scarce-clause-damaged : goal.returns-then-not-is_scarce-clause-damaged
returns-then-not-is_scarce-clause-damaged g c =
    λ honest agrees named generation left right has is. never_ok is

pub returns-then-branch-clause-damaged : goal.returns-then-branch-clause-damaged
returns-then-branch-clause-damaged g c =
    λ honest agrees named generation left right has is. never_ok is

pub returns-clause-damaged : goal.returns-clause-damaged
returns-clause-damaged g c =
    λ honest agrees named generation left right has is. never_ok is
