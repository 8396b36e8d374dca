use Rattle.std.proofs.Common.{◌≡◌, ◌+◌, ◌*◌, Err, ℕ, List, length, sym, ap, ◌∙◌, arith}
use Rattle.btree.proofs.Frames.{unchanged_on}
use Rattle.records.specs.declared.fault.StoreFault.TheVariants.{Device}
use Rattle.records.specs.declared.file_spec.KeyPlace.{KeyPlace}
use Rattle.records.specs.Rows.{named_pair}
use Rattle.records.specs.Changes.{FileChange, replacement}
use Rattle.records.specs.Files.{NamedFile}
use Rattle.records.specs.Stores.{spec_of, pair_of, is_change}
use Rattle.volume_format.specs.Forest.{TreeLevels}
use Rattle.alternate_keys.specs.declared.row_verb.RowVerb.TheVariants.{Replace}
use Rattle.row_trees.specs.Calls.{EditsPages}
use Rattle.alternate_keys.specs.Moved.{named_after}
use Rattle.alternate_keys.specs.Placed.{OnTrees}
use Rattle.alternate_keys.proofs.Calling.{looks_edits, edits_blamed, edits_last, sectors_still}
use Rattle.alternate_keys.proofs.Faults.{never_device, never_spent, never_damaged, never_full_memory, memory_writes}
use Rattle.alternate_keys.proofs.FileTrees.{arrival_few, arrival_is, prime_stands, prime_rows, all_pairs}
use Rattle.alternate_keys.proofs.FoundRow.{none_at, entry_there, value_long}
use Rattle.alternate_keys.proofs.RowForms.{value_whole}
use Rattle.alternate_keys.proofs.HeldTrees.{HoldsRow, still_holds, holds_row}
use Rattle.alternate_keys.proofs.Moving.{IsMoving}
use Rattle.alternate_keys.proofs.MovingRows.{replaced_moves}
use Rattle.alternate_keys.proofs.NewRows.{part_long}
use Rattle.alternate_keys.proofs.Numbered.{named_by}
use Rattle.alternate_keys.proofs.ReplaceRow.{Replaces, named_missing, look_bars, look_replaces}
use Rattle.alternate_keys.proofs.Passing.{spent_before}
use Rattle.alternate_keys.proofs.TreeChanges.{trees_refused, trees_refused_early, trees_damaged, trees_unchanged}
use Rattle.alternate_keys.proofs.TreeChanges.{trees_unmoved, trees_moved}
use Rattle.alternate_keys.proofs.row_changes.replace_trees.Given.{Over}
use Rattle.alternate_keys.proofs.row_changes.replace_trees.Goals as goal
use Rattle.alternate_keys.proofs.row_changes.replace_trees.Goals.{After-find_row, In-Some, After-find_duplicate_key}
use Rattle.alternate_keys.proofs.row_changes.replace_trees.Goals.{Else-not-is_done, After-replace_row, After-move_row}

-- the pair that the record names
pair_is : (g : Over) (c : After-find_row g)
    → pair_of c.args.file.now.organization c.part_of-prime_key.result.now c.args.number
    ≡ named_pair c.args.file.now.organization c.args.number c.args.bytes.now
pair_is g c = named_by (spec_of c.args.file.now) c.key_place-place.result c.args.number c.args.bytes.now
    c.part_of-prime_key.result.now c.key_place-place.ensures.place c.part_of-prime_key.ensures

-- its row, where one was found
abbrev Found : (g : Over) (c : In-Some g) → NamedFile → ℕ → List TreeLevels → List TreeLevels → Type 0
Found g c named generation left right =
    HoldsRow g.D.Device (spec_of c.args.file.now) named generation left right c.args.listing.now
    (named_pair c.args.file.now.organization c.args.number c.args.bytes.now) c.in-Some.row c.find_row.new.pages
    c.find_row.new.device

row_found : (g : Over) (c : In-Some g)
    → pair_of c.args.file.now.organization c.part_of-prime_key.result.now c.args.number
    ≡ named_pair c.args.file.now.organization c.args.number c.args.bytes.now → OnTrees g.D.Device
    (spec_of c.args.file.now) c.args.pages.now c.args.device.now c.args.listing.now (Found g c)
row_found g c same honest agrees named generation left right has =
    holds_row g.D.Device (record { honest = honest; agrees = agrees; has = has }) c.find_row.ensures.looks
    (named_pair c.args.file.now.organization c.args.number c.args.bytes.now)
    (pair_of c.args.file.now.organization c.part_of-prime_key.result.now c.args.number) same c.in_ok-row.field-0
    c.in-Some.row
    (c.in_ok-row.ensures.found honest agrees named.file.rows (prime_rows _ _ _ _ _ _ _ has c.row_tree-prime.result
    c.row_tree-prime.ensures.layout c.row_tree-prime.ensures.root c.row_tree-prime.ensures.form)) c.in-Some.is

-- no value of the record bars it
replaces : (g : Over) (c : Else-not-is_done g) {named : NamedFile} {generation : ℕ} {left right : List TreeLevels}
    (found : HoldsRow g.D.Device (spec_of c.args.file.now) named generation left right c.args.listing.now
    (named_pair c.args.file.now.organization c.args.number c.args.bytes.now) c.in-Some.row c.find_row.new.pages
    c.find_row.new.device) → Replaces c.args.number c.args.bytes.now named.file found.row.old c.in_ok-outcome.outcome
replaces g c {named} found =
    look_replaces _ _ _ _ _ _ _ found.trees.has c.args.number c.args.bytes.now c.in-Some.row found.row
    c.value-old.result.now c.value-old.ensures c.in_ok-outcome.outcome
    (c.in_ok-outcome.ensures.told found.trees.honest found.trees.agrees named.file.rows
    (all_pairs _ _ _ _ _ _ _ found.trees.has)) (sym c.is_done.ensures ∙ c.if-not-is_done.false)

-- what is known before the pairs move
abbrev Moves : (g : Over) (c : After-move_row g) → NamedFile → ℕ → List TreeLevels → List TreeLevels → Type 0
Moves g c named generation left right =
    IsMoving g.D.Device Replace (spec_of c.args.file.now) named
    (named_after named (replacement c.args.number c.args.bytes.now named.file)) generation left right
    c.args.listing.now c.root-root.result c.value-old.result.now c.args.bytes.now c.next_arrival-arrival.result
    c.arrival_next-next.result c.args.pages.now c.args.device.now c.replace_row.new.pages c.replace_row.new.device

moves : (g : Over) (c : After-move_row g) {named : NamedFile} {generation : ℕ} {left right : List TreeLevels}
    → g.D.Device.is_honest c.args.device.now → (found : HoldsRow g.D.Device (spec_of c.args.file.now) named generation
    left right c.args.listing.now (named_pair c.args.file.now.organization c.args.number c.args.bytes.now)
    c.in-Some.row c.find_row.new.pages c.find_row.new.device)
    → Replaces c.args.number c.args.bytes.now named.file found.row.old c.in_ok-outcome.outcome →
    Moves g c named generation left right
moves g c honest found done =
    replaced_moves g.D.Device c.args.number c.args.bytes.now c.args.file.now.sound honest c.find_row.ensures.looks found
    c.find_duplicate_key.ensures.looks done c.replace_row.ensures.edits c.in_ok-replace_row.ensures.few
    c.next_arrival-arrival.ensures c.key.ensures c.value-old.ensures
    (λ row of is. c.deref.ensures.value ∙ c.in_ok-value.ensures.value row of is) c.arrival_next-next.ensures
    c.replace_row.ensures.tree c.row_tree-prime.ensures.layout c.row_tree-prime.ensures.root
    c.row_tree-prime.ensures.form c.root-root.ensures
    c.in_ok-replace_row.ensures.replaced

pub find_row-requires-clause-value : goal.find_row-requires-clause-value
find_row-requires-clause-value g c =
    ap (λ (l : List ℕ). length l) c.part_of-prime_key.ensures
    ∙ part_long c.key_place-place.result c.args.file.now.record_length c.args.bytes.now
    c.key_place-place.ensures.within c.requires.bytes
    ∙ ap (λ (p : KeyPlace). p.length) c.key_place-place.ensures.place

pub find_duplicate_key-requires-clause-values : goal.find_duplicate_key-requires-clause-values
find_duplicate_key-requires-clause-values g c = (
  value_long (spec_of c.args.file.now) c.row_tree-prime.result c.in_ok-row.field-0 c.in-Some.row
      c.value-old.result.now c.row_tree-prime.ensures.layout c.row_tree-prime.ensures.form c.in_ok-row.ensures.lengths
      c.in-Some.is c.value-old.ensures,
  c.requires.bytes,
)

pub value_after-requires-clause-old : goal.value_after-requires-clause-old
value_after-requires-clause-old g c =
    value_long (spec_of c.args.file.now) c.row_tree-prime.result c.in_ok-row.field-0 c.in-Some.row
    c.value-old.result.now c.row_tree-prime.ensures.layout c.row_tree-prime.ensures.form c.in_ok-row.ensures.lengths
    c.in-Some.is c.value-old.ensures

pub arrival_next-next-requires-clause-old : goal.arrival_next-next-requires-clause-old
arrival_next-next-requires-clause-old g c =
    let long : length c.value-old.result.now
    ≡ c.args.file.now.record_length + 8 * length c.args.file.now.alternates.items =
    value_long (spec_of c.args.file.now) c.row_tree-prime.result c.in_ok-row.field-0 c.in-Some.row
    c.value-old.result.now c.row_tree-prime.ensures.layout c.row_tree-prime.ensures.form c.in_ok-row.ensures.lengths
    c.in-Some.is c.value-old.ensures in
    omega (arith, long)

pub replace_row-requires-clause-value : goal.replace_row-requires-clause-value
replace_row-requires-clause-value g c =
    ap (λ (l : List ℕ). length l) c.deref.ensures.value ∙ c.in_ok-value.ensures.long
    ∙ sym (value_whole (spec_of c.args.file.now) c.row_tree-prime.result c.row_tree-prime.ensures.layout
    c.row_tree-prime.ensures.form)

pub move_row-requires-clause-values : goal.move_row-requires-clause-values
move_row-requires-clause-values g c = (
  value_long (spec_of c.args.file.now) c.row_tree-prime.result c.in_ok-row.field-0 c.in-Some.row
      c.value-old.result.now c.row_tree-prime.ensures.layout c.row_tree-prime.ensures.form c.in_ok-row.ensures.lengths
      c.in-Some.is c.value-old.ensures,
  c.requires.bytes,
)

-- what was read and written until a call
looked : (g : Over) (c : After-find_duplicate_key g) → EditsPages g.D.Device (c.find_duplicate_key.result ≡ Err Device)
    c.args.pages.now c.args.device.now c.find_duplicate_key.new.pages c.find_duplicate_key.new.device
looked g c =
    edits_last g.D.Device _ _ _ _ _ _ _ _ _ (λ is. is) (looks_edits g.D.Device _ _ _ _ _ c.find_row.ensures.looks)
    (looks_edits g.D.Device _ _ _ _ _ c.find_duplicate_key.ensures.looks)

pub find_duplicate_key-requires-clause-sectors : goal.find_duplicate_key-requires-clause-sectors
find_duplicate_key-requires-clause-sectors g c =
    sectors_still g.D.Device _ c.args.pages.now c.find_row.new.pages c.args.device.now c.find_row.new.device
    c.find_row.ensures.looks.only c.find_row.ensures.looks.unchanged.committed c.requires.sectors

pub replace_row-requires-clause-sectors : goal.replace_row-requires-clause-sectors
replace_row-requires-clause-sectors g c =
    sectors_still g.D.Device _ c.find_row.new.pages c.find_duplicate_key.new.pages c.find_row.new.device
    c.find_duplicate_key.new.device c.find_duplicate_key.ensures.looks.only
    c.find_duplicate_key.ensures.looks.unchanged.committed (sectors_still g.D.Device _ c.args.pages.now
    c.find_row.new.pages c.args.device.now c.find_row.new.device c.find_row.ensures.looks.only
    c.find_row.ensures.looks.unchanged.committed c.requires.sectors)

pub move_row-requires-clause-sectors : goal.move_row-requires-clause-sectors
move_row-requires-clause-sectors g c =
    sectors_still g.D.Device _ c.find_duplicate_key.new.pages c.replace_row.new.pages
    c.find_duplicate_key.new.device c.replace_row.new.device c.replace_row.ensures.edits.only
    c.replace_row.ensures.edits.committed (sectors_still g.D.Device _ c.find_row.new.pages
    c.find_duplicate_key.new.pages c.find_row.new.device c.find_duplicate_key.new.device
    c.find_duplicate_key.ensures.looks.only c.find_duplicate_key.ensures.looks.unchanged.committed (sectors_still
    g.D.Device _ c.args.pages.now c.find_row.new.pages c.args.device.now c.find_row.new.device
    c.find_row.ensures.looks.only c.find_row.ensures.looks.unchanged.committed c.requires.sectors))

put : (g : Over) (c : After-replace_row g) → EditsPages g.D.Device (c.replace_row.result ≡ Err Device)
    c.args.pages.now c.args.device.now c.replace_row.new.pages c.replace_row.new.device
put g c =
    edits_last g.D.Device _ _ _ _ _ _ _ _ _ (λ is. is)
    (edits_last g.D.Device _ _ _ _ _ _ _ _ _ (λ is. is) (looks_edits g.D.Device _ _ _ _ _ c.find_row.ensures.looks)
    (looks_edits g.D.Device _ _ _ _ _ c.find_duplicate_key.ensures.looks)) c.replace_row.ensures.edits

-- the row that was found is replaced as the replacement says
found_new : (g : Over) (c : Else-not-is_done g) → OnTrees g.D.Device (spec_of c.args.file.now) c.args.pages.now
    c.args.device.now c.args.listing.now (λ named generation left right.
    HoldsRow g.D.Device (spec_of c.args.file.now) named generation left right c.args.listing.now
    (named_pair c.args.file.now.organization c.args.number c.args.bytes.now) c.in-Some.row c.find_row.new.pages
    c.find_row.new.device) → OnTrees g.D.Device (spec_of c.args.file.now) c.args.pages.now c.args.device.now
    c.args.listing.now (λ named generation left right.
    (replacement c.args.number c.args.bytes.now named.file).outcome ≡ c.in_ok-outcome.outcome)
found_new g c found honest agrees named generation left right has =
    ap (λ (ch : FileChange). ch.outcome) (replaces g c (found honest agrees named generation left right has))

moving : (g : Over) (c : After-move_row g) → OnTrees g.D.Device (spec_of c.args.file.now) c.args.pages.now
    c.args.device.now c.args.listing.now (λ named generation left right.
    HoldsRow g.D.Device (spec_of c.args.file.now) named generation left right c.args.listing.now
    (named_pair c.args.file.now.organization c.args.number c.args.bytes.now) c.in-Some.row c.find_row.new.pages
    c.find_row.new.device) → ((named : NamedFile) (generation : ℕ) (left right : List TreeLevels)
    (found : HoldsRow g.D.Device (spec_of c.args.file.now) named generation left right c.args.listing.now
    (named_pair c.args.file.now.organization c.args.number c.args.bytes.now) c.in-Some.row c.find_row.new.pages
    c.find_row.new.device) → Replaces c.args.number c.args.bytes.now named.file found.row.old c.in_ok-outcome.outcome)
    → OnTrees g.D.Device (spec_of c.args.file.now) c.args.pages.now c.args.device.now c.args.listing.now (Moves g c)
moving g c found done honest agrees named generation left right has =
    let row = found honest agrees named generation left right has in
    moves g c honest row (done named generation left right row)

pub returns-in_err-row : goal.returns-in_err-row
returns-in_err-row g c =
    trees_refused_early g.D.Device c.in_err-row.was c.from_residual.ensures.1
    (looks_edits g.D.Device _ _ _ _ _ c.find_row.ensures.looks)
    (λ honest agrees named generation left right has refused.
    c.find_row.ensures.damaged honest agrees named.file.rows (prime_rows _ _ _ _ _ _ _ has c.row_tree-prime.result
    c.row_tree-prime.ensures.layout c.row_tree-prime.ensures.root c.row_tree-prime.ensures.form) refused)
    c.find_row.ensures.spent c.find_row.ensures.cause

pub returns-in-None : goal.returns-in-None
returns-in-None g c =
    trees_unchanged g.D.Device (looks_edits g.D.Device _ _ _ _ _ c.find_row.ensures.looks)
    (ap is_change c.none.ensures) c.find_row.ensures.looks.unchanged
    (λ honest agrees named generation left right has.
    let told = c.in_ok-row.ensures.found honest agrees named.file.rows (prime_rows _ _ _ _ _ _ _ has
    c.row_tree-prime.result c.row_tree-prime.ensures.layout c.row_tree-prime.ensures.root
    c.row_tree-prime.ensures.form) in
    c.none.ensures ∙ sym (ap (λ (ch : FileChange). ch.outcome) (named_missing c.args.number c.args.bytes.now
    named.file has.spec_is (pair_is g (goal.at.returns-in-None g c).After-find_row)
    (none_at _ _ _ _ _ _ _ has _ c.in_ok-row.field-0 told c.in-None.is))))

pub returns-in_err-outcome : goal.returns-in_err-outcome
returns-in_err-outcome g c =
    let at = goal.at.returns-in_err-outcome g c in
    trees_refused_early g.D.Device c.in_err-outcome.was c.from_residual-in_err-outcome.ensures.1
    (looked g at.After-find_duplicate_key)
    (λ honest agrees named generation left right has refused.
    let found = row_found g at.In-Some (pair_is g at.After-find_row) honest agrees named generation left right has in
    c.find_duplicate_key.ensures.damaged found.trees.honest found.trees.agrees named.file.rows
    (all_pairs _ _ _ _ _ _ _ found.trees.has) refused)
    (λ is. spent_before c.args.pages.now c.find_row.new.pages c.find_row.ensures.looks.unchanged.committed
    (c.find_duplicate_key.ensures.spent is)) c.find_duplicate_key.ensures.cause

pub returns-then-not-is_done : goal.returns-then-not-is_done
returns-then-not-is_done g c =
    let at = goal.at.returns-then-not-is_done g c in
    let idle = sym c.is_done.ensures ∙ c.if-not-is_done.true in
    trees_unchanged g.D.Device (looked g at.After-find_duplicate_key) (ap is_change c.none-then-not-is_done.ensures
    ∙ idle) (unchanged_on c.args.pages.now c.find_row.new.pages c.find_duplicate_key.new.pages
    c.find_row.ensures.looks.unchanged c.find_duplicate_key.ensures.looks.unchanged)
    (λ honest agrees named generation left right has.
    let found = row_found g at.In-Some (pair_is g at.After-find_row) honest agrees named generation left right has in
    let told = c.in_ok-outcome.ensures.told found.trees.honest found.trees.agrees named.file.rows
    (all_pairs _ _ _ _ _ _ _ found.trees.has) in
    c.none-then-not-is_done.ensures ∙ look_bars _ _ _ _ _ _ _ found.trees.has c.args.number c.args.bytes.now
    c.in-Some.row found.row c.value-old.result.now c.value-old.ensures c.in_ok-outcome.outcome told idle)

pub returns-then-arrival : goal.returns-then-arrival
returns-then-arrival g c =
    trees_damaged g.D.Device (looked g (goal.at.returns-then-arrival g c).After-find_duplicate_key)
    (λ honest agrees named generation left right has.
    let few = arrival_few _ _ _ _ _ _ _ has in
    let same = arrival_is _ _ _ _ _ _ _ has in
    let own = c.next_arrival-arrival.ensures in
    let most = c.if-arrival.true in
    omega (arith, few, same, own, most))

pub returns-in_err-value : goal.returns-in_err-value
returns-in_err-value g c =
    let memory = c.value_after.ensures.memory in
    trees_refused g.D.Device c.in_err-value.was c.from_residual-in_err-value.ensures.1
    (edits_blamed g.D.Device _ _ _ _ _ _ (λ is. absurd (never_device c.value_after.result memory is))
    (looked g (goal.at.returns-in_err-value g c).After-find_duplicate_key))
    (λ honest agrees named generation left right has is. absurd (never_full_memory c.value_after.result memory is))
    (λ unspent honest agrees named generation left right has is.
    absurd (never_full_memory c.value_after.result memory is))
    (λ honest agrees named generation left right has is. never_damaged c.value_after.result memory is)
    (λ is. absurd (never_spent c.value_after.result memory is)) (memory_writes c.value_after.result memory)

pub returns-in_err-replace_row : goal.returns-in_err-replace_row
returns-in_err-replace_row g c =
    let at = goal.at.returns-in_err-replace_row g c in
    trees_refused_early g.D.Device c.in_err-replace_row.was c.from_residual-in_err-replace_row.ensures.1
    (put g at.After-replace_row)
    (λ honest agrees named generation left right has refused.
    let found = row_found g at.In-Some (pair_is g at.After-find_row) honest agrees named generation left right has in
    let trees = still_holds g.D.Device found.trees c.find_duplicate_key.ensures.looks in
    c.replace_row.ensures.damaged trees.honest trees.agrees left _ _
    (prime_stands _ _ _ _ _ _ _ trees.has c.row_tree-prime.result c.row_tree-prime.ensures.layout
    c.row_tree-prime.ensures.root c.row_tree-prime.ensures.form) (entry_there found.row c.key.result.now c.key.ensures)
    refused)
    (λ is. spent_before c.args.pages.now c.find_duplicate_key.new.pages (looked g at.After-find_duplicate_key).committed
    (c.replace_row.ensures.spent is)) c.replace_row.ensures.cause

pub returns-in_err-listing : goal.returns-in_err-listing
returns-in_err-listing g c =
    let at = goal.at.returns-in_err-listing g c in
    let found = row_found g at.In-Some (pair_is g at.After-find_row) in
    let edits = put g at.After-replace_row in
    trees_unmoved g.D.Device
    (moving g at.After-move_row found (λ named generation left right row. replaces g at.Else-not-is_done row))
    c.in_err-listing.was c.from_residual-in_err-listing.ensures.1
    (edits_last g.D.Device _ _ _ _ _ _ _ _ _ (λ is. is) edits c.move_row.ensures.edits)
    c.move_row.ensures.room c.move_row.ensures.damaged
    (λ honest agrees named generation left right has.
    ap is_change (found_new g at.Else-not-is_done found honest agrees named generation left right has)
    ∙ sym c.is_done.ensures ∙ c.if-not-is_done.false)
    (λ is. spent_before c.args.pages.now c.replace_row.new.pages edits.committed (c.move_row.ensures.spent is))
    c.move_row.ensures.cause

pub returns : goal.returns
returns g c =
    let at = goal.at.returns g c in
    let found = row_found g at.In-Some (pair_is g at.After-find_row) in
    trees_moved g.D.Device
    (moving g at.After-move_row found (λ named generation left right row. replaces g at.Else-not-is_done row))
    (edits_last g.D.Device _ _ _ _ _ _ _ _ _ (λ is. is) (put g at.After-replace_row) c.move_row.ensures.edits)
    c.in_ok-listing.ensures.placed c.in_ok-listing.ensures.few
    (λ honest agrees named generation left right has.
    sym (found_new g at.Else-not-is_done found honest agrees named generation left right has))
    (sym c.is_done.ensures ∙ c.if-not-is_done.false) c.in_ok-listing.ensures.long
