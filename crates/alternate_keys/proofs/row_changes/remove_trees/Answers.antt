use Rattle.std.proofs.Common.{◌≡◌, Err, ℕ, List, [], refl, sym, ap, ◌∙◌}
use Rattle.records.specs.declared.fault.StoreFault.TheVariants.{Device}
use Rattle.records.specs.Changes.{FileChange, removal}
use Rattle.records.specs.Files.{NamedFile}
use Rattle.records.specs.Stores.{spec_of, pair_of, is_change}
use Rattle.volume_format.specs.Forest.{TreeLevels}
use Rattle.alternate_keys.specs.declared.row_verb.RowVerb.TheVariants.{Remove}
use Rattle.row_trees.specs.Calls.{EditsPages}
use Rattle.alternate_keys.specs.Moved.{named_after}
use Rattle.alternate_keys.specs.Placed.{OnTrees}
use Rattle.alternate_keys.proofs.Calling.{looks_edits, edits_last, sectors_still}
use Rattle.alternate_keys.proofs.FileTrees.{prime_stands, prime_rows}
use Rattle.alternate_keys.proofs.FoundRow.{none_at, entry_there, value_long}
use Rattle.alternate_keys.proofs.HeldTrees.{HoldsRow, holds_row}
use Rattle.alternate_keys.proofs.Moving.{IsMoving}
use Rattle.alternate_keys.proofs.MovingRows.{removed_moves}
use Rattle.alternate_keys.proofs.RemoveRow.{removed_missing, removed_done}
use Rattle.alternate_keys.proofs.Passing.{spent_before}
use Rattle.alternate_keys.proofs.TreeChanges.{trees_refused_early, trees_unchanged, trees_unmoved, trees_moved}
use Rattle.alternate_keys.proofs.row_changes.remove_trees.Given.{Over}
use Rattle.alternate_keys.proofs.row_changes.remove_trees.Goals as goal
use Rattle.alternate_keys.proofs.row_changes.remove_trees.Goals.{In-Some, After-remove_row, After-move_row}

-- the row, where one was found
abbrev Found : (g : Over) (c : In-Some g) → NamedFile → ℕ → List TreeLevels → List TreeLevels → Type 0
Found g c named generation left right =
    HoldsRow g.D.Device (spec_of c.args.file.now) named generation left right c.args.listing.now
    (pair_of c.args.file.now.organization c.args.key.now c.args.number) c.in-Some.row c.find_row.new.pages
    c.find_row.new.device

row_found : (g : Over) (c : In-Some g) → OnTrees g.D.Device (spec_of c.args.file.now) c.args.pages.now
    c.args.device.now c.args.listing.now (Found g c)
row_found g c honest agrees named generation left right has =
    let pair = pair_of c.args.file.now.organization c.args.key.now c.args.number in
    holds_row g.D.Device (record { honest = honest; agrees = agrees; has = has }) c.find_row.ensures.looks pair pair
    refl c.in_ok-row.field-0 c.in-Some.row (c.in_ok-row.ensures.found honest agrees named.file.rows
    (prime_rows _ _ _ _ _ _ _ has c.row_tree-prime.result c.row_tree-prime.ensures.layout
    c.row_tree-prime.ensures.root c.row_tree-prime.ensures.form)) c.in-Some.is

-- what is known before the pairs move
abbrev Moves : (g : Over) (c : After-move_row g) → NamedFile → ℕ → List TreeLevels → List TreeLevels → Type 0
Moves g c named generation left right =
    IsMoving g.D.Device Remove (spec_of c.args.file.now) named
    (named_after named (removal (pair_of c.args.file.now.organization c.args.key.now c.args.number) named.file))
    generation left right c.args.listing.now c.root-root.result c.value-old_value.result.now []
    c.next_arrival-next.result
    c.next_arrival-next.result c.args.pages.now c.args.device.now c.remove_row.new.pages c.remove_row.new.device

moves : (g : Over) (c : After-move_row g) {named : NamedFile} {generation : ℕ} {left right : List TreeLevels}
    → g.D.Device.is_honest c.args.device.now → HoldsRow g.D.Device (spec_of c.args.file.now) named generation left right
    c.args.listing.now (pair_of c.args.file.now.organization c.args.key.now c.args.number) c.in-Some.row
    c.find_row.new.pages c.find_row.new.device → Moves g c named generation left right
moves g c honest found =
    removed_moves g.D.Device c.args.file.now.sound honest c.find_row.ensures.looks found c.remove_row.ensures.edits
    c.in_ok-remove_row.ensures.few c.next_arrival-next.ensures c.key.ensures c.value-old_value.ensures
    c.remove_row.ensures.layout c.remove_row.ensures.form c.row_tree-prime.ensures.layout
    c.row_tree-prime.ensures.root c.row_tree-prime.ensures.form c.root-root.ensures
    c.in_ok-remove_row.ensures.removed

pub move_row-requires-clause-values : goal.move_row-requires-clause-values
move_row-requires-clause-values g c =
    value_long (spec_of c.args.file.now) c.row_tree-prime.result c.in_ok-row.field-0 c.in-Some.row
    c.value-old_value.result.now c.row_tree-prime.ensures.layout c.row_tree-prime.ensures.form
    c.in_ok-row.ensures.lengths
    c.in-Some.is
    c.value-old_value.ensures

-- what was read and written until the row left the tree of rows
put : (g : Over) (c : After-remove_row g) → EditsPages g.D.Device (c.remove_row.result ≡ Err Device) c.args.pages.now
    c.args.device.now c.remove_row.new.pages c.remove_row.new.device
put g c = edits_last g.D.Device _ _ _ _ _ _ _ _ _ (λ is. is)
    (looks_edits g.D.Device _ _ _ _ _ c.find_row.ensures.looks) c.remove_row.ensures.edits

pub remove_row-requires : goal.remove_row-requires
remove_row-requires g c = record {
  sectors = sectors_still g.D.Device _ c.args.pages.now c.find_row.new.pages c.args.device.now c.find_row.new.device
      c.find_row.ensures.looks.only c.find_row.ensures.looks.unchanged.committed c.requires.sectors;
}

pub move_row-requires-clause-sectors : goal.move_row-requires-clause-sectors
move_row-requires-clause-sectors g c =
    sectors_still g.D.Device _ c.find_row.new.pages c.remove_row.new.pages c.find_row.new.device
    c.remove_row.new.device c.remove_row.ensures.edits.only c.remove_row.ensures.edits.committed (sectors_still
    g.D.Device _ c.args.pages.now c.find_row.new.pages c.args.device.now c.find_row.new.device
    c.find_row.ensures.looks.only c.find_row.ensures.looks.unchanged.committed c.requires.sectors)

moving : (g : Over) (c : After-move_row g) → OnTrees g.D.Device (spec_of c.args.file.now) c.args.pages.now
    c.args.device.now c.args.listing.now (λ named generation left right.
    HoldsRow g.D.Device (spec_of c.args.file.now) named generation left right c.args.listing.now
    (pair_of c.args.file.now.organization c.args.key.now c.args.number) c.in-Some.row c.find_row.new.pages
    c.find_row.new.device) → OnTrees g.D.Device (spec_of c.args.file.now) c.args.pages.now c.args.device.now
    c.args.listing.now (Moves g c)
moving g c found honest agrees named generation left right has =
    moves g c honest (found honest agrees named generation left right has)

pub returns-in_err-row : goal.returns-in_err-row
returns-in_err-row g c =
    trees_refused_early g.D.Device c.in_err-row.was c.from_residual.ensures.1
    (looks_edits g.D.Device _ _ _ _ _ c.find_row.ensures.looks)
    (λ honest agrees named generation left right has refused.
    c.find_row.ensures.damaged honest agrees named.file.rows (prime_rows _ _ _ _ _ _ _ has c.row_tree-prime.result
    c.row_tree-prime.ensures.layout c.row_tree-prime.ensures.root c.row_tree-prime.ensures.form) refused)
    c.find_row.ensures.spent c.find_row.ensures.cause

pub returns-in-None : goal.returns-in-None
returns-in-None g c =
    trees_unchanged g.D.Device (looks_edits g.D.Device _ _ _ _ _ c.find_row.ensures.looks)
    (ap is_change c.none.ensures) c.find_row.ensures.looks.unchanged
    (λ honest agrees named generation left right has.
    let pair = pair_of c.args.file.now.organization c.args.key.now c.args.number in
    let told = c.in_ok-row.ensures.found honest agrees named.file.rows (prime_rows _ _ _ _ _ _ _ has
    c.row_tree-prime.result c.row_tree-prime.ensures.layout c.row_tree-prime.ensures.root
    c.row_tree-prime.ensures.form) in
    let none = none_at _ _ _ _ _ _ _ has pair c.in_ok-row.field-0 told c.in-None.is in
    c.none.ensures ∙ sym (ap (λ (ch : FileChange). ch.outcome) (removed_missing pair named.file none)))

pub returns-in_err-remove_row : goal.returns-in_err-remove_row
returns-in_err-remove_row g c =
    let at = goal.at.returns-in_err-remove_row g c in
    trees_refused_early g.D.Device c.in_err-remove_row.was c.from_residual-in_err-remove_row.ensures.1
    (put g at.After-remove_row)
    (λ honest agrees named generation left right has refused.
    let found = row_found g at.In-Some honest agrees named generation left right has in
    c.remove_row.ensures.damaged found.trees.honest found.trees.agrees left _ _
    (prime_stands _ _ _ _ _ _ _ found.trees.has c.row_tree-prime.result c.row_tree-prime.ensures.layout
    c.row_tree-prime.ensures.root c.row_tree-prime.ensures.form) (entry_there found.row c.key.result.now c.key.ensures)
    refused)
    (λ is. spent_before c.args.pages.now c.find_row.new.pages c.find_row.ensures.looks.unchanged.committed
    (c.remove_row.ensures.spent is)) c.remove_row.ensures.cause

pub returns-in_err-listing : goal.returns-in_err-listing
returns-in_err-listing g c =
    let at = goal.at.returns-in_err-listing g c in
    let found = row_found g at.In-Some in
    let edits = put g at.After-remove_row in
    trees_unmoved g.D.Device (moving g at.After-move_row found) c.in_err-listing.was
    c.from_residual-in_err-listing.ensures.1
    (edits_last g.D.Device _ _ _ _ _ _ _ _ _ (λ is. is) edits c.move_row.ensures.edits)
    c.move_row.ensures.room c.move_row.ensures.damaged
    (λ honest agrees named generation left right has.
    let row = (found honest agrees named generation left right has).row in
    ap (λ (ch : FileChange). is_change ch.outcome) (removed_done (pair_of c.args.file.now.organization c.args.key.now
    c.args.number) named.file row.old row.there))
    (λ is. spent_before c.args.pages.now c.remove_row.new.pages edits.committed (c.move_row.ensures.spent is))
    c.move_row.ensures.cause

pub returns : goal.returns
returns g c =
    let at = goal.at.returns g c in
    let found = row_found g at.In-Some in
    trees_moved g.D.Device (moving g at.After-move_row found)
    (edits_last g.D.Device _ _ _ _ _ _ _ _ _ (λ is. is) (put g at.After-remove_row) c.move_row.ensures.edits)
    c.in_ok-listing.ensures.placed c.in_ok-listing.ensures.few
    (λ honest agrees named generation left right has.
    let row = (found honest agrees named generation left right has).row in
    sym (ap (λ (ch : FileChange). ch.outcome) (removed_done (pair_of c.args.file.now.organization c.args.key.now
    c.args.number) named.file row.old row.there))) refl c.in_ok-listing.ensures.long
