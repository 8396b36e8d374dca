use Rattle.std.proofs.Common.{◌≡◌, ◌<◌, ◌+◌, true, Ok, Err, ℕ, List, [], length, sym, ap, subst, ◌∙◌, arith}
use Rattle.pages.specs.Use.{free_count}
use Rattle.pages.specs.Pages.{committed_of, changed_pages_of, is_spent}
use Rattle.btree.proofs.Frames.{unchanged_on}
use Rattle.records.specs.declared.fault.StoreFault.TheVariants.{Device, Full, Damaged, Spent}
use Rattle.records.specs.Changes.{FileChange, insertion}
use Rattle.records.specs.Files.{NamedFile}
use Rattle.chains.specs.Chain.{pages_for}
use Rattle.volume_format.specs.Chained.{chained_bytes}
use Rattle.records.specs.Stores.{spec_of, is_change}
use Rattle.volume_format.specs.Forest.{TreeLevels}
use Rattle.alternate_keys.specs.declared.row_verb.RowVerb.TheVariants.{Insert}
use Rattle.row_trees.specs.Calls.{EditsPages}
use Rattle.alternate_keys.specs.Moved.{named_after}
use Rattle.alternate_keys.specs.Placed.{OnTrees}
use Rattle.alternate_keys.proofs.Bytes.{all_bytes}
use Rattle.alternate_keys.proofs.Calling.{looks_edits, edits_last, sectors_still}
use Rattle.alternate_keys.proofs.FileTrees.{arrival_few, arrival_is, prime_stands}
use Rattle.alternate_keys.proofs.HeldTrees.{HoldsTrees, still_holds}
use Rattle.alternate_keys.proofs.InsertRow.{IsNew, Inserts, taken_numbered, inserts_new}
use Rattle.alternate_keys.proofs.Moving.{IsMoving}
use Rattle.alternate_keys.proofs.MovingRows.{HasNewRow, has_new_row, inserted_moves}
use Rattle.alternate_keys.proofs.Passing.{spent_before}
use Rattle.alternate_keys.proofs.Still.{room_before}
use Rattle.alternate_keys.proofs.TreeChanges.{trees_refused, trees_refused_early, trees_damaged, trees_unchanged}
use Rattle.alternate_keys.proofs.TreeChanges.{trees_unmoved, trees_moved}
use Rattle.alternate_keys.proofs.row_changes.insert_trees.Given.{Over}
use Rattle.alternate_keys.proofs.row_changes.insert_trees.Goals as goal
use Rattle.alternate_keys.proofs.row_changes.insert_trees.Goals.{After-look_at_new_row, After-insert_row}
use Rattle.alternate_keys.proofs.row_changes.insert_trees.Goals.{Else-not-branch, After-move_row}

-- the trees after the row was looked at
trees_looked : (g : Over) (c : After-look_at_new_row g) → OnTrees g.D.Device (spec_of c.args.file.now)
    c.args.pages.now c.args.device.now c.args.listing.now (λ named generation left right.
    HoldsTrees g.D.Device (spec_of c.args.file.now) named generation left right c.args.listing.now
    c.look_at_new_row.new.pages c.look_at_new_row.new.device)
trees_looked g c honest agrees named generation left right has =
    still_holds g.D.Device (record { honest = honest; agrees = agrees; has = has }) c.look_at_new_row.ensures.looks

is_new : (g : Over) (c : After-insert_row g) {named : NamedFile} {generation : ℕ} {left right : List TreeLevels}
    → HoldsTrees g.D.Device (spec_of c.args.file.now) named generation left right c.args.listing.now
    c.look_at_new_row.new.pages c.look_at_new_row.new.device →
    IsNew (spec_of c.args.file.now) named.file c.args.number c.next_arrival-arrival.result c.args.bytes.now
is_new g c trees = record {
  same = c.next_arrival-arrival.ensures ∙ arrival_is _ _ _ _ _ _ _ trees.has;
  good = c.args.file.now.sound;
  long = c.requires.bytes;
  low = all_bytes c.args.bytes.now c.type_inv.bytes;
  numbered = c.requires.number;
}

-- too few pages for one more entry
lacks_entry : (g : Over) (c : After-insert_row g) → OnTrees g.D.Device (spec_of c.args.file.now) c.args.pages.now
    c.args.device.now c.args.listing.now (λ named generation left right. c.insert_row.result ≡ Err Full →
    free_count (committed_of c.args.pages.now) < length (changed_pages_of c.args.pages.now)
    + (42 + pages_for (chained_bytes (spec_of c.args.file.now))))
lacks_entry g c honest agrees named generation left right has full =
    let looks = c.look_at_new_row.ensures.looks in
    let trees = still_holds g.D.Device (record { honest = honest; agrees = agrees; has = has }) looks in
    room_before c.args.pages.now c.look_at_new_row.new.pages
    (42 + pages_for (chained_bytes (spec_of c.args.file.now))) looks.unchanged
    (subst (λ (n : ℕ). free_count (committed_of c.look_at_new_row.new.pages)
    < length (changed_pages_of c.look_at_new_row.new.pages) + (42 + pages_for n)) c.row_tree-prime.ensures.form
    (c.insert_row.ensures.room trees.honest trees.agrees left _ _ (prime_stands _ _ _ _ _ _ _ trees.has
    c.row_tree-prime.result c.row_tree-prime.ensures.layout c.row_tree-prime.ensures.root
    c.row_tree-prime.ensures.form) full))

-- the row came
abbrev Came : (g : Over) (c : Else-not-branch g) → NamedFile → ℕ → List TreeLevels → List TreeLevels → Type 0
Came g c named generation left right =
    HasNewRow g.D.Device (spec_of c.args.file.now) named generation left right c.args.listing.now c.args.number
    c.next_arrival-arrival.result c.args.bytes.now c.insert_row.new.prime c.look_at_new_row.new.pages
    c.look_at_new_row.new.device c.insert_row.new.pages

came : (g : Over) (c : Else-not-branch g) {named : NamedFile} {generation : ℕ} {left right : List TreeLevels}
    → HoldsTrees g.D.Device (spec_of c.args.file.now) named generation left right c.args.listing.now
    c.look_at_new_row.new.pages c.look_at_new_row.new.device
    → IsNew (spec_of c.args.file.now) named.file c.args.number c.next_arrival-arrival.result c.args.bytes.now →
    Came g c named generation left right
came g c trees new =
    has_new_row g.D.Device trees new c.number_of_new-own.ensures c.row_tree-prime.ensures.layout
    c.row_tree-prime.ensures.root c.row_tree-prime.ensures.form (ap Ok c.if-not-branch.false)
    c.in_ok-insert_row.ensures.inserted

inserts : (g : Over) (c : Else-not-branch g) → OnTrees g.D.Device (spec_of c.args.file.now) c.args.pages.now
    c.args.device.now c.args.listing.now (λ named generation left right. Came g c named generation left right →
    Inserts (spec_of c.args.file.now) c.args.number c.next_arrival-arrival.result c.args.bytes.now named.file
    c.in_ok-outcome.outcome)
inserts g c honest agrees named generation left right has here =
    let change = sym c.is_done.ensures ∙ c.if-not-is_done.false in
    inserts_new here.trees.has here.new c.in_ok-outcome.outcome
    (c.in_ok-outcome.ensures.told honest agrees named generation left right has change) change here.none

abbrev Moves : (g : Over) (c : After-move_row g) → NamedFile → ℕ → List TreeLevels → List TreeLevels → Type 0
Moves g c named generation left right =
    IsMoving g.D.Device Insert (spec_of c.args.file.now) named
    (named_after named (insertion c.args.number c.args.bytes.now named.file)) generation left right c.args.listing.now
    c.root-root.result [] c.args.bytes.now c.next_arrival-arrival.result (c.next_arrival-arrival.result + 1)
    c.args.pages.now c.args.device.now c.insert_row.new.pages c.insert_row.new.device

moves : (g : Over) (c : After-move_row g) {named : NamedFile} {generation : ℕ} {left right : List TreeLevels}
    → g.D.Device.is_honest c.args.device.now → HasNewRow g.D.Device (spec_of c.args.file.now) named generation left
    right c.args.listing.now c.args.number c.next_arrival-arrival.result c.args.bytes.now c.insert_row.new.prime
    c.look_at_new_row.new.pages c.look_at_new_row.new.device c.insert_row.new.pages
    → Inserts (spec_of c.args.file.now) c.args.number c.next_arrival-arrival.result c.args.bytes.now named.file
    c.in_ok-outcome.outcome → EditsPages g.D.Device (c.insert_row.result ≡ Err Device) c.look_at_new_row.new.pages
    c.look_at_new_row.new.device c.insert_row.new.pages c.insert_row.new.device → Moves g c named generation left right
moves g c honest here done edits =
    inserted_moves g.D.Device honest c.look_at_new_row.ensures.looks here done edits
    c.in_ok-insert_row.ensures.changed_pages c.insert_row.ensures.layout c.insert_row.ensures.form
    c.row_tree-prime.ensures.layout c.row_tree-prime.ensures.root c.row_tree-prime.ensures.form c.root-root.ensures

put : (g : Over) (c : After-insert_row g) → EditsPages g.D.Device (c.insert_row.result ≡ Err Device) c.args.pages.now
    c.args.device.now c.insert_row.new.pages c.insert_row.new.device
put g c = edits_last g.D.Device _ _ _ _ _ _ _ _ _ (λ is. is)
    (looks_edits g.D.Device _ _ _ _ _ c.look_at_new_row.ensures.looks) c.insert_row.ensures.edits

pub insert_row-requires-clause-sectors : goal.insert_row-requires-clause-sectors
insert_row-requires-clause-sectors g c =
    sectors_still g.D.Device _ c.args.pages.now c.look_at_new_row.new.pages c.args.device.now
    c.look_at_new_row.new.device c.look_at_new_row.ensures.looks.only
    c.look_at_new_row.ensures.looks.unchanged.committed c.requires.sectors

pub move_row-requires-clause-sectors : goal.move_row-requires-clause-sectors
move_row-requires-clause-sectors g c =
    sectors_still g.D.Device _ c.look_at_new_row.new.pages c.insert_row.new.pages c.look_at_new_row.new.device
    c.insert_row.new.device c.insert_row.ensures.edits.only c.insert_row.ensures.edits.committed (sectors_still
    g.D.Device _
    c.args.pages.now c.look_at_new_row.new.pages c.args.device.now c.look_at_new_row.new.device
    c.look_at_new_row.ensures.looks.only c.look_at_new_row.ensures.looks.unchanged.committed c.requires.sectors)

-- the row came as the insertion says
came_new : (g : Over) (c : Else-not-branch g) → OnTrees g.D.Device (spec_of c.args.file.now) c.args.pages.now
    c.args.device.now c.args.listing.now (λ named generation left right. Came g c named generation left right
    × Inserts (spec_of c.args.file.now) c.args.number c.next_arrival-arrival.result c.args.bytes.now named.file
    c.in_ok-outcome.outcome)
came_new g c honest agrees named generation left right has =
    let trees = still_holds g.D.Device (record { honest = honest; agrees = agrees; has = has })
    c.look_at_new_row.ensures.looks in
    let here = came g c trees (record {
      same = c.next_arrival-arrival.ensures ∙ arrival_is _ _ _ _ _ _ _ trees.has;
      good = c.args.file.now.sound;
      long = c.requires.bytes;
      low = all_bytes c.args.bytes.now c.type_inv.bytes;
      numbered = c.requires.number;
    }) in
    (here, inserts g c honest agrees named generation left right has here)

moving : (g : Over) (c : After-move_row g) → OnTrees g.D.Device (spec_of c.args.file.now) c.args.pages.now
    c.args.device.now c.args.listing.now (λ named generation left right.
    HasNewRow g.D.Device (spec_of c.args.file.now) named generation left right c.args.listing.now c.args.number
    c.next_arrival-arrival.result c.args.bytes.now c.insert_row.new.prime c.look_at_new_row.new.pages
    c.look_at_new_row.new.device c.insert_row.new.pages
    × Inserts (spec_of c.args.file.now) c.args.number c.next_arrival-arrival.result c.args.bytes.now named.file
    c.in_ok-outcome.outcome) → OnTrees g.D.Device (spec_of c.args.file.now) c.args.pages.now c.args.device.now
    c.args.listing.now (Moves g c)
moving g c new honest agrees named generation left right has =
    let is = new honest agrees named generation left right has in
    moves g c honest is.0 is.1 c.insert_row.ensures.edits

-- the tree of rows is no reason for `Damaged`, and spent pages were spent before
never_damaged : (g : Over) (c : After-insert_row g) → OnTrees g.D.Device (spec_of c.args.file.now) c.args.pages.now
    c.args.device.now c.args.listing.now (λ named generation left right. c.insert_row.result ≡ Err Damaged → ⊥)
never_damaged g c honest agrees named generation left right has =
    let trees = still_holds g.D.Device (record { honest = honest; agrees = agrees; has = has })
    c.look_at_new_row.ensures.looks in
    c.insert_row.ensures.damaged trees.honest trees.agrees left _ _ (prime_stands _ _ _ _ _ _ _ trees.has
    c.row_tree-prime.result c.row_tree-prime.ensures.layout c.row_tree-prime.ensures.root c.row_tree-prime.ensures.form)

spent_still : (g : Over) (c : After-insert_row g) → c.insert_row.result ≡ Err Spent
    → is_spent c.args.pages.now ≡ true
spent_still g c is =
    spent_before c.args.pages.now c.look_at_new_row.new.pages c.look_at_new_row.ensures.looks.unchanged.committed
    (c.insert_row.ensures.spent is)

pub returns-in_err-outcome : goal.returns-in_err-outcome
returns-in_err-outcome g c =
    trees_refused_early g.D.Device c.in_err-outcome.was c.from_residual.ensures.1
    (looks_edits g.D.Device _ _ _ _ _ c.look_at_new_row.ensures.looks) c.look_at_new_row.ensures.damaged
    c.look_at_new_row.ensures.spent c.look_at_new_row.ensures.cause

pub returns-then-not-is_done : goal.returns-then-not-is_done
returns-then-not-is_done g c =
    let idle = sym c.is_done.ensures ∙ c.if-not-is_done.true in
    trees_unchanged g.D.Device (looks_edits g.D.Device _ _ _ _ _ c.look_at_new_row.ensures.looks)
    (ap is_change c.none.ensures ∙ idle) c.look_at_new_row.ensures.looks.unchanged
    (λ honest agrees named generation left right has.
    c.none.ensures ∙ c.in_ok-outcome.ensures.taken honest agrees named generation left right has idle)

pub returns-then-arrival : goal.returns-then-arrival
returns-then-arrival g c =
    trees_damaged g.D.Device (looks_edits g.D.Device _ _ _ _ _ c.look_at_new_row.ensures.looks)
    (λ honest agrees named generation left right has.
    let few = arrival_few _ _ _ _ _ _ _ has in
    let same = arrival_is _ _ _ _ _ _ _ has in
    let own = c.next_arrival-arrival.ensures in
    let most = c.if-arrival.true in
    omega (arith, few, same, own, most))

pub returns-in_err-insert_row : goal.returns-in_err-insert_row
returns-in_err-insert_row g c =
    let at = (goal.at.returns-in_err-insert_row g c).After-insert_row in
    trees_refused g.D.Device c.in_err-insert_row.was c.from_residual-in_err-insert_row.ensures.1 (put g at)
    (λ honest agrees named generation left right has full.
    let short = lacks_entry g at honest agrees named generation left right has full in
    omega (arith, short))
    (λ unspent honest agrees named generation left right has full.
    c.in_ok-outcome.ensures.free unspent honest agrees named generation left right has
    (sym c.is_done.ensures ∙ c.if-not-is_done.false)
    (lacks_entry g at honest agrees named generation left right has full)) (never_damaged g at) (spent_still g at)
    c.insert_row.ensures.cause

pub returns-then-not-branch : goal.returns-then-not-branch
returns-then-not-branch g c =
    let at = goal.at.returns-then-not-branch g c in
    let there = ap Ok c.if-not-branch.true in
    trees_unchanged g.D.Device (put g at.After-insert_row) (ap is_change c.none-then-not-branch.ensures)
    (unchanged_on c.args.pages.now c.look_at_new_row.new.pages c.insert_row.new.pages
    c.look_at_new_row.ensures.looks.unchanged (c.in_ok-insert_row.ensures.same there))
    (λ honest agrees named generation left right has.
    let trees = trees_looked g at.After-look_at_new_row honest agrees named generation left right has in
    let some = c.in_ok-insert_row.ensures.there trees.honest trees.agrees left _ _ (prime_stands _ _ _ _ _ _ _
    trees.has c.row_tree-prime.result c.row_tree-prime.ensures.layout c.row_tree-prime.ensures.root
    c.row_tree-prime.ensures.form) there in
    c.none-then-not-branch.ensures ∙ sym (ap (λ (ch : FileChange). ch.outcome) (taken_numbered trees.has
    (is_new g at.After-insert_row trees) c.number_of_new-own.ensures some)))

pub returns-in_err-listing : goal.returns-in_err-listing
returns-in_err-listing g c =
    let at = goal.at.returns-in_err-listing g c in
    let new = came_new g at.Else-not-branch in
    trees_unmoved g.D.Device (moving g at.After-move_row new) c.in_err-listing.was
    c.from_residual-in_err-listing.ensures.1
    (edits_last g.D.Device _ _ _ _ _ _ _ _ _ (λ is. is) (put g at.After-insert_row) c.move_row.ensures.edits)
    c.move_row.ensures.room c.move_row.ensures.damaged
    (λ honest agrees named generation left right has.
    ap (λ (ch : FileChange). is_change ch.outcome) (new honest agrees named generation left right has).1
    ∙ sym c.is_done.ensures ∙ c.if-not-is_done.false)
    (λ is. spent_before c.args.pages.now c.insert_row.new.pages (put g at.After-insert_row).committed
    (c.move_row.ensures.spent is)) c.move_row.ensures.cause

pub returns : goal.returns
returns g c =
    let at = goal.at.returns g c in
    let new = came_new g at.Else-not-branch in
    trees_moved g.D.Device (moving g at.After-move_row new)
    (edits_last g.D.Device _ _ _ _ _ _ _ _ _ (λ is. is) (put g at.After-insert_row) c.move_row.ensures.edits)
    c.in_ok-listing.ensures.placed c.in_ok-listing.ensures.few
    (λ honest agrees named generation left right has.
    sym (ap (λ (ch : FileChange). ch.outcome) (new honest agrees named generation left right has).1))
    (sym c.is_done.ensures ∙ c.if-not-is_done.false) c.in_ok-listing.ensures.long
