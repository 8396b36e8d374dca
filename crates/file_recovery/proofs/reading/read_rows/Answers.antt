use Rattle.std.proofs.Common.{◌≡◌, inr, List, Err, take, sym, ap, subst, ◌∙◌}
use Rattle.std.proofs.Common.{rules}
use Rattle.std.specs.Prelude.{Option, None, IfSome}
use Rattle.station.specs.Disk.{Sector}
use Rattle.btree_pages.specs.declared.row_layout.RowLayout.{RowLayout}
use Rattle.btree.specs.Calls.{pages_on}
use Rattle.btree.specs.Entries.{Entry, HasLengths, entries_of}
use Rattle.records.specs.declared.fault.StoreFault.TheVariants.{Device, Damaged, Memory}
use Rattle.records.specs.Files.{IsRow}
use Rattle.records.specs.Rows.{Row}
use Rattle.records.specs.Stores.{spec_of}
use Rattle.file_bytes.specs.Stored.{rows_of}
use Rattle.volume_format.specs.Calls.{LooksAt}
use Rattle.volume_format.proofs.Looks.{looks_blamed, looks_then}
use Rattle.file_recovery.specs.Rows.{FindsRows}
use Rattle.file_recovery.proofs.Calling.{on_tree_before, looks_on, unspent_kept, sectors_kept}
use Rattle.file_recovery.proofs.Faults.{memory_not_device, memory_not_damaged, search_passed}
use Rattle.file_recovery.proofs.Faults.{cause_passed}
use Rattle.btree.proofs.Passing.{if_refused, never_ok, was_error}
use Rattle.btree.proofs.Ascending.{entry_at, first_at}
use Rattle.file_recovery.proofs.ChainedRows.{rows_added, rows_are_so, found_none, found_all}
use Rattle.file_recovery.proofs.Walked.{next_entry, row_here, no_row_here}
use Rattle.file_recovery.proofs.reading.read_rows.Given.{Over}
use Rattle.file_recovery.proofs.reading.read_rows.Goals as goal
use Rattle.file_recovery.proofs.reading.read_rows.Goals.{After-read_row}

pub loop-turn-init : goal.loop-turn-init
loop-turn-init g c = record {
  looks = looks_blamed g.D.Device (c.first_in.result ≡ Err Device) ⊥ c.args.pages.now c.first_in.new.pages
      c.args.device.now c.first_in.new.device (λ is. absurd is) c.first_in.ensures.looks;
  are = search rules;
  lengths = c.in_ok-next.ensures.lengths;
  next_is = λ honest agrees levels holds. c.in_ok-next.ensures.entry honest agrees levels holds
      ∙ first_at (entries_of c.args.tree.now.layout levels);
  found = λ honest agrees levels holds.
      let spec = spec_of c.args.file.now in
      let before : List (Option Sector) = pages_on g.D.Device c.args.pages.now c.args.device.now in
      let entries : List Entry = entries_of c.args.tree.now.layout levels in
      subst (λ (l : List Row). FindsRows spec before (take 0 entries) l c.args.seen.now c.args.seen.now)
      (sym (ap rows_of c.new-rows.ensures.items)) (found_none spec before entries c.args.seen.now);
}

pub read_row-requires-clause-lengths : goal.read_row-requires-clause-lengths
read_row-requires-clause-lengths g c =
    subst (λ (l : RowLayout). HasLengths l c.in-Some.entry) c.requires.layout
    (subst (λ (o : Option Entry). IfSome o (HasLengths c.args.tree.now.layout)) c.in-Some.is
    c.loop-turn.invariant.lengths)

-- the calls so far
row_looks : (g : Over) (c : After-read_row g)
    → LooksAt g.D.Device ⊥ c.args.pages.now c.args.device.now c.read_row.new.pages c.read_row.new.device
row_looks g c = looks_on g.D.Device c.loop-turn.invariant.looks c.read_row.ensures.looks

pub loop-turn-preserved : goal.loop-turn-preserved
loop-turn-preserved g c =
    let loop = c.loop-turn in
    let till = row_looks g (goal.at.loop-turn-preserved g c).After-read_row in
    record {
      looks = looks_on g.D.Device till c.next_in.ensures.looks;
      are = rows_are_so (IsRow (spec_of c.args.file.now) c.args.next_arrival) _ _ c.in_ok-push-in-Some.ensures.items
          loop.invariant.are c.in_ok-row-in-Some.ensures.is;
      lengths = c.in_ok-next-in-Some.ensures.lengths;
      next_is = next_entry g.D.Device till loop.invariant.next_is c.in-Some.is c.in_ok-next-in-Some.ensures.entry;
      found = row_here g.D.Device loop.invariant.looks loop.invariant.next_is c.in-Some.is loop.invariant.found
          (rows_added _ _ c.in_ok-push-in-Some.ensures.items) c.in_ok-row-in-Some.ensures.row;
    }

pub returns-in-None-clause-rows : goal.returns-in-None-clause-rows
returns-in-None-clause-rows g c = λ honest agrees levels holds.
    let loop = c.loop-turn in
    let entries : List Entry = entries_of c.args.tree.now.layout levels in
    let none : entry_at loop._turn entries ≡ None =
    sym (loop.invariant.next_is honest agrees levels holds) ∙ c.in-None.is in
    found_all (spec_of c.args.file.now) (pages_on g.D.Device c.args.pages.now c.args.device.now) entries loop._turn
    (rows_of loop.rows.items) c.args.seen.now loop.seen none (loop.invariant.found honest agrees levels holds)

pub returns-in_err-next-clause-damaged : goal.returns-in_err-next-clause-damaged
returns-in_err-next-clause-damaged g c = λ honest agrees levels holds refused rows all stand listed can.
    let told =
    was_error c.from_residual.result c.first_in.result c.in_err-next.field-0.0 Damaged c.from_residual.ensures.1
    c.in_err-next.was refused in
    c.first_in.ensures.damaged honest agrees levels holds told

pub returns-in_err-next-clause-cause : goal.returns-in_err-next-clause-cause
returns-in_err-next-clause-cause g c =
    search_passed c.from_residual.result c.in_err-next.field-0.0 c.args.pages.now c.in_err-next.was
    c.from_residual.ensures.1 c.first_in.ensures.cause c.first_in.ensures.spent c.requires.unspent

pub returns-in_err-row-in-Some-clause-looks : goal.returns-in_err-row-in-Some-clause-looks
returns-in_err-row-in-Some-clause-looks g c =
    let loop = c.loop-turn in
    looks_then g.D.Device ⊥ (c.read_row.result ≡ Err Device) _ c.args.pages.now loop.pages c.read_row.new.pages
    c.args.device.now loop.device c.read_row.new.device
    (λ is. inr (was_error c.from_residual-in_err-row-in-Some.result c.read_row.result c.in_err-row-in-Some.field-0.0
    Device c.from_residual-in_err-row-in-Some.ensures.1 c.in_err-row-in-Some.was is))
    loop.invariant.looks c.read_row.ensures.looks

pub returns-in_err-row-in-Some-clause-damaged : goal.returns-in_err-row-in-Some-clause-damaged
returns-in_err-row-in-Some-clause-damaged g c = λ honest agrees levels holds refused.
    let told =
    was_error c.from_residual-in_err-row-in-Some.result c.read_row.result c.in_err-row-in-Some.field-0.0 Damaged
    c.from_residual-in_err-row-in-Some.ensures.1 c.in_err-row-in-Some.was refused in
    let loop = c.loop-turn in
    no_row_here g.D.Device loop.invariant.looks loop.invariant.next_is c.in-Some.is loop.invariant.found
    (λ still same. c.read_row.ensures.damaged still same told) honest agrees levels holds

pub returns-in_err-push-in-Some-clause-looks : goal.returns-in_err-push-in-Some-clause-looks
returns-in_err-push-in-Some-clause-looks g c =
    let loop = c.loop-turn in
    looks_then g.D.Device ⊥ (c.read_row.result ≡ Err Device) _ c.args.pages.now loop.pages c.read_row.new.pages
    c.args.device.now loop.device c.read_row.new.device
    (λ is. memory_not_device c.from_residual-in_err-push-in-Some.result
    c.from_residual-in_err-push-in-Some.ensures.1 is)
    loop.invariant.looks c.read_row.ensures.looks

pub returns-in_err-next-in-Some-clause-looks : goal.returns-in_err-next-in-Some-clause-looks
returns-in_err-next-in-Some-clause-looks g c =
    let till = row_looks g (goal.at.returns-in_err-next-in-Some-clause-looks g c).After-read_row in
    looks_then g.D.Device ⊥ (c.next_in.result ≡ Err Device) _ c.args.pages.now c.read_row.new.pages
    c.next_in.new.pages c.args.device.now c.read_row.new.device c.next_in.new.device
    (λ is. inr (was_error c.from_residual-in_err-next-in-Some.result c.next_in.result c.in_err-next-in-Some.field-0.0
    Device c.from_residual-in_err-next-in-Some.ensures.1 c.in_err-next-in-Some.was is))
    till c.next_in.ensures.looks

pub returns-in_err-next-in-Some-clause-damaged : goal.returns-in_err-next-in-Some-clause-damaged
returns-in_err-next-in-Some-clause-damaged g c = λ honest agrees levels holds refused rows all stand listed can.
    let told =
    was_error c.from_residual-in_err-next-in-Some.result c.next_in.result c.in_err-next-in-Some.field-0.0 Damaged
    c.from_residual-in_err-next-in-Some.ensures.1 c.in_err-next-in-Some.was refused in
    on_tree_before g.D.Device (λ pages l. ⊥)
    (row_looks g (goal.at.returns-in_err-next-in-Some-clause-damaged g c).After-read_row)
    (λ still same l there. c.next_in.ensures.damaged still same l there told) honest agrees levels holds

pub returns-in_err-next-in-Some-clause-cause : goal.returns-in_err-next-in-Some-clause-cause
returns-in_err-next-in-Some-clause-cause g c =
    search_passed c.from_residual-in_err-next-in-Some.result c.in_err-next-in-Some.field-0.0 c.read_row.new.pages
    c.in_err-next-in-Some.was c.from_residual-in_err-next-in-Some.ensures.1 c.next_in.ensures.cause
    c.next_in.ensures.spent
    (unspent_kept g.D.Device ⊥ c.args.pages.now c.read_row.new.pages c.args.device.now c.read_row.new.device
    (row_looks g (goal.at.returns-in_err-next-in-Some-clause-cause g c).After-read_row) c.requires.unspent)

pub first_in-requires : goal.first_in-requires
first_in-requires g c = record { sectors = c.requires.sectors }

pub read_row-requires-clause-unspent : goal.read_row-requires-clause-unspent
read_row-requires-clause-unspent g c =
    unspent_kept g.D.Device ⊥ c.args.pages.now c.loop-turn.pages c.args.device.now c.loop-turn.device
    c.loop-turn.invariant.looks
    c.requires.unspent

pub read_row-requires-clause-sectors : goal.read_row-requires-clause-sectors
read_row-requires-clause-sectors g c =
    sectors_kept g.D.Device ⊥ c.args.pages.now c.loop-turn.pages c.args.device.now c.loop-turn.device
    c.loop-turn.invariant.looks
    c.requires.sectors

pub next_in-requires : goal.next_in-requires
next_in-requires g c =
    record {
      sectors = sectors_kept g.D.Device ⊥ c.args.pages.now c.read_row.new.pages c.args.device.now c.read_row.new.device
          (row_looks g (goal.at.next_in-requires g c).After-read_row) c.requires.sectors;
    }

pub returns-in-None-clause-looks : goal.returns-in-None-clause-looks
returns-in-None-clause-looks g c =
    looks_blamed g.D.Device ⊥ _ c.args.pages.now c.loop-turn.pages c.args.device.now c.loop-turn.device
    (λ is. never_ok is)
    c.loop-turn.invariant.looks

pub returns-in-None-clause-damaged : goal.returns-in-None-clause-damaged
returns-in-None-clause-damaged g c = λ honest agrees levels holds told. never_ok told

pub returns-in_err-next-clause-looks : goal.returns-in_err-next-clause-looks
returns-in_err-next-clause-looks g c =
    looks_blamed g.D.Device (c.first_in.result ≡ Err Device) _ c.args.pages.now c.first_in.new.pages c.args.device.now
    c.first_in.new.device (λ is. was_error c.from_residual.result c.first_in.result c.in_err-next.field-0.0 Device
    c.from_residual.ensures.1 c.in_err-next.was is) c.first_in.ensures.looks

pub returns-in_err-next-clause-are : goal.returns-in_err-next-clause-are
returns-in_err-next-clause-are g c =
    if_refused c.from_residual.result c.in_err-next.field-0.0
    c.from_residual.ensures.1 _

pub returns-in_err-next-clause-rows : goal.returns-in_err-next-clause-rows
returns-in_err-next-clause-rows g c =
    λ honest agrees levels holds. if_refused c.from_residual.result c.in_err-next.field-0.0
    c.from_residual.ensures.1 _

pub returns-in_err-row-in-Some-clause-are : goal.returns-in_err-row-in-Some-clause-are
returns-in_err-row-in-Some-clause-are g c =
    if_refused c.from_residual-in_err-row-in-Some.result c.in_err-row-in-Some.field-0.0
    c.from_residual-in_err-row-in-Some.ensures.1 _

pub returns-in_err-row-in-Some-clause-rows : goal.returns-in_err-row-in-Some-clause-rows
returns-in_err-row-in-Some-clause-rows g c =
    λ honest agrees levels holds. if_refused c.from_residual-in_err-row-in-Some.result c.in_err-row-in-Some.field-0.0
    c.from_residual-in_err-row-in-Some.ensures.1 _

pub returns-in_err-row-in-Some-clause-cause : goal.returns-in_err-row-in-Some-clause-cause
returns-in_err-row-in-Some-clause-cause g c =
    cause_passed c.from_residual-in_err-row-in-Some.result c.in_err-row-in-Some.field-0.0
    c.from_residual-in_err-row-in-Some.ensures.1 c.in_err-row-in-Some.ensures.cause

pub returns-in_err-push-in-Some-clause-are : goal.returns-in_err-push-in-Some-clause-are
returns-in_err-push-in-Some-clause-are g c =
    if_refused c.from_residual-in_err-push-in-Some.result Memory
    c.from_residual-in_err-push-in-Some.ensures.1 _

pub returns-in_err-push-in-Some-clause-rows : goal.returns-in_err-push-in-Some-clause-rows
returns-in_err-push-in-Some-clause-rows g c =
    λ honest agrees levels holds. if_refused c.from_residual-in_err-push-in-Some.result Memory
    c.from_residual-in_err-push-in-Some.ensures.1 _

pub returns-in_err-push-in-Some-clause-cause : goal.returns-in_err-push-in-Some-clause-cause
returns-in_err-push-in-Some-clause-cause g c =
    cause_passed c.from_residual-in_err-push-in-Some.result Memory
    c.from_residual-in_err-push-in-Some.ensures.1 tt

pub returns-in_err-push-in-Some-clause-damaged : goal.returns-in_err-push-in-Some-clause-damaged
returns-in_err-push-in-Some-clause-damaged g c =
    λ honest agrees levels holds told. memory_not_damaged c.from_residual-in_err-push-in-Some.result
    c.from_residual-in_err-push-in-Some.ensures.1 told

pub returns-in_err-next-in-Some-clause-are : goal.returns-in_err-next-in-Some-clause-are
returns-in_err-next-in-Some-clause-are g c =
    if_refused c.from_residual-in_err-next-in-Some.result c.in_err-next-in-Some.field-0.0
    c.from_residual-in_err-next-in-Some.ensures.1 _

pub returns-in_err-next-in-Some-clause-rows : goal.returns-in_err-next-in-Some-clause-rows
returns-in_err-next-in-Some-clause-rows g c =
    λ honest agrees levels holds. if_refused c.from_residual-in_err-next-in-Some.result c.in_err-next-in-Some.field-0.0
    c.from_residual-in_err-next-in-Some.ensures.1 _

pub returns-clause-looks : goal.returns-clause-looks
returns-clause-looks g c =
    looks_blamed g.D.Device ⊥ _ c.args.pages.now c.loop-turn.pages c.args.device.now c.loop-turn.device
    (λ is. let never : ⊥ = cc in absurd never) c.loop-turn.invariant.looks

pub returns-clause-rows : goal.returns-clause-rows
returns-clause-rows g c = λ honest agrees levels holds. tt

pub returns-clause-damaged : goal.returns-clause-damaged
returns-clause-damaged g c = λ honest agrees levels holds told. let never : ⊥ = cc in absurd never
