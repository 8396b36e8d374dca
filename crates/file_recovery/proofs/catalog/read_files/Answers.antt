use Rattle.std.proofs.Common.{◌≡◌, ◌≤◌, ◌+◌, ◌^◌, inr, ℕ, List, Err, length, sym, ap, subst, ◌∙◌, arith}
use Rattle.std.specs.Prelude.{Option, None, IfSome}
use Rattle.station.specs.Disk.{Sector}
use Rattle.pages.specs.Pages.{mark_of}
use Rattle.btree_pages.specs.declared.row_layout.RowLayout.{RowLayout}
use Rattle.btree.specs.Calls.{OnPages, pages_on}
use Rattle.btree.specs.Entries.{Entry, HasLengths, entries_of}
use Rattle.file_bytes.specs.declared.stored.StoredFile.{StoredFile}
use Rattle.records.specs.declared.fault.StoreFault.TheVariants.{Device, Damaged}
use Rattle.volume_format.specs.Calls.{LooksAt}
use Rattle.volume_format.specs.Catalog.{catalog_layout}
use Rattle.file_recovery.specs.Listed.{FindsFiles}
use Rattle.file_bytes.specs.Stored.{files_of}
use Rattle.volume_format.proofs.Looks.{looks_blamed, looks_then}
use Rattle.file_recovery.proofs.Calling.{on_tree_before, looks_on, unspent_kept, sectors_kept}
use Rattle.file_recovery.proofs.Faults.{search_passed, cause_passed}
use Rattle.btree.proofs.Passing.{if_refused, never_ok, was_error}
use Rattle.file_recovery.proofs.Listed.{no_files, at_first, too_many}
use Rattle.btree.proofs.Ascending.{entry_at, first_at}
use Rattle.file_recovery.proofs.Passed.{taken_all}
use Rattle.file_recovery.proofs.Walked.{next_entry, file_here, files_go_on, no_file_here}
use Rattle.file_recovery.proofs.catalog.read_files.Given.{Over}
use Rattle.file_recovery.proofs.catalog.read_files.Goals as goal
use Rattle.file_recovery.proofs.catalog.read_files.Goals.{After-add_file}

pub loop-turn-init : goal.loop-turn-init
loop-turn-init g c = record {
  looks = looks_blamed g.D.Device (c.first_in.result ≡ Err Device) ⊥ c.args.pages.now c.first_in.new.pages
      c.args.device.now c.first_in.new.device (λ is. absurd is) c.first_in.ensures.looks;
  many = ap (λ (l : List StoredFile). length l) c.new-files.ensures.items;
  lengths = c.in_ok-next.ensures.lengths;
  next_is = λ honest agrees levels holds. c.in_ok-next.ensures.entry honest agrees levels holds
      ∙ first_at (entries_of c.args.catalog.now.layout levels);
  found = λ honest agrees levels holds.
      no_files (mark_of c.args.pages.now) (pages_on g.D.Device c.args.pages.now c.args.device.now) c.args.generation
      (ap files_of c.new-files.ensures.items) c.args.seen.now;
  rest = λ honest agrees levels holds.
      at_first (mark_of c.args.pages.now) (pages_on g.D.Device c.args.pages.now c.args.device.now) c.args.generation
      (entries_of c.args.catalog.now.layout levels) c.args.seen.now;
}

pub add_file-requires-clause-lengths : goal.add_file-requires-clause-lengths
add_file-requires-clause-lengths g c =
    subst (λ (l : RowLayout). HasLengths l c.in-Some.entry)
    (c.requires.layout ∙ ap catalog_layout (sym c.loop-turn.invariant.looks.unchanged.committed.mark))
    (subst (λ (o : Option Entry). IfSome o (HasLengths c.args.catalog.now.layout)) c.in-Some.is
    c.loop-turn.invariant.lengths)

-- the calls so far
file_looks : (g : Over) (c : After-add_file g)
    → LooksAt g.D.Device ⊥ c.args.pages.now c.args.device.now c.add_file.new.pages c.add_file.new.device
file_looks g c = looks_on g.D.Device c.loop-turn.invariant.looks c.add_file.ensures.looks

few_pages : (g : Over) (c : After-add_file g)
    → OnPages g.D.Device c.args.pages.now c.args.device.now (λ pages. length pages ≤ 2 ^ 20)
few_pages g c = λ honest agrees.
    let few = (c.map_bounds.ensures.open c.args.pages.now (g.D.Device.state c.args.device.now).disk.present
    c.requires.unspent).1 in
    omega (arith, few)

pub loop-turn-preserved : goal.loop-turn-preserved
loop-turn-preserved g c =
    let loop = c.loop-turn in
    let till = file_looks g (goal.at.loop-turn-preserved g c).After-add_file in
    record {
      looks = looks_on g.D.Device till c.next_in.ensures.looks;
      many = c.in_ok-add_file-in-Some.ensures.many ∙ ap (λ (n : ℕ). n + 1) loop.invariant.many;
      lengths = c.in_ok-next-in-Some.ensures.lengths;
      next_is = next_entry g.D.Device till loop.invariant.next_is c.in-Some.is c.in_ok-next-in-Some.ensures.entry;
      found = file_here g.D.Device loop.invariant.looks loop.invariant.next_is c.in-Some.is loop.invariant.found
          c.in_ok-add_file-in-Some.ensures.file;
      rest = files_go_on g.D.Device loop.invariant.looks loop.invariant.next_is c.in-Some.is
          (few_pages g (goal.at.loop-turn-preserved g c).After-add_file) loop.invariant.rest
          c.in_ok-add_file-in-Some.ensures.file;
    }

pub returns-in-None-clause-files : goal.returns-in-None-clause-files
returns-in-None-clause-files g c = λ honest agrees levels holds.
    let loop = c.loop-turn in
    let before : List (Option Sector) = pages_on g.D.Device c.args.pages.now c.args.device.now in
    let entries : List Entry = entries_of c.args.catalog.now.layout levels in
    let none : entry_at loop._turn entries ≡ None =
    sym (loop.invariant.next_is honest agrees levels holds) ∙ c.in-None.is in
    subst (λ (es : List Entry).
    FindsFiles (mark_of c.args.pages.now) before c.args.generation es (files_of loop.files.items) c.args.seen.now
    loop.seen) (taken_all entries loop._turn none) (loop.invariant.found honest agrees levels holds)

pub returns-in_err-next-clause-damaged : goal.returns-in_err-next-clause-damaged
returns-in_err-next-clause-damaged g c = λ honest agrees levels holds refused kept found few can.
    let told =
    was_error c.from_residual.result c.first_in.result c.in_err-next.field-0.0 Damaged c.from_residual.ensures.1
    c.in_err-next.was refused in
    c.first_in.ensures.damaged honest agrees levels holds told

pub returns-in_err-next-clause-cause : goal.returns-in_err-next-clause-cause
returns-in_err-next-clause-cause g c =
    search_passed c.from_residual.result c.in_err-next.field-0.0 c.args.pages.now c.in_err-next.was
    c.from_residual.ensures.1 c.first_in.ensures.cause c.first_in.ensures.spent c.requires.unspent

pub returns-in_err-add_file-in-Some-clause-looks : goal.returns-in_err-add_file-in-Some-clause-looks
returns-in_err-add_file-in-Some-clause-looks g c =
    let loop = c.loop-turn in
    looks_then g.D.Device ⊥ (c.add_file.result ≡ Err Device) _ c.args.pages.now loop.pages c.add_file.new.pages
    c.args.device.now loop.device c.add_file.new.device
    (λ is. inr
    (was_error c.from_residual-in_err-add_file-in-Some.result c.add_file.result c.in_err-add_file-in-Some.field-0.0
    Device c.from_residual-in_err-add_file-in-Some.ensures.1 c.in_err-add_file-in-Some.was is))
    loop.invariant.looks c.add_file.ensures.looks

pub returns-in_err-add_file-in-Some-clause-damaged : goal.returns-in_err-add_file-in-Some-clause-damaged
returns-in_err-add_file-in-Some-clause-damaged g c = λ honest agrees levels holds refused.
    let told =
    was_error c.from_residual-in_err-add_file-in-Some.result c.add_file.result c.in_err-add_file-in-Some.field-0.0
    Damaged c.from_residual-in_err-add_file-in-Some.ensures.1 c.in_err-add_file-in-Some.was refused in
    let loop = c.loop-turn in
    no_file_here g.D.Device loop.invariant.looks loop.invariant.next_is c.in-Some.is loop.invariant.rest
    (λ still same. c.add_file.ensures.damaged still same told) honest agrees levels holds

pub returns-in_err-next-in-Some-clause-looks : goal.returns-in_err-next-in-Some-clause-looks
returns-in_err-next-in-Some-clause-looks g c =
    let till = file_looks g (goal.at.returns-in_err-next-in-Some-clause-looks g c).After-add_file in
    looks_then g.D.Device ⊥ (c.next_in.result ≡ Err Device) _ c.args.pages.now c.add_file.new.pages c.next_in.new.pages
    c.args.device.now c.add_file.new.device c.next_in.new.device
    (λ is. inr (was_error c.from_residual-in_err-next-in-Some.result c.next_in.result c.in_err-next-in-Some.field-0.0
    Device c.from_residual-in_err-next-in-Some.ensures.1 c.in_err-next-in-Some.was is))
    till c.next_in.ensures.looks

pub returns-in_err-next-in-Some-clause-damaged : goal.returns-in_err-next-in-Some-clause-damaged
returns-in_err-next-in-Some-clause-damaged g c = λ honest agrees levels holds refused kept found few can.
    let told =
    was_error c.from_residual-in_err-next-in-Some.result c.next_in.result c.in_err-next-in-Some.field-0.0 Damaged
    c.from_residual-in_err-next-in-Some.ensures.1 c.in_err-next-in-Some.was refused in
    on_tree_before g.D.Device (λ pages l. ⊥)
    (file_looks g (goal.at.returns-in_err-next-in-Some-clause-damaged g c).After-add_file)
    (λ still same l there. c.next_in.ensures.damaged still same l there told) honest agrees levels holds

pub returns-in_err-next-in-Some-clause-cause : goal.returns-in_err-next-in-Some-clause-cause
returns-in_err-next-in-Some-clause-cause g c =
    search_passed c.from_residual-in_err-next-in-Some.result c.in_err-next-in-Some.field-0.0 c.add_file.new.pages
    c.in_err-next-in-Some.was c.from_residual-in_err-next-in-Some.ensures.1 c.next_in.ensures.cause
    c.next_in.ensures.spent
    (unspent_kept g.D.Device ⊥ c.args.pages.now c.add_file.new.pages c.args.device.now c.add_file.new.device
    (file_looks g (goal.at.returns-in_err-next-in-Some-clause-cause g c).After-add_file) c.requires.unspent)

pub returns-in-Some-next-clause-damaged : goal.returns-in-Some-next-clause-damaged
returns-in-Some-next-clause-damaged g c = λ honest agrees levels holds told.
    let loop = c.loop-turn in
    let before : List (Option Sector) = pages_on g.D.Device c.args.pages.now c.args.device.now in
    too_many (mark_of c.args.pages.now) before c.args.generation (entries_of c.args.catalog.now.layout levels)
    loop._turn _
    (sym (loop.invariant.next_is honest agrees levels holds) ∙ c.in-Some-next.is) c.args.seen.now c.loop-turn-test.false

pub returns-in-None-next-clause-files : goal.returns-in-None-next-clause-files
returns-in-None-next-clause-files g c = λ honest agrees levels holds.
    let loop = c.loop-turn in
    let before : List (Option Sector) = pages_on g.D.Device c.args.pages.now c.args.device.now in
    let entries : List Entry = entries_of c.args.catalog.now.layout levels in
    let none : entry_at loop._turn entries ≡ None =
    sym (loop.invariant.next_is honest agrees levels holds) ∙ c.in-None-next.is in
    subst (λ (es : List Entry).
    FindsFiles (mark_of c.args.pages.now) before c.args.generation es (files_of loop.files.items) c.args.seen.now
    loop.seen) (taken_all entries loop._turn none) (loop.invariant.found honest agrees levels holds)

pub add_file-requires-clause-unspent : goal.add_file-requires-clause-unspent
add_file-requires-clause-unspent g c =
    unspent_kept g.D.Device ⊥ c.args.pages.now c.loop-turn.pages c.args.device.now c.loop-turn.device
    c.loop-turn.invariant.looks c.requires.unspent

pub add_file-requires-clause-sectors : goal.add_file-requires-clause-sectors
add_file-requires-clause-sectors g c =
    sectors_kept g.D.Device ⊥ c.args.pages.now c.loop-turn.pages c.args.device.now c.loop-turn.device
    c.loop-turn.invariant.looks c.requires.sectors

pub next_in-requires : goal.next_in-requires
next_in-requires g c = record {
  sectors = sectors_kept g.D.Device ⊥ c.args.pages.now c.add_file.new.pages c.args.device.now c.add_file.new.device
      (file_looks g (goal.at.next_in-requires g c).After-add_file) c.requires.sectors;
}

pub returns-in_err-next-clause-looks : goal.returns-in_err-next-clause-looks
returns-in_err-next-clause-looks g c =
    looks_blamed g.D.Device (c.first_in.result ≡ Err Device) _ c.args.pages.now c.first_in.new.pages c.args.device.now
    c.first_in.new.device (λ is. was_error c.from_residual.result c.first_in.result c.in_err-next.field-0.0 Device
    c.from_residual.ensures.1 c.in_err-next.was is) c.first_in.ensures.looks

pub returns-in_err-next-clause-few : goal.returns-in_err-next-clause-few
returns-in_err-next-clause-few g c =
    if_refused c.from_residual.result c.in_err-next.field-0.0 c.from_residual.ensures.1 _

pub returns-in_err-next-clause-files : goal.returns-in_err-next-clause-files
returns-in_err-next-clause-files g c = λ honest agrees levels holds.
    if_refused c.from_residual.result c.in_err-next.field-0.0 c.from_residual.ensures.1 _

pub returns-in_err-add_file-in-Some-clause-few : goal.returns-in_err-add_file-in-Some-clause-few
returns-in_err-add_file-in-Some-clause-few g c =
    if_refused c.from_residual-in_err-add_file-in-Some.result c.in_err-add_file-in-Some.field-0.0
    c.from_residual-in_err-add_file-in-Some.ensures.1 _

pub returns-in_err-add_file-in-Some-clause-files : goal.returns-in_err-add_file-in-Some-clause-files
returns-in_err-add_file-in-Some-clause-files g c = λ honest agrees levels holds.
    if_refused c.from_residual-in_err-add_file-in-Some.result c.in_err-add_file-in-Some.field-0.0
    c.from_residual-in_err-add_file-in-Some.ensures.1 _

pub returns-in_err-add_file-in-Some-clause-cause : goal.returns-in_err-add_file-in-Some-clause-cause
returns-in_err-add_file-in-Some-clause-cause g c =
    cause_passed c.from_residual-in_err-add_file-in-Some.result c.in_err-add_file-in-Some.field-0.0
    c.from_residual-in_err-add_file-in-Some.ensures.1 c.in_err-add_file-in-Some.ensures.cause

pub returns-in_err-next-in-Some-clause-few : goal.returns-in_err-next-in-Some-clause-few
returns-in_err-next-in-Some-clause-few g c =
    if_refused c.from_residual-in_err-next-in-Some.result c.in_err-next-in-Some.field-0.0
    c.from_residual-in_err-next-in-Some.ensures.1 _

pub returns-in_err-next-in-Some-clause-files : goal.returns-in_err-next-in-Some-clause-files
returns-in_err-next-in-Some-clause-files g c = λ honest agrees levels holds.
    if_refused c.from_residual-in_err-next-in-Some.result c.in_err-next-in-Some.field-0.0
    c.from_residual-in_err-next-in-Some.ensures.1 _

pub returns-in-None-clause-looks : goal.returns-in-None-clause-looks
returns-in-None-clause-looks g c =
    looks_blamed g.D.Device ⊥ _ c.args.pages.now c.loop-turn.pages c.args.device.now c.loop-turn.device
    (λ is. never_ok is) c.loop-turn.invariant.looks

pub returns-in-None-clause-damaged : goal.returns-in-None-clause-damaged
returns-in-None-clause-damaged g c = λ honest agrees levels holds told. never_ok told

pub returns-in-Some-next-clause-looks : goal.returns-in-Some-next-clause-looks
returns-in-Some-next-clause-looks g c =
    looks_blamed g.D.Device ⊥ _ c.args.pages.now c.loop-turn.pages c.args.device.now c.loop-turn.device
    (λ is. let never : ⊥ = cc in absurd never) c.loop-turn.invariant.looks

pub returns-in-None-next-clause-looks : goal.returns-in-None-next-clause-looks
returns-in-None-next-clause-looks g c =
    looks_blamed g.D.Device ⊥ _ c.args.pages.now c.loop-turn.pages c.args.device.now c.loop-turn.device
    (λ is. never_ok is) c.loop-turn.invariant.looks

pub returns-in-None-next-clause-damaged : goal.returns-in-None-next-clause-damaged
returns-in-None-next-clause-damaged g c = λ honest agrees levels holds told. never_ok told
