use Rattle.std.proofs.Common.{◌≡◌, inr, List, length, Err, sym, subst, ◌∙◌, arith}
use Rattle.std.specs.List.{AllByRecursion}
use Rattle.std.proofs.lemmas.List.{length-map}
use Rattle.pages.specs.Pages.{map_now}
use Rattle.btree.specs.Calls.{OnTree}
use Rattle.btree.specs.Entries.{Entry, entries_of}
use Rattle.btree.proofs.There.{tree_ascends}
use Rattle.records.specs.declared.fault.StoreFault.TheVariants.{Device, Damaged}
use Rattle.records.specs.Stores.{spec_of}
use Rattle.file_recovery.specs.Rows.{IsPairOf}
use Rattle.file_bytes.specs.Stored.{row_of, rows_of}
use Rattle.volume_format.proofs.Looks.{looks_blamed, looks_nowhere, looks_then}
use Rattle.file_recovery.proofs.Calling.{on_tree_before, looks_on, unspent_kept, sectors_kept}
use Rattle.file_recovery.proofs.Faults.{search_passed, cause_passed, memory_read, memory_passed}
use Rattle.file_recovery.proofs.Faults.{memory_not_device, memory_not_damaged, damaged_not_device}
use Rattle.btree.proofs.Passing.{on_refused, never_ok, was_error}
use Rattle.file_recovery.proofs.Matching.{are_pairs, as_many}
use Rattle.file_recovery.proofs.PairsOf.{primes_ascend}
use Rattle.btree.proofs.Ascending.{first_at, none_at, some_at}
use Rattle.file_recovery.proofs.Passed.{entry_in, none_passed, one_passed}
use Rattle.file_recovery.proofs.Passed.{each_passed, taken_all}
use Rattle.file_recovery.proofs.Walked.{entry_here, next_entry}
use Rattle.file_recovery.proofs.pairs.check_index.Given.{Over}
use Rattle.file_recovery.proofs.pairs.check_index.Goals as goal
use Rattle.file_recovery.proofs.pairs.check_index.Goals.{In-None-next}

pub loop-turn-init : goal.loop-turn-init
loop-turn-init g c = record {
  looks = looks_blamed g.D.Device (c.first_in.result ≡ Err Device) ⊥ c.args.pages.now c.first_in.new.pages
      c.args.device.now c.first_in.new.device (λ is. absurd is) c.first_in.ensures.looks;
  next_is = λ honest agrees levels holds. c.in_ok-next.ensures.entry honest agrees levels holds
      ∙ first_at (entries_of c.args.tree.now.layout levels);
  some = λ honest agrees levels holds. omega arith;
  pairs = λ honest agrees levels holds. none_passed (IsPairOf (spec_of c.args.file.now) c.args.key
      (rows_of c.args.rows.now)) (entries_of c.args.tree.now.layout levels);
}

pub loop-turn-preserved : goal.loop-turn-preserved
loop-turn-preserved g c =
    let loop = c.loop-turn in
    let looks = loop.invariant.looks in
    let here = entry_here g.D.Device looks loop.invariant.next_is c.in-Some.is in
    record {
      looks = looks_on g.D.Device looks c.next_in.ensures.looks;
      next_is = next_entry g.D.Device looks loop.invariant.next_is c.in-Some.is c.in_ok-next-in-Some.ensures.entry;
      some = λ honest agrees levels holds. some_at (entries_of c.args.tree.now.layout levels) loop.turn c.in-Some.entry
          (here honest agrees levels holds);
      pairs = λ honest agrees levels holds. one_passed (IsPairOf (spec_of c.args.file.now) c.args.key
          (rows_of c.args.rows.now)) (entries_of c.args.tree.now.layout levels) loop.turn c.in-Some.entry
          (here honest agrees levels holds) (loop.invariant.pairs honest agrees levels holds)
          (c.is_pair.ensures.yes c.if-not-is_pair.false);
    }

pub returns-then-not-is_pair-clause-damaged : goal.returns-then-not-is_pair-clause-damaged
returns-then-not-is_pair-clause-damaged g c = λ up honest agrees levels holds told are.
    let spec = spec_of c.args.file.now in
    let entries : List Entry = entries_of c.args.tree.now.layout levels in
    let here = entry_in entries c.loop-turn.turn c.in-Some.entry
    (sym (c.loop-turn.invariant.next_is honest agrees levels holds) ∙ c.in-Some.is) in
    c.is_pair.ensures.no (primes_ascend spec c.args.key (rows_of c.args.rows.now) c.args.file.now.sound c.requires.key
    up) c.if-not-is_pair.true (are.only c.in-Some.entry here)

pub returns-in-None-clause-damaged : goal.returns-in-None-clause-damaged
returns-in-None-clause-damaged g c = λ up honest agrees levels holds told are.
    let spec = spec_of c.args.file.now in
    let rows = rows_of c.args.rows.now in
    let entries : List Entry = entries_of c.args.tree.now.layout levels in
    let ascend = tree_ascends c.args.tree.now.layout (map_now c.args.pages.now
    (g.D.Device.state c.args.device.now).disk.present).pages c.args.tree.now.root levels holds in
    let count = as_many spec c.args.key rows entries c.args.file.now.sound c.requires.key up ascend are in
    let few =
    none_at entries c.loop-turn.turn (sym (c.loop-turn.invariant.next_is honest agrees levels holds) ∙ c.in-None.is) in
    let test = c.loop-turn-test.true in
    let many = length-map c.args.rows.now row_of in
    omega (arith, few, test, count, many)

pub returns-in_err-next-clause-damaged : goal.returns-in_err-next-clause-damaged
returns-in_err-next-clause-damaged g c = λ up honest agrees levels holds refused are.
    let told =
    was_error c.from_residual-in_err-next.result c.first_in.result c.in_err-next.field-0.0 Damaged
    c.from_residual-in_err-next.ensures.1 c.in_err-next.was refused in
    c.first_in.ensures.damaged honest agrees levels holds told

pub returns-in_err-next-clause-cause : goal.returns-in_err-next-clause-cause
returns-in_err-next-clause-cause g c =
    search_passed c.from_residual-in_err-next.result c.in_err-next.field-0.0 c.args.pages.now c.in_err-next.was
    c.from_residual-in_err-next.ensures.1 c.first_in.ensures.cause c.first_in.ensures.spent c.requires.unspent

pub returns-in_err-next-in-Some-clause-looks : goal.returns-in_err-next-in-Some-clause-looks
returns-in_err-next-in-Some-clause-looks g c =
    let loop = c.loop-turn in
    looks_then g.D.Device ⊥ (c.next_in.result ≡ Err Device) _ c.args.pages.now loop.pages c.next_in.new.pages
    c.args.device.now loop.device c.next_in.new.device
    (λ is. inr (was_error c.from_residual-in_err-next-in-Some.result c.next_in.result c.in_err-next-in-Some.field-0.0
    Device c.from_residual-in_err-next-in-Some.ensures.1 c.in_err-next-in-Some.was is))
    loop.invariant.looks c.next_in.ensures.looks

pub returns-in_err-next-in-Some-clause-damaged : goal.returns-in_err-next-in-Some-clause-damaged
returns-in_err-next-in-Some-clause-damaged g c = λ up honest agrees levels holds refused are.
    let told =
    was_error c.from_residual-in_err-next-in-Some.result c.next_in.result c.in_err-next-in-Some.field-0.0 Damaged
    c.from_residual-in_err-next-in-Some.ensures.1 c.in_err-next-in-Some.was refused in
    on_tree_before g.D.Device (λ pages l. ⊥) c.loop-turn.invariant.looks
    (λ still same l there. c.next_in.ensures.damaged still same l there told) honest agrees levels holds

pub returns-in_err-next-in-Some-clause-cause : goal.returns-in_err-next-in-Some-clause-cause
returns-in_err-next-in-Some-clause-cause g c =
    search_passed c.from_residual-in_err-next-in-Some.result c.in_err-next-in-Some.field-0.0 c.loop-turn.pages
    c.in_err-next-in-Some.was c.from_residual-in_err-next-in-Some.ensures.1 c.next_in.ensures.cause
    c.next_in.ensures.spent
    (unspent_kept g.D.Device ⊥ c.args.pages.now c.loop-turn.pages c.args.device.now c.loop-turn.device
    c.loop-turn.invariant.looks c.requires.unspent)

pub returns-in-Some-next-clause-damaged : goal.returns-in-Some-next-clause-damaged
returns-in-Some-next-clause-damaged g c = λ up honest agrees levels holds told are.
    let spec = spec_of c.args.file.now in
    let rows = rows_of c.args.rows.now in
    let entries : List Entry = entries_of c.args.tree.now.layout levels in
    let ascend = tree_ascends c.args.tree.now.layout (map_now c.args.pages.now
    (g.D.Device.state c.args.device.now).disk.present).pages c.args.tree.now.root levels holds in
    let count = as_many spec c.args.key rows entries c.args.file.now.sound c.requires.key up ascend are in
    let more = some_at entries c.loop-turn.turn _ (sym (c.loop-turn.invariant.next_is honest agrees levels holds)
    ∙ c.in-Some-next.is) in
    let test = c.loop-turn-test.false in
    let many = length-map c.args.rows.now row_of in
    omega (arith, more, test, count, many)

-- each entry is a pair, and there are as many as rows
each_pair : (g : Over) (c : In-None-next g) → OnTree g.D.Device c.args.tree.now.layout c.args.tree.now.root
    c.args.pages.now c.args.device.now (λ levels. AllByRecursion (IsPairOf (spec_of c.args.file.now) c.args.key
    (rows_of c.args.rows.now)) (entries_of c.args.tree.now.layout levels))
each_pair g c = λ honest agrees levels holds. subst (λ (l : List Entry). AllByRecursion
    (IsPairOf (spec_of c.args.file.now) c.args.key (rows_of c.args.rows.now)) l)
    (taken_all (entries_of c.args.tree.now.layout levels) c.loop-turn.turn
    (sym (c.loop-turn.invariant.next_is honest agrees levels holds) ∙ c.in-None-next.is))
    (c.loop-turn.invariant.pairs honest agrees levels holds)

as_many_pairs : (g : Over) (c : In-None-next g) → OnTree g.D.Device c.args.tree.now.layout c.args.tree.now.root
    c.args.pages.now c.args.device.now (λ levels.
    length (entries_of c.args.tree.now.layout levels) ≡ length (rows_of c.args.rows.now))
as_many_pairs g c = λ honest agrees levels holds.
    let few = none_at (entries_of c.args.tree.now.layout levels) c.loop-turn.turn
    (sym (c.loop-turn.invariant.next_is honest agrees levels holds) ∙ c.in-None-next.is) in
    let some = c.loop-turn.invariant.some honest agrees levels holds in
    let test = c.loop-turn-test.false in
    let end = c.loop-turn.auto.turn-end in
    let many = length-map c.args.rows.now row_of in
    omega (arith, few, some, test, end, many)

pub returns-clause-index : goal.returns-clause-index
returns-clause-index g c = λ up honest agrees levels holds.
    let to = (goal.at.returns-clause-index g c).In-None-next in
    let spec = spec_of c.args.file.now in
    let rows = rows_of c.args.rows.now in
    let entries : List Entry = entries_of c.args.tree.now.layout levels in
    let ascend = tree_ascends c.args.tree.now.layout (map_now c.args.pages.now
    (g.D.Device.state c.args.device.now).disk.present).pages c.args.tree.now.root levels holds in
    are_pairs spec c.args.key rows entries c.args.file.now.sound c.requires.key up ascend
    (each_passed (IsPairOf spec c.args.key rows) entries (each_pair g to honest agrees levels holds))
    (as_many_pairs g to honest agrees levels holds)

pub next_in-requires : goal.next_in-requires
next_in-requires g c = record {
  sectors = sectors_kept g.D.Device ⊥ c.args.pages.now c.loop-turn.pages c.args.device.now c.loop-turn.device
      c.loop-turn.invariant.looks c.requires.sectors;
}

pub returns-in_err-index-clause-looks : goal.returns-in_err-index-clause-looks
returns-in_err-index-clause-looks g c =
    looks_blamed g.D.Device ⊥ _ _ _ _ _ (λ is. memory_not_device c.from_residual.result
    (memory_passed c.from_residual.result c.in_err-index.field-0.0 c.from_residual.ensures.1 c.in_err-index.ensures) is)
    (looks_nowhere g.D.Device c.args.pages.now c.args.device.now)

pub returns-in_err-index-clause-index : goal.returns-in_err-index-clause-index
returns-in_err-index-clause-index g c = λ up honest agrees levels holds.
    on_refused c.from_residual.result c.in_err-index.field-0.0 c.from_residual.ensures.1 _

pub returns-in_err-index-clause-damaged : goal.returns-in_err-index-clause-damaged
returns-in_err-index-clause-damaged g c = λ up honest agrees levels holds is are. memory_not_damaged
    c.from_residual.result
    (memory_passed c.from_residual.result c.in_err-index.field-0.0 c.from_residual.ensures.1 c.in_err-index.ensures) is

pub returns-in_err-index-clause-cause : goal.returns-in_err-index-clause-cause
returns-in_err-index-clause-cause g c =
    cause_passed c.from_residual.result c.in_err-index.field-0.0 c.from_residual.ensures.1
    (memory_read c.in_err-index.field-0.0 c.in_err-index.ensures)

pub returns-in_err-next-clause-looks : goal.returns-in_err-next-clause-looks
returns-in_err-next-clause-looks g c =
    looks_blamed g.D.Device (c.first_in.result ≡ Err Device) _ c.args.pages.now c.first_in.new.pages c.args.device.now
    c.first_in.new.device (λ is. was_error c.from_residual-in_err-next.result c.first_in.result
    c.in_err-next.field-0.0 Device c.from_residual-in_err-next.ensures.1 c.in_err-next.was is) c.first_in.ensures.looks

pub returns-in_err-next-clause-index : goal.returns-in_err-next-clause-index
returns-in_err-next-clause-index g c = λ up honest agrees levels holds.
    on_refused c.from_residual-in_err-next.result c.in_err-next.field-0.0 c.from_residual-in_err-next.ensures.1 _

pub returns-in_err-next-in-Some-clause-index : goal.returns-in_err-next-in-Some-clause-index
returns-in_err-next-in-Some-clause-index g c = λ up honest agrees levels holds.
    on_refused c.from_residual-in_err-next-in-Some.result c.in_err-next-in-Some.field-0.0
    c.from_residual-in_err-next-in-Some.ensures.1 _

pub returns-then-not-is_pair-clause-looks : goal.returns-then-not-is_pair-clause-looks
returns-then-not-is_pair-clause-looks g c =
    looks_blamed g.D.Device ⊥ _ c.args.pages.now c.loop-turn.pages c.args.device.now c.loop-turn.device
    (λ is. damaged_not_device is) c.loop-turn.invariant.looks

pub returns-in-None-clause-looks : goal.returns-in-None-clause-looks
returns-in-None-clause-looks g c =
    looks_blamed g.D.Device ⊥ _ c.args.pages.now c.loop-turn.pages c.args.device.now c.loop-turn.device
    (λ is. let never : ⊥ = cc in absurd never) c.loop-turn.invariant.looks

pub returns-in-Some-next-clause-looks : goal.returns-in-Some-next-clause-looks
returns-in-Some-next-clause-looks g c =
    looks_blamed g.D.Device ⊥ _ c.args.pages.now c.loop-turn.pages c.args.device.now c.loop-turn.device
    (λ is. let never : ⊥ = cc in absurd never) c.loop-turn.invariant.looks

pub returns-clause-looks : goal.returns-clause-looks
returns-clause-looks g c =
    looks_blamed g.D.Device ⊥ _ c.args.pages.now c.loop-turn.pages c.args.device.now c.loop-turn.device
    (λ is. never_ok is) c.loop-turn.invariant.looks

pub returns-clause-damaged : goal.returns-clause-damaged
returns-clause-damaged g c = λ up honest agrees levels holds told are. never_ok told
