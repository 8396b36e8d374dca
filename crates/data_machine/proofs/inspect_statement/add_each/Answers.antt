use Rattle.std.proofs.Common.{sym, ◌∙◌, refl, arith}
use Rattle.std.specs.Prelude.{slice_index, Ok, Err}
use Rattle.data_instructions.specs.declared.place.Place.{Place}
use Rattle.data_instructions.specs.Faults.{fault_of}
use Rattle.data_machine.proofs.Inspects.{still_each, next_stands, added, total_next}
use Rattle.data_machine.proofs.inspect_statement.add_each.Goals as goal

abbrev none : Place
none = record { item = record { number = 0 }; offset = 0; length = 0 }

pub add_at-requires-clause-stands : goal.add_at-requires-clause-stands
add_at-requires-clause-stands c =
    (next_stands c.args.tables.now c.loop-number.areas c.args.places.now c.loop-number.number none (omega arith)
    c.loop-number.invariant.stand).0

pub returns-in-Err-clause-adds : goal.returns-in-Err-clause-adds
returns-in-Err-clause-adds c =
    let inv = c.loop-number.invariant in
    sym inv.adds
    ∙ added c.args.tables.now (slice_index c.args.counts.now) c.loop-number.from c.args.places.now c.args.counters.now
    c.loop-number.number none 0 c.loop-number.areas _ (Err (fault_of c.in-Err.fault)) (omega arith)
    (omega (arith, c.requires.counters)) refl c.in-Err.ensures.adds

pub loop-number-preserved : goal.loop-number-preserved
loop-number-preserved c =
    let inv = c.loop-number.invariant in
    let next = next_stands c.args.tables.now c.loop-number.areas c.args.places.now c.loop-number.number none
    (omega arith) inv.stand in
    let adds = added c.args.tables.now (slice_index c.args.counts.now) c.loop-number.from c.args.places.now
    c.args.counters.now c.loop-number.number none 0 c.loop-number.areas _ (Ok c.add_at.new.areas) (omega arith)
    (omega (arith, c.requires.counters)) refl c.in-Ok.ensures.adds in
    record {
      entries = total_next c.args.tables.now c.args.counters.now c.loop-number.number 0 c.loop-number.from
          (omega (arith, c.requires.counters)) inv.entries;
      stand = still_each c.args.tables.now c.loop-number.areas c.add_at.new.areas _ c.add_at.ensures.lengths next.1;
      lengths = c.add_at.ensures.lengths ∙ inv.lengths;
      adds = sym adds ∙ inv.adds;
    }
