use Rattle.std.proofs.Common.{◌∙◌, refl, sym, ap}
use Rattle.station.proofs.Spans.{stays}
use Rattle.records.specs.Changes.{insertion}
use Rattle.records.specs.Stores.{files_after, is_change}
use Rattle.file_bytes.proofs.Checked.{all_bytes}
use Rattle.half_store.proofs.Written.{at_rest}
use Rattle.half_store.proofs.Turned.{memory_takes}
use Rattle.half_store.proofs.Committed.{of_held, inserted_half, memory_after, idle_after, late_lacks, refused_turns}
use Rattle.half_store.proofs.Committed.{committed_turns, refused_changes, committed_changes}
use Rattle.half_store.proofs.store_calls.HalfStoreStore.insert.Goals as goal

pub returns-then-self-clause-turns : goal.returns-then-self-clause-turns
returns-then-self-clause-turns g c = λ files held stands has.
    let old = g.D.Device.state c.args.device.now in
    record {
      there = tt;
      moments = stays (g.D.Device.history c.args.device.now) old _
          (at_rest c.args.self.now.sectors c.args.self.now.generation files (files_after c.args.file.now.name.items
          files (insertion c.args.number c.args.bytes.now held)) old stands.there.rests);
      sound = λ e. absurd cc;
      room = λ e. absurd cc;
      mark = λ e. absurd cc;
    }

pub returns-in_err-outcome-clause-turns : goal.returns-in_err-outcome-clause-turns
returns-in_err-outcome-clause-turns g c = λ files held stands has.
    let becomes = of_held stands.there _ has c.insert_in.ensures.becomes in
    refused_turns (files_after c.args.file.now.name.items files (insertion c.args.number c.args.bytes.now held))
    stands.honest stands.there (λ device moments. moments) (λ lacks. lacks) c.in_err-outcome.was
    c.from_residual.ensures.1
    becomes.sound (λ e. late_lacks stands.there c.args.file.now.name.items has.there (becomes.full e))
    (memory_takes c.insert_in.result c.insert_in.ensures.cause)

pub returns-clause-turns : goal.returns-clause-turns
returns-clause-turns g c = λ files held stands has.
    let name = c.args.file.now.name.items in
    let changed = insertion c.args.number c.args.bytes.now held in
    let after = files_after name files changed in
    let becomes = of_held stands.there _ has c.in_ok-outcome.ensures.becomes in
    let half = inserted_half stands.there has c.args.number c.args.bytes.now c.requires.number c.requires.bytes
    (all_bytes c.args.bytes.now c.type_inv.bytes) in
    let settles = c.commit_files.ensures.settles files after stands.honest stands.there.rests
    (memory_after stands.there name changed becomes.after) half
    (idle_after stands.there name changed becomes.outcome) in
    committed_turns after stands.honest stands.there (λ device moments. moments) (λ lacks. lacks) settles
    c.commit_files.ensures.only.honest.0 c.commit_files.ensures.cause (λ there. there)

pub returns-in_err-outcome-clause-full : goal.returns-in_err-outcome-clause-full
returns-in_err-outcome-clause-full g c = λ files held stands has e.
    let becomes = of_held stands.there _ has c.in_err-outcome.ensures.becomes in
    let changes = becomes.changes in
    let told = rw e at c.from_residual.ensures.1 in
    changes (cc (told))

pub returns-clause-full : goal.returns-clause-full
returns-clause-full g c = λ files held stands has e.
    let becomes = of_held stands.there _ has c.in_ok-outcome.ensures.becomes in
    sym (ap is_change becomes.outcome) ∙ c.commit_files.ensures.changes e

pub returns-in_err-outcome-clause-changes : goal.returns-in_err-outcome-clause-changes
returns-in_err-outcome-clause-changes g c = refused_changes c.from_residual.result c.in_err-outcome.field-0.0
    c.from_residual.ensures.1 c.in_err-outcome.ensures.cause refl

pub returns-clause-changes : goal.returns-clause-changes
returns-clause-changes g c = committed_changes c.commit_files.ensures.only c.commit_files.ensures.sectors
    c.commit_files.ensures.unspent c.if-self.false c.commit_files.ensures.cause c.commit_files.ensures.unwritten
