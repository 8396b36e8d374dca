use Rattle.std.proofs.Common.{refl, subst, ap, ◌∙◌}
use Rattle.records.specs.Connector.{Entry}
use Rattle.records.specs.FileStep.{area, makes_file, Suits}
use Rattle.records.specs.declared.status.Status.TheVariants.{Success}
use Rattle.file_verbs.proofs.Calling.{changes_still}
use Rattle.file_verbs.proofs.Performed.{still_turns, changes_over, rests_over, not_close, known_step, err_both}
use Rattle.file_verbs.proofs.OneConnector.{is_at, at_entry, at_entries, at_may, at_needs, forgotten_linked}
use Rattle.file_verbs.proofs.OneConnector.{closed_linked}
use Rattle.file_verbs.proofs.OneConnector.{barred_files, barred_ends, closed_files, closed_ends, does_step, does_turns}
use Rattle.file_verbs.proofs.OneConnector.{does_full, does_refused, does_still}
use Rattle.file_verbs.proofs.connectors.ConnectorsFileVerbs.perform.Goals as goal

pub returns-in-Some-clause-entries : goal.returns-in-Some-clause-entries
returns-in-Some-clause-entries g c =
    let at = is_at c.args.self.now.links.items c.args.file c.index_mut.result.now c.args.verb c.requires.file
    c.deref.ensures.value c.barred.ensures c.in-Some.is c.index_mut.ensures.value in
    at_entries at c.forget_read.new.linked c.forget_read.ensures.select

pub returns-in-Some-clause-step : goal.returns-in-Some-clause-step
returns-in-Some-clause-step g c = λ files known.
    let at = is_at c.args.self.now.links.items c.args.file c.index_mut.result.now c.args.verb c.requires.file
    c.deref.ensures.value c.barred.ensures c.in-Some.is c.index_mut.ensures.value in
    barred_ends at c.forget_read.new.linked c.forget_read.ensures.select c.forget_read.ensures.connector files
    (area c.args.bytes.now c.args.number.now)

pub returns-in-Some-clause-turns : goal.returns-in-Some-clause-turns
returns-in-Some-clause-turns g c = λ files stands.
    let at = is_at c.args.self.now.links.items c.args.file c.index_mut.result.now c.args.verb c.requires.file
    c.deref.ensures.value c.barred.ensures c.in-Some.is c.index_mut.ensures.value in
    let linked = forgotten_linked at c.forget_read.new.linked c.forget_read.ensures.select c.forget_read.ensures.mode
    c.forget_read.ensures.absent files stands.there.1 in
    still_turns g.D.Device c.in-Some.status (makes_file c.args.verb) _ files _ c.args.device.now
    (barred_files at files (area c.args.bytes.now c.args.number.now))
    (record { honest = stands.honest; there = (stands.there.0, linked) })
    (λ image crash. g.met.T.Store.held c.args.self.now.store _ image files stands.there.0 crash)

pub returns-in-Close-clause-entries : goal.returns-in-Close-clause-entries
returns-in-Close-clause-entries g c =
    let at = is_at c.args.self.now.links.items c.args.file c.index_mut-in-Close.result.now c.args.verb c.requires.file
    c.deref.ensures.value c.barred.ensures c.in_default.is c.index_mut-in-Close.ensures.value in
    at_entries at c.close.new.linked c.close.ensures.select

pub returns-in-Close-clause-step : goal.returns-in-Close-clause-step
returns-in-Close-clause-step g c = λ files known.
    let at = is_at c.args.self.now.links.items c.args.file c.index_mut-in-Close.result.now c.args.verb c.requires.file
    c.deref.ensures.value c.barred.ensures c.in_default.is c.index_mut-in-Close.ensures.value in
    closed_ends at c.in-Close.is c.close.new.linked c.close.ensures.select c.close.ensures.connector files
    (area c.args.bytes.now c.args.number.now)

pub returns-in-Close-clause-turns : goal.returns-in-Close-clause-turns
returns-in-Close-clause-turns g c = λ files stands.
    let at = is_at c.args.self.now.links.items c.args.file c.index_mut-in-Close.result.now c.args.verb c.requires.file
    c.deref.ensures.value c.barred.ensures c.in_default.is c.index_mut-in-Close.ensures.value in
    let linked = closed_linked at c.close.new.linked c.close.ensures.select c.close.ensures.shut files stands.there.1 in
    still_turns g.D.Device Success (makes_file c.args.verb) _ files _ c.args.device.now
    (closed_files at c.in-Close.is files (area c.args.bytes.now c.args.number.now))
    (record { honest = stands.honest; there = (stands.there.0, linked) })
    (λ image crash. g.met.T.Store.held c.args.self.now.store _ image files stands.there.0 crash)

pub perform_on-requires : goal.perform_on-requires
perform_on-requires g c =
    let at = is_at c.args.self.now.links.items c.args.file c.index_mut-2.result.now c.args.verb c.requires.file
    c.deref.ensures.value c.barred.ensures c.in_default.is c.index_mut-2.ensures.value in
    record {
      device = c.requires.device;
      not_close = not_close c.args.verb c.in_default-verb.not-Close;
      may = at_may at;
      suits = subst (λ (e : Entry). Suits e c.args.verb) (at_entry at) c.requires.verb;
      bytes = c.requires.bytes ∙ ap (λ (e : Entry). e.spec.record_length) (at_entry at);
    }

pub returns-clause-entries : goal.returns-clause-entries
returns-clause-entries g c =
    let at = is_at c.args.self.now.links.items c.args.file c.index_mut-2.result.now c.args.verb c.requires.file
    c.deref.ensures.value c.barred.ensures c.in_default.is c.index_mut-2.ensures.value in
    at_entries at c.perform_on.new.linked c.perform_on.ensures.does.select

pub returns-clause-sure : goal.returns-clause-sure
returns-clause-sure g c = λ is.
    let at = is_at c.args.self.now.links.items c.args.file c.index_mut-2.result.now c.args.verb c.requires.file
    c.deref.ensures.value c.barred.ensures c.in_default.is c.index_mut-2.ensures.value in
    absurd (at_needs at (not_close c.args.verb c.in_default-verb.not-Close) is)

pub returns-clause-step : goal.returns-clause-step
returns-clause-step g c = λ files known.
    let at = is_at c.args.self.now.links.items c.args.file c.index_mut-2.result.now c.args.verb c.requires.file
    c.deref.ensures.value c.barred.ensures c.in_default.is c.index_mut-2.ensures.value in
    known_step (λ stands. does_step at c.perform_on.ensures.does files
    (record { honest = stands.honest; there = stands.there.0 }) stands.there.1)
    (at_needs at (not_close c.args.verb c.in_default-verb.not-Close)) known

pub returns-clause-turns : goal.returns-clause-turns
returns-clause-turns g c = λ files stands.
    let at = is_at c.args.self.now.links.items c.args.file c.index_mut-2.result.now c.args.verb c.requires.file
    c.deref.ensures.value c.barred.ensures c.in_default.is c.index_mut-2.ensures.value in
    does_turns at c.perform_on.ensures.does (not_close c.args.verb c.in_default-verb.not-Close) files
    (record { honest = stands.honest; there = stands.there.0 }) stands.there.1
    (λ there linked. (there, linked)) (λ moments. moments) (λ fault lacks. lacks)

pub returns-clause-full : goal.returns-clause-full
returns-clause-full g c = λ files stands is.
    let at = is_at c.args.self.now.links.items c.args.file c.index_mut-2.result.now c.args.verb c.requires.file
    c.deref.ensures.value c.barred.ensures c.in_default.is c.index_mut-2.ensures.value in
    does_full at c.perform_on.ensures.does files (record { honest = stands.honest; there = stands.there.0 })
    stands.there.1 is

pub returns-clause-lacks : goal.returns-clause-lacks
returns-clause-lacks g c = record {
  never_full = c.perform_on.ensures.does.never_full;
  old = c.perform_on.ensures.does.mark;
}

pub returns-clause-refused : goal.returns-clause-refused
returns-clause-refused g c =
    let at = is_at c.args.self.now.links.items c.args.file c.index_mut-2.result.now c.args.verb c.requires.file
    c.deref.ensures.value c.barred.ensures c.in_default.is c.index_mut-2.ensures.value in
    does_refused at c.perform_on.ensures.does

pub returns-clause-store : goal.returns-clause-store
returns-clause-store g c =
    let at = is_at c.args.self.now.links.items c.args.file c.index_mut-2.result.now c.args.verb c.requires.file
    c.deref.ensures.value c.barred.ensures c.in_default.is c.index_mut-2.ensures.value in
    let does = c.perform_on.ensures.does in
    record {
      changes = changes_over g.T.Keeps g.D.Device c.perform_on.result c.args.self.now.store c.args.device.now
          c.perform_on.new.store c.perform_on.new.device refl refl refl refl does.changes;
      idle = does.idle;
      rests = err_both c.perform_on.result (λ same rests. rests_over g.T.Keeps g.D.Device c.perform_on.result
          c.args.self.now.store c.args.device.now c.perform_on.new.store c.perform_on.new.device refl
          (λ files stands. record { honest = stands.honest; there = stands.there.0 }) (λ files stands now.
          record { honest = now.honest; there = (now.there, does_still at does same files stands.there.1) }) rests)
          does.same does.rests;
    }

pub returns-in-Some-clause-store : goal.returns-in-Some-clause-store
returns-in-Some-clause-store g c =
    record { changes = changes_still c.in-Some.status refl refl; idle = λ honest none. refl; rests = tt }

pub returns-in-Close-clause-store : goal.returns-in-Close-clause-store
returns-in-Close-clause-store g c =
    record { changes = changes_still Success refl refl; idle = λ honest none. refl; rests = tt }
