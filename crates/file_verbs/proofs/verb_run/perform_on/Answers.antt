use Rattle.std.proofs.Common.{refl, ap, subst, ℕ}
use Rattle.records.specs.declared.verb.Verb.TheVariants.{Open, ReadNext, Read, Write, Rewrite, Delete, Start}
use Rattle.records.specs.FileStep.{area}
use Rattle.file_verbs.specs.Connections.{May}
use Rattle.file_verbs.proofs.Doing.{as_verb, reads_do, changes_do, opening_does, err_any, err_map, next_open, read_open}
use Rattle.file_verbs.proofs.Doing.{start_open, write_open, change_open, open_shut, next_stays, read_stays, start_stays}
use Rattle.file_verbs.proofs.Doing.{write_stays, rewrite_stays, delete_stays, change_may, change_read}
use Rattle.file_verbs.proofs.verb_run.perform_on.Goals as goal

pub returns-in-Open : goal.returns-in-Open
returns-in-Open g c =
    let old = c.args.linked.now in
    let bytes = c.args.bytes.now in
    let number = c.args.number.now in
    let opens = c.open_file.ensures in
    let shut = open_shut old c.in-Open.mode (subst (May old) c.in-Open.is c.requires.may) in
    record {
      does = as_verb c.args.verb (Open c.in-Open.mode) c.in-Open.is
          (opening_does g.T.Keeps g.D.Device (Open c.in-Open.mode) c.open_file.result _ _ _ _ old _ _ _ opens.changes
          refl shut (λ files stands. opens.step files stands bytes number)
          (λ files stands. opens.linked files stands bytes number)
          (λ files stands. opens.turns files stands bytes number) opens.idle opens.same refl opens.rests
          (λ files stands. opens.full files stands bytes number) opens.never_full refl);
    }

pub returns-in-Some : goal.returns-in-Some
returns-in-Some g c =
    let old = c.args.linked.now in
    record {
      does = as_verb c.args.verb ReadNext c.in-ReadNext.is
          (reads_do g.T.Keeps g.D.Device ReadNext c.read_next.result c.args.store.now c.args.device.now
          c.read_next.new.store c.read_next.new.device old _ _ _ (g.met.T.Store.held c.args.store.now)
          c.read_next.ensures.reads refl
          (next_open old (subst (May old) c.in-ReadNext.is c.requires.may)) c.read_next.ensures.step
          c.read_next.ensures.damaged c.read_next.ensures.mode c.read_next.ensures.absent c.read_next.ensures.same
          c.read_next.ensures.area
          (next_stays old (area c.args.bytes.now c.args.number.now)));
    }

pub returns-in-Read : goal.returns-in-Read
returns-in-Read g c =
    let old = c.args.linked.now in
    record {
      does = as_verb c.args.verb (Read c.in-Read.key) c.in-Read.is
          (reads_do g.T.Keeps g.D.Device (Read c.in-Read.key) c.read_by_key.result c.args.store.now c.args.device.now
          c.read_by_key.new.store c.read_by_key.new.device old _ _ _ (g.met.T.Store.held c.args.store.now)
          c.read_by_key.ensures.reads refl
          (read_open old c.in-Read.key (subst (May old) c.in-Read.is c.requires.may)) c.read_by_key.ensures.step
          c.read_by_key.ensures.damaged c.read_by_key.ensures.mode c.read_by_key.ensures.absent
          c.read_by_key.ensures.same c.read_by_key.ensures.area
          (read_stays old (area c.args.bytes.now c.args.number.now) c.in-Read.key));
    }

pub returns-in-Write : goal.returns-in-Write
returns-in-Write g c =
    let old = c.args.linked.now in
    let may = subst (May old) c.in-Write.is c.requires.may in
    record {
      does = as_verb c.args.verb Write c.in-Write.is
          (changes_do g.T.Keeps g.D.Device Write c.write_row.result c.args.store.now c.args.device.now
          c.write_row.new.store c.write_row.new.device old _ _ _ c.write_row.ensures.changes refl
          (write_open old may) c.write_row.ensures.step c.write_row.ensures.turns
          c.write_row.ensures.mode c.write_row.ensures.absent c.write_row.ensures.idle c.write_row.ensures.same
          (err_map c.write_row.result (λ e. ap (λ (n : ℕ). area c.args.bytes.now n) e) c.write_row.ensures.area)
          c.write_row.ensures.rests
          (write_stays old (area c.args.bytes.now c.args.number.now) may) c.write_row.ensures.full refl
          c.write_row.ensures.makes_none);
    }

pub rewrite_row-requires-clause-may : goal.rewrite_row-requires-clause-may
rewrite_row-requires-clause-may g c =
    let may = subst (May c.args.linked.now) c.in-Rewrite.is c.requires.may in
    (change_may c.args.linked.now may, change_read c.args.linked.now may)

pub delete_row-requires-clause-may : goal.delete_row-requires-clause-may
delete_row-requires-clause-may g c =
    let may = subst (May c.args.linked.now) c.in-Delete.is c.requires.may in
    (change_may c.args.linked.now may, change_read c.args.linked.now may)

pub returns-in-Rewrite : goal.returns-in-Rewrite
returns-in-Rewrite g c =
    let old = c.args.linked.now in
    let may = subst (May old) c.in-Rewrite.is c.requires.may in
    record {
      does = as_verb c.args.verb Rewrite c.in-Rewrite.is
          (changes_do g.T.Keeps g.D.Device Rewrite c.rewrite_row.result c.args.store.now c.args.device.now
          c.rewrite_row.new.store c.rewrite_row.new.device old _ _ _ c.rewrite_row.ensures.changes refl
          (change_open old may) c.rewrite_row.ensures.step c.rewrite_row.ensures.turns
          c.rewrite_row.ensures.mode c.rewrite_row.ensures.absent c.rewrite_row.ensures.idle c.rewrite_row.ensures.same
          (err_any c.rewrite_row.result refl) c.rewrite_row.ensures.rests
          (rewrite_stays old (area c.args.bytes.now c.args.number.now) may) c.rewrite_row.ensures.full refl
          c.rewrite_row.ensures.makes_none);
    }

pub returns-in-Delete : goal.returns-in-Delete
returns-in-Delete g c =
    let old = c.args.linked.now in
    let may = subst (May old) c.in-Delete.is c.requires.may in
    record {
      does = as_verb c.args.verb Delete c.in-Delete.is
          (changes_do g.T.Keeps g.D.Device Delete c.delete_row.result c.args.store.now c.args.device.now
          c.delete_row.new.store c.delete_row.new.device old _ _ _ c.delete_row.ensures.changes refl
          (change_open old may) c.delete_row.ensures.step c.delete_row.ensures.turns
          c.delete_row.ensures.mode c.delete_row.ensures.absent c.delete_row.ensures.idle c.delete_row.ensures.same
          (err_any c.delete_row.result refl) c.delete_row.ensures.rests
          (delete_stays old (area c.args.bytes.now c.args.number.now) may) c.delete_row.ensures.full refl
          c.delete_row.ensures.makes_none);
    }

pub returns-in-Start : goal.returns-in-Start
returns-in-Start g c =
    let old = c.args.linked.now in
    let verb = Start c.in-Start.relation c.in-Start.key c.in-Start.count in
    record {
      does = as_verb c.args.verb verb c.in-Start.is
          (reads_do g.T.Keeps g.D.Device verb c.start.result c.args.store.now c.args.device.now c.start.new.store
          c.start.new.device old _ _ _ (g.met.T.Store.held c.args.store.now) c.start.ensures.reads refl
          (start_open old c.in-Start.relation c.in-Start.key c.in-Start.count
          (subst (May old) c.in-Start.is c.requires.may)) c.start.ensures.step c.start.ensures.damaged
          c.start.ensures.mode c.start.ensures.absent c.start.ensures.same (err_any c.start.result refl)
          (start_stays old (area c.args.bytes.now c.args.number.now) c.in-Start.relation c.in-Start.key
          c.in-Start.count));
    }
