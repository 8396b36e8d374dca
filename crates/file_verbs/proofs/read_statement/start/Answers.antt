use Rattle.std.proofs.Common.{◌≡◌, length, refl, sym, ◌∙◌, ap, subst, arith}
use Rattle.std.proofs.lemmas.List.{with_items_is}
use Rattle.records.specs.Stores.{spec_of}
use Rattle.file_verbs.specs.Links.{connector_of}
use Rattle.records.specs.declared.status.Status.TheVariants.{NotFound}
use Rattle.records.proofs.Calls.{looks_not}
use Rattle.file_verbs.specs.declared.link.Link.{Link}
use Rattle.file_verbs.specs.Links.{IsLink}
use Rattle.file_verbs.proofs.Calling.{no_answer}
use Rattle.file_verbs.proofs.Doing.{err_any}
use Rattle.file_verbs.proofs.Calling.{still_reads, reads_on, refused_by_call, never_refused}
use Rattle.file_verbs.proofs.Taken.{held_of, ended, absent_rows, absent_start}
use Rattle.file_verbs.proofs.ReadSteps.{start_none, start_stands}
use Rattle.file_verbs.proofs.read_statement.start.Given.{Over}
use Rattle.file_verbs.proofs.read_statement.start.Goals as goal
use Rattle.file_verbs.proofs.read_statement.start.Goals.{After-seek_fitting}

pub returns-in_default-clause-step : goal.returns-in_default-clause-step
returns-in_default-clause-step g c = λ files stands linked.
    let h = held_of files c.args.select.now c.args.link.now linked c.if-link.false in
    start_none c.args.select.now c.args.link.now files c.args.bytes.now c.args.number h.1 c.args.comparison.key
    c.requires.key
    c.seek_fitting.new.sought c.in_ok-found.field-0
    c.args.comparison.relation c.args.comparison.count (c.in_ok-found.ensures.found files h.0 stands h.1)
    c.in_default.is (ap (connector_of (spec_of c.args.select.now.file)) c.lose_position-in_default.ensures)

pub returns-clause-step : goal.returns-clause-step
returns-clause-step g c = λ files stands linked.
    let l = c.args.link.now in
    let h = held_of files c.args.select.now l linked c.if-link.false in
    start_stands c.args.select.now c.args.link.now files c.args.bytes.now c.args.number h.1 c.args.comparison.key
    c.requires.key
    c.seek_fitting.new.sought c.in_ok-found.field-0
    c.args.comparison.relation c.args.comparison.count (c.in_ok-found.ensures.found files h.0 stands h.1) c.in-Some.is
    (with_items_is l.sought c.seek_fitting.new.sought (c.seek_fitting.auto.sought ∙ c.deref_mut.ensures.len))
    (ap (connector_of (spec_of c.args.select.now.file)) c.stand.ensures)

pub returns-then-link-clause-step : goal.returns-then-link-clause-step
returns-then-link-clause-step g c = λ files stands linked.
    let s = c.args.select.now in
    let l = c.args.link.now in
    ended _ _ NotFound _ _ (absent_start s l files c.args.bytes.now c.args.number
    (absent_rows files s l linked c.if-link.true) c.args.comparison.relation c.args.comparison.key
    c.args.comparison.count) refl
    (ap (connector_of (spec_of s.file)) c.lose_position.ensures) refl

pub returns-then-link-clause-reads : goal.returns-then-link-clause-reads
returns-then-link-clause-reads g c = looks_not g.T.Keeps g.D.Device _ c.args.store.now c.args.device.now
    (λ is. never_refused is) (λ is. never_refused is) (λ is. never_refused is) (λ is. never_refused is)
    (λ is. never_refused is)

pub returns-in_err-found-clause-reads : goal.returns-in_err-found-clause-reads
returns-in_err-found-clause-reads g c =
    still_reads c.seek_fitting.ensures.reads c.in_err-found.was c.from_residual.ensures.1

pub returns-in_err-found-clause-damaged : goal.returns-in_err-found-clause-damaged
returns-in_err-found-clause-damaged g c = λ files stands linked is.
    let h = held_of files c.args.select.now c.args.link.now linked c.if-link.false in
    c.seek_fitting.ensures.damaged files h.0 stands h.1
    (refused_by_call c.in_err-found.was c.from_residual.ensures.1 is)

pub returns-in_default-clause-reads : goal.returns-in_default-clause-reads
returns-in_default-clause-reads g c = reads_on c.seek_fitting.ensures.reads _

pub returns-clause-reads : goal.returns-clause-reads
returns-clause-reads g c = reads_on c.seek_fitting.ensures.reads _

-- the room for the row that is sought keeps its length
room : (g : Over) (c : After-seek_fitting g) → length c.seek_fitting.new.sought ≡ c.args.select.now.file.record_length
room g c = omega (
  arith,
  c.seek_fitting.auto.sought ∙ c.deref_mut.ensures.len,
  c.args.link.now.sought.ok.0,
  c.requires.link.sought_length,
)

pub returns-then-link-clause-link : goal.returns-then-link-clause-link
returns-then-link-clause-link g c =
    subst (λ (l : Link). IsLink c.args.select.now l) (sym c.lose_position.ensures) (record {
      key = c.requires.key;
      value = omega arith;
      row_length = c.requires.link.row_length;
      sought_length = c.requires.link.sought_length;
      written_length = c.requires.link.written_length;
      last = c.requires.link.last;
    })

pub returns-then-link-clause-mode : goal.returns-then-link-clause-mode
returns-then-link-clause-mode g c = ap (λ (l : Link). l.mode) c.lose_position.ensures

pub returns-then-link-clause-absent : goal.returns-then-link-clause-absent
returns-then-link-clause-absent g c = ap (λ (l : Link). l.is_absent) c.lose_position.ensures

pub returns-then-link-clause-damaged : goal.returns-then-link-clause-damaged
returns-then-link-clause-damaged g c = λ files stands linked is. never_refused is

pub returns-in_err-found-clause-link : goal.returns-in_err-found-clause-link
returns-in_err-found-clause-link g c =
    let at = goal.at.returns-in_err-found-clause-link g c in
    record {
      key = c.requires.link.key;
      value = c.requires.link.value;
      row_length = c.requires.link.row_length;
      sought_length = ap length (with_items_is c.args.link.now.sought c.seek_fitting.new.sought
          (c.seek_fitting.auto.sought ∙ c.deref_mut.ensures.len)) ∙ room g at.After-seek_fitting;
      written_length = c.requires.link.written_length;
      last = c.requires.link.last;
    }

pub returns-in_err-found-clause-step : goal.returns-in_err-found-clause-step
returns-in_err-found-clause-step g c =
    λ files stands linked. no_answer _ _ c.from_residual.result c.from_residual.ensures.1

pub returns-in_err-found-clause-same : goal.returns-in_err-found-clause-same
returns-in_err-found-clause-same g c =
    err_any c.from_residual.result (record { absent = refl; connector = refl })

pub returns-in_default-clause-link : goal.returns-in_default-clause-link
returns-in_default-clause-link g c =
    let at = goal.at.returns-in_default-clause-link g c in
    subst (λ (l : Link). IsLink c.args.select.now l) (sym c.lose_position-in_default.ensures) (record {
      key = c.requires.key;
      value = omega arith;
      row_length = c.requires.link.row_length;
      sought_length = ap length (with_items_is c.args.link.now.sought c.seek_fitting.new.sought
          (c.seek_fitting.auto.sought ∙ c.deref_mut.ensures.len)) ∙ room g at.After-seek_fitting;
      written_length = c.requires.link.written_length;
      last = c.requires.link.last;
    })

pub returns-in_default-clause-mode : goal.returns-in_default-clause-mode
returns-in_default-clause-mode g c = ap (λ (l : Link). l.mode) c.lose_position-in_default.ensures

pub returns-in_default-clause-absent : goal.returns-in_default-clause-absent
returns-in_default-clause-absent g c = ap (λ (l : Link). l.is_absent) c.lose_position-in_default.ensures

pub returns-in_default-clause-damaged : goal.returns-in_default-clause-damaged
returns-in_default-clause-damaged g c = λ files stands linked is. never_refused is

pub returns-clause-link : goal.returns-clause-link
returns-clause-link g c =
    let at = goal.at.returns-clause-link g c in
    subst (λ (l : Link). IsLink c.args.select.now l) (sym c.stand.ensures) (record {
      key = c.requires.key;
      value = omega arith;
      row_length = ap length (with_items_is c.args.link.now.sought c.seek_fitting.new.sought
          (c.seek_fitting.auto.sought ∙ c.deref_mut.ensures.len)) ∙ room g at.After-seek_fitting;
      sought_length = c.requires.link.row_length;
      written_length = c.requires.link.written_length;
      last = c.requires.link.last;
    })

pub returns-clause-mode : goal.returns-clause-mode
returns-clause-mode g c = ap (λ (l : Link). l.mode) c.stand.ensures

pub returns-clause-absent : goal.returns-clause-absent
returns-clause-absent g c = ap (λ (l : Link). l.is_absent) c.stand.ensures

pub returns-clause-damaged : goal.returns-clause-damaged
returns-clause-damaged g c = λ files stands linked is. never_refused is

pub seek_fitting-requires-clause-sought : goal.seek_fitting-requires-clause-sought
seek_fitting-requires-clause-sought g c = ap length c.deref_mut.ensures.value ∙ c.requires.link.sought_length
