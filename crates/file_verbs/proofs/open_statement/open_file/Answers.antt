use Rattle.std.proofs.Common.{true, refl, sym, ◌∙◌, ap, subst, inl, inr, ⊎_elim, arith}
use Rattle.std.specs.Prelude.{Some}
use Rattle.records.specs.declared.status.Status.TheVariants.{Success, SuccessAbsent, FileMissing, FileDiffers}
use Rattle.records.specs.declared.verb.OpenMode.{OpenMode}
use Rattle.records.specs.declared.verb.Verb.TheVariants.{Open}
use Rattle.records.specs.Steps.{Step}
use Rattle.station.proofs.TwoPhase.{on_ok}
use Rattle.records.specs.Files.{Files}
use Rattle.records.specs.Stores.{spec_of}
use Rattle.records.specs.Calls.{ChangesFiles}
use Rattle.records.specs.FileStep.{area, can_change_files, has_changed}
use Rattle.records.proofs.Calls.{after_reads, reads_changes, reads_rests}
use Rattle.file_verbs.specs.Links.{IsLinked, Gone, connector_of}
use Rattle.file_verbs.proofs.Doing.{err_any}
use Rattle.file_verbs.proofs.Calling.{never_refused, no_answer, none_on}
use Rattle.file_verbs.proofs.Opened.{absent_is, output_makes, output_changes}
use Rattle.file_verbs.proofs.Opened.{present_linked, still_opened, begins, differs}
use Rattle.file_verbs.proofs.Opened.{misses}
use Rattle.file_verbs.proofs.Opened.{reads_absent}
use Rattle.file_verbs.proofs.Opened.{output_step, absent_step, made_ends, idle_never, makes_absent}
use Rattle.file_verbs.proofs.Opened.{absent_changes, absent_can_change}
use Rattle.file_verbs.proofs.Calling.{still_reads, reads_on, refused_leaves, changes_after, never_both}
use Rattle.file_verbs.proofs.Doing.{err_map}
use Rattle.file_verbs.proofs.Taken.{ended}
use Rattle.file_verbs.proofs.open_statement.open_file.Goals as goal

pub returns-in-Output-clause-linked : goal.returns-in-Output-clause-linked
returns-in-Output-clause-linked g c = λ files stands bytes number.
    let s = c.args.select.now in
    on_ok
    c.open_new.result (λ linked. inr (subst (λ (f : Files). IsLinked f s c.open_new.new.link) (sym (output_makes s files
    (connector_of (spec_of s.file) c.args.link.now) (area bytes number) c.args.mode c.in-Output.is)) (linked files)))
    c.open_new.ensures.linked

pub returns-in-Present-clause-linked : goal.returns-in-Present-clause-linked
returns-in-Present-clause-linked g c = λ files stands bytes number.
    let s = c.args.select.now in
    inr (present_linked s files (connector_of (spec_of s.file) c.args.link.now) (area bytes number) c.args.mode
    c.begin.new.link c.in_default.not-Output (sym c.in-Present.is ∙ c.in_ok-there.ensures.presence files stands)
    c.begin.ensures.absent)

pub returns-in-Different-clause-step : goal.returns-in-Different-clause-step
returns-in-Different-clause-step g c = λ files stands bytes number.
    let s = c.args.select.now in
    ended _ _ FileDiffers _ _
    (differs s files (connector_of (spec_of s.file) c.args.link.now) (area bytes number) c.args.mode
    c.in_default.not-Output (sym c.in-Different.is ∙ c.in_ok-there.ensures.presence files stands))
    refl refl refl

pub returns-in-Different-clause-turns : goal.returns-in-Different-clause-turns
returns-in-Different-clause-turns g c = λ files stands bytes number.
    let s = c.args.select.now in
    still_opened c.find.ensures.reads (g.met.T.Store.held c.args.store.now) FileDiffers true s.file.name.items stands
    (ap (λ (t : Step). t.files)
    (differs s files (connector_of (spec_of s.file) c.args.link.now) (area bytes number) c.args.mode
    c.in_default.not-Output (sym c.in-Different.is ∙ c.in_ok-there.ensures.presence files stands)))

pub returns-then-not-select-clause-step : goal.returns-then-not-select-clause-step
returns-then-not-select-clause-step g c = λ files stands bytes number.
    let s = c.args.select.now in
    ended _ _ FileMissing _ _
    (misses s files (connector_of (spec_of s.file) c.args.link.now) (area bytes number) c.args.mode
    c.in_default.not-Output (absent_is _ (spec_of s.file)
    (sym c.in-Absent.is ∙ c.in_ok-there.ensures.presence files stands)) c.if-not-select.true)
    refl refl refl

pub returns-then-not-select-clause-turns : goal.returns-then-not-select-clause-turns
returns-then-not-select-clause-turns g c = λ files stands bytes number.
    let s = c.args.select.now in
    still_opened c.find.ensures.reads (g.met.T.Store.held c.args.store.now) FileMissing true s.file.name.items stands
    (ap (λ (t : Step). t.files)
    (misses s files (connector_of (spec_of s.file) c.args.link.now) (area bytes number) c.args.mode
    c.in_default.not-Output (absent_is _ (spec_of s.file)
    (sym c.in-Absent.is ∙ c.in_ok-there.ensures.presence files stands)) c.if-not-select.true))

pub returns-in-Input-clause-step : goal.returns-in-Input-clause-step
returns-in-Input-clause-step g c = λ files stands bytes number.
    let s = c.args.select.now in
    ended _ _ SuccessAbsent _ _
    (reads_absent s files (connector_of (spec_of s.file) c.args.link.now) (area bytes number) c.args.mode
    c.in-Input.is (absent_is _ (spec_of s.file) (sym c.in-Absent.is ∙ c.in_ok-there.ensures.presence files stands))
    c.if-not-select.false)
    refl c.begin-in-Input.ensures.connector refl

pub returns-in-Input-clause-turns : goal.returns-in-Input-clause-turns
returns-in-Input-clause-turns g c = λ files stands bytes number.
    let s = c.args.select.now in
    still_opened c.find.ensures.reads (g.met.T.Store.held c.args.store.now) SuccessAbsent true s.file.name.items stands
    (ap (λ (t : Step). t.files)
    (reads_absent s files (connector_of (spec_of s.file) c.args.link.now) (area bytes number) c.args.mode
    c.in-Input.is (absent_is _ (spec_of s.file) (sym c.in-Absent.is ∙ c.in_ok-there.ensures.presence files stands))
    c.if-not-select.false))

pub returns-in-Input-clause-linked : goal.returns-in-Input-clause-linked
returns-in-Input-clause-linked g c = λ files stands bytes number.
    let s = c.args.select.now in
    let none = (absent_is _ (spec_of s.file) (sym c.in-Absent.is ∙ c.in_ok-there.ensures.presence files stands)) in
    inr (subst (λ (f : Files). IsLinked f s c.begin-in-Input.new.link)
    (sym (ap (λ (t : Step). t.files) (reads_absent s files (connector_of (spec_of s.file) c.args.link.now)
    (area bytes number) c.args.mode c.in-Input.is none c.if-not-select.false)))
    (Gone c.begin-in-Input.ensures.absent (c.begin-in-Input.ensures.mode ∙ ap (λ (m : OpenMode). Some m) c.in-Input.is)
    none))

pub returns-in-Output-clause-full : goal.returns-in-Output-clause-full
returns-in-Output-clause-full g c = λ files stands bytes number is.
    let s = c.args.select.now in
    output_changes s files (connector_of (spec_of s.file) c.args.link.now) (area bytes number) c.args.mode
    c.in-Output.is

pub returns-in-Output-clause-never_full : goal.returns-in-Output-clause-never_full
returns-in-Output-clause-never_full g c = λ none.
    let change = ap (λ (m : OpenMode). can_change_files (Open m)) c.in-Output.is in
    (λ is. never_both change none, λ is. never_both change none)

pub returns-in-Present-clause-step : goal.returns-in-Present-clause-step
returns-in-Present-clause-step g c = λ files stands bytes number.
    let s = c.args.select.now in
    ended _ _ Success _ _
    (begins s files (connector_of (spec_of s.file) c.args.link.now) (area bytes number) c.args.mode
    c.in_default.not-Output (sym c.in-Present.is ∙ c.in_ok-there.ensures.presence files stands)) refl
    c.begin.ensures.connector refl

pub returns-in-Present-clause-turns : goal.returns-in-Present-clause-turns
returns-in-Present-clause-turns g c = λ files stands bytes number.
    let s = c.args.select.now in
    still_opened c.find.ensures.reads (g.met.T.Store.held c.args.store.now) Success true s.file.name.items stands
    (ap (λ (t : Step). t.files) (begins s files (connector_of (spec_of s.file) c.args.link.now) (area bytes number)
    c.args.mode c.in_default.not-Output (sym c.in-Present.is ∙ c.in_ok-there.ensures.presence files stands)))

pub returns-in-Output-clause-step : goal.returns-in-Output-clause-step
returns-in-Output-clause-step g c = λ files stands bytes number.
    let s = c.args.select.now in
    let l = connector_of (spec_of s.file) c.args.link.now in
    made_ends s files l (area bytes number) c.args.mode Success _ c.open_new.result
    (output_step s files l (area bytes number) c.args.mode c.in-Output.is) c.open_new.ensures.status
    c.open_new.ensures.connector

pub returns-in-Output-clause-turns : goal.returns-in-Output-clause-turns
returns-in-Output-clause-turns g c = λ files stands bytes number.
    let s = c.args.select.now in
    subst (λ (after : Files). ChangesFiles g.T.Keeps g.D.Device c.open_new.result true s.file.name.items files after
    c.args.store.now c.args.device.now c.open_new.new.store c.open_new.new.device)
    (sym (output_makes s files (connector_of (spec_of s.file) c.args.link.now) (area bytes number) c.args.mode
    c.in-Output.is)) (c.open_new.ensures.turns files stands)

pub returns-in-Output-clause-idle : goal.returns-in-Output-clause-idle
returns-in-Output-clause-idle g c = λ honest. idle_never _ c.args.mode Success c.open_new.result
    (ap (λ (m : OpenMode). has_changed (Open m) Success) c.in-Output.is) c.open_new.ensures.status

pub returns-in-Output-clause-rests : goal.returns-in-Output-clause-rests
returns-in-Output-clause-rests g c = err_map c.open_new.result (λ spent. inl spent) c.open_new.ensures.spends

pub returns-in_err-there-clause-changes : goal.returns-in_err-there-clause-changes
returns-in_err-there-clause-changes g c =
    reads_changes g.T.Keeps g.D.Device _ _ _ _ _
    (still_reads c.find.ensures.reads c.in_err-there.was c.from_residual.ensures.1)

pub returns-in_err-there-clause-turns : goal.returns-in_err-there-clause-turns
returns-in_err-there-clause-turns g c = λ files stands bytes number.
    refused_leaves c.find.ensures.reads c.in_err-there.was c.from_residual.ensures.1
    (g.met.T.Store.held c.args.store.now) true c.args.select.now.file.name.items files _ stands
    (c.find.ensures.damaged files stands)

pub returns-in_err-there-clause-full : goal.returns-in_err-there-clause-full
returns-in_err-there-clause-full g c = λ files stands bytes number lacking.
    let reads = still_reads c.find.ensures.reads c.in_err-there.was c.from_residual.ensures.1 in
    ⊎_elim (λ full. absurd (reads.has_room full)) (λ early. absurd (reads.makes_none early)) lacking

pub returns-in_err-there-clause-never_full : goal.returns-in_err-there-clause-never_full
returns-in_err-there-clause-never_full g c = λ none.
    let reads = still_reads c.find.ensures.reads c.in_err-there.was c.from_residual.ensures.1 in
    (reads.has_room, reads.makes_none)

pub returns-in_err-there-clause-rests : goal.returns-in_err-there-clause-rests
returns-in_err-there-clause-rests g c =
    reads_rests g.T.Keeps g.D.Device _ _ _ _ _
    (still_reads c.find.ensures.reads c.in_err-there.was c.from_residual.ensures.1)

pub returns-in-Present-clause-changes : goal.returns-in-Present-clause-changes
returns-in-Present-clause-changes g c =
    reads_changes g.T.Keeps g.D.Device _ _ _ _ _ (reads_on c.find.ensures.reads Success)

pub returns-in-Present-clause-idle : goal.returns-in-Present-clause-idle
returns-in-Present-clause-idle g c = λ honest none. c.find.ensures.reads.only.state honest

pub returns-in-Different-clause-changes : goal.returns-in-Different-clause-changes
returns-in-Different-clause-changes g c =
    reads_changes g.T.Keeps g.D.Device _ _ _ _ _ (reads_on c.find.ensures.reads FileDiffers)

pub returns-in-Different-clause-idle : goal.returns-in-Different-clause-idle
returns-in-Different-clause-idle g c = λ honest none. c.find.ensures.reads.only.state honest

pub returns-in-Input-clause-changes : goal.returns-in-Input-clause-changes
returns-in-Input-clause-changes g c =
    reads_changes g.T.Keeps g.D.Device _ _ _ _ _ (reads_on c.find.ensures.reads SuccessAbsent)

pub returns-in-Input-clause-idle : goal.returns-in-Input-clause-idle
returns-in-Input-clause-idle g c = λ honest none. c.find.ensures.reads.only.state honest

pub returns-then-not-select-clause-changes : goal.returns-then-not-select-clause-changes
returns-then-not-select-clause-changes g c =
    reads_changes g.T.Keeps g.D.Device _ _ _ _ _ (reads_on c.find.ensures.reads FileMissing)

pub returns-then-not-select-clause-idle : goal.returns-then-not-select-clause-idle
returns-then-not-select-clause-idle g c = λ honest none. c.find.ensures.reads.only.state honest

pub open_new-requires-in-Absent-clause-device : goal.open_new-requires-in-Absent-clause-device
open_new-requires-in-Absent-clause-device g c =
    omega (arith, c.requires.device, c.find.ensures.reads.needs, c.find.ensures.reads.only.sectors)

pub returns-in_default-mode-clause-changes : goal.returns-in_default-mode-clause-changes
returns-in_default-mode-clause-changes g c = changes_after c.find.ensures.reads c.open_new-in-Absent.ensures.changes

pub returns-in_default-mode-clause-step : goal.returns-in_default-mode-clause-step
returns-in_default-mode-clause-step g c = λ files stands bytes number.
    let s = c.args.select.now in
    let l = connector_of (spec_of s.file) c.args.link.now in
    let none = absent_is _ (spec_of s.file) (sym c.in-Absent.is ∙ c.in_ok-there.ensures.presence files stands) in
    made_ends s files l (area bytes number) c.args.mode SuccessAbsent _ c.open_new-in-Absent.result
    (absent_step s files l (area bytes number) c.args.mode c.in_default.not-Output c.in_default-mode.not-Input none
    c.if-not-select.false) c.open_new-in-Absent.ensures.status c.open_new-in-Absent.ensures.connector

pub returns-in_default-mode-clause-turns : goal.returns-in_default-mode-clause-turns
returns-in_default-mode-clause-turns g c = λ files stands bytes number.
    let s = c.args.select.now in
    let l = connector_of (spec_of s.file) c.args.link.now in
    let none = absent_is _ (spec_of s.file) (sym c.in-Absent.is ∙ c.in_ok-there.ensures.presence files stands) in
    let same = ap (λ (t : Step). t.files) (absent_step s files l (area bytes number) c.args.mode c.in_default.not-Output
    c.in_default-mode.not-Input none c.if-not-select.false) in
    subst
    (λ (after : Files). ChangesFiles g.T.Keeps g.D.Device c.open_new-in-Absent.result true s.file.name.items files after
    c.args.store.now c.args.device.now c.open_new-in-Absent.new.store c.open_new-in-Absent.new.device) (sym same)
    (after_reads g.T.Keeps g.D.Device c.find.result c.args.store.now c.args.device.now c.find.new.self c.find.new.device
    c.find.ensures.reads c.open_new-in-Absent.result true s.file.name.items files _ c.open_new-in-Absent.new.store
    c.open_new-in-Absent.new.device stands.honest
    (c.open_new-in-Absent.ensures.turns files (c.find.ensures.reads.still_there files stands)))

pub returns-in_default-mode-clause-linked : goal.returns-in_default-mode-clause-linked
returns-in_default-mode-clause-linked g c = λ files stands bytes number.
    let s = c.args.select.now in
    let l = connector_of (spec_of s.file) c.args.link.now in
    let none = absent_is _ (spec_of s.file) (sym c.in-Absent.is ∙ c.in_ok-there.ensures.presence files stands) in
    let same = ap (λ (t : Step). t.files) (absent_step s files l (area bytes number) c.args.mode c.in_default.not-Output
    c.in_default-mode.not-Input none c.if-not-select.false) in
    on_ok c.open_new-in-Absent.result
    (λ linked. inr (subst (λ (f : Files). IsLinked f s c.open_new-in-Absent.new.link) (sym same) (linked files)))
    c.open_new-in-Absent.ensures.linked

pub returns-in_default-mode-clause-full : goal.returns-in_default-mode-clause-full
returns-in_default-mode-clause-full g c = λ files stands bytes number is.
    let s = c.args.select.now in
    let none = absent_is _ (spec_of s.file) (sym c.in-Absent.is ∙ c.in_ok-there.ensures.presence files stands) in
    absent_changes s files (connector_of (spec_of s.file) c.args.link.now) (area bytes number) c.args.mode
    c.in_default.not-Output c.in_default-mode.not-Input none c.if-not-select.false

pub returns-in_default-mode-clause-never_full : goal.returns-in_default-mode-clause-never_full
returns-in_default-mode-clause-never_full g c = λ none.
    let change = absent_can_change c.args.mode c.in_default.not-Output c.in_default-mode.not-Input in
    (λ is. never_both change none, λ is. never_both change none)

pub returns-in_default-mode-clause-idle : goal.returns-in_default-mode-clause-idle
returns-in_default-mode-clause-idle g c = λ honest. idle_never _ c.args.mode SuccessAbsent c.open_new-in-Absent.result
    (makes_absent c.args.mode c.in_default.not-Output c.in_default-mode.not-Input) c.open_new-in-Absent.ensures.status

pub returns-in_default-mode-clause-rests : goal.returns-in_default-mode-clause-rests
returns-in_default-mode-clause-rests g c =
    err_map c.open_new-in-Absent.result (λ spent. inl spent) c.open_new-in-Absent.ensures.spends

pub returns-in-Present-clause-full : goal.returns-in-Present-clause-full
returns-in-Present-clause-full g c = λ files stands bytes number lacking.
    ⊎_elim (λ is. never_refused is) (λ is. never_refused is) lacking

pub returns-in-Present-clause-never_full : goal.returns-in-Present-clause-never_full
returns-in-Present-clause-never_full g c = λ none. (λ is. never_refused is, λ is. never_refused is)

pub returns-in-Different-clause-full : goal.returns-in-Different-clause-full
returns-in-Different-clause-full g c = λ files stands bytes number lacking.
    ⊎_elim (λ is. never_refused is) (λ is. never_refused is) lacking

pub returns-in-Different-clause-never_full : goal.returns-in-Different-clause-never_full
returns-in-Different-clause-never_full g c = λ none. (λ is. never_refused is, λ is. never_refused is)

pub returns-then-not-select-clause-full : goal.returns-then-not-select-clause-full
returns-then-not-select-clause-full g c = λ files stands bytes number lacking.
    ⊎_elim (λ is. never_refused is) (λ is. never_refused is) lacking

pub returns-then-not-select-clause-never_full : goal.returns-then-not-select-clause-never_full
returns-then-not-select-clause-never_full g c = λ none. (λ is. never_refused is, λ is. never_refused is)

pub returns-in-Input-clause-full : goal.returns-in-Input-clause-full
returns-in-Input-clause-full g c = λ files stands bytes number lacking.
    ⊎_elim (λ is. never_refused is) (λ is. never_refused is) lacking

pub returns-in-Input-clause-never_full : goal.returns-in-Input-clause-never_full
returns-in-Input-clause-never_full g c = λ none. (λ is. never_refused is, λ is. never_refused is)

pub returns-in_err-there-clause-step : goal.returns-in_err-there-clause-step
returns-in_err-there-clause-step g c = λ files stands bytes number.
    no_answer _ _ c.from_residual.result c.from_residual.ensures.1

pub returns-in_err-there-clause-linked : goal.returns-in_err-there-clause-linked
returns-in_err-there-clause-linked g c = λ files stands bytes number.
    none_on _ c.from_residual.result c.in_err-there.field-0.0 c.from_residual.ensures.1

pub returns-in_err-there-clause-idle : goal.returns-in_err-there-clause-idle
returns-in_err-there-clause-idle g c = λ honest. no_answer _ _ c.from_residual.result c.from_residual.ensures.1

pub returns-in_err-there-clause-same : goal.returns-in_err-there-clause-same
returns-in_err-there-clause-same g c = err_any c.from_residual.result refl
