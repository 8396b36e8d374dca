use Rattle.std.proofs.Common.{ℕ, ◌+◌, length, drop, sym, subst}
use Rattle.std.proofs.lemmas.Result.{err_from_is_err_and}
use Rattle.source_tree.specs.Procedures.{paragraphs_or_one, procedures_from, procedures_of}
use Rattle.name_table.specs.Noting.{AreNoted}
use Rattle.name_table.proofs.Noting.{next_section, noted_all, whole_noted, given_twice}
use Rattle.name_table.proofs.procedures.procedure_names.Goals as goal

pub returns-in_err-first-clause-twice : goal.returns-in_err-first-clause-twice
returns-in_err-first-clause-twice c =
    let sections = c.args.sections.now in
    let i = c.loop-section.section-index in
    let first = c.loop-section.first in
    let one = c.section-item.result in
    let error = err_from_is_err_and c.from_residual.result c.from_residual.ensures.1 in
    rw (error.1, error.2)
    (given_twice sections c.in_err-first.field-0.0
    (c.in_err-first.ensures.noted (procedures_of sections)
    (procedures_from (first + length (paragraphs_or_one one.paragraphs)) (drop (i + 1) sections))
    (next_section (procedures_of sections) sections first i one c.loop-section.names c.loop-section-test.true
    c.section-item.is c.loop-section.invariant)))

pub loop-section-init : goal.loop-section-init
loop-section-init c = c.new-names.ensures (procedures_of c.args.sections.now)

pub loop-section-preserved : goal.loop-section-preserved
loop-section-preserved c =
    let sections = c.args.sections.now in
    let i = c.loop-section.section-index in
    let first = c.loop-section.first in
    let one = c.section-item.result in
    subst (λ (n : ℕ). AreNoted (procedures_of sections) (procedures_from n (drop (i + 1) sections))
    c.note_section.new.self) (sym c.in_ok-first.ensures.next)
    (c.in_ok-first.ensures.noted (procedures_of sections)
    (procedures_from (first + length (paragraphs_or_one one.paragraphs)) (drop (i + 1) sections))
    (next_section (procedures_of sections) sections first i one c.loop-section.names c.loop-section-test.true
    c.section-item.is c.loop-section.invariant))

pub returns-clause-procedures : goal.returns-clause-procedures
returns-clause-procedures c =
    whole_noted (procedures_of c.args.sections.now) c.loop-section.names
    (noted_all (procedures_of c.args.sections.now) c.args.sections.now c.loop-section.first
    c.loop-section.section-index c.loop-section.names c.loop-section-test.false c.loop-section.invariant)

pub returns-clause-once : goal.returns-clause-once
returns-clause-once c =
    (noted_all (procedures_of c.args.sections.now) c.args.sections.now c.loop-section.first
    c.loop-section.section-index c.loop-section.names c.loop-section-test.false c.loop-section.invariant).once
