use Rattle.std.proofs.Common.{◌+◌, drop, ap, sym, ◌∙◌, arith}
use Rattle.std.proofs.lemmas.List.{drop_all}
use Rattle.source_tree.specs.ProgramFiles.{described_file}
use Rattle.file_descriptions.proofs.FoundDescription.{rest_at, is_this, this_kept, compared, described_later}
use Rattle.file_descriptions.proofs.description.described.Goals as goal

pub returns-then-eq : goal.returns-then-eq
returns-then-eq c =
    let files = c.args.files.now in
    let name = c.args.name.now in
    let i = c.loop-file.file-index in
    let area = c.loop-file.area in
    let one = c.file-item.result in
    let rest = rest_at files i one c.loop-file-test.true c.file-item.is in
    let alike = compared name one.name _ _ c.eq.result c.as_slice.ensures c.as_slice-in-loop-file.ensures c.eq.ensures
    ∙ c.if-eq.true in (
      sym c.loop-file.invariant.same ∙ is_this area name (drop i files) (drop (i + 1) files) one rest alike,
      this_kept area name (drop i files) (drop (i + 1) files) one rest c.loop-file.invariant.rules,
    )

pub loop-file-preserved : goal.loop-file-preserved
loop-file-preserved c =
    let name = c.args.name.now in
    let one = c.file-item.result in
    let is = c.loop-file.invariant.area_is in
    let other = compared name one.name _ _ c.eq.result c.as_slice.ensures c.as_slice-in-loop-file.ensures c.eq.ensures
    ∙ c.if-eq.false in
    let later = described_later c.args.files.now c.loop-file.file-index c.loop-file.area name one _
    c.loop-file-test.true c.file-item.is other c.loop-file.invariant.rules c.loop-file.invariant.same in
    record { area_is = omega arith; rules = later.0; same = later.1 }

pub returns : goal.returns
returns c =
    sym c.loop-file.invariant.same
    ∙ ap (described_file c.loop-file.area c.args.name.now) (let past =
    c.loop-file-test.false in drop_all c.loop-file.file-index c.args.files.now past)
