use Rattle.std.proofs.Common.{◌≡◌, None, Some, sym, ◌∙◌, rules, arith}
use Rattle.std.proofs.lemmas.Grind.{common_steps}
use Rattle.data_division.specs.Forms.{first_formless}
use Rattle.data_division.proofs.Formless.{formless_here, formless_later, formless_nowhere}
use Rattle.data_division.proofs.forms.formless_file.Goals as goal

pub returns-in-Some : goal.returns-in-Some
returns-in-Some c =
    let here : Some c.in-Some.place ≡ first_formless c.file-item.result.entries =
    first_of (search rules, grind (arith, common_steps)) in
    sym (c.loop-file.invariant ∙ formless_here c.args.files.now c.loop-file.file-index c.file-item.result
    c.in-Some.place c.loop-file-test.true c.file-item.is here)

pub loop-file-preserved : goal.loop-file-preserved
loop-file-preserved c =
    let none : None ≡ first_formless c.file-item.result.entries =
    first_of (search rules, grind (arith, common_steps)) in
    c.loop-file.invariant ∙ formless_later c.args.files.now c.loop-file.file-index c.file-item.result
    c.loop-file-test.true c.file-item.is none

pub returns : goal.returns
returns c =
    sym (c.loop-file.invariant ∙ formless_nowhere c.args.files.now c.loop-file.file-index c.loop-file-test.false)
