use Rattle.std.proofs.Common.{List, take, get_or, subst}
use Rattle.std.proofs.lemmas.List.{take_all}
use Rattle.std.proofs.lemmas.List.Elements.{All-more}
use Rattle.text_ops.specs.declared.progress.Progress.{Progress}
use Rattle.text_ops.specs.Beginnings.{Skips, AreMarked}
use Rattle.text_ops.proofs.beginnings.beginnings.Goals as goal

pub loop-progress-preserved : goal.loop-progress-preserved
loop-progress-preserved c =
    let active = c.args.active.now in
    let at = c.loop-progress.progress-index in
    let P : Progress → Type 0 = λ p. Skips c.args.texts.now c.mark.new.marks p.entry in
    All-more P active at _ c.loop-progress-test.true (λ k d h.
    c.mark.ensures.others (get_or (take at active) k d).entry (c.loop-progress.invariant k d h)) c.mark.ensures.own

pub returns : goal.returns
returns c =
    let whole = take_all c.loop-progress.progress-index c.args.active.now c.loop-progress-test.false in
    subst (λ (active : List Progress). AreMarked c.args.texts.now c.loop-progress.marks active) whole
    c.loop-progress.invariant
