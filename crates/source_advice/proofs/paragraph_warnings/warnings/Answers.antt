use Rattle.std.proofs.Common.{List, All, IfSome, subst, sym}
use Rattle.std.proofs.lemmas.List.Elements.{All-push}
use Rattle.source_advice.specs.Advice.{HasLines}
use Rattle.source_advice.specs.declared.paragraph_warnings.Warning.{Warning}
use Rattle.source_advice.proofs.paragraph_warnings.warnings.Goals as goal
use Rattle.source_advice.proofs.paragraph_warnings.warnings.Goals.{in-Some+in_ok-push, in_default-2}

pub loop-number-preserved : goal.loop-number-preserved
loop-number-preserved c =
    let P : Warning → Type 0 = λ one. HasLines one.advice in
    let found : List Warning = c.loop-number.found.items in
    elim c.match-branch-2.branch [
      | in-Some+in_ok-push w ↦
          let has : P w.in-Some.warning = subst (λ f. IfSome f P) w.in-Some.is c.in_ok-warning.ensures in
          rw w.found-is (subst (λ l. All P l) (sym w.in_ok-push.ensures.items)
          (All-push P found w.in-Some.warning c.loop-number.invariant has))
      | in_default-2 w ↦ rw w.found-is c.loop-number.invariant
    ]
