use Rattle.std.proofs.Common.{◌+◌, ◌++◌, drop, sym, ap, ◌∙◌, append_assoc}
use Rattle.std.proofs.lemmas.List.{append-nil, drop_all}
use Rattle.picture.specs.declared.symbol.Symbol.TheVariants.{A}
use Rattle.picture.specs.Places.{each_place}
use Rattle.picture.proofs.Places.{rest_places, no_places}
use Rattle.picture.proofs.place.each_place.Goals as goal

pub loop-run-preserved : goal.loop-run-preserved
loop-run-preserved c =
    let r = rest_places c.args.by c.args.runs.now c.loop-run.run-index (record { symbol = A; count = 0 })
    c.loop-run-test.true in
    ap (λ l. l ++ each_place c.args.by (drop (c.loop-run.run-index + 1) c.args.runs.now)) c.in_ok-push_run.ensures
    ∙ append_assoc c.loop-run.places _ _ ∙ ap (λ l. c.loop-run.places ++ l) (sym r) ∙ c.loop-run.invariant

pub returns : goal.returns
returns c =
    sym (append-nil c.loop-run.places) ∙ sym (ap (λ l. c.loop-run.places ++ l) (ap (each_place c.args.by)
    (drop_all c.loop-run.run-index c.args.runs.now c.loop-run-test.false) ∙ no_places c.args.by))
    ∙ c.loop-run.invariant
