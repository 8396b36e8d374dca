use Rattle.std.proofs.Common.{◌++◌, sym, ap, ◌∙◌, append_assoc, rules}
use Rattle.picture.specs.Places.{repeated_places, symbol_places}
use Rattle.picture.proofs.Places.{repeated_next, repeated_none}
use Rattle.picture.proofs.place.push_run.Goals as goal

pub loop-time-init : goal.loop-time-init
loop-time-init c = rw (repeated_none (symbol_places c.args.by c.args.run.symbol)) (search rules)

pub loop-time-preserved : goal.loop-time-preserved
loop-time-preserved c =
    let e = c.in_ok-push_symbol.ensures in
    e ∙ ap (λ l. l ++ symbol_places c.args.by c.args.run.symbol) c.loop-time.invariant
    ∙ append_assoc c.args.places.now (repeated_places c.loop-time._time (symbol_places c.args.by c.args.run.symbol))
    (symbol_places c.args.by c.args.run.symbol)
    ∙ ap (λ l. c.args.places.now ++ l)
    (sym (repeated_next c.loop-time._time (symbol_places c.args.by c.args.run.symbol)))
