use Rattle.half_store.proofs.checking.are_half_files.Goals as goal

pub returns-then-not-are_short-clause-no : goal.returns-then-not-are_short-clause-no
returns-then-not-are_short-clause-no c = λ is good. c.are_short.ensures.no c.if-not-are_short.true good.short

pub returns-clause-yes : goal.returns-clause-yes
returns-clause-yes c = λ is.
    let yes = c.are_files.ensures.yes is in
    record { sound = yes.0; early = yes.1; short = c.are_short.ensures.yes c.if-not-are_short.false }

pub returns-clause-no : goal.returns-clause-no
returns-clause-no c = λ is good. c.are_files.ensures.no is good.sound good.early
