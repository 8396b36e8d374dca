use Rattle.source_advice.proofs.Explaining.{ended_advice}
use Rattle.source_advice.proofs.token_causes.advise.Goals as goal

pub returns-clause-number : goal.returns-clause-number
returns-clause-number c =
    ended_advice c.args.number c.in_ok-advice.advice c.end_line.new.self c.end_line.ensures.message
    c.in_ok-end_line.ensures.cure c.in_ok-advice.ensures
