use Rattle.decimal18.proofs.QuotientLaws.{quotient_cut}
use Rattle.decimal18.proofs.laws.cut_quotient.Goals as goal

pub returns-clause-close : goal.returns-clause-close
returns-clause-close c = quotient_cut
