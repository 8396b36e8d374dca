use Rattle.decimal18.proofs.ProductLaws.{product_cut}
use Rattle.decimal18.proofs.laws.exact.Goals as goal

pub returns-clause-cut : goal.returns-clause-cut
returns-clause-cut c = product_cut
