use Rattle.std.proofs.Common.{arith}
use Rattle.std.proofs.lemmas.List.{length-map}
use Rattle.pages.specs.declared.change.Change.{Change}
use Rattle.pages.proofs.Crowded.{crowded}
use Rattle.pages.proofs.laws.few_free.Goals as goal

pub returns : goal.returns
returns c = λ p unspent each. omega (
  arith,
  crowded p.volume p.changes.items (p.ready unspent).sound each,
  length-map p.changes.items (λ (x : Change). x.page),
)
