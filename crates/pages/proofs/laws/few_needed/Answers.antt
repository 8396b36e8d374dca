use Rattle.std.proofs.Common.{arith}
use Rattle.std.proofs.lemmas.List.{length-map}
use Rattle.pages.specs.declared.change.Change.{Change}
use Rattle.pages.specs.Pages.{committed_of}
use Rattle.pages.proofs.Taking.{few_needed_lem}
use Rattle.pages.proofs.laws.few_needed.Goals as goal

pub returns : goal.returns
returns c = λ p.
    omega (arith, few_needed_lem (committed_of p) p.changes.items, length-map p.changes.items (λ (x : Change). x.page))
