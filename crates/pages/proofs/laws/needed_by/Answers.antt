use Rattle.std.proofs.Common.{inl, inr, ⊎_elim, arith}
use Rattle.std.proofs.lemmas.List.{length-map}
use Rattle.pages.specs.declared.change.Change.{Change}
use Rattle.pages.specs.Pages.{committed_of}
use Rattle.pages.proofs.Filling.{needed_le, filled_le}
use Rattle.pages.proofs.laws.needed_by.Goals as goal

pub returns-clause-needed : goal.returns-clause-needed
returns-clause-needed c = λ p unspent. (
  omega (arith, needed_le (committed_of p) p.changes.items, (p.ready unspent).sound.maps_count),
  omega (arith, filled_le p.changes.items, length-map p.changes.items (λ (x : Change). x.page)),
)

pub returns-clause-short : goal.returns-clause-short
returns-clause-short c = λ p unspent full.
    ⊎_elim
    (λ few. inl (omega (arith, few, needed_le (committed_of p) p.changes.items, (p.ready unspent).sound.maps_count)))
    (λ last. inr last) full.1
