use Rattle.std.proofs.Common.{arith}
use Rattle.std.proofs.lemmas.List.{length-map}
use Rattle.pages.specs.Image.{page_at, pages_in}
use Rattle.pages.proofs.Edits.{length-applied}
use Rattle.pages.proofs.Bounds as bounds
use Rattle.pages.proofs.laws.map_bounds.Goals as goal

pub returns-clause-held : goal.returns-clause-held
returns-clause-held c = bounds.map_bounds

pub returns-clause-open : goal.returns-clause-open
returns-clause-open c = λ p image unspent.
    let sound = (p.ready unspent).sound in (
      sound.generation,
      omega (
        arith,
        length-applied (λ bytes. bytes) (pages_in image p.volume.table) p.changes.items,
        length-map p.volume.table (page_at image),
        sound.count,
        sound.maps_count,
        sound.most,
      ),
    )
