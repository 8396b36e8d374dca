use Rattle.std.proofs.Common.{◌∙◌, ℕ, List, ap}
use Rattle.pages.specs.Image.{map_part}
use Rattle.pages.proofs.Spellings.{map_reads}
use Rattle.pages.proofs.table.SectorTable.map_bytes.Goals as goal

pub returns-clause-reads : goal.returns-clause-reads
returns-clause-reads c =
    map_reads c.self.inside.sectors.items c.self.inside.maps.items c.args.map c.index.result.now c.self.invariant
    (rw c.self.view_is c.requires) c.index.ensures
    ∙ ap (λ (sectors : List ℕ). map_part sectors c.args.map) c.self.view_is
