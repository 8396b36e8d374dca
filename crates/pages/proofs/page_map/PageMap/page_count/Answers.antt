use Rattle.std.proofs.Common.{◌∙◌}
use Rattle.std.proofs.lemmas.List.{length-map}
use Rattle.pages.specs.Image.{page_at, pages_in}
use Rattle.pages.proofs.Edits.{length-applied}
use Rattle.pages.proofs.page_map.PageMap.page_count.Goals as goal

pub returns-clause-pages : goal.returns-clause-pages
returns-clause-pages c = λ image.
    let p = c.args.self.now in
    length-applied (λ bytes. bytes) (pages_in image p.volume.table) p.changes.items
    ∙ length-map p.volume.table (page_at image)
