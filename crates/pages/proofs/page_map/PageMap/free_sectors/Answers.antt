use Rattle.std.proofs.Common.{◌∙◌}
use Rattle.pages.specs.Image.{names}
use Rattle.pages.specs.Pages.{committed_of}
use Rattle.pages.proofs.Counted.{counted}
use Rattle.pages.proofs.page_map.PageMap.free_sectors.Goals as goal

pub returns : goal.returns
returns c = λ is.
    let sound = (c.args.self.now.ready is).sound in
    sound.free ∙ counted c.args.self.now.volume.sectors (names (committed_of c.args.self.now))
    c.args.self.now.volume.used sound.in_use
