use Rattle.std.proofs.Common.{rules, ◌≡◌, ◌<◌, length, List, ◌∙◌, ap, arith, [], get_or, refl}
use Rattle.std.proofs.lemmas.List.{get_or_read_under}
use Rattle.station.specs.Disk.{Sector}
use Rattle.station.specs.Sectors.{all_present_after}
use Rattle.station.proofs.journal.Journal.read.Goals as goal

pub index-requires : goal.index-requires
index-requires c =
    let j = c.args.self.now in
    let within : c.args.sector < length j.present.items =
    omega (arith, ap length j.current, all_present_after j.start.items j.lines.items j.calls.items, c.requires) in
    search rules

pub returns : goal.returns
returns c =
    let j = c.args.self.now in
    let is : c.index.result.now ≡ get_or j.present.items c.args.sector [] =
    get_or_read_under j.present.items c.args.sector (length j.present.items) c.index.result.now [] c.index.ensures
    (omega (arith, ap length j.current, all_present_after j.start.items j.lines.items j.calls.items, c.requires))
    refl in
    is ∙ ap (λ (l : List Sector). get_or l c.args.sector []) j.current
