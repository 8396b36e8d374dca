use Rattle.std.proofs.Common.{◌<◌, ◌∙◌, length, set, ap}
use Rattle.pages.specs.Runs.{used_flags}
use Rattle.pages.proofs.Runs.{marked_set, read_few, read_some, use_set}
use Rattle.pages.proofs.sector_use.SectorUse.set.Goals as goal

pub turned_count-requires-clause-few : goal.turned_count-requires-clause-few
turned_count-requires-clause-few c =
    let bytes = c.self.inside.used.items in
    let low : c.args.sector < length (used_flags bytes) = rw c.self.view_is c.requires in
    read_few bytes c.self.inside.unused.items c.self.invariant c.args.sector c.index.result.now c.index-2.result.now low
    c.index.ensures c.index-2.ensures

pub turned_count-requires-clause-some : goal.turned_count-requires-clause-some
turned_count-requires-clause-some c =
    let bytes = c.self.inside.used.items in
    let low : c.args.sector < length (used_flags bytes) = rw c.self.view_is c.requires in
    read_some bytes c.self.inside.unused.items c.self.invariant c.args.sector c.index.result.now c.index-2.result.now
    low c.index.ensures c.index-2.ensures

pub invariant_of-self : goal.invariant_of-self
invariant_of-self c =
    let bytes = c.self.inside.used.items in
    let low : c.args.sector < length (used_flags bytes) = rw c.self.view_is c.requires in
    use_set bytes c.self.inside.unused.items c.self.invariant c.args.sector c.index.result.now c.index-2.result.now
    low c.index.ensures c.index-2.ensures c.turned_count.result c.from.result c.args.used c.from.ensures
    c.turned_count.ensures

pub returns : goal.returns
returns c =
    marked_set c.self.inside.used.items c.args.sector c.from.result c.args.used c.from.ensures
    ∙ ap (λ used. set used c.args.sector c.args.used) c.self.view_is
