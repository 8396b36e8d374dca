use Rattle.std.proofs.Common.{rules}
use Rattle.pages.proofs.Formatted.{spells_empty}
use Rattle.pages.proofs.empty.empty_root.Goals as goal

pub returns : goal.returns
returns c = spells_empty c.args.sectors c.map_count_of.result c.root_bytes_with.result c.requires.most
    c.map_count_of.ensures (search rules)
