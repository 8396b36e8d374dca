use Rattle.pages.proofs.Tables.{map_none}
use Rattle.pages.proofs.reading.read_map.Goals as goal

pub returns-then-sector-eq0-clause-entries : goal.returns-then-sector-eq0-clause-entries
returns-then-sector-eq0-clause-entries g c =
    λ honest. map_none (g.D.Device.state c.args.device.now).disk.present c.args.sector c.if-sector-eq0.true
