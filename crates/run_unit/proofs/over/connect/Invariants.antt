use Rattle.std.proofs.Common.{◌≡◌, take}
use Rattle.station.specs.Disk.{Disk}
use Rattle.records.specs.Files.{Files}
use Rattle.file_verbs.specs.contracts.connectors.ConnectorsKeeps.TheImpl as keeps
use Rattle.file_verbs.specs.contracts.connectors.ConnectorsFileVerbs.TheImpl as verbs
use Rattle.file_image.specs.Files.{entries_of}
use Rattle.run_unit.proofs.Connecting.{closed_ones}
use Rattle.run_unit.proofs.over.connect.Given as goal

-- the connectors so far are to the files so far
abbrev pub invariant-loop-file : goal.invariant-loop-file
invariant-loop-file g l =
    let kept = keeps.ghosts g.row.T g.T.Store g.T.Store-dict g.T.Keeps g.T.Keeps-dict in
    let files = verbs.ghosts g.row.T g.T.Store g.T.Store-dict g.T.Keeps g.T.Keeps-dict in
    record {
      entries : files.entries l.connectors ≡ entries_of l.code.tables (take l.file-index l.file-items);
      connectors : files.connectors l.connectors ≡ closed_ones (take l.file-index l.file-items);
      needs : kept.needs l.connectors ≡ g.T.Keeps.needs l.fn.store;
      spent : kept.is_spent l.connectors ≡ g.T.Keeps.is_spent l.fn.store;
      stands : (disk : Disk) (files : Files) → g.T.Keeps.stands l.fn.store disk files
          → kept.stands l.connectors disk files;
    }
