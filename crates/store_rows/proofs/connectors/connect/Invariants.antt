use Rattle.std.proofs.Common.{◌≡◌}
use Rattle.file_verbs.specs.contracts.connectors.ConnectorsKeeps.TheImpl as keeps
use Rattle.store_rows.proofs.connectors.connect.Given as goal

-- the connectors so far need what the store needs
abbrev pub invariant-loop-select : goal.invariant-loop-select
invariant-loop-select g l =
    let kept = keeps.ghosts g.row.T g.T.Store g.T.Store-dict g.T.Keeps g.T.Keeps-dict in
    kept.needs l.all ≡ g.T.Keeps.needs l.fn.store
