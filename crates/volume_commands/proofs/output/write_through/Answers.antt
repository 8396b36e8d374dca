use Rattle.std.proofs.KnownBytes.{Appends-kept}
use Rattle.volume_commands.proofs.Beginnings.{on_ok, on_err, begins_whole}
use Rattle.volume_commands.proofs.output.write_through.Goals as goal

pub returns-clause-whole : goal.returns-clause-whole
returns-clause-whole g c = on_ok _ _ (Appends-kept _ _ _ _ c.in_ok-write_text.ensures.whole c.flush.ensures.kept)

pub returns-clause-beginning : goal.returns-clause-beginning
returns-clause-beginning g c =
    on_err _ _ (begins_whole _ _ _
    (Appends-kept _ _ _ _ c.in_ok-write_text.ensures.whole c.flush.ensures.kept))
