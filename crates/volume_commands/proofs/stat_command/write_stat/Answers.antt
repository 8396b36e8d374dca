use Rattle.std.proofs.Common.{◌∙◌, ap, subst, List, ℕ, OnErr}
use Rattle.file_bytes.specs.declared.stored.StoredFile.{StoredFile}
use Rattle.file_bytes.specs.Stored.{files_of}
use Rattle.volume_commands.specs.Output.{AppendsBeginning}
use Rattle.volume_commands.specs.Stat.{stat_text}
use Rattle.volume_commands.proofs.stat_command.write_stat.Goals as goal

pub returns-clause-beginning : goal.returns-clause-beginning
returns-clause-beginning g c =
    subst (λ (l : List ℕ). OnErr c.write_through.result (AppendsBeginning
    (g.W.Write.contents c.args.out.now) (g.W.Write.contents c.write_through.new.out) l))
    (c.deref-2.ensures.value ∙ c.in_ok-text.ensures
    ∙ ap (λ (l : List StoredFile). stat_text c.args.stat.now.state (files_of l)) c.deref.ensures.value)
    c.write_through.ensures.beginning
