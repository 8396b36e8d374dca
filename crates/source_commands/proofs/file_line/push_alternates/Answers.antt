use Rattle.std.proofs.Common.{false, ◌∙◌, ◌++◌, ap, get_or}
use Rattle.records.specs.declared.file_spec.AlternateKey.{AlternateKey}
use Rattle.source_commands.specs.Layout.{alternate_text}
use Rattle.source_commands.proofs.Lines.{one_more}
use Rattle.source_commands.proofs.file_line.push_alternates.Goals as goal

pub loop-one-preserved : goal.loop-one-preserved
loop-one-preserved c =
    let none : AlternateKey = record { place = record { offset = 0; length = 0 }; duplicates = false } in
    c.in_ok-push_alternate.ensures
    ∙ ap (λ l. l ++ alternate_text (get_or c.args.alternates.now c.loop-one.one-index none)) c.loop-one.invariant
    ∙ one_more alternate_text c.args.out.now.items c.args.alternates.now c.loop-one.one-index none c.loop-one-test.true
