use Rattle.std.proofs.Common.{refl, ap, ◌∙◌}
use Rattle.std.proofs.lemmas.List.{take_all}
use Rattle.source_tree.specs.declared.select.Select.{Select}
use Rattle.source_tree.specs.FileRules.{select_names}
use Rattle.declarations.proofs.GivenNames.{named_more}
use Rattle.declarations.proofs.file_names.select_names.Goals as goal

pub loop-one-preserved : goal.loop-one-preserved
loop-one-preserved c =
    named_more (λ (one : Select). one.name) c.args.selects.now c.loop-one.one-index c.one-item.result
    c.loop-one.names.items c.push.new.self.items _ c.loop-one-test.true c.one-item.is refl c.in_ok-push.ensures.items
    c.loop-one.invariant

pub returns : goal.returns
returns c =
    c.loop-one.invariant ∙ ap select_names (take_all c.loop-one.one-index c.args.selects.now c.loop-one-test.false)
