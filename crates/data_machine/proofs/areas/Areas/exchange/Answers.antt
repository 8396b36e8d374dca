use Rattle.std.proofs.Common.{ap, ◌∙◌, arith}
use Rattle.std.proofs.lemmas.Grind.{common_steps}
use Rattle.std.specs.Prelude.{slice_set}
use Rattle.std.proofs.lemmas.List.{map-set}
use Rattle.source_tree.specs.Storage.{Storage}
use Rattle.data_machine.proofs.areas.Areas.exchange.Goals as goal

pub returns-clause-area : goal.returns-clause-area
returns-clause-area c =
    map-set (λ v. v.items) c.self.inside.areas.items c.args.area c.swap.new.x
    ∙ ap (λ (s : Storage). slice_set s c.args.area c.swap.new.x.items) c.self.view_is
    ∙ ap (λ v. slice_set c.args.self.now c.args.area v.items) c.swap.ensures.x_after

pub returns-clause-bytes : goal.returns-clause-bytes
returns-clause-bytes c = grind (arith, common_steps)
