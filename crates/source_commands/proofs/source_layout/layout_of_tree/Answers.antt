use Rattle.std.proofs.Common.{◌∙◌, subst}
use Rattle.declarations.specs.Named.{Declares}
use Rattle.source_commands.proofs.Tables.{declared_table}
use Rattle.source_commands.proofs.source_layout.layout_of_tree.Goals as goal

pub returns : goal.returns
returns c =
    let declared : Declares c.args.tree.now c.declarations.result.now =
    subst (λ tree. Declares tree c.declarations.result.now) c.in_ok-checked.ensures.program
    c.declarations.ensures.program in (
      c.in_ok-checked.ensures.kept,
      c.in_ok-checked.ensures.order,
      c.in_ok-text.ensures ∙ declared_table c.args.tree.now c.declarations.result.now declared,
    )
