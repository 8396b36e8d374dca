-- The table of what a program declares.
use Rattle.std.proofs.Common.{◌≡◌, ◌∙◌, ap}
use Rattle.source_tree.specs.declared.program.Program.{Program}
use Rattle.declarations.specs.Named.{Declares}
use Rattle.declarations.specs.declared.declarations.Declarations.{Declarations}
use Rattle.source_commands.specs.Layout.{data_text, layout_text}

-- is that of the program
pub declared_table : (tree : Program) (all : Declarations) → Declares tree all
    → data_text all.selects.now all.descriptions.now all.storage.now ≡ layout_text tree
declared_table tree all declares =
    ap (λ selects. data_text selects all.descriptions.now all.storage.now) declares.selects
    ∙ ap (λ files. data_text tree.selects files all.storage.now) declares.descriptions
    ∙ ap (λ storage. data_text tree.selects tree.files storage) declares.storage
