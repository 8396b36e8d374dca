-- A source text has at most one tree, and an image at most one code and one run. What the stages promise comes as
-- premises.
use Rattle.std.proofs.Common.{◌≡◌, ℕ, List, subst}
use Rattle.tokens.specs.declared.token.Token.{Token}
use Rattle.source_tree.specs.declared.program.Program.{Program}
use Rattle.source_tree.specs.Given.{RunInput}
use Rattle.source_tree.specs.Meaning.{Run}
use Rattle.statements.specs.Spelling.{max_nesting}
use Rattle.divisions.specs.Spelling.{SpellsProgram}
use Rattle.code_image.specs.declared.code.Code.{Code}
use Rattle.code_image.specs.Table.{Runs}
use Rattle.compiler.specs.Trees.{IsTreeOf}
use Rattle.compiler.specs.Images.{HasRun}
use Rattle.compiler.proofs.Stages.{OneFormat, OneScan, spelled_by}
use Rattle.compiler.proofs.Images.{OneSpelling, one_code}

-- what `one_tree` says
abbrev pub OneTree : Type 0
OneTree = (depth depth' : ℕ) (tree tree' : Program) (found : List Token) → SpellsProgram depth tree found
    → SpellsProgram depth' tree' found → tree ≡ tree'

pub one_tree : OneFormat → OneScan → OneTree → (source : List ℕ) (tree other : Program) → IsTreeOf source tree
    → IsTreeOf source other → tree ≡ other
one_tree format scan spelling source tree other a b =
    let other_read = b.read in
    spelling max_nesting max_nesting tree other other_read.tokens
    (spelled_by format scan source tree a.read other_read.characters other_read.tokens (format source
    other_read.characters other_read.format) (scan other_read.characters other_read.tokens other_read.scanned))
    other_read.spelled

-- an image has one run with what it is given
pub one_run : OneSpelling
    → ((code : Code) (given : RunInput) (run other : Run) → Runs code given run → Runs code given other → run ≡ other)
    → (image : List ℕ) (given : RunInput) (run other : Run) → HasRun image given run → HasRun image given other
    → run ≡ other
one_run spelt law image given run other a b =
    law b.code given run other (subst (λ c. Runs c given run) (one_code spelt image a.code b.code a.is b.is) a.runs)
    b.runs
