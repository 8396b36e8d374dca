-- The tree of a source text.
use Rattle.std.specs.Prelude.{◌≡◌, ℕ, List, []}
use Rattle.source_lines.specs.declared.lines.Character.{Character}
use Rattle.source_lines.specs.Format.{HasCharacters}
use Rattle.tokens.specs.declared.token.Token.{Token}
use Rattle.tokens.specs.Tokens.{TokensOf}
use Rattle.source_tree.specs.declared.program.Program.{Program}
use Rattle.source_tree.specs.Broken.{RuleBreach}
use Rattle.source_tree.specs.Recursion.{HasOrder}
use Rattle.source_tree.specs.Rules.{program_rules}
use Rattle.statements.specs.Spelling.{max_nesting}
use Rattle.data_division.specs.Forms.{HasForms, program_entries}
use Rattle.divisions.specs.Spelling.{SpellsProgram}

-- the rules that the tree breaks, in the order in which they are looked for
unfoldable pub broken_rules : Program → List RuleBreach
broken_rules tree = program_rules tree

-- The tree spells the tokens that the characters of the source text have. Its statements nest at most 64 deep, and each of its
-- pictures has a form.
pub record IsReadFrom (source : List ℕ) (tree : Program) : Type 0 where
  pub characters : List Character
  pub tokens : List Token
  pub format : HasCharacters source characters
  pub scanned : TokensOf characters tokens
  pub spelled : SpellsProgram max_nesting tree tokens
  pub formed : HasForms (program_entries tree)

-- And it keeps the rules, and none of its PERFORMs leads back to the paragraph that it stands in.
pub record IsTreeOf (source : List ℕ) (tree : Program) : Type 0 where
  pub read : IsReadFrom source tree
  pub kept : broken_rules tree ≡ []
  pub order : HasOrder tree

-- a source text with a tree
abbrev pub HasTree : List ℕ → Type 0
HasTree source = (tree : Program) × IsTreeOf source tree

-- where it is the text of a program without files
abbrev pub IfTextWithoutFiles : List ℕ → Type 0 → Type 0
IfTextWithoutFiles source claim = (tree : Program) → IsTreeOf source tree → tree.selects ≡ [] → claim
