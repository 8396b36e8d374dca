-- Ways one within the other, in code whose branches and jumps led nowhere yet.
use Rattle.std.specs.Prelude.{◌≡◌, ◌<◌, ◌≤◌, ℕ, List, [], ◌∷◌, length}
use Rattle.code_image.specs.declared.code.Code.{Code}
use Rattle.codegen.specs.declared.phrases.Way.{Way}
use Rattle.condition_codegen.specs.Fragments.{Fragment, append, sequence}
use Rattle.condition_codegen.specs.Meeting.{branch_code, jump_code}
use Rattle.condition_codegen.specs.Phrases.{patched_code}

-- of a branch, and of the other way that it leads to, in code of so many instructions
pub record IsWay (count : ℕ) (one : Way) : Type 0 where
  pub branch : one.branch < count
  pub jump : 2 ≤ one.other
  pub other : one.other ≤ count

-- The last ones meet first.
abbrev pub met_all : List Way → Code → Code
met_all [] code = code
met_all (one ∷ more) code = patched_code one.branch one.other (met_all more code)

-- What is added by a test and the first of two ways, up to where the other one begins.
abbrev pub opened_fragment : Fragment → Fragment → Fragment
opened_fragment test first = sequence test (sequence (λ now. branch_code 0) (sequence first (λ now. jump_code 0)))

pub record Opens (test first : Fragment) (before after : Code) (one : Way) : Type 0 where
  pub code : after ≡ append before (opened_fragment test first before)
  pub branch : one.branch ≡ length (append before (test before)).instructions
  pub other : one.other ≡ length after.instructions
