-- The faults of a source text, by the stage that met them.
use Rattle.std.specs.Prelude.{ℕ, Option, None, Some}
use Rattle.source_lines.specs.Faults as lines
use Rattle.source_lines.specs.declared.fault.SourceError.{SourceError}
use Rattle.source_lines.specs.declared.fault.SourceError.TheVariants as in_lines
use Rattle.tokens.specs.Faults as tokens
use Rattle.tokens.specs.declared.fault.TokenError.{TokenError}
use Rattle.tokens.specs.declared.fault.TokenError.TheVariants as in_tokens
use Rattle.divisions.specs.Faults as trees
use Rattle.divisions.specs.declared.fault.ParseError.{ParseError}
use Rattle.divisions.specs.declared.fault.ParseError.TheVariants as in_tree
use Rattle.lexical.specs.declared.place.Place.{Place}
use Rattle.source_lines.specs.declared.fault.SourceFault.{SourceFault}
use Rattle.tokens.specs.declared.fault.TokenFault.{TokenFault}
use Rattle.divisions.specs.declared.fault.ParseFault.{ParseFault}
use Rattle.source_tree.specs.Broken.{RuleBreach}
use Rattle.entry_rules.specs.Checks as rules
use Rattle.entry_rules.specs.declared.rule.CheckError.{CheckError}
use Rattle.entry_rules.specs.declared.rule.CheckError.TheVariants as in_rules
use Rattle.compiler.specs.declared.fault.CompileFault.{CompileFault}
use Rattle.compiler.specs.declared.fault.CompileFault.TheVariants.{Lines, Tokens, Tree, Rules}
use Rattle.compiler.specs.declared.fault.CompileError.{CompileError}
use Rattle.compiler.specs.declared.fault.CompileError.TheVariants.{Memory, Refused}

abbrev pub number_of : CompileFault → ℕ
number_of (Lines fault) = lines.number_of fault.kind
number_of (Tokens fault) = tokens.number_of fault.kind
number_of (Tree fault) = trees.number_of fault.kind
number_of (Rules broken) = rules.number_of broken.rule

abbrev pub place_of : CompileFault → Place
place_of (Lines fault) = fault.place
place_of (Tokens fault) = fault.place
place_of (Tree fault) = fault.place
place_of (Rules broken) = broken.place

-- What a stage says of a source text that it refuses.
pub data StageFault : Type 0 where
  OfLines : SourceFault → StageFault
  OfTokens : TokenFault → StageFault
  OfTree : ParseFault → StageFault
  OfRules : RuleBreach → StageFault

abbrev pub stage_fault : CompileFault → StageFault
stage_fault (Lines fault) = OfLines fault
stage_fault (Tokens fault) = OfTokens fault
stage_fault (Tree fault) = OfTree fault
stage_fault (Rules broken) = OfRules (rules.broken_of broken)

-- the fault of an error, or none where memory ran out
abbrev pub fault_of : CompileError → Option StageFault
fault_of Memory = None
fault_of (Refused fault) = Some (stage_fault fault)

-- the error that a stage's error becomes
abbrev pub from_lines : SourceError → CompileError
from_lines in_lines.Memory = Memory
from_lines (in_lines.Refused fault) = Refused (Lines fault)

abbrev pub from_tokens : TokenError → CompileError
from_tokens in_tokens.Memory = Memory
from_tokens (in_tokens.Refused fault) = Refused (Tokens fault)

abbrev pub from_tree : ParseError → CompileError
from_tree in_tree.Memory = Memory
from_tree (in_tree.Refused fault) = Refused (Tree fault)

abbrev pub from_rules : CheckError → CompileError
from_rules in_rules.Memory = Memory
from_rules (in_rules.Refused broken) = Refused (Rules broken)
