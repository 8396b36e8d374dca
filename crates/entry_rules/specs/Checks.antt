-- What a check answers of rules that are looked for in order: the first one that is broken, or that none is.
use Rattle.std.specs.Prelude.{◌≡◌, ℕ, List, [], Option, Some, None, Result, Ok, Err}
use Rattle.source_tree.specs.Broken.{RuleBreach}
use Rattle.source_tree.specs.LookUp.{first}
use Rattle.entry_rules.specs.declared.rule.Rule.{Rule}
use Rattle.entry_rules.specs.declared.rule.Rule.TheVariants as rule
use Rattle.entry_rules.specs.declared.rule.BrokenRule.{BrokenRule}
use Rattle.entry_rules.specs.declared.rule.CheckError.{CheckError}
use Rattle.entry_rules.specs.declared.rule.CheckError.TheVariants.{Memory, Refused}

abbrev pub number_of : Rule → ℕ
number_of rule.NumericLiteral = 17
number_of rule.NonnumericLiteral = 18
number_of rule.UnknownName = 40
number_of rule.AmbiguousName = 41
number_of rule.GivenTwice = 42
number_of rule.LevelOrder = 43
number_of rule.Clause = 44
number_of rule.Picture = 45
number_of rule.Redefinition = 46
number_of rule.Value = 47
number_of rule.Size = 48
number_of rule.Move = 49
number_of rule.Subscripts = 50
number_of rule.Number = 51
number_of rule.Comparison = 52
number_of rule.Object = 53
number_of rule.Recursion = 54
number_of rule.Range = 55
number_of rule.NoProcedure = 56
number_of rule.UnmatchedFile = 57
number_of rule.FileKey = 58
number_of rule.FileStatus = 59
number_of rule.RelativeKey = 60
number_of rule.FileStatement = 61
number_of rule.FilePhrase = 62
number_of rule.StartKey = 63
number_of rule.InspectOperand = 64
number_of rule.StringOperand = 65
number_of rule.AssignedName = 66
number_of rule.AllLiteral = 67
number_of rule.NoCondition = 68
number_of rule.Limit = 69
number_of rule.Part = 75

abbrev pub broken_of : BrokenRule → RuleBreach
broken_of one = record { rule = number_of one.rule; place = one.place }

abbrev pub fault_of : CheckError → Option RuleBreach
fault_of Memory = None
fault_of (Refused one) = Some (broken_of one)

-- A check that takes no memory: none of the rules is broken, or this is the first that is.
abbrev pub IsFirstBreach : {A : Type 0} → Result A BrokenRule → List RuleBreach → Type 0
IsFirstBreach (Ok value) rules = rules ≡ []
IsFirstBreach (Err one) rules = first rules ≡ Some (broken_of one)

abbrev pub IsFirst : Option RuleBreach → List RuleBreach → Type 0
IsFirst None rules = Unit {0}
IsFirst (Some one) rules = first rules ≡ Some one

-- The same of a check that may be out of memory, of which the rules say nothing.
abbrev pub IsFirstFault : {A : Type 0} → Result A CheckError → List RuleBreach → Type 0
IsFirstFault (Ok value) rules = rules ≡ []
IsFirstFault (Err e) rules = IsFirst (fault_of e) rules
