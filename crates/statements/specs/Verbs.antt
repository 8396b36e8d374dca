-- The verbs that begin statements.
use Rattle.std.specs.Prelude.{Bool, List, [], ◌∷◌, Option, None, Some, is_some}
use Rattle.tokens.specs.declared.reserved.Reserved.{Reserved}
use Rattle.tokens.specs.declared.reserved.Reserved.TheVariants as w
use Rattle.tokens.specs.declared.token.Kind.{Kind}
use Rattle.tokens.specs.declared.token.Kind.TheVariants as k
use Rattle.tokens.specs.declared.token.Token.{Token}
use Rattle.statements.specs.declared.verb.ArithmeticVerb.TheVariants as a
use Rattle.statements.specs.declared.verb.FileVerb.TheVariants as f
use Rattle.statements.specs.declared.verb.VerbWord.{VerbWord}
use Rattle.statements.specs.declared.verb.VerbWord.TheVariants as v

-- the verb that a word is
abbrev pub verb_of : Reserved → Option VerbWord
verb_of w.Accept = Some v.Accept
verb_of w.Add = Some (v.Arithmetic a.Add)
verb_of w.Close = Some (v.Filing f.Close)
verb_of w.Compute = Some (v.Arithmetic a.Compute)
verb_of w.Continue = Some v.Continue
verb_of w.Delete = Some (v.Filing f.Delete)
verb_of w.Display = Some v.Display
verb_of w.Divide = Some (v.Arithmetic a.Divide)
verb_of w.Evaluate = Some v.Evaluate
verb_of w.Exit = Some v.Exit
verb_of w.If = Some v.If
verb_of w.Initialize = Some v.Initialize
verb_of w.Inspect = Some v.Inspect
verb_of w.Move = Some v.Move
verb_of w.Multiply = Some (v.Arithmetic a.Multiply)
verb_of w.Open = Some (v.Filing f.Open)
verb_of w.Perform = Some v.Perform
verb_of w.Read = Some (v.Filing f.Read)
verb_of w.Rewrite = Some (v.Filing f.Rewrite)
verb_of w.Set = Some v.Set
verb_of w.Start = Some (v.Filing f.Start)
verb_of w.Stop = Some v.Stop
verb_of w.String = Some v.String
verb_of w.Subtract = Some (v.Arithmetic a.Subtract)
verb_of w.Write = Some (v.Filing f.Write)
verb_of _ = None

abbrev pub verb_in : Kind → Option VerbWord
verb_in (k.Reserved one) = verb_of one
verb_in _ = None

-- the verb that comes first
abbrev pub verb_at : List Token → Option VerbWord
verb_at [] = None
verb_at (first ∷ more) = verb_in first.kind

-- Where a verb stands, a statement begins.
abbrev pub begins_statement : List Token → Bool
begins_statement i = is_some (verb_at i)
