-- The words that begin clauses, and those that name a usage or a position of the sign.
use Rattle.std.specs.Prelude.{Bool, List, [], ◌∷◌, Option, None, Some, is_some}
use Rattle.tokens.specs.declared.reserved.Reserved.{Reserved}
use Rattle.tokens.specs.declared.reserved.Reserved.TheVariants as w
use Rattle.tokens.specs.declared.token.Kind.{Kind}
use Rattle.tokens.specs.declared.token.Kind.TheVariants as k
use Rattle.tokens.specs.declared.token.Token.{Token}
use Rattle.source_tree.specs.declared.entry.UsageClause.{UsageClause}
use Rattle.source_tree.specs.declared.entry.UsageClause.TheVariants as usage
use Rattle.source_tree.specs.declared.entry.SignPosition.{SignPosition}
use Rattle.source_tree.specs.declared.entry.SignPosition.TheVariants as position
use Rattle.data_division.specs.declared.clause.ClauseKind.{ClauseKind}
use Rattle.data_division.specs.declared.clause.ClauseKind.TheVariants as kind

-- the usage that a word stands for: COMP is BINARY, and COMP-3 PACKED-DECIMAL (own choice)
abbrev pub usage_of : Reserved → Option UsageClause
usage_of w.Display = Some usage.Display
usage_of w.Comp = Some usage.Binary
usage_of w.Computational = Some usage.Binary
usage_of w.Binary = Some usage.Binary
usage_of w.PackedDecimal = Some usage.PackedDecimal
usage_of w.Comp3 = Some usage.PackedDecimal
usage_of w.Computational3 = Some usage.PackedDecimal
usage_of _ = None

abbrev pub position_of : Reserved → Option SignPosition
position_of w.Leading = Some position.Leading
position_of w.Trailing = Some position.Trailing
position_of _ = None

-- the clause that a word begins: no word begins two
abbrev pub clause_of : Reserved → Option ClauseKind
clause_of w.Redefines = Some kind.Redefines
clause_of w.Pic = Some kind.Picture
clause_of w.Picture = Some kind.Picture
clause_of w.Usage = Some kind.Usage
clause_of w.Display = Some kind.Usage
clause_of w.Comp = Some kind.Usage
clause_of w.Computational = Some kind.Usage
clause_of w.Binary = Some kind.Usage
clause_of w.PackedDecimal = Some kind.Usage
clause_of w.Comp3 = Some kind.Usage
clause_of w.Computational3 = Some kind.Usage
clause_of w.Sign = Some kind.Sign
clause_of w.Leading = Some kind.Sign
clause_of w.Trailing = Some kind.Sign
clause_of w.Occurs = Some kind.Occurs
clause_of w.Sync = Some kind.Synchronized
clause_of w.Synchronized = Some kind.Synchronized
clause_of w.Just = Some kind.Justified
clause_of w.Justified = Some kind.Justified
clause_of w.Blank = Some kind.BlankWhenZero
clause_of w.Value = Some kind.Value
clause_of _ = None

abbrev pub usage_by : Kind → Option UsageClause
usage_by (k.Reserved one) = usage_of one
usage_by _ = None

abbrev pub usage_in : Token → Option UsageClause
usage_in one = usage_by one.kind

abbrev pub position_by : Kind → Option SignPosition
position_by (k.Reserved one) = position_of one
position_by _ = None

abbrev pub position_in : Token → Option SignPosition
position_in one = position_by one.kind

abbrev pub clause_in : Kind → Option ClauseKind
clause_in (k.Reserved one) = clause_of one
clause_in _ = None

-- the clause that begins with the first token
abbrev pub clause_at : List Token → Option ClauseKind
clause_at [] = None
clause_at (first ∷ more) = clause_in first.kind

abbrev pub begins_clause : List Token → Bool
begins_clause i = is_some (clause_at i)
