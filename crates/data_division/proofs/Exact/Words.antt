-- The words that begin clauses.
use Rattle.std.proofs.Common.{◌≡◌, List, Some, refl, ap, ◌∙◌}
use Rattle.tokens.specs.declared.reserved.Reserved.{Reserved}
use Rattle.tokens.specs.declared.reserved.Reserved.TheVariants as w
use Rattle.tokens.specs.declared.token.Kind.{Kind}
use Rattle.tokens.specs.declared.token.Kind.TheVariants as k
use Rattle.tokens.specs.declared.token.Token.{Token}
use Rattle.source_tree.specs.declared.entry.UsageClause.{UsageClause}
use Rattle.source_tree.specs.declared.entry.SignPosition.{SignPosition}
use Rattle.grammar.specs.Parts.{word, token_with}
use Rattle.data_division.specs.declared.clause.ClauseKind.TheVariants as kind
use Rattle.data_division.specs.Words.{usage_of, usage_by, usage_in, position_of, position_by, position_in, clause_of}
use Rattle.data_division.specs.Words.{clause_in, clause_at}

pub stands : (one : Reserved) (i rest : List Token) → word one i rest → clause_at i ≡ clause_of one
stands one i rest (first, is, kind) = ap clause_at is ∙ ap clause_in kind

usage_word : (one : Reserved) (usage : UsageClause) → usage_of one ≡ Some usage → clause_of one ≡ Some kind.Usage
usage_word w.Display usage e = refl
usage_word w.Comp usage e = refl
usage_word w.Computational usage e = refl
usage_word w.Binary usage e = refl
usage_word w.PackedDecimal usage e = refl
usage_word w.Comp3 usage e = refl
usage_word w.Computational3 usage e = refl
usage_word _ usage e = cc

position_word : (one : Reserved) (position : SignPosition) → position_of one ≡ Some position
    → clause_of one ≡ Some kind.Sign
position_word w.Leading position e = refl
position_word w.Trailing position e = refl
position_word _ position e = cc

usage_kind : (one : Kind) (usage : UsageClause) → usage_by one ≡ Some usage → clause_in one ≡ Some kind.Usage
usage_kind (k.Reserved one) usage e = usage_word one usage e
usage_kind _ usage e = cc

position_kind : (one : Kind) (position : SignPosition) → position_by one ≡ Some position
    → clause_in one ≡ Some kind.Sign
position_kind (k.Reserved one) position e = position_word one position e
position_kind _ position e = cc

pub usage_stands : (usage : UsageClause) (i rest : List Token) → token_with usage_in usage i rest
    → clause_at i ≡ Some kind.Usage
usage_stands usage i rest (first, is, tell) = ap clause_at is ∙ usage_kind first.kind usage tell

pub position_stands : (position : SignPosition) (i rest : List Token) → token_with position_in position i rest
    → clause_at i ≡ Some kind.Sign
position_stands position i rest (first, is, tell) = ap clause_at is ∙ position_kind first.kind position tell
