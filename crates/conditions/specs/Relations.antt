-- Relational operators by themselves, as after KEY of START: their rule, and how they are read.
use Rattle.std.specs.Prelude.{if◌then◌else◌, Bool, true, false, List, Option, Some}
use Rattle.tokens.specs.declared.reserved.Reserved.TheVariants as w
use Rattle.tokens.specs.declared.token.Token.{Token}
use Rattle.source_tree.specs.declared.condition.RelationalOperator.{RelationalOperator}
use Rattle.grammar.specs.Parts.{Part}
use Rattle.grammar.specs.Reading.{Parser, ◌>>=◌, pure, refuse, past_word}
use Rattle.conditions.specs.declared.asked.Test.{Test}
use Rattle.conditions.specs.declared.asked.Test.TheVariants as test
use Rattle.conditions.specs.declared.asked.Asked.{Asked}
use Rattle.conditions.specs.declared.asked.Asked.TheVariants as asked_as
use Rattle.conditions.specs.Tests.{test_phrase, asked_reader, next_test}

-- [IS] [NOT] rel
abbrev pub relational_operator : RelationalOperator → Part
relational_operator one = test_phrase (asked_as.Relation one)

abbrev pub is_relation : Option Test → Bool
is_relation (Some (test.Symbol one)) = true
is_relation (Some (test.Order one)) = true
is_relation (Some test.Equal) = true
is_relation _ = false

abbrev pub begins_relation : List Token → Bool
begins_relation i = is_relation (next_test i)

-- the operator that is asked for
abbrev pub relation_asked : Asked → Parser RelationalOperator
relation_asked (asked_as.Relation one) = pure one
relation_asked _ = refuse

unfoldable pub some_relation_reader : Parser RelationalOperator
some_relation_reader = asked_reader >>= relation_asked

-- another word is refused where it stands
unfoldable pub relation_reader : Parser RelationalOperator
relation_reader i = if begins_relation i then some_relation_reader i else refuse (past_word w.Not (past_word w.Is i))
