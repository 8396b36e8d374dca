-- Relational operators by themselves: what is read is spelled, and what is spelled is read.
use Rattle.std.proofs.Common.{◌≡◌, Bool, true, false, if◌then◌else◌, List, Ok, inl, inr, refl, ap, ◌∙◌, subst}
use Rattle.tokens.specs.declared.reserved.Reserved.TheVariants as w
use Rattle.tokens.specs.declared.token.Token.{Token}
use Rattle.source_tree.specs.declared.condition.RelationalOperator.{RelationalOperator}
use Rattle.grammar.specs.declared.fault.Halt.{Halt}
use Rattle.grammar.specs.Reading.{refuse, past_word}
use Rattle.grammar.proofs.Outcomes.{Reached, step, unstep, value, last}
use Rattle.grammar.proofs.Lists.{Sound, Complete, Shrinks}
use Rattle.conditions.specs.declared.asked.Test.TheVariants as test
use Rattle.conditions.specs.declared.asked.Asked.{Asked}
use Rattle.conditions.specs.declared.asked.Asked.TheVariants as asked_as
use Rattle.conditions.specs.Tests.{asked_reader}
use Rattle.conditions.specs.Relations.{relational_operator, is_relation, begins_relation, relation_asked}
use Rattle.conditions.specs.Relations.{some_relation_reader, relation_reader}
use Rattle.conditions.proofs.Exact.Tests.{asked_sound, asked_complete, asked_shrinks, seen}

taken : (one : Asked) (x : RelationalOperator) (i middle rest : List Token) → asked_reader i ≡ Ok (one, middle)
    → relation_asked one middle ≡ Ok (x, rest) → relational_operator x i rest
taken (asked_as.Relation one) x i middle rest is e =
    subst (λ y. relational_operator y i rest) (value e) (asked_sound (asked_as.Relation one) i rest (last is e))
taken (asked_as.Sign negated one) x i middle rest is e = cc
taken (asked_as.Class negated one) x i middle rest is e = cc

pub relation_sound : Sound relational_operator relation_reader
unfolding relation_reader some_relation_reader
relation_sound x i rest e = go (begins_relation i) e
  where
    go : (b : Bool) → (if b then some_relation_reader i else refuse (past_word w.Not (past_word w.Is i))) ≡ Ok (x, rest)
        → relational_operator x i rest
    go true e = unstep (asked_reader i) _ e (λ one middle is e1. taken one x i middle rest is e1)
    go false e = cc

relation_begins : (x : RelationalOperator) (i rest : List Token) → relational_operator x i rest
    → begins_relation i ≡ true
relation_begins x i rest (i1, before, inl told) =
    ap is_relation (seen x.negated (test.Symbol x.relation) i i1 rest before told)
relation_begins x i rest (i1, before, inr (inl (order, equal, as_order, (i2, told, others)))) =
    ap is_relation (seen x.negated (test.Order order) i i1 i2 before told)
relation_begins x i rest (i1, before, inr (inr (as_equal, (i2, told, to)))) =
    ap is_relation (seen x.negated test.Equal i i1 i2 before told)

pub relation_complete : {Allowed : Halt → Type 0} → Complete Allowed relational_operator relation_reader
unfolding relation_reader some_relation_reader
relation_complete x i rest s =
    rw (relation_begins x i rest s)
    (step (asked_reader i) _ (asked_complete (asked_as.Relation x) i rest s) (Reached refl))

pub relation_shrinks : Shrinks relational_operator
relation_shrinks x i rest s = asked_shrinks (asked_as.Relation x) i rest s
