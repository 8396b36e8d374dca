use Rattle.std.proofs.Common.{length, arith}
use Rattle.tokens.specs.declared.context.Context.TheVariants as context
use Rattle.tokens.specs.Scanning.{tokens}
use Rattle.tokens.proofs.Relation.{only, answered_within}
use Rattle.tokens.proofs.Refused.{refused_only, refused_within}
use Rattle.tokens.proofs.law.laws.Goals as goal

pub returns-clause-answered : goal.returns-clause-answered
unfolding tokens
returns-clause-answered c characters found is =
    answered_within (length characters) context.Apart 0 characters found (omega arith) is

pub returns-clause-only : goal.returns-clause-only
unfolding tokens
returns-clause-only c characters found are = only are

pub returns-clause-refused : goal.returns-clause-refused
unfolding tokens
returns-clause-refused c characters fault is =
    refused_within (length characters) context.Apart 0 characters fault (omega arith) is

pub returns-clause-refused_only : goal.returns-clause-refused_only
unfolding tokens
returns-clause-refused_only c characters fault refuses = refused_only 0 refuses
