use Rattle.std.proofs.Common.{◌≡◌, ◌+◌, length, List, [], Ok, subst, arith, zero-add}
use Rattle.source_lines.specs.declared.lines.Character.{Character}
use Rattle.tokens.specs.declared.context.Context.TheVariants as context
use Rattle.tokens.specs.declared.token.Token.{Token}
use Rattle.tokens.specs.Scanning.{tokens}
use Rattle.tokens.specs.Tokens.{TokensOf, InOrder}
use Rattle.tokens.proofs.Relation.{longest, answered_within, in_order, placed}
use Rattle.tokens.proofs.Texts.{spelled, separated}
use Rattle.tokens.proofs.law.span_laws.Goals as goal

answers : (characters : List Character) (found : List Token) → tokens characters ≡ Ok found → TokensOf characters found
unfolding tokens
answers characters found is = answered_within (length characters) context.Apart 0 characters found (omega arith) is

pub returns-clause-spans : goal.returns-clause-spans
returns-clause-spans c characters found is =
    subst (λ n. InOrder 0 n found) (zero-add (length characters))
    (in_order 0 (omega arith) (answers characters found is))

pub returns-clause-places : goal.returns-clause-places
returns-clause-places c characters found is = let start : 0 ≡ length {A = Character} [] =
    omega arith in placed [] start (answers characters found is)

pub returns-clause-texts : goal.returns-clause-texts
returns-clause-texts c characters found is = let start : 0 ≡ length {A = Character} [] =
    omega arith in spelled [] start (answers characters found is)

pub returns-clause-separators : goal.returns-clause-separators
returns-clause-separators c characters found is =
    let start : 0 ≡ length {A = Character} [] + length {A = Character} [] =
    omega arith in separated [] [] start tt (answers characters found is)

pub returns-clause-longest : goal.returns-clause-longest
returns-clause-longest c before kind one text rest is = longest before kind one text rest is
