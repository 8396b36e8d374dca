-- The statements in a statement are less deep than it.
use Rattle.std.proofs.Common.{◌≡◌, ◌<◌, rules}
use denote.Param.Weighed.{most}
use Rattle.source_tree.specs.declared.statement.Statement.{Statement, out-Statement, the_lemmas}
use Rattle.source_tree.proofs.statement.Statement.TheLaws.{the_size}
use Rattle.check_rules.specs.declared.inner_statements.InnerStatements.{InnerStatements}
use Rattle.check_rules.specs.InnerStatements.{inner_lists, lists_in}

module _ (one : Statement) (inner : InnerStatements Statement)
    (is : lists_in inner ≡ inner_lists (out-Statement one).verb)
  where
    pub first_falls : most the_size inner.first.now < the_size one
    first_falls = search (rules, the_lemmas)

    pub second_falls : most the_size inner.second.now < the_size one
    second_falls = search (rules, the_lemmas)
