use Rattle.std.proofs.Common.{sym, ap, ◌∙◌, arith}
use Rattle.pages.specs.Layout.{version_of}
use Rattle.alternate_keys.proofs.creating.is_too_long.Goals as goal

pub returns-in-First-clause-yes : goal.returns-in-First-clause-yes
returns-in-First-clause-yes c = λ is. (ap version_of c.in-First.is, sym c.is_long.ensures ∙ is)

pub returns-in-First-clause-no : goal.returns-in-First-clause-no
returns-in-First-clause-no c = λ is first. sym c.is_long.ensures ∙ is

pub returns-in-Second-clause-no : goal.returns-in-Second-clause-no
returns-in-Second-clause-no c = λ is first. let second = ap version_of c.in-Second.is in
    absurd (omega (arith, second, first))
