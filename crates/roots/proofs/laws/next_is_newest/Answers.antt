use Rattle.roots.proofs.Next as next
use Rattle.roots.proofs.Spelled as spelled
use Rattle.roots.proofs.laws.next_is_newest.Goals as goal

pub returns-clause-newest : goal.returns-clause-newest
returns-clause-newest c = next.next_is_newest

pub returns-clause-reads_back : goal.returns-clause-reads_back
returns-clause-reads_back c = spelled.reads_back
