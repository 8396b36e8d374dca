use Rattle.std.proofs.Common.{length}
use Rattle.pages.specs.Pages.{changed_pages_of, filled_of}
use Rattle.btree.proofs.Passing.{few_weaker, put_so_write, put_so_not_full}
use Rattle.btree.proofs.put_row.put_row.Goals as goal

pub returns-else-is_full-clause-changed_pages : goal.returns-else-is_full-clause-changed_pages
returns-else-is_full-clause-changed_pages c = few_weaker (length (changed_pages_of c.args.pages.now))
    (length (changed_pages_of c.put_in_one.new.pages)) 1 1 c.put_in_one.ensures.changed_pages

pub returns-else-is_full-clause-filled : goal.returns-else-is_full-clause-filled
returns-else-is_full-clause-filled c =
    few_weaker (filled_of c.args.pages.now) (filled_of c.put_in_one.new.pages) 1 1 c.put_in_one.ensures.filled

pub returns-else-is_full-clause-cause : goal.returns-else-is_full-clause-cause
returns-else-is_full-clause-cause c = put_so_write c.put_in_one.result c.put_in_one.ensures.cause

pub returns-else-is_full-clause-full : goal.returns-else-is_full-clause-full
returns-else-is_full-clause-full c = λ is. put_so_not_full c.put_in_one.result c.put_in_one.ensures.cause is
