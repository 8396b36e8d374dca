use Rattle.pages.specs.Pages.{changed_pages_of}
use Rattle.btree.proofs.Refused.{each_used}
use Rattle.chains.proofs.Fronts.{puts_link, changes_one}
use Rattle.chains.proofs.link.put_link.Goals as goal

pub returns-clause-pages : goal.returns-clause-pages
returns-clause-pages c =
    puts_link c.allocate_past.result c.args.pages.now c.allocate_past.new.self c.args.next c.args.part.now
    c.link-spelled.result c.page_count-page_count.ensures.pages c.allocate_past.ensures.page
    c.allocate_past.ensures.unused c.allocate_past.ensures.map c.link-spelled.ensures.bytes
    c.link-spelled.ensures.reads

pub returns-clause-changed_pages : goal.returns-clause-changed_pages
returns-clause-changed_pages c = changes_one c.allocate_past.result (changed_pages_of c.args.pages.now)
    (changed_pages_of c.allocate_past.new.self) c.allocate_past.ensures.changes_page c.allocate_past.ensures.unchanged

pub returns-clause-full : goal.returns-clause-full
returns-clause-full c = λ is.
    each_used c.args.pages.now c.allocate_past.new.self c.allocate_past.result is c.allocate_past.ensures.full
    c.allocate_past.ensures.same c.allocate_past.ensures.spent
