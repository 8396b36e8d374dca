use Rattle.btree.specs.Changes.{pages_of_map}
use Rattle.pages.specs.Pages.{page_count}
use Rattle.btree.proofs.Lessening.{has_room, true_or_false}
use Rattle.btree.proofs.Revalued.{put_revalued}
use Rattle.btree.proofs.replace.put_rest.Goals as goal

pub returns-then-not-is_page-clause-damaged : goal.returns-then-not-is_page-clause-damaged
returns-then-not-is_page-clause-damaged c = λ is image some is_in.
    true_or_false (c.is_page.ensures.is.1 (has_room (pages_of_map c.args.pages.now image) (page_count c.args.pages.now)
    c.args.page (c.is_page.ensures.count image) some is_in)) c.if-not-is_page.true

pub returns-clause-pages : goal.returns-clause-pages
returns-clause-pages c = λ image can.
    put_revalued (pages_of_map c.args.pages.now image) (pages_of_map c.put_back.new.pages image) c.args.page c.args.node
    c.set_rest.new.self c.args.place c.args.rest.now c.in_ok-_put._put
    c.requires.place c.requires.rest can c.set_rest.ensures (c.in_ok-_put.ensures.pages image) c.in_ok-_put.ensures.is
