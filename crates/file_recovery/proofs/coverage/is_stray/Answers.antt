use Rattle.std.proofs.Common.{sym, ◌∙◌}
use Rattle.pages.specs.Pages.{map_now, page_of}
use Rattle.file_recovery.proofs.Strays.{some_used, none_used}
use Rattle.file_recovery.proofs.coverage.is_stray.Goals as goal

pub returns-then-is_marked-clause-no : goal.returns-then-is_marked-clause-no
returns-then-is_marked-clause-no c = λ is image used. sym c.is_marked.ensures ∙ c.if-is_marked.true

pub returns-clause-yes : goal.returns-clause-yes
returns-clause-yes c = λ is image. (
  some_used (page_of (map_now c.args.pages.now image) c.args.page) (sym (c.has_page.ensures image) ∙ is),
  sym c.is_marked.ensures ∙ c.if-is_marked.false,
)

pub returns-clause-no : goal.returns-clause-no
returns-clause-no c = λ is image used.
    none_used (page_of (map_now c.args.pages.now image) c.args.page) (sym (c.has_page.ensures image) ∙ is) used
