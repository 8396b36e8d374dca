use Rattle.std.proofs.Common.{◌≤◌, ℕ, List, [], ◌∷◌, length, refl, arith}
use Rattle.std.proofs.lemmas.List.{nil_from_length}
use Rattle.station.specs.Disk.{Sector}
use Rattle.btree.specs.Tree.{fewest}
use Rattle.btree.specs.Moves.{ReplacesNodes}
use Rattle.btree.specs.Propagates.{node_with}
use Rattle.btree.specs.Changes.{pages_of_map, IsIn}
use Rattle.btree.proofs.Writes.{write_one, is_low, spells_node}
use Rattle.btree.proofs.Lessening.{write_none, enough_left, true_or_false}
use Rattle.std.specs.Prelude.{IfErr, Err}
use Rattle.std.proofs.Common.{◌≡◌, true}
use Rattle.pages.specs.Pages.{is_spent, changed_pages_of, filled_of}
use Rattle.pages.specs.declared.error.PagesError.TheVariants.{Spent}
use Rattle.btree.specs.Refusals.{IsPutRefusal}
use Rattle.btree.proofs.Passing.{passed, never_ok, still_error, if_refused}
use Rattle.btree.proofs.Clearing.{keeps_still}
use Rattle.btree.proofs.Passing.{edit_is_put}
use Rattle.btree.proofs.Passing.{few_none, one_spare}
use Rattle.btree.proofs.ChangedPages.{changes_count}
use Rattle.btree.proofs.shrink_page.write_back.Goals as goal
use Rattle.btree.proofs.shrink_page.write_back.Goals.{In_ok-edit}

pub returns-then-count-eq0-clause-pages : goal.returns-then-count-eq0-clause-pages
returns-then-count-eq0-clause-pages c = λ image old is_in keeps.
    let pages = pages_of_map c.args.pages.now image in (
      write_none c.args.node.layout c.args.node.kind pages (pages_of_map c.release.new.self image) c.args.page old
          (c.in_ok-release.ensures.map image) (is_low pages c.args.page is_in),
      nil_from_length c.args.node.rows (omega arith),
    )

written : (c : In_ok-edit) (image : List Sector) (old : List (List ℕ))
    → IsIn (pages_of_map c.args.pages.now image) c.args.page
    → ReplacesNodes c.args.node.layout c.args.node.kind (pages_of_map c.args.pages.now image)
    (node_with c.args.page old ∷ []) (pages_of_map c.edit.new.self image) (node_with c.args.page c.args.node.rows ∷ [])
written c image old is_in =
    let node = c.args.node in
    let pages = pages_of_map c.args.pages.now image in
    let enough : fewest node.kind ≤ length node.rows = enough_left node.layout node.kind (length node.rows)
    (λ none. omega arith) (λ short. true_or_false (c.is_short.ensures.1 short) c.if-is_short.false) in
    write_one node.layout node.kind pages (pages_of_map c.edit.new.self image) c.args.page c.bytes-spelled.result old
    node.rows (c.in_ok-edit.ensures.map image) (is_low pages c.args.page is_in)
    (spells_node node node c.bytes-spelled.result (record { layout = refl; kind = refl }) c.bytes-spelled.ensures.reads
    c.count-count.ensures.node.lengths enough)

pub returns-then-keeps_least-clause-pages : goal.returns-then-keeps_least-clause-pages
returns-then-keeps_least-clause-pages c = λ image old is_in keeps. (
  written (goal.at.returns-then-keeps_least-clause-pages c).In_ok-edit image old is_in,
  keeps c.if-keeps_least.true,
  λ short. true_or_false (c.is_short.ensures.1 short) c.if-is_short.false,
)

pub returns-clause-pages : goal.returns-clause-pages
returns-clause-pages c = λ image old is_in keeps. (
  written (goal.at.returns-clause-pages c).In_ok-edit image old is_in,
  refl,
  refl,
  λ short. true_or_false (c.is_short.ensures.1 short) c.if-is_short.false,
)

pub returns-in_err-release-clause-spent : goal.returns-in_err-release-clause-spent
returns-in_err-release-clause-spent c =
    passed c.from_residual.result c.in_err-release.field-0.0 c.from_residual.ensures.1
    (λ r. r ≡ Err Spent → is_spent c.args.pages.now ≡ true)
    (λ is. c.in_err-release.ensures.spent.0 (still_error is))

pub returns-in_err-edit-clause-spent : goal.returns-in_err-edit-clause-spent
returns-in_err-edit-clause-spent c =
    passed c.from_residual-in_err-edit.result c.in_err-edit.field-0.0 c.from_residual-in_err-edit.ensures.1
    (λ r. r ≡ Err Spent → is_spent c.args.pages.now ≡ true)
    (λ is. c.in_err-edit.ensures.spent.0 (still_error is))

pub returns-then-count-eq0-clause-spent : goal.returns-then-count-eq0-clause-spent
returns-then-count-eq0-clause-spent c = λ is. never_ok is

pub returns-then-is_short-clause-spent : goal.returns-then-is_short-clause-spent
returns-then-is_short-clause-spent c = λ is. never_ok is

pub returns-then-keeps_least-clause-spent : goal.returns-then-keeps_least-clause-spent
returns-then-keeps_least-clause-spent c = λ is. never_ok is

pub returns-clause-spent : goal.returns-clause-spent
returns-clause-spent c = λ is. never_ok is

pub returns-in_err-release-clause-cause : goal.returns-in_err-release-clause-cause
returns-in_err-release-clause-cause c =
    passed c.from_residual.result c.in_err-release.field-0.0 c.from_residual.ensures.1
    (λ r. IfErr r IsPutRefusal)
    (edit_is_put c.in_err-release.field-0.0 c.in_err-release.ensures.cause)

pub returns-in_err-edit-clause-cause : goal.returns-in_err-edit-clause-cause
returns-in_err-edit-clause-cause c =
    passed c.from_residual-in_err-edit.result c.in_err-edit.field-0.0 c.from_residual-in_err-edit.ensures.1
    (λ r. IfErr r IsPutRefusal)
    (edit_is_put c.in_err-edit.field-0.0 c.in_err-edit.ensures.cause)

pub returns-then-count-eq0-clause-changed_pages : goal.returns-then-count-eq0-clause-changed_pages
returns-then-count-eq0-clause-changed_pages c =
    few_none (length (changed_pages_of c.args.pages.now)) (length (changed_pages_of c.release.new.self)) 1
    (changes_count (changed_pages_of c.args.pages.now) c.args.page (changed_pages_of c.release.new.self)
    c.in_ok-release.ensures.changes_page)

pub returns-then-keeps_least-clause-changed_pages : goal.returns-then-keeps_least-clause-changed_pages
returns-then-keeps_least-clause-changed_pages c =
    few_none (length (changed_pages_of c.args.pages.now)) (length (changed_pages_of c.edit.new.self)) 1
    (changes_count (changed_pages_of c.args.pages.now) c.args.page (changed_pages_of c.edit.new.self)
    c.in_ok-edit.ensures.changes_page)

pub returns-clause-changed_pages : goal.returns-clause-changed_pages
returns-clause-changed_pages c =
    few_none (length (changed_pages_of c.args.pages.now)) (length (changed_pages_of c.edit.new.self)) 1
    (changes_count (changed_pages_of c.args.pages.now) c.args.page (changed_pages_of c.edit.new.self)
    c.in_ok-edit.ensures.changes_page)

pub returns-then-keeps_least-clause-filled : goal.returns-then-keeps_least-clause-filled
returns-then-keeps_least-clause-filled c =
    few_none (filled_of c.args.pages.now) (filled_of c.edit.new.self) 1 c.edit.ensures.filled

pub returns-clause-filled : goal.returns-clause-filled
returns-clause-filled c = few_none (filled_of c.args.pages.now) (filled_of c.edit.new.self) 1 c.edit.ensures.filled

pub returns-in_err-release-clause-pages : goal.returns-in_err-release-clause-pages
returns-in_err-release-clause-pages c =
    if_refused c.from_residual.result c.in_err-release.field-0.0 c.from_residual.ensures.1 _

pub returns-in_err-release-clause-fits : goal.returns-in_err-release-clause-fits
returns-in_err-release-clause-fits c =
    if_refused c.from_residual.result c.in_err-release.field-0.0 c.from_residual.ensures.1 _

pub returns-in_err-release-clause-changed_pages : goal.returns-in_err-release-clause-changed_pages
returns-in_err-release-clause-changed_pages c =
    if_refused c.from_residual.result c.in_err-release.field-0.0 c.from_residual.ensures.1 _

pub returns-in_err-release-clause-filled : goal.returns-in_err-release-clause-filled
returns-in_err-release-clause-filled c =
    if_refused c.from_residual.result c.in_err-release.field-0.0 c.from_residual.ensures.1 _

pub returns-in_err-edit-clause-pages : goal.returns-in_err-edit-clause-pages
returns-in_err-edit-clause-pages c =
    if_refused c.from_residual-in_err-edit.result c.in_err-edit.field-0.0 c.from_residual-in_err-edit.ensures.1 _

pub returns-in_err-edit-clause-fits : goal.returns-in_err-edit-clause-fits
returns-in_err-edit-clause-fits c =
    if_refused c.from_residual-in_err-edit.result c.in_err-edit.field-0.0 c.from_residual-in_err-edit.ensures.1 _

pub returns-in_err-edit-clause-changed_pages : goal.returns-in_err-edit-clause-changed_pages
returns-in_err-edit-clause-changed_pages c =
    if_refused c.from_residual-in_err-edit.result c.in_err-edit.field-0.0 c.from_residual-in_err-edit.ensures.1 _

pub returns-in_err-edit-clause-filled : goal.returns-in_err-edit-clause-filled
returns-in_err-edit-clause-filled c =
    if_refused c.from_residual-in_err-edit.result c.in_err-edit.field-0.0 c.from_residual-in_err-edit.ensures.1 _

pub returns-then-is_short-clause-keeps : goal.returns-then-is_short-clause-keeps
returns-then-is_short-clause-keeps c = keeps_still c.args.pages.now

pub returns-then-count-eq0-clause-filled : goal.returns-then-count-eq0-clause-filled
returns-then-count-eq0-clause-filled c = few_none (filled_of c.args.pages.now) (filled_of c.release.new.self) 1
    (omega (arith, c.release.ensures.filled))

pub returns-then-is_short-clause-changed_pages : goal.returns-then-is_short-clause-changed_pages
returns-then-is_short-clause-changed_pages c = one_spare (length (changed_pages_of c.args.pages.now))

pub returns-then-is_short-clause-filled : goal.returns-then-is_short-clause-filled
returns-then-is_short-clause-filled c = one_spare (filled_of c.args.pages.now)
