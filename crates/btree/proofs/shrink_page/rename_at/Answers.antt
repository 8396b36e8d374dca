use Rattle.std.proofs.Common.{◌+◌, ◌∷◌, drop}
use Rattle.btree_pages.specs.declared.row_layout.Kind.TheVariants.{Inner}
use Rattle.btree.specs.Tree.{row_of}
use Rattle.btree.specs.Propagates.{node_with}
use Rattle.pages.specs.Pages.{page_count}
use Rattle.btree.specs.Changes.{pages_of_map}
use Rattle.btree.proofs.Lessening.{front_fares, renamed_rows, has_room, true_or_false}
use Rattle.std.proofs.Common.{◌≡◌, true}
use Rattle.std.specs.Prelude.{Err, IfErr}
use Rattle.pages.specs.Pages.{is_spent}
use Rattle.pages.specs.declared.error.PagesError.TheVariants.{Damaged, Spent}
use Rattle.btree.specs.Refusals.{IsRestRefusal}
use Rattle.btree.proofs.Clearing.{keeps_still}
use Rattle.btree.proofs.Passing.{passed, never_ok, still_error, if_refused, damaged_not_spent, put_is_rest}
use Rattle.btree.proofs.Passing.{put_not_damaged}
use Rattle.btree.proofs.shrink_page.rename_at.Goals as goal

pub returns-then-not-leads-clause-damaged : goal.returns-then-not-leads-clause-damaged
returns-then-not-leads-clause-damaged c = λ is image inner low some is_in.
    true_or_false (c.leads.ensures.is.1 (
      inner,
      low,
      has_room (pages_of_map c.args.pages.now image) (page_count c.args.pages.now) c.args.step.page
          (c.leads.ensures.count image) some is_in,
    )) c.if-not-leads.true

pub returns-clause-pages : goal.returns-clause-pages
returns-clause-pages c = λ image can names.
    let node = c.args.node in
    let leads = c.leads.ensures.is.0 c.if-not-leads.false in
    front_fares (pages_of_map c.args.pages.now image) (pages_of_map c.write_back.new.pages image) c.args.step.page
    c.args.step.place node c.set_key.new.self
    (row_of node.layout (node_with c.args.child.now.page c.args.child.now.node.rows)
    ∷ drop (c.args.step.place + 1) node.rows) Inner c.in_ok-outcome.outcome
    (renamed_rows node c.set_key.new.self c.args.step.place c.key.result.now
    c.args.child.now c.set_key.ensures leads.1 c.requires.layout c.key.ensures.key names) leads.0 leads.1
    (c.in_ok-outcome.ensures.pages image node.rows can.is_in)

pub returns-then-not-leads-clause-keeps : goal.returns-then-not-leads-clause-keeps
returns-then-not-leads-clause-keeps c = keeps_still c.args.pages.now

pub returns-then-not-leads-clause-spent : goal.returns-then-not-leads-clause-spent
returns-then-not-leads-clause-spent c = λ is. damaged_not_spent is

pub returns-in_err-outcome-clause-pages : goal.returns-in_err-outcome-clause-pages
returns-in_err-outcome-clause-pages c =
    if_refused c.from_residual.result c.in_err-outcome.field-0.0 c.from_residual.ensures.1 _

pub returns-in_err-outcome-clause-fits : goal.returns-in_err-outcome-clause-fits
returns-in_err-outcome-clause-fits c =
    if_refused c.from_residual.result c.in_err-outcome.field-0.0 c.from_residual.ensures.1 _

pub returns-in_err-outcome-clause-changed_pages : goal.returns-in_err-outcome-clause-changed_pages
returns-in_err-outcome-clause-changed_pages c =
    if_refused c.from_residual.result c.in_err-outcome.field-0.0 c.from_residual.ensures.1 _

pub returns-in_err-outcome-clause-filled : goal.returns-in_err-outcome-clause-filled
returns-in_err-outcome-clause-filled c =
    if_refused c.from_residual.result c.in_err-outcome.field-0.0 c.from_residual.ensures.1 _

pub returns-in_err-outcome-clause-damaged : goal.returns-in_err-outcome-clause-damaged
returns-in_err-outcome-clause-damaged c = λ is image inner low some is_in.
    passed c.from_residual.result c.in_err-outcome.field-0.0 c.from_residual.ensures.1 (λ r. r ≡ Err Damaged → ⊥)
    (λ damaged. put_not_damaged c.in_err-outcome.field-0.0 c.in_err-outcome.ensures.cause damaged) is

pub returns-in_err-outcome-clause-spent : goal.returns-in_err-outcome-clause-spent
returns-in_err-outcome-clause-spent c =
    passed c.from_residual.result c.in_err-outcome.field-0.0 c.from_residual.ensures.1
    (λ r. r ≡ Err Spent → is_spent c.args.pages.now ≡ true)
    (λ is. c.in_err-outcome.ensures.spent (still_error is))

pub returns-in_err-outcome-clause-cause : goal.returns-in_err-outcome-clause-cause
returns-in_err-outcome-clause-cause c =
    passed c.from_residual.result c.in_err-outcome.field-0.0 c.from_residual.ensures.1
    (λ r. IfErr r IsRestRefusal)
    (put_is_rest c.in_err-outcome.field-0.0 c.in_err-outcome.ensures.cause)

pub returns-clause-damaged : goal.returns-clause-damaged
returns-clause-damaged c = λ is image inner low some is_in. never_ok is

pub returns-clause-spent : goal.returns-clause-spent
returns-clause-spent c = λ is. never_ok is
