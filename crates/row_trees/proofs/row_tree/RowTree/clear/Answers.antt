use Rattle.std.proofs.Common.{List, ℕ, [], sym, subst, ◌∙◌, arith}
use Rattle.btree.specs.Changes.{pages_of_map}
use Rattle.btree.specs.Moves.{Moves}
use Rattle.btree.proofs.Clearing.{moves_none}
use Rattle.row_trees.proofs.Among.{alone, chained, viewed, same_chained, stands_among, stored_in}
use Rattle.row_trees.proofs.Calling.{edits_where, edits_last, refused_by_call}
use Rattle.row_trees.proofs.Forms.{no_chains}
use Rattle.row_trees.proofs.Passing.{on_ok, on_err}
use Rattle.row_trees.proofs.ReleasedRows.{clears_tree, cleared_never}
use Rattle.row_trees.proofs.Releasing.{all_gone}
use Rattle.row_trees.proofs.Short.{never_among}
use Rattle.row_trees.proofs.row_tree.RowTree.clear.Goals as goal

-- The tree has its records itself.
pub returns-then-self-eq0-clause-cleared : goal.returns-then-self-eq0-clause-cleared
returns-then-self-eq0-clause-cleared g c = λ honest agrees left right entries is.
    let image = (g.D.Device.state c.args.device.now).disk.present in
    let before = pages_of_map c.args.pages.now image in
    let view = chained c.self.inside.tree c.self.inside.record_bytes in
    let own = viewed before left right view _ entries c.self.view_is is in
    let stands = stands_among before left right view entries own in
    on_ok c.clear.result _ _ (all_gone before before (pages_of_map c.clear.new.pages image) left right view entries own
    (subst (λ (l : List ℕ). Moves before l before [])
    (sym (no_chains view.record_bytes before (stored_in view own.planted.levels) c.if-self-eq0.true))
    (moves_none before))) (c.clear.ensures.cleared honest agrees own.planted.levels stands.tree)

pub returns-then-self-eq0-clause-damaged : goal.returns-then-self-eq0-clause-damaged
returns-then-self-eq0-clause-damaged g c =
    never_among g.D.Device c.self.view_is c.clear.ensures.damaged (λ told. told)

pub returns-then-self-eq0-clause-same : goal.returns-then-self-eq0-clause-same
returns-then-self-eq0-clause-same g c =
    on_err c.clear.result _ _ (λ same. same_chained _ _ c.self.inside.record_bytes _ same c.self.view_is)
    c.clear.ensures.same

-- A chain was not released.
pub returns-in_err-release_chains-clause-edits : goal.returns-in_err-release_chains-clause-edits
returns-in_err-release_chains-clause-edits g c =
    edits_where g.D.Device _ _ _ _ _ _ (refused_by_call c.in_err-release_chains.was c.from_residual.ensures.1)
    c.release_chains.ensures.edits

pub returns-in_err-release_chains-clause-damaged : goal.returns-in_err-release_chains-clause-damaged
returns-in_err-release_chains-clause-damaged g c = λ honest agrees left right entries is told.
    let image = (g.D.Device.state c.args.device.now).disk.present in
    let before = pages_of_map c.args.pages.now image in
    let view = chained c.self.inside.tree c.self.inside.record_bytes in
    let own = viewed before left right view _ entries c.self.view_is is in
    c.release_chains.ensures.damaged honest agrees own.planted (alone before left right view entries own)
    (refused_by_call c.in_err-release_chains.was c.from_residual.ensures.1 told)

-- All chains were.
pub returns-clause-edits : goal.returns-clause-edits
returns-clause-edits g c =
    edits_last g.D.Device _ _ _ _ _ _ _ _ _ (λ is. is) c.release_chains.ensures.edits c.clear-2.ensures.edits

pub returns-clause-cleared : goal.returns-clause-cleared
returns-clause-cleared g c =
    clears_tree g.D.Device c.clear-2.new.pages _ c.release_chains.ensures.edits c.in_ok-release_chains.ensures.released
    c.self.view_is
    c.clear-2.ensures.cleared

pub returns-clause-damaged : goal.returns-clause-damaged
returns-clause-damaged g c =
    cleared_never g.D.Device c.release_chains.ensures.edits c.in_ok-release_chains.ensures.released c.self.view_is
    c.clear-2.ensures.damaged (λ refused. refused)

pub returns-clause-filled : goal.returns-clause-filled
returns-clause-filled g c =
    let one = c.release_chains.ensures.filled in
    let two = c.clear-2.ensures.filled in
    omega (arith, one, two)

pub returns-clause-same : goal.returns-clause-same
returns-clause-same g c =
    on_err c.clear-2.result _ _ (λ same. same_chained _ _ c.self.inside.record_bytes _ same c.self.view_is)
    c.clear-2.ensures.same

pub returns-clause-spent : goal.returns-clause-spent
returns-clause-spent g c = λ is.
    sym c.release_chains.ensures.edits.committed.spent ∙ (c.clear-2.ensures.spent is).0
