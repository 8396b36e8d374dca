use Rattle.std.proofs.Common.{inr, ⊎_elim, sym, ap, subst, ◌∙◌}
use Rattle.roots.specs.Reading.{roots_in}
use Rattle.pages.specs.Layout.{known_families}
use Rattle.pages.specs.Pages.{committed_of}
use Rattle.pages.proofs.Roots.{behind}
use Rattle.file_recovery.proofs.Foreign.{half_is_foreign}
use Rattle.file_recovery.proofs.Reopened.{same_present}
use Rattle.volume_commands.specs.Faults.{IsReadFailure, IsReadError}
use Rattle.volume_commands.proofs.States.{trees_states, only_opened, only_refused, read_cause, read_error}
use Rattle.volume_commands.proofs.volume_state.read_state.Goals as goal

pub returns-in-Ok-clause-only : goal.returns-in-Ok-clause-only
returns-in-Ok-clause-only g c =
    let of = c.in-Ok.ensures in
    only_opened g.D.Device _ _ c.args.device.now c.open.new.device c.read_trees.new.device of.honest of.sectors
    of.failures of.state c.read_trees.ensures.only

pub returns-in-Ok-clause-state : goal.returns-in-Ok-clause-state
returns-in-Ok-clause-state g c = λ honest files holds.
    let d = g.D.Device in
    let old = c.args.device.now in
    let image = (d.state old).disk.present in
    let same = same_present (d.state old) (d.state c.open.new.device) (inr (c.in-Ok.ensures.state honest)) in
    ⊎_elim
    (λ trees. trees_states image (d.state c.open.new.device).disk.present c.read_trees.result
    (committed_of c.in-Ok.store.pages) c.free_sectors.result same
    (c.in-Ok.ensures.stands honest files trees).represents.agrees.committed.reads
    (c.free_sectors.ensures c.in-Ok.ensures.ready.0)
    (c.read_trees.ensures.state (c.in-Ok.ensures.honest.0 honest)))
    (λ half. absurd (c.in-Ok.ensures.foreign honest (half_is_foreign image files half))) holds

pub returns-in-Ok-clause-opens : goal.returns-in-Ok-clause-opens
returns-in-Ok-clause-opens g c = λ honest files holds.
    let d = g.D.Device in
    let image = (d.state c.args.device.now).disk.present in
    let same =
    same_present (d.state c.args.device.now) (d.state c.open.new.device) (inr (c.in-Ok.ensures.state honest)) in
    ⊎_elim
    (λ trees.
    let own = behind image trees.1.0.root trees.1.1.root in
    c.read_trees.ensures.opens (c.in-Ok.ensures.honest.0 honest) own.roots
    (ap (roots_in known_families) same ∙ own.reads))
    (λ half. absurd (c.in-Ok.ensures.foreign honest (half_is_foreign image files half)))
    holds

pub returns-in_default : goal.returns-in_default
returns-in_default g c =
    let of = c.in-Err.ensures in
    record {
      only = only_refused g.D.Device _ _ c.in-Err.fault c.of.result c.args.device.now c.open.new.device c.of.ensures
          of.honest of.sectors of.failures of.unwritten;
      moments = of.moments;
      unwritten = of.unwritten;
      state = λ honest files holds. tt;
      opens = λ honest files holds. subst IsReadFailure (sym c.of.ensures) (read_cause c.in-Err.fault
          (⊎_elim (of.opens honest files)
          (λ half. ⊎_elim (λ layout. absurd (c.in_default.not-Layout layout)) (λ cause. cause)
          (of.foreign honest (half_is_foreign (g.D.Device.state c.args.device.now).disk.present files half))) holds));
      cause = subst IsReadError (sym c.of.ensures) (read_error c.in-Err.fault);
    }
