use Rattle.std.proofs.Common.{ap, subst, ◌∙◌}
use Rattle.std.specs.Prelude.{is_some}
use Rattle.station.proofs.TwoPhase.{on_ok}
use Rattle.pages.specs.Volumes.{PlacesBlock}
use Rattle.pages.proofs.Drafts.{page_drafted, release_drafted}
use Rattle.pages.proofs.Taking.{page_counted, release_counted, full_count}
use Rattle.pages.proofs.stage.stage_change.Goals as goal

pub returns-in_ok-sector-in-Some-clause-staged : goal.returns-in_ok-sector-in-Some-clause-staged
returns-in_ok-sector-in-Some-clause-staged c = λ v changes some draft.
    on_ok c.set_page.result (λ sets. page_drafted v c.args.volume.now c.args.draft.now changes draft c.args.change.now
    some c.requires.page c.requires.changed_maps c.in-Some.bytes c.place_block.new.draft c.set_page.new.draft
    c.set_page.new.volume c.in_ok-sector-in-Some.sector
    c.in-Some.is (subst
    (PlacesBlock c.args.volume.now.used c.args.draft.now c.place_block.new.draft c.in_ok-sector-in-Some.sector)
    (c.borrowed-bytes.ensures ∙ c.view.ensures) c.in_ok-sector-in-Some.ensures.placed) sets) c.set_page.ensures.set

pub returns-in-None-clause-staged : goal.returns-in-None-clause-staged
returns-in-None-clause-staged c = λ v changes some draft.
    on_ok c.release_page.result (λ releases. release_drafted v c.args.volume.now c.args.draft.now changes draft
    c.args.change.now some c.requires.page c.requires.changed_maps c.release_page.new.draft c.release_page.new.volume
    c.in-None.is releases) c.release_page.ensures.released

pub returns-in_ok-sector-in-Some-clause-counted : goal.returns-in_ok-sector-in-Some-clause-counted
returns-in_ok-sector-in-Some-clause-counted c = λ v changes maps away counted.
    on_ok c.set_page.result (λ sets. page_counted v c.args.volume.now c.args.draft.now changes maps counted
    c.args.change.now away c.requires.changed_maps c.in-Some.bytes c.place_block.new.draft c.set_page.new.draft
    c.set_page.new.volume c.in_ok-sector-in-Some.sector
    c.in-Some.is (subst
    (PlacesBlock c.args.volume.now.used c.args.draft.now c.place_block.new.draft c.in_ok-sector-in-Some.sector)
    (c.borrowed-bytes.ensures ∙ c.view.ensures) c.in_ok-sector-in-Some.ensures.placed) sets) c.set_page.ensures.set

pub returns-in-None-clause-counted : goal.returns-in-None-clause-counted
returns-in-None-clause-counted c = λ v changes maps away counted.
    on_ok c.release_page.result (λ releases. release_counted v c.args.volume.now c.args.draft.now changes maps counted
    c.args.change.now away c.requires.changed_maps c.release_page.new.draft c.release_page.new.volume c.in-None.is
    releases) c.release_page.ensures.released

pub returns-in_err-sector-in-Some-clause-full : goal.returns-in_err-sector-in-Some-clause-full
returns-in_err-sector-in-Some-clause-full c = λ v changes maps counted full.
    let told = rw full at c.from_residual.ensures.1 in (
      ap is_some c.in-Some.is,
      full_count v c.args.volume.now c.args.draft.now changes maps counted
          (c.in_err-sector-in-Some.ensures.full (cc (told))),
    )
