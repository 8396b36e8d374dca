use Rattle.std.proofs.Common.{sym, ap, ◌∙◌}
use Rattle.std.specs.Ordering.{is_eq}
use Rattle.std.proofs.lemmas.Map.Text.{is_eq-slice_cmp}
use Rattle.pages.specs.Pages.{map_now}
use Rattle.volume_format.proofs.Looks.{looks_blamed, looks_nowhere}
use Rattle.alternate_keys.specs.Notes.{noted_search}
use Rattle.alternate_keys.proofs.Noted.{noted_listing}
use Rattle.alternate_keys.proofs.Passing.{never_ok}
use Rattle.alternate_keys.proofs.notes.SearchNotes.note_file.Goals as goal

pub returns-then-is_eq : goal.returns-then-is_eq
returns-then-is_eq g c = record {
  looks = looks_blamed g.D.Device _ _ _ _ _ _ (λ is. never_ok is)
      (looks_nowhere g.D.Device c.args.pages.now c.args.device.now);
  listed = λ honest agrees are files holds.
      noted_listing (map_now c.args.pages.now (g.D.Device.state c.args.device.now).disk.present)
      (noted_search c.args.self.now) c.args.name.now c.deref.result.now files c.requires.name c.deref.ensures.value
      (sym (is_eq-slice_cmp c.deref.result.now c.args.name.now) ∙ ap is_eq (sym c.cmp.ensures)
      ∙ sym c.is_eq.ensures ∙ c.if-is_eq.true) are holds;
  notes = λ honest agrees are. are;
  damaged = λ honest agrees files holds is. never_ok is;
  spent = λ is. never_ok is;
  cause = tt;
}

pub returns : goal.returns
returns g c = c.note_other_file.ensures
