use Rattle.std.proofs.Common.{◌≡◌, true, Err, ◌∙◌}
use Rattle.pages.specs.Pages.{map_now}
use Rattle.records.specs.declared.fault.StoreFault.TheVariants.{Device, Memory}
use Rattle.btree.specs.Calls.{IfAgrees}
use Rattle.records.specs.Files.{Files, file_at}
use Rattle.volume_format.specs.Calls.{LooksAt}
use Rattle.volume_format.specs.Volume.{MapHolds}
use Rattle.volume_format.proofs.Looks.{looks_blamed}
use Rattle.alternate_keys.specs.Notes.{IsListingOf, NotesFile, noted_search}
use Rattle.alternate_keys.proofs.Faults.{memory_no_device, memory_no_damage, memory_no_spent}
use Rattle.alternate_keys.proofs.Noted.{listing_in, none_found, noted_anew, noted_nothing}
use Rattle.alternate_keys.proofs.Passing.{passed, never_ok, still_error}
use Rattle.alternate_keys.proofs.notes.SearchNotes.note_other_file.Given.{Over}
use Rattle.alternate_keys.proofs.notes.SearchNotes.note_other_file.Goals as goal
use Rattle.alternate_keys.proofs.notes.SearchNotes.note_other_file.Goals.{After-find_listing, After-note_listing}

looks : (g : Over) (c : After-find_listing g) → LooksAt g.D.Device (c.find_listing.result ≡ Err Device) c.args.pages.now
    c.args.device.now c.find_listing.new.pages c.find_listing.new.device
looks g c = record {
  only = c.find_listing.ensures.only;
  unchanged = c.find_listing.ensures.unchanged;
  agrees = c.find_listing.ensures.agrees;
}

pub returns-in_err-entry : goal.returns-in_err-entry
returns-in_err-entry g c =
    passed c.from_residual.result c.in_err-entry.field-0.0 c.from_residual.ensures.1
    (λ r. NotesFile g.D.Device (noted_search c.args.self.now) c.args.pages.now c.args.device.now c.args.name.now
    (noted_search c.args.self.now) c.find_listing.new.pages c.find_listing.new.device r) (record {
      looks = looks_blamed g.D.Device (c.find_listing.result ≡ Err Device) _ _ _ _ _
          (λ is. c.in_err-entry.was ∙ still_error is)
          (looks g (goal.at.returns-in_err-entry g c).After-find_listing);
      listed = λ honest agrees are files holds. tt;
      notes = λ honest agrees are. are;
      damaged = λ honest agrees files holds is.
          c.find_listing.ensures.damaged honest agrees files holds (c.in_err-entry.was ∙ still_error is);
      spent = λ is. c.find_listing.ensures.spent (c.in_err-entry.was ∙ still_error is);
      cause = c.in_err-entry.ensures.cause;
    })

pub returns-in_err-note_listing-in-Some : goal.returns-in_err-note_listing-in-Some
returns-in_err-note_listing-in-Some g c =
    passed c.from_residual-in_err-note_listing-in-Some.result Memory
    c.from_residual-in_err-note_listing-in-Some.ensures.1
    (λ r. NotesFile g.D.Device (noted_search c.args.self.now) c.args.pages.now c.args.device.now c.args.name.now
    (noted_search c.note_listing.new.self) c.find_listing.new.pages c.find_listing.new.device r) (record {
      looks = looks_blamed g.D.Device (c.find_listing.result ≡ Err Device) _ _ _ _ _ (λ is. memory_no_device is)
          (looks g (goal.at.returns-in_err-note_listing-in-Some g c).After-find_listing);
      listed = λ honest agrees are files holds. tt;
      notes = λ honest agrees are. noted_nothing _ (noted_search c.args.self.now) (noted_search c.note_listing.new.self)
          c.in_err-note_listing-in-Some.ensures.refused c.in_err-note_listing-in-Some.ensures.place are;
      damaged = λ honest agrees files holds is. memory_no_damage is;
      spent = λ is. memory_no_spent is;
      cause = tt;
    })

listed : (g : Over) (c : After-note_listing g) → c.note_listing.new.self.listing ≡ c.listing_part.result.now
    → IfAgrees g.D.Device c.args.pages.now c.args.device.now ((files : Files)
    → MapHolds (map_now c.args.pages.now (g.D.Device.state c.args.device.now).disk.present) files
    → IsListingOf (map_now c.args.pages.now (g.D.Device.state c.args.device.now).disk.present)
    (file_at c.args.name.now files) true c.note_listing.new.self.listing)
listed g c same honest agrees files holds =
    listing_in (map_now c.args.pages.now (g.D.Device.state c.args.device.now).disk.present)
    (file_at c.args.name.now files) c.in_ok-entry.field-0 c.in-Some.entry c.note_listing.new.self.listing
    (c.in_ok-entry.ensures.listed honest agrees files holds) c.in-Some.is (same ∙ c.listing_part.ensures.part)

pub returns-in_ok-note_listing-in-Some : goal.returns-in_ok-note_listing-in-Some
returns-in_ok-note_listing-in-Some g c =
    let at = goal.at.returns-in_ok-note_listing-in-Some g c in
    let put = c.in_ok-note_listing-in-Some.ensures in
    record {
      looks = looks_blamed g.D.Device (c.find_listing.result ≡ Err Device) _ _ _ _ _ (λ is. never_ok is)
          (looks g at.After-find_listing);
      listed = λ honest agrees are. listed g at.After-note_listing put.noted.1 honest agrees;
      notes = λ honest agrees are.
          noted_anew _ (noted_search c.args.self.now) (noted_search c.note_listing.new.self) c.args.name.now
          (listed g at.After-note_listing put.noted.1 honest agrees) put.noted.0 put.place are;
      damaged = λ honest agrees files holds is. never_ok is;
      spent = λ is. never_ok is;
      cause = tt;
    }

pub returns-in-None : goal.returns-in-None
returns-in-None g c = record {
  looks = looks_blamed g.D.Device (c.find_listing.result ≡ Err Device) _ _ _ _ _ (λ is. never_ok is)
      (looks g (goal.at.returns-in-None g c).After-find_listing);
  listed = λ honest agrees are files holds.
      none_found (map_now c.args.pages.now (g.D.Device.state c.args.device.now).disk.present)
      (file_at c.args.name.now files) c.in_ok-entry.field-0
      (c.in_ok-entry.ensures.listed honest agrees files holds) c.in-None.is;
  notes = λ honest agrees are. are;
  damaged = λ honest agrees files holds is. never_ok is;
  spent = λ is. never_ok is;
  cause = tt;
}
