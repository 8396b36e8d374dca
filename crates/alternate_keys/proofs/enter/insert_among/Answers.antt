use Rattle.std.proofs.Common.{◌≡◌, Ok, Err, true, false, List, ap, sym, subst, ◌∙◌}
use Rattle.std.specs.Prelude.{Option, IsSome}
use Rattle.station.specs.Disk.{Sector}
use Rattle.pages.specs.Pages.{map_now}
use Rattle.pages.specs.declared.error.PagesError.TheVariants as pages
use Rattle.records.specs.declared.fault.StoreFault.TheVariants.{Full, Damaged}
use Rattle.btree.specs.Entries.{Entry, entry_with}
use Rattle.volume_format.proofs.Faults.{damaged_back, full_back}
use Rattle.alternate_keys.proofs.Among.{grows}
use Rattle.alternate_keys.proofs.Becoming.{inserts_among}
use Rattle.alternate_keys.proofs.Passing.{never_ok, same_error, spent_back, insert_is_write, reads_where}
use Rattle.btree.proofs.Passing.{never_err}
use Rattle.volume_format.proofs.Faults.{device_back}
use Rattle.alternate_keys.proofs.enter.insert_among.Goals as goal

pub returns-in-Ok-clause-inserted : goal.returns-in-Ok-clause-inserted
returns-in-Ok-clause-inserted g c = λ honest agrees left right entries stands is.
    let image = (g.D.Device.state c.args.device.now).disk.present in
    let before : List (Option Sector) = (map_now c.args.pages.now image).pages in
    let came : c.in-Ok.new ≡ true = cc in
    inserts_among before (map_now c.insert.new.pages image).pages left right c.args.tree.now c.insert.new.self entries
    c.args.key.now c.args.value.now stands c.in-Ok.ensures.layout
    (c.in-Ok.ensures.inserted honest agrees stands.levels (grows before left right c.args.tree.now entries stands)
    (ap Ok came))

pub returns-in-Ok-clause-there : goal.returns-in-Ok-clause-there
returns-in-Ok-clause-there g c = λ honest agrees left right entries stands is.
    let before : List (Option Sector) =
    (map_now c.args.pages.now (g.D.Device.state c.args.device.now).disk.present).pages in
    let same : c.in-Ok.new ≡ false = cc in
    subst (λ (es : List Entry). IsSome (entry_with es c.args.key.now)) stands.listed
    (c.in-Ok.ensures.there honest agrees stands.levels (grows before left right c.args.tree.now entries stands)
    (ap Ok same))

pub returns-in-Ok-clause-changed_pages : goal.returns-in-Ok-clause-changed_pages
returns-in-Ok-clause-changed_pages g c = λ honest agrees left right entries stands.
    let before : List (Option Sector) =
    (map_now c.args.pages.now (g.D.Device.state c.args.device.now).disk.present).pages in
    c.in-Ok.ensures.few.changed_pages honest agrees stands.levels
    (grows before left right c.args.tree.now entries stands)

pub returns-in-Err-clause-damaged : goal.returns-in-Err-clause-damaged
returns-in-Err-clause-damaged g c = λ honest agrees left right entries stands is.
    let before : List (Option Sector) =
    (map_now c.args.pages.now (g.D.Device.state c.args.device.now).disk.present).pages in
    let told : c.to_fault.result ≡ Damaged = cc in
    let fault : c.in-Err.error ≡ pages.Damaged = damaged_back c.in-Err.error (sym c.to_fault.ensures ∙ told) in
    c.in-Err.ensures.damaged honest agrees (ap Err fault) stands.levels
    (grows before left right c.args.tree.now entries stands)

pub returns-in-Err-clause-changed_pages : goal.returns-in-Err-clause-changed_pages
returns-in-Err-clause-changed_pages g c = λ honest agrees left right entries stands.
    let before : List (Option Sector) =
    (map_now c.args.pages.now (g.D.Device.state c.args.device.now).disk.present).pages in
    c.in-Err.ensures.few.changed_pages honest agrees stands.levels
    (grows before left right c.args.tree.now entries stands)

pub returns-in-Err-clause-room : goal.returns-in-Err-clause-room
returns-in-Err-clause-room g c = λ honest agrees left right entries stands is.
    let before : List (Option Sector) =
    (map_now c.args.pages.now (g.D.Device.state c.args.device.now).disk.present).pages in
    let told : c.to_fault.result ≡ Full = cc in
    let fault : c.in-Err.error ≡ pages.Full = full_back c.in-Err.error (sym c.to_fault.ensures ∙ told) in
    c.in-Err.ensures.few.room honest agrees stands.levels (grows before left right c.args.tree.now entries stands)
    (ap Err fault)

pub returns-in-Ok-clause-only : goal.returns-in-Ok-clause-only
returns-in-Ok-clause-only g c =
    reads_where g.D.Device _ _ _ _ (λ is. never_ok is) c.in-Ok.ensures.edits.only

pub returns-in-Err-clause-only : goal.returns-in-Err-clause-only
returns-in-Err-clause-only g c =
    reads_where g.D.Device _ _ _ _ (λ is. ap Err (device_back c.in-Err.error (sym c.to_fault.ensures ∙ same_error is)))
    c.in-Err.ensures.edits.only

pub returns-in-Ok-clause-room : goal.returns-in-Ok-clause-room
returns-in-Ok-clause-room g c =
    λ honest agrees left right entries stands is. never_ok is

pub returns-in-Ok-clause-damaged : goal.returns-in-Ok-clause-damaged
returns-in-Ok-clause-damaged g c =
    λ honest agrees left right entries stands is. never_ok is

pub returns-in-Ok-clause-spent : goal.returns-in-Ok-clause-spent
returns-in-Ok-clause-spent g c =
    λ is. never_ok is

pub returns-in-Err-clause-inserted : goal.returns-in-Err-clause-inserted
returns-in-Err-clause-inserted g c =
    λ honest agrees left right entries stands is. never_err is

pub returns-in-Err-clause-there : goal.returns-in-Err-clause-there
returns-in-Err-clause-there g c =
    λ honest agrees left right entries stands is. never_err is

pub returns-in-Err-clause-same : goal.returns-in-Err-clause-same
returns-in-Err-clause-same g c =
    λ is. never_err is

pub returns-in-Err-clause-spent : goal.returns-in-Err-clause-spent
returns-in-Err-clause-spent g c =
    λ is. c.in-Err.ensures.spent.0 (ap Err (spent_back c.in-Err.error (sym c.to_fault.ensures ∙ same_error is)))

pub returns-in-Err-clause-cause : goal.returns-in-Err-clause-cause
returns-in-Err-clause-cause g c =
    insert_is_write c.in-Err.error c.to_fault.result c.in-Err.ensures.cause c.to_fault.ensures
