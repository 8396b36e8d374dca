use Rattle.std.proofs.Common.{List, ℕ, true, false, sym, ap, subst, ◌∙◌}
use Rattle.std.specs.Prelude.{take, IfErr}
use Rattle.pages.specs.Image.{Map}
use Rattle.pages.specs.Pages.{map_now}
use Rattle.records.specs.Spec.{Spec}
use Rattle.records.specs.Rows.{same_bytes}
use Rattle.records.specs.Files.{file_at}
use Rattle.file_bytes.specs.Description.{spec_bytes}
use Rattle.records.specs.Stores.{spec_of}
use Rattle.alternate_keys.specs.Listed.{IsListed}
use Rattle.alternate_keys.proofs.Present.{absent, present_by}
use Rattle.alternate_keys.specs.Faults.{IsReadFault}
use Rattle.alternate_keys.proofs.Passing.{if_refused, memory_is_read, never_ok, passed, reads_where}
use Rattle.alternate_keys.proofs.Faults.{never_damaged, never_device, never_spent, refused_by_call}
use Rattle.alternate_keys.proofs.finding.find_in.Goals as goal

pub returns-in_err-entry-clause-damaged : goal.returns-in_err-entry-clause-damaged
returns-in_err-entry-clause-damaged g c = λ honest agrees files holds is.
    let damaged = refused_by_call c.in_err-entry.was c.from_residual.ensures.1 is in
    c.find_listing.ensures.damaged honest agrees files holds damaged

pub returns-in-None-clause-presence : goal.returns-in-None-clause-presence
returns-in-None-clause-presence g c = λ honest agrees files holds.
    let m : Map = map_now c.args.pages.now (g.D.Device.state c.args.device.now).disk.present in
    let listed = c.in_ok-entry.ensures.listed honest agrees files holds in
    let here =
    subst (λ (n : List ℕ). IsListed m (file_at n files) c.in_ok-entry.field-0) c.deref.ensures.value listed in
    absent m (file_at c.args.file.now.name.items files) c.in_ok-entry.field-0 (spec_of c.args.file.now) here
    c.in-None.is

pub returns-then-says-clause-presence : goal.returns-then-says-clause-presence
returns-then-says-clause-presence g c = λ honest agrees files holds.
    let m : Map = map_now c.args.pages.now (g.D.Device.state c.args.device.now).disk.present in
    let spec : Spec = spec_of c.args.file.now in
    let listed = subst (λ (n : List ℕ). IsListed m (file_at n files) c.in_ok-entry.field-0) c.deref.ensures.value
    (c.in_ok-entry.ensures.listed honest agrees files holds) in
    present_by true m (file_at c.args.file.now.name.items files) c.in_ok-entry.field-0 c.in-Some.entry spec
    c.args.file.now.sound listed c.in-Some.is
    (ap (λ (v : List ℕ). same_bytes (take 43 v) (spec_bytes spec)) (sym c.listing_part.ensures.part)
    ∙ ap (λ (l : List ℕ). same_bytes (take 43 c.listing_part.result.now) l)
    (sym (c.deref-2.ensures.value ∙ c.in_ok-spec.ensures.bytes))
    ∙ sym c.says.ensures ∙ c.if-says.true)

pub returns-clause-presence : goal.returns-clause-presence
returns-clause-presence g c = λ honest agrees files holds.
    let m : Map = map_now c.args.pages.now (g.D.Device.state c.args.device.now).disk.present in
    let spec : Spec = spec_of c.args.file.now in
    let listed = subst (λ (n : List ℕ). IsListed m (file_at n files) c.in_ok-entry.field-0) c.deref.ensures.value
    (c.in_ok-entry.ensures.listed honest agrees files holds) in
    present_by false m (file_at c.args.file.now.name.items files) c.in_ok-entry.field-0 c.in-Some.entry spec
    c.args.file.now.sound listed c.in-Some.is
    (ap (λ (v : List ℕ). same_bytes (take 43 v) (spec_bytes spec)) (sym c.listing_part.ensures.part)
    ∙ ap (λ (l : List ℕ). same_bytes (take 43 c.listing_part.result.now) l)
    (sym (c.deref-2.ensures.value ∙ c.in_ok-spec.ensures.bytes))
    ∙ sym c.says.ensures ∙ c.if-says.false)

pub returns-in_err-entry-clause-spent : goal.returns-in_err-entry-clause-spent
returns-in_err-entry-clause-spent g c =
    λ is. c.find_listing.ensures.spent (refused_by_call c.in_err-entry.was c.from_residual.ensures.1 is)

pub returns-in_err-entry-clause-cause : goal.returns-in_err-entry-clause-cause
returns-in_err-entry-clause-cause g c =
    passed c.from_residual.result c.in_err-entry.field-0.0 c.from_residual.ensures.1 (λ r. IfErr r IsReadFault)
    c.in_err-entry.ensures.cause

pub returns-in_err-spec-clause-spent : goal.returns-in_err-spec-clause-spent
returns-in_err-spec-clause-spent g c =
    λ is. absurd (never_spent c.spell_description.result c.spell_description.ensures.memory (refused_by_call
    c.in_err-spec.was c.from_residual-in_err-spec.ensures.1 is))

pub returns-in_err-spec-clause-cause : goal.returns-in_err-spec-clause-cause
returns-in_err-spec-clause-cause g c =
    passed c.from_residual-in_err-spec.result c.in_err-spec.field-0.0 c.from_residual-in_err-spec.ensures.1 (λ r.
    IfErr r IsReadFault) (memory_is_read c.in_err-spec.field-0.0 c.in_err-spec.ensures.memory)

pub returns-in-None-clause-spent : goal.returns-in-None-clause-spent
returns-in-None-clause-spent g c = λ is. never_ok is

pub returns-then-says-clause-spent : goal.returns-then-says-clause-spent
returns-then-says-clause-spent g c = λ is. never_ok is

pub returns-clause-spent : goal.returns-clause-spent
returns-clause-spent g c = λ is. never_ok is

-- The device was only read, and a listing or memory that is missing is no damage.
pub returns-in_err-entry-clause-only : goal.returns-in_err-entry-clause-only
returns-in_err-entry-clause-only g c = reads_where g.D.Device _ _ _ _
    (refused_by_call c.in_err-entry.was c.from_residual.ensures.1) c.find_listing.ensures.only

pub returns-in_err-spec-clause-only : goal.returns-in_err-spec-clause-only
returns-in_err-spec-clause-only g c = reads_where g.D.Device _ _ _ _
    (λ is. absurd (never_device c.spell_description.result c.spell_description.ensures.memory (refused_by_call
    c.in_err-spec.was c.from_residual-in_err-spec.ensures.1 is))) c.find_listing.ensures.only

pub returns-in-None-clause-only : goal.returns-in-None-clause-only
returns-in-None-clause-only g c =
    reads_where g.D.Device _ _ _ _ (λ is. never_ok is) c.find_listing.ensures.only

pub returns-then-says-clause-only : goal.returns-then-says-clause-only
returns-then-says-clause-only g c =
    reads_where g.D.Device _ _ _ _ (λ is. never_ok is) c.find_listing.ensures.only

pub returns-clause-only : goal.returns-clause-only
returns-clause-only g c = reads_where g.D.Device _ _ _ _ (λ is. never_ok is) c.find_listing.ensures.only

pub returns-in_err-spec-clause-damaged : goal.returns-in_err-spec-clause-damaged
returns-in_err-spec-clause-damaged g c = λ honest agrees files holds is.
    never_damaged c.spell_description.result c.spell_description.ensures.memory
    (refused_by_call c.in_err-spec.was c.from_residual-in_err-spec.ensures.1 is)

pub returns-in_err-entry-clause-presence : goal.returns-in_err-entry-clause-presence
returns-in_err-entry-clause-presence g c =
    λ honest agrees files holds. if_refused _ _ c.from_residual.ensures.1 _

pub returns-in_err-spec-clause-presence : goal.returns-in_err-spec-clause-presence
returns-in_err-spec-clause-presence g c =
    λ honest agrees files holds. if_refused _ _ c.from_residual-in_err-spec.ensures.1 _
