use Rattle.std.proofs.Common.{◌++◌, ℕ, List, [], ◌∷◌, length, sym, ap, ◌∙◌}
use Rattle.std.specs.Prelude.{Option, IfErr}
use Rattle.station.specs.Disk.{Sector}
use Rattle.pages.specs.Pages.{map_now}
use Rattle.records.specs.Spec.{Spec}
use Rattle.records.specs.Stores.{spec_of}
use Rattle.volume_format.specs.Catalog.{Listing, listing_bytes}
use Rattle.volume_format.proofs.Listings.{long}
use Rattle.alternate_keys.proofs.Rooting.{placed_by}
use Rattle.alternate_keys.proofs.Passing.{memory_is_write, never_ok, passed}
use Rattle.alternate_keys.proofs.Faults.{never_full_memory, never_spent, refused_by_call}
use Rattle.alternate_keys.specs.Faults.{IsWriteFault}
use Rattle.std.proofs.Common.{◌≡◌}
use Rattle.std.specs.Prelude.{Err}
use Rattle.row_trees.specs.Calls.{EditsPages}
use Rattle.records.specs.declared.fault.StoreFault.TheVariants.{Device}
use Rattle.alternate_keys.proofs.Calling.{edits_blamed}
use Rattle.alternate_keys.proofs.Passing.{if_refused, on_refused, still_error, memory_not_device, memory_never_damaged}
use Rattle.alternate_keys.proofs.move_row.move_row.Goals as goal

pub returns-in_err-roots-clause-room : goal.returns-in_err-roots-clause-room
returns-in_err-roots-clause-room g c = λ honest agrees held after generation left right m full.
    let told = refused_by_call c.in_err-roots.was c.from_residual.ensures.1 full in
    c.move_pairs.ensures.room honest agrees held.file (left ++ m.prime ∷ []) right m.trees m.spec_is m.indexes
    after.file (m.spec_then ∙ sym m.spec_is) m.pairs told

pub returns-in_err-roots-clause-damaged : goal.returns-in_err-roots-clause-damaged
returns-in_err-roots-clause-damaged g c = λ honest agrees held after generation left right m may refused.
    let told = refused_by_call c.in_err-roots.was c.from_residual.ensures.1 refused in
    c.move_pairs.ensures.damaged honest agrees held.file (left ++ m.prime ∷ []) right m.trees m.spec_is m.indexes
    after.file (m.spec_then ∙ sym m.spec_is) m.pairs may told

pub returns-clause-placed : goal.returns-clause-placed
returns-clause-placed g c = λ honest agrees held after generation left right m.
    let spec : Spec = spec_of c.args.file.now in
    let pages : List (Option Sector) =
    (map_now c.move_pairs.new.pages (g.D.Device.state c.args.device.now).disk.present).pages in
    let become = c.in_ok-roots.ensures.came honest agrees held.file (left ++ m.prime ∷ []) right m.trees m.spec_is
    m.indexes after.file (m.spec_then ∙ sym m.spec_is) m.pairs in
    let says = c.in_ok-new.ensures.bytes ∙ ap (λ (l : List ℕ). listing_bytes
    (record { spec = spec; prime = c.args.root; alternates = l; next_arrival = c.args.row_move.next }))
    c.deref.ensures.value in
    placed_by spec after generation pages left right m.prime m.trees c.in_ok-roots.roots.items c.in_ok-new.new.items
    c.args.root c.args.row_move.next become m.layout m.root_is m.form m.rows m.spec_then m.next_is m.low
    (m.indexes.count ∙ ap (λ (s : Spec). length s.alternates) m.spec_is) says

pub returns-clause-few : goal.returns-clause-few
returns-clause-few g c = λ honest agrees held after generation left right m.
    c.in_ok-roots.ensures.few honest agrees held.file (left ++ m.prime ∷ []) right m.trees m.spec_is m.indexes
    after.file (m.spec_then ∙ sym m.spec_is) m.pairs

pub returns-clause-long : goal.returns-clause-long
returns-clause-long g c =
    let said : Listing = record {
      spec = spec_of c.args.file.now;
      prime = c.args.root;
      alternates = c.deref.result.now;
      next_arrival = c.args.row_move.next;
    } in
    ap (λ (l : List ℕ). length l) c.in_ok-new.ensures.bytes ∙ long said c.args.file.now.sound
    (ap (λ (l : List ℕ). length l) c.deref.ensures.value ∙ c.in_ok-roots.ensures.count)

pub returns-in_err-roots-clause-spent : goal.returns-in_err-roots-clause-spent
returns-in_err-roots-clause-spent g c =
    λ is. c.move_pairs.ensures.spent (refused_by_call c.in_err-roots.was c.from_residual.ensures.1 is)

pub returns-in_err-roots-clause-cause : goal.returns-in_err-roots-clause-cause
returns-in_err-roots-clause-cause g c =
    passed c.from_residual.result c.in_err-roots.field-0.0 c.from_residual.ensures.1 (λ r. IfErr r IsWriteFault)
    c.in_err-roots.ensures.cause

pub returns-in_err-new-clause-spent : goal.returns-in_err-new-clause-spent
returns-in_err-new-clause-spent g c =
    λ is. absurd (never_spent c.spell_listing.result c.spell_listing.ensures.memory (refused_by_call c.in_err-new.was
    c.from_residual-in_err-new.ensures.1 is))

pub returns-in_err-new-clause-cause : goal.returns-in_err-new-clause-cause
returns-in_err-new-clause-cause g c =
    passed c.from_residual-in_err-new.result c.in_err-new.field-0.0 c.from_residual-in_err-new.ensures.1 (λ r. IfErr r
    IsWriteFault) (memory_is_write c.in_err-new.field-0.0 c.in_err-new.ensures.memory)

pub returns-in_err-new-clause-room : goal.returns-in_err-new-clause-room
returns-in_err-new-clause-room g c =
    λ honest agrees held after generation left right m is. absurd (never_full_memory c.spell_listing.result
    c.spell_listing.ensures.memory (refused_by_call c.in_err-new.was c.from_residual-in_err-new.ensures.1 is))

pub returns-clause-spent : goal.returns-clause-spent
returns-clause-spent g c = λ is. never_ok is

pub returns-in_err-roots-clause-edits : goal.returns-in_err-roots-clause-edits
returns-in_err-roots-clause-edits g c =
    passed c.from_residual.result c.in_err-roots.field-0.0 c.from_residual.ensures.1
    (λ r. EditsPages g.D.Device (r ≡ Err Device) c.args.pages.now c.args.device.now c.move_pairs.new.pages
    c.move_pairs.new.device)
    (edits_blamed g.D.Device _ _ _ _ _ _ (λ is. still_error is) c.in_err-roots.ensures.edits)

pub returns-in_err-new-clause-edits : goal.returns-in_err-new-clause-edits
returns-in_err-new-clause-edits g c =
    passed c.from_residual-in_err-new.result c.in_err-new.field-0.0 c.from_residual-in_err-new.ensures.1
    (λ r. EditsPages g.D.Device (r ≡ Err Device) c.args.pages.now c.args.device.now c.move_pairs.new.pages
    c.move_pairs.new.device)
    (edits_blamed g.D.Device _ _ _ _ _ _ (λ is. memory_not_device _ c.in_err-new.ensures.memory is)
    c.in_ok-roots.ensures.edits)

pub returns-clause-edits : goal.returns-clause-edits
returns-clause-edits g c =
    edits_blamed g.D.Device _ _ _ _ _ _ (λ is. never_ok is) c.in_ok-roots.ensures.edits

pub returns-in_err-new-clause-damaged : goal.returns-in_err-new-clause-damaged
returns-in_err-new-clause-damaged g c =
    λ honest agrees held after generation left right m may is.
    memory_never_damaged c.from_residual-in_err-new.result c.in_err-new.field-0.0 c.from_residual-in_err-new.ensures.1
    c.in_err-new.ensures.memory is

pub returns-clause-room : goal.returns-clause-room
returns-clause-room g c =
    λ honest agrees held after generation left right m is. never_ok is

pub returns-clause-damaged : goal.returns-clause-damaged
returns-clause-damaged g c =
    λ honest agrees held after generation left right m may is. never_ok is

pub returns-in_err-roots-clause-placed : goal.returns-in_err-roots-clause-placed
returns-in_err-roots-clause-placed g c =
    λ honest agrees held after generation left right m.
    if_refused c.from_residual.result c.in_err-roots.field-0.0 c.from_residual.ensures.1 _

pub returns-in_err-roots-clause-few : goal.returns-in_err-roots-clause-few
returns-in_err-roots-clause-few g c =
    λ honest agrees held after generation left right m.
    on_refused c.from_residual.result c.in_err-roots.field-0.0 c.from_residual.ensures.1 _

pub returns-in_err-roots-clause-long : goal.returns-in_err-roots-clause-long
returns-in_err-roots-clause-long g c =
    if_refused c.from_residual.result c.in_err-roots.field-0.0 c.from_residual.ensures.1 _

pub returns-in_err-new-clause-placed : goal.returns-in_err-new-clause-placed
returns-in_err-new-clause-placed g c =
    λ honest agrees held after generation left right m.
    if_refused c.from_residual-in_err-new.result c.in_err-new.field-0.0 c.from_residual-in_err-new.ensures.1 _

pub returns-in_err-new-clause-few : goal.returns-in_err-new-clause-few
returns-in_err-new-clause-few g c =
    λ honest agrees held after generation left right m.
    on_refused c.from_residual-in_err-new.result c.in_err-new.field-0.0 c.from_residual-in_err-new.ensures.1 _

pub returns-in_err-new-clause-long : goal.returns-in_err-new-clause-long
returns-in_err-new-clause-long g c =
    if_refused c.from_residual-in_err-new.result c.in_err-new.field-0.0 c.from_residual-in_err-new.ensures.1 _
