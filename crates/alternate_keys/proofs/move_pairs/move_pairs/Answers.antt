use Rattle.std.proofs.Common.{◌≡◌, ◌<◌, ◌+◌, ◌*◌, ◌++◌, ℕ, List, [], ◌∷◌, length, Err, inr, sym, ap, subst, ◌∙◌, arith}
use Rattle.std.specs.Prelude.{Option, IfErr}
use Rattle.station.specs.Disk.{Sector}
use Rattle.pages.specs.Use.{free_count}
use Rattle.pages.specs.Pages.{map_now, Agrees}
use Rattle.btree.specs.Calls.{pages_on}
use Rattle.btree.specs.Entries.{Entry}
use Rattle.btree.specs.Results.{FewChanged}
use Rattle.records.specs.declared.fault.StoreFault.TheVariants.{Device, Memory}
use Rattle.records.specs.Spec.{Spec}
use Rattle.records.specs.Stores.{spec_of}
use Rattle.volume_format.specs.Forest.{TreeLevels}
use Rattle.volume_format.specs.Grows.{IsTreeAmong}
use Rattle.alternate_keys.specs.Faults.{IsWriteFault}
use Rattle.alternate_keys.specs.Moved.{OnPairMoves, entries_after}
use Rattle.alternate_keys.specs.Placed.{HaveBecome}
use Rattle.alternate_keys.proofs.Calling.{among_after, among_before, edits_blamed, edits_nothing, edits_then}
use Rattle.alternate_keys.proofs.Calling.{sectors_still}
use Rattle.alternate_keys.proofs.Faults.{memory_writes, never_damaged, never_device, never_full_memory, never_spent}
use Rattle.alternate_keys.proofs.Faults.{refused_by_call}
use Rattle.alternate_keys.proofs.Passing.{if_refused, never_ok, on_refused, passed, spent_before}
use Rattle.alternate_keys.proofs.KeyTurn.{IsTurn, lefts, rights, entries_there, none_become, turn_of, turn_stands}
use Rattle.alternate_keys.proofs.KeyTurn.{refused_for_memory, turn_may, turn_over}
use Rattle.alternate_keys.proofs.Still.{same_volume}
use Rattle.alternate_keys.proofs.Walks.{length_more}
use Rattle.alternate_keys.proofs.move_pairs.move_pairs.Given.{Over}
use Rattle.alternate_keys.proofs.move_pairs.move_pairs.Goals as goal
use Rattle.alternate_keys.proofs.move_pairs.move_pairs.Goals.{After-move_pair, After-push}

pub loop-key-init : goal.loop-key-init
loop-key-init g c = record {
  edits = edits_nothing g.D.Device c.args.pages.now c.args.device.now;
  came = λ honest agrees held left right trees is has after spec_then move.
      none_become has after _ c.new-roots.ensures.items;
  few = λ honest agrees held left right trees is has after spec_then move. omega arith;
  count = ap (λ (l : List ℕ). length l) c.new-roots.ensures.items;
}

-- the turn of the key
turn : (g : Over) (c : After-move_pair g) → OnPairMoves g.D.Device c.args.row_move.verb (spec_of c.args.file.now)
    c.args.pages.now c.args.device.now c.args.listing.now c.args.row_move.old_value.now c.args.row_move.bytes.now
    c.args.row_move.arrival
    (λ held after left right trees. IsTurn held after (pages_on g.D.Device c.args.pages.now c.args.device.now)
    (pages_on g.D.Device c.loop-key.pages c.args.device.now) left right trees c.args.listing.now c.loop-key.key
    c.loop-key.roots.items c.file_tree-tree.result)
turn g c honest agrees held left right trees is has after spec_then move =
    let n : c.len-count.result ≡ length c.args.file.now.alternates.items =
    omega (arith, c.len-count.ensures, c.args.file.now.alternates.ok) in
    let test = c.loop-key-test.true in
    let low : c.loop-key.key < length c.args.file.now.alternates.items = omega (arith, n, test) in
    turn_of has (c.loop-key.invariant.came honest agrees held left right trees is has after spec_then move)
    (spec_of c.args.file.now) is low c.file_tree-tree.result c.file_tree-tree.ensures.layout
    c.file_tree-tree.ensures.root

pub returns-in_err-move_pair-clause-room : goal.returns-in_err-move_pair-clause-room
returns-in_err-move_pair-clause-room g c = λ honest agrees held left right trees is has after spec_then move full.
    let at = (goal.at.returns-in_err-move_pair-clause-room g c).After-move_pair in
    let t = turn g at honest agrees held left right trees is has after spec_then move in
    let edits = c.loop-key.invariant.edits in
    let room = c.move_pair.ensures.room (edits.only.honest.0 honest) (edits.agrees honest agrees) (lefts t) (rights t)
    (entries_there t) (among_after g.D.Device edits honest c.loop-key.pages (turn_stands t))
    (refused_by_call c.in_err-move_pair.was c.from_residual.ensures.1 full) in
    let few = c.loop-key.invariant.few honest agrees held left right trees is has after spec_then move in
    let committed = ap free_count (same_volume c.args.pages.now c.loop-key.pages edits.committed) in
    let low = t.low in
    let count = ap (λ (s : Spec). length s.alternates) is in
    omega (arith, few, room, committed, low, count)

pub returns-in_err-move_pair-clause-damaged : goal.returns-in_err-move_pair-clause-damaged
returns-in_err-move_pair-clause-damaged g c =
    λ honest agrees held left right trees is has after spec_then move may refused.
    let at = (goal.at.returns-in_err-move_pair-clause-damaged g c).After-move_pair in
    let t = turn g at honest agrees held left right trees is has after spec_then move in
    let edits = c.loop-key.invariant.edits in
    c.move_pair.ensures.damaged (edits.only.honest.0 honest) (edits.agrees honest agrees) (lefts t) (rights t)
    (entries_there t) (among_after g.D.Device edits honest c.loop-key.pages (turn_stands t))
    (turn_may t c.args.row_move.verb
    (spec_of c.args.file.now) c.args.row_move.old_value.now c.args.row_move.bytes.now c.args.row_move.arrival is may)
    (refused_by_call c.in_err-move_pair.was c.from_residual.ensures.1 refused)

-- the tree of the key after its pair moved, over the device as it was before
moved : (g : Over) (c : After-push g) → g.D.Device.is_honest c.args.device.now
    → Agrees c.args.pages.now (g.D.Device.state c.args.device.now).disk
    → {left right : List TreeLevels} {entries : List Entry} → IsTreeAmong
    (pages_on g.D.Device c.loop-key.pages c.args.device.now) left right c.file_tree-tree.result entries → IsTreeAmong
    (pages_on g.D.Device c.move_pair.new.pages c.args.device.now) left right c.move_pair.new.tree (entries_after
    c.args.row_move.verb (spec_of c.args.file.now) c.loop-key.key c.args.row_move.old_value.now
    c.args.row_move.bytes.now c.args.row_move.arrival entries)
moved g c honest agrees {left} {right} {entries} there =
    let edits = c.loop-key.invariant.edits in
    among_before g.D.Device edits honest c.move_pair.new.pages (c.in_ok-move_pair.ensures.moved
    (edits.only.honest.0 honest) (edits.agrees honest agrees) left right entries
    (among_after g.D.Device edits honest c.loop-key.pages there))

-- the tree of the key has become that of the changed file
came : (g : Over) (c : After-push g)
    → OnPairMoves g.D.Device c.args.row_move.verb (spec_of c.args.file.now) c.args.pages.now
    c.args.device.now c.args.listing.now c.args.row_move.old_value.now c.args.row_move.bytes.now c.args.row_move.arrival
    (λ held after left right trees.
    IsTurn held after (pages_on g.D.Device c.args.pages.now c.args.device.now) (pages_on g.D.Device c.loop-key.pages
    c.args.device.now) left right trees c.args.listing.now c.loop-key.key c.loop-key.roots.items
    c.file_tree-tree.result → (next : List ℕ) → c.loop-key.roots.items ++ c.root.result ∷ [] ≡ next
    → HaveBecome after (pages_on g.D.Device c.move_pair.new.pages c.args.device.now) left right trees
    (c.loop-key.key + 1) next)
came g c honest agrees held left right trees is has after spec_then move t next pushed =
    turn_over t c.args.row_move.verb (spec_of c.args.file.now) c.args.row_move.old_value.now c.args.row_move.bytes.now
    c.args.row_move.arrival is spec_then move
    (pages_on g.D.Device c.move_pair.new.pages c.args.device.now) c.move_pair.new.tree c.move_pair.ensures.layout
    (moved g c honest agrees (turn_stands t)) next
    (ap (λ (r : ℕ). c.loop-key.roots.items ++ r ∷ []) (sym c.root.ensures) ∙ pushed)

-- and few pages were changed
more_changed : (g : Over) (c : After-push g) → OnPairMoves g.D.Device c.args.row_move.verb (spec_of c.args.file.now)
    c.args.pages.now c.args.device.now c.args.listing.now c.args.row_move.old_value.now c.args.row_move.bytes.now
    c.args.row_move.arrival
    (λ held after left right trees. IsTurn held after (pages_on g.D.Device c.args.pages.now c.args.device.now)
    (pages_on g.D.Device c.loop-key.pages c.args.device.now) left right trees c.args.listing.now c.loop-key.key
    c.loop-key.roots.items c.file_tree-tree.result
    → FewChanged (84 * (c.loop-key.key + 1)) c.args.pages.now c.move_pair.new.pages)
more_changed g c honest agrees held left right trees is has after spec_then move t =
    let edits = c.loop-key.invariant.edits in
    let more = c.in_ok-move_pair.ensures.few (edits.only.honest.0 honest) (edits.agrees honest agrees) (lefts t)
    (rights t) (entries_there t) (among_after g.D.Device edits honest c.loop-key.pages (turn_stands t)) in
    let few = c.loop-key.invariant.few honest agrees held left right trees is has after spec_then move in
    omega (arith, few, more)

pub loop-key-preserved : goal.loop-key-preserved
loop-key-preserved g c =
    let at = goal.at.loop-key-preserved g c in
    record {
      edits = edits_then g.D.Device ⊥ (c.move_pair.result ≡ Err Device) ⊥ _ _ _ _ _ _ (λ is. absurd is)
          c.loop-key.invariant.edits c.move_pair.ensures.edits;
      came = λ honest agrees held left right trees is has after spec_then move.
          came g at.After-push honest agrees held left right trees is has after spec_then move
          (turn g at.After-move_pair honest agrees held left right trees is has after spec_then move)
          c.push.new.self.items (sym c.in_ok-push.ensures.items);
      few = λ honest agrees held left right trees is has after spec_then move.
          more_changed g at.After-push honest agrees held left right trees is has after spec_then move
          (turn g at.After-move_pair honest agrees held left right trees is has after spec_then move);
      count = length_more c.loop-key.roots.items c.root.result c.in_ok-push.ensures.items c.loop-key.invariant.count;
    }

pub returns-clause-came : goal.returns-clause-came
returns-clause-came g c = λ honest agrees held left right trees is has after spec_then move.
    let loop = c.loop-key in
    let spec : Spec = spec_of c.args.file.now in
    let here : List (Option Sector) = (map_now loop.pages (g.D.Device.state c.args.device.now).disk.present).pages in
    let n : c.len-count.result ≡ length c.args.file.now.alternates.items =
    omega (arith, c.len-count.ensures, c.args.file.now.alternates.ok) in
    let count : length trees ≡ length spec.alternates = has.count ∙ ap (λ (s : Spec). length s.alternates) is in
    let all : loop.key ≡ length trees = let test = c.loop-key-test.false in let end =
    loop.auto.key-end in omega (arith, n, count, test, end) in
    subst (λ (k : ℕ). HaveBecome after here left right trees k loop.roots.items) all
    (loop.invariant.came honest agrees held left right trees is has after spec_then move)

pub returns-clause-few : goal.returns-clause-few
returns-clause-few g c = λ honest agrees held left right trees is has after spec_then move.
    let n : c.len-count.result ≡ length c.args.file.now.alternates.items =
    omega (arith, c.len-count.ensures, c.args.file.now.alternates.ok) in
    let few = c.loop-key.invariant.few honest agrees held left right trees is has after spec_then move in
    let end = c.loop-key.auto.key-end in
    omega (arith, few, n, end)

pub move_pair-requires-clause-sectors : goal.move_pair-requires-clause-sectors
move_pair-requires-clause-sectors g c =
    let edits = c.loop-key.invariant.edits in
    sectors_still g.D.Device _ c.args.pages.now c.loop-key.pages c.args.device.now c.loop-key.device edits.only
    edits.committed c.requires.sectors

pub returns-in_err-move_pair-clause-edits : goal.returns-in_err-move_pair-clause-edits
returns-in_err-move_pair-clause-edits g c =
    edits_then g.D.Device ⊥ (c.move_pair.result ≡ Err Device) _ _ _ _ _ _ _
    (λ is. inr (refused_by_call c.in_err-move_pair.was c.from_residual.ensures.1 is)) c.loop-key.invariant.edits
    c.move_pair.ensures.edits

pub returns-in_err-move_pair-clause-came : goal.returns-in_err-move_pair-clause-came
returns-in_err-move_pair-clause-came g c = λ honest agrees held left right trees is has after spec_then move.
    if_refused c.from_residual.result c.in_err-move_pair.field-0.0 c.from_residual.ensures.1 _

pub returns-in_err-move_pair-clause-few : goal.returns-in_err-move_pair-clause-few
returns-in_err-move_pair-clause-few g c = λ honest agrees held left right trees is has after spec_then move.
    on_refused c.from_residual.result c.in_err-move_pair.field-0.0 c.from_residual.ensures.1 _

pub returns-in_err-move_pair-clause-count : goal.returns-in_err-move_pair-clause-count
returns-in_err-move_pair-clause-count g c =
    if_refused c.from_residual.result c.in_err-move_pair.field-0.0 c.from_residual.ensures.1 _

pub returns-in_err-move_pair-clause-spent : goal.returns-in_err-move_pair-clause-spent
returns-in_err-move_pair-clause-spent g c =
    λ is. spent_before c.args.pages.now c.loop-key.pages c.loop-key.invariant.edits.committed
    (c.move_pair.ensures.spent (refused_by_call c.in_err-move_pair.was c.from_residual.ensures.1 is))

pub returns-in_err-move_pair-clause-cause : goal.returns-in_err-move_pair-clause-cause
returns-in_err-move_pair-clause-cause g c =
    passed c.from_residual.result c.in_err-move_pair.field-0.0 c.from_residual.ensures.1 (λ r. IfErr r IsWriteFault)
    c.in_err-move_pair.ensures.cause

pub returns-in_err-push-clause-edits : goal.returns-in_err-push-clause-edits
returns-in_err-push-clause-edits g c =
    edits_then g.D.Device ⊥ (c.move_pair.result ≡ Err Device) _ _ _ _ _ _ _
    (λ is. absurd (never_device c.from_residual-in_err-push.result
    (refused_for_memory c.from_residual-in_err-push.result c.from_residual-in_err-push.ensures.1) is))
    c.loop-key.invariant.edits c.move_pair.ensures.edits

pub returns-in_err-push-clause-came : goal.returns-in_err-push-clause-came
returns-in_err-push-clause-came g c = λ honest agrees held left right trees is has after spec_then move.
    if_refused c.from_residual-in_err-push.result Memory c.from_residual-in_err-push.ensures.1 _

pub returns-in_err-push-clause-few : goal.returns-in_err-push-clause-few
returns-in_err-push-clause-few g c = λ honest agrees held left right trees is has after spec_then move.
    on_refused c.from_residual-in_err-push.result Memory c.from_residual-in_err-push.ensures.1 _

pub returns-in_err-push-clause-room : goal.returns-in_err-push-clause-room
returns-in_err-push-clause-room g c = λ honest agrees held left right trees is has after spec_then move full.
    absurd (never_full_memory c.from_residual-in_err-push.result
    (refused_for_memory c.from_residual-in_err-push.result c.from_residual-in_err-push.ensures.1) full)

pub returns-in_err-push-clause-damaged : goal.returns-in_err-push-clause-damaged
returns-in_err-push-clause-damaged g c = λ honest agrees held left right trees is has after spec_then move may damaged.
    never_damaged c.from_residual-in_err-push.result
    (refused_for_memory c.from_residual-in_err-push.result c.from_residual-in_err-push.ensures.1) damaged

pub returns-in_err-push-clause-count : goal.returns-in_err-push-clause-count
returns-in_err-push-clause-count g c =
    if_refused c.from_residual-in_err-push.result Memory c.from_residual-in_err-push.ensures.1 _

pub returns-in_err-push-clause-spent : goal.returns-in_err-push-clause-spent
returns-in_err-push-clause-spent g c =
    λ is. absurd (never_spent c.from_residual-in_err-push.result
    (refused_for_memory c.from_residual-in_err-push.result c.from_residual-in_err-push.ensures.1) is)

pub returns-in_err-push-clause-cause : goal.returns-in_err-push-clause-cause
returns-in_err-push-clause-cause g c =
    memory_writes c.from_residual-in_err-push.result
    (refused_for_memory c.from_residual-in_err-push.result c.from_residual-in_err-push.ensures.1)

pub returns-clause-edits : goal.returns-clause-edits
returns-clause-edits g c =
    edits_blamed g.D.Device ⊥ _ _ _ _ _ (λ is. never_ok is) c.loop-key.invariant.edits

pub returns-clause-room : goal.returns-clause-room
returns-clause-room g c = λ honest agrees held left right trees is has after spec_then move full. never_ok full

pub returns-clause-damaged : goal.returns-clause-damaged
returns-clause-damaged g c = λ honest agrees held left right trees is has after spec_then move may damaged.
    never_ok damaged

pub returns-clause-count : goal.returns-clause-count
returns-clause-count g c =
    let n : c.len-count.result ≡ length c.args.file.now.alternates.items =
    omega (arith, c.len-count.ensures, c.args.file.now.alternates.ok) in
    let count = c.loop-key.invariant.count in
    let test = c.loop-key-test.false in
    let end = c.loop-key.auto.key-end in
    omega (arith, n, count, test, end)

pub returns-clause-spent : goal.returns-clause-spent
returns-clause-spent g c = λ is. never_ok is

pub file_tree-tree-requires-clause-key : goal.file_tree-tree-requires-clause-key
file_tree-tree-requires-clause-key g c =
    let n : c.len-count.result ≡ length c.args.file.now.alternates.items =
    omega (arith, c.len-count.ensures, c.args.file.now.alternates.ok) in
    let test = c.loop-key-test.true in
    let low : c.loop-key.key < length c.args.file.now.alternates.items = omega (arith, n, test) in
    low

pub move_pair-requires-clause-key : goal.move_pair-requires-clause-key
move_pair-requires-clause-key g c =
    let n : c.len-count.result ≡ length c.args.file.now.alternates.items =
    omega (arith, c.len-count.ensures, c.args.file.now.alternates.ok) in
    let test = c.loop-key-test.true in
    let low : c.loop-key.key < length c.args.file.now.alternates.items = omega (arith, n, test) in
    low
