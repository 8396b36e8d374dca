use Rattle.std.proofs.Common.{◌≡◌, List, Err, refl, sym, subst}
use Rattle.std.specs.Prelude.{Option}
use Rattle.std.proofs.lemmas.Result.{err_from_is_err_and}
use Rattle.station.specs.Disk.{Sector}
use Rattle.pages.specs.Pages.{map_now}
use Rattle.pages.specs.declared.error.PagesError.TheVariants.{Damaged}
use Rattle.btree_pages.specs.declared.row_layout.Kind.TheVariants.{Leaf}
use Rattle.btree.specs.Tree.{IsOnPage}
use Rattle.btree.specs.Steps.{LeadsTo}
use Rattle.btree.specs.Propagates.{node_with}
use Rattle.btree.proofs.Frames.{unchanged_on, same_pages}
use Rattle.std.proofs.Common.{inr}
use Rattle.station.specs.Calls.{OnlyReads}
use Rattle.station.proofs.Calls.{reads_then}
use Rattle.pages.specs.declared.error.PagesError.TheVariants.{Device}
use Rattle.btree.proofs.Passing.{passed, never_ok, still_error}
use Rattle.btree.proofs.Passing.{sectors_on}
use Rattle.btree.proofs.DescentCalls.{ends_read}
use Rattle.btree.proofs.descend.descend.Goals as goal

pub returns-in_err-leaf-clause-unchanged : goal.returns-in_err-leaf-clause-unchanged
returns-in_err-leaf-clause-unchanged g c =
    unchanged_on c.args.pages.now c.follow.new.pages c.read_kind.new.pages c.follow.ensures.unchanged
    c.read_kind.ensures.unchanged

pub returns-in_err-leaf-clause-damaged : goal.returns-in_err-leaf-clause-damaged
returns-in_err-leaf-clause-damaged g c = λ h a is levels tree.
    let pages : List (Option Sector) =
    (map_now c.args.pages.now (g.D.Device.state c.args.device.now).disk.present).pages in
    let same = same_pages c.args.pages.now c.follow.new.pages (g.D.Device.state c.args.device.now)
    (g.D.Device.state c.follow.new.device) c.follow.ensures.unchanged (c.follow.ensures.only.state h) in
    let way = c.in_ok-way.way in
    let leads : LeadsTo c.args.layout pages c.args.key.now levels way.path.items way.page way.right =
    c.in_ok-way.ensures.way h a levels tree in
    let from = err_from_is_err_and c.from_residual-in_err-leaf.result c.from_residual-in_err-leaf.ensures.1 in
    let damaged : c.read_kind.result ≡ Err Damaged = cc in
    c.read_kind.ensures.damaged (c.follow.ensures.only.honest.0 h) (c.follow.ensures.agrees h a) damaged
    (node_with way.page leads.rows) refl
    (subst (λ (p : List (Option Sector)). IsOnPage c.args.layout p Leaf (node_with way.page leads.rows)) (sym same)
    leads.stands)

pub returns-clause-way : goal.returns-clause-way
returns-clause-way g c =
    let way = c.in_ok-way.way in
    ends_read g.D.Device _ c.args.pages.now c.follow.new.pages c.args.device.now c.follow.new.device
    c.args.layout c.args.root c.args.key.now way.path.items way.page way.right c.in_ok-leaf.leaf
    c.follow.ensures.unchanged c.follow.ensures.only c.follow.ensures.agrees c.in_ok-way.ensures.way
    c.in_ok-leaf.ensures.node

pub returns-clause-unchanged : goal.returns-clause-unchanged
returns-clause-unchanged g c =
    unchanged_on c.args.pages.now c.follow.new.pages c.read_kind.new.pages c.follow.ensures.unchanged
    c.read_kind.ensures.unchanged

pub read_kind-requires-clause-sectors : goal.read_kind-requires-clause-sectors
read_kind-requires-clause-sectors g c =
    sectors_on c.args.pages.now c.follow.new.pages _ _ c.follow.ensures.unchanged.committed.volume
    c.follow.ensures.only.sectors c.requires.sectors

pub returns-in_err-leaf-clause-only : goal.returns-in_err-leaf-clause-only
returns-in_err-leaf-clause-only g c =
    passed c.from_residual-in_err-leaf.result c.in_err-leaf.field-0.0 c.from_residual-in_err-leaf.ensures.1
    (λ r. OnlyReads g.D.Device (r ≡ Err Device) c.args.device.now c.read_kind.new.device)
    (reads_then g.D.Device _ _ _ _ _ _ (λ is. inr (still_error is)) c.follow.ensures.only
    c.in_err-leaf.ensures.only)

pub returns-clause-only : goal.returns-clause-only
returns-clause-only g c = reads_then g.D.Device _ _ _ _ _ _ (λ is. never_ok is) c.follow.ensures.only
    c.read_kind.ensures.only

pub returns-in_err-leaf-clause-agrees : goal.returns-in_err-leaf-clause-agrees
returns-in_err-leaf-clause-agrees g c =
    λ honest agrees. c.read_kind.ensures.agrees (c.follow.ensures.only.honest.0 honest)
    (c.follow.ensures.agrees honest agrees)

pub returns-clause-agrees : goal.returns-clause-agrees
returns-clause-agrees g c = λ honest agrees. c.read_kind.ensures.agrees (c.follow.ensures.only.honest.0 honest)
    (c.follow.ensures.agrees honest agrees)
