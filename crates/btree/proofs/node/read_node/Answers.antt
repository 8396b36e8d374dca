use Rattle.std.proofs.Common.{◌≡◌, List, sym, ap, subst, ◌∙◌}
use Rattle.std.specs.Prelude.{Option, Some, None, Result, IfOk, OnErr, slice_index_or}
use Rattle.station.specs.Disk.{Sector}
use Rattle.pages.specs.Image.{Map}
use Rattle.pages.specs.Pages.{map_now}
use Rattle.pages.specs.declared.error.PagesError.{PagesError}
use Rattle.btree_pages.specs.Node.{Node}
use Rattle.btree.specs.Tree.{IsOnPage, node_at}
use Rattle.btree.specs.Reading.{SpellsNoNode}
use Rattle.btree.proofs.Frames.{unchanged_on}
use Rattle.btree.proofs.TreeNodes.{node_seen, spells_none}
use Rattle.std.proofs.Common.{refl}
use Rattle.station.proofs.Calls.{reads_nothing}
use Rattle.btree.proofs.Passing.{reads_where, sectors_on}
use Rattle.btree.proofs.Passing.{damaged_alone, damaged_is_read}
use Rattle.btree.proofs.node.read_node.Goals as goal

pub returns-in-Some-clause-node : goal.returns-in-Some-clause-node
returns-in-Some-clause-node g c = λ honest agrees.
    let present = (g.D.Device.state c.args.device.now).disk.present in
    let pages : List (Option Sector) = (map_now c.args.pages.now present).pages in
    let bytes = c.in-Some.bytes.now in
    let here : slice_index_or pages c.args.page None ≡ Some bytes =
    c.in-Some.ensures.page (g.D.Device.state c.args.device.now).disk agrees in
    subst (λ (n : Option Node). IfOk c.copy_node.result (λ node. n ≡ Some node))
    (sym (node_seen c.args.layout pages c.args.page bytes here)) c.copy_node.ensures.node

pub returns-in-Some-clause-damaged : goal.returns-in-Some-clause-damaged
returns-in-Some-clause-damaged g c = λ honest agrees is kind node same stands.
    let present = (g.D.Device.state c.args.device.now).disk.present in
    let pages : List (Option Sector) = (map_now c.args.pages.now present).pages in
    let bytes = c.in-Some.bytes.now in
    let here : slice_index_or pages c.args.page None ≡ Some bytes =
    c.in-Some.ensures.page (g.D.Device.state c.args.device.now).disk agrees in
    spells_none c.args.layout pages c.args.page bytes here (subst (λ (r : Result Node PagesError).
    OnErr r (SpellsNoNode c.args.layout bytes)) is c.copy_node.ensures.damaged) kind node same stands

pub returns-clause-unchanged : goal.returns-clause-unchanged
returns-clause-unchanged g c =
    unchanged_on c.args.pages.now c.visit.follows.lender-at-none c.node_loaded.new.pages
    c.visit.follows.holds-at-none.unchanged
    c.node_loaded.ensures.reads.unchanged

pub returns-clause-node : goal.returns-clause-node
returns-clause-node g c = λ honest agrees.
    let present = (g.D.Device.state c.args.device.now).disk.present in
    let noted : (map_now c.visit.follows.lender-at-none present).pages ≡ (map_now c.args.pages.now present).pages =
    ap (λ (m : Map). m.pages) (c.visit.follows.holds-at-none.unchanged.map present) in
    let kept = c.visit.follows.holds-at-none.keeps.agrees (g.D.Device.state c.args.device.now).disk agrees in
    subst (λ (p : List (Option Sector)). IfOk c.node_loaded.result
    (λ node. node_at c.args.layout p c.args.page ≡ Some node)) noted (c.node_loaded.ensures.reads.answer honest kept)

pub returns-clause-damaged : goal.returns-clause-damaged
returns-clause-damaged g c = λ honest agrees is kind node same stands.
    let present = (g.D.Device.state c.args.device.now).disk.present in
    let noted : (map_now c.visit.follows.lender-at-none present).pages ≡ (map_now c.args.pages.now present).pages =
    ap (λ (m : Map). m.pages) (c.visit.follows.holds-at-none.unchanged.map present) in
    let kept = c.visit.follows.holds-at-none.keeps.agrees (g.D.Device.state c.args.device.now).disk agrees in
    c.node_loaded.ensures.reads.damaged honest kept is kind node same
    (subst (λ (p : List (Option Sector)). IsOnPage c.args.layout p kind node) (sym noted) stands)

pub returns-in-Some-clause-only : goal.returns-in-Some-clause-only
returns-in-Some-clause-only g c = reads_where g.D.Device _ _ _ _
    (λ is. damaged_alone c.copy_node.result c.copy_node.ensures.cause is) (reads_nothing g.D.Device c.args.device.now)

pub returns-in-Some-clause-cause : goal.returns-in-Some-clause-cause
returns-in-Some-clause-cause g c = damaged_is_read c.copy_node.result c.copy_node.ensures.cause

pub node_loaded-requires-clause-sectors : goal.node_loaded-requires-clause-sectors
node_loaded-requires-clause-sectors g c = sectors_on c.args.pages.now c.visit.follows.lender-at-none _ _
    c.visit.follows.holds-at-none.keeps.committed.volume refl c.requires.sectors

pub returns-in-Some-clause-agrees : goal.returns-in-Some-clause-agrees
returns-in-Some-clause-agrees g c =
    λ honest agrees. c.visit.follows.holds-at-none.keeps.agrees (g.D.Device.state c.args.device.now).disk agrees

pub returns-clause-agrees : goal.returns-clause-agrees
returns-clause-agrees g c = λ honest agrees. c.node_loaded.ensures.reads.agrees honest
    (c.visit.follows.holds-at-none.keeps.agrees (g.D.Device.state c.args.device.now).disk agrees)

pub returns-clause-spent : goal.returns-clause-spent
returns-clause-spent g c = (
  λ is. sym c.visit.follows.holds-at-none.unchanged.committed.spent ∙ c.node_loaded.ensures.reads.spent.0 is,
  λ was. c.node_loaded.ensures.reads.spent.1 (c.visit.follows.holds-at-none.unchanged.committed.spent ∙ was),
)

pub returns-clause-only : goal.returns-clause-only
returns-clause-only g c = c.node_loaded.ensures.reads.only

pub returns-clause-cause : goal.returns-clause-cause
returns-clause-cause g c = c.node_loaded.ensures.reads.cause
