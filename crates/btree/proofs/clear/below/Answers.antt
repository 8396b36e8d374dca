use Rattle.std.proofs.Common.{◌≡◌, ◌≤◌, ℕ, List, Err, length, sym, subst, ◌∙◌, rules}
use Rattle.std.specs.Prelude.{Option}
use Rattle.std.specs.List.{All}
use Rattle.std.proofs.lemmas.Result.{err_from_is_err_and, IfOk-weaker}
use Rattle.station.specs.Disk.{Sector}
use Rattle.pages.specs.declared.error.PagesError.TheVariants.{Damaged, Spent}
use Rattle.btree_pages.specs.declared.row_layout.Kind.TheVariants.{Leaf, Inner}
use Rattle.btree.specs.Tree.{rows_of, IsOnPage}
use Rattle.btree.specs.Clears.{HasPages, levels_below}
use Rattle.btree.specs.Changes.{pages_of_map}
use Rattle.btree.proofs.Frames.{unchanged_on, same_pages, ok_or_err}
use Rattle.btree.proofs.Clearing.{first_node, below_leaves, below_inner}
use Rattle.std.specs.Prelude.{IfErr}
use Rattle.std.proofs.Common.{◌↔◌, inr, true}
use Rattle.station.specs.Calls.{OnlyReads}
use Rattle.station.proofs.Calls.{reads_then}
use Rattle.pages.specs.Pages.{is_spent}
use Rattle.pages.specs.declared.error.PagesError.TheVariants.{Device}
use Rattle.btree.specs.Refusals.{IsChangeRefusal}
use Rattle.btree.proofs.Passing.{passed, never_ok, still_error}
use Rattle.btree.proofs.Passing.{read_is_change}
use Rattle.btree.proofs.Passing.{reads_where, sectors_on}
use Rattle.btree.proofs.clear.below.Goals as goal

pub returns-in_err-first-clause-damaged : goal.returns-in_err-first-clause-damaged
returns-in_err-first-clause-damaged g c = λ honest agrees is levels down.
    let from = err_from_is_err_and c.from_residual.result c.from_residual.ensures.1 in
    let damaged : c.read_node.result ≡ Err Damaged = cc in
    let pages = pages_of_map c.args.pages.now (g.D.Device.state c.args.device.now).disk.present in
    let first = first_node c.args.layout pages c.args.numbers.now levels c.requires.some down in
    c.read_node.ensures.damaged honest agrees damaged first.kind first.node first.page first.stands

pub returns-in-Leaf-clause-below : goal.returns-in-Leaf-clause-below
returns-in-Leaf-clause-below g c = λ honest agrees levels few down.
    let pages = pages_of_map c.args.pages.now (g.D.Device.state c.args.device.now).disk.present in
    let leaf : c.in_ok-first.first.kind ≡ Leaf = search rules in
    subst (λ (xs : List ℕ). HasPages xs (levels_below levels)) (sym c.new.ensures.items)
    (below_leaves c.args.layout pages c.args.numbers.now levels c.in_ok-first.first c.requires.some down
    (c.in_ok-first.ensures.node honest agrees) leaf)

pub returns-in-Inner-clause-unchanged : goal.returns-in-Inner-clause-unchanged
returns-in-Inner-clause-unchanged g c = unchanged_on c.args.pages.now c.read_node.new.pages c.children_of.new.pages
    c.read_node.ensures.unchanged c.children_of.ensures.unchanged

pub returns-in-Inner-clause-below : goal.returns-in-Inner-clause-below
returns-in-Inner-clause-below g c = λ honest agrees levels few down.
    let read = c.read_node.ensures in
    let pages = pages_of_map c.args.pages.now (g.D.Device.state c.args.device.now).disk.present in
    let same = same_pages c.args.pages.now c.read_node.new.pages (g.D.Device.state c.args.device.now)
    (g.D.Device.state c.read_node.new.device) read.unchanged (read.only.state honest) in
    let inner : c.in_ok-first.first.kind ≡ Inner = search rules in
    let top = below_inner c.args.layout pages c.args.numbers.now levels c.in_ok-first.first c.requires.some down
    (c.in_ok-first.ensures.node honest agrees) inner in
    IfOk-weaker c.children_of.result _ (λ children. HasPages children.items (levels_below levels))
    (λ children is. subst (λ (xs : List ℕ). HasPages xs (levels_below levels)) (sym is) (top.next few))
    (c.children_of.ensures.children (read.only.honest.0 honest) (read.agrees honest agrees) top.level
    (subst (λ (p : List (Option Sector)). All (IsOnPage c.args.layout p Inner) top.level) (sym same) top.stand) top.is)

pub returns-in-Inner-clause-damaged : goal.returns-in-Inner-clause-damaged
returns-in-Inner-clause-damaged g c = λ honest agrees is levels down.
    let read = c.read_node.ensures in
    let pages = pages_of_map c.args.pages.now (g.D.Device.state c.args.device.now).disk.present in
    let same = same_pages c.args.pages.now c.read_node.new.pages (g.D.Device.state c.args.device.now)
    (g.D.Device.state c.read_node.new.device) read.unchanged (read.only.state honest) in
    let inner : c.in_ok-first.first.kind ≡ Inner = search rules in
    let top = below_inner c.args.layout pages c.args.numbers.now levels c.in_ok-first.first c.requires.some down
    (c.in_ok-first.ensures.node honest agrees) inner in
    c.children_of.ensures.damaged (read.only.honest.0 honest) (read.agrees honest agrees) is top.level
    (subst (λ (p : List (Option Sector)). All (IsOnPage c.args.layout p Inner) top.level) (sym same) top.stand) top.is
    (subst (λ (p : List (Option Sector)). length (rows_of top.level) ≤ length p) (sym same) top.few)

pub returns-in-Inner-clause-spent : goal.returns-in-Inner-clause-spent
returns-in-Inner-clause-spent g c = (
  λ is. sym c.read_node.ensures.unchanged.committed.spent ∙ c.children_of.ensures.spent is,
  λ spent. absurd (ok_or_err c.in_ok-first.first Spent (sym c.in_ok-first.was ∙ c.read_node.ensures.spent.1 spent)),
)

pub returns-in_err-first-clause-only : goal.returns-in_err-first-clause-only
returns-in_err-first-clause-only g c = passed c.from_residual.result c.in_err-first.field-0.0 c.from_residual.ensures.1
    (λ r. OnlyReads g.D.Device (r ≡ Err Device) c.args.device.now c.read_node.new.device)
    (reads_where g.D.Device _ _ _ _ (λ is. still_error is) c.in_err-first.ensures.only)

pub returns-in-Leaf-clause-only : goal.returns-in-Leaf-clause-only
returns-in-Leaf-clause-only g c = reads_where g.D.Device _ _ _ _ (λ is. never_ok is) c.read_node.ensures.only

pub returns-in-Inner-clause-only : goal.returns-in-Inner-clause-only
returns-in-Inner-clause-only g c = reads_then g.D.Device _ _ _ _ _ _ (λ is. inr is) c.read_node.ensures.only
    c.children_of.ensures.only

pub returns-in-Inner-clause-agrees : goal.returns-in-Inner-clause-agrees
returns-in-Inner-clause-agrees g c =
    λ honest agrees. c.children_of.ensures.agrees (c.read_node.ensures.only.honest.0 honest)
    (c.read_node.ensures.agrees honest agrees)

pub children_of-requires-clause-sectors : goal.children_of-requires-clause-sectors
children_of-requires-clause-sectors g c =
    sectors_on c.args.pages.now c.read_node.new.pages _ _ c.read_node.ensures.unchanged.committed.volume
    c.read_node.ensures.only.sectors c.requires.sectors

pub returns-in_err-first-clause-spent : goal.returns-in_err-first-clause-spent
returns-in_err-first-clause-spent g c = passed c.from_residual.result c.in_err-first.field-0.0 c.from_residual.ensures.1
    (λ r. (r ≡ Err Spent) ↔ (is_spent c.args.pages.now ≡ true))
    (λ is. c.in_err-first.ensures.spent.0 (still_error is), λ was. still_error (c.in_err-first.ensures.spent.1 was))

pub returns-in-Leaf-clause-spent : goal.returns-in-Leaf-clause-spent
returns-in-Leaf-clause-spent g c =
    (λ is. never_ok is, λ was. never_ok (sym c.in_ok-first.was ∙ c.read_node.ensures.spent.1 was))

pub returns-in-Leaf-clause-damaged : goal.returns-in-Leaf-clause-damaged
returns-in-Leaf-clause-damaged g c = λ honest agrees is. never_ok is

pub returns-in_err-first-clause-cause : goal.returns-in_err-first-clause-cause
returns-in_err-first-clause-cause g c = passed c.from_residual.result c.in_err-first.field-0.0 c.from_residual.ensures.1
    (λ r. IfErr r IsChangeRefusal)
    (read_is_change c.in_err-first.field-0.0 c.in_err-first.ensures.cause)
