use Rattle.std.proofs.Common.{◌≡◌, ℕ, List, length, sym, ap, subst, ◌∙◌, arith, true}
use Rattle.std.specs.Prelude.{Option, Ok}
use Rattle.station.specs.Disk.{Sector}
use Rattle.pages.specs.declared.page_map.PageMap.{PageMap}
use Rattle.pages.specs.Pages.{IsUnchanged, changed_pages_of, filled_of}
use Rattle.btree.specs.Tree.{IsTreeOrEmpty}
use Rattle.btree.proofs.Frames.{pages_yet, unchanged_on}
use Rattle.std.specs.Prelude.{IfErr, Err}
use Rattle.std.proofs.Common.{◌≢◌, ◌↔◌, ◌≤◌, ◌+◌}
use Rattle.pages.specs.Pages.{is_spent}
use Rattle.pages.specs.declared.error.PagesError.TheVariants.{Damaged, Device, Spent}
use Rattle.btree.specs.Refusals.{IsChangeRefusal}
use Rattle.btree.proofs.Passing.{passed, never_ok, refused_never, still_error}
use Rattle.btree.proofs.Passing.{put_is_rest, rest_is_change, search_is_change, put_not_device}
use Rattle.btree.proofs.Passing.{put_not_damaged}
use Rattle.btree.proofs.Passing.{sectors_on}
use Rattle.btree.proofs.Passing.{few_equal, few_same, false_not_true}
use Rattle.btree.proofs.Frames.{unchanged_still}
use Rattle.btree.specs.Tree.{TreeNode}
use Rattle.btree.proofs.ReadMaps.{change_before}
use Rattle.btree.proofs.ReplaceCalls.{ReplacesEntry, replaced_in_place, unchanged_equal}
use Rattle.btree.specs.Calls.{EditsPages}
use Rattle.btree.proofs.EditedPages.{edits_kept, edits_last, edits_none, edits_read, edits_where}
use Rattle.btree.proofs.tree.Tree.replace.Goals as goal

pub returns-then-branch-clause-replaced : goal.returns-then-branch-clause-replaced
returns-then-branch-clause-replaced g c = λ honest agrees levels holds is.
    let way = c.in_ok-way.way in
    replaced_in_place g.D.Device c.args.self.now c.layout-layout.result c.root-top.result c.args.key.now _
    c.args.pages.now c.follow.new.pages c.set_value_in.new.pages c.args.device.now c.follow.new.device c.args.value.now
    way.path.items way.page way.right
    (record { layout_is = c.layout-layout.ensures.is; top_is = c.root-top.ensures; some = c.if-top-eq0.false })
    c.requires.value c.follow.ensures.unchanged c.follow.ensures.only c.follow.ensures.agrees c.in_ok-way.ensures.way
    (c.set_value_in.ensures.done (c.in_ok-set_value_in.was ∙ ap Ok c.if-branch.true)) honest agrees levels holds

pub returns-clause-replaced : goal.returns-clause-replaced
returns-clause-replaced g c =
    let layout = c.args.self.now.layout in
    let root = c.args.self.now.root in
    let same = c.set_value_in.ensures.same (c.in_ok-set_value_in.was ∙ ap Ok c.if-branch.false) in
    change_before g.D.Device _ c.args.pages.now c.set_value_in.new.pages c.replace_slowly.new.pages c.args.device.now
    c.follow.new.device (λ before after. (levels : List (List TreeNode)) → IsTreeOrEmpty layout before root levels
    → c.replace_slowly.result ≡ Ok true
    → ReplacesEntry layout root c.args.key.now c.args.value.now before levels after)
    (unchanged_equal c.args.pages.now c.follow.new.pages c.set_value_in.new.pages c.follow.ensures.unchanged same)
    c.follow.ensures.only
    (λ h a.
    c.set_value_in.ensures.keeps.agrees (g.D.Device.state c.follow.new.device).disk (c.follow.ensures.agrees h a))
    c.replace_slowly.ensures.replaced

pub returns-clause-missing : goal.returns-clause-missing
returns-clause-missing g c = λ honest agrees levels holds is.
    let old = g.D.Device.state c.args.device.now in
    let now = g.D.Device.state c.follow.new.device in
    let same : c.set_value_in.new.pages ≡ c.follow.new.pages =
    c.set_value_in.ensures.same (c.in_ok-set_value_in.was ∙ ap Ok c.if-branch.false) in
    let pages_are = pages_yet c.args.pages.now c.follow.new.pages c.set_value_in.new.pages old now
    c.follow.ensures.unchanged same (c.follow.ensures.only.state honest) in
    let agreed = c.set_value_in.ensures.keeps.agrees now.disk (c.follow.ensures.agrees honest agrees) in
    let held = subst (λ (pages : List (Option Sector)).
    IsTreeOrEmpty c.args.self.now.layout pages c.args.self.now.root levels) (sym pages_are) holds in
    c.replace_slowly.ensures.missing (c.follow.ensures.only.honest.0 honest) agreed levels held is

pub returns-clause-damaged : goal.returns-clause-damaged
returns-clause-damaged g c = λ honest agrees is levels holds.
    let old = g.D.Device.state c.args.device.now in
    let now = g.D.Device.state c.follow.new.device in
    let same : c.set_value_in.new.pages ≡ c.follow.new.pages =
    c.set_value_in.ensures.same (c.in_ok-set_value_in.was ∙ ap Ok c.if-branch.false) in
    let pages_are = pages_yet c.args.pages.now c.follow.new.pages c.set_value_in.new.pages old now
    c.follow.ensures.unchanged same (c.follow.ensures.only.state honest) in
    let agreed = c.set_value_in.ensures.keeps.agrees now.disk (c.follow.ensures.agrees honest agrees) in
    let held = subst (λ (pages : List (Option Sector)).
    IsTreeOrEmpty c.args.self.now.layout pages c.args.self.now.root levels) (sym pages_are) holds in
    c.replace_slowly.ensures.damaged (c.follow.ensures.only.honest.0 honest) agreed is levels held

pub returns-clause-same : goal.returns-clause-same
returns-clause-same g c = λ is.
    let same : c.set_value_in.new.pages ≡ c.follow.new.pages =
    c.set_value_in.ensures.same (c.in_ok-set_value_in.was ∙ ap Ok c.if-branch.false) in
    unchanged_on c.args.pages.now c.follow.new.pages c.replace_slowly.new.pages c.follow.ensures.unchanged
    (subst (λ (p : PageMap). IsUnchanged p c.replace_slowly.new.pages) same (c.replace_slowly.ensures.same is))

pub returns-clause-changed_pages : goal.returns-clause-changed_pages
returns-clause-changed_pages g c =
    let same : c.set_value_in.new.pages ≡ c.follow.new.pages =
    c.set_value_in.ensures.same (c.in_ok-set_value_in.was ∙ ap Ok c.if-branch.false) in
    let few = c.replace_slowly.ensures.changed_pages in
    let count = ap (λ (p : PageMap). length (changed_pages_of p)) same in
    let still = ap length c.follow.ensures.unchanged.changed_pages in
    omega (arith, few, count, still)

pub returns-clause-filled : goal.returns-clause-filled
returns-clause-filled g c =
    let same : c.set_value_in.new.pages ≡ c.follow.new.pages =
    c.set_value_in.ensures.same (c.in_ok-set_value_in.was ∙ ap Ok c.if-branch.false) in
    let few = c.replace_slowly.ensures.filled in
    let count = ap (λ (p : PageMap). filled_of p) same in
    let still = c.follow.ensures.unchanged.filled in
    omega (arith, few, count, still)

pub replace_slowly-requires-clause-sectors : goal.replace_slowly-requires-clause-sectors
replace_slowly-requires-clause-sectors g c = sectors_on c.args.pages.now c.set_value_in.new.pages _ _
    (c.set_value_in.ensures.keeps.committed.volume ∙ c.follow.ensures.unchanged.committed.volume)
    c.follow.ensures.only.sectors c.requires.sectors

pub returns-then-top-eq0-clause-spent : goal.returns-then-top-eq0-clause-spent
returns-then-top-eq0-clause-spent g c =
    (λ is. never_ok is, λ both. absurd (both.1 (sym c.root-top.ensures ∙ c.if-top-eq0.true)))

pub returns-in_err-way-clause-spent : goal.returns-in_err-way-clause-spent
returns-in_err-way-clause-spent g c = passed c.from_residual.result c.in_err-way.field-0.0 c.from_residual.ensures.1
    (λ r. (r ≡ Err Spent) ↔ ((is_spent c.args.pages.now ≡ true) × (c.args.self.now.root ≢ 0))) (
      λ is. (c.in_err-way.ensures.spent.0 (still_error is), λ none. c.if-top-eq0.false (c.root-top.ensures ∙ none)),
      λ both. still_error (c.in_err-way.ensures.spent.1 both.0),
    )

pub returns-in_err-set_value_in-clause-spent : goal.returns-in_err-set_value_in-clause-spent
returns-in_err-set_value_in-clause-spent g c = passed c.from_residual-in_err-set_value_in.result
    c.in_err-set_value_in.field-0.0 c.from_residual-in_err-set_value_in.ensures.1
    (λ r. (r ≡ Err Spent) ↔ ((is_spent c.args.pages.now ≡ true) × (c.args.self.now.root ≢ 0))) (
      λ is. (
        sym c.follow.ensures.unchanged.committed.spent ∙ c.in_err-set_value_in.ensures.spent (still_error is),
        λ none. c.if-top-eq0.false (c.root-top.ensures ∙ none),
      ),
      λ both. never_ok (sym c.in_ok-way.was ∙ c.follow.ensures.spent.1 both.0),
    )

pub returns-then-branch-clause-spent : goal.returns-then-branch-clause-spent
returns-then-branch-clause-spent g c =
    (λ is. never_ok is, λ both. never_ok (sym c.in_ok-way.was ∙ c.follow.ensures.spent.1 both.0))

pub returns-clause-spent : goal.returns-clause-spent
returns-clause-spent g c = (
  λ is. (
    sym (c.set_value_in.ensures.keeps.committed.spent ∙ c.follow.ensures.unchanged.committed.spent)
        ∙ (c.replace_slowly.ensures.spent.0 is).0,
    (c.replace_slowly.ensures.spent.0 is).1,
  ),
  λ both. never_ok (sym c.in_ok-way.was ∙ c.follow.ensures.spent.1 both.0),
)

pub returns-in_err-way-clause-cause : goal.returns-in_err-way-clause-cause
returns-in_err-way-clause-cause g c = passed c.from_residual.result c.in_err-way.field-0.0 c.from_residual.ensures.1
    (λ r. IfErr r IsChangeRefusal)
    (search_is_change c.layout-layout.result c.in_err-way.field-0.0 c.in_err-way.ensures.cause)

pub returns-in_err-set_value_in-clause-cause : goal.returns-in_err-set_value_in-clause-cause
returns-in_err-set_value_in-clause-cause g c = passed c.from_residual-in_err-set_value_in.result
    c.in_err-set_value_in.field-0.0 c.from_residual-in_err-set_value_in.ensures.1
    (λ r. IfErr r IsChangeRefusal)
    (rest_is_change c.in_err-set_value_in.field-0.0
    (put_is_rest c.in_err-set_value_in.field-0.0 c.in_err-set_value_in.ensures.cause))

pub returns-then-top-eq0-clause-damaged : goal.returns-then-top-eq0-clause-damaged
returns-then-top-eq0-clause-damaged g c = λ honest agrees is. never_ok is

pub returns-then-branch-clause-damaged : goal.returns-then-branch-clause-damaged
returns-then-branch-clause-damaged g c = λ honest agrees is. never_ok is

pub returns-in_err-set_value_in-clause-damaged : goal.returns-in_err-set_value_in-clause-damaged
returns-in_err-set_value_in-clause-damaged g c =
    λ honest agrees is levels holds. passed c.from_residual-in_err-set_value_in.result c.in_err-set_value_in.field-0.0
    c.from_residual-in_err-set_value_in.ensures.1
    (λ r. r ≡ Err Damaged → ⊥)
    (λ e. put_not_damaged c.in_err-set_value_in.field-0.0 c.in_err-set_value_in.ensures.cause e) is

pub returns-in_err-way-clause-replaced : goal.returns-in_err-way-clause-replaced
returns-in_err-way-clause-replaced g c =
    λ honest agrees levels holds is. refused_never _ _ _ c.from_residual.ensures.1 is

pub returns-in_err-way-clause-missing : goal.returns-in_err-way-clause-missing
returns-in_err-way-clause-missing g c =
    λ honest agrees levels holds is. refused_never _ _ _ c.from_residual.ensures.1 is

pub returns-in_err-way-clause-same : goal.returns-in_err-way-clause-same
returns-in_err-way-clause-same g c = λ is. refused_never _ _ _ c.from_residual.ensures.1 is

pub returns-in_err-set_value_in-clause-replaced : goal.returns-in_err-set_value_in-clause-replaced
returns-in_err-set_value_in-clause-replaced g c =
    λ honest agrees levels holds is. refused_never _ _ _ c.from_residual-in_err-set_value_in.ensures.1 is

pub returns-in_err-set_value_in-clause-missing : goal.returns-in_err-set_value_in-clause-missing
returns-in_err-set_value_in-clause-missing g c =
    λ honest agrees levels holds is. refused_never _ _ _ c.from_residual-in_err-set_value_in.ensures.1 is

pub returns-in_err-set_value_in-clause-same : goal.returns-in_err-set_value_in-clause-same
returns-in_err-set_value_in-clause-same g c = λ is. refused_never _ _ _ c.from_residual-in_err-set_value_in.ensures.1 is

pub returns-then-top-eq0-clause-replaced : goal.returns-then-top-eq0-clause-replaced
returns-then-top-eq0-clause-replaced g c = λ honest agrees levels holds is. false_not_true is

pub returns-then-top-eq0-clause-same : goal.returns-then-top-eq0-clause-same
returns-then-top-eq0-clause-same g c = λ is. unchanged_still c.args.pages.now

pub returns-then-branch-clause-missing : goal.returns-then-branch-clause-missing
returns-then-branch-clause-missing g c = λ honest agrees levels holds is. false_not_true (sym is)

pub returns-then-branch-clause-same : goal.returns-then-branch-clause-same
returns-then-branch-clause-same g c = λ is. false_not_true (sym is)

pub returns-in_err-way-clause-changed_pages : goal.returns-in_err-way-clause-changed_pages
returns-in_err-way-clause-changed_pages g c = few_equal (changed_pages_of c.args.pages.now)
    (changed_pages_of c.follow.new.pages) 1 c.follow.ensures.unchanged.changed_pages

pub returns-in_err-way-clause-filled : goal.returns-in_err-way-clause-filled
returns-in_err-way-clause-filled g c =
    few_same (filled_of c.args.pages.now) (filled_of c.follow.new.pages) 1 c.follow.ensures.unchanged.filled

pub returns-in_err-set_value_in-clause-changed_pages : goal.returns-in_err-set_value_in-clause-changed_pages
returns-in_err-set_value_in-clause-changed_pages g c =
    subst (λ (l : List ℕ). length (changed_pages_of c.set_value_in.new.pages) ≤ length l + 1)
    c.follow.ensures.unchanged.changed_pages c.set_value_in.ensures.changed_pages

pub returns-in_err-set_value_in-clause-filled : goal.returns-in_err-set_value_in-clause-filled
returns-in_err-set_value_in-clause-filled g c =
    subst (λ (n : ℕ). filled_of c.set_value_in.new.pages ≤ n + 1) c.follow.ensures.unchanged.filled
    c.set_value_in.ensures.filled

pub returns-then-branch-clause-changed_pages : goal.returns-then-branch-clause-changed_pages
returns-then-branch-clause-changed_pages g c =
    subst (λ (l : List ℕ). length (changed_pages_of c.set_value_in.new.pages) ≤ length l + 1)
    c.follow.ensures.unchanged.changed_pages c.set_value_in.ensures.changed_pages

pub returns-then-branch-clause-filled : goal.returns-then-branch-clause-filled
returns-then-branch-clause-filled g c =
    subst (λ (n : ℕ). filled_of c.set_value_in.new.pages ≤ n + 1) c.follow.ensures.unchanged.filled
    c.set_value_in.ensures.filled

pub returns-then-top-eq0-clause-edits : goal.returns-then-top-eq0-clause-edits
returns-then-top-eq0-clause-edits g c =
    edits_where g.D.Device _ _ _ _ _ _ (λ is. never_ok is)
    (edits_none g.D.Device c.args.pages.now c.args.device.now)

pub returns-in_err-way-clause-edits : goal.returns-in_err-way-clause-edits
returns-in_err-way-clause-edits g c =
    let way = c.in_err-way.ensures in
    passed c.from_residual.result c.in_err-way.field-0.0 c.from_residual.ensures.1
    (λ r. EditsPages g.D.Device (r ≡ Err Device) c.args.pages.now c.args.device.now c.follow.new.pages
    c.follow.new.device)
    (edits_where g.D.Device _ _ _ _ _ _ (λ is. still_error is)
    (edits_read g.D.Device _ _ _ _ _ way.only way.unchanged way.agrees))

pub returns-in_err-set_value_in-clause-edits : goal.returns-in_err-set_value_in-clause-edits
returns-in_err-set_value_in-clause-edits g c =
    let way = c.follow.ensures in
    let x = c.in_err-set_value_in.field-0.0 in
    passed c.from_residual-in_err-set_value_in.result x c.from_residual-in_err-set_value_in.ensures.1
    (λ r. EditsPages g.D.Device (r ≡ Err Device) c.args.pages.now c.args.device.now c.set_value_in.new.pages
    c.follow.new.device)
    (edits_kept g.D.Device _ _ _ _ _ _ _ (λ is. put_not_device x c.in_err-set_value_in.ensures.cause is)
    (edits_read g.D.Device _ _ _ _ _ way.only way.unchanged way.agrees) c.set_value_in.ensures.keeps)

pub returns-then-branch-clause-edits : goal.returns-then-branch-clause-edits
returns-then-branch-clause-edits g c =
    let way = c.follow.ensures in
    edits_kept g.D.Device _ _ _ _ _ _ _ (λ is. never_ok is)
    (edits_read g.D.Device _ _ _ _ _ way.only way.unchanged way.agrees) c.set_value_in.ensures.keeps

pub returns-clause-edits : goal.returns-clause-edits
returns-clause-edits g c =
    let way = c.follow.ensures in
    let slow = c.replace_slowly.ensures in
    edits_last g.D.Device _ _ _ _ _ _ _ _ _ (λ is. is)
    (edits_kept g.D.Device _ ⊥ _ _ _ _ _ (λ never. absurd never)
    (edits_read g.D.Device _ _ _ _ _ way.only way.unchanged way.agrees) c.set_value_in.ensures.keeps)
    slow.edits
