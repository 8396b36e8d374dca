use Rattle.std.proofs.Common.{◌≡◌, List, subst}
use Rattle.std.specs.Prelude.{Some, slice_set, OnOk}
use Rattle.station.specs.Disk.{Sector}
use Rattle.pages.specs.Pages.{map_now}
use Rattle.std.proofs.Common.{◌↔◌, inl, inr, true, refl, arith}
use Rattle.std.specs.Prelude.{Err}
use Rattle.pages.specs.Errors.{IsEditRefusal}
use Rattle.pages.specs.Pages.{is_spent}
use Rattle.pages.specs.declared.error.PagesError.TheVariants.{Memory, Spent}
use Rattle.pages.proofs.Keeping.{keeps_self, keeps_committed, keeps_then}
use Rattle.pages.proofs.Passing.{passed, memory_not_spent, on_refused, on_err, never_spent}
use Rattle.pages.proofs.page_map.PageMap.edit_past.Goals as goal

pub returns-clause-map : goal.returns-clause-map
returns-clause-map c =
    subst (λ (b : Sector). OnOk c.change.result ((image : List Sector) → (map_now c.change.new.self image).pages
    ≡ slice_set (map_now c.args.self.now image).pages c.args.page (Some b))) c.in_ok-kept.ensures c.change.ensures.map

pub returns-then-self-clause-filled : goal.returns-then-self-clause-filled
returns-then-self-clause-filled c = omega arith

pub returns-then-self-clause-keeps : goal.returns-then-self-clause-keeps
returns-then-self-clause-keeps c = keeps_self c.args.self.now

pub returns-then-self-clause-cause : goal.returns-then-self-clause-cause
returns-then-self-clause-cause c = inr refl

pub returns-then-self-clause-spent : goal.returns-then-self-clause-spent
returns-then-self-clause-spent c = (λ is. c.if-self.true, λ was. refl)

pub returns-in_err-kept-clause-map : goal.returns-in_err-kept-clause-map
returns-in_err-kept-clause-map c = on_refused c.from_residual.result Memory c.from_residual.ensures.1 _

pub returns-in_err-kept-clause-changes_page : goal.returns-in_err-kept-clause-changes_page
returns-in_err-kept-clause-changes_page c = on_refused c.from_residual.result Memory c.from_residual.ensures.1 _

pub returns-in_err-kept-clause-fills : goal.returns-in_err-kept-clause-fills
returns-in_err-kept-clause-fills c = on_refused c.from_residual.result Memory c.from_residual.ensures.1 _

pub returns-in_err-kept-clause-forgets : goal.returns-in_err-kept-clause-forgets
returns-in_err-kept-clause-forgets c = on_refused c.from_residual.result Memory c.from_residual.ensures.1 _

pub returns-in_err-kept-clause-unchanged : goal.returns-in_err-kept-clause-unchanged
returns-in_err-kept-clause-unchanged c = on_err c.from_residual.result refl

pub returns-in_err-kept-clause-unfilled : goal.returns-in_err-kept-clause-unfilled
returns-in_err-kept-clause-unfilled c = on_err c.from_residual.result refl

pub returns-in_err-kept-clause-err : goal.returns-in_err-kept-clause-err
returns-in_err-kept-clause-err c = on_err c.from_residual.result (λ image. refl)

pub returns-in_err-kept-clause-cache : goal.returns-in_err-kept-clause-cache
returns-in_err-kept-clause-cache c = on_err c.from_residual.result refl

pub returns-in_err-kept-clause-filled : goal.returns-in_err-kept-clause-filled
returns-in_err-kept-clause-filled c = omega arith

pub returns-in_err-kept-clause-keeps : goal.returns-in_err-kept-clause-keeps
returns-in_err-kept-clause-keeps c =
    keeps_committed _ _ (record { volume = refl; mark = refl; spent = refl }) refl (λ pages is. is)

pub returns-in_err-kept-clause-cause : goal.returns-in_err-kept-clause-cause
returns-in_err-kept-clause-cause c = passed c.from_residual.result Memory c.from_residual.ensures.1
    (λ r. IsEditRefusal r) (inl refl)

pub returns-in_err-kept-clause-spent : goal.returns-in_err-kept-clause-spent
returns-in_err-kept-clause-spent c = passed c.from_residual.result Memory c.from_residual.ensures.1
    (λ r. (r ≡ Err Spent) ↔ (is_spent c.args.self.now ≡ true))
    (λ is. memory_not_spent is, λ was. never_spent c.args.self.now.spent c.if-self.false was)

pub returns-clause-keeps : goal.returns-clause-keeps
returns-clause-keeps c = keeps_then _ _ c.change.new.self
    (keeps_committed _ _ (record { volume = refl; mark = refl; spent = refl }) refl (λ pages is. is))
    c.change.ensures.keeps
