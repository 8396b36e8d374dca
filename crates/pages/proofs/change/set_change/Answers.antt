use Rattle.std.proofs.Common.{◌≡◌, ◌<◌, inl, inr, List, length, refl, sym, ◌∙◌, ap, subst, arith}
use Rattle.std.specs.Prelude.{Option, IfSome}
use Rattle.pages.specs.Needed.{filled_count, Fills}
use Rattle.std.specs.List.{HoldsAt}
use Rattle.std.proofs.lemmas.List.{map_push}
use Rattle.station.specs.Disk.{Sector}
use Rattle.pages.specs.Image.{NamesOnce}
use Rattle.pages.specs.Changes.{pages_after, changed_pages}
use Rattle.pages.specs.declared.change.Change.{Change}
use Rattle.pages.proofs.Edits.{Away, is_only, only_set, same_changed, push_changed, away_changed, changed_at}
use Rattle.pages.proofs.Staging.{applied_more}
use Rattle.station.proofs.TwoPhase.{on_ok}
use Rattle.pages.proofs.Filling.{filled_replaced, filled_pushed, fills_set, fills_pushed, either_way}
use Rattle.pages.proofs.change.set_change.Goals as goal

pub returns-in-Some-clause-changed : goal.returns-in-Some-clause-changed
returns-in-Some-clause-changed c = λ once pages.
    let old = c.args.changes.now.items in
    let low : c.in-Some.i < length old =
    subst (λ (l : List Change). c.in-Some.i < length l) c.deref.ensures.value c.in-Some.ensures.found.0 in
    let here : HoldsAt (λ (x : Change). x.page ≡ c.args.page) old c.in-Some.i = subst (λ (l : List Change).
    HoldsAt (λ (x : Change). x.page ≡ c.args.page) l c.in-Some.i) c.deref.ensures.value c.in-Some.ensures.found.1 in
    let new : Change = record { page = c.args.page; bytes = c.args.bytes } in
    only_set (λ (o : Option Sector). o) pages old c.args.page c.in-Some.i new
    (is_only old c.args.page c.in-Some.i once (λ e. omega (arith, e, c.requires)) low here) refl

pub returns-in-Some-clause-once : goal.returns-in-Some-clause-once
returns-in-Some-clause-once c = λ once.
    let old = c.args.changes.now.items in
    let low : c.in-Some.i < length old =
    subst (λ (l : List Change). c.in-Some.i < length l) c.deref.ensures.value c.in-Some.ensures.found.0 in
    let here : HoldsAt (λ (x : Change). x.page ≡ c.args.page) old c.in-Some.i = subst (λ (l : List Change).
    HoldsAt (λ (x : Change). x.page ≡ c.args.page) l c.in-Some.i) c.deref.ensures.value c.in-Some.ensures.found.1 in
    let new : Change = record { page = c.args.page; bytes = c.args.bytes } in
    subst NamesOnce (sym (same_changed old c.in-Some.i new new low (sym (here new)))) once

pub returns-in-Some-clause-changes_page : goal.returns-in-Some-clause-changes_page
returns-in-Some-clause-changes_page c =
    let old = c.args.changes.now.items in
    let low : c.in-Some.i < length old =
    subst (λ (l : List Change). c.in-Some.i < length l) c.deref.ensures.value c.in-Some.ensures.found.0 in
    let here : HoldsAt (λ (x : Change). x.page ≡ c.args.page) old c.in-Some.i = subst (λ (l : List Change).
    HoldsAt (λ (x : Change). x.page ≡ c.args.page) l c.in-Some.i) c.deref.ensures.value c.in-Some.ensures.found.1 in
    let new : Change = record { page = c.args.page; bytes = c.args.bytes } in
    inl (
      changed_at old c.in-Some.i c.args.page new low (here new),
      same_changed old c.in-Some.i new new low (sym (here new)),
    )

pub returns-in-None-clause-changed : goal.returns-in-None-clause-changed
returns-in-None-clause-changed c = λ once.
    let new : Change = record { page = c.args.page; bytes = c.args.bytes } in
    on_ok c.push_change.result (λ items pages. ap (pages_after pages) items
    ∙ applied_more (λ (o : Option Sector). o) pages c.args.changes.now.items new) c.push_change.ensures.ok

pub returns-in-None-clause-once : goal.returns-in-None-clause-once
returns-in-None-clause-once c = λ once.
    let new : Change = record { page = c.args.page; bytes = c.args.bytes } in
    let away : Away c.args.page c.args.changes.now.items =
    subst (Away c.args.page) c.deref.ensures.value c.in-None.ensures.absent in
    on_ok c.push_change.result (λ items. subst (λ (l : List Change). NamesOnce (changed_pages l)) (sym items)
    (push_changed c.args.changes.now.items new once away)) c.push_change.ensures.ok

pub returns-in-None-clause-changes_page : goal.returns-in-None-clause-changes_page
returns-in-None-clause-changes_page c =
    let new : Change = record { page = c.args.page; bytes = c.args.bytes } in
    let away : Away c.args.page c.args.changes.now.items =
    subst (Away c.args.page) c.deref.ensures.value c.in-None.ensures.absent in
    on_ok c.push_change.result (λ items. inr (
      away_changed c.args.changes.now.items c.args.page away,
      ap changed_pages items ∙ map_push (λ (x : Change). x.page) c.args.changes.now.items new,
    )) c.push_change.ensures.ok

pub returns-in-Some-clause-filled : goal.returns-in-Some-clause-filled
returns-in-Some-clause-filled c = λ once.
    let old = c.args.changes.now.items in
    let low : c.in-Some.i < length old =
    subst (λ (l : List Change). c.in-Some.i < length l) c.deref.ensures.value c.in-Some.ensures.found.0 in
    filled_replaced old c.in-Some.i (record { page = c.args.page; bytes = c.args.bytes }) low

pub returns-in-Some-clause-fills : goal.returns-in-Some-clause-fills
returns-in-Some-clause-fills c = λ once.
    let old = c.args.changes.now.items in
    let low : c.in-Some.i < length old =
    subst (λ (l : List Change). c.in-Some.i < length l) c.deref.ensures.value c.in-Some.ensures.found.0 in
    let here : HoldsAt (λ (x : Change). x.page ≡ c.args.page) old c.in-Some.i = subst (λ (l : List Change).
    HoldsAt (λ (x : Change). x.page ≡ c.args.page) l c.in-Some.i) c.deref.ensures.value c.in-Some.ensures.found.1 in
    fills_set old c.args.page c.in-Some.i c.args.bytes
    (is_only old c.args.page c.in-Some.i once (λ e. omega (arith, e, c.requires.some)) low here)

pub returns-in-None-clause-filled : goal.returns-in-None-clause-filled
returns-in-None-clause-filled c = λ once.
    let new : Change = record { page = c.args.page; bytes = c.args.bytes } in
    either_way c.push_change.result c.push_change.ensures.ok c.push_change.ensures.err
    (λ items. omega (arith, ap filled_count items, filled_pushed c.args.changes.now.items new))
    (λ same. omega (arith, ap filled_count same))

pub returns-in-None-clause-fills : goal.returns-in-None-clause-fills
returns-in-None-clause-fills c = λ once.
    let away : Away c.args.page c.args.changes.now.items =
    subst (Away c.args.page) c.deref.ensures.value c.in-None.ensures.absent in
    on_ok c.push_change.result
    (λ items. subst (λ (l : List Change). IfSome c.args.bytes (λ _. Fills c.args.changes.now.items c.args.page l))
    (sym items) (fills_pushed c.args.changes.now.items c.args.page c.args.bytes away)) c.push_change.ensures.ok
