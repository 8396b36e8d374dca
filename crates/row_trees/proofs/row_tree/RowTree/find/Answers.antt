use Rattle.std.proofs.Common.{◌≡◌, inr, Err, List, refl, sym, ap, subst, ◌∙◌}
use Rattle.std.specs.Prelude.{Option, IfSome}
use Rattle.station.specs.Disk.{Sector}
use Rattle.pages.specs.Pages.{map_now}
use Rattle.pages.specs.declared.error.PagesError.TheVariants.{Device}
use Rattle.btree.specs.Calls.{pages_on}
use Rattle.btree.specs.Entries.{Entry, HasLengths}
use Rattle.btree.proofs.Passing.{if_refused, never_ok}
use Rattle.volume_format.proofs.Looks.{looks_blamed, looks_then, looks_past}
use Rattle.row_trees.specs.RowTree.{ChainedTree, IsRowTree}
use Rattle.row_trees.proofs.Calling.{looks_by, refused_by_call}
use Rattle.row_trees.proofs.FoundRows.{none_got, short_got, read_whole, found_long}
use Rattle.row_trees.proofs.Among.{stands_alone}
use Rattle.row_trees.proofs.Forms.{lengths_long, lengths_short, value_made}
use Rattle.row_trees.proofs.Passing.{never_device}
use Rattle.byteorder.specs.Endian.{big_number}
use Rattle.row_trees.proofs.row_tree.RowTree.find.Goals as goal

pub returns-in-None-clause-row : goal.returns-in-None-clause-row
returns-in-None-clause-row g c = λ honest agrees planted is.
    let pages : List (Option Sector) =
    (map_now c.args.pages.now (g.D.Device.state c.args.device.now).disk.present).pages in
    let view : ChainedTree = record { tree = c.self.inside.tree; record_bytes = c.self.inside.record_bytes } in
    none_got pages view planted c.args.key.now c.in_ok-entry.field-0
    (subst (λ (t : ChainedTree). IsRowTree pages t planted) (sym c.self.view_is) is)
    (c.in_ok-entry.ensures.entry honest agrees) c.in-None.is

pub returns-then-self-eq0-clause-row : goal.returns-then-self-eq0-clause-row
returns-then-self-eq0-clause-row g c = λ honest agrees planted is.
    let pages : List (Option Sector) =
    (map_now c.args.pages.now (g.D.Device.state c.args.device.now).disk.present).pages in
    let view : ChainedTree = record { tree = c.self.inside.tree; record_bytes = c.self.inside.record_bytes } in
    short_got pages view planted c.args.key.now c.in_ok-entry.field-0 c.in-Some.entry
    (subst (λ (t : ChainedTree). IsRowTree pages t planted) (sym c.self.view_is) is)
    (c.in_ok-entry.ensures.entry honest agrees) c.in-Some.is c.if-self-eq0.true

pub returns-in_err-value-clause-looks : goal.returns-in_err-value-clause-looks
returns-in_err-value-clause-looks g c =
    let got = c.get.ensures in
    looks_then g.D.Device _ _ _ _ _ _ _ _ _
    (λ is. inr (refused_by_call c.in_err-value.was c.from_residual-in_err-value.ensures.1 is))
    (looks_by g.D.Device _ _ _ _ _ got.only got.unchanged got.agrees)
    (looks_past g.D.Device _ _ _ _ c.read_record.ensures.only)

pub returns-in_err-value-clause-damaged : goal.returns-in_err-value-clause-damaged
returns-in_err-value-clause-damaged g c = λ honest agrees planted is told.
    let pages : List (Option Sector) =
    (map_now c.args.pages.now (g.D.Device.state c.args.device.now).disk.present).pages in
    let view : ChainedTree = record { tree = c.self.inside.tree; record_bytes = c.self.inside.record_bytes } in
    let got = c.get.ensures in
    read_whole g.D.Device _ c.args.pages.now c.get.new.pages c.args.device.now c.get.new.device view planted
    c.args.key.now c.in_ok-entry.field-0 c.in-Some.entry c.self.inside.record_bytes c.first_page-first.result _
    (looks_by g.D.Device _ _ _ _ _ got.only got.unchanged got.agrees) c.read_record.ensures.damaged
    refl (c.first_page-first.ensures ∙ ap (big_number 4) c.value.ensures) c.if-self-eq0.false
    c.in-Some.is honest agrees (subst (λ (t : ChainedTree). IsRowTree pages t planted) (sym c.self.view_is) is)
    (c.in_ok-entry.ensures.entry honest agrees)
    (refused_by_call c.in_err-value.was c.from_residual-in_err-value.ensures.1 told)

pub returns-in_err-extend_from_slice-clause-looks :
    goal.returns-in_err-extend_from_slice-clause-looks
returns-in_err-extend_from_slice-clause-looks g c =
    let got = c.get.ensures in
    let read = c.read_record.ensures in
    looks_then g.D.Device _ _ _ _ _ _ _ _ _
    (λ is. inr (never_device _ c.from_residual-in_err-extend_from_slice.ensures.1 is))
    (looks_by g.D.Device _ _ _ _ _ got.only got.unchanged got.agrees)
    (looks_past g.D.Device _ _ _ _ read.only)

pub returns-clause-looks : goal.returns-clause-looks
returns-clause-looks g c =
    let got = c.get.ensures in
    let read = c.read_record.ensures in
    looks_then g.D.Device _ _ _ _ _ _ _ _ _ (λ is. never_ok is)
    (looks_by g.D.Device _ _ _ _ _ got.only got.unchanged got.agrees)
    (looks_past g.D.Device _ _ _ _ read.only)

pub returns-clause-row : goal.returns-clause-row
returns-clause-row g c =
    let got = c.get.ensures in
    let bytes = c.in_ok-value.value.items in
    found_long g.D.Device (looks_by g.D.Device _ _ _ _ _ got.only got.unchanged got.agrees) c.self.view_is
    c.in_ok-entry.ensures.entry c.in-Some.is c.if-self-eq0.false c.in_ok-value.ensures.long
    (c.first_page-first.ensures ∙ ap (big_number 4) c.value.ensures)
    (value_made bytes c.value-2.result.now _ _ c.in_ok-extend_from_slice.ensures.items c.value-2.ensures)
    c.in_ok-value.ensures.bytes

-- No search succeeded.
pub returns-in_err-entry-clause-looks : goal.returns-in_err-entry-clause-looks
returns-in_err-entry-clause-looks g c =
    let got = c.get.ensures in
    looks_blamed g.D.Device _ _ _ _ _ _ (refused_by_call c.in_err-entry.was c.from_residual.ensures.1)
    (looks_by g.D.Device _ _ _ _ _ got.only got.unchanged got.agrees)

pub returns-in_err-entry-clause-row : goal.returns-in_err-entry-clause-row
returns-in_err-entry-clause-row g c = λ honest agrees planted is. if_refused _ _ c.from_residual.ensures.1 _

pub returns-in_err-entry-clause-damaged : goal.returns-in_err-entry-clause-damaged
returns-in_err-entry-clause-damaged g c = λ honest agrees planted is told.
    let pages = pages_on g.D.Device c.args.pages.now c.args.device.now in
    let view : ChainedTree = record { tree = c.self.inside.tree; record_bytes = c.self.inside.record_bytes } in
    c.get.ensures.damaged honest agrees (refused_by_call c.in_err-entry.was c.from_residual.ensures.1 told)
    planted.levels (stands_alone pages view planted
    (subst (λ (t : ChainedTree). IsRowTree pages t planted) (sym c.self.view_is) is)).tree

pub returns-in_err-entry-clause-spent : goal.returns-in_err-entry-clause-spent
returns-in_err-entry-clause-spent g c =
    λ is. (c.get.ensures.spent.0 (refused_by_call c.in_err-entry.was c.from_residual.ensures.1 is)).0

-- There is no such row, or its record is in the tree.
pub returns-in-None-clause-looks : goal.returns-in-None-clause-looks
returns-in-None-clause-looks g c =
    let got = c.get.ensures in
    looks_blamed g.D.Device (c.get.result ≡ Err Device) _ _ _ _ _ (λ is. never_ok is)
    (looks_by g.D.Device _ _ _ _ _ got.only got.unchanged got.agrees)

pub returns-then-self-eq0-clause-looks : goal.returns-then-self-eq0-clause-looks
returns-then-self-eq0-clause-looks g c =
    let got = c.get.ensures in
    looks_blamed g.D.Device (c.get.result ≡ Err Device) _ _ _ _ _ (λ is. never_ok is)
    (looks_by g.D.Device _ _ _ _ _ got.only got.unchanged got.agrees)

pub returns-then-self-eq0-clause-lengths : goal.returns-then-self-eq0-clause-lengths
returns-then-self-eq0-clause-lengths g c = lengths_short _ c.args.self.now c.in-Some.entry c.self.view_is
    c.if-self-eq0.true (subst (λ (o : Option Entry). IfSome o (HasLengths c.self.inside.tree.layout)) c.in-Some.is
    c.in_ok-entry.ensures.lengths)

-- Or in a chain.
pub returns-in_err-value-clause-row : goal.returns-in_err-value-clause-row
returns-in_err-value-clause-row g c =
    λ honest agrees planted is. if_refused _ _ c.from_residual-in_err-value.ensures.1 _

pub returns-in_err-extend_from_slice-clause-row : goal.returns-in_err-extend_from_slice-clause-row
returns-in_err-extend_from_slice-clause-row g c =
    λ honest agrees planted is. if_refused _ _ c.from_residual-in_err-extend_from_slice.ensures.1 _

pub returns-clause-lengths : goal.returns-clause-lengths
returns-clause-lengths g c =
    let bytes = c.in_ok-value.value.items in
    lengths_long _ c.args.self.now c.in-Some.entry bytes _ c.self.view_is c.if-self-eq0.false c.self.invariant
    (subst (λ (o : Option Entry). IfSome o (HasLengths c.self.inside.tree.layout)) c.in-Some.is
    c.in_ok-entry.ensures.lengths) c.in_ok-value.ensures.long
    (value_made bytes c.value-2.result.now _ _ c.in_ok-extend_from_slice.ensures.items c.value-2.ensures)
