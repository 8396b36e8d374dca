use Rattle.std.proofs.Common.{◌≡◌, ℕ, List, replicate, IfOk, ap, sym, subst, ◌∙◌}
use Rattle.std.specs.Prelude.{slice_get}
use Rattle.declarations.specs.Named.{data_in, items_in}
use Rattle.condition_codegen.specs.DataCode.{item_number}
use Rattle.condition_codegen.proofs.ConditionValues.{descriptions_kept}
use Rattle.condition_codegen.proofs.PartBytes.{part_bytes, part_marks}
use Rattle.condition_codegen.proofs.emitter.Emitter.initial_overlay.Goals as goal

pub initialized_item-requires-clause-files : goal.initialized_item-requires-clause-files
initialized_item-requires-clause-files c =
    let declarations = c.args.self.now.declarations.now in
    descriptions_kept (items_in declarations) (data_in declarations) declarations.declared.file_rules

pub returns-then-is_some-clause-bytes : goal.returns-then-is_some-clause-bytes
returns-then-is_some-clause-bytes c =
    let items = items_in c.args.self.now.declarations.now in
    subst (λ (l : List ℕ). IfOk c.spaces.result (λ made. made.bytes ≡ l))
    (ap (λ n. replicate n 32) c.length_shown.ensures
    ∙ part_bytes c.args.one.now (slice_get items (item_number items c.args.one.now.item))
    (sym c.is_some.ensures ∙ c.if-is_some.true)) c.spaces.ensures.bytes

pub returns-then-is_some-clause-marks : goal.returns-then-is_some-clause-marks
returns-then-is_some-clause-marks c =
    let items = items_in c.args.self.now.declarations.now in
    subst (λ (l : List ℕ). IfOk c.spaces.result (λ made. made.marks ≡ l))
    (ap (λ n. replicate n 1) c.length_shown.ensures
    ∙ part_marks c.args.one.now (slice_get items (item_number items c.args.one.now.item))
    (sym c.is_some.ensures ∙ c.if-is_some.true)) c.spaces.ensures.marks
