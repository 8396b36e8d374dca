use Rattle.std.proofs.Common.{◌≡◌, ℕ, List, None, Some, ap, sym, ◌∙◌}
use Rattle.std.specs.Prelude.{Option}
use Rattle.std.specs.Option.{option_map}
use Rattle.source_tree.specs.Procedures.{Procedure, only_range, procedures_named}
use Rattle.name_table.specs.declared.procedures.ParagraphRange.{ParagraphRange}
use Rattle.name_table.specs.Procedures.{IsOnlyProcedure, range_at}
use Rattle.name_table.proofs.Noting.{noted_under}
use Rattle.name_table.proofs.procedures.ProcedureNames.range_named.Goals as goal

-- what is found is the range of the only procedure
found_range : (named : List Procedure) (found : Option ParagraphRange) → IsOnlyProcedure named found
    → option_map range_at found ≡ only_range named
found_range named None h = sym (ap only_range h)
found_range named (Some range) h = sym (ap only_range h.1 ∙ ap Some h.2)

pub returns : goal.returns
returns c = λ procedures h.
    let found : c.copied.result ≡ noted_under c.args.name.now.characters c.args.self.now.ranges =
    c.copied.ensures ∙ c.get.ensures.value
    ∙ ap (λ (l : List ℕ). noted_under l c.args.self.now.ranges) c.as_slice.ensures in
    ap (option_map range_at) found
    ∙ found_range (procedures_named procedures c.args.name.now)
    (noted_under c.args.name.now.characters c.args.self.now.ranges) (h.named c.args.name.now)
