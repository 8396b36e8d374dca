use Rattle.std.proofs.Common.{length, sym, ap, ◌∙◌}
use Rattle.std.specs.Prelude.{take}
use Rattle.records.specs.Rows.{same_bytes}
use Rattle.alternate_keys.specs.Seen.{begins_with_value}
use Rattle.alternate_keys.proofs.found_rows.begins_with.Goals as goal

pub returns-in-Some : goal.returns-in-Some
returns-in-Some c =
    let value = c.args.value.now in
    c.has_front.ensures ∙ ap (λ k. same_bytes (take (length value) k) value) c.key.ensures
    ∙ ap (begins_with_value value) (sym c.in-Some.is)
