use Rattle.std.proofs.Common.{◌∙◌, ap, slice_index, sym}
use Rattle.text_ops.specs.Convert.{character_for}
use Rattle.text_ops.specs.Entries.{bytes_in}
use Rattle.text_ops.proofs.Conversions.{table_converts, without_text, without_by}
use Rattle.text_ops.proofs.converting.convert_by.Goals as goal

pub returns : goal.returns
returns c =
    table_converts c.args.texts.now c.args.subject.now c.convert_within.new.subject c.args.one c.in-Some.from
    c.in-Some-by.by c.begun-limits.result (slice_index c.characters_by-table.result) c.requires
    (sym c.text.ensures ∙ c.in-Some.is) c.in-Some-by.is c.begun-limits.ensures
    (λ k h. c.characters_by-table.ensures k h
    ∙ ap (λ l. character_for l c.of-2.result.now k) c.of.ensures.value
    ∙ ap (λ l. character_for (bytes_in c.args.texts.now c.in-Some.from) l k) c.of-2.ensures.value)
    c.convert_within.ensures

pub returns-in_default : goal.returns-in_default
returns-in_default c =
    without_text c.args.texts.now c.args.subject.now c.args.one (sym c.text.ensures ∙ c.in_default.is)

pub returns-in_default-by : goal.returns-in_default-by
returns-in_default-by c = without_by c.args.texts.now c.args.subject.now c.args.one c.in_default-by.is
