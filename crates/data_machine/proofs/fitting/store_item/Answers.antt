use Rattle.std.proofs.Common.{ap, ◌∙◌}
use Rattle.items.specs.declared.item.Kind.{Kind}
use Rattle.items.specs.declared.item.Kind.TheVariants as kind
use Rattle.items.specs.Values.{bytes_of}
use Rattle.edited_move.specs.Editing.{edited_or_blank}
use Rattle.source_tree.specs.Arithmetic.{held_by, receiver_of}
use Rattle.data_machine.proofs.fitting.store_item.Goals as goal

pub returns-in-Numeric-default : goal.returns-in-Numeric-default
returns-in-Numeric-default c =
    let n = c.in-Numeric-default.numeric in (
      record { digits = n.digits; scale = n.scale; bytes = λ x. bytes_of n (held_by n x) },
      ap (λ (k : Kind). receiver_of k c.args.one.now.editing) c.in-Numeric-default.is-0,
      c.store_numeric.ensures.bytes,
      c.store_numeric.ensures.size,
    )

pub returns-in-NumericEdited-Some : goal.returns-in-NumericEdited-Some
returns-in-NumericEdited-Some c =
    let at = c.in-NumericEdited-Some in (
      record {
        digits = at.picture.digits;
        scale = at.picture.scale;
        bytes = edited_or_blank at.blank_when_zero at.picture;
      },
      ap (λ (k : Kind). receiver_of k c.args.one.now.editing) at.is-0
          ∙ ap (receiver_of (kind.NumericEdited at.blank_when_zero)) at.is-1,
      c.store_edited.ensures.bytes,
      c.store_edited.ensures.size,
    )
