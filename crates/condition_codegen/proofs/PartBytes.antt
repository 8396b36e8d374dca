-- What INITIALIZE puts into parts of items, as bytes and marks.
use Rattle.std.proofs.Common.{◌≡◌, ℕ, true, map, Option, Some, None, refl, sym, ap, ◌∙◌}
use Rattle.std.proofs.lemmas.List.{length-replicate}
use Rattle.std.specs.Prelude.{replicate, is_some}
use Rattle.items.specs.declared.item.Kind.{Kind}
use Rattle.items.specs.declared.item.Kind.TheVariants as kind
use Rattle.edited_move.specs.Moves.{moved_bytes}
use Rattle.source_tree.specs.declared.reference.Part.{Part}
use Rattle.source_tree.specs.declared.reference.Reference.{Reference}
use Rattle.source_tree.specs.Clauses.{or_else}
use Rattle.source_tree.specs.Initializing.{Pattern, whole_pattern, by_kind, entries_pattern, initial_pattern}
use Rattle.source_tree.specs.Levels.{End}
use Rattle.source_tree.specs.Parts.{part_kind, part_item, known_length}
use Rattle.source_tree.specs.Places.{LocatedItem}
use Rattle.data_instructions.specs.TextCodes.{new_byte, new_mark}
use Rattle.condition_codegen.specs.ItemParts.{length_shown}
use Rattle.condition_codegen.specs.PatternCode.{pattern_of}
use Rattle.condition_codegen.proofs.NewBytes.{whole_bytes, whole_marks}

-- A part is filled with spaces.
part_spaces : (of : Kind) (n : ℕ) (within : Pattern)
    → whole_pattern (replicate n 32) ≡ by_kind (part_kind of) within (initial_pattern None (part_item of n))
unfolding moved_bytes
part_spaces kind.Group n within = refl
part_spaces (kind.Alphabetic justified) n within = refl
part_spaces (kind.Alphanumeric justified) n within = refl
part_spaces kind.AlphanumericEdited n within = refl
part_spaces (kind.NumericEdited blank) n within = refl
part_spaces (kind.Numeric numeric) n within = refl

module _ (one : Reference) where
  abbrev with_part : Option Part → Reference
  with_part part = record { item = one.item; subscripts = one.subscripts; part = part }

  spaces_are : (part : Option Part) (found : Option LocatedItem) → is_some part ≡ true
      → whole_pattern (replicate (length_shown (with_part part) found) 32) ≡ pattern_of (with_part part) found
  spaces_are None found e = absurd cc
  spaces_are (Some part) None e = refl
  spaces_are (Some part) (Some found) e = part_spaces found.item.kind
      (or_else (known_length found.item.length part.first part.length) found.item.length)
      (entries_pattern found.inside End)

  pub part_bytes : (found : Option LocatedItem) → is_some one.part ≡ true
      → replicate (length_shown one found) 32 ≡ map new_byte (pattern_of one found)
  part_bytes found e =
      whole_bytes (replicate (length_shown one found) 32) ∙ ap (map new_byte) (spaces_are one.part found e)

  pub part_marks : (found : Option LocatedItem) → is_some one.part ≡ true
      → replicate (length_shown one found) 1 ≡ map new_mark (pattern_of one found)
  part_marks found e =
      sym (ap (λ (n : ℕ). replicate n 1) (length-replicate (length_shown one found) 32))
      ∙ whole_marks (replicate (length_shown one found) 32) ∙ ap (map new_mark) (spaces_are one.part found e)
