-- Worked examples of the definitions.
use Rattle.std.proofs.Common.{◌≡◌, [], ◌∷◌, None, refl, arith}
use Rattle.items.specs.declared.item.Kind.TheVariants as kind
use Rattle.items.specs.Items.{IsItem}
use Rattle.initial_storage.specs.Formed.{IsEditing}
use Rattle.initial_storage.specs.Reach.{reach, last_offset}

-- no table; PIC 99 OCCURS 4; the same in a group of ten bytes that occurs three times
no_table : reach [] ≡ 0
no_table = refl

one_table : reach (record { stride = 2; count = 4 } ∷ []) ≡ 6
one_table = refl

table_of_tables : reach (record { stride = 10; count = 3 } ∷ record { stride = 2; count = 4 } ∷ []) ≡ 26
table_of_tables = refl

-- the last occurrence of the same tables, where the first begins at the byte 5
last_of_no_table : last_offset 5 [] ≡ 5
last_of_no_table = refl

last_of_tables : last_offset 5 (record { stride = 10; count = 3 } ∷ record { stride = 2; count = 4 } ∷ []) ≡ 31
last_of_tables = refl

-- a group of no bytes; an edited item without its picture; a group needs none
no_bytes : IsItem (record { kind = kind.Group; length = 0 }) → ⊥
no_bytes h = absurd (omega (arith, h.0))

no_picture : IsEditing (record { kind = kind.AlphanumericEdited; length = 3 }) None → ⊥
no_picture h = h

plain_group : IsEditing (record { kind = kind.Group; length = 3 }) None
plain_group = tt
