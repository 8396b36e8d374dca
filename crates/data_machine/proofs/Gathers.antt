-- What is gathered.
use Rattle.std.proofs.Common.{◌≡◌, ℕ, ◌≤◌, length, sym, List, arith, Option, Some, None}
use Rattle.std.proofs.lemmas.List.{length-take}
use Rattle.items.specs.declared.item.Item.{Item}
use Rattle.items.specs.Items.{HasLengthOf}
use Rattle.items.specs.Texts.{padded_text}
use Rattle.text_ops.specs.Places.{first_place, up_to}
use Rattle.text_ops.specs.Strings.{delimited_characters}
use Rattle.data_instructions.proofs.Lengths.{padded_whole}

up_to_long : (o : Option ℕ) (text : List ℕ) → length (up_to o text) ≤ length text
up_to_long None text = omega arith
up_to_long (Some n) text = let h = length-take n text in omega (arith, h)

-- what comes before a delimiter is no longer than all of it
pub delimited_long : (delimiter text : List ℕ) → length (delimited_characters delimiter text) ≤ length text
unfolding delimited_characters
delimited_long delimiter text = up_to_long (first_place delimiter text) text

-- Bytes of an item are as many as it has.
pub sized_whole : (item : Item) (bytes : List ℕ) → HasLengthOf item bytes → bytes ≡ padded_text item.length bytes
sized_whole item bytes is = sym (padded_whole item.length bytes is.size)
