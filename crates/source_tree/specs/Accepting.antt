-- ACCEPT (COBOL-85, Nucleus, "The ACCEPT statement").
use Rattle.std.specs.Prelude.{ℕ, List, [], ◌∷◌, drop, Ok}
use Rattle.items.specs.declared.usage.OperationalSign.TheVariants as operational
use Rattle.items.specs.declared.usage.Usage.TheVariants as usage
use Rattle.items.specs.Texts.{padded_text}
use Rattle.source_tree.specs.declared.reference.Reference.{Reference}
use Rattle.source_tree.specs.Places.{LocatedItem}
use Rattle.source_tree.specs.Literals.{Sender, item_sender, numeric_item}
use Rattle.source_tree.specs.Storage.{Storage}
use Rattle.source_tree.specs.Evaluated.{Evaluation, ◌>>=◌}
use Rattle.source_tree.specs.References.{storage_with, place_of}
use Rattle.source_tree.specs.Moving.{move_to}

-- the console's next line; past the end of input there is none, and it counts as empty (own choice)
abbrev pub next_line : List (List ℕ) → List ℕ
next_line [] = []
next_line (line ∷ more) = line

-- those after it
abbrev pub later_lines : List (List ℕ) → List (List ℕ)
later_lines lines = drop 1 lines

-- The line is stored as bytes, cut or padded with spaces.
abbrev pub accept_line : List LocatedItem → List ℕ → Reference → Storage → Evaluation Storage
accept_line items line receiver storage =
    place_of items receiver storage >>= (λ place. Ok (storage_with place (padded_text place.item.length line) storage))

-- the day as an unsigned integer of six digits
abbrev pub date_sender : List ℕ → Sender
date_sender day = item_sender (numeric_item (record { digits = 6; scale = 0; usage = usage.Display operational.Unsigned })) day

-- The day YYMMDD, moved in.
abbrev pub accept_date : List LocatedItem → List ℕ → Reference → Storage → Evaluation Storage
accept_date items day receiver storage = place_of items receiver storage >>= (λ place. move_to (date_sender day) place storage)
