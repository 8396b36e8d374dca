-- STRING (COBOL-85, Nucleus, "The STRING statement"). All operands are taken in the order of writing before anything is stored, and the
-- pointer is stored last (own choice).
use Rattle.std.specs.Prelude.{ℕ, ℤ, pos, negsuc, nat_lt, Bool, true, false, ◌||◌, if◌then◌else◌, List, [], ◌∷◌, ◌++◌, length, Option, Some, None, Ok}
use Rattle.items.specs.Items.{number_in}
use Rattle.text_ops.specs.Strings.{StringResult, delimited_characters, string_of_senders}
use Rattle.source_tree.specs.declared.reference.Reference.{Reference}
use Rattle.source_tree.specs.declared.expression.Operand.{Operand}
use Rattle.source_tree.specs.declared.expression.Operand.TheVariants as operand
use Rattle.source_tree.specs.declared.string_statement.Sending.{Sending}
use Rattle.source_tree.specs.declared.string_statement.StringStatement.{StringStatement}
use Rattle.source_tree.specs.Display.{shown_literal}
use Rattle.source_tree.specs.Places.{LocatedItem}
use Rattle.source_tree.specs.Storage.{Storage}
use Rattle.source_tree.specs.Evaluated.{Evaluation, ◌>>=◌, evaluation_of}
use Rattle.source_tree.specs.References.{ItemPlace, part_of, storage_with, place_of, whole_part}
use Rattle.source_tree.specs.State.{State, Outcome, with_value}
use Rattle.source_tree.specs.Arithmetic.{before_stores, store, phrase_for}

-- What a sender or a delimiter is: an item's bytes, or a literal's characters, of a figurative constant one.
abbrev pub text_of : List LocatedItem → Operand → Storage → Evaluation (List ℕ)
text_of items (operand.Item reference) storage = place_of items reference storage >>= (λ place. Ok (part_of storage place))
text_of items (operand.Literal literal) storage = Ok (shown_literal literal.value)

abbrev pub texts_of : List LocatedItem → List Operand → Storage → Evaluation (List (List ℕ))
texts_of items [] storage = Ok []
texts_of items (one ∷ more) storage = text_of items one storage >>= (λ text. texts_of items more storage >>= (λ others. Ok (text ∷ others)))

abbrev pub delimiter_of : List LocatedItem → Option Operand → Storage → Evaluation (Option (List ℕ))
delimiter_of items None storage = Ok None
delimiter_of items (Some one) storage = text_of items one storage >>= (λ text. Ok (Some text))

-- the characters that are put of a text
abbrev pub sent_of : Option (List ℕ) → List ℕ → List ℕ
sent_of None text = text
sent_of (Some delimiter) text = delimited_characters delimiter text

abbrev pub sent_of_each : Option (List ℕ) → List (List ℕ) → List ℕ
sent_of_each delimiter [] = []
sent_of_each delimiter (text ∷ more) = sent_of delimiter text ++ sent_of_each delimiter more

-- The delimiter is written after its senders.
abbrev pub sent_bytes : List LocatedItem → Sending → Storage → Evaluation (List ℕ)
sent_bytes items one storage =
    texts_of items one.senders storage >>= (λ texts. delimiter_of items one.delimiter storage >>= (λ delimiter. Ok (sent_of_each delimiter texts)))

-- the characters of all senders
abbrev pub all_sent : List LocatedItem → List Sending → Storage → Evaluation (List ℕ)
all_sent items [] storage = Ok []
all_sent items (one ∷ more) storage = sent_bytes items one storage >>= (λ text. all_sent items more storage >>= (λ others. Ok (text ++ others)))

-- where the pointer stands, from 1 on; below 1 each place is outside
abbrev pub position : ℤ → ℕ
position (pos n) = n
position (negsuc n) = 0

abbrev pub held_position : Storage → ItemPlace → Evaluation ℕ
held_position storage place = evaluation_of (whole_part (number_in place.item.kind (part_of storage place))) >>= (λ z. Ok (position z))

-- the pointer's place, and the position that it holds; without one the first
abbrev pub pointer_of : List LocatedItem → Option Reference → Storage → Evaluation (Option ItemPlace × ℕ)
pointer_of items None storage = Ok (None, 1)
pointer_of items (Some pointer) storage =
    place_of items pointer storage >>= (λ place. held_position storage place >>= (λ at. Ok (Some place, at)))

-- after a STRING: the storage, and whether there was an overflow
pub record Strings : Type 0 where
  pub storage : Storage
  pub overflow : Bool

abbrev pub store_pointer : Option ItemPlace → ℕ → Storage → Evaluation Storage
store_pointer None n storage = Ok storage
store_pointer (Some place) n storage =
    store false false place (Some (record { coefficient = pos n; scale = 0 })) (before_stores storage) >>= (λ after. Ok after.storage)

abbrev pub store_strung : ItemPlace → Option ItemPlace → StringResult → Storage → Evaluation Strings
store_strung receiver pointer left storage =
    store_pointer pointer left.pointer (storage_with receiver left.receiver storage) >>= (λ after. Ok (record { storage = after; overflow = left.overflow }))

-- With a pointer outside of the receiver nothing is stored.
abbrev pub put_text : ItemPlace → Option ItemPlace → ℕ → List ℕ → Storage → Evaluation Strings
put_text receiver pointer at text storage =
    if nat_lt at 1 || nat_lt (length (part_of storage receiver)) at
    then Ok (record { storage = storage; overflow = true })
    else store_strung receiver pointer (string_of_senders at text (part_of storage receiver)) storage

abbrev pub string_stores : List LocatedItem → {S : Type 0} → StringStatement S → Storage → Evaluation Strings
string_stores items one storage =
    all_sent items one.sendings storage >>= (λ text.
    place_of items one.receiver storage >>= (λ receiver.
    pointer_of items one.pointer storage >>= (λ pointer.
    put_text receiver pointer.0 pointer.1 text storage)))

-- The stores, and then the phrase that fits.
abbrev pub string_outcome : List LocatedItem → {S : Type 0} → (S → State → Outcome) → StringStatement S → State → Outcome
string_outcome items run one s =
    with_value (string_stores items one s.storage) s
    (λ after. phrase_for run one.phrases after.overflow (record s { storage = after.storage }))
