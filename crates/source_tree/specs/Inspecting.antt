-- INSPECT (COBOL-85, Nucleus, "The INSPECT statement"). All places and texts are taken in the order of writing before anything is stored;
-- then INSPECT adds to its counters in turn, and then it stores its text (own choice). `InspectWalk` says what entries count and replace.
use Rattle.std.specs.Prelude.{ℕ, pos, false, if◌then◌else◌, List, [], ◌∷◌, ◌++◌, length, map, take, drop, replicate, Option, Some, None, Ok}
use Rattle.std.specs.List.{flat_map, sum}
use Rattle.items.specs.Texts.{padded_text}
use Rattle.source_tree.specs.declared.literal.LiteralValue.{LiteralValue}
use Rattle.source_tree.specs.declared.literal.LiteralValue.TheVariants as literal
use Rattle.source_tree.specs.declared.expression.Operand.{Operand}
use Rattle.source_tree.specs.declared.expression.Operand.TheVariants as operand
use Rattle.source_tree.specs.declared.expression.Operator.TheVariants as operator
use Rattle.source_tree.specs.declared.inspect_statement.Limits.{Limits}
use Rattle.source_tree.specs.declared.inspect_statement.Occurrences.{Occurrences}
use Rattle.source_tree.specs.declared.inspect_statement.TalliedText.{TalliedText}
use Rattle.source_tree.specs.declared.inspect_statement.Tallied.{Tallied}
use Rattle.source_tree.specs.declared.inspect_statement.Tallied.TheVariants as tallied
use Rattle.source_tree.specs.declared.inspect_statement.Tallying.{Tallying}
use Rattle.source_tree.specs.declared.inspect_statement.ReplacedText.{ReplacedText}
use Rattle.source_tree.specs.declared.inspect_statement.Replacing.{Replacing}
use Rattle.source_tree.specs.declared.inspect_statement.Replacing.TheVariants as replacing
use Rattle.source_tree.specs.declared.inspect_statement.InspectStatement.{InspectStatement}
use Rattle.source_tree.specs.Display.{figurative_byte, shown_literal}
use Rattle.source_tree.specs.Places.{LocatedItem}
use Rattle.source_tree.specs.Storage.{Storage}
use Rattle.source_tree.specs.Evaluated.{Evaluation, ◌>>=◌}
use Rattle.source_tree.specs.References.{ItemPlace, part_of, storage_with, place_of}
use Rattle.source_tree.specs.Computed.{operate, number_at}
use Rattle.source_tree.specs.Arithmetic.{before_stores, store}
use Rattle.source_tree.specs.InspectWalk as walk
use Rattle.source_tree.specs.InspectWalk.{Pattern, AnyCharacter, Occurrence, TextEntry}

-- ---- what is taken

-- The bytes of an item, as many as it has.
abbrev pub text_at : Storage → ItemPlace → List ℕ
text_at storage place = padded_text place.item.length (part_of storage place)

-- A literal as replacing text: a figurative constant takes the size of the text that it replaces.
abbrev pub replacing_characters : ℕ → LiteralValue → List ℕ
replacing_characters size (literal.Figurative constant) = replicate size (figurative_byte constant)
replacing_characters size value = shown_literal value

-- the texts of BEFORE and AFTER
pub record LimitTexts : Type 0 where
  pub before : Option (List ℕ)
  pub after : Option (List ℕ)

abbrev pub text_entry : Pattern → List ℕ → LimitTexts → TextEntry
text_entry pattern by limits = record { pattern = pattern; by = by; before = limits.before; after = limits.after }

-- a counter's place, and its entries
pub record Counter : Type 0 where
  pub place : ItemPlace
  pub entries : List TextEntry

-- ---- taking, in the order of writing

-- what is taken of each
abbrev pub take_all : {A B : Type 0} → (A → Evaluation (List B)) → List A → Evaluation (List B)
take_all take_one [] = Ok []
take_all take_one (one ∷ more) = take_one one >>= (λ front. take_all take_one more >>= (λ back. Ok (front ++ back)))

module _ (items : List LocatedItem) (storage : Storage) where
  -- An item's bytes, or a literal's characters; a figurative constant is one.
  abbrev pub take_text : Operand → Evaluation (List ℕ)
  take_text (operand.Item one) = place_of items one storage >>= (λ place. Ok (text_at storage place))
  take_text (operand.Literal one) = Ok (shown_literal one.value)

  -- a replacing text, for a text of this size
  abbrev pub take_by : ℕ → Operand → Evaluation (List ℕ)
  take_by size (operand.Item one) = take_text (operand.Item one)
  take_by size (operand.Literal one) = Ok (replacing_characters size one.value)

  abbrev pub take_limit : Option Operand → Evaluation (Option (List ℕ))
  take_limit None = Ok None
  take_limit (Some one) = take_text one >>= (λ text. Ok (Some text))

  -- BEFORE and AFTER as they stand
  abbrev pub take_limits : Limits → Evaluation LimitTexts
  take_limits one =
      if one.after_first
      then take_limit one.after >>= (λ after. take_limit one.before >>= (λ before. Ok (record { before = before; after = after })))
      else take_limit one.before >>= (λ before. take_limit one.after >>= (λ after. Ok (record { before = before; after = after })))

  abbrev pub take_tallied_text : Occurrences → TalliedText → Evaluation (List TextEntry)
  take_tallied_text how one =
      take_text one.text >>= (λ text. take_limits one.limits >>= (λ limits. Ok (text_entry (Occurrence how text) [] limits ∷ [])))

  abbrev pub take_tallied : Tallied → Evaluation (List TextEntry)
  take_tallied (tallied.Characters limits) = take_limits limits >>= (λ found. Ok (text_entry AnyCharacter [] found ∷ []))
  take_tallied (tallied.Texts how texts) = take_all (take_tallied_text how) texts

  abbrev pub take_counter : Tallying → Evaluation (List Counter)
  take_counter one =
      place_of items one.counter storage
      >>= (λ place. take_all take_tallied one.tallied >>= (λ entries. Ok (record { place = place; entries = entries } ∷ [])))

  abbrev pub take_replaced_text : Occurrences → ReplacedText → Evaluation (List TextEntry)
  take_replaced_text how one =
      take_text one.text >>= (λ text.
      take_by (length text) one.by >>= (λ by.
      take_limits one.limits >>= (λ limits. Ok (text_entry (Occurrence how text) by limits ∷ []))))

  abbrev pub take_replacing : Replacing → Evaluation (List TextEntry)
  take_replacing (replacing.Characters by limits) =
      take_by 1 by >>= (λ text. take_limits limits >>= (λ found. Ok (text_entry AnyCharacter text found ∷ [])))
  take_replacing (replacing.Texts how texts) = take_all (take_replaced_text how) texts

-- ---- counters

-- For each counter how often its entries fit together; the entries of all counters are tried in one walk.
abbrev pub counter_fits : List Counter → List ℕ → List ℕ
counter_fits [] counts = []
counter_fits (one ∷ more) counts = sum (take (length one.entries) counts) ∷ counter_fits more (drop (length one.entries) counts)

abbrev pub all_entries : List Counter → List TextEntry
all_entries = flat_map (λ one. one.entries)

-- One for each fit, cut to the counter's size. Bytes that are no number are a fault.
abbrev pub add_fits : ItemPlace → ℕ → Storage → Evaluation Storage
add_fits place fits storage =
    number_at storage place
    >>= (λ old. store false false place (operate operator.Add (Some old) (Some (record { coefficient = pos fits; scale = 0 }))) (before_stores storage))
    >>= (λ after. Ok after.storage)

abbrev pub add_each : List ItemPlace → List ℕ → Storage → Evaluation Storage
add_each [] fits storage = Ok storage
add_each (place ∷ places) [] storage = Ok storage
add_each (place ∷ places) (one ∷ more) storage = add_fits place one storage >>= add_each places more

-- ---- INSPECT

-- Without REPLACING no text is stored.
abbrev pub store_text : List TextEntry → List ℕ → ItemPlace → Storage → Storage
store_text [] bytes subject storage = storage
store_text (one ∷ more) bytes subject storage = storage_with subject (walk.replaced_subject (one ∷ more) bytes) storage

-- Both phrases look at the subject's bytes as they are before anything is stored.
abbrev pub count_and_replace : List Counter → List TextEntry → List ℕ → ItemPlace → Storage → Evaluation Storage
count_and_replace counters replacing bytes subject storage =
    add_each (map (λ one. one.place) counters) (counter_fits counters (walk.tallies (all_entries counters) bytes)) storage
    >>= (λ after. Ok (store_text replacing bytes subject after))

abbrev pub inspect : List LocatedItem → InspectStatement → Storage → Evaluation Storage
inspect items one storage =
    place_of items one.subject storage >>= (λ subject.
    take_all (take_counter items storage) one.tallying >>= (λ counters.
    take_all (take_replacing items storage) one.replacing >>= (λ replacing.
    count_and_replace counters replacing (part_of storage subject) subject storage)))
