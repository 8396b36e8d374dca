-- What the rules of INSPECT say of its texts and entries.
use Rattle.std.proofs.Common.{◌≡◌, ℕ, Bool, true, false, List, [], ◌∷◌, ◌++◌, map, Option, Some, None, refl, sym, ap}
use Rattle.std.proofs.Common.{◌+◌, ◌∙◌}
use Rattle.std.specs.Prelude.{replicate, slice_get, not, is_some}
use Rattle.std.specs.List.{AllByRecursion}
use Rattle.source_tree.specs.declared.literal.Figurative.{Figurative}
use Rattle.source_tree.specs.declared.literal.LiteralValue.{LiteralValue}
use Rattle.source_tree.specs.declared.literal.LiteralValue.TheVariants as literal
use Rattle.source_tree.specs.declared.literal.Literal.{Literal}
use Rattle.source_tree.specs.declared.reference.Part.{Part}
use Rattle.source_tree.specs.declared.reference.Reference.{Reference}
use Rattle.source_tree.specs.declared.expression.Operand.{Operand}
use Rattle.source_tree.specs.declared.expression.Operand.TheVariants as operand
use Rattle.source_tree.specs.declared.inspect_statement.Limits.{Limits}
use Rattle.source_tree.specs.declared.inspect_statement.Occurrences.{Occurrences}
use Rattle.source_tree.specs.declared.inspect_statement.TalliedText.{TalliedText}
use Rattle.source_tree.specs.declared.inspect_statement.Tallied.{Tallied}
use Rattle.source_tree.specs.declared.inspect_statement.Tallied.TheVariants as tallied
use Rattle.source_tree.specs.declared.inspect_statement.Tallying.{Tallying}
use Rattle.source_tree.specs.declared.inspect_statement.ReplacedText.{ReplacedText}
use Rattle.source_tree.specs.declared.inspect_statement.Replacing.{Replacing}
use Rattle.source_tree.specs.declared.inspect_statement.Replacing.TheVariants as replacing
use Rattle.source_tree.specs.declared.inspect_statement.InspectStatement.{InspectStatement}
use Rattle.source_tree.specs.Broken.{RuleBreach, each}
use Rattle.source_tree.specs.Display.{figurative_byte, shown_literal}
use Rattle.source_tree.specs.LookUp.{items_named, first}
use Rattle.source_tree.specs.NameRules.{reference_rules}
use Rattle.source_tree.specs.Parts.{known_length, seen_through}
use Rattle.source_tree.specs.Places.{LocatedItem}
use Rattle.condition_codegen.specs.ItemParts.{length_shown, has_room, is_measured}
use Rattle.source_tree.specs.InspectRules.{counter_item, inspected_item, inspected_literal, inspected_rules, size_of}
use Rattle.source_tree.specs.InspectRules.{by_rules, limit_rules, ordered_limits, limits_rules, tallied_text_rules}
use Rattle.source_tree.specs.InspectRules.{tallied_rules, tallying_rules, replaced_text_rules, replacing_rules}
use Rattle.source_tree.specs.InspectRules.{inspect_rules, TextSize, Exactly}
use Rattle.source_tree.specs.InspectLayout.{Source, Bytes, Characters, InspectArgument, Counter, Text, source}
use Rattle.source_tree.specs.InspectLayout.{found_size, text_size, replacing_literal, replacing_text, EntryPattern, Any}
use Rattle.source_tree.specs.InspectLayout.{Occurs, InspectEntry, tallied_text, replaced_text, all_inspected}
use Rattle.source_tree.specs.InspectLayout.{tallied_entries, counter_entries, replacing_entries, what_texts, by_texts}
use Rattle.source_tree.specs.InspectLayout.{limit_text, limit_texts, entry_texts, entries_texts, tallying_takings}
use Rattle.source_tree.specs.InspectLayout.{all_replaced, takings, count_of, measured_texts}
use Rattle.source_tree.specs.MeasuredTexts.{room_by, part_room, room_of}
use Rattle.data_instructions.specs.declared.gather.Gather.{Gather}
use Rattle.data_instructions.specs.declared.instruction.DataInstruction.TheVariants as i
use Rattle.data_instructions.specs.InspectCodes.{gather_by}
use Rattle.code_image.specs.declared.code.Code.{Code}
use Rattle.condition_codegen.specs.DataCode.{item_number, take_fragment}
use Rattle.statement_codegen.specs.InspectCode.{gather, one_if, taken_fragment}
use Rattle.condition_codegen.proofs.Lists.{left_none, right_none, all_both}
use Rattle.statement_codegen.proofs.NamedItems.{only_named, item_there}

-- ---- the parts of a statement

pub record KeepsInspect (items : List LocatedItem) (one : InspectStatement) : Type 0 where
  pub subject : reference_rules items inspected_item one.subject ≡ []
  pub tallying : each (tallying_rules items) one.tallying ≡ []
  pub replacing : each (replacing_rules items) one.replacing ≡ []

pub keeps_inspect : (items : List LocatedItem) (one : InspectStatement) → inspect_rules items one ≡ []
    → KeepsInspect items one
keeps_inspect items one e =
    let a = reference_rules items inspected_item one.subject in
    let b = each (tallying_rules items) one.tallying in
    let c = each (replacing_rules items) one.replacing in
    let f = left_none (a ++ b) c e in
    record { subject = left_none a b f; tallying = right_none a b f; replacing = right_none (a ++ b) c e }

module _ (items : List LocatedItem) where
  -- the length of what a reference shows is the size of its text
  pub named_length : (one : Reference) → reference_rules items inspected_item one ≡ []
      → length_shown one (slice_get items (item_number items one.item)) ≡ text_size items (Bytes one)
  named_length one e =
      let found = only_named one.item.name.place _ (items_named items one.item) (left_none _ _ e) in
      ap (length_shown one) (item_there items one.item found.0 found.1)
      ∙ sym (ap (λ l. found_size (first (map (seen_through one) l))) found.1)

-- ---- texts that are measured

room_by_is : (size : ℕ) (length : Option ℕ) → not (is_some length) ≡ is_some (room_by size length)
room_by_is size None = refl
room_by_is size (Some length) = refl

part_room_is : (found : LocatedItem) (part : Option Part)
    → has_room found.item.length part ≡ is_some (part_room (Some found) part)
part_room_is found None = refl
part_room_is found (Some part) = room_by_is found.item.length (known_length found.item.length part.first part.length)

gather_is : (room : Option ℕ) (measured : Bool) → measured ≡ is_some room → gather measured ≡ gather_by room
gather_is None measured e = ap gather e
gather_is (Some room) measured e = ap gather e

count_is : (room : Option ℕ) (measured : Bool) → measured ≡ is_some room → one_if measured ≡ count_of room + 0
count_is None measured e = ap one_if e
count_is (Some room) measured e = ap one_if e

module _ (items : List LocatedItem) (one : Reference) where
  room_shown : reference_rules items inspected_item one ≡ []
      → is_measured one (slice_get items (item_number items one.item)) ≡ is_some (room_of items one)
  room_shown e =
      let found = only_named one.item.name.place _ (items_named items one.item) (left_none _ _ e) in
      ap (is_measured one) (item_there items one.item found.0 found.1) ∙ part_room_is found.0 one.part
      ∙ sym (ap (λ l. is_some (part_room (first l) one.part)) found.1)

  pub taken_once : (measured : Bool) (before : Code) → reference_rules items inspected_item one ≡ []
      → measured ≡ is_measured one (slice_get items (item_number items one.item))
      → take_fragment items (i.Gather (gather measured)) one before ≡ taken_fragment items (Text (Bytes one)) before
  taken_once measured before e is = ap (λ (g : Gather). take_fragment items (i.Gather g) one before)
      (gather_is (room_of items one) measured (is ∙ room_shown e))

  pub measured_once : (measured : Bool) → reference_rules items inspected_item one ≡ []
      → measured ≡ is_measured one (slice_get items (item_number items one.item))
      → one_if measured ≡ measured_texts items (Text (Bytes one) ∷ [])
  measured_once measured e is = count_is (room_of items one) measured (is ∙ room_shown e)

-- both limits keep their rules, in whatever order they stand
ordered_rules : (items : List LocatedItem) (before after : Option Operand) (turned : Bool)
    → ordered_limits items before after turned ≡ []
    → (limit_rules items before ≡ []) × (limit_rules items after ≡ [])
ordered_rules items before after true e = (
  right_none (limit_rules items after) (limit_rules items before) e,
  left_none (limit_rules items after) (limit_rules items before) e,
)
ordered_rules items before after false e = (
  left_none (limit_rules items before) (limit_rules items after) e,
  right_none (limit_rules items before) (limit_rules items after) e,
)

pub before_kept : (items : List LocatedItem) (one : Limits) → limits_rules items one ≡ []
    → limit_rules items one.before ≡ []
before_kept items one e = (ordered_rules items one.before one.after one.after_first e).0

pub after_kept : (items : List LocatedItem) (one : Limits) → limits_rules items one ≡ []
    → limit_rules items one.after ≡ []
after_kept items one e = (ordered_rules items one.before one.after one.after_first e).1

-- ---- entries

-- What holds of each text holds of those of an entry.
module _ (items : List LocatedItem) (P : Source → Type 0) where
  abbrev pub KeepsWhat : EntryPattern → Type 0
  KeepsWhat Any = Unit {0}
  KeepsWhat (Occurs how text) = P text

  abbrev pub KeepsBy : Option Source → Type 0
  KeepsBy None = Unit {0}
  KeepsBy (Some one) = P one

  abbrev pub KeepsLimit : Option Operand → Type 0
  KeepsLimit None = Unit {0}
  KeepsLimit (Some one) = P (source one)

  pub record KeepsInspected (one : InspectEntry) : Type 0 where
    pub what : KeepsWhat one.what
    pub by : KeepsBy one.by
    pub before : KeepsLimit one.limits.before
    pub after : KeepsLimit one.limits.after

  abbrev pub AllKeep : List InspectEntry → Type 0
  AllKeep = AllByRecursion KeepsInspected

  -- ---- texts, in the order of writing

  what_keep : (one : EntryPattern) → KeepsWhat one → AllByRecursion P (what_texts one)
  what_keep Any h = tt
  what_keep (Occurs how text) h = (h, tt)

  by_keep : (one : Option Source) → KeepsBy one → AllByRecursion P (by_texts one)
  by_keep None h = tt
  by_keep (Some one) h = (h, tt)

  limit_keep : (one : Option Operand) → KeepsLimit one → AllByRecursion P (limit_text one)
  limit_keep None h = tt
  limit_keep (Some one) h = (h, tt)

  limits_keep : (before after : Option Operand) (turned : Bool) → KeepsLimit before → KeepsLimit after
      → AllByRecursion P (limit_texts (record { before = before; after = after; after_first = turned }))
  limits_keep before after true h k =
      all_both P (limit_text after) (limit_text before) (limit_keep after k) (limit_keep before h)
  limits_keep before after false h k =
      all_both P (limit_text before) (limit_text after) (limit_keep before h) (limit_keep after k)

  pub texts_keep : (all : List InspectEntry) → AllKeep all → AllByRecursion P (entries_texts all)
  texts_keep [] h = tt
  texts_keep (one ∷ more) h =
      let what = what_texts one.what in
      let by = by_texts one.by in
      let front = all_both P what by (what_keep one.what h.0.what) (by_keep one.by h.0.by) in
      let limits = limits_keep one.limits.before one.limits.after one.limits.after_first h.0.before h.0.after in
      all_both P (entry_texts one) (entries_texts more) (all_both P (what ++ by) (limit_texts one.limits) front limits)
      (texts_keep more h.1)

  -- what is taken: a counter keeps its rule
  abbrev pub KeepsTaking : InspectArgument → Type 0
  KeepsTaking (Counter one) = reference_rules items counter_item one ≡ []
  KeepsTaking (Text one) = P one

  mapped_keep : (all : List Source) → AllByRecursion P all → AllByRecursion KeepsTaking (map Text all)
  mapped_keep [] h = tt
  mapped_keep (one ∷ more) h = (h.0, mapped_keep more h.1)

  -- ---- from the rules

  module _ (of_item : (one : Reference) → reference_rules items inspected_item one ≡ [] → P (Bytes one))
      (of_literal : (one : Literal) → inspected_literal one one.value ≡ [] → P (Characters (shown_literal one.value)))
      (of_one : (constant : Figurative) → P (Characters (replicate 1 (figurative_byte constant))))
      (of_figurative : (text : Source) → P text → (constant : Figurative)
      → P (Characters (replicate (text_size items text) (figurative_byte constant)))) where
    operand_keeps : (one : Operand) → inspected_rules items one ≡ [] → P (source one)
    operand_keeps (operand.Item one) e = of_item one e
    operand_keeps (operand.Literal one) e = of_literal one e

    as_written : (size : ℕ) (value : LiteralValue) → P (Characters (shown_literal value))
        → ((constant : Figurative) → P (Characters (replicate size (figurative_byte constant))))
        → P (replacing_literal size value)
    as_written size (literal.Figurative constant) h repeated = repeated constant
    as_written size (literal.Numeric number) h repeated = h
    as_written size (literal.Nonnumeric bytes) h repeated = h
    as_written size (literal.All bytes) h repeated = h

    by_keeps : (known : TextSize) (size : ℕ) (by : Operand) → by_rules items known by ≡ []
        → ((constant : Figurative) → P (Characters (replicate size (figurative_byte constant))))
        → P (replacing_text size by)
    by_keeps known size (operand.Item one) e repeated =
        of_item one (left_none (inspected_rules items (operand.Item one)) _ e)
    by_keeps known size (operand.Literal one) e repeated = as_written size one.value
        (of_literal one (left_none (inspected_rules items (operand.Literal one)) _ e)) repeated

    limit_kept : (one : Option Operand) → limit_rules items one ≡ [] → KeepsLimit one
    limit_kept None e = tt
    limit_kept (Some one) e = operand_keeps one e

    ordered_kept : (before after : Option Operand) (turned : Bool) → ordered_limits items before after turned ≡ []
        → KeepsLimit before × KeepsLimit after
    ordered_kept before after true e = (
      limit_kept before (right_none (limit_rules items after) (limit_rules items before) e),
      limit_kept after (left_none (limit_rules items after) (limit_rules items before) e),
    )
    ordered_kept before after false e = (
      limit_kept before (left_none (limit_rules items before) (limit_rules items after) e),
      limit_kept after (right_none (limit_rules items before) (limit_rules items after) e),
    )

    limits_kept : (one : Limits) → limits_rules items one ≡ [] → KeepsLimit one.before × KeepsLimit one.after
    limits_kept one e = ordered_kept one.before one.after one.after_first e

    all_kept : {A : Type 0} (rules : A → List RuleBreach) (entries : A → List InspectEntry)
        → ((one : A) → rules one ≡ [] → AllKeep (entries one))
        → (all : List A) → each rules all ≡ [] → AllKeep (all_inspected entries all)
    all_kept rules entries keep [] e = tt
    all_kept rules entries keep (one ∷ more) e =
        all_both KeepsInspected (entries one) (all_inspected entries more)
        (keep one (left_none (rules one) (each rules more) e))
        (all_kept rules entries keep more (right_none (rules one) (each rules more) e))

    -- TALLYING

    tallied_text_kept : (how : Occurrences) (one : TalliedText) → tallied_text_rules items one ≡ []
        → AllKeep (tallied_text how one ∷ [])
    tallied_text_kept how one e =
        let text =
        operand_keeps one.text (left_none (inspected_rules items one.text) (limits_rules items one.limits) e) in
        let limits =
        limits_kept one.limits (right_none (inspected_rules items one.text) (limits_rules items one.limits) e) in
        (record { what = text; by = tt; before = limits.0; after = limits.1 }, tt)

    tallied_kept : (one : Tallied) → tallied_rules items one ≡ [] → AllKeep (tallied_entries one)
    tallied_kept (tallied.Characters limits) e = let h =
        limits_kept limits e in (record { what = tt; by = tt; before = h.0; after = h.1 }, tt)
    tallied_kept (tallied.Texts how texts) e =
        all_kept (tallied_text_rules items) (λ one. tallied_text how one ∷ []) (tallied_text_kept how) texts e

    counter_kept : (one : Tallying) → tallying_rules items one ≡ [] → AllKeep (counter_entries one)
    counter_kept one e = all_kept (tallied_rules items) tallied_entries tallied_kept one.tallied
        (right_none (reference_rules items counter_item one.counter) (each (tallied_rules items) one.tallied) e)

    -- REPLACING

    replaced_text_kept : (how : Occurrences) (one : ReplacedText) → replaced_text_rules items one ≡ []
        → AllKeep (replaced_text items how one ∷ [])
    replaced_text_kept how one e =
        let a = inspected_rules items one.text in
        let b = by_rules items (size_of items one.text) one.by in
        let c = limits_rules items one.limits in
        let f = left_none (a ++ b) c e in
        let text = operand_keeps one.text (left_none a b f) in
        let size = text_size items (source one.text) in
        let by =
        by_keeps (size_of items one.text) size one.by (right_none a b f) (of_figurative (source one.text) text) in
        let limits = limits_kept one.limits (right_none (a ++ b) c e) in
        (record { what = text; by = by; before = limits.0; after = limits.1 }, tt)

    replacing_kept : (one : Replacing) → replacing_rules items one ≡ [] → AllKeep (replacing_entries items one)
    replacing_kept (replacing.Characters by limits) e =
        let here = left_none (by_rules items (Exactly 1) by) (limits_rules items limits) e in
        let h = limits_kept limits (right_none (by_rules items (Exactly 1) by) (limits_rules items limits) e) in
        (record { what = tt; by = by_keeps (Exactly 1) 1 by here of_one; before = h.0; after = h.1 }, tt)
    replacing_kept (replacing.Texts how texts) e =
        all_kept (replaced_text_rules items) (λ one. replaced_text items how one ∷ []) (replaced_text_kept how) texts e

    -- ---- INSPECT

    pub replaced_keep : (one : InspectStatement) → KeepsInspect items one → AllKeep (all_replaced items one)
    replaced_keep one k =
        all_kept (replacing_rules items) (replacing_entries items) replacing_kept one.replacing k.replacing

    tallying_keep : (all : List Tallying) → each (tallying_rules items) all ≡ []
        → AllByRecursion KeepsTaking (tallying_takings all)
    tallying_keep [] e = tt
    tallying_keep (one ∷ more) e =
        let here = left_none (tallying_rules items one) (each (tallying_rules items) more) e in
        let texts = entries_texts (counter_entries one) in (
          left_none (reference_rules items counter_item one.counter) (each (tallied_rules items) one.tallied) here,
          all_both KeepsTaking (map Text texts) (tallying_takings more)
              (mapped_keep texts (texts_keep (counter_entries one) (counter_kept one here)))
              (tallying_keep more (right_none (tallying_rules items one) (each (tallying_rules items) more) e)),
        )

    pub takings_keep : (one : InspectStatement) → KeepsInspect items one
        → AllByRecursion KeepsTaking (takings items one)
    takings_keep one k =
        let texts = entries_texts (all_replaced items one) in
        all_both KeepsTaking (tallying_takings one.tallying) (map Text texts) (tallying_keep one.tallying k.tallying)
        (mapped_keep texts (texts_keep (all_replaced items one) (replaced_keep one k)))
