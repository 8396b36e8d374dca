-- The code of INSPECT does what it means.
use Rattle.std.proofs.Common.{◌≡◌, ℕ, zero, suc, ◌+◌, pos, Bool, true, cond, length, List, [], ◌∷◌, ◌++◌, map, take}
use Rattle.std.proofs.Common.{drop, refl, sym, ◌∙◌, ap, subst, arith, Option, Some, None}
use Rattle.std.specs.Prelude.{slice_get, nat_le, Ok}
use Rattle.std.proofs.lemmas.Bool.Decides.{nat_tests}
use Rattle.std.proofs.lemmas.List.{append_assoc, append-nil, length-append}
use Rattle.items.specs.Texts.{padded_text}
use Rattle.source_tree.specs.declared.reference.Reference.{Reference}
use Rattle.source_tree.specs.declared.inspect_statement.Tallying.{Tallying}
use Rattle.source_tree.specs.declared.inspect_statement.Converting.{Converting}
use Rattle.source_tree.specs.declared.inspect_statement.InspectStatement.{InspectStatement}
use Rattle.source_tree.specs.Computed.{ArithmeticValue}
use Rattle.source_tree.specs.LookUp.{items_named}
use Rattle.source_tree.specs.Parts.{seen_through}
use Rattle.source_tree.specs.Places.{LocatedItem}
use Rattle.source_tree.specs.Storage.{Storage}
use Rattle.source_tree.specs.Evaluated.{Evaluation, ◌>>=◌, evaluation_of}
use Rattle.source_tree.specs.References.{ItemPlace, place_of, referred_place}
use Rattle.source_tree.specs.Converting.{as_replacing, convert_at, convert_by_spans}
use Rattle.source_tree.specs.MeasuredTexts.{room_of, TextLength, length_at, measured_entry}
use Rattle.source_tree.specs.InspectLayout as layout
use Rattle.source_tree.specs.Inspecting.{text_at}
use Rattle.source_tree.specs.InspectLayout.{Source, Bytes, Characters, InspectArgument, Counter, Text, InspectTaken}
use Rattle.source_tree.specs.InspectLayout.{found_size, text_size, taken_size, tallying_takings, entries_texts}
use Rattle.source_tree.specs.InspectLayout.{counter_entries, entry_counts, takings, inspection, inspected_size}
use Rattle.source_tree.specs.InspectLayout.{with_counter, with_text, text_in, lengths_in, take_each, count_of}
use Rattle.source_tree.specs.InspectLayout.{measured_texts, with_lengths, inspect_at, inspect_by_spans}
use Rattle.source_tree.proofs.PartLengths.{Fits, place_fits}
use Rattle.source_tree.proofs.InspectTaking.{room_long}
use Rattle.source_tree.proofs.Measures.{no_entries}
use Rattle.data_instructions.specs.declared.index.InspectionIndex.{InspectionIndex}
use Rattle.data_instructions.specs.declared.place.Place.{Place}
use Rattle.data_instructions.specs.declared.tables.Inspection.{Inspection}
use Rattle.data_instructions.specs.declared.tables.DataTables.{DataTables}
use Rattle.data_instructions.specs.declared.gather.Gather.TheVariants as g
use Rattle.data_instructions.specs.declared.instruction.DataInstruction.{DataInstruction}
use Rattle.data_instructions.specs.declared.instruction.DataInstruction.TheVariants as i
use Rattle.data_instructions.specs.Tables.{IsTables, shortened_item, item_place, inspection_of}
use Rattle.data_instructions.specs.Scratch.{Scratch, Step, Continues, Stuck, step_with, step_at}
use Rattle.data_instructions.specs.Table.{at_place, at_places, append_step, place_at, number_of, append_measured}
use Rattle.data_instructions.specs.Table.{measured_step, inspected_at, inspected_with, converted_at, at_numbers}
use Rattle.data_instructions.specs.Table.{natural_by, natural_in, lengths_in as lengths_of, measured_inspection, work}
use Rattle.data_instructions.specs.Codes.{go_on, works, IsTakingCode}
use Rattle.data_instructions.specs.InspectCodes.{gather_by, inspect_by, convert_by, AreTakenCode, HasInspection}
use Rattle.data_instructions.specs.InspectCodes.{IsInspectCode, IsConvertCode}
use Rattle.data_instructions.proofs.Integers.{whole_integer}
use Rattle.data_instructions.proofs.Subscripts.{go_with, with_same, with_bind, with_known, works_append, nothing_more}
use Rattle.data_instructions.proofs.Subscripts.{bound, same_Ok, at, go_same}
use Rattle.data_instructions.proofs.Codes.{taking_works, text_works, reference_works, place_shown}
use Rattle.data_instructions.proofs.PartCodes.{first_shown}
use Rattle.data_instructions.proofs.Lengths.{padded_whole}

-- ---- how many counters there are, and how long texts are

abbrev pub counters_in : List InspectArgument → ℕ
counters_in [] = 0
counters_in (Counter one ∷ more) = suc (counters_in more)
counters_in (Text one ∷ more) = counters_in more

texts_behind : (texts : List Source) (more : List InspectArgument)
    → counters_in (map Text texts ++ more) ≡ counters_in more
texts_behind [] more = refl
texts_behind (one ∷ others) more = texts_behind others more

each_counter : (tallying : List Tallying) (more : List InspectArgument) → counters_in more ≡ 0
    → counters_in (tallying_takings tallying ++ more) ≡ length (entry_counts tallying)
each_counter [] more none = none
each_counter (one ∷ others) more none =
    ap suc
    (ap counters_in (append_assoc (map Text (entries_texts (counter_entries one))) (tallying_takings others) more)
    ∙ texts_behind (entries_texts (counter_entries one)) (tallying_takings others ++ more)
    ∙ each_counter others more none)

pub counters_are : (items : List LocatedItem) (one : InspectStatement)
    → counters_in (takings items one) ≡ length (inspection items one).counters
counters_are items one =
    each_counter one.tallying (map Text replacing) (ap counters_in (sym (append-nil (map Text replacing)))
    ∙ texts_behind replacing [])
  where
    replacing : List Source
    replacing = entries_texts (layout.all_replaced items one)

module _ (items : List LocatedItem) where
  taken_long : (all : List InspectArgument) (at : ℕ) (storage : Storage) (taken : InspectTaken)
      → take_each items at all storage ≡ Ok taken → length taken.texts ≡ taken_size items all
  taken_long [] at storage taken e =
      sym
      (ap (λ (t : InspectTaken). length t.texts) (same_Ok (record { counters = []; texts = []; lengths = [] }) taken e))
  taken_long (Counter one ∷ more) at storage taken e =
      let place = bound (place_of items one storage) _ taken e in
      let rest = bound (take_each items at more storage) (λ t. Ok (with_counter place.0 t)) taken place.2 in
      sym (ap (λ (t : InspectTaken). length t.texts) (same_Ok (with_counter place.0 rest.0) taken rest.2))
      ∙ taken_long more at storage rest.0 rest.1
  taken_long (Text (Bytes one) ∷ more) at storage taken e =
      let size = text_size items (Bytes one) in
      let room = room_of items one in
      let place = bound (place_of items one storage) _ taken e in
      let text = text_in room storage place.0 in
      let lengths = lengths_in room at place.0 in
      let rest = bound (take_each items (at + size) more storage) (λ t. Ok (with_text text lengths t)) taken place.2 in
      let whole = length-append text rest.0.texts in
      let front = room_long room size storage place.0 (place_fits items storage one place.0 place.1) in
      let back = taken_long more (at + size) storage rest.0 rest.1 in
      sym (ap (λ (t : InspectTaken). length t.texts) (same_Ok (with_text text lengths rest.0) taken rest.2))
      ∙ omega (arith, whole, front, back)
  taken_long (Text (Characters text) ∷ more) at storage taken e =
      let rest = bound (take_each items (at + length text) more storage) (λ t. Ok (with_text text [] t)) taken e in
      let whole = length-append text rest.0.texts in
      let back = taken_long more (at + length text) storage rest.0 rest.1 in
      sym (ap (λ (t : InspectTaken). length t.texts) (same_Ok (with_text text [] rest.0) taken rest.2))
      ∙ omega (arith, whole, back)

-- ---- lengths on the stack of numbers

-- each over where its text begins, above other numbers
abbrev pub numbers_with : List TextLength → List ArithmeticValue → List ArithmeticValue
numbers_with [] others = others
numbers_with (one ∷ more) others = number_of one.length ∷ number_of one.start ∷ numbers_with more others

natural_is : (n : ℕ) → natural_in (number_of n) ≡ n
natural_is n = ap natural_by (whole_integer (pos n))

lengths_are : (found : List TextLength) → lengths_of (numbers_with found []) ≡ found
lengths_are [] = refl
lengths_are (one ∷ more) =
    ap (λ n. record { start = n; length = natural_in (number_of one.length) } ∷ lengths_of (numbers_with more []))
    (natural_is one.start)
    ∙ ap (λ n. record { start = one.start; length = n } ∷ lengths_of (numbers_with more [])) (natural_is one.length)
    ∙ ap (λ l. one ∷ l) (lengths_are more)

many_numbers : (found : List TextLength) (others : List ArithmeticValue)
    → length (numbers_with found others) ≡ (length found + length found) + length others
many_numbers [] others = omega arith
many_numbers (one ∷ more) others = omega (arith, many_numbers more others)

taken_numbers_are : (found : List TextLength) (others : List ArithmeticValue)
    → take (length found + length found) (numbers_with found others) ≡ numbers_with found []
taken_numbers_are [] others = refl
taken_numbers_are (one ∷ more) others =
    let two : suc (length more) + suc (length more) ≡ suc (suc (length more + length more)) = omega arith in
    ap (λ n. take n (numbers_with (one ∷ more) others)) two
    ∙ ap (λ l. number_of one.length ∷ number_of one.start ∷ l) (taken_numbers_are more others)

left_numbers_are : (found : List TextLength) (others : List ArithmeticValue)
    → drop (length found + length found) (numbers_with found others) ≡ others
left_numbers_are [] others = refl
left_numbers_are (one ∷ more) others =
    let two : suc (length more) + suc (length more) ≡ suc (suc (length more + length more)) = omega arith in
    ap (λ n. drop n (numbers_with (one ∷ more) others)) two ∙ left_numbers_are more others

enough_numbers : (found : List TextLength) (others : List ArithmeticValue)
    → nat_le (length found + length found) (length (numbers_with found others)) ≡ true
enough_numbers found others = grind (arith, nat_tests, many_numbers found others)

-- an instruction that takes the lengths
at_lengths : (found : List TextLength) (others : List ArithmeticValue) (n : ℕ)
    (go : List ArithmeticValue → Scratch → Step) (s : Scratch) → length found + length found ≡ n
    → at_numbers n go (record s { numbers = numbers_with found others })
    ≡ go (numbers_with found []) (record s { numbers = others })
at_lengths found others n go s many =
    let all = numbers_with found others in
    let t : Scratch = record s { numbers = all } in
    subst (λ m. at_numbers m go t ≡ go (numbers_with found []) (record s { numbers = others })) many
    (ap (λ b. cond b (go (take (length found + length found) all)
    (record s { numbers = drop (length found + length found) all })) Stuck) (enough_numbers found others)
    ∙ ap (λ l. go l (record s { numbers = drop (length found + length found) all })) (taken_numbers_are found others)
    ∙ ap (λ l. go (numbers_with found []) (record s { numbers = l })) (left_numbers_are found others))

-- an inspection of the table with these lengths
measured_is : (found : List TextLength) (one : Inspection) (how : layout.Inspection) → inspection_of one ≡ how
    → inspection_of (measured_inspection (numbers_with found []) one) ≡ with_lengths found how
measured_is found one how e =
    ap (λ l. inspection_of (record one {
      tallying = map (measured_entry (length_at l)) one.tallying;
      replacing = map (measured_entry (length_at l)) one.replacing;
    })) (lengths_are found)
    ∙ ap (with_lengths found) e

-- ---- places on the stack, the newest first, and what they are

abbrev AreAt : DataTables → List Place → List ItemPlace → Type 0
AreAt tables [] [] = Unit {0}
AreAt tables [] (r ∷ rs) = ⊥
AreAt tables (p ∷ ps) [] = ⊥
AreAt tables (p ∷ ps) (r ∷ rs) = (place_at p (slice_get tables.items p.item.number) ≡ Some r) × AreAt tables ps rs

-- the oldest first, before others
abbrev oldest : List ItemPlace → List ItemPlace → List ItemPlace
oldest [] others = others
oldest (r ∷ rs) others = oldest rs (r ∷ others)

module _ (tables : DataTables) where
  one_at : (p : Place) (r : ItemPlace) (go : ItemPlace → Step)
      → place_at p (slice_get tables.items p.item.number) ≡ Some r → step_at (slice_get tables.items p.item.number)
      (λ one. go (item_place (shortened_item one p.length) p.offset)) ≡ go r
  one_at p r go e = by_entry (slice_get tables.items p.item.number) e
    where
      by_entry : (o : Option _) → place_at p o ≡ Some r
          → step_at o (λ one. go (item_place (shortened_item one p.length) p.offset)) ≡ go r
      by_entry None none = absurd cc
      by_entry (Some one) some = let same : item_place (shortened_item one p.length) p.offset ≡ r = cc in ap go same

  places_found : (ps : List Place) (rs others : List ItemPlace) (go : List ItemPlace → Scratch → Step)
      (rest : List Place) (s : Scratch) → AreAt tables ps rs
      → at_places tables (length rs) others go (ps ++ rest) s ≡ go (oldest rs others) (record s { places = rest })
  places_found [] [] others go rest s are = refl
  places_found [] (r ∷ rs) others go rest s are = absurd are
  places_found (p ∷ ps) [] others go rest s are = absurd are
  places_found (p ∷ ps) (r ∷ rs) others go rest s are =
      one_at p r (λ place. at_places tables (length rs) (place ∷ others) go (ps ++ rest) s) are.0
      ∙ places_found ps rs (r ∷ others) go rest s are.1

module _ (tables : DataTables) where
  abbrev standing : List Place → Place → List ℕ → List TextLength → Scratch → Scratch
  standing ps p line found s =
      record s { places = ps ++ (p ∷ s.places); line = line; numbers = numbers_with found s.numbers }

module _ (items : List LocatedItem) (tables : DataTables) (order : IsTables tables) where
  -- a text that is measured
  measured_works : (one : Reference) (code : List DataInstruction)
      → IsTakingCode items tables (i.Gather g.Measured) one code → (s : Scratch)
      → works tables code s ≡ step_with (place_of items one s.storage)
      (λ place. append_measured (text_size items (Bytes one)) place s)
  measured_works one code (front, r, is) s =
      let there : Evaluation ItemPlace = referred_place items one r.found s.storage in
      let last : Scratch → Step = λ t. measured_step tables t.places t in
      let size : (seen_through one r.found).item.length ≡ text_size items (Bytes one) =
      ap found_size (sym (first_shown (items_named items one.item) one.part r.found r.named)) in
      ap (λ c. works tables c s) is
      ∙ works_append tables front (i.Gather g.Measured ∷ []) s
      ∙ go_same (works tables front s) (works tables (i.Gather g.Measured ∷ [])) last
      (λ t. nothing_more tables (work tables (i.Gather g.Measured) t))
      ∙ ap (λ step. go_on step last) (reference_works items tables order one front r s)
      ∙ go_with there (λ place. Continues (at r.index place.item.length place.offset s)) last
      ∙ with_known there _ _ (λ place at_place.
      ap (λ o. step_at o (λ it. append_measured it.item.length
      (item_place (shortened_item it place.item.length) place.offset) s)) r.entry
      ∙ ap (λ p. append_measured (seen_through one r.found).item.length p s)
      (place_shown items tables order one front r s.storage place at_place)
      ∙ ap (λ n. append_measured n place s) size)
      ∙ ap (λ o. step_with (evaluation_of o >>= (λ found. referred_place items one found s.storage))
      (λ place. append_measured (text_size items (Bytes one)) place s)) (sym r.named)

  -- a text of an item
  abbrev appended : Option ℕ → ItemPlace → Scratch → Step
  appended None place s = append_step (text_at s.storage place) s
  appended (Some room) place s = append_measured room place s

  bytes_work : (room : Option ℕ) (one : Reference) (code : List DataInstruction) → room_of items one ≡ room
      → IsTakingCode items tables (i.Gather (gather_by room)) one code → (s : Scratch)
      → works tables code s ≡ step_with (place_of items one s.storage) (λ place. appended room place s)
  bytes_work None one code e is s =
      taking_works items tables order (i.Gather g.Sized) (λ place u. append_step (text_at u.storage place) u)
      (λ u. refl)
      one code is s
  bytes_work (Some room) one code e is s =
      measured_works one code is s
      ∙ with_known (place_of items one s.storage) _ _ (λ place at_place.
      let fits = subst (λ o. Fits o (text_size items (Bytes one)) place.item.length) e
      (place_fits items s.storage one place at_place) in
      ap (λ n. append_measured n place s) (sym fits.0))

-- what is taken before an instruction that finds the counters' places on the stack, above the subject's, the lengths on
-- the stack of numbers, and the texts in the line
module _ (items : List LocatedItem) (tables : DataTables) (order : IsTables tables) (last : DataInstruction)
    (size count many : ℕ) (p : Place) (ends : Scratch → List ItemPlace → List ℕ → List TextLength → Step)
    (ending : (ps : List Place) (rs : List ItemPlace) → AreAt tables ps rs → length rs ≡ count
    → (line : List ℕ) (found : List TextLength) → length found ≡ many → (s : Scratch)
    → works tables (last ∷ []) (standing tables ps p line found s)
    ≡ ends s (oldest rs []) (padded_text size line) found) where
  abbrev ended : List ItemPlace → List ℕ → List TextLength → Scratch → InspectTaken → Step
  ended rs line found s taken =
      ends s (oldest rs taken.counters) (padded_text size (line ++ taken.texts)) (taken.lengths ++ found)

  -- after a text that was added to the line
  further : (more : List InspectArgument) (at : ℕ) (back : List DataInstruction) (ps : List Place)
      (rs : List ItemPlace) (line text : List ℕ) (own found : List TextLength) (s : Scratch)
      → length (line ++ text) ≡ at
      → works tables (back ++ (last ∷ [])) (standing tables ps p (line ++ text) (own ++ found) s)
      ≡ step_with (take_each items (length (line ++ text)) more s.storage) (ended rs (line ++ text) (own ++ found) s)
      → works tables (back ++ (last ∷ [])) (standing tables ps p (line ++ text) (own ++ found) s)
      ≡ step_with (take_each items at more s.storage >>= (λ taken. Ok (with_text text own taken)))
      (ended rs line found s)
  further more at back ps rs line text own found s long rest =
      rest
      ∙ ap (λ n. step_with (take_each items n more s.storage) (ended rs (line ++ text) (own ++ found) s)) long
      ∙ with_same (take_each items at more s.storage) _ _ (λ taken.
      ap (λ l. ends s (oldest rs taken.counters) (padded_text size l) (taken.lengths ++ (own ++ found)))
      (append_assoc line text taken.texts)
      ∙ ap (ends s (oldest rs taken.counters) (padded_text size (line ++ (text ++ taken.texts))))
      (sym (append_assoc taken.lengths own found)))
      ∙ sym (with_bind (take_each items at more s.storage) (λ taken. Ok (with_text text own taken))
      (ended rs line found s))

  -- an item's text that was added
  added : (room : Option ℕ) (n : ℕ) (more : List InspectArgument) (back : List DataInstruction) (ps : List Place)
      (rs : List ItemPlace) (line : List ℕ) (found : List TextLength) (s : Scratch) (place : ItemPlace)
      → Fits room n place.item.length
      → ((text : List ℕ) (own : List TextLength) → length own ≡ count_of room
      → works tables (back ++ (last ∷ [])) (standing tables ps p (line ++ text) (own ++ found) s)
      ≡ step_with (take_each items (length (line ++ text)) more s.storage) (ended rs (line ++ text) (own ++ found) s))
      → go_on (appended items tables order room place (standing tables ps p line found s))
      (works tables (back ++ (last ∷ [])))
      ≡ step_with (take_each items (length line + n) more s.storage
      >>= (λ taken. Ok (with_text (text_in room s.storage place) (lengths_in room (length line) place) taken)))
      (ended rs line found s)
  added None n more back ps rs line found s place fits rest =
      let text = text_at s.storage place in
      let long = room_long None n s.storage place fits in
      let whole = length-append line text in
      further more (length line + n) back ps rs line text [] found s (omega (arith, whole, long)) (rest text [] refl)
  added (Some room) n more back ps rs line found s place fits rest =
      let text = padded_text room (text_at s.storage place) in
      let own : List TextLength = record { start = length line; length = place.item.length } ∷ [] in
      let long = room_long (Some room) n s.storage place fits in
      let whole = length-append line text in
      further more (length line + n) back ps rs line text own found s (omega (arith, whole, long)) (rest text own refl)

  -- what is taken, and then the last instruction
  pub takings_work : (all : List InspectArgument) (code : List DataInstruction) → AreTakenCode items tables all code
      → (ps : List Place) (rs : List ItemPlace) → AreAt tables ps rs → length rs + counters_in all ≡ count
      → (line : List ℕ) (found : List TextLength) → length found + measured_texts items all ≡ many → (s : Scratch)
      → works tables (code ++ (last ∷ [])) (standing tables ps p line found s)
      ≡ step_with (take_each items (length line) all s.storage) (ended rs line found s)
  takings_work [] code is ps rs are so_many line found lengths s =
      ap (λ c. works tables (c ++ (last ∷ [])) (standing tables ps p line found s)) is
      ∙ ending ps rs are (omega (arith, so_many)) line found (omega (arith, lengths)) s
      ∙ ap (λ l. ends s (oldest rs []) (padded_text size l) found) (sym (append-nil line))
  takings_work (Counter one ∷ more) code (front, r, back, are_back, is) ps rs are so_many line found lengths s =
      let t : Scratch = standing tables ps p line found s in
      let later : List DataInstruction = back ++ (last ∷ []) in
      let there : Evaluation ItemPlace = referred_place items one r.found s.storage in
      let new : ItemPlace → Place =
      λ place. record { item = r.index; offset = place.offset; length = place.item.length } in
      let done : ItemPlace → InspectTaken → Step = λ place. ended (place ∷ rs) line found s in
      let rest = take_each items (length line) more s.storage in
      let puts : ItemPlace → Step = λ place. step_with rest (done place) in
      ap (λ c. works tables (c ++ (last ∷ [])) t) is
      ∙ ap (λ c. works tables c t) (append_assoc front back (last ∷ []))
      ∙ works_append tables front later t
      ∙ ap (λ step. go_on step (works tables later)) (reference_works items tables order one front r t)
      ∙ go_with there (λ place. Continues (standing tables (new place ∷ ps) p line found s)) (works tables later)
      ∙ with_known there _ _ (λ place at_place.
      takings_work more back are_back (new place ∷ ps) (place ∷ rs) (
        ap (place_at (new place)) r.entry
            ∙ ap Some (place_shown items tables order one front r s.storage place at_place),
        are,
      ) (omega (arith, so_many)) line found lengths s)
      ∙ ap (λ o. step_with (evaluation_of o >>= (λ found. referred_place items one found s.storage)) puts)
      (sym r.named)
      ∙ with_same (place_of items one s.storage) _ _ (λ place.
      sym (with_bind rest (λ taken. Ok (with_counter place taken)) (ended rs line found s)))
      ∙ sym (with_bind (place_of items one s.storage)
      (λ place. rest >>= (λ taken. Ok (with_counter place taken))) (ended rs line found s))
  takings_work (Text (Bytes one) ∷ more) code (front, taking, back, are_back, is) ps rs are so_many line found lengths
      s =
      let t : Scratch = standing tables ps p line found s in
      let later : List DataInstruction = back ++ (last ∷ []) in
      let room = room_of items one in
      let n = text_size items (Bytes one) in
      ap (λ c. works tables (c ++ (last ∷ [])) t) is
      ∙ ap (λ c. works tables c t) (append_assoc front back (last ∷ []))
      ∙ works_append tables front later t
      ∙ ap (λ step. go_on step (works tables later)) (bytes_work items tables order room one front refl taking t)
      ∙ go_with (place_of items one s.storage) (λ place. appended items tables order room place t) (works tables later)
      ∙ with_known (place_of items one s.storage) _ _ (λ place at_place.
      added room n more back ps rs line found s place (place_fits items s.storage one place at_place) (λ text own so.
      let longer = length-append own found in
      takings_work more back are_back ps rs are so_many (line ++ text) (own ++ found)
      (omega (arith, longer, so, lengths))
      s))
      ∙ sym (with_bind (place_of items one s.storage) (λ place. take_each items (length line + n) more s.storage
      >>= (λ taken. Ok (with_text (text_in room s.storage place) (lengths_in room (length line) place) taken)))
      (ended rs line found s))
  takings_work (Text (Characters text) ∷ more) code (front, is_text, back, are_back, is) ps rs are so_many line found
      lengths s =
      let t : Scratch = standing tables ps p line found s in
      let later : List DataInstruction = back ++ (last ∷ []) in
      ap (λ c. works tables (c ++ (last ∷ [])) t) is
      ∙ ap (λ c. works tables c t) (append_assoc front back (last ∷ []))
      ∙ works_append tables front later t
      ∙ ap (λ step. go_on step (works tables later)) (text_works items tables order text front is_text t)
      ∙ further more (length line + length text) back ps rs line text [] found s (length-append line text)
      (takings_work more back are_back ps rs are so_many (line ++ text) found lengths s)

module _ (items : List LocatedItem) (tables : DataTables) (order : IsTables tables) where
  -- INSPECT, with counters, texts and lengths
  abbrev ends : layout.Inspection → ItemPlace → Scratch → List ItemPlace → List ℕ → List TextLength → Step
  ends how subject s counters texts found =
      step_with (inspect_at (with_lengths found how) texts counters subject s.storage)
      (λ after. Continues (record s { storage = after; line = [] }))

  -- with the counters' places on the stack, above the subject's
  inspected_works : (one : Inspection) (how : layout.Inspection) (size : ℕ) (p : Place) (subject : ItemPlace)
      → inspection_of one ≡ how → one.size ≡ size
      → place_at p (slice_get tables.items p.item.number) ≡ Some subject
      → (ps : List Place) (rs : List ItemPlace) → AreAt tables ps rs → length rs ≡ length how.counters
      → (line : List ℕ) (s : Scratch)
      → inspected_with tables one (record s { places = ps ++ (p ∷ s.places); line = line })
      ≡ step_with (inspect_at how (padded_text size line) (oldest rs []) subject s.storage)
      (λ after. Continues (record s { storage = after; line = [] }))
  inspected_works one how size p subject is size_is at ps rs are many line s =
      let t : Scratch = record s { places = ps ++ (p ∷ s.places); line = line } in
      let u : Scratch = record s { line = line } in
      let count : length one.counters ≡ length rs = ap (λ (x : layout.Inspection). length x.counters) is ∙ sym many in
      let put : layout.Inspection → ℕ → Step = λ x n.
      step_with (inspect_at x (padded_text n line) (oldest rs []) subject s.storage)
      (λ after. Continues (record s { storage = after; line = [] })) in
      ap (λ n. at_places tables n [] (λ counters v. at_place tables (inspected_at one counters) v)
      (ps ++ (p ∷ s.places)) t) count
      ∙ places_found tables ps rs [] (λ counters v. at_place tables (inspected_at one counters) v) (p ∷ s.places) t are
      ∙ one_at tables p subject (λ place. inspected_at one (oldest rs []) place u) at
      ∙ ap (λ x. put x one.size) is
      ∙ ap (put how) size_is

  abbrev none_measured : layout.Inspection → Type 0
  none_measured how = with_lengths [] how ≡ how

  measured_none : (how : layout.Inspection) → none_measured how
  measured_none how =
      ap (λ l. record how { tallying = l; replacing = map (measured_entry (length_at [])) how.replacing })
      (no_entries how.tallying)
      ∙ ap (λ l. record how { replacing = l }) (no_entries how.replacing)

  inspect_works : (index : InspectionIndex) (how : layout.Inspection) (size n : ℕ)
      (has : HasInspection items tables how size index) (p : Place) (subject : ItemPlace)
      → place_at p (slice_get tables.items p.item.number) ≡ Some subject
      → (ps : List Place) (rs : List ItemPlace) → AreAt tables ps rs → length rs ≡ length how.counters
      → (line : List ℕ) (found : List TextLength) → length found + length found ≡ n → (s : Scratch)
      → works tables (inspect_by index n ∷ []) (standing tables ps p line found s)
      ≡ ends how subject s (oldest rs []) (padded_text size line) found
  inspect_works index how size zero has p subject at ps rs are many line (one ∷ found) none s =
      absurd (omega (arith, none))
  inspect_works index how size zero has p subject at ps rs are many line [] none s =
      let t : Scratch = standing tables ps p line [] s in
      nothing_more tables (work tables (i.Inspect index) t)
      ∙ ap (λ o. step_at o (λ (x : Inspection). inspected_with tables x t)) has.entry
      ∙ inspected_works has.one how size p subject has.is has.size_is at ps rs are many line s
      ∙ ap (λ x. step_with (inspect_at x (padded_text size line) (oldest rs []) subject s.storage)
      (λ after. Continues (record s { storage = after; line = [] }))) (sym (measured_none how))
  inspect_works index how size (suc n) has p subject at ps rs are many line found so_many s =
      let t : Scratch = standing tables ps p line found s in
      let u : Scratch = record s { places = ps ++ (p ∷ s.places); line = line } in
      let now = measured_inspection (numbers_with found []) has.one in
      nothing_more tables (work tables (i.InspectMeasured index (suc n)) t)
      ∙ ap (λ o. step_at o (λ (x : Inspection).
      at_numbers (suc n) (λ ns v. inspected_with tables (measured_inspection ns x) v) t)) has.entry
      ∙ at_lengths found s.numbers (suc n) (λ ns v. inspected_with tables (measured_inspection ns has.one) v) u so_many
      ∙ inspected_works now (with_lengths found how) size p subject (measured_is found has.one how has.is) has.size_is
      at ps
      rs are many line s

  -- with nothing in the line
  inspect_from_nothing : (one : InspectStatement) (code : List DataInstruction)
      → IsInspectCode items tables one code → (s : Scratch)
      → works tables code (record s { line = [] })
      ≡ step_with (inspect_by_spans items one s.storage) (λ after. Continues (record s { storage = after; line = [] }))
  inspect_from_nothing one code (subject, r, parts, are, index, has, is) s =
      let u : Scratch = record s { line = [] } in
      let all : List InspectArgument = takings items one in
      let how : layout.Inspection = inspection items one in
      let size : ℕ = inspected_size items one in
      let many : ℕ = measured_texts items all in
      let later : List DataInstruction = parts ++ (inspect_by index (many + many) ∷ []) in
      let there : Evaluation ItemPlace = referred_place items one.subject r.found s.storage in
      let new : ItemPlace → Place =
      λ place. record { item = r.index; offset = place.offset; length = place.item.length } in
      let last : ItemPlace → InspectTaken → Evaluation Storage = λ place taken.
      inspect_at (with_lengths taken.lengths how) taken.texts taken.counters place s.storage in
      let done : Storage → Step = λ after. Continues (record s { storage = after; line = [] }) in
      let puts : ItemPlace → Step =
      λ place. step_with (take_each items 0 all s.storage) (λ taken. step_with (last place taken) done) in
      ap (λ c. works tables c u) is
      ∙ works_append tables subject later u
      ∙ ap (λ step. go_on step (works tables later)) (reference_works items tables order one.subject subject r u)
      ∙ go_with there (λ place. Continues (standing tables [] (new place) [] [] s)) (works tables later)
      ∙ with_known there _ _ (λ place at_place.
      takings_work items tables order (inspect_by index (many + many)) size (length how.counters) many (new place)
      (ends how place) (λ ps rs are_at so_many line found lengths.
      inspect_works index how size (many + many) has (new place) place (ap (place_at (new place)) r.entry
      ∙ ap Some (place_shown items tables order one.subject subject r s.storage place at_place)) ps rs are_at so_many
      line found (omega (arith, lengths)))
      all parts are [] [] tt (omega (arith, counters_are items one)) [] [] (omega arith) s
      ∙ with_known (take_each items 0 all s.storage) _ _ (λ taken known.
      ap (λ l. ends how place s taken.counters l (taken.lengths ++ []))
      (padded_whole size taken.texts (taken_long items all 0 s.storage taken known))
      ∙ ap (ends how place s taken.counters taken.texts) (append-nil taken.lengths)))
      ∙ ap (λ o. step_with (evaluation_of o >>= (λ found. referred_place items one.subject found s.storage))
      puts) (sym r.named)
      ∙ with_same (place_of items one.subject s.storage) _ _ (λ place.
      sym (with_bind (take_each items 0 all s.storage) (last place) done))
      ∙ sym (with_bind (place_of items one.subject s.storage)
      (λ place. take_each items 0 all s.storage >>= last place) done)

  pub inspect_does : (one : InspectStatement) (code : List DataInstruction)
      → IsInspectCode items tables one code → (s : Scratch) → s.line ≡ []
      → works tables code s
      ≡ step_with (inspect_by_spans items one s.storage) (λ after. Continues (record s { storage = after }))
  inspect_does one code is s empty =
      subst (λ (l : List ℕ). works tables code (record s { line = l })
      ≡ step_with (inspect_by_spans items one s.storage) (λ after. Continues (record s { storage = after; line = l })))
      (sym empty) (inspect_from_nothing one code is s)

  -- ---- CONVERTING

  abbrev converts : layout.Inspection → ItemPlace → Scratch → List ItemPlace → List ℕ → List TextLength → Step
  converts how subject s counters texts found =
      Continues (record s { storage = convert_at (with_lengths found how) texts subject s.storage; line = [] })

  -- with the subject's place on the stack
  converted_works : (one : Inspection) (how : layout.Inspection) (size : ℕ) (p : Place) (subject : ItemPlace)
      → inspection_of one ≡ how → one.size ≡ size
      → place_at p (slice_get tables.items p.item.number) ≡ Some subject → (line : List ℕ) (s : Scratch)
      → at_place tables (converted_at one) (record s { places = p ∷ s.places; line = line })
      ≡ Continues (record s { storage = convert_at how (padded_text size line) subject s.storage; line = [] })
  converted_works one how size p subject is size_is at line s =
      let u : Scratch = record s { line = line } in
      let put : layout.Inspection → ℕ → Step = λ x n.
      Continues (record s { storage = convert_at x (padded_text n line) subject s.storage; line = [] }) in
      one_at tables p subject (λ place. converted_at one place u) at
      ∙ ap (λ x. put x one.size) is
      ∙ ap (put how) size_is

  convert_works : (index : InspectionIndex) (how : layout.Inspection) (size n : ℕ)
      (has : HasInspection items tables how size index) (p : Place) (subject : ItemPlace)
      → place_at p (slice_get tables.items p.item.number) ≡ Some subject
      → (ps : List Place) (rs : List ItemPlace) → AreAt tables ps rs → length rs ≡ 0
      → (line : List ℕ) (found : List TextLength) → length found + length found ≡ n → (s : Scratch)
      → works tables (convert_by index n ∷ []) (standing tables ps p line found s)
      ≡ converts how subject s (oldest rs []) (padded_text size line) found
  convert_works index how size n has p subject at (q ∷ ps) (r ∷ rs) are none line found so s =
      absurd (omega (arith, none))
  convert_works index how size n has p subject at (q ∷ ps) [] are none line found so s = absurd are
  convert_works index how size n has p subject at [] (r ∷ rs) are none line found so s = absurd are
  convert_works index how size zero has p subject at [] [] are none line (one ∷ found) so s = absurd (omega (arith, so))
  convert_works index how size zero has p subject at [] [] are none line [] so s =
      let t : Scratch = standing tables [] p line [] s in
      nothing_more tables (work tables (i.Convert index) t)
      ∙ ap (λ o. step_at o (λ (x : Inspection). at_place tables (converted_at x) t)) has.entry
      ∙ converted_works has.one how size p subject has.is has.size_is at line s
      ∙ ap (λ x. Continues (record s { storage = convert_at x (padded_text size line) subject s.storage; line = [] }))
      (sym (measured_none how))
  convert_works index how size (suc n) has p subject at [] [] are none line found so s =
      let t : Scratch = standing tables [] p line found s in
      let u : Scratch = record s { places = p ∷ s.places; line = line } in
      let now = measured_inspection (numbers_with found []) has.one in
      nothing_more tables (work tables (i.ConvertMeasured index (suc n)) t)
      ∙ ap (λ o. step_at o (λ (x : Inspection).
      at_numbers (suc n) (λ ns v. at_place tables (converted_at (measured_inspection ns x)) v) t)) has.entry
      ∙ at_lengths found s.numbers (suc n) (λ ns v. at_place tables (converted_at (measured_inspection ns has.one)) v) u
      so
      ∙ converted_works now (with_lengths found how) size p subject (measured_is found has.one how has.is) has.size_is
      at
      line
      s

  -- with nothing in the line
  convert_from_nothing : (one : Converting) (code : List DataInstruction)
      → IsConvertCode items tables one code → (s : Scratch)
      → works tables code (record s { line = [] })
      ≡ step_with (convert_by_spans items one s.storage) (λ after. Continues (record s { storage = after; line = [] }))
  convert_from_nothing one code (subject, r, parts, are, index, has, is) s =
      let u : Scratch = record s { line = [] } in
      let all : List InspectArgument = takings items (as_replacing one) in
      let how : layout.Inspection = inspection items (as_replacing one) in
      let size : ℕ = inspected_size items (as_replacing one) in
      let many : ℕ = measured_texts items all in
      let later : List DataInstruction = parts ++ (convert_by index (many + many) ∷ []) in
      let there : Evaluation ItemPlace = referred_place items one.subject r.found s.storage in
      let new : ItemPlace → Place =
      λ place. record { item = r.index; offset = place.offset; length = place.item.length } in
      let puts : ItemPlace → Step = λ place. step_with (take_each items 0 all s.storage)
      (λ taken. converts how place s taken.counters taken.texts taken.lengths) in
      let done : Storage → Step = λ after. Continues (record s { storage = after; line = [] }) in
      let last : ItemPlace → InspectTaken → Evaluation Storage =
      λ place taken. Ok (convert_at (with_lengths taken.lengths how) taken.texts place s.storage) in
      let none : counters_in all ≡ 0 = counters_are items (as_replacing one) in
      ap (λ c. works tables c u) is
      ∙ works_append tables subject later u
      ∙ ap (λ step. go_on step (works tables later)) (reference_works items tables order one.subject subject r u)
      ∙ go_with there (λ place. Continues (standing tables [] (new place) [] [] s)) (works tables later)
      ∙ with_known there _ _ (λ place at_place.
      takings_work items tables order (convert_by index (many + many)) size 0 many (new place) (converts how place)
      (λ ps rs are_at so_many line found lengths.
      convert_works index how size (many + many) has (new place) place (ap (place_at (new place)) r.entry
      ∙ ap Some (place_shown items tables order one.subject subject r s.storage place at_place)) ps rs are_at so_many
      line found (omega (arith, lengths)))
      all parts are [] [] tt (omega (arith, none)) [] [] (omega arith) s
      ∙ with_known (take_each items 0 all s.storage) _ _ (λ taken known.
      ap (λ l. converts how place s taken.counters l (taken.lengths ++ []))
      (padded_whole size taken.texts (taken_long items all 0 s.storage taken known))
      ∙ ap (converts how place s taken.counters taken.texts) (append-nil taken.lengths)))
      ∙ ap (λ o. step_with (evaluation_of o >>= (λ found. referred_place items one.subject found s.storage)) puts)
      (sym r.named)
      ∙ with_same (place_of items one.subject s.storage) _ _ (λ place.
      sym (with_bind (take_each items 0 all s.storage) (last place) done))
      ∙ sym (with_bind (place_of items one.subject s.storage)
      (λ place. take_each items 0 all s.storage >>= last place) done)

  pub convert_does : (one : Converting) (code : List DataInstruction)
      → IsConvertCode items tables one code → (s : Scratch) → s.line ≡ []
      → works tables code s
      ≡ step_with (convert_by_spans items one s.storage) (λ after. Continues (record s { storage = after }))
  convert_does one code is s empty =
      subst (λ (l : List ℕ). works tables code (record s { line = l })
      ≡ step_with (convert_by_spans items one s.storage) (λ after. Continues (record s { storage = after; line = l })))
      (sym empty) (convert_from_nothing one code is s)
