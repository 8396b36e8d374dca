-- What INSPECT takes, text by text, is what its spans cut from the texts joined, by the lengths that are found in the
-- run.
use Rattle.std.proofs.Common.{◌≡◌, ℕ, zero, suc, ◌+◌, ◌-◌, ◌≤◌, Bool, true, false, List, [], ◌∷◌, ◌++◌, map, length}
use Rattle.std.proofs.Common.{take}
use Rattle.std.proofs.Common.{Option, Some, None, refl, ap, sym, subst, ◌∙◌, arith, append_assoc, length-append}
use Rattle.std.specs.Prelude.{Ok, Err, replicate}
use Rattle.std.specs.List.{AllByRecursion}
use Rattle.std.specs.Option.{option_map}
use Rattle.std.proofs.lemmas.List.{length-replicate, append-nil, take-append-le, take_all as take_whole_list}
use Rattle.items.specs.Texts.{padded_text, space}
use Rattle.text_ops.specs.declared.entry.Span.{Span}
use Rattle.text_ops.specs.Entries.{bytes_in}
use Rattle.text_ops.specs.Beginnings.{text_of as spans_text}
use Rattle.source_tree.specs.declared.literal.LiteralValue.{LiteralValue}
use Rattle.source_tree.specs.declared.literal.LiteralValue.TheVariants as literal
use Rattle.source_tree.specs.declared.reference.Reference.{Reference}
use Rattle.source_tree.specs.declared.expression.Operand.{Operand}
use Rattle.source_tree.specs.declared.expression.Operand.TheVariants as operand
use Rattle.source_tree.specs.declared.inspect_statement.Limits.{Limits}
use Rattle.source_tree.specs.declared.inspect_statement.Occurrences.{Occurrences}
use Rattle.source_tree.specs.declared.inspect_statement.Occurrences.TheVariants as how
use Rattle.source_tree.specs.declared.inspect_statement.TalliedText.{TalliedText}
use Rattle.source_tree.specs.declared.inspect_statement.Tallied.{Tallied}
use Rattle.source_tree.specs.declared.inspect_statement.Tallied.TheVariants as tallied
use Rattle.source_tree.specs.declared.inspect_statement.Tallying.{Tallying}
use Rattle.source_tree.specs.declared.inspect_statement.ReplacedText.{ReplacedText}
use Rattle.source_tree.specs.declared.inspect_statement.Replacing.{Replacing}
use Rattle.source_tree.specs.declared.inspect_statement.Replacing.TheVariants as replacing
use Rattle.source_tree.specs.Display.{figurative_byte, shown_literal}
use Rattle.source_tree.specs.Places.{LocatedItem}
use Rattle.source_tree.specs.Storage.{Storage}
use Rattle.source_tree.specs.Evaluated.{Evaluation, ◌>>=◌}
use Rattle.source_tree.specs.References.{ItemPlace, part_of, place_of}
use Rattle.source_tree.specs.InspectWalk.{Pattern, AnyCharacter, Occurrence, TextEntry}
use Rattle.source_tree.specs.Inspecting.{text_at, replacing_characters, LimitTexts, text_entry, take_all, take_text}
use Rattle.source_tree.specs.Inspecting.{take_by, take_limit, take_limits, take_tallied_text, take_tallied}
use Rattle.source_tree.specs.Inspecting.{take_replaced_text, take_replacing}
use Rattle.source_tree.specs.MeasuredTexts.{room_of, shortened_by, replacing_span, measured_span, measured_fit}
use Rattle.source_tree.specs.MeasuredTexts.{measured_entry}
use Rattle.source_tree.specs.InspectLayout as layout
use Rattle.source_tree.specs.InspectLayout.{Source, Bytes, Characters, source, text_size, text_sizes}
use Rattle.source_tree.specs.InspectLayout.{replacing_literal, replacing_text, InspectEntry, tallied_text}
use Rattle.source_tree.specs.InspectLayout.{replaced_text, all_inspected, tallied_entries, counter_entries}
use Rattle.source_tree.specs.InspectLayout.{replacing_entries, limit_text, limit_texts, entry_texts, entries_texts}
use Rattle.source_tree.specs.InspectLayout.{fit_of, span_at, limit_span, before_at, after_at, entry_at, entries_at}
use Rattle.source_tree.specs.InspectLayout.{text_in}
use Rattle.source_tree.proofs.InspectWalks.{pattern_of, text_of, entry_of}
use Rattle.source_tree.proofs.Evaluations.{Alike, okay, same_Ok, bound, bind_ok}
use Rattle.source_tree.proofs.PartLengths.{Fits, place_fits}
use Rattle.source_tree.proofs.Cells.{Cell, bytes_of, mark_at, cells_of, cells_many, mark_is, padded_long, IsLong}
use Rattle.source_tree.proofs.Cells.{take_whole, marked_cells}

-- ---- lists of texts

pub all_front : {A : Type 0} (P : A → Type 0) (xs ys : List A) → AllByRecursion P (xs ++ ys) → AllByRecursion P xs
all_front P [] ys h = tt
all_front P (x ∷ xs) ys h = (h.0, all_front P xs ys h.1)

pub all_back : {A : Type 0} (P : A → Type 0) (xs ys : List A) → AllByRecursion P (xs ++ ys) → AllByRecursion P ys
all_back P [] ys h = h
all_back P (x ∷ xs) ys h = all_back P xs ys h.1

module _ (items : List LocatedItem) where
  -- Each has a character or more.
  abbrev pub AreSome : List Source → Type 0
  AreSome = AllByRecursion (λ one. 1 ≤ text_size items one)

  pub sizes_append : (xs ys : List Source) → text_sizes items (xs ++ ys) ≡ text_sizes items xs + text_sizes items ys
  sizes_append [] ys = omega arith
  sizes_append (x ∷ xs) ys = omega (arith, sizes_append xs ys)

pub texts_append : (xs ys : List InspectEntry) → entries_texts (xs ++ ys) ≡ entries_texts xs ++ entries_texts ys
texts_append [] ys = refl
texts_append (x ∷ xs) ys = ap (λ l. entry_texts x ++ l) (texts_append xs ys)
    ∙ sym (append_assoc (entry_texts x) (entries_texts xs) (entries_texts ys))

-- These cells are so many, and wherever they are among others, this is found there.
pub record Reads (X : Type 0) (size : ℕ) (cells : List Cell) (find : List Cell → ℕ → X) (x : X) : Type 0 where
  pub size_is : length cells ≡ size
  pub found : (front back : List Cell) → find (front ++ (cells ++ back)) (length front) ≡ x

-- what is found in more cells, after what was found before them
pub reads_then : (X Z : Type 0) (n m : ℕ) (a b : List Cell) (find : List Cell → ℕ → X) (on : X → List Cell → ℕ
    → Z) (x : X) (z : Z) → Reads X n a find x → Reads Z m b (on x) z
    → Reads Z (n + m) (a ++ b) (λ texts at. on (find texts at) texts (at + n)) z
reads_then X Z n m a b find on x z h k = record {
  size_is = omega (arith, length-append a b, h.size_is, k.size_is);
  found = λ front back.
      let whole = front ++ ((a ++ b) ++ back) in
      let first : whole ≡ front ++ (a ++ (b ++ back)) = ap (λ l. front ++ l) (append_assoc a b back) in
      let second : whole ≡ (front ++ a) ++ (b ++ back) = first ∙ sym (append_assoc front a (b ++ back)) in
      let at : length front + n ≡ length (front ++ a) = omega (arith, length-append front a, h.size_is) in
      ap (λ y. on y whole (length front + n)) (ap (λ l. find l (length front)) first ∙ h.found front (b ++ back))
      ∙ ap (λ k. on x whole k) at
      ∙ ap (λ l. on x l (length (front ++ a))) second
      ∙ k.found (front ++ a) back;
}

-- ---- texts and their marks

abbrev pub mark_in : Option ℕ → ItemPlace → Option ℕ
mark_in None place = None
mark_in (Some room) place = Some place.item.length

-- a text and its mark
pub record Found : Type 0 where
  pub text : List ℕ
  pub mark : Option ℕ

abbrev pub text_found : List Cell → Span → List ℕ
text_found cells span = bytes_in (bytes_of cells) (measured_span (mark_at cells) span)

abbrev pub limit_found : List Cell → Option Span → Option (List ℕ)
limit_found cells span = text_of (bytes_of cells) (option_map (measured_span (mark_at cells)) span)

-- what replaces a text of this mark
abbrev pub by_found : Option ℕ → List Cell → Span → List ℕ
by_found mark cells span = bytes_in (bytes_of cells) (shortened_by mark span)

fits_long : (room : Option ℕ) (size : ℕ) (place : ItemPlace) → Fits room size place.item.length
    → IsLong size (mark_in room place) place.item.length
fits_long None size place fits = fits
fits_long (Some room) size place fits = (refl, fits.1, fits.2)

pub room_long : (room : Option ℕ) (size : ℕ) (storage : Storage) (place : ItemPlace) → Fits room size place.item.length
    → length (text_in room storage place) ≡ size
room_long None size storage place fits = padded_long place.item.length (part_of storage place) ∙ fits
room_long (Some room) size storage place fits = padded_long room (text_at storage place) ∙ fits.0

padded_begin : (text : List ℕ) (room n : ℕ) → length text ≡ n → n ≤ room → take n (padded_text room text) ≡ text
padded_begin text room n e long =
    let spaces = replicate (room - length text) space in
    ap (λ l. take n (l ++ spaces)) (take_whole_list room text (omega (arith, e, long)))
    ∙ take-append-le n text spaces (omega (arith, e)) ∙ take_whole text n e

room_begin : (room : Option ℕ) (size : ℕ) (storage : Storage) (place : ItemPlace) → Fits room size place.item.length
    → take place.item.length (text_in room storage place) ≡ text_at storage place
room_begin None size storage place fits =
    take_whole (text_at storage place) place.item.length (padded_long place.item.length (part_of storage place))
room_begin (Some room) size storage place fits =
    let same = fits.0 in
    let long = fits.2 in
    padded_begin (text_at storage place) room place.item.length
    (padded_long place.item.length (part_of storage place)) (omega (arith, same, long))

take_replicate : (n m byte : ℕ) → n ≤ m → take n (replicate m byte) ≡ replicate n byte
take_replicate zero m byte le = refl
take_replicate (suc n) zero byte le = absurd (omega (arith, le))
take_replicate (suc n) (suc m) byte le = ap (λ l. byte ∷ l) (take_replicate n m byte (omega (arith, le)))

-- ---- what may replace

module _ (items : List LocatedItem) where
  abbrev pub source_room : Source → Option ℕ
  source_room (Bytes one) = room_of items one
  source_room (Characters text) = None

  abbrev pub SuitsValue : Option ℕ → LiteralValue → Type 0
  SuitsValue room (literal.Figurative constant) = Unit {0}
  SuitsValue room value = room ≡ None

  -- Where the length of a text is found in the run a figurative constant replaces it, and no text whose length is found
  -- so replaces one.
  abbrev pub Suits : Option ℕ → Operand → Type 0
  Suits room (operand.Item one) = (room ≡ None) × (room_of items one ≡ None)
  Suits room (operand.Literal one) = SuitsValue room one.value

  abbrev pub IsSuited : ReplacedText → Type 0
  IsSuited one = Suits (source_room (source one.text)) one.by

  abbrev pub AreSuited : Replacing → Type 0
  AreSuited (replacing.Characters by limits) = Suits None by
  AreSuited (replacing.Texts kind texts) = AllByRecursion IsSuited texts

  value_suits : (room : Option ℕ) (place : ItemPlace) (value : LiteralValue) → SuitsValue room value
      → SuitsValue (mark_in room place) value
  value_suits None place value h = h
  value_suits (Some room) place (literal.Figurative constant) h = tt
  value_suits (Some room) place (literal.Numeric number) h = absurd cc
  value_suits (Some room) place (literal.Nonnumeric bytes) h = absurd cc
  value_suits (Some room) place (literal.All bytes) h = absurd cc

  mark_suits : (room : Option ℕ) (place : ItemPlace) (by : Operand) → Suits room by → Suits (mark_in room place) by
  mark_suits None place by h = h
  mark_suits (Some room) place (operand.Item one) h = let none = h.0 in absurd cc
  mark_suits (Some room) place (operand.Literal one) h = value_suits (Some room) place one.value h

module _ (items : List LocatedItem) (storage : Storage) where
  -- ---- texts, one after another

  abbrev pub read : Source → Evaluation (List Cell)
  read (Bytes one) = place_of items one storage
      >>= (λ place. Ok (cells_of (text_in (room_of items one) storage place) (mark_in (room_of items one) place)))
  read (Characters text) = Ok (cells_of text None)

  abbrev pub read_all : List Source → Evaluation (List Cell)
  read_all [] = Ok []
  read_all (one ∷ more) = read one >>= (λ cells. read_all more >>= (λ others. Ok (cells ++ others)))

  regroup : (r u v : Evaluation (List Cell))
      → (r >>= (λ t. (u >>= (λ a. v >>= (λ b. okay (a ++ b)))) >>= (λ o. okay (t ++ o))))
      ≡ ((r >>= (λ t. u >>= (λ a. okay (t ++ a)))) >>= (λ a. v >>= (λ b. okay (a ++ b))))
  regroup (Err f) u v = refl
  regroup (Ok t) (Err f) v = refl
  regroup (Ok t) (Ok a) (Err f) = refl
  regroup (Ok t) (Ok a) (Ok b) = ap (λ (l : List Cell). okay l) (sym (append_assoc t a b))

  read_append : (xs ys : List Source)
      → read_all (xs ++ ys) ≡ read_all xs >>= (λ a. read_all ys >>= (λ b. Ok (a ++ b)))
  read_append [] ys = bind_ok (read_all ys)
  read_append (x ∷ xs) ys =
      ap (λ (r : Evaluation (List Cell)). read x >>= (λ t. r >>= (λ o. okay (t ++ o)))) (read_append xs ys)
      ∙ regroup (read x) (read_all xs) (read_all ys)

  -- ---- What is taken is found in the cells of these texts.
  abbrev pub Takes : (X : Type 0) → List Source → (List Cell → ℕ → X) → Evaluation X → Type 0
  Takes X texts find y = Alike (λ cells x. Reads X (text_sizes items texts) cells find x) (read_all texts) y

  takes_none : (X : Type 0) (x : X) → Takes X [] (λ texts at. x) (Ok x)
  takes_none X x = record { size_is = refl; found = λ front back. refl }

  mapped : (X Z : Type 0) (n : ℕ) (find : List Cell → ℕ → X) (h : X → Z) (u : Evaluation (List Cell)) (y : Evaluation X)
      → Alike (λ cells x. Reads X n cells find x) u y
      → Alike (λ cells z. Reads Z n cells (λ texts at. h (find texts at)) z) u (y >>= (λ x. Ok (h x)))
  mapped X Z n find h (Ok a) (Ok x) k = record {
    size_is = k.size_is;
    found = λ front back. ap h (k.found front back);
  }
  mapped X Z n find h (Ok a) (Err g) k = k
  mapped X Z n find h (Err f) (Ok x) k = k
  mapped X Z n find h (Err f) (Err g) k = k

  takes_map : (X Z : Type 0) (texts : List Source) (find : List Cell → ℕ → X) (h : X → Z) (y : Evaluation X)
      → Takes X texts find y → Takes Z texts (λ t at. h (find t at)) (y >>= (λ x. Ok (h x)))
  takes_map X Z texts find h y k = mapped X Z (text_sizes items texts) find h (read_all texts) y k

  elsewhere : (X : Type 0) (n : ℕ) (find other : List Cell → ℕ → X) (u : Evaluation (List Cell)) (y : Evaluation X)
      → ((texts : List Cell) (at : ℕ) → find texts at ≡ other texts at)
      → Alike (λ cells x. Reads X n cells find x) u y → Alike (λ cells x. Reads X n cells other x) u y
  elsewhere X n find other (Ok a) (Ok x) same k = record {
    size_is = k.size_is;
    found = λ front back. sym (same (front ++ (a ++ back)) (length front)) ∙ k.found front back;
  }
  elsewhere X n find other (Ok a) (Err g) same k = k
  elsewhere X n find other (Err f) (Ok x) same k = k
  elsewhere X n find other (Err f) (Err g) same k = k

  takes_as : (X : Type 0) (texts : List Source) (find other : List Cell → ℕ → X) (y : Evaluation X)
      → ((t : List Cell) (at : ℕ) → find t at ≡ other t at) → Takes X texts find y → Takes X texts other y
  takes_as X texts find other y same k = elsewhere X (text_sizes items texts) find other (read_all texts) y same k

  behind : (X Z : Type 0) (n m k : ℕ) (find : List Cell → ℕ → X) (on : X → List Cell → ℕ
      → Z) (u v : Evaluation (List Cell)) (y : Evaluation X) (next : X → Evaluation Z) → k ≡ n + m
      → Alike (λ cells x. Reads X n cells find x) u y
      → ((x : X) → y ≡ Ok x → Alike (λ cells z. Reads Z m cells (on x) z) v (next x))
      → Alike (λ cells z. Reads Z k cells (λ texts at. on (find texts at) texts (at + n)) z)
      (u >>= (λ a. v >>= (λ b. Ok (a ++ b)))) (y >>= next)
  behind X Z n m k find on (Err f) v (Err g) next size h more = h
  behind X Z n m k find on (Err f) v (Ok x) next size h more = absurd h
  behind X Z n m k find on (Ok a) v (Err g) next size h more = absurd h
  behind X Z n m k find on (Ok a) v (Ok x) next size h more = second v (next x) (more x refl)
    where
      second : (v : Evaluation (List Cell)) (w : Evaluation Z) → Alike (λ cells z. Reads Z m cells (on x) z) v w
          → Alike (λ cells z. Reads Z k cells (λ texts at. on (find texts at) texts (at + n)) z)
          (v >>= (λ b. Ok (a ++ b))) w
      second (Err f) (Err g) l = l
      second (Err f) (Ok z) l = absurd l
      second (Ok b) (Err g) l = absurd l
      second (Ok b) (Ok z) l = subst (λ s. Reads Z s (a ++ b) (λ texts at. on (find texts at) texts (at + n)) z)
          (sym size) (reads_then X Z n m a b find on x z h l)

  takes_then : (X Z : Type 0) (xs ys : List Source) (find : List Cell → ℕ → X) (on : X → List Cell → ℕ
      → Z) (y : Evaluation X) (next : X → Evaluation Z)
      → Takes X xs find y → ((x : X) → y ≡ Ok x → Takes Z ys (on x) (next x))
      → Takes Z (xs ++ ys) (λ texts at. on (find texts at) texts (at + text_sizes items xs)) (y >>= next)
  takes_then X Z xs ys find on y next h more =
      subst (λ r. Alike (λ cells z. Reads Z (text_sizes items (xs ++ ys)) cells
      (λ texts at. on (find texts at) texts (at + text_sizes items xs)) z) r (y >>= next))
      (sym (read_append xs ys))
      (behind X Z (text_sizes items xs) (text_sizes items ys) (text_sizes items (xs ++ ys)) find on (read_all xs)
      (read_all ys) y next (sizes_append items xs ys) h more)

  takes_nil : (X : Type 0) (xs : List Source) (find : List Cell → ℕ → X) (y : Evaluation X) → Takes X xs find y
      → Takes X (xs ++ []) find y
  takes_nil X xs find y h = subst (λ l. Takes X l find y) (sym (append-nil xs)) h

  -- ---- one text

  abbrev pub find_text : Source → Evaluation Found
  find_text (Bytes one) = place_of items one storage
      >>= (λ place. Ok (record { text = text_at storage place; mark = mark_in (room_of items one) place }))
  find_text (Characters text) = Ok (record { text = text; mark = None })

  abbrev found_at : Source → List Cell → ℕ → Found
  found_at one cells at = record { text = text_found cells (span_at items at one); mark = mark_at cells at }

  reads_text : (one : Source) (text bytes : List ℕ) (mark : Option ℕ) (size : ℕ) → 1 ≤ text_size items one
      → length text ≡ text_size items one → IsLong (text_size items one) mark size → take size text ≡ bytes
      → Reads Found (text_sizes items (one ∷ [])) (cells_of text mark ++ []) (found_at one)
      (record { text = bytes; mark = mark })
  reads_text one text bytes mark size some long is cuts =
      let room = text_size items one in
      let many = cells_many text mark in
      subst (λ l. Reads Found (text_sizes items (one ∷ [])) l (found_at one) (record { text = bytes; mark = mark }))
      (sym (append-nil (cells_of text mark)))
      (record {
        size_is = omega (arith, many, long);
        found = λ front back.
            let cells = front ++ (cells_of text mark ++ back) in
            let found = mark_is front back text mark (omega (arith, some, long)) in
            ap (λ m. record {
              text = bytes_in (bytes_of cells) (shortened_by m (span_at items (length front) one));
              mark = m;
            }) found
            ∙ ap (λ l. record { text = l; mark = mark })
            (marked_cells front back text bytes mark mark room size long is cuts);
      })

  found_in : (one : Source) → 1 ≤ text_size items one
      → Alike (λ cells x. Reads Found (text_sizes items (one ∷ [])) cells (found_at one) x)
      (read one >>= (λ cells. Ok (cells ++ []))) (find_text one)
  found_in (Bytes one) some = at_place (place_of items one storage) (place_fits items storage one)
    where
      at_place : (p : Evaluation ItemPlace)
          → ((place : ItemPlace) → p ≡ Ok place
          → Fits (room_of items one) (text_size items (Bytes one)) place.item.length)
          → Alike (λ cells x. Reads Found (text_sizes items (Bytes one ∷ [])) cells (found_at (Bytes one)) x)
          ((p >>= (λ place.
          okay (cells_of (text_in (room_of items one) storage place) (mark_in (room_of items one) place))))
          >>= (λ cells. okay (cells ++ [])))
          (p >>= (λ place. okay (record { text = text_at storage place; mark = mark_in (room_of items one) place })))
      at_place (Err f) fits = refl
      at_place (Ok place) fits =
          let room = room_of items one in
          let size = text_size items (Bytes one) in
          let is = fits place refl in
          reads_text (Bytes one) (text_in room storage place) (text_at storage place) (mark_in room place)
          place.item.length some (room_long room size storage place is) (fits_long room size place is)
          (room_begin room size storage place is)
  found_in (Characters text) some =
      reads_text (Characters text) text text None (length text) some refl refl (take_whole text (length text) refl)

  takes_found : (one : Source) → 1 ≤ text_size items one → Takes Found (one ∷ []) (found_at one) (find_text one)
  takes_found one some = found_in one some

  -- as long as its mark says
  found_long : (one : Source) (found : Found) → find_text one ≡ Ok found
      → IsLong (text_size items one) found.mark (length found.text)
  found_long (Bytes one) found e =
      let room = room_of items one in
      let size = text_size items (Bytes one) in
      let there = bound (place_of items one storage)
      (λ place. okay (record { text = text_at storage place; mark = mark_in room place })) found e in
      let long = fits_long room size there.0 (place_fits items storage one there.0 there.1) in
      let same = padded_long there.0.item.length (part_of storage there.0) in
      subst (λ (f : Found). IsLong size f.mark (length f.text)) (same_Ok _ found there.2)
      (subst (λ n. IsLong size (mark_in room there.0) n) (sym same) long)
  found_long (Characters text) found e =
      subst (λ (f : Found). IsLong (length text) f.mark (length f.text)) (same_Ok _ found e) refl

  -- a text whose mark something suits
  found_suits : (one : Source) (by : Operand) (found : Found) → find_text one ≡ Ok found
      → Suits items (source_room items one) by → Suits items found.mark by
  found_suits (Bytes one) by found e h =
      let room = room_of items one in
      let there = bound (place_of items one storage)
      (λ place. okay (record { text = text_at storage place; mark = mark_in room place })) found e in
      subst (λ (f : Found). Suits items f.mark by) (same_Ok _ found there.2) (mark_suits items room there.0 by h)
  found_suits (Characters text) by found e h =
      subst (λ (f : Found). Suits items f.mark by) (same_Ok _ found e) h

  text_alone : (p : Evaluation ItemPlace) (room : Option ℕ)
      → (p >>= (λ place. okay (text_at storage place)))
      ≡ (p >>= (λ place. okay (record { text = text_at storage place; mark = mark_in room place })))
      >>= (λ (found : Found). okay found.text)
  text_alone (Err f) room = refl
  text_alone (Ok place) room = refl

  taken_is : (one : Operand) → take_text items storage one ≡ find_text (source one) >>= (λ found. okay found.text)
  taken_is (operand.Item one) = text_alone (place_of items one storage) (room_of items one)
  taken_is (operand.Literal one) = refl

  takes_text : (one : Operand) → 1 ≤ text_size items (source one)
      → Takes (List ℕ) (source one ∷ []) (λ cells at. text_found cells (span_at items at (source one)))
      (take_text items storage one)
  takes_text one some =
      subst (Takes (List ℕ) (source one ∷ []) (λ cells at. text_found cells (span_at items at (source one))))
      (sym (taken_is one))
      (takes_map Found (List ℕ) (source one ∷ []) (found_at (source one)) (λ found. found.text)
      (find_text (source one)) (takes_found (source one) some))

  -- ---- what replaces a text of this mark

  reads_by : (one : Source) (text bytes : List ℕ) (own mark : Option ℕ) (size : ℕ)
      → length text ≡ text_size items one → IsLong (text_size items one) mark size → take size text ≡ bytes
      → Reads (List ℕ) (text_sizes items (one ∷ [])) (cells_of text own ++ [])
      (λ cells at. by_found mark cells (span_at items at one)) bytes
  reads_by one text bytes own mark size long is cuts =
      let room = text_size items one in
      let many = cells_many text own in
      subst (λ l. Reads (List ℕ) (text_sizes items (one ∷ [])) l
      (λ cells at. by_found mark cells (span_at items at one)) bytes) (sym (append-nil (cells_of text own)))
      (record {
        size_is = omega (arith, many, long);
        found = λ front back. marked_cells front back text bytes own mark room size long is cuts;
      })

  item_by : (one : Reference) → room_of items one ≡ None
      → Takes (List ℕ) (Bytes one ∷ []) (λ cells at. by_found None cells (span_at items at (Bytes one)))
      (place_of items one storage >>= (λ place. Ok (text_at storage place)))
  item_by one none = at_place (place_of items one storage) (place_fits items storage one)
    where
      at_place : (p : Evaluation ItemPlace)
          → ((place : ItemPlace) → p ≡ Ok place
          → Fits (room_of items one) (text_size items (Bytes one)) place.item.length)
          → Alike (λ cells x. Reads (List ℕ) (text_sizes items (Bytes one ∷ [])) cells
          (λ cells at. by_found None cells (span_at items at (Bytes one))) x)
          ((p >>= (λ place.
          okay (cells_of (text_in (room_of items one) storage place) (mark_in (room_of items one) place))))
          >>= (λ cells. okay (cells ++ [])))
          (p >>= (λ place. okay (text_at storage place)))
      at_place (Err f) fits = refl
      at_place (Ok place) fits =
          let room = room_of items one in
          let size = text_size items (Bytes one) in
          let is = fits place refl in
          let known : place.item.length ≡ size = subst (λ o. Fits o size place.item.length) none is in
          reads_by (Bytes one) (text_in room storage place) (text_at storage place) (mark_in room place) None
          place.item.length (room_long room size storage place is) known (room_begin room size storage place is)

  abbrev TakesBy : ℕ → ℕ → Option ℕ → Operand → Type 0
  TakesBy room size mark one = Takes (List ℕ) (replacing_text room one ∷ [])
      (λ cells at. by_found mark cells (span_at items at (replacing_text room one))) (take_by items storage size one)

  whole_by : (text : List ℕ)
      → Takes (List ℕ) (Characters text ∷ []) (λ cells at. by_found None cells (span_at items at (Characters text)))
      (Ok text)
  whole_by text =
      reads_by (Characters text) text text None None (length text) refl refl (take_whole text (length text) refl)

  not_longer : (room : ℕ) (mark : Option ℕ) (size : ℕ) → IsLong room mark size → size ≤ room
  not_longer room None size is = omega (arith, is)
  not_longer room (Some n) size is = let a = is.0 in let b = is.2 in omega (arith, a, b)

  literal_by : (room size : ℕ) (mark : Option ℕ) (value : LiteralValue) → IsLong room mark size
      → SuitsValue items mark value
      → Takes (List ℕ) (replacing_literal room value ∷ [])
      (λ cells at. by_found mark cells (span_at items at (replacing_literal room value)))
      (Ok (replacing_characters size value))
  literal_by room size mark (literal.Figurative constant) is suits =
      let byte = figurative_byte constant in
      let text = replicate room byte in
      let long = length-replicate room byte in
      reads_by (Characters text) text (replicate size byte) None mark size refl
      (subst (λ n. IsLong n mark size) (sym long) is)
      (take_replicate size room byte (not_longer room mark size is))
  literal_by room size mark (literal.Numeric number) is suits =
      subst (λ m. Takes (List ℕ) (Characters (shown_literal (literal.Numeric number)) ∷ [])
      (λ cells at. by_found m cells (span_at items at (Characters (shown_literal (literal.Numeric number)))))
      (Ok (shown_literal (literal.Numeric number)))) (sym suits) (whole_by (shown_literal (literal.Numeric number)))
  literal_by room size mark (literal.Nonnumeric bytes) is suits =
      subst (λ m. Takes (List ℕ) (Characters (shown_literal (literal.Nonnumeric bytes)) ∷ [])
      (λ cells at. by_found m cells (span_at items at (Characters (shown_literal (literal.Nonnumeric bytes)))))
      (Ok (shown_literal (literal.Nonnumeric bytes)))) (sym suits) (whole_by (shown_literal (literal.Nonnumeric bytes)))
  literal_by room size mark (literal.All bytes) is suits =
      subst (λ m. Takes (List ℕ) (Characters (shown_literal (literal.All bytes)) ∷ [])
      (λ cells at. by_found m cells (span_at items at (Characters (shown_literal (literal.All bytes)))))
      (Ok (shown_literal (literal.All bytes)))) (sym suits) (whole_by (shown_literal (literal.All bytes)))

  takes_by : (room size : ℕ) (mark : Option ℕ) (one : Operand) → IsLong room mark size → Suits items mark one
      → TakesBy room size mark one
  takes_by room size mark (operand.Item one) is suits =
      subst (λ m. Takes (List ℕ) (Bytes one ∷ []) (λ cells at. by_found m cells (span_at items at (Bytes one)))
      (place_of items one storage >>= (λ place. Ok (text_at storage place)))) (sym suits.0) (item_by one suits.1)
  takes_by room size mark (operand.Literal one) is suits = literal_by room size mark one.value is suits

  -- ---- limits

  takes_limit : (one : Option Operand) → AreSome items (limit_text one)
      → Takes (Option (List ℕ)) (limit_text one) (λ cells at. limit_found cells (limit_span items at one))
      (take_limit items storage one)
  takes_limit None some = takes_none (Option (List ℕ)) None
  takes_limit (Some one) some =
      takes_map (List ℕ) (Option (List ℕ)) (source one ∷ [])
      (λ cells at. text_found cells (span_at items at (source one))) (λ text. Some text)
      (take_text items storage one) (takes_text one some.0)

  abbrev limits_in : Limits → List Cell → ℕ → LimitTexts
  limits_in one cells at = record {
    before = limit_found cells (limit_span items (before_at items at one) one.before);
    after = limit_found cells (limit_span items (after_at items at one) one.after);
  }

  limits_by : (before after : Option Operand) (turned : Bool)
      → (let one : Limits = record { before = before; after = after; after_first = turned } in
      AreSome items (limit_texts one)
      → Takes LimitTexts (limit_texts one) (limits_in one) (take_limits items storage one))
  limits_by before after true some =
      takes_then (Option (List ℕ)) LimitTexts (limit_text after) (limit_text before)
      (λ cells at. limit_found cells (limit_span items at after))
      (λ found cells at. record { before = limit_found cells (limit_span items at before); after = found })
      (take_limit items storage after)
      (λ found. take_limit items storage before >>= (λ other. Ok (record { before = other; after = found })))
      (takes_limit after (all_front (λ s. 1 ≤ text_size items s) (limit_text after) (limit_text before) some))
      (λ found is. takes_map (Option (List ℕ)) LimitTexts (limit_text before)
      (λ cells at. limit_found cells (limit_span items at before))
      (λ other. record { before = other; after = found }) (take_limit items storage before)
      (takes_limit before (all_back (λ s. 1 ≤ text_size items s) (limit_text after) (limit_text before) some)))
  limits_by before after false some =
      takes_then (Option (List ℕ)) LimitTexts (limit_text before) (limit_text after)
      (λ cells at. limit_found cells (limit_span items at before))
      (λ found cells at. record { before = found; after = limit_found cells (limit_span items at after) })
      (take_limit items storage before)
      (λ found. take_limit items storage after >>= (λ other. Ok (record { before = found; after = other })))
      (takes_limit before (all_front (λ s. 1 ≤ text_size items s) (limit_text before) (limit_text after) some))
      (λ found is. takes_map (Option (List ℕ)) LimitTexts (limit_text after)
      (λ cells at. limit_found cells (limit_span items at after))
      (λ other. record { before = found; after = other }) (take_limit items storage after)
      (takes_limit after (all_back (λ s. 1 ≤ text_size items s) (limit_text before) (limit_text after) some)))

  takes_limits : (one : Limits) → AreSome items (limit_texts one)
      → Takes LimitTexts (limit_texts one) (limits_in one) (take_limits items storage one)
  takes_limits one some = limits_by one.before one.after one.after_first some

  -- ---- entries

  abbrev pub entries_in : List InspectEntry → List Cell → ℕ → List TextEntry
  entries_in all cells at =
      map (λ one. entry_of (bytes_of cells) (measured_entry (mark_at cells) one)) (entries_at items at all)

  abbrev pub TakesEntries : List InspectEntry → Evaluation (List TextEntry) → Type 0
  TakesEntries all y = Takes (List TextEntry) (entries_texts all) (entries_in all) y

  pattern_same : (kind : Occurrences) (cells : List Cell) (span : Span)
      → Occurrence kind (text_found cells span)
      ≡ pattern_of (bytes_of cells) (measured_fit (mark_at cells) (fit_of kind span))
  pattern_same how.All cells span = refl
  pattern_same how.Leading cells span = refl
  pattern_same how.First cells span = refl

  by_same : (kind : Occurrences) (cells : List Cell) (span by : Span)
      → by_found (mark_at cells span.start) cells by
      ≡ bytes_in (bytes_of cells) (replacing_span (mark_at cells) (spans_text (fit_of kind span)) by)
  by_same how.All cells span by = refl
  by_same how.Leading cells span by = refl
  by_same how.First cells span by = refl

  -- limits after a pattern and what replaces it
  with_limits : (pattern : Pattern) (by : List ℕ) (one : Limits) → AreSome items (limit_texts one)
      → Takes (List TextEntry) (limit_texts one) (λ cells at. text_entry pattern by (limits_in one cells at) ∷ [])
      (take_limits items storage one >>= (λ limits. Ok (text_entry pattern by limits ∷ [])))
  with_limits pattern by one some =
      takes_map LimitTexts (List TextEntry) (limit_texts one) (limits_in one)
      (λ limits. text_entry pattern by limits ∷ []) (take_limits items storage one) (takes_limits one some)

  takes_tallied_text : (kind : Occurrences) (one : TalliedText)
      → AreSome items (source one.text ∷ limit_texts one.limits)
      → TakesEntries (tallied_text kind one ∷ []) (take_tallied_text items storage kind one)
  takes_tallied_text kind one some =
      let text = source one.text in
      let on = λ (found : List ℕ) (cells : List Cell) (at : ℕ). text_entry (Occurrence kind found) []
      (limits_in one.limits cells at) ∷ [] in
      let find = λ (cells : List Cell) (at : ℕ). text_found cells (span_at items at text) in
      let next = λ (found : List ℕ). take_limits items storage one.limits
      >>= (λ limits. okay (text_entry (Occurrence kind found) [] limits ∷ [])) in
      takes_nil (List TextEntry) (text ∷ limit_texts one.limits) (entries_in (tallied_text kind one ∷ []))
      (take_tallied_text items storage kind one)
      (takes_as (List TextEntry) (text ∷ limit_texts one.limits)
      (λ cells at. on (find cells at) cells (at + text_sizes items (text ∷ [])))
      (entries_in (tallied_text kind one ∷ [])) (take_tallied_text items storage kind one)
      (λ cells at.
      let size = text_sizes items (text ∷ []) in
      let here : at + size ≡ at + size + 0 = omega arith in
      ap (λ p. text_entry p [] (limits_in one.limits cells (at + size)) ∷ [])
      (pattern_same kind cells (span_at items at text))
      ∙ ap (λ k.
      text_entry (pattern_of (bytes_of cells) (measured_fit (mark_at cells) (fit_of kind (span_at items at text)))) []
      (limits_in one.limits cells k) ∷ []) here)
      (takes_then (List ℕ) (List TextEntry) (text ∷ []) (limit_texts one.limits) find on
      (take_text items storage one.text) next (takes_text one.text some.0)
      (λ found is. with_limits (Occurrence kind found) [] one.limits some.1)))

  takes_any : (one : Limits) → AreSome items (limit_texts one)
      → TakesEntries (record { what = layout.Any; by = None; limits = one } ∷ [])
      (take_tallied items storage (tallied.Characters one))
  takes_any one some =
      let all : List InspectEntry = record { what = layout.Any; by = None; limits = one } ∷ [] in
      let taken = take_tallied items storage (tallied.Characters one) in
      takes_nil (List TextEntry) (limit_texts one) (entries_in all) taken
      (takes_as (List TextEntry) (limit_texts one)
      (λ cells at. text_entry AnyCharacter [] (limits_in one cells at) ∷ []) (entries_in all) taken
      (λ cells at. let here : at ≡ at + 0 + 0 = omega arith in
      ap (λ k. text_entry AnyCharacter [] (limits_in one cells k) ∷ []) here)
      (with_limits AnyCharacter [] one some))

  -- what replaces, and limits
  by_and_limits : (pattern : Pattern) (room size : ℕ) (mark : Option ℕ) (by : Operand) (one : Limits)
      → IsLong room mark size → Suits items mark by → AreSome items (limit_texts one)
      → (let text = replacing_text room by in
      Takes (List TextEntry) (text ∷ limit_texts one)
      (λ cells at. text_entry pattern (by_found mark cells (span_at items at text))
      (limits_in one cells (at + text_sizes items (text ∷ []))) ∷ [])
      (take_by items storage size by
      >>= (λ found. take_limits items storage one >>= (λ limits. Ok (text_entry pattern found limits ∷ [])))))
  by_and_limits pattern room size mark by one is suits some =
      let text = replacing_text room by in
      takes_then (List ℕ) (List TextEntry) (text ∷ []) (limit_texts one)
      (λ cells at. by_found mark cells (span_at items at text))
      (λ found cells at. text_entry pattern found (limits_in one cells at) ∷ []) (take_by items storage size by)
      (λ found. take_limits items storage one >>= (λ limits. Ok (text_entry pattern found limits ∷ [])))
      (takes_by room size mark by is suits)
      (λ found e. with_limits pattern found one some)

  found_then : (u : Evaluation Found) (next : List ℕ → Evaluation (List TextEntry))
      → (u >>= (λ found. okay found.text)) >>= next ≡ u >>= (λ found. next found.text)
  found_then (Err f) next = refl
  found_then (Ok found) next = refl

  pub takes_replaced_text : (kind : Occurrences) (one : ReplacedText) → IsSuited items one
      → AreSome items (source one.text ∷ limit_texts one.limits)
      → TakesEntries (replaced_text items kind one ∷ []) (take_replaced_text items storage kind one)
  takes_replaced_text kind one suits some =
      let text = source one.text in
      let room = text_size items text in
      let by = replacing_text room one.by in
      let behind_text = by ∷ limit_texts one.limits in
      let all : List InspectEntry = replaced_text items kind one ∷ [] in
      let on = λ (found : Found) (cells : List Cell) (at : ℕ).
      text_entry (Occurrence kind found.text) (by_found found.mark cells (span_at items at by))
      (limits_in one.limits cells (at + text_sizes items (by ∷ []))) ∷ [] in
      let next = λ (found : List ℕ). take_by items storage (length found) one.by
      >>= (λ other. take_limits items storage one.limits
      >>= (λ limits. okay (text_entry (Occurrence kind found) other limits ∷ []))) in
      let taken = find_text text >>= (λ found. next found.text) in
      subst (TakesEntries all) (sym (found_then (find_text text) next) ∙ ap (λ u. u >>= next) (sym (taken_is one.text)))
      (takes_nil (List TextEntry) (text ∷ behind_text) (entries_in all) taken
      (takes_as (List TextEntry) (text ∷ behind_text)
      (λ cells at. on (found_at text cells at) cells (at + text_sizes items (text ∷ []))) (entries_in all) taken
      (λ cells at.
      let there = at + text_sizes items (text ∷ []) in
      ap (λ p. text_entry p (by_found (mark_at cells at) cells (span_at items there by))
      (limits_in one.limits cells (there + text_sizes items (by ∷ []))) ∷ [])
      (pattern_same kind cells (span_at items at text))
      ∙ ap (λ l.
      text_entry (pattern_of (bytes_of cells) (measured_fit (mark_at cells) (fit_of kind (span_at items at text))))
      l (limits_in one.limits cells (there + text_sizes items (by ∷ []))) ∷ [])
      (by_same kind cells (span_at items at text) (span_at items there by)))
      (takes_then Found (List TextEntry) (text ∷ []) behind_text (found_at text) on (find_text text)
      (λ found. next found.text) (takes_found text some.0)
      (λ found is. by_and_limits (Occurrence kind found.text) room (length found.text) found.mark one.by one.limits
      (found_long text found is) (found_suits text one.by found is suits) some.1))))

  takes_any_by : (by : Operand) (one : Limits) → Suits items None by → AreSome items (limit_texts one)
      → TakesEntries (record { what = layout.Any; by = Some (replacing_text 1 by); limits = one } ∷ [])
      (take_replacing items storage (replacing.Characters by one))
  takes_any_by by one suits some =
      let text = replacing_text 1 by in
      let all : List InspectEntry = record { what = layout.Any; by = Some text; limits = one } ∷ [] in
      let taken = take_replacing items storage (replacing.Characters by one) in
      takes_nil (List TextEntry) (text ∷ limit_texts one) (entries_in all) taken
      (takes_as (List TextEntry) (text ∷ limit_texts one)
      (λ cells at. text_entry AnyCharacter (by_found None cells (span_at items at text))
      (limits_in one cells (at + text_sizes items (text ∷ []))) ∷ []) (entries_in all) taken
      (λ cells at.
      let here : at ≡ at + 0 = omega arith in
      ap (λ k. text_entry AnyCharacter (by_found None cells (span_at items k text))
      (limits_in one cells (k + text_sizes items (text ∷ []))) ∷ []) here)
      (by_and_limits AnyCharacter 1 1 None by one refl suits some))

  -- ---- lists of them

  pub entries_append : (xs ys : List InspectEntry) (cells : List Cell) (at : ℕ)
      → entries_in (xs ++ ys) cells at
      ≡ entries_in xs cells at ++ entries_in ys cells (at + text_sizes items (entries_texts xs))
  entries_append [] ys cells at = ap (entries_in ys cells) (omega arith)
  entries_append (x ∷ xs) ys cells at =
      let next = at + text_sizes items (entry_texts x) in
      let sum = sizes_append items (entry_texts x) (entries_texts xs) in
      let here : next + text_sizes items (entries_texts xs) ≡ at + text_sizes items (entries_texts (x ∷ xs)) = omega
      (arith, sum) in
      ap (λ l. entry_of (bytes_of cells) (measured_entry (mark_at cells) (entry_at items at x)) ∷ l)
      (entries_append xs ys cells next
      ∙ ap (λ k. entries_in xs cells next ++ entries_in ys cells k) here)

  takes_both : (xs ys : List InspectEntry) (y z : Evaluation (List TextEntry)) → TakesEntries xs y → TakesEntries ys z
      → TakesEntries (xs ++ ys) (y >>= (λ front. z >>= (λ back. Ok (front ++ back))))
  takes_both xs ys y z h k =
      let next = λ (front : List TextEntry). z >>= (λ back. okay (front ++ back)) in
      subst (λ l. Takes (List TextEntry) l (entries_in (xs ++ ys)) (y >>= next)) (sym (texts_append xs ys))
      (takes_as (List TextEntry) (entries_texts xs ++ entries_texts ys)
      (λ cells at. entries_in xs cells at ++ entries_in ys cells (at + text_sizes items (entries_texts xs)))
      (entries_in (xs ++ ys)) (y >>= next)
      (λ cells at. sym (entries_append xs ys cells at))
      (takes_then (List TextEntry) (List TextEntry) (entries_texts xs) (entries_texts ys) (entries_in xs)
      (λ front cells at. front ++ entries_in ys cells at) y next h
      (λ front is. takes_map (List TextEntry) (List TextEntry) (entries_texts ys) (entries_in ys)
      (λ back. front ++ back) z k)))

  takes_all : {A : Type 0} (Q : A → Type 0) (inspected : A → List InspectEntry)
      (take_one : A → Evaluation (List TextEntry))
      → ((one : A) → Q one → AreSome items (entries_texts (inspected one))
      → TakesEntries (inspected one) (take_one one))
      → (all : List A) → AllByRecursion Q all → AreSome items (entries_texts (all_inspected inspected all))
      → TakesEntries (all_inspected inspected all) (take_all take_one all)
  takes_all Q inspected take_one each [] holds some = takes_none (List TextEntry) []
  takes_all Q inspected take_one each (one ∷ more) holds some =
      let front = entries_texts (inspected one) in
      let back = entries_texts (all_inspected inspected more) in
      let both : AreSome items (front ++ back) = subst (AreSome items)
      (texts_append (inspected one) (all_inspected inspected more)) some in
      takes_both (inspected one) (all_inspected inspected more) (take_one one) (take_all take_one more)
      (each one holds.0 (all_front (λ s. 1 ≤ text_size items s) front back both))
      (takes_all Q inspected take_one each more holds.1 (all_back (λ s. 1 ≤ text_size items s) front back both))

  -- an entry alone
  pub alone : (one : InspectEntry) → AreSome items (entries_texts (one ∷ [])) → AreSome items (entry_texts one)
  alone one some = all_front (λ s. 1 ≤ text_size items s) (entry_texts one) [] some

  abbrev Always : {A : Type 0} → A → Type 0
  Always one = Unit {0}

  always : {A : Type 0} (all : List A) → AllByRecursion Always all
  always [] = tt
  always (one ∷ more) = (tt, always more)

  takes_tallied : (one : Tallied) → AreSome items (entries_texts (tallied_entries one))
      → TakesEntries (tallied_entries one) (take_tallied items storage one)
  takes_tallied (tallied.Characters limits) some = takes_any limits
      (alone (record { what = layout.Any; by = None; limits = limits }) some)
  takes_tallied (tallied.Texts kind texts) some = takes_all Always (λ one. tallied_text kind one ∷ [])
      (take_tallied_text items storage kind)
      (λ one h k. takes_tallied_text kind one (alone (tallied_text kind one) k)) texts (always texts) some

  pub takes_counter : (one : Tallying) → AreSome items (entries_texts (counter_entries one))
      → TakesEntries (counter_entries one) (take_all (take_tallied items storage) one.tallied)
  takes_counter one some = takes_all Always tallied_entries (take_tallied items storage)
      (λ one h k. takes_tallied one k) one.tallied (always one.tallied) some

  takes_replacing : (one : Replacing) → AreSuited items one
      → AreSome items (entries_texts (replacing_entries items one))
      → TakesEntries (replacing_entries items one) (take_replacing items storage one)
  takes_replacing (replacing.Characters by limits) suits some =
      takes_any_by by limits suits
      (alone (record { what = layout.Any; by = Some (replacing_text 1 by); limits = limits }) some).1
  takes_replacing (replacing.Texts kind texts) suits some = takes_all (IsSuited items)
      (λ one. replaced_text items kind one ∷ []) (take_replaced_text items storage kind)
      (λ one h k. let each = alone (replaced_text items kind one) k in
      takes_replaced_text kind one h (each.0, each.1.1)) texts suits some

  pub takes_all_replaced : (all : List Replacing) → AllByRecursion (AreSuited items) all
      → AreSome items (entries_texts (all_inspected (replacing_entries items) all))
      → TakesEntries (all_inspected (replacing_entries items) all) (take_all (take_replacing items storage) all)
  takes_all_replaced all suits some = takes_all (AreSuited items) (replacing_entries items)
      (take_replacing items storage) takes_replacing all suits some
