-- INSPECT over texts does what INSPECT over spans does.
use Rattle.std.proofs.Common.{◌≡◌, ◌≢◌, ℕ, zero, suc, ◌+◌, ◌-◌, ◌≤◌, ◌<◌, Bool, true, false, cond, List, [], ◌∷◌, ◌++◌}
use Rattle.std.proofs.Common.{map, length, take, drop}
use Rattle.std.proofs.Common.{Option, Some, None, refl, ap, sym, subst, ◌∙◌, arith, append_assoc, length-append}
use Rattle.std.specs.Prelude.{Ok, Err, ◌==◌}
use Rattle.std.specs.List.{AllByRecursion, sum}
use Rattle.std.proofs.lemmas.Bool.Decides.{nat_tests}
use Rattle.std.proofs.lemmas.List.{length-map, append-nil}
use Rattle.std.proofs.lemmas.List.Elements.{recursion_from_All}
use Rattle.std.proofs.lemmas.List.Sums.{sum_by-cons}
use Rattle.text_ops.specs.declared.entry.Entry.{Entry}
use Rattle.text_ops.specs.Entries.{IsEntry, AreWithin}
use Rattle.text_ops.specs.Inspect as spans
use Rattle.text_ops.specs.Inspect.{tally}
use Rattle.source_tree.specs.declared.inspect_statement.Tallying.{Tallying}
use Rattle.source_tree.specs.declared.inspect_statement.Replacing.{Replacing}
use Rattle.source_tree.specs.declared.inspect_statement.Replacing.TheVariants as replacing
use Rattle.source_tree.specs.declared.inspect_statement.InspectStatement.{InspectStatement}
use Rattle.source_tree.specs.Places.{LocatedItem}
use Rattle.source_tree.specs.Storage.{Storage}
use Rattle.source_tree.specs.Evaluated.{Evaluation, ◌>>=◌}
use Rattle.source_tree.specs.References.{ItemPlace, part_of, storage_with, place_of}
use Rattle.source_tree.specs.InspectWalk.{TextEntry, tallies, replaced_subject}
use Rattle.source_tree.specs.Inspecting as meaning
use Rattle.source_tree.specs.Inspecting.{text_at, take_all, take_tallied, take_counter, take_replacing, counter_fits}
use Rattle.source_tree.specs.Inspecting.{add_each, store_text, count_and_replace, inspect}
use Rattle.source_tree.specs.MeasuredTexts.{room_of, TextLength, length_at, measured_entry}
use Rattle.source_tree.specs.InspectLayout.{Source, Bytes, Characters, InspectArgument, Counter, Text, text_size}
use Rattle.source_tree.specs.InspectLayout.{text_sizes, taken_size, InspectEntry, replaced_text, all_inspected}
use Rattle.source_tree.specs.InspectLayout.{counter_entries, replacing_entries, entry_texts, entries_texts}
use Rattle.source_tree.specs.InspectLayout.{tallying_takings, by_span, by_at, entries_at, entry_counts, all_tallied}
use Rattle.source_tree.specs.InspectLayout.{all_replaced, tallied_size, inspected_size, Inspection, inspection}
use Rattle.source_tree.specs.InspectLayout.{InspectTaken, with_counter, with_text, text_in, lengths_in, take_each}
use Rattle.source_tree.specs.InspectLayout.{fits_together, counted_fits, store_replaced, with_lengths, inspect_at}
use Rattle.source_tree.specs.InspectLayout.{inspect_by_spans}
use Rattle.source_tree.proofs.InspectWalks.{entry_of, of_each, HasBy, tallied_same, replaced_same}
use Rattle.source_tree.proofs.Evaluations.{Alike, okay, bind_same}
use Rattle.source_tree.proofs.PartLengths.{Fits, place_fits}
use Rattle.source_tree.proofs.Cells.{Cell, bytes_of, mark_at, plain, cells_of, cells_many, bytes_are, bytes_append}
use Rattle.source_tree.proofs.Cells.{bytes_many}
use Rattle.source_tree.proofs.Measures.{entries_are, entries_have as measured_have, entries_alike}
use Rattle.source_tree.proofs.InspectTaking.{sizes_append, texts_append, Reads, reads_then, mark_in, room_long}
use Rattle.source_tree.proofs.InspectTaking.{read_all}
use Rattle.source_tree.proofs.InspectTaking.{entries_in, entries_append, takes_counter, takes_all_replaced, AreSome}
use Rattle.source_tree.proofs.InspectTaking.{AreSuited, all_front, all_back}

-- ---- the count of each counter

summed : (count : ℕ → ℕ) (from n k : ℕ) → n ≤ k → sum (take n (of_each count from k)) ≡ fits_together count from n
summed count from zero k le = refl
summed count from (suc n) zero le = absurd (omega (arith, le))
summed count from (suc n) (suc k) le = sum_by-cons (λ x. x) (count from) (take n (of_each count (from + 1) k))
    ∙ ap (λ m. count from + m) (summed count (from + 1) n k (omega (arith, le)))

further : (count : ℕ → ℕ) (from n k : ℕ) → n ≤ k → drop n (of_each count from k) ≡ of_each count (from + n) (k - n)
further count from zero k le = ap (λ m. of_each count m k) (omega arith) ∙ ap (of_each count (from + 0)) (omega arith)
further count from (suc n) zero le = absurd (omega (arith, le))
further count from (suc n) (suc k) le = further count (from + 1) n k (omega (arith, le))
    ∙ ap (λ m. of_each count m (k - n)) (omega arith) ∙ ap (of_each count (from + suc n)) (omega arith)

counts_same : (counters : List meaning.Counter) (count : ℕ → ℕ) (from k : ℕ)
    → k ≡ length (meaning.all_entries counters)
    → counter_fits counters (of_each count from k) ≡ counted_fits count from (map (λ one. length one.entries) counters)
counts_same [] count from k e = refl
counts_same (one ∷ more) count from k e =
    let n = length one.entries in
    let whole = length-append one.entries (meaning.all_entries more) in
    let le : n ≤ k = omega (arith, e, whole) in
    let left : k - n ≡ length (meaning.all_entries more) = omega (arith, e, whole) in
    ap (λ x. x ∷ counter_fits more (drop n (of_each count from k))) (summed count from n k le)
    ∙ ap (λ l. fits_together count from n ∷ counter_fits more l) (further count from n k le)
    ∙ ap (λ l. fits_together count from n ∷ l) (counts_same more count (from + n) (k - n) left)

-- ---- sizes of what is taken

module _ (items : List LocatedItem) where
  pub taken_append : (xs ys : List InspectArgument)
      → taken_size items (xs ++ ys) ≡ taken_size items xs + taken_size items ys
  taken_append [] ys = omega arith
  taken_append (Counter x ∷ xs) ys = taken_append xs ys
  taken_append (Text x ∷ xs) ys = omega (arith, taken_append xs ys)

  pub taken_texts : (xs : List Source) → taken_size items (map Text xs) ≡ text_sizes items xs
  taken_texts [] = refl
  taken_texts (x ∷ xs) = omega (arith, taken_texts xs)

-- ---- lengths, by the cells that they are marks of

abbrev pub own_length : ℕ → Option ℕ → List TextLength
own_length at None = []
own_length at (Some n) = record { start = at; length = n } ∷ []

-- the last text's first
abbrev pub lengths_from : ℕ → List Cell → List TextLength
lengths_from at [] = []
lengths_from at (c ∷ cells) = lengths_from (at + 1) cells ++ own_length at c.mark

lengths_append : (at : ℕ) (a b : List Cell)
    → lengths_from at (a ++ b) ≡ lengths_from (at + length a) b ++ lengths_from at a
lengths_append at [] b = ap (λ k. lengths_from k b) (omega arith) ∙ sym (append-nil (lengths_from (at + 0) b))
lengths_append at (c ∷ a) b =
    let own = own_length at c.mark in
    ap (λ l. l ++ own) (lengths_append (at + 1) a b)
    ∙ ap (λ k. (lengths_from k b ++ lengths_from (at + 1) a) ++ own) (omega arith)
    ∙ append_assoc (lengths_from (at + suc (length a)) b) (lengths_from (at + 1) a) own

none_plain : (at : ℕ) (text : List ℕ) → lengths_from at (plain text) ≡ []
none_plain at [] = refl
none_plain at (c ∷ text) = ap (λ l. l ++ []) (none_plain (at + 1) text)

none_of : (at : ℕ) (text : List ℕ) → lengths_from at (cells_of text None) ≡ []
none_of at [] = refl
none_of at (c ∷ text) = ap (λ l. l ++ []) (none_plain (at + 1) text)

own_of : (at : ℕ) (text : List ℕ) (mark : Option ℕ) → 1 ≤ length text
    → lengths_from at (cells_of text mark) ≡ own_length at mark
own_of at [] mark some = absurd (omega (arith, some))
own_of at (c ∷ text) mark some = ap (λ l. l ++ own_length at mark) (none_plain (at + 1) text)

abbrev or_length : Option ℕ → Option ℕ → Option ℕ
or_length None other = other
or_length (Some n) other = Some n

or_none : (one : Option ℕ) → or_length one None ≡ one
or_none None = refl
or_none (Some n) = refl

first_of : (a b : List TextLength) (at : ℕ) → length_at (a ++ b) at ≡ or_length (length_at a at) (length_at b at)
first_of [] b at = refl
first_of (one ∷ more) b at = by_test (one.start == at) (first_of more b at)
  where
    by_test : (test : Bool) → length_at (more ++ b) at ≡ or_length (length_at more at) (length_at b at)
        → cond test (Some one.length) (length_at (more ++ b) at)
        ≡ or_length (cond test (Some one.length) (length_at more at)) (length_at b at)
    by_test true e = refl
    by_test false e = e

other_place : (n : ℕ) (mark : Option ℕ) (at : ℕ) → n ≢ at → length_at (own_length n mark) at ≡ None
other_place n None at h = refl
other_place n (Some k) at h = by_test (n == at) refl
  where
    by_test : (test : Bool) → (n == at) ≡ test → cond test (Some k) None ≡ None
    by_test true e = absurd (h (grind (arith, nat_tests, e)))
    by_test false e = refl

own_place : (n : ℕ) (mark : Option ℕ) → length_at (own_length n mark) n ≡ mark
own_place n None = refl
own_place n (Some k) = ap (λ b. cond b (Some k) None) same
  where
    same : (n == n) ≡ true
    same = grind (arith, nat_tests)

earlier : (from at : ℕ) (cells : List Cell) → at < from → length_at (lengths_from from cells) at ≡ None
earlier from at [] lt = refl
earlier from at (c ∷ cells) lt =
    first_of (lengths_from (from + 1) cells) (own_length from c.mark) at
    ∙ ap (λ o. or_length o (length_at (own_length from c.mark) at)) (earlier (from + 1) at cells (omega (arith, lt)))
    ∙ other_place from c.mark at (λ e. omega (arith, e, lt))

lookup_from : (from : ℕ) (cells : List Cell) (k : ℕ) → length_at (lengths_from from cells) (from + k) ≡ mark_at cells k
lookup_from from [] k = refl
lookup_from from (c ∷ cells) zero =
    let here : from + 0 ≡ from = omega arith in
    ap (length_at (lengths_from (from + 1) cells ++ own_length from c.mark)) here
    ∙ first_of (lengths_from (from + 1) cells) (own_length from c.mark) from
    ∙ ap (λ o. or_length o (length_at (own_length from c.mark) from))
    (earlier (from + 1) from cells (omega arith))
    ∙ own_place from c.mark
lookup_from from (c ∷ cells) (suc k) =
    let here : from + suc k ≡ (from + 1) + k = omega arith in
    let at = (from + 1) + k in
    ap (length_at (lengths_from (from + 1) cells ++ own_length from c.mark)) here
    ∙ first_of (lengths_from (from + 1) cells) (own_length from c.mark) at
    ∙ ap (or_length (length_at (lengths_from (from + 1) cells) at))
    (other_place from c.mark at (λ e. omega (arith, e)))
    ∙ or_none (length_at (lengths_from (from + 1) cells) at)
    ∙ lookup_from (from + 1) cells k

pub lookup : (cells : List Cell) (at : ℕ) → length_at (lengths_from 0 cells) at ≡ mark_at cells at
lookup cells at =
    let here : at ≡ 0 + at = omega arith in
    ap (length_at (lengths_from 0 cells)) here ∙ lookup_from 0 cells at

-- ---- takings, one after another

abbrev both : InspectTaken → InspectTaken → InspectTaken
both a b = record { counters = a.counters ++ b.counters; texts = a.texts ++ b.texts; lengths = b.lengths ++ a.lengths }

-- so many bytes after the first
abbrev pub only : ℕ → List Cell → InspectTaken
only at cells = record { counters = []; texts = bytes_of cells; lengths = lengths_from at cells }

nothing_before : (u : Evaluation InspectTaken)
    → u ≡ u >>= (λ b. okay (both (record { counters = []; texts = []; lengths = [] }) b))
nothing_before (Err f) = refl
nothing_before (Ok b) = ap (λ l. okay (record b { lengths = l })) (sym (append-nil b.lengths))

counter_before : (p : Evaluation ItemPlace) (u v : Evaluation InspectTaken)
    → (p >>= (λ place. (u >>= (λ a. v >>= (λ b. okay (both a b)))) >>= (λ t. okay (with_counter place t))))
    ≡ ((p >>= (λ place. u >>= (λ t. okay (with_counter place t)))) >>= (λ a. v >>= (λ b. okay (both a b))))
counter_before (Err f) u v = refl
counter_before (Ok place) (Err f) v = refl
counter_before (Ok place) (Ok a) (Err f) = refl
counter_before (Ok place) (Ok a) (Ok b) = refl

text_before : (text : List ℕ) (lengths : List TextLength) (u v : Evaluation InspectTaken)
    → ((u >>= (λ a. v >>= (λ b. okay (both a b)))) >>= (λ t. okay (with_text text lengths t)))
    ≡ ((u >>= (λ t. okay (with_text text lengths t))) >>= (λ a. v >>= (λ b. okay (both a b))))
text_before text lengths (Err f) v = refl
text_before text lengths (Ok a) (Err f) = refl
text_before text lengths (Ok a) (Ok b) =
    ap (λ (l : List ℕ). okay (record {
      counters = a.counters ++ b.counters;
      texts = l;
      lengths = (b.lengths ++ a.lengths) ++ lengths;
    })) (sym (append_assoc text a.texts b.texts))
    ∙ ap (λ (l : List TextLength). okay (record {
      counters = a.counters ++ b.counters;
      texts = (text ++ a.texts) ++ b.texts;
      lengths = l;
    })) (append_assoc b.lengths a.lengths lengths)

item_before : (p : Evaluation ItemPlace) (text : ItemPlace → List ℕ) (lengths : ItemPlace → List TextLength)
    (u v : Evaluation InspectTaken)
    → (p >>= (λ place. (u >>= (λ a. v >>= (λ b. okay (both a b))))
    >>= (λ t. okay (with_text (text place) (lengths place) t))))
    ≡ ((p >>= (λ place. u >>= (λ t. okay (with_text (text place) (lengths place) t))))
    >>= (λ a. v >>= (λ b. okay (both a b))))
item_before (Err f) text lengths u v = refl
item_before (Ok place) text lengths u v = text_before (text place) (lengths place) u v

bind_known : {A B : Type 0} (r : Evaluation A) (f g : A → Evaluation B) → ((x : A) → r ≡ Ok x → f x ≡ g x)
    → r >>= f ≡ r >>= g
bind_known (Ok x) f g same = same x refl
bind_known (Err fault) f g same = refl

-- cells after which others are only
only_after : (at size : ℕ) (cells : List Cell) (text : List ℕ) (lengths : List TextLength) (u : Evaluation (List Cell))
    → ((b : List Cell) → with_text text lengths (only (at + size) b) ≡ only at (cells ++ b))
    → ((u >>= (λ b. okay (only (at + size) b))) >>= (λ t. okay (with_text text lengths t)))
    ≡ ((u >>= (λ b. okay (cells ++ b))) >>= (λ c. okay (only at c)))
only_after at size cells text lengths (Err f) same = refl
only_after at size cells text lengths (Ok b) same = ap (λ (t : InspectTaken). okay t) (same b)

item_after : (p : Evaluation ItemPlace) (cells : ItemPlace → List Cell) (u : Evaluation (List Cell)) (at : ℕ)
    → (p >>= (λ place. (u >>= (λ b. okay (cells place ++ b))) >>= (λ c. okay (only at c))))
    ≡ (((p >>= (λ place. okay (cells place))) >>= (λ t. u >>= (λ b. okay (t ++ b)))) >>= (λ c. okay (only at c)))
item_after (Err f) cells u at = refl
item_after (Ok place) cells u at = refl

joined : (at size : ℕ) (text : List ℕ) (mark : Option ℕ) (lengths : List TextLength) (b : List Cell)
    → length text ≡ size → lengths_from at (cells_of text mark) ≡ lengths
    → with_text text lengths (only (at + size) b) ≡ only at (cells_of text mark ++ b)
joined at size text mark lengths b long own =
    let cells = cells_of text mark in
    let many : length cells ≡ size = cells_many text mark ∙ long in
    let texts : text ++ bytes_of b ≡ bytes_of (cells ++ b) =
    ap (λ l. l ++ bytes_of b) (sym (bytes_are text mark)) ∙ sym (bytes_append cells b) in
    let found : lengths_from (at + size) b ++ lengths ≡ lengths_from at (cells ++ b) =
    ap (λ l. lengths_from (at + size) b ++ l) (sym own)
    ∙ ap (λ n. lengths_from (at + n) b ++ lengths_from at cells) (sym many) ∙ sym (lengths_append at cells b) in
    ap (λ (l : List ℕ). record { counters = []; texts = l; lengths = lengths_from (at + size) b ++ lengths }) texts
    ∙ ap (λ (l : List TextLength). record { counters = []; texts = bytes_of (cells ++ b); lengths = l }) found

lengths_own : (room : Option ℕ) (at : ℕ) (place : ItemPlace)
    → own_length at (mark_in room place) ≡ lengths_in room at place
lengths_own None at place = refl
lengths_own (Some room) at place = refl

-- with a mark the text has a character
own_there : (room : Option ℕ) (size at : ℕ) (text : List ℕ) (place : ItemPlace) → Fits room size place.item.length
    → length text ≡ size → lengths_from at (cells_of text (mark_in room place)) ≡ lengths_in room at place
own_there None size at text place fits long = none_of at text
own_there (Some room) size at text place fits long =
    let a = fits.1 in
    let b = fits.2 in
    own_of at text (Some place.item.length) (omega (arith, a, b, long))

module _ (items : List LocatedItem) (storage : Storage) where
  take_append : (at : ℕ) (xs ys : List InspectArgument)
      → take_each items at (xs ++ ys) storage
      ≡ take_each items at xs storage
      >>= (λ a. take_each items (at + taken_size items xs) ys storage >>= (λ b. Ok (both a b)))
  take_append at [] ys =
      let here : at ≡ at + 0 = omega arith in
      ap (λ n. take_each items n ys storage) here ∙ nothing_before (take_each items (at + 0) ys storage)
  take_append at (Counter one ∷ xs) ys =
      ap (λ (r : Evaluation InspectTaken). place_of items one storage
      >>= (λ place. r >>= (λ t. okay (with_counter place t)))) (take_append at xs ys)
      ∙ counter_before (place_of items one storage) (take_each items at xs storage)
      (take_each items (at + taken_size items xs) ys storage)
  take_append at (Text (Bytes one) ∷ xs) ys =
      let size = text_size items (Bytes one) in
      let here : (at + size) + taken_size items xs ≡ at + (size + taken_size items xs) = omega arith in
      let text = text_in (room_of items one) storage in
      let lengths = lengths_in (room_of items one) at in
      let rest = take_each items (at + size) xs storage in
      let first = place_of items one storage in
      ap (λ (r : Evaluation InspectTaken).
      first >>= (λ place. r >>= (λ t. okay (with_text (text place) (lengths place) t))))
      (take_append (at + size) xs ys
      ∙ ap (λ n. rest >>= (λ a. take_each items n ys storage >>= (λ b. okay (both a b)))) here)
      ∙ item_before first text lengths rest (take_each items (at + (size + taken_size items xs)) ys storage)
  take_append at (Text (Characters text) ∷ xs) ys =
      let size = length text in
      let here : (at + size) + taken_size items xs ≡ at + (size + taken_size items xs) = omega arith in
      let rest = take_each items (at + size) xs storage in
      ap (λ (r : Evaluation InspectTaken). r >>= (λ t. okay (with_text text [] t)))
      (take_append (at + size) xs ys
      ∙ ap (λ n. rest >>= (λ a. take_each items n ys storage >>= (λ b. okay (both a b)))) here)
      ∙ text_before text [] rest (take_each items (at + (size + taken_size items xs)) ys storage)

  pub only_texts : (at : ℕ) (texts : List Source)
      → take_each items at (map Text texts) storage ≡ read_all items storage texts >>= (λ a. Ok (only at a))
  only_texts at [] = refl
  only_texts at (Bytes one ∷ more) =
      let size = text_size items (Bytes one) in
      let room = room_of items one in
      let first = place_of items one storage in
      let rest = read_all items storage more in
      let cells = λ (place : ItemPlace). cells_of (text_in room storage place) (mark_in room place) in
      ap (λ (r : Evaluation InspectTaken). first
      >>= (λ place. r >>= (λ t. okay (with_text (text_in room storage place) (lengths_in room at place) t))))
      (only_texts (at + size) more)
      ∙ bind_known first _ _ (λ place e.
      let fits = place_fits items storage one place e in
      let long = room_long room size storage place fits in
      only_after at size (cells place) (text_in room storage place) (lengths_in room at place) rest (λ b.
      joined at size (text_in room storage place) (mark_in room place) (lengths_in room at place) b long
      (own_there room size at (text_in room storage place) place fits long)))
      ∙ item_after first cells rest at
  only_texts at (Characters text ∷ more) =
      let size = length text in
      let rest = read_all items storage more in
      ap (λ (r : Evaluation InspectTaken). r >>= (λ t. okay (with_text text [] t))) (only_texts (at + size) more)
      ∙ only_after at size (cells_of text None) text [] rest (λ b.
      joined at size text None [] b refl (none_of at text))

  -- ---- counters and their entries

  entries_long : (all : List InspectEntry) (cells : List Cell) (at : ℕ)
      → length (entries_in items storage all cells at) ≡ length all
  entries_long [] cells at = refl
  entries_long (one ∷ more) cells at = ap suc (entries_long more cells (at + text_sizes items (entry_texts one)))

  abbrev pub EntriesRead : List InspectEntry → List Cell → List TextEntry → Type 0
  EntriesRead all cells entries = Reads (List TextEntry) (text_sizes items (entries_texts all)) cells
      (entries_in items storage all) entries

  read_both : (xs ys : List InspectEntry) (a b : List Cell) (front back : List TextEntry) → EntriesRead xs a front
      → EntriesRead ys b back → EntriesRead (xs ++ ys) (a ++ b) (front ++ back)
  read_both xs ys a b front back h k =
      let n = text_sizes items (entries_texts xs) in
      let m = text_sizes items (entries_texts ys) in
      let on = λ (found : List TextEntry) (cells : List Cell) (at : ℕ). found ++ entries_in items storage ys cells at in
      let behind : Reads (List TextEntry) m b (on front) (front ++ back) = record {
        size_is = k.size_is;
        found = λ l r. ap (λ es. front ++ es) (k.found l r);
      } in
      let whole = reads_then (List TextEntry) (List TextEntry) n m a b (entries_in items storage xs) on front
      (front ++ back) h behind in
      let sizes : text_sizes items (entries_texts (xs ++ ys)) ≡ n + m = ap (text_sizes items) (texts_append xs ys)
      ∙ sizes_append items (entries_texts xs) (entries_texts ys) in
      record {
        size_is = whole.size_is
            ∙ sym sizes;
        found = λ l r. entries_append items storage xs ys (l ++ ((a ++ b) ++ r)) (length l)
            ∙ whole.found l r;
      }

  -- What was taken so many bytes after the first is in these cells.
  record CountersTaken (at : ℕ) (all : List Tallying) (taken : InspectTaken) (counters : List meaning.Counter) :
      Type 0 where
    cells : List Cell
    texts : taken.texts ≡ bytes_of cells
    lengths : taken.lengths ≡ lengths_from at cells
    places : taken.counters ≡ map (λ one. one.place) counters
    sizes : map (λ one. length one.entries) counters ≡ entry_counts all
    entries : EntriesRead (all_inspected counter_entries all) cells (meaning.all_entries counters)

  abbrev made : ItemPlace → List TextEntry → List meaning.Counter
  made place entries = record { place = place; entries = entries } ∷ []

  counter_added : (one : Tallying) (more : List Tallying) (at n : ℕ) (place : ItemPlace) (a : List Cell)
      (entries : List TextEntry) (x : InspectTaken) (y : List meaning.Counter)
      → n ≡ text_sizes items (entries_texts (counter_entries one))
      → EntriesRead (counter_entries one) a entries → CountersTaken (at + n) more x y
      → CountersTaken at (one ∷ more) (with_counter place (both (only at a) x)) (made place entries ++ y)
  counter_added one more at n place a entries x y size h k = record {
    cells = a ++ k.cells;
    texts = ap (λ l. bytes_of a ++ l) k.texts
        ∙ sym (bytes_append a k.cells);
    lengths =
        let many : length a ≡ n = h.size_is ∙ sym size in
        ap (λ l. l ++ lengths_from at a) k.lengths
        ∙ ap (λ m. lengths_from (at + m) k.cells ++ lengths_from at a) (sym many) ∙ sym (lengths_append at a k.cells);
    places = ap (λ l. place ∷ l) k.places;
    sizes =
        ap (λ n. n ∷ map (λ (c : meaning.Counter). length c.entries) y) (sym (ap length (h.found [] []))
        ∙ entries_long (counter_entries one) (a ++ []) 0)
        ∙ ap (λ l. length (counter_entries one) ∷ l) k.sizes;
    entries = read_both (counter_entries one) (all_inspected counter_entries more) a k.cells entries
        (meaning.all_entries y) h k.entries;
  }

  one_more : (one : Tallying) (more : List Tallying) (at n : ℕ) (p : Evaluation ItemPlace) (u : Evaluation (List Cell))
      (v : Evaluation (List TextEntry)) (x : Evaluation InspectTaken) (y : Evaluation (List meaning.Counter))
      → n ≡ text_sizes items (entries_texts (counter_entries one))
      → Alike (EntriesRead (counter_entries one)) u v → Alike (CountersTaken (at + n) more) x y
      → Alike (CountersTaken at (one ∷ more))
      (p >>= (λ place. ((u >>= (λ a. okay (only at a))) >>= (λ a. x >>= (λ b. okay (both a b))))
      >>= (λ t. okay (with_counter place t))))
      ((p >>= (λ place. v >>= (λ entries. okay (made place entries))))
      >>= (λ front. y >>= (λ back. okay (front ++ back))))
  one_more one more at n (Err f) u v x y size h k = refl
  one_more one more at n (Ok place) (Err f) (Err g) x y size h k = h
  one_more one more at n (Ok place) (Err f) (Ok b) x y size h k = absurd h
  one_more one more at n (Ok place) (Ok a) (Err g) x y size h k = absurd h
  one_more one more at n (Ok place) (Ok a) (Ok entries) (Err f) (Err g) size h k = k
  one_more one more at n (Ok place) (Ok a) (Ok entries) (Err f) (Ok y) size h k = absurd k
  one_more one more at n (Ok place) (Ok a) (Ok entries) (Ok x) (Err g) size h k = absurd k
  one_more one more at n (Ok place) (Ok a) (Ok entries) (Ok x) (Ok y) size h k =
      counter_added one more at n place a entries x y size h k

  counters_taken : (at : ℕ) (all : List Tallying)
      → AreSome items (entries_texts (all_inspected counter_entries all))
      → Alike (CountersTaken at all) (take_each items at (tallying_takings all) storage)
      (take_all (take_counter items storage) all)
  counters_taken at [] some = record {
    cells = [];
    texts = refl;
    lengths = refl;
    places = refl;
    sizes = refl;
    entries = record { size_is = refl; found = λ front back. refl };
  }
  counters_taken at (one ∷ more) some =
      let texts = entries_texts (counter_entries one) in
      let others = entries_texts (all_inspected counter_entries more) in
      let each : AreSome items (texts ++ others) =
      subst (AreSome items) (texts_append (counter_entries one) (all_inspected counter_entries more)) some in
      let own = all_front (λ s. 1 ≤ text_size items s) texts others each in
      let later = all_back (λ s. 1 ≤ text_size items s) texts others each in
      let n = taken_size items (map Text texts) in
      let p = place_of items one.counter storage in
      let x = take_each items (at + n) (tallying_takings more) storage in
      let u = read_all items storage texts in
      let y = take_all (take_counter items storage) more in
      let v = take_all (take_tallied items storage) one.tallied in
      let same : take_each items at (map Text texts ++ tallying_takings more) storage
      ≡ (u >>= (λ a. okay (only at a))) >>= (λ a. x >>= (λ b. okay (both a b))) =
      take_append at (map Text texts) (tallying_takings more)
      ∙ ap (λ (r : Evaluation InspectTaken). r >>= (λ a. x >>= (λ b. okay (both a b)))) (only_texts at texts) in
      subst (λ (r : Evaluation InspectTaken). Alike (CountersTaken at (one ∷ more))
      (p >>= (λ place. r >>= (λ t. okay (with_counter place t))))
      (take_all (take_counter items storage) (one ∷ more))) (sym same)
      (one_more one more at n p u v x y (taken_texts items texts) (takes_counter items storage one own)
      (counters_taken (at + n) more later))

-- ---- sizes

module _ (items : List LocatedItem) where
  taken_tallying : (all : List Tallying)
      → taken_size items (tallying_takings all) ≡ text_sizes items (entries_texts (all_inspected counter_entries all))
  taken_tallying [] = refl
  taken_tallying (x ∷ xs) =
      let texts = entries_texts (counter_entries x) in
      let others = all_inspected counter_entries xs in
      let a = taken_append items (map Text texts) (tallying_takings xs) in
      let b = taken_texts items texts in
      let c = taken_tallying xs in
      let d : text_sizes items (entries_texts (counter_entries x ++ others))
      ≡ text_sizes items texts + text_sizes items (entries_texts others) =
      ap (text_sizes items) (texts_append (counter_entries x) others)
      ∙ sizes_append items texts (entries_texts others) in
      omega (arith, a, b, c, d)

  pub whole_size : (one : InspectStatement)
      → inspected_size items one ≡ tallied_size items one + text_sizes items (entries_texts (all_replaced items one))
  whole_size one =
      let texts = entries_texts (all_replaced items one) in
      let a = taken_append items (tallying_takings one.tallying) (map Text texts) in
      let b = taken_tallying one.tallying in
      let c = taken_texts items texts in
      omega (arith, a, b, c)

  -- ---- REPLACING's entries have what replaces.

  abbrev HaveBy : List InspectEntry → Type 0
  HaveBy all = AllByRecursion (λ one. one.by ≢ None) all

  some_is : (x : Source) → ◌≢◌ {A = Option Source} (Some x) None
  some_is x e = absurd cc

  have_both : (xs ys : List InspectEntry) → HaveBy xs → HaveBy ys → HaveBy (xs ++ ys)
  have_both [] ys h k = k
  have_both (x ∷ xs) ys h k = (h.0, have_both xs ys h.1 k)

  have_all : {A : Type 0} (inspected : A → List InspectEntry) → ((one : A) → HaveBy (inspected one)) → (all : List A)
      → HaveBy (all_inspected inspected all)
  have_all inspected each [] = tt
  have_all inspected each (one ∷ more) = have_both (inspected one) (all_inspected inspected more) (each one)
      (have_all inspected each more)

  replacing_have : (one : Replacing) → HaveBy (replacing_entries items one)
  replacing_have (replacing.Characters by limits) = (some_is _, tt)
  replacing_have (replacing.Texts kind texts) = have_all (λ one. replaced_text items kind one ∷ [])
      (λ one. (some_is _, tt)) texts

  span_has : (at : ℕ) (one : Option Source) → one ≢ None → by_span items at one ≢ None
  span_has at None h = absurd (h refl)
  span_has at (Some x) h = λ e. absurd cc

  entries_have : (size at : ℕ) (all : List InspectEntry) → HaveBy all
      → AllByRecursion (IsEntry size) (entries_at items at all)
      → AllByRecursion (λ one. IsEntry size one × HasBy one) (entries_at items at all)
  entries_have size at [] h k = tt
  entries_have size at (one ∷ more) h k = (
    (k.0, span_has (by_at items at one) one.by h.0),
    entries_have size (at + text_sizes items (entry_texts one)) more h.1 k.1,
  )

-- ---- the stores

store_same : (texts : List ℕ) (all : List Entry) (bytes : List ℕ) (subject : ItemPlace) (storage : Storage)
    → replaced_subject (map (entry_of texts) all) bytes ≡ spans.replaced_subject texts all bytes
    → store_replaced texts all bytes subject storage ≡ store_text (map (entry_of texts) all) bytes subject storage
store_same texts [] bytes subject storage e = refl
store_same texts (one ∷ more) bytes subject storage e = ap (λ l. storage_with subject l storage) (sym e)

-- with the lengths of these cells
measured_map : (cells : List Cell) (all : List Entry)
    → map (entry_of (bytes_of cells)) (map (measured_entry (mark_at cells)) all)
    ≡ map (λ one. entry_of (bytes_of cells) (measured_entry (mark_at cells) one)) all
measured_map cells [] = refl
measured_map cells (one ∷ more) =
    ap (λ l. entry_of (bytes_of cells) (measured_entry (mark_at cells) one) ∷ l) (measured_map cells more)

module _ (items : List LocatedItem) (one : InspectStatement) (storage : Storage)
    (tallying_within : AreWithin (inspection items one).tallying (inspected_size items one))
    (replacing_within : AreWithin (inspection items one).replacing (inspected_size items one)) where
  -- by the cells that were read, with their marks
  inspected_same : (subject : ItemPlace) (a : InspectTaken) (b : List Cell) (counters : List meaning.Counter)
      (entries : List TextEntry) (h : CountersTaken items storage 0 one.tallying a counters)
      → EntriesRead items storage (all_replaced items one) b entries
      → (let cells = h.cells ++ b in
      let lengths = mark_at cells in
      let how = inspection items one in
      let now : Inspection = record how {
        tallying = map (measured_entry lengths) how.tallying;
        replacing = map (measured_entry lengths) how.replacing;
      } in
      inspect_at now (bytes_of cells) a.counters subject storage
      ≡ count_and_replace counters entries (part_of storage subject) subject storage)
  inspected_same subject a b counters entries h k =
      let cells = h.cells ++ b in
      let texts = bytes_of cells in
      let lengths = mark_at cells in
      let bytes = part_of storage subject in
      let how = inspection items one in
      let size = inspected_size items one in
      let tallying = map (measured_entry lengths) how.tallying in
      let replacing = map (measured_entry lengths) how.replacing in
      let sum = length-append h.cells b in
      let long : length texts ≡ size =
      omega (arith, sum, bytes_many cells, h.entries.size_is, k.size_is, whole_size items one) in
      let tallied_are : map (entry_of texts) tallying ≡ meaning.all_entries counters =
      measured_map cells how.tallying ∙ h.entries.found [] b in
      let replaced_are : map (entry_of texts) replacing ≡ entries =
      measured_map cells how.replacing
      ∙ ap (λ n. entries_in items storage (all_replaced items one) cells n) (sym h.entries.size_is)
      ∙ ap (λ l. entries_in items storage (all_replaced items one) (h.cells ++ l) (length h.cells))
      (sym (append-nil b))
      ∙ k.found h.cells [] in
      let front : AllByRecursion (IsEntry (length texts)) tallying = subst
      (λ n. AllByRecursion (IsEntry n) tallying) (sym long)
      (entries_are lengths size how.tallying (recursion_from_All (IsEntry size) how.tallying tallying_within)) in
      let back : AllByRecursion (λ e. IsEntry (length texts) e × HasBy e) replacing =
      subst (λ n. AllByRecursion (λ e. IsEntry n e × HasBy e) replacing) (sym long)
      (measured_have lengths size how.replacing
      (entries_have items size (tallied_size items one) (all_replaced items one)
      (have_all items (replacing_entries items) (replacing_have items) one.replacing)
      (recursion_from_All (IsEntry size) how.replacing replacing_within))) in
      let many : length tallying
      ≡ length (meaning.all_entries counters) = sym (length-map tallying (entry_of texts))
      ∙ ap length tallied_are in
      let counts : counted_fits (tally texts tallying bytes) 0 how.counters
      ≡ counter_fits counters (tallies (meaning.all_entries counters) bytes) =
      ap (counted_fits (tally texts tallying bytes) 0) (sym h.sizes)
      ∙ sym (counts_same counters (tally texts tallying bytes) 0 (length tallying) many)
      ∙ ap (counter_fits counters)
      (sym (tallied_same texts (IsEntry (length texts)) (λ e is. is) tallying bytes front))
      ∙ ap (λ l. counter_fits counters (tallies l bytes)) tallied_are in
      let store : (after : Storage) → store_replaced texts replacing bytes subject after
      ≡ store_text entries bytes subject after = λ after.
      store_same texts replacing bytes subject after
      (replaced_same texts (λ e. IsEntry (length texts) e × HasBy e) (λ e is. is.0) replacing bytes back
      (λ e is. is.1))
      ∙ ap (λ l. store_text l bytes subject after) replaced_are in
      ap (λ l. add_each l (counted_fits (tally texts tallying bytes) 0 how.counters) storage
      >>= (λ after. okay (store_replaced texts replacing bytes subject after))) h.places
      ∙ ap (λ l. add_each (map (λ (c : meaning.Counter). c.place) counters) l storage
      >>= (λ after. okay (store_replaced texts replacing bytes subject after))) counts
      ∙ bind_same (add_each (map (λ (c : meaning.Counter). c.place) counters)
      (counter_fits counters (tallies (meaning.all_entries counters) bytes)) storage) _ _
      (λ after. ap (λ l. okay l) (store after))

  -- by what was taken
  both_same : (subject : ItemPlace) (a : InspectTaken) (b : List Cell) (n : ℕ) (counters : List meaning.Counter)
      (entries : List TextEntry) (h : CountersTaken items storage 0 one.tallying a counters)
      → EntriesRead items storage (all_replaced items one) b entries → n ≡ length h.cells
      → (let taken = both a (only n b) in
      inspect_at (with_lengths taken.lengths (inspection items one)) taken.texts taken.counters subject storage
      ≡ count_and_replace counters entries (part_of storage subject) subject storage)
  both_same subject a b n counters entries h k size =
      let cells = h.cells ++ b in
      let how = inspection items one in
      let from : n ≡ 0 + length h.cells = omega (arith, size) in
      let texts : a.texts ++ bytes_of b ≡ bytes_of cells =
      ap (λ l. l ++ bytes_of b) h.texts ∙ sym (bytes_append h.cells b) in
      let lengths : lengths_from n b ++ a.lengths ≡ lengths_from 0 cells =
      ap (λ l. lengths_from n b ++ l) h.lengths
      ∙ ap (λ m. lengths_from m b ++ lengths_from 0 h.cells) from ∙ sym (lengths_append 0 h.cells b) in
      let look = lookup cells in
      let put = λ (x y : List Entry) (t : List ℕ) (p : List ItemPlace).
      inspect_at (record how { tallying = x; replacing = y }) t p subject storage in
      ap
      (λ (l : List TextLength).
      inspect_at (with_lengths l how) (a.texts ++ bytes_of b) (a.counters ++ []) subject storage)
      lengths
      ∙ ap (λ l. put l (map (measured_entry (length_at (lengths_from 0 cells))) how.replacing)
      (a.texts ++ bytes_of b) (a.counters ++ []))
      (entries_alike (length_at (lengths_from 0 cells)) (mark_at cells) look how.tallying)
      ∙ ap (λ l. put (map (measured_entry (mark_at cells)) how.tallying) l (a.texts ++ bytes_of b) (a.counters ++ []))
      (entries_alike (length_at (lengths_from 0 cells)) (mark_at cells) look how.replacing)
      ∙ ap
      (λ l. put (map (measured_entry (mark_at cells)) how.tallying) (map (measured_entry (mark_at cells)) how.replacing)
      l (a.counters ++ [])) texts
      ∙ ap (put (map (measured_entry (mark_at cells)) how.tallying) (map (measured_entry (mark_at cells)) how.replacing)
      (bytes_of cells)) (append-nil a.counters)
      ∙ inspected_same subject a b counters entries h k

  taken_same : (subject : ItemPlace) (n : ℕ) (x : Evaluation InspectTaken) (u : Evaluation (List Cell))
      (v : Evaluation (List meaning.Counter)) (w : Evaluation (List TextEntry))
      → n ≡ tallied_size items one
      → Alike (CountersTaken items storage 0 one.tallying) x v
      → Alike (EntriesRead items storage (all_replaced items one)) u w
      → ((x >>= (λ a. (u >>= (λ t. okay (only n t))) >>= (λ b. okay (both a b))))
      >>= (λ taken.
      inspect_at (with_lengths taken.lengths (inspection items one)) taken.texts taken.counters subject storage))
      ≡ (v >>= (λ counters. w >>= (λ entries. count_and_replace counters entries (part_of storage subject) subject
      storage)))
  taken_same subject n (Err f) u (Err g) w size h k = ap (λ e. Err e) h
  taken_same subject n (Err f) u (Ok c) w size h k = absurd h
  taken_same subject n (Ok a) u (Err g) w size h k = absurd h
  taken_same subject n (Ok a) (Err f) (Ok c) (Err g) size h k = ap (λ e. Err e) k
  taken_same subject n (Ok a) (Err f) (Ok c) (Ok e) size h k = absurd k
  taken_same subject n (Ok a) (Ok t) (Ok c) (Err g) size h k = absurd k
  taken_same subject n (Ok a) (Ok t) (Ok c) (Ok e) size h k =
      both_same subject a t n c e h k (size ∙ sym h.entries.size_is)

  pub spans_mean : AreSome items (entries_texts (all_tallied items one))
      → AreSome items (entries_texts (all_replaced items one)) → AllByRecursion (AreSuited items) one.replacing
      → inspect_by_spans items one storage ≡ inspect items one storage
  spans_mean tallied replaced suits = bind_same (place_of items one.subject storage) _ _ (λ subject.
      let texts = entries_texts (all_replaced items one) in
      let front = tallying_takings one.tallying in
      let n = 0 + taken_size items front in
      let size : n ≡ tallied_size items one = omega (arith, taken_tallying items one.tallying) in
      let x = take_each items 0 front storage in
      let u = read_all items storage texts in
      let how = λ (taken : InspectTaken).
      inspect_at (with_lengths taken.lengths (inspection items one)) taken.texts taken.counters subject storage in
      ap (λ (r : Evaluation InspectTaken). r >>= how)
      (take_append items storage 0 front (map Text texts)
      ∙ ap (λ (r : Evaluation InspectTaken). x >>= (λ a. r >>= (λ b. okay (both a b))))
      (only_texts items storage n texts))
      ∙ taken_same subject n x u (take_all (take_counter items storage) one.tallying)
      (take_all (take_replacing items storage) one.replacing) size
      (counters_taken items storage 0 one.tallying tallied)
      (takes_all_replaced items storage one.replacing suits replaced))
