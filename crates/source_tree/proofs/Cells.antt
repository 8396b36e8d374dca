-- The joined texts of INSPECT with what is found out of their lengths in the run.
use Rattle.std.proofs.Common.{◌≡◌, ℕ, zero, suc, ◌+◌, ◌-◌, ◌≤◌, true, cond, List, [], ◌∷◌, ◌++◌, map, length, take}
use Rattle.std.proofs.Common.{drop}
use Rattle.std.proofs.Common.{Option, Some, None, refl, ap, sym, ◌∙◌, arith, append_assoc, length-append, drop_at}
use Rattle.std.specs.Prelude.{slice_range, replicate, nat_le, ◌&&◌}
use Rattle.std.proofs.lemmas.Bool.Decides.{nat_tests}
use Rattle.std.proofs.lemmas.List.{length-take, length-take-le, length-replicate, take-append-le, take_all}
use Rattle.items.specs.Texts.{padded_text, space}
use Rattle.text_ops.specs.declared.entry.Span.{Span}
use Rattle.text_ops.specs.Entries.{bytes_in}
use Rattle.source_tree.specs.MeasuredTexts.{length_within, shortened_by, measured_span}

-- Each character has a mark: the length of a text that begins there, if it is found in the run.

pub record Cell : Type 0 where
  pub byte : ℕ
  pub mark : Option ℕ

abbrev pub bytes_of : List Cell → List ℕ
bytes_of cells = map (λ c. c.byte) cells

abbrev pub mark_at : List Cell → ℕ → Option ℕ
mark_at [] at = None
mark_at (c ∷ cells) zero = c.mark
mark_at (c ∷ cells) (suc at) = mark_at cells at

-- without a mark
abbrev pub plain : List ℕ → List Cell
plain text = map (λ c. record { byte = c; mark = None }) text

abbrev pub cells_of : List ℕ → Option ℕ → List Cell
cells_of [] mark = []
cells_of (c ∷ text) mark = record { byte = c; mark = mark } ∷ plain text

bytes_plain : (text : List ℕ) → bytes_of (plain text) ≡ text
bytes_plain [] = refl
bytes_plain (c ∷ text) = ap (λ l. c ∷ l) (bytes_plain text)

pub bytes_are : (text : List ℕ) (mark : Option ℕ) → bytes_of (cells_of text mark) ≡ text
bytes_are [] mark = refl
bytes_are (c ∷ text) mark = ap (λ l. c ∷ l) (bytes_plain text)

pub bytes_append : (a b : List Cell) → bytes_of (a ++ b) ≡ bytes_of a ++ bytes_of b
bytes_append [] b = refl
bytes_append (c ∷ a) b = ap (λ l. c.byte ∷ l) (bytes_append a b)

pub bytes_many : (a : List Cell) → length (bytes_of a) ≡ length a
bytes_many [] = refl
bytes_many (c ∷ a) = ap suc (bytes_many a)

pub cells_many : (text : List ℕ) (mark : Option ℕ) → length (cells_of text mark) ≡ length text
cells_many text mark = sym (bytes_many (cells_of text mark)) ∙ ap length (bytes_are text mark)

mark_behind : (front cells : List Cell) → mark_at (front ++ cells) (length front) ≡ mark_at cells 0
mark_behind [] cells = refl
mark_behind (c ∷ front) cells = mark_behind front cells

-- a text that is there has its mark
pub mark_is : (front back : List Cell) (text : List ℕ) (mark : Option ℕ) → 1 ≤ length text
    → mark_at (front ++ (cells_of text mark ++ back)) (length front) ≡ mark
mark_is front back [] mark some = absurd (omega (arith, some))
mark_is front back (c ∷ text) mark some = mark_behind front (cells_of (c ∷ text) mark ++ back)

-- ---- a text in a buffer

cut : (front text back : List ℕ) (n m : ℕ) → length text ≡ n → m ≤ n
    → slice_range (front ++ (text ++ back)) (length front) (length front + m) ≡ take m text
cut front text back n m e le =
    let size : length front + m - length front ≡ m = omega arith in
    ap (λ k. take k (drop (length front) (front ++ (text ++ back)))) size
    ∙ ap (take m) (drop_at front (text ++ back) (length front) refl)
    ∙ take-append-le m text back (omega (arith, e, le))

pub padded_long : (n : ℕ) (text : List ℕ) → length (padded_text n text) ≡ n
padded_long n text =
    let spaces = replicate (n - length text) space in
    let whole = length-append (take n text) spaces in
    let many : length spaces ≡ n - length text = length-replicate (n - length text) space in
    omega (arith, whole, length-take n text, many)

-- ---- texts by their marks

-- The size of a text by its mark, where its room is so large.
abbrev pub IsLong : ℕ → Option ℕ → ℕ → Type 0
IsLong room None size = size ≡ room
IsLong room (Some length) size = (size ≡ length) × (1 ≤ length) × (length ≤ room)

abbrev pub span_of : ℕ → ℕ → Span
span_of at room = record { start = at; length = room }

within_room : (room length : ℕ) → 1 ≤ length → length ≤ room → length_within room length ≡ length
within_room room length some long = ap (λ b. cond b length room) both
  where
    both : (nat_le 1 length && nat_le length room) ≡ true
    both = grind (arith, nat_tests, some, long)

pub take_whole : (text : List ℕ) (n : ℕ) → length text ≡ n → take n text ≡ text
take_whole text n e = take_all n text (omega (arith, e))

-- The characters of a span as long as a mark says, in whatever they are among.
marked : (front back text bytes : List ℕ) (mark : Option ℕ) (room size : ℕ) → length text ≡ room → IsLong room mark size
    → take size text ≡ bytes
    → bytes_in (front ++ (text ++ back)) (shortened_by mark (span_of (length front) room)) ≡ bytes
marked front back text bytes None room size long is cuts =
    cut front text back room room long (omega arith) ∙ ap (λ n. take n text) (sym is) ∙ cuts
marked front back text bytes (Some n) room size long is cuts =
    ap (λ m. bytes_in (front ++ (text ++ back)) (span_of (length front) m)) (within_room room n is.1 is.2)
    ∙ cut front text back room n long is.2 ∙ ap (λ m. take m text) (sym is.0) ∙ cuts

-- The same of cells with such a text.
pub marked_cells : (front back : List Cell) (text bytes : List ℕ) (own mark : Option ℕ) (room size : ℕ)
    → length text ≡ room → IsLong room mark size → take size text ≡ bytes
    → bytes_in (bytes_of (front ++ (cells_of text own ++ back)))
    (shortened_by mark (span_of (length front) room)) ≡ bytes
marked_cells front back text bytes own mark room size long is cuts =
    let a = bytes_of front in
    let c = bytes_of back in
    let joined : bytes_of (front ++ (cells_of text own ++ back)) ≡ a ++ (text ++ c) =
    bytes_append front (cells_of text own ++ back)
    ∙ ap (λ l. a ++ l) (bytes_append (cells_of text own) back ∙ ap (λ l. l ++ c) (bytes_are text own)) in
    ap (λ l. bytes_in l (shortened_by mark (span_of (length front) room))) joined
    ∙ ap (λ n. bytes_in (a ++ (text ++ c)) (shortened_by mark (span_of n room))) (sym (bytes_many front))
    ∙ marked a c text bytes mark room size long is cuts
