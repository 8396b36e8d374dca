-- The lines that `unload` prints spell the records again.
use Rattle.std.proofs.Common.{◌≡◌, ◌⊎◌, ◌<◌, ◌≤◌, ◌+◌, ◌-◌, ◌/◌, ◌%◌, ℕ, zero, suc, Bool, true, false, cond, ◌||◌}
use Rattle.std.proofs.Common.{eqb, ltb, leb}
use Rattle.std.proofs.Common.{List, [], ◌∷◌, ◌++◌, length, map, replicate, Some, None, Ok, Err, inl, inr, refl, sym, ap}
use Rattle.std.proofs.Common.{subst, ◌∙◌, arith}
use Rattle.std.proofs.Common.{append_assoc, append-nil}
use Rattle.std.specs.Prelude.{Option, Result, codes, slice_index}
use Rattle.std.specs.List.{AllByRecursion}
use Rattle.std.proofs.lemmas.Bool.{eqb-true, ne_eqb, leb-true, le-ltb, and_parts, cond-false}
use Rattle.std.proofs.lemmas.Nat.{div-add-mod', div_below, mod_below}
use Rattle.records.specs.Rows.{Row}
use Rattle.records.specs.Spec.{Spec}
use Rattle.records.specs.Files.{File, IsByte, IsRow, IsFile}
use Rattle.volume_commands.specs.Text.{is_visible, hexadecimal_digit, hexadecimal_text, byte_text, bytes_text}
use Rattle.volume_commands.specs.Dump.{dump_text}
use Rattle.volume_copies.specs.Lines.{line_feed, with_first, lines_of}
use Rattle.volume_copies.specs.Record.{is_control, digit_value, digits_step, after_step, bytes_from}
use Rattle.volume_copies.specs.Record.{line_bytes, with_byte, with_spaces, space, record_of}
use Rattle.volume_copies.specs.declared.line_record.EscapeState.TheVariants.{Outside, Backslash}
use Rattle.volume_copies.specs.declared.line_record.ByteStep.TheVariants.{Begins, Spells, Breaks}
use Rattle.volume_copies.specs.declared.load_end.LineFault.{LineFault}
use Rattle.volume_copies.specs.declared.load_end.LineFault.TheVariants.{Long, Control}

-- each of these codes is a digit, of ascending values
abbrev AreDigits : ℕ → List ℕ → Type 0
AreDigits value [] = Unit {0}
AreDigits value (code ∷ codes) = (digit_value code ≡ Some value) × AreDigits (suc value) codes

digit_at : (value : ℕ) (codes : List ℕ) (k : ℕ) → k < length codes → AreDigits value codes
    → digit_value (slice_index codes k) ≡ Some (value + k)
digit_at value [] k lt are = absurd (omega (arith, lt))
digit_at value (code ∷ codes) zero lt are =
    let same : value ≡ value + 0 = omega arith in
    are.0 ∙ ap Some same
digit_at value (code ∷ codes) (suc k) lt are =
    let same : suc value + k ≡ value + suc k = omega arith in
    digit_at (suc value) codes k (omega (arith, lt)) are.1 ∙ ap Some same

all_digits : AreDigits 0 (codes "0123456789abcdef")
all_digits = (
  refl,
  (
    refl,
    (refl, (refl, (refl, (refl, (refl, (refl, (refl, (refl, (refl, (refl, (refl, (refl, (refl, (refl, tt)))))))))))))),
  ),
)

value_back : (value : ℕ) → value < 16 → digit_value (hexadecimal_digit value) ≡ Some value
value_back value lt =
    let same : 0 + value ≡ value = omega arith in
    digit_at 0 (codes "0123456789abcdef") value lt all_digits ∙ ap Some same

-- a byte that isn't a line feed
abbrev IsNoFeed : ℕ → Type 0
IsNoFeed byte = eqb byte line_feed ≡ false

digit_no_feed : (value : ℕ) → value < 16 → IsNoFeed (hexadecimal_digit value)
digit_no_feed value lt = by_case (eqb (hexadecimal_digit value) line_feed) refl
  where
    by_case : (b : Bool) → eqb (hexadecimal_digit value) line_feed ≡ b → eqb (hexadecimal_digit value) line_feed ≡ false
    by_case false e = e
    by_case true e =
        let none : digit_value (hexadecimal_digit value) ≡ None =
        ap digit_value (eqb-true (hexadecimal_digit value) line_feed e) in
        let clash : Some value ≡ None = sym (value_back value lt) ∙ none in
        absurd (cc)

-- the text of a byte: a doubled backslash, the byte itself, or its digits
abbrev Shape : ℕ → List ℕ → Type 0
Shape byte text =
    ((byte ≡ 92) × (text ≡ 92 ∷ 92 ∷ [])) ⊎
    (((eqb byte 92 ≡ false) × (is_visible byte ≡ true) × (text ≡ byte ∷ [])) ⊎ (text ≡ hexadecimal_text byte))

shape_by : (byte : ℕ) (doubled itself : Bool) → eqb byte 92 ≡ doubled → is_visible byte ≡ itself
    → Shape byte (cond doubled (92 ∷ 92 ∷ []) (cond itself (byte ∷ []) (hexadecimal_text byte)))
shape_by byte true itself e v = inl (eqb-true byte 92 e, refl)
shape_by byte false true e v = inr (inl (e, v, refl))
shape_by byte false false e v = inr (inr refl)

shape_of : (byte : ℕ) → Shape byte (byte_text byte)
shape_of byte = shape_by byte (eqb byte 92) (is_visible byte) refl refl

module _ (byte : ℕ) (visible : is_visible byte ≡ true) where
  least : 32 ≤ byte
  least = leb-true 32 byte (and_parts (leb 32 byte) (leb byte 126) visible).0

  most : byte ≤ 126
  most = leb-true byte 126 (and_parts (leb 32 byte) (leb byte 126) visible).1

  visible_no_feed : IsNoFeed byte
  visible_no_feed = ne_eqb byte line_feed (λ e. absurd (omega (arith, e, least)))

  visible_no_control : is_control byte ≡ false
  visible_no_control =
      ap (λ (b : Bool). b || eqb byte 127) (le-ltb byte 32 least)
      ∙ ne_eqb byte 127 (λ e. absurd (omega (arith, e, most)))

-- a byte that is itself
itself_spelled : (byte : ℕ) (rest : List ℕ) (doubled control : Bool) → doubled ≡ false → control ≡ false
    → after_step (cond doubled (Begins Backslash) (cond control (Breaks Control) (Spells byte)))
    (λ next. bytes_from next rest)
    ≡ with_byte byte (bytes_from Outside rest)
itself_spelled byte rest false false e f = refl
itself_spelled byte rest false true e f = absurd (cc)
itself_spelled byte rest true control e f = absurd (cc)

digits_spelled : (byte : ℕ) (rest : List ℕ) → byte < 256
    → bytes_from Outside (hexadecimal_text byte ++ rest) ≡ with_byte byte (bytes_from Outside rest)
digits_spelled byte rest lt =
    let high = value_back (byte / 16) (div_below byte 16 16 (omega arith) lt) in
    let low = value_back (byte % 16) (mod_below byte 16 (omega arith)) in
    ap (λ (o : Option ℕ).
    after_step (digits_step o (digit_value (hexadecimal_digit (byte % 16)))) (λ next. bytes_from next rest)) high
    ∙ ap (λ (o : Option ℕ). after_step (digits_step (Some (byte / 16)) o) (λ next. bytes_from next rest)) low
    ∙ ap (λ (n : ℕ). with_byte n (bytes_from Outside rest)) (div-add-mod' byte 16)

byte_spelled : (byte : ℕ) (text rest : List ℕ) → byte < 256 → Shape byte text
    → bytes_from Outside (text ++ rest) ≡ with_byte byte (bytes_from Outside rest)
byte_spelled byte text rest lt (inl (is, shape)) =
    ap (λ (l : List ℕ). bytes_from Outside (l ++ rest)) shape
    ∙ ap (λ (n : ℕ). with_byte n (bytes_from Outside rest)) (sym is)
byte_spelled byte text rest lt (inr (inl (other, visible, shape))) =
    ap (λ (l : List ℕ). bytes_from Outside (l ++ rest)) shape
    ∙ itself_spelled byte rest (eqb byte 92) (is_control byte) other (visible_no_control byte visible)
byte_spelled byte text rest lt (inr (inr shape)) =
    ap (λ (l : List ℕ). bytes_from Outside (l ++ rest)) shape ∙ digits_spelled byte rest lt

text_spelled : (bytes : List ℕ) → AllByRecursion IsByte bytes → line_bytes (bytes_text bytes) ≡ Ok bytes
text_spelled [] all = refl
text_spelled (byte ∷ bytes) all =
    byte_spelled byte (byte_text byte) (bytes_text bytes) all.0 (shape_of byte)
    ∙ ap (with_byte byte) (text_spelled bytes all.1)

fits : (long : ℕ) (bytes : List ℕ) → length bytes ≡ long → with_spaces long (Ok bytes) ≡ Ok bytes
fits long bytes same =
    cond-false (ltb long (length bytes)) (Err Long) (Ok (bytes ++ replicate (long - length bytes) space))
    (le-ltb long (length bytes) (omega (arith, same)))
    ∙ ap (λ (n : ℕ). Ok (bytes ++ replicate n space)) none ∙ ap Ok (append-nil bytes)
  where
    none : long - length bytes ≡ 0
    none = omega (arith, same)

-- the line of a row
row_spelled : (spec : Spec) (next : ℕ) (row : Row) → IsRow spec next row
    → record_of spec.record_length (bytes_text row.bytes) ≡ Ok row.bytes
row_spelled spec next row is =
    ap (with_spaces spec.record_length) (text_spelled row.bytes is.bytes) ∙ fits spec.record_length row.bytes is.long

-- a text without line feeds
abbrev IsLine : List ℕ → Type 0
IsLine text = AllByRecursion IsNoFeed text

both_lines : (one two : List ℕ) → IsLine one → IsLine two → IsLine (one ++ two)
both_lines [] two all all' = all'
both_lines (byte ∷ one) two all all' = (all.0, both_lines one two all.1 all')

byte_line : (byte : ℕ) (text : List ℕ) → byte < 256 → Shape byte text → IsLine text
byte_line byte text lt (inl (is, shape)) = subst IsLine (sym shape) (refl, (refl, tt))
byte_line byte text lt (inr (inl (other, visible, shape))) = subst IsLine (sym shape) (visible_no_feed byte visible, tt)
byte_line byte text lt (inr (inr shape)) = subst IsLine (sym shape) (
  refl,
  (
    refl,
    (
      digit_no_feed (byte / 16) (div_below byte 16 16 (omega arith) lt),
      (digit_no_feed (byte % 16) (mod_below byte 16 (omega arith)), tt),
    ),
  ),
)

text_line : (bytes : List ℕ) → AllByRecursion IsByte bytes → IsLine (bytes_text bytes)
text_line [] all = tt
text_line (byte ∷ bytes) all =
    both_lines (byte_text byte) (bytes_text bytes) (byte_line byte (byte_text byte) all.0 (shape_of byte))
    (text_line bytes all.1)

-- a line in front of others
line_first : (text rest : List ℕ) → IsLine text → lines_of (text ++ line_feed ∷ rest) ≡ text ∷ lines_of rest
line_first [] rest all = refl
line_first (byte ∷ text) rest all =
    cond-false (eqb byte line_feed) ([] ∷ lines_of (text ++ line_feed ∷ rest))
    (with_first byte (lines_of (text ++ line_feed ∷ rest))) all.0
    ∙ ap (with_first byte) (line_first text rest all.1)

abbrev read : ℕ → List ℕ → List (Result (List ℕ) LineFault)
read long text = map (record_of long) (lines_of text)

rows_spelled : (spec : Spec) (next : ℕ) (rows : List Row) → AllByRecursion (IsRow spec next) rows
    → read spec.record_length (dump_text rows) ≡ map (λ (row : Row). Ok row.bytes) rows
rows_spelled spec next [] all = refl
rows_spelled spec next (row ∷ rows) all =
    let text = bytes_text row.bytes in
    let long = spec.record_length in
    ap (read long) (append_assoc text (line_feed ∷ []) (dump_text rows))
    ∙ ap (map (record_of long)) (line_first text (dump_text rows) (text_line row.bytes all.0.bytes))
    ∙ ap (λ (r : Result (List ℕ) LineFault). r ∷ read long (dump_text rows)) (row_spelled spec next row all.0)
    ∙ ap (λ (l : List (Result (List ℕ) LineFault)). Ok row.bytes ∷ l) (rows_spelled spec next rows all.1)

pub unloaded : (file : File) → IsFile file
    → read file.spec.record_length (dump_text file.rows) ≡ map (λ (row : Row). Ok row.bytes) file.rows
unloaded file is = rows_spelled file.spec file.next_arrival file.rows is.rows
