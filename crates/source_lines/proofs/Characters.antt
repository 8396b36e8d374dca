-- The characters of the columns of a line, one column after the other.
use Rattle.std.proofs.Common.{◌≡◌, ℕ, suc, ◌+◌, ◌-◌, ◌<◌, ◌≤◌, List, [], ◌∷◌, ◌++◌, length, take, drop, get_or, sym, ap}
use Rattle.std.proofs.Common.{◌∙◌, arith, length-drop, append_assoc}
use Rattle.std.proofs.lemmas.List as list
use Rattle.source_lines.specs.declared.line.Line.{Line}
use Rattle.source_lines.specs.declared.lines.Character.{Character}
use Rattle.source_lines.specs.declared.reader.Reader.{Reader}
use Rattle.source_lines.specs.Reading.{with_columns}
use Rattle.source_lines.specs.Line.{byte, character, characters, placed_characters}

placed_push : (number column : ℕ) (bytes : List ℕ) (byte : ℕ)
    → placed_characters number column (bytes ++ byte ∷ []) ≡ placed_characters number column bytes
    ++ record { byte = byte; place = record { line = number; column = column + length bytes } } ∷ []
placed_push number column [] byte =
    ap (λ n. record { byte = byte; place = record { line = number; column = n } } ∷ []) (omega arith)
placed_push number column (one ∷ bytes) byte =
    let e : column + 1 + length bytes ≡ column + suc (length bytes) = omega arith in
    ap (λ rest. record { byte = one; place = record { line = number; column = column } } ∷ rest)
    (placed_push number (column + 1) bytes byte
    ∙ ap (λ n. placed_characters number (column + 1) bytes
    ++ record { byte = byte; place = record { line = number; column = n } } ∷ []) e)

pub characters_none : (line : Line) (from : ℕ) → characters line from from ≡ []
unfolding characters
characters_none line from = let e : from - from ≡ 0 =
    omega arith in ap (λ n. placed_characters line.number from (take n (drop (from - 1) line.columns))) e

pub characters_more : (line : Line) (from column : ℕ) → length line.columns ≡ 72 → 1 ≤ from → from ≤ column
    → column < 73
    → characters line from (column + 1) ≡ characters line from column ++ character line column ∷ []
unfolding characters
characters_more line from column whole low above high =
    let rest : List ℕ = drop (from - 1) line.columns in
    let fits : column - from < length rest = omega (arith, length-drop (from - 1) line.columns) in
    let next : column + 1 - from ≡ column - from + 1 = omega arith in
    let at : from - 1 + (column - from) ≡ column - 1 = omega arith in
    let here : from + length (take (column - from) rest) ≡ column =
    omega (arith, list.length-take-le (column - from) rest (omega arith)) in
    let is : get_or rest (column - from) 0 ≡ byte line column =
    list.get_or-drop (from - 1) line.columns (column - from) 0 ∙ ap (λ n. get_or line.columns n 0) at in
    ap (λ n. placed_characters line.number from (take n rest)) next
    ∙ ap (placed_characters line.number from) (list.take_more rest (column - from) 0 fits)
    ∙ placed_push line.number from (take (column - from) rest) (get_or rest (column - from) 0)
    ∙ ap (λ n. placed_characters line.number from (take (column - from) rest)
    ++ record { byte = get_or rest (column - from) 0; place = record { line = line.number; column = n } } ∷ []) here
    ∙ ap (λ b. placed_characters line.number from (take (column - from) rest)
    ++ record { byte = b; place = record { line = line.number; column = column } } ∷ []) is

pub no_columns : (line : Line) (from : ℕ) (reader : Reader) → reader ≡ with_columns line from from reader
no_columns line from reader =
    ap (λ xs. let r : Reader = record { characters = xs; before = reader.before } in r)
    (sym (ap (λ xs. reader.characters ++ xs) (characters_none line from) ∙ list.append-nil reader.characters))

pub one_column_more : (line : Line) (from column : ℕ) → length line.columns ≡ 72 → 1 ≤ from → from ≤ column
    → column < 73
    → (old reader : Reader) (now : List Character) (pushed : Character) → reader ≡ with_columns line from column old
    → now ≡ reader.characters ++ pushed ∷ [] → pushed ≡ character line column
    → (let r : Reader = record { characters = now; before = reader.before } in r)
    ≡ with_columns line from (column + 1) old
one_column_more line from column whole low above high old reader now pushed so_far grown is =
    let e : now ≡ old.characters ++ characters line from (column + 1) =
    grown ∙ ap (λ r. r.characters ++ pushed ∷ []) so_far
    ∙ ap (λ c. old.characters ++ characters line from column ++ c ∷ []) is
    ∙ append_assoc old.characters (characters line from column) (character line column ∷ [])
    ∙ ap (λ xs. old.characters ++ xs) (sym (characters_more line from column whole low above high)) in
    ap (λ xs. let r : Reader = record { characters = xs; before = reader.before } in r) e
    ∙ ap (λ (r : Reader). let s : Reader =
    record { characters = old.characters ++ characters line from (column + 1); before = r.before } in s) so_far

pub each_column : (line : Line) (from column end : ℕ) (old : Reader) → column - from ≡ end - from
    → with_columns line from column old ≡ with_columns line from end old
unfolding characters
each_column line from column end old e =
    ap (λ n. let r : Reader = record {
      characters = old.characters ++ placed_characters line.number from (take n (drop (from - 1) line.columns));
      before = old.before;
    } in r) e
