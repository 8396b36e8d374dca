-- Rows after a change of the bytes.
use Rattle.std.proofs.Common.{◌≡◌, ℕ, suc, ◌+◌, ◌-◌, ◌*◌, ◌<◌, ◌≤◌, List, [], ◌∷◌, ◌++◌, length, take, drop, set}
use Rattle.std.proofs.Common.{get_or, refl, sym, ap, ◌∙◌, arith}
use Rattle.std.proofs.Math.Seq.{take-add}
use Rattle.std.proofs.lemmas.List.{append_assoc, drop-drop, drop-take, length-append, length-drop, length-take-le}
use Rattle.std.proofs.lemmas.List.{take_at, drop_at, take-take, take-append-le, take-append-drop, set_split}
use Rattle.std.specs.List.{insert, remove, copy_within}
use Rattle.btree_pages.specs.Bytes.{put_at}
use Rattle.btree_pages.specs.Node.{rows_in}
use Rattle.btree_pages.proofs.Rows.{drop-rows_in, get_or-rows_in, length-rows_in, rows_in-append, rows_in-front}
use Rattle.btree_pages.proofs.Rows.{rows_in-take, take-rows_in}

-- the bytes of some rows, and of those after them
pub together : (row n place more : ℕ) → n ≡ place + more → n * row ≡ place * row + more * row
together row n place more e = rw e (omega arith)

-- one row between the rows before a place and a tail
spliced : (row place more m at : ℕ) (bytes one tail : List ℕ) → m ≡ place + suc more → at ≡ place * row
    → at ≤ length bytes → length one ≡ row
    → rows_in row m (take at bytes ++ (one ++ tail)) ≡ rows_in row place bytes ++ (one ∷ rows_in row more tail)
spliced row place more m at bytes one tail em ea le el =
    rows_in-append row place (suc more) m (take at bytes) (one ++ tail) em (length-take-le at bytes le ∙ ea)
    ∙ rw (rows_in-take row place at bytes ea le, take_at one tail row el, drop_at one tail row el) refl

inserted_rows : (row n place more at : ℕ) (bytes one tail : List ℕ) → n ≡ place + more → at ≡ place * row
    → n * row ≤ length bytes → length one ≡ row
    → rows_in row (n + 1) (take at bytes ++ (one ++ (take (more * row) (drop at bytes) ++ tail)))
    ≡ insert (rows_in row n bytes) place one
inserted_rows row n place more at bytes one tail en ea le el =
    let whole = together row n place more en in
    let room : more * row ≤ length (drop at bytes) = omega (arith, length-drop at bytes) in
    let behind : rows_in row more (take (more * row) (drop at bytes) ++ tail) ≡ drop place (rows_in row n bytes) =
    rows_in-front row more (take (more * row) (drop at bytes)) tail
    (omega (arith, length-take-le (more * row) (drop at bytes) room))
    ∙ rows_in-take row more (more * row) (drop at bytes) refl room
    ∙ sym (drop-rows_in row place more n at bytes en ea) in
    spliced row place more (n + 1) at bytes one (take (more * row) (drop at bytes) ++ tail) (omega arith) ea
    (omega arith) el
    ∙ ap (λ (rows : List (List ℕ)). rows_in row place bytes ++ (one ∷ rows)) behind
    ∙ ap (λ (rows : List (List ℕ)). rows ++ (one ∷ drop place (rows_in row n bytes)))
    (sym (take-rows_in row place n bytes (omega arith)))

removed_rows : (row n m place more at : ℕ) (bytes tail : List ℕ) → n ≡ place + suc more → m ≡ place + more
    → at ≡ place * row → n * row ≤ length bytes
    → rows_in row m (take at bytes ++ (take (more * row) (drop (at + row) bytes) ++ tail))
    ≡ remove (rows_in row n bytes) place
removed_rows row n m place more at bytes tail en em ea le =
    let whole = together row n place (suc more) en in
    let room : more * row ≤ length (drop (at + row) bytes) = omega (arith, length-drop (at + row) bytes) in
    let behind : rows_in row more (take (more * row) (drop (at + row) bytes) ++ tail)
    ≡ drop (suc place) (rows_in row n bytes) =
    rows_in-front row more (take (more * row) (drop (at + row) bytes)) tail
    (omega (arith, length-take-le (more * row) (drop (at + row) bytes) room))
    ∙ rows_in-take row more (more * row) (drop (at + row) bytes) refl room
    ∙ sym (drop-rows_in row (suc place) more n (at + row) bytes (omega arith) (omega arith)) in
    rows_in-append row place more m (take at bytes) (take (more * row) (drop (at + row) bytes) ++ tail) em
    (length-take-le at bytes (omega arith) ∙ ea)
    ∙ ap (λ (rows : List (List ℕ)). rows_in row place (take at bytes) ++ rows) behind
    ∙ ap (λ (rows : List (List ℕ)). rows ++ drop (suc place) (rows_in row n bytes))
    (rows_in-take row place at bytes ea (omega arith) ∙ sym (take-rows_in row place n bytes (omega arith)))

replaced_rows : (row n place more at : ℕ) (bytes one : List ℕ) → n ≡ place + suc more → at ≡ place * row
    → n * row ≤ length bytes → length one ≡ row
    → rows_in row n (take at bytes ++ (one ++ drop (at + row) bytes)) ≡ set (rows_in row n bytes) place one
replaced_rows row n place more at bytes one en ea le el =
    let whole = together row n place (suc more) en in
    spliced row place more n at bytes one (drop (at + row) bytes) en ea (omega arith) el
    ∙ ap (λ (rows : List (List ℕ)). rows_in row place bytes ++ (one ∷ rows))
    (sym (drop-rows_in row (suc place) more n (at + row) bytes (omega arith) (omega arith)))
    ∙ ap (λ (rows : List (List ℕ)). rows ++ (one ∷ drop (suc place) (rows_in row n bytes)))
    (sym (take-rows_in row place n bytes (omega arith)))
    ∙ sym (set_split (rows_in row n bytes) place one (omega (arith, length-rows_in row n bytes)))

-- two parts put one after the other
pub put_both : (at : ℕ) (one two bytes : List ℕ) → at ≤ length bytes
    → put_at (at + length one) two (put_at at one bytes)
    ≡ take at bytes ++ ((one ++ two) ++ drop (at + length one + length two) bytes)
put_both at one two bytes le =
    let front : List ℕ = take at bytes in
    let behind : List ℕ = drop (at + length one) bytes in
    let long : length (front ++ one) ≡ at + length one =
    omega (arith, length-append front one, length-take-le at bytes le) in
    let as_two : front ++ (one ++ behind) ≡ (front ++ one) ++ behind = sym (append_assoc front one behind) in
    let first : take (at + length one) (front ++ (one ++ behind)) ≡ front ++ one =
    ap (take (at + length one)) as_two ∙ take_at (front ++ one) behind (at + length one) long in
    let last : drop (at + length one + length two) (front ++ (one ++ behind))
    ≡ drop (at + length one + length two) bytes =
    sym (drop-drop (length two) (at + length one) (front ++ (one ++ behind)))
    ∙ ap (drop (length two)) (ap (drop (at + length one)) as_two ∙ drop_at (front ++ one) behind (at + length one) long)
    ∙ drop-drop (length two) (at + length one) bytes in
    ap (λ (l : List ℕ). l ++ (two ++ drop (at + length one + length two) (front ++ (one ++ behind)))) first
    ∙ ap (λ (l : List ℕ). (front ++ one) ++ (two ++ l)) last
    ∙ append_assoc front one (two ++ drop (at + length one + length two) bytes)
    ∙ ap (λ (l : List ℕ). front ++ l) (sym (append_assoc one two (drop (at + length one + length two) bytes)))

-- a row is put into a gap that was opened
pub rows_after_insert : (row n place at end : ℕ) (key rest bytes : List ℕ) → place ≤ n → at ≡ place * row
    → end ≡ n * row → length key + length rest ≡ row → end + row ≤ length bytes
    → rows_in row (n + 1) (put_at (at + length key) rest (put_at at key (copy_within bytes at end (at + row))))
    ≡ insert (rows_in row n bytes) place (key ++ rest)
rows_after_insert row n place at end key rest bytes lp ea ee el le =
    let more : ℕ = n - place in
    let en : n ≡ place + more = omega arith in
    let whole = together row n place more en in
    let moved : ℕ = end - at in
    let em : moved ≡ more * row = omega arith in
    let tail : List ℕ = drop (at + row + moved) bytes in
    let gap : List ℕ = copy_within bytes at end (at + row) in
    let run : List ℕ = take moved (drop at bytes) in
    let as_three : gap ≡ take (at + row) bytes ++ (run ++ tail) = append_assoc (take (at + row) bytes) run tail in
    let long : length (take (at + row) bytes) ≡ at + row = length-take-le (at + row) bytes (omega arith) in
    let enough : at ≤ length gap =
    omega (arith, ap length as_three, length-append (take (at + row) bytes) (run ++ tail)) in
    let front : take at gap ≡ take at bytes =
    ap (take at) as_three ∙ take-append-le at (take (at + row) bytes) (run ++ tail) (omega arith)
    ∙ take-take at (at + row) bytes (omega arith) in
    let behind : drop (at + length key + length rest) gap ≡ take (more * row) (drop at bytes) ++ tail =
    ap (λ (k : ℕ). drop k gap) (let e : at + length key + length rest ≡ at + row = omega arith in e)
    ∙ ap (drop (at + row)) as_three
    ∙ drop_at (take (at + row) bytes) (run ++ tail) (at + row) long
    ∙ ap (λ (k : ℕ). take k (drop at bytes) ++ tail) em in
    ap (rows_in row (n + 1)) (put_both at key rest gap enough
    ∙ ap (λ (l : List ℕ). l ++ ((key ++ rest) ++ drop (at + length key + length rest) gap)) front
    ∙ ap (λ (l : List ℕ). take at bytes ++ ((key ++ rest) ++ l)) behind)
    ∙ inserted_rows row n place more at bytes (key ++ rest) tail en ea (omega arith) (length-append key rest ∙ el)

-- a gap is closed, and zeros follow
pub rows_after_remove : (row n place at end : ℕ) (zeros bytes : List ℕ) → place < n → at ≡ place * row → end ≡ n * row
    → end ≤ length bytes
    → rows_in row (n - 1) (put_at (end - row) zeros (copy_within bytes (at + row) end at))
    ≡ remove (rows_in row n bytes) place
rows_after_remove row n place at end zeros bytes lt ea ee le =
    let more : ℕ = n - suc place in
    let en : n ≡ place + suc more = omega arith in
    let whole = together row n place (suc more) en in
    let moved : ℕ = end - (at + row) in
    let em : moved ≡ more * row = omega arith in
    let tail : List ℕ = drop (at + moved) bytes in
    let shut : List ℕ = copy_within bytes (at + row) end at in
    let run : List ℕ = take moved (drop (at + row) bytes) in
    let as_three : shut ≡ take at bytes ++ (take (more * row) (drop (at + row) bytes) ++ tail) =
    append_assoc (take at bytes) run tail
    ∙ ap (λ (k : ℕ). take at bytes ++ (take k (drop (at + row) bytes) ++ tail)) em in
    let counted : end - row ≡ (n - 1) * row =
    let less : n - 1 ≡ place + more = omega arith in
    let part = together row (n - 1) place more less in
    omega arith in
    let room : moved ≤ length (drop (at + row) bytes) = omega (arith, length-drop (at + row) bytes) in
    let long : end - row ≤ length shut =
    omega (
      arith,
      length-append (take at bytes ++ run) tail,
      length-append (take at bytes) run,
      length-take-le at bytes (omega arith),
      length-take-le moved (drop (at + row) bytes) room,
    ) in
    rows_in-front row (n - 1) (take (end - row) shut) (zeros ++ drop (end - row + length zeros) shut)
    (omega (arith, length-take-le (end - row) shut long))
    ∙ rows_in-take row (n - 1) (end - row) shut counted long
    ∙ ap (rows_in row (n - 1)) as_three
    ∙ removed_rows row n (n - 1) place more at bytes tail en (omega arith) ea (omega arith)

pub rows_after_key : (row n place at : ℕ) (key bytes : List ℕ) → place < n → at ≡ place * row → n * row ≤ length bytes
    → length key ≤ row
    → rows_in row n (put_at at key bytes)
    ≡ set (rows_in row n bytes) place (key ++ drop (length key) (get_or (rows_in row n bytes) place []))
rows_after_key row n place at key bytes lt ea le lk =
    let more : ℕ = n - suc place in
    let en : n ≡ place + suc more = omega arith in
    let whole = together row n place (suc more) en in
    let left : ℕ = row - length key in
    let el : length key + left ≡ row = omega arith in
    let old : get_or (rows_in row n bytes) place [] ≡ take row (drop at bytes) =
    get_or-rows_in row n place bytes lt ∙ ap (λ (k : ℕ). take row (drop k bytes)) (sym ea) in
    let end : drop (length key) (take row (drop at bytes)) ≡ take left (drop (at + length key) bytes) =
    ap (λ (k : ℕ). drop (length key) (take k (drop at bytes))) (sym el)
    ∙ drop-take (length key) left (drop at bytes)
    ∙ ap (take left) (drop-drop (length key) at bytes) in
    let one : List ℕ = key ++ take left (drop (at + length key) bytes) in
    let room : left ≤ length (drop (at + length key) bytes) = omega (arith, length-drop (at + length key) bytes) in
    let long : length one ≡ row = omega (
      arith,
      length-append key (take left (drop (at + length key) bytes)),
      length-take-le left (drop (at + length key) bytes) room,
    ) in
    let behind : drop (at + length key) bytes ≡ take left (drop (at + length key) bytes) ++ drop (at + row) bytes =
    sym (take-append-drop left (drop (at + length key) bytes))
    ∙ ap (λ (l : List ℕ). take left (drop (at + length key) bytes) ++ l) (drop-drop left (at + length key) bytes
    ∙ ap (λ (k : ℕ). drop k bytes) (let e : at + length key + left ≡ at + row = omega arith in e)) in
    ap (λ (l : List ℕ). rows_in row n (take at bytes ++ l)) (ap (λ (l : List ℕ). key ++ l) behind
    ∙ sym (append_assoc key (take left (drop (at + length key) bytes)) (drop (at + row) bytes)))
    ∙ replaced_rows row n place more at bytes one en ea le long
    ∙ ap (λ (l : List ℕ). set (rows_in row n bytes) place (key ++ l)) (sym end ∙ ap (drop (length key)) (sym old))

pub rows_after_rest : (row n place at key : ℕ) (rest bytes : List ℕ) → place < n → at ≡ place * row
    → n * row ≤ length bytes → key + length rest ≡ row
    → rows_in row n (put_at (at + key) rest bytes)
    ≡ set (rows_in row n bytes) place (take key (get_or (rows_in row n bytes) place []) ++ rest)
rows_after_rest row n place at key rest bytes lt ea le lk =
    let more : ℕ = n - suc place in
    let en : n ≡ place + suc more = omega arith in
    let whole = together row n place (suc more) en in
    let old : get_or (rows_in row n bytes) place [] ≡ take row (drop at bytes) =
    get_or-rows_in row n place bytes lt ∙ ap (λ (k : ℕ). take row (drop k bytes)) (sym ea) in
    let begin : take key (take row (drop at bytes)) ≡ take key (drop at bytes) =
    take-take key row (drop at bytes) (omega arith) in
    let room : key ≤ length (drop at bytes) = omega (arith, length-drop at bytes) in
    let one : List ℕ = take key (drop at bytes) ++ rest in
    let long : length one ≡ row =
    omega (arith, length-append (take key (drop at bytes)) rest, length-take-le key (drop at bytes) room) in
    let whole_row : take (at + key) bytes ++ (rest ++ drop (at + key + length rest) bytes)
    ≡ take at bytes ++ (one ++ drop (at + row) bytes) =
    ap (λ (l : List ℕ). l ++ (rest ++ drop (at + key + length rest) bytes)) (take-add at key bytes)
    ∙ append_assoc (take at bytes) (take key (drop at bytes)) (rest ++ drop (at + key + length rest) bytes)
    ∙ ap (λ (l : List ℕ). take at bytes ++ l)
    (sym (append_assoc (take key (drop at bytes)) rest (drop (at + key + length rest) bytes)))
    ∙ ap (λ (k : ℕ). take at bytes ++ (one ++ drop k bytes)) (let e : at + key + length rest ≡ at + row =
    omega arith in e) in
    ap (rows_in row n) whole_row
    ∙ replaced_rows row n place more at bytes one en ea le long
    ∙ ap (λ (l : List ℕ). set (rows_in row n bytes) place (l ++ rest)) (sym begin ∙ ap (take key) (sym old))

-- the rows that stay at a split, whatever follows them
pub rows_left : (row n place at : ℕ) (zeros bytes : List ℕ) → place ≤ n → at ≡ place * row → n * row ≤ length bytes
    → rows_in row place (put_at at zeros bytes) ≡ take place (rows_in row n bytes)
rows_left row n place at zeros bytes lp ea le =
    let more : ℕ = n - place in
    let en : n ≡ place + more = omega arith in
    let whole = together row n place more en in
    let long : at ≤ length bytes = omega arith in
    rows_in-front row place (take at bytes) (zeros ++ drop (at + length zeros) bytes)
    (omega (arith, length-take-le at bytes long))
    ∙ rows_in-take row place at bytes ea long
    ∙ sym (take-rows_in row place n bytes lp)

-- those that go
pub rows_right : (row n place at end : ℕ) (zeros bytes : List ℕ) → place ≤ n → at ≡ place * row → end ≡ n * row
    → end ≤ length bytes
    → rows_in row (n - place) (put_at 0 (take (end - at) (drop at bytes)) zeros) ≡ drop place (rows_in row n bytes)
rows_right row n place at end zeros bytes lp ea ee le =
    let more : ℕ = n - place in
    let en : n ≡ place + more = omega arith in
    let whole = together row n place more en in
    let room : end - at ≤ length (drop at bytes) = omega (arith, length-drop at bytes) in
    let run : List ℕ = take (end - at) (drop at bytes) in
    let ek : end - at ≡ more * row = omega arith in
    rows_in-front row more run (drop (0 + length run) zeros)
    (omega (arith, length-take-le (end - at) (drop at bytes) room))
    ∙ rows_in-take row more (end - at) (drop at bytes) ek room
    ∙ sym (drop-rows_in row place more n at bytes en ea)

pub rows_appended : (row n more at end : ℕ) (bytes other : List ℕ) → at ≡ n * row → end ≡ more * row → at ≤ length bytes
    → end ≤ length other
    → rows_in row (n + more) (put_at at (take end other) bytes) ≡ rows_in row n bytes ++ rows_in row more other
rows_appended row n more at end bytes other ea ee le lo =
    let run : List ℕ = take end other in
    let tail : List ℕ = drop (at + length run) bytes in
    rows_in-append row n more (n + more) (take at bytes) (run ++ tail) refl (length-take-le at bytes le ∙ ea)
    ∙ ap (λ (rows : List (List ℕ)). rows ++ rows_in row more (run ++ tail)) (rows_in-take row n at bytes ea le)
    ∙ ap (λ (rows : List (List ℕ)). rows_in row n bytes ++ rows) (rows_in-front row more run tail
    (omega (arith, length-take-le end other lo)) ∙ rows_in-take row more end other ee lo)
