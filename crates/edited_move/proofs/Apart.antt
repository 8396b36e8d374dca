-- Characters that move apart for insertions.
use Rattle.std.proofs.Common.{◌≡◌, ◌≤◌, ◌<◌, ◌+◌, ◌-◌, ℕ, zero, suc, Bool, true, false, if◌then◌else◌, List, [], ◌∷◌}
use Rattle.std.proofs.Common.{◌++◌, length, get_or, take, drop, replicate, refl, sym, ap, ◌∙◌, subst, add-one, arith}
use Rattle.std.proofs.Common.{drop-cons, length-append}
use Rattle.std.proofs.lemmas.List.{drop_all}
use borrow.Rule.Slice.PartMut.{put_mid}
use Rattle.picture.specs.declared.run.Run.{Run}
use Rattle.picture.specs.Runs.{symbol_count}
use Rattle.picture.specs.Symbols.{is_alphanumeric}
use Rattle.items.specs.Texts.{space, padded_text}
use Rattle.edited_move.specs.EditedCharacters.{inserted_character, edited_characters, spread_characters}

take_take : (m n : ℕ) (text : List ℕ) → m ≤ n → take m (take n text) ≡ take m text
take_take zero n text h = refl
take_take (suc m) zero text h = absurd (omega arith)
take_take (suc m) (suc n) [] h = refl
take_take (suc m) (suc n) (c ∷ text) h = ap (λ l. c ∷ l) (take_take m n text (omega arith))

no_text : List ℕ
no_text = []

take_none : (k : ℕ) → no_text ≡ take k no_text
unfolding no_text
take_none zero = refl
take_none (suc k) = refl

drop_take : (m n : ℕ) (text : List ℕ) → m ≤ n → drop m (take n text) ≡ take (n - m) (drop m text)
unfolding no_text
drop_take zero n text h = ap (λ k. take k text) (let e : n ≡ n - 0 = omega arith in e)
drop_take (suc m) zero text h = absurd (omega arith)
drop_take (suc m) (suc n) [] h = take_none (suc n - suc m)
drop_take (suc m) (suc n) (c ∷ text) h =
    drop_take m n text (omega arith) ∙ ap (λ k. take k (drop m text)) (let e : n - m ≡ suc n - suc m = omega arith in e)

take_length : (n : ℕ) (text : List ℕ) → n ≤ length text → length (take n text) ≡ n
take_length zero text h = refl
take_length (suc n) [] h = absurd (omega arith)
take_length (suc n) (c ∷ text) h = ap suc (take_length n text (omega arith))

drop_length : (n : ℕ) (text : List ℕ) → length (drop n text) ≡ length text - n
drop_length zero text = omega arith
drop_length (suc n) [] = omega arith
drop_length (suc n) (c ∷ text) =
    drop_length n text ∙ (let e : length text - n ≡ suc (length text) - suc n = omega arith in e)

no_spaces : (n : ℕ) (text : List ℕ) → n ≡ 0 → text ++ replicate n space ≡ text
no_spaces n text e = subst (λ k. text ++ replicate k space ≡ text) (sym e) (end text)
  where
    end : (text : List ℕ) → text ++ [] ≡ text
    end [] = refl
    end (c ∷ text) = ap (λ l. c ∷ l) (end text)

-- where there are enough of them, none is added
pub padded_front : (n : ℕ) (text : List ℕ) → n ≤ length text → padded_text n text ≡ take n text
padded_front n text h = no_spaces (n - length text) (take n text) (omega arith)

-- only as many characters count as there are places
pub front_counts : (runs : List Run) (n : ℕ) (text : List ℕ) → symbol_count runs ≤ n → n ≤ length text
    → edited_characters runs (take n text) ≡ edited_characters runs text
unfolding edited_characters symbol_count
front_counts [] n text h e = refl
front_counts (run ∷ more) n text h e = go (λ n text h e. front_counts more n text h e) (is_alphanumeric run.symbol)
  where
    go : ((n : ℕ) (text : List ℕ) → symbol_count more ≤ n → n ≤ length text
        → edited_characters more (take n text) ≡ edited_characters more text) → (b : Bool)
        → (if b then padded_text run.count (take n text) ++ edited_characters more (drop run.count (take n text))
        else replicate run.count (inserted_character run.symbol) ++ edited_characters more (take n text))
        ≡ (if b then padded_text run.count text ++ edited_characters more (drop run.count text)
        else replicate run.count (inserted_character run.symbol) ++ edited_characters more text)
    go less true =
        let long = take_length n text e in
        let dropped = drop_length run.count text in
        let front = padded_front run.count (take n text) (omega arith) ∙ take_take run.count n text (omega arith)
        ∙ sym (padded_front run.count text (omega arith)) in
        let rest = ap (edited_characters more) (drop_take run.count n text (omega arith))
        ∙ less (n - run.count) (drop run.count text) (omega arith) (omega arith) in
        ap (λ l. l ++ edited_characters more (drop run.count (take n text))) front
        ∙ ap (λ l. padded_text run.count text ++ l) rest
    go less false = ap (λ l. replicate run.count (inserted_character run.symbol) ++ l) (less n text (omega arith) e)

-- ---- one run more

take_past : (front back : List ℕ) (n : ℕ) → take (length front + n) (front ++ back) ≡ front ++ take n back
take_past [] back n = ap (λ k. take k back) (let e : 0 + n ≡ n = omega arith in e)
take_past (c ∷ front) back n =
    ap (λ k. take k (c ∷ (front ++ back))) (let e : suc (length front) + n ≡ suc (length front + n) = omega arith in e)
    ∙ ap (λ l. c ∷ l) (take_past front back n)

drop_past : (front back : List ℕ) (n : ℕ) → drop (length front + n) (front ++ back) ≡ drop n back
drop_past [] back n = ap (λ k. drop k back) (let e : 0 + n ≡ n = omega arith in e)
drop_past (c ∷ front) back n =
    ap (λ k. drop k (c ∷ (front ++ back))) (let e : suc (length front) + n ≡ suc (length front + n) = omega arith in e)
    ∙ drop_past front back n

take_whole : (text : List ℕ) → take (length text) text ≡ text
take_whole [] = refl
take_whole (c ∷ text) = ap (λ l. c ∷ l) (take_whole text)

drop_whole : (text : List ℕ) → drop (length text) text ≡ []
drop_whole [] = refl
drop_whole (c ∷ text) = drop_whole text

ends : (text : List ℕ) → text ++ [] ≡ text
ends [] = refl
ends (c ∷ text) = ap (λ l. c ∷ l) (ends text)

length_replicate : (n c : ℕ) → length (replicate n c) ≡ n
length_replicate zero c = refl
length_replicate (suc n) c = ap suc (length_replicate n c)

one_run : (run : Run) (more : List Run) (text : List ℕ) → run.count + symbol_count more ≤ length text
    → edited_characters (run ∷ more) text ≡ take run.count (spread_characters run text)
    ++ edited_characters more (drop run.count (spread_characters run text))
unfolding edited_characters
one_run run more text fits = go (is_alphanumeric run.symbol)
  where
    spaces : List ℕ
    spaces = replicate run.count (inserted_character run.symbol)

    rest : List ℕ
    rest = take (length text - run.count) text

    long : length spaces ≡ run.count
    long = length_replicate run.count (inserted_character run.symbol)

    first : take run.count (spaces ++ rest) ≡ spaces
    first =
        ap (λ n. take n (spaces ++ rest)) (let e : run.count ≡ length spaces + 0 = omega (arith, long) in e)
        ∙ take_past spaces rest 0 ∙ ends spaces

    second : drop run.count (spaces ++ rest) ≡ rest
    second = ap (λ n. drop n (spaces ++ rest)) (let e : run.count ≡ length spaces + 0 = omega (arith, long) in e)
        ∙ drop_past spaces rest 0

    go : (b : Bool)
        → (if b then padded_text run.count text ++ edited_characters more (drop run.count text)
        else spaces ++ edited_characters more text)
        ≡ take run.count (if b then text else spaces ++ rest)
        ++ edited_characters more (drop run.count (if b then text else spaces ++ rest))
    go true = ap (λ l. l ++ edited_characters more (drop run.count text)) (padded_front run.count text (omega arith))
    go false =
        ap (λ l. spaces ++ l) (sym (front_counts more (length text - run.count) text (omega arith) (omega arith)))
        ∙ ap (λ l. spaces ++ edited_characters more l) (sym second)
        ∙ ap (λ l. l ++ edited_characters more (drop run.count (spaces ++ rest))) (sym first)

joined : (a b c : List ℕ) → a ++ (b ++ c) ≡ (a ++ b) ++ c
joined [] b c = refl
joined (x ∷ a) b c = ap (λ l. x ∷ l) (joined a b c)

pub next_total : (runs : List Run) (i : ℕ) (d : Run) → i < length runs
    → symbol_count (drop i runs) ≡ (get_or runs i d).count + symbol_count (drop (i + 1) runs)
unfolding symbol_count
next_total runs i d h = rw (add-one, drop-cons runs i d) refl

pub record Spread (runs : List Run) (old : List ℕ) (i at : ℕ) (bytes : List ℕ) : Type 0 where
  pub places : at + symbol_count (drop i runs) ≡ length bytes
  pub text : edited_characters runs old ≡ take at bytes ++ edited_characters (drop i runs) (drop at bytes)

pub spread_start : (runs : List Run) (old : List ℕ) → length old ≡ symbol_count runs → Spread runs old 0 0 old
spread_start runs old e = record { places = omega arith; text = refl }

pub record Next (runs : List Run) (old : List ℕ) (i at : ℕ) (length_before : ℕ) (bytes : List ℕ) : Type 0 where
  pub size : length bytes ≡ length_before
  pub spread : Spread runs old i at bytes

spread_length : (run : Run) (text : List ℕ) → run.count ≤ length text
    → length (spread_characters run text) ≡ length text
spread_length run text h = go (is_alphanumeric run.symbol)
  where
    go : (b : Bool) → length (if b then text
        else replicate run.count (inserted_character run.symbol) ++ take (length text - run.count) text) ≡ length text
    go true = refl
    go false = omega (
      arith,
      length-append (replicate run.count (inserted_character run.symbol)) (take (length text - run.count) text),
      length_replicate run.count (inserted_character run.symbol),
      take_length (length text - run.count) text (omega arith),
    )

rest_is : (at : ℕ) (bytes : List ℕ) → take (length bytes - at) (drop at bytes) ≡ drop at bytes
rest_is at bytes = ap (λ n. take n (drop at bytes)) (sym (drop_length at bytes)) ∙ take_whole (drop at bytes)

put_whole : (bytes part : List ℕ) (at : ℕ) → put_mid at (length bytes - at) bytes part ≡ take at bytes ++ part
put_whole bytes part at =
    ap (λ l. take at bytes ++ (part ++ l)) (ap (λ n. drop n (drop at bytes)) (sym (drop_length at bytes))
    ∙ drop_whole (drop at bytes))
    ∙ ap (λ l. take at bytes ++ l) (ends part)

-- the places of a run are there
pub run_fits : (runs : List Run) (i at : ℕ) (d : Run) (bytes : List ℕ) → i < length runs
    → at + symbol_count (drop i runs) ≡ length bytes
    → ((get_or runs i d).count ≤ length (take (length bytes - at) (drop at bytes)))
    × ((get_or runs i d).count + at ≤ length bytes)
run_fits runs i at d bytes h e =
    let all = next_total runs i d h in
    let left = drop_length at bytes in
    let same = ap length (rest_is at bytes) in (omega arith, omega arith)

spread_next : (runs : List Run) (old bytes part whole : List ℕ) (i at : ℕ) (d : Run) → i < length runs
    → Spread runs old i at bytes
    → part ≡ spread_characters (get_or runs i d) (take (length bytes - at) (drop at bytes))
    → whole ≡ put_mid at (length bytes - at) bytes part
    → Next runs old (i + 1) (at + (get_or runs i d).count) (length bytes) whole
spread_next runs old bytes part whole i at d h s given put =
    let run = get_or runs i d in
    let more = drop (i + 1) runs in
    let all = next_total runs i d h in
    let left = drop_length at bytes in
    let places = s.places in
    let front : drop i runs ≡ run ∷ more =
    drop-cons runs i d h ∙ ap (λ n. run ∷ drop n runs) (let e : suc i ≡ i + 1 = omega arith in e) in
    let at_is = take_length at bytes (omega arith) in
    let is : part ≡ spread_characters run (drop at bytes) = given ∙ ap (spread_characters run) (rest_is at bytes) in
    let is_whole : whole ≡ take at bytes ++ part = put ∙ put_whole bytes part at in
    let part_long = ap length is ∙ spread_length run (drop at bytes) (omega arith) in
    let size = ap length is_whole ∙ length-append (take at bytes) part in
    let step = one_run run more (drop at bytes) (omega arith) in
    let here : at + run.count ≡ length (take at bytes) + run.count = omega arith in
    let taken : take (at + run.count) whole ≡ take at bytes ++ take run.count part =
    ap (take (at + run.count)) is_whole ∙ ap (λ n. take n (take at bytes ++ part)) here
    ∙ take_past (take at bytes) part run.count in
    let dropped : drop (at + run.count) whole ≡ drop run.count part =
    ap (drop (at + run.count)) is_whole ∙ ap (λ n. drop n (take at bytes ++ part)) here
    ∙ drop_past (take at bytes) part run.count in
    let next : Spread runs old (i + 1) (at + run.count) whole = record {
      places = omega arith;
      text = s.text ∙ ap (λ l. take at bytes ++ edited_characters l (drop at bytes)) front
          ∙ ap (λ l. take at bytes ++ l) step
          ∙ ap (λ l. take at bytes ++ (take run.count l ++ edited_characters more (drop run.count l))) (sym is)
          ∙ joined (take at bytes) (take run.count part) (edited_characters more (drop run.count part))
          ∙ ap (λ l. l ++ edited_characters more (drop run.count part)) (sym taken)
          ∙ ap (λ l. take (at + run.count) whole ++ edited_characters more l) (sym dropped);
    } in
    record { size = omega arith; spread = next }

next_left : (size left count run : ℕ) → count ≡ run → run + (size - left) ≤ size → left ≤ size
    → size - left + run ≡ size - (left - count)
next_left size left count run e h w = omega arith

-- the same where `left` places are left, and the run takes `count` of them
pub spread_run : (runs : List Run) (old bytes part whole : List ℕ) (i left count : ℕ) (d : Run) → i < length runs
    → length old ≡ length bytes → left ≤ length old → Spread runs old i (length old - left) bytes
    → part ≡ spread_characters (get_or runs i d)
    (take (length bytes - (length old - left)) (drop (length old - left) bytes))
    → count ≡ (get_or runs i d).count
    → whole ≡ put_mid (length old - left) (length bytes - (length old - left)) bytes part
    → (length old ≡ length whole) × Spread runs old (i + 1) (length old - (left - count)) whole
spread_run runs old bytes part whole i left count d lt size within s given takes put =
    let at = length old - left in
    let next = spread_next runs old bytes part whole i at d lt s given put in
    let fits = (run_fits runs i at d bytes lt s.places).1 in
    let same = next_left (length old) left count (get_or runs i d).count takes (omega (arith, fits, size)) within in
    (size ∙ sym next.size, subst (λ n. Spread runs old (i + 1) n whole) same next.spread)

pub spread_end : (runs : List Run) (old bytes : List ℕ) (i at : ℕ) → length runs ≤ i → Spread runs old i at bytes
    → bytes ≡ edited_characters runs old
unfolding edited_characters symbol_count
spread_end runs old bytes i at h s =
    let none = drop_all i runs h in
    let places = s.places in
    let all : at ≡ length bytes = (let e = ap symbol_count none in omega arith) in
    sym (s.text ∙ ap (λ l. take at bytes ++ edited_characters l (drop at bytes)) none ∙ ends (take at bytes)
    ∙ ap (λ n. take n bytes) all ∙ take_whole bytes)
