-- What the characters of a literal are.
use Rattle.std.proofs.Common.{◌≡◌, ◌≤◌, ◌+◌, ℕ, zero, suc, Bool, true, false, cond, eqb, List, [], ◌∷◌, ◌++◌, length}
use Rattle.std.proofs.Common.{take, drop, Option, None, Some, refl, sym, ap, ◌∙◌, subst, arith, append_assoc}
use Rattle.std.proofs.Common.{append-nil, add-zero, one-add}
use Rattle.std.proofs.Math.Dec.{eqb-suc-zero}
use Rattle.std.proofs.Math.Seq.{take-add, take-append-add}
use Rattle.std.proofs.lemmas.Bool.{eqb-true, eqb-false}
use Rattle.std.proofs.lemmas.List.{map-append, drop-drop}
use Rattle.source_lines.specs.declared.lines.Character.{Character}
use Rattle.tokens.specs.declared.character.Class.{Class}
use Rattle.tokens.specs.declared.character.Class.TheVariants as class
use Rattle.lexical.specs.declared.number.Sign.{Sign}
use Rattle.tokens.specs.Characters.{is_in, bytes, run_size, begins_with_class}
use Rattle.tokens.specs.Kinds.{begins_with, has_more_digits}
use Rattle.tokens.specs.Literals.{quoted_characters, after_point, point_size, sign_size}
use Rattle.tokens.specs.Spelled.{All, sign_text, decimals_text, doubled_marks, IsQuoted}

pub take_text : (text rest : List Character) → take (length text) (text ++ rest) ≡ text
take_text [] rest = refl
take_text (c ∷ text) rest = ap (λ l. c ∷ l) (take_text text rest)

-- the characters of a run are of its class
pub run_all : (one : Class) (cs : List Character) → All one (bytes (take (run_size one cs) cs))
run_all one [] = tt
run_all one (c ∷ more) = go (is_in one c.byte) refl (run_all one more)
  where
    go : (b : Bool) → is_in one c.byte ≡ b → All one (bytes (take (run_size one more) more))
        → All one (bytes (take (cond b (1 + run_size one more) 0) (c ∷ more)))
    go true e r = rw one-add (e, r)
    go false e r = tt

-- and none of its class follows
pub run_stops : (one : Class) (cs : List Character) → begins_with_class one (drop (run_size one cs) cs) ≡ false
run_stops one [] = refl
run_stops one (c ∷ more) = go (is_in one c.byte) refl (run_stops one more)
  where
    go : (b : Bool) → is_in one c.byte ≡ b → begins_with_class one (drop (run_size one more) more) ≡ false
        → begins_with_class one (drop (cond b (1 + run_size one more) 0) (c ∷ more)) ≡ false
    go true e r = rw one-add r
    go false e r = e

-- ---- numeric literals

with_point : (d : ℕ) (p : Character) (z : List Character) → p.byte ≡ 46 → d ≤ length z
    → bytes (take (point_size d + d) (p ∷ z)) ≡ decimals_text (bytes (take d z))
with_point zero p z e h = refl
with_point (suc d) p [] e h = absurd (omega arith)
with_point (suc d) p (q ∷ z) e h = rw (eqb-suc-zero, one-add) (ap (λ b. b ∷ q.byte ∷ bytes (take d z)) e)

fraction_text : (y : List Character) (d : ℕ) → d ≤ length (after_point y)
    → bytes (take (point_size d + d) y) ≡ decimals_text (bytes (take d (after_point y)))
fraction_text [] d h = let z : d ≡ 0 = omega arith in rw z refl
fraction_text (p ∷ z) d h = go (eqb p.byte 46) refl h
  where
    go : (b : Bool) → eqb p.byte 46 ≡ b → d ≤ length (cond b z [])
        → bytes (take (point_size d + d) (p ∷ z)) ≡ decimals_text (bytes (take d (cond b z [])))
    go false e h = let n : d ≡ 0 = omega arith in rw n refl
    go true e h = with_point d p z (eqb-true p.byte 46 e) h

-- the characters of a numeric literal, with those of its sign before them
pub number_text : (sign : Sign) (pre cs : List Character) (whole decimals : ℕ) → bytes pre ≡ sign_text sign
    → sign_size sign ≡ length pre → decimals ≤ length (after_point (drop whole cs))
    → bytes (take (((sign_size sign + whole) + point_size decimals) + decimals) (pre ++ cs))
    ≡ sign_text sign ++ (bytes (take whole cs) ++ decimals_text (bytes (take decimals (after_point (drop whole cs)))))
number_text sign pre cs whole decimals signed size h =
    let counts : ((sign_size sign + whole) + point_size decimals) + decimals
    ≡ length pre + (whole + (point_size decimals + decimals)) = omega arith in
    ap (λ n. bytes (take n (pre ++ cs))) counts
    ∙ ap bytes (take-append-add pre cs (whole + (point_size decimals + decimals)))
    ∙ ap (λ l. bytes (pre ++ l)) (take-add whole (point_size decimals + decimals) cs)
    ∙ map-append (λ c. c.byte) pre (take whole cs ++ take (point_size decimals + decimals) (drop whole cs))
    ∙ ap (λ l. bytes pre ++ l)
    (map-append (λ c. c.byte) (take whole cs) (take (point_size decimals + decimals) (drop whole cs)))
    ∙ (λ i. signed i ++ (bytes (take whole cs) ++ fraction_text (drop whole cs) decimals h i))

pub drop_text : (text rest : List Character) → drop (length text) (text ++ rest) ≡ rest
drop_text [] rest = refl
drop_text (c ∷ text) rest = drop_text text rest

abbrev Stops : List Character → List Character → ℕ → Type 0
Stops y fraction d = has_more_digits (bytes (take d fraction)) (drop (point_size d + d) y) ≡ false

by_decimals : (p : Character) (z : List Character) (d : ℕ) → is_in class.Digit p.byte ≡ false → eqb p.byte 46 ≡ true
    → run_size class.Digit z ≡ d → Stops (p ∷ z) z d
by_decimals p z zero e f r = let stop : begins_with_class class.Digit z ≡ false =
    subst (λ n. begins_with_class class.Digit (drop n z) ≡ false) r (run_stops class.Digit z) in rw (e, f) stop
by_decimals p [] (suc d) e f r = cc
by_decimals p (q ∷ z) (suc d) e f r = rw (eqb-suc-zero, one-add)
    (subst (λ n. begins_with_class class.Digit (drop n (q ∷ z)) ≡ false) r (run_stops class.Digit (q ∷ z)))

-- no more digits follow a number
fraction_stops : (y : List Character) → begins_with_class class.Digit y ≡ false
    → Stops y (after_point y) (run_size class.Digit (after_point y))
fraction_stops [] e = refl
fraction_stops (p ∷ z) e = go (eqb p.byte 46) refl
  where
    go : (b : Bool) → eqb p.byte 46 ≡ b → Stops (p ∷ z) (cond b z []) (run_size class.Digit (cond b z []))
    go false f = rw (e, f) refl
    go true f = by_decimals p z (run_size class.Digit z) e f refl

pub number_stops : (sign : Sign) (pre cs : List Character) → sign_size sign ≡ length pre
    → has_more_digits (bytes (take (run_size class.Digit (after_point (drop (run_size class.Digit cs) cs)))
    (after_point (drop (run_size class.Digit cs) cs))))
    (drop (((sign_size sign + run_size class.Digit cs)
    + point_size (run_size class.Digit (after_point (drop (run_size class.Digit cs) cs))))
    + run_size class.Digit (after_point (drop (run_size class.Digit cs) cs))) (pre ++ cs)) ≡ false
number_stops sign pre cs size =
    rw (left (run_size class.Digit cs) (run_size class.Digit (after_point (drop (run_size class.Digit cs) cs))))
    (fraction_stops (drop (run_size class.Digit cs) cs) (run_stops class.Digit cs))
  where
    left : (whole d : ℕ)
        → drop (((sign_size sign + whole) + point_size d) + d) (pre ++ cs) ≡ drop (point_size d + d) (drop whole cs)
    left whole d =
        let counts : ((sign_size sign + whole) + point_size d) + d ≡ length pre + (whole + (point_size d + d)) =
        omega arith in
        ap (λ n. drop n (pre ++ cs)) counts ∙ sym (drop-drop (whole + (point_size d + d)) (length pre) (pre ++ cs))
        ∙ ap (drop (whole + (point_size d + d))) (drop_text pre cs) ∙ sym (drop-drop (point_size d + d) whole cs)

-- ---- nonnumeric literals

-- The text that was closed is what was there and a literal, of which the characters passed are the doubled text and the
-- mark. A mark that was just passed stands before them.
pub data Closes (mark : ℕ) (passed there : List ℕ) (size : ℕ) (cs : List Character) : Option (List ℕ × ℕ) → Type 0 where
  open_text : Closes mark passed there size cs None
  closes : {text : List ℕ} {count : ℕ} (literal : List ℕ) (inner rest : List Character) → cs ≡ inner ++ rest
      → passed ++ bytes inner ≡ doubled_marks mark literal ++ (mark ∷ [])
      → text ≡ there ++ literal → count ≡ size + length inner → begins_with mark rest ≡ false
      → Closes mark passed there size cs (Some (text, count))

pub eqb_self : (n : ℕ) → eqb n n ≡ true
eqb_self n = elim (eqb n n)
    as (λ b. eqb n n ≡ b → eqb n n ≡ true) [ true ↦ (λ e. e) | false ↦ (λ e. absurd (eqb-false n n e refl)) ] refl

-- a second mark stands for one
second : {mark size : ℕ} {there : List ℕ} {x : Option (List ℕ × ℕ)} (c : Character) (more : List Character)
    → eqb c.byte mark ≡ true
    → Closes mark [] (there ++ mark ∷ []) (size + 1) more x → Closes mark (mark ∷ []) there size (c ∷ more) x
second c more e open_text = open_text
second {mark} {size} {there} c more e (closes literal inner rest is text_is t n stop) =
    closes (mark ∷ literal) (c ∷ inner) rest (ap (λ l. c ∷ l) is) (rw eqb_self
    (λ i. mark ∷ eqb-true c.byte mark e i ∷ text_is i)) (t ∙ append_assoc there (mark ∷ []) literal) (omega arith) stop

first : {mark size : ℕ} {there : List ℕ} {x : Option (List ℕ × ℕ)} (c : Character) (more : List Character)
    → eqb c.byte mark ≡ true
    → Closes mark (mark ∷ []) there (size + 1) more x → Closes mark [] there size (c ∷ more) x
first c more e open_text = open_text
first {mark} {size} {there} c more e (closes literal inner rest is text_is t n stop) =
    closes literal (c ∷ inner) rest (ap (λ l. c ∷ l) is) (ap (λ b. b ∷ bytes inner) (eqb-true c.byte mark e) ∙ text_is)
    t (omega arith) stop

other : {mark size : ℕ} {there : List ℕ} {x : Option (List ℕ × ℕ)} (c : Character) (more : List Character)
    → eqb c.byte mark ≡ false
    → Closes mark [] (there ++ c.byte ∷ []) (size + 1) more x → Closes mark [] there size (c ∷ more) x
other c more e open_text = open_text
other {mark} {size} {there} c more e (closes literal inner rest is text_is t n stop) =
    closes (c.byte ∷ literal) (c ∷ inner) rest (ap (λ l. c ∷ l) is) (rw e (ap (λ l. c.byte ∷ l) text_is))
    (t ∙ append_assoc there (c.byte ∷ []) literal) (omega arith) stop

pub quoted_closes : (mark : ℕ) (after : Bool) (there : List ℕ) (size : ℕ) (cs : List Character)
    → Closes mark (cond after (mark ∷ []) []) there size cs (quoted_characters mark after there size cs)
quoted_closes mark true there size [] = closes [] [] [] refl refl (sym (append-nil there)) (sym (add-zero size)) refl
quoted_closes mark false there size [] = open_text
quoted_closes mark true there size (c ∷ more) =
    go (eqb c.byte mark) refl (quoted_closes mark false (there ++ mark ∷ []) (size + 1) more)
  where
    go : (b : Bool) → eqb c.byte mark ≡ b → Closes mark [] (there ++ mark ∷ []) (size + 1) more
        (quoted_characters mark false (there ++ mark ∷ []) (size + 1) more)
        → Closes mark (mark ∷ []) there size (c ∷ more)
        (cond b (quoted_characters mark false (there ++ mark ∷ []) (size + 1) more) (Some (there, size)))
    go true e r = second c more e r
    go false e r = closes [] [] (c ∷ more) refl refl (sym (append-nil there)) (sym (add-zero size)) e
quoted_closes mark false there size (c ∷ more) = go (eqb c.byte mark) refl
    (quoted_closes mark true there (size + 1) more) (quoted_closes mark false (there ++ c.byte ∷ []) (size + 1) more)
  where
    go : (b : Bool) → eqb c.byte mark ≡ b
        → Closes mark (mark ∷ []) there (size + 1) more (quoted_characters mark true there (size + 1) more)
        → Closes mark [] (there ++ c.byte ∷ []) (size + 1) more
        (quoted_characters mark false (there ++ c.byte ∷ []) (size + 1) more)
        → Closes mark [] there size (c ∷ more) (cond b (quoted_characters mark true there (size + 1) more)
        (quoted_characters mark false (there ++ c.byte ∷ []) (size + 1) more))
    go true e r s = first c more e r
    go false e r s = other c more e s

-- the characters of a nonnumeric literal, with its opening mark
pub quoted_text : {text : List ℕ} {size : ℕ} (c : Character) (more : List Character) → is_in class.Mark c.byte ≡ true
    → Closes c.byte [] [] 1 more (Some (text, size))
    → IsQuoted c.byte text (take size (c ∷ more))
quoted_text {text} {size} c more m (closes literal inner rest is text_is t n stop) =
    let count : size ≡ suc (length inner) = omega arith in
    let front : take size (c ∷ more) ≡ c ∷ inner = ap (λ l. take size (c ∷ l)) is
    ∙ ap (λ n. take n (c ∷ (inner ++ rest))) count ∙ ap (λ l. c ∷ l) (take_text inner rest) in (
      m,
      ap bytes front ∙ ap (λ l. c.byte ∷ l) text_is
          ∙ ap (λ l. c.byte ∷ (doubled_marks c.byte l ++ (c.byte ∷ []))) (sym t),
    )

pub quoted_stops : {text : List ℕ} {size : ℕ} (c : Character) (more : List Character)
    → Closes c.byte [] [] 1 more (Some (text, size)) → begins_with c.byte (drop size (c ∷ more)) ≡ false
quoted_stops {text} {size} c more (closes literal inner rest is text_is t n stop) =
    let count : size ≡ suc (length inner) = omega arith in
    let left : drop size (c ∷ more) ≡ rest =
    ap (λ l. drop size (c ∷ l)) is ∙ ap (λ n. drop n (c ∷ (inner ++ rest))) count ∙ drop_text inner rest in
    rw left stop
