-- Numbers and bytes, read and spelled.
use Rattle.std.proofs.Common.{◌≡◌, ℕ, suc, ◌+◌, ◌*◌, ◌/◌, ◌%◌, ◌^◌, ◌<◌, ◌≤◌, Bool, true, false, cond, ltb, List, []}
use Rattle.std.proofs.Common.{◌∷◌, ◌++◌, length, take, drop, Ok, Err, refl, sym, ap, subst, ◌∙◌, append_assoc, arith}
use Rattle.std.specs.Prelude.{Some}
use Rattle.std.specs.Int.{w16, w32, w64, from_be_bytes}
use Rattle.std.proofs.lemmas.Bool.{ltb-false, le-ltb}
use Rattle.std.proofs.lemmas.List.{drop_at, take-append-drop, length-append, length-take}
use Rattle.std.proofs.lemmas.Nat.{be_bytes_2, be_bytes_4, be_bytes_8}
use Rattle.byteorder.specs.Endian.{big_bytes, big_number}
use Rattle.byteorder.specs.Numbers.{big_from-take, big_from-lt, big_number-reads_back, length-bytes_high_first}
use Rattle.data_image.specs.declared.fault.ImageFault.TheVariants as faults
use Rattle.data_image.specs.Spelling.{IsBytes, count_bytes, short_bytes, small_bytes, flag_byte, wide_bytes, IsCount}
use Rattle.data_image.specs.Spelling.{FitsFourBytes, IsSmall, IsWide, IsByte, IsAny}
use Rattle.data_image.specs.Reading.{◌>>=◌, number_at, count_at, short_at, small_at, wide_at, byte_at, told_at, flag_of}
use Rattle.data_image.proofs.Forms.{IsBytes-drop, IsBytes-take, guard_ok, ok_is, failed, Takes, takes_then, IsForm}
use Rattle.data_image.proofs.Forms.{part, part_again, Took, form_of, first_told, byte_told}

-- the bytes of a number that was read are what it was read from
abbrev pub ReadsBack : ℕ → Type 0
ReadsBack n = (bytes : List ℕ) → length bytes ≡ n → IsBytes bytes → big_bytes n (big_number n bytes) ≡ bytes

pub number_form : (n : ℕ) → ReadsBack n → IsForm (number_at n) (big_bytes n) (λ k. k < 256 ^ n)
number_form n back = record {
  takes = λ bytes k rest fits e.
      let g = guard_ok (ltb (length bytes) n) faults.Length (big_number n bytes, drop n bytes) (k, rest) e in
      let long : n ≤ length bytes = ltb-false _ _ g.0 in
      let k-is : big_number n bytes ≡ k = ap (λ (p : ℕ × List ℕ). p.0) g.1 in
      let rest-is : drop n bytes ≡ rest = ap (λ (p : ℕ × List ℕ). p.1) g.1 in
      let same : big_number n (take n bytes) ≡ k = big_from-take 0 n n bytes (omega arith) ∙ k-is in
      let front : big_bytes n k ≡ take n bytes = ap (big_bytes n) (sym same)
      ∙ back (take n bytes) (omega (arith, length-take n bytes)) (IsBytes-take n bytes fits) in
      record {
        parts = sym (take-append-drop n bytes) ∙ ap (λ (t : List ℕ). t ++ drop n bytes) (sym front)
            ∙ ap (λ (t : List ℕ). big_bytes n k ++ t) rest-is;
        rest_fits = subst IsBytes rest-is (IsBytes-drop n bytes fits);
      };
  sound = λ bytes k rest fits e.
      let g = guard_ok (ltb (length bytes) n) faults.Length (big_number n bytes, drop n bytes) (k, rest) e in
      let k-is : big_number n bytes ≡ k = ap (λ (p : ℕ × List ℕ). p.0) g.1 in
      let low : ℕ → Type 0 = λ j. j < 256 ^ n in
      subst low k-is (big_from-lt 0 n bytes fits);
  again = λ k rest lt.
      let len = length-bytes_high_first n k in
      let long : ltb (length (big_bytes n k ++ rest)) n ≡ false =
      le-ltb _ _ (omega (arith, length-append (big_bytes n k) rest)) in
      ap (λ b. cond b (Err faults.Length) (Ok (big_number n (big_bytes n k ++ rest), drop n (big_bytes n k ++ rest))))
      long
      ∙ ap (λ (x : ℕ). Ok (x, drop n (big_bytes n k ++ rest))) (big_number-reads_back n k rest lt)
      ∙ ap (λ (x : List ℕ). Ok (k, x)) (drop_at (big_bytes n k) rest n len);
}

worth_8 : (bytes : List ℕ) → big_number 8 bytes ≡ from_be_bytes w64 bytes
worth_8 bytes = omega arith

worth_4 : (bytes : List ℕ) → big_number 4 bytes ≡ from_be_bytes w32 bytes
worth_4 bytes = omega arith

worth_2 : (bytes : List ℕ) → big_number 2 bytes ≡ from_be_bytes w16 bytes
worth_2 bytes = omega arith

pub count_form : IsForm count_at count_bytes IsCount
unfolding count_at count_bytes
count_form = number_form 8 (λ bytes len fits. be_bytes_8 bytes (big_number 8 bytes) len fits (worth_8 bytes))

pub short_form : IsForm short_at short_bytes FitsFourBytes
unfolding short_at short_bytes
short_form = number_form 4 (λ bytes len fits. be_bytes_4 bytes (big_number 4 bytes) len fits (worth_4 bytes))

pub small_form : IsForm small_at small_bytes IsSmall
unfolding small_at small_bytes
small_form = number_form 2 (λ bytes len fits. be_bytes_2 bytes (big_number 2 bytes) len fits (worth_2 bytes))

-- ---- bytes

byte_took : (bytes : List ℕ) (x : ℕ × List ℕ) → IsBytes bytes → byte_at bytes ≡ Ok x → Took (λ n. n ∷ []) IsByte bytes x
unfolding byte_at
byte_took [] x is e = absurd (failed faults.Length x e)
byte_took (byte ∷ bytes) x is e =
    subst (Took (λ n. n ∷ []) IsByte (byte ∷ bytes)) (ok_is (byte, bytes) x e)
    (record { parts = refl; rest_fits = λ i. is (suc i) }, is 0)

byte_again : (n : ℕ) (rest : List ℕ) → IsByte n → byte_at (n ∷ [] ++ rest) ≡ Ok (n, rest)
unfolding byte_at
byte_again n rest h = refl

pub byte_form : IsForm byte_at (λ n. n ∷ []) IsByte
byte_form = form_of byte_at (λ n. n ∷ []) IsByte byte_took byte_again

flag_told : (n : ℕ) → flag_of n ≡ first_told ((0, false) ∷ (1, true) ∷ []) n
unfolding flag_of
flag_told n = refl

flag_again : (b : Bool) → flag_of (flag_byte b) ≡ Some b
unfolding flag_of
flag_again true = refl
flag_again false = refl

pub flag_form : IsForm (told_at flag_of) (λ b. flag_byte b ∷ []) IsAny
flag_form = byte_told (λ b. flag_byte b ∷ []) flag_of ((0, false) ∷ (1, true) ∷ []) ((refl, tt), ((refl, tt), tt))
    flag_told (λ b. (flag_byte b, refl, flag_again b))

-- ---- numbers of 128 bits

abbrev joined : ℕ → ℕ → ℕ
joined high low = high * 2 ^ 64 + low

wide_took : (bytes : List ℕ) (x : ℕ × List ℕ) → IsBytes bytes → wide_at bytes ≡ Ok x → Took wide_bytes IsWide bytes x
unfolding wide_at wide_bytes
wide_took bytes x is e =
    let a = part count_form bytes (λ high. count_at high.1 >>= λ low. Ok (joined high.0 low.0, low.1)) x is e in
    let b = part count_form a.rest (λ low. Ok (joined a.value low.0, low.1)) x a.takes.rest_fits a.goes in
    let t = takes_then bytes (count_bytes a.value) a.rest (count_bytes b.value) b.rest a.takes b.takes in
    let a-fits : a.value < 2 ^ 64 = a.sound in
    let b-fits : b.value < 2 ^ 64 = b.sound in
    let high : a.value ≡ joined a.value b.value / 2 ^ 64 = omega arith in
    let low : b.value ≡ joined a.value b.value % 2 ^ 64 = omega arith in
    let whole : Takes bytes (wide_bytes (joined a.value b.value)) b.rest =
    subst (λ (p : ℕ). Takes bytes (count_bytes p ++ count_bytes (joined a.value b.value % 2 ^ 64)) b.rest) high
    (subst (λ (p : ℕ). Takes bytes (count_bytes a.value ++ count_bytes p) b.rest) low t) in
    let small : joined a.value b.value < 2 ^ 128 = omega arith in
    subst (Took wide_bytes IsWide bytes) {x =
    (joined a.value b.value, b.rest)} (ok_is (joined a.value b.value, b.rest) x b.goes) (whole, small)

wide_again : (n : ℕ) (rest : List ℕ) → IsWide n → wide_at (wide_bytes n ++ rest) ≡ Ok (n, rest)
unfolding wide_at wide_bytes
wide_again n rest h =
    let high : n / 2 ^ 64 < 2 ^ 64 = omega arith in
    let low : n % 2 ^ 64 < 2 ^ 64 = omega arith in
    let same : joined (n / 2 ^ 64) (n % 2 ^ 64) ≡ n = omega arith in
    ap (λ (t : List ℕ). count_at t >>= λ high. count_at high.1 >>= λ low. Ok (joined high.0 low.0, low.1))
    (append_assoc (count_bytes (n / 2 ^ 64)) (count_bytes (n % 2 ^ 64)) rest)
    ∙ part_again count_form (n / 2 ^ 64) (count_bytes (n % 2 ^ 64) ++ rest)
    (λ high. count_at high.1 >>= λ low. Ok (joined high.0 low.0, low.1)) high
    ∙ part_again count_form (n % 2 ^ 64) rest (λ low. Ok (joined (n / 2 ^ 64) low.0, low.1)) low
    ∙ ap (λ (m : ℕ). Ok (m, rest)) same

pub wide_form : IsForm wide_at wide_bytes IsWide
wide_form = form_of wide_at wide_bytes IsWide wide_took wide_again
