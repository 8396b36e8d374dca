-- A value of the catalog, read back.
use Rattle.std.proofs.Common.{◌≡◌, ◌+◌, ◌*◌, ◌/◌, ◌%◌, ◌^◌, ℕ, zero, suc, List, [], ◌∷◌, length, refl, sym}
use Rattle.std.proofs.Common.{ap, ◌∙◌, arith}
use Rattle.std.specs.Int.{byte_at, bytes_high_first}
use Rattle.std.proofs.Math.Nat.{pow-succ', div-one}
use Rattle.std.proofs.lemmas.Nat.{mod-pow-add, field_of, mod_low, mod_below, pow_pos}
use Rattle.std.proofs.lemmas.List.{length-append, take_at, drop_at, take_all, append-nil}
use Rattle.byteorder.specs.Endian.{big_bytes, big_number}
use Rattle.byteorder.specs.Numbers.{big_from-bytes, length-bytes_high_first}
use Rattle.volume_format.specs.Catalog.{ValueReads}

pub reads_back : (mark : ℕ) (listing : List ℕ) (rows : ℕ) → length listing ≡ 83 → ValueReads mark listing rows
reads_back zero listing rows long = record {
  long = long;
  head = take_all 83 listing (omega (arith, long));
  count = λ some. absurd (omega (arith, some));
}
reads_back (suc mark) listing rows long = record {
  long = omega (arith, length-append listing (big_bytes 8 rows), long, length-bytes_high_first 8 rows);
  head = take_at listing (big_bytes 8 rows) 83 long;
  count = λ some. ap (big_number 8) (drop_at listing (big_bytes 8 rows) 83 long ∙ sym (append-nil (big_bytes 8 rows)))
      ∙ big_from-bytes 8 rows [];
}

pow_bytes : (k : ℕ) → 2 ^ (8 * k) ≡ 256 ^ k
pow_bytes zero = refl
pow_bytes (suc k) =
    let n : ℕ = 8 * k in
    let more : 8 * suc k ≡ suc (suc (suc (suc (suc (suc (suc (suc n))))))) = omega arith in
    ap (λ (m : ℕ). 2 ^ m) more
    ∙ omega (
      arith,
      pow-succ' 2 n,
      pow-succ' 2 (suc n),
      pow-succ' 2 (suc (suc n)),
      pow-succ' 2 (suc (suc (suc n))),
      pow-succ' 2 (suc (suc (suc (suc n)))),
      pow-succ' 2 (suc (suc (suc (suc (suc n))))),
      pow-succ' 2 (suc (suc (suc (suc (suc (suc n)))))),
      pow-succ' 2 (suc (suc (suc (suc (suc (suc (suc n))))))),
      pow_bytes k,
      pow-succ' 256 k,
    )

-- a byte of a number, by its place
byte_by_power : (k n : ℕ) → byte_at k n ≡ n / 256 ^ k % 256
byte_by_power zero n = ap (λ (m : ℕ). m % 256) (sym (div-one n))
byte_by_power (suc k) n = refl

byte_is : (k n : ℕ) → byte_at k n ≡ n / 2 ^ (8 * k) % 2 ^ 8
byte_is k n = byte_by_power k n ∙ ap (λ (m : ℕ). n / m % 256) (sym (pow_bytes k))

-- the lower bits of a number and of its remainder are the same
low_of : (n k : ℕ) → n % 2 ^ (8 + 8 * k) % 2 ^ (8 * k) ≡ n % 2 ^ (8 * k)
low_of n k =
    ap (λ (m : ℕ). m % 2 ^ (8 * k)) (mod-pow-add n 8 (8 * k))
    ∙ mod_low (n / 2 ^ (8 * k) % 2 ^ 8) (8 * k) (n % 2 ^ (8 * k)) (mod_below n (2 ^ (8 * k)) (pow_pos (8 * k)))

pub low_bytes : (k one two : ℕ) → one % 2 ^ (8 * k) ≡ two % 2 ^ (8 * k)
    → bytes_high_first k one ≡ bytes_high_first k two
low_bytes zero one two same = refl
low_bytes (suc k) one two same =
    let eight : 8 * suc k ≡ 8 + 8 * k = omega arith in
    let wide : one % 2 ^ (8 + 8 * k) ≡ two % 2 ^ (8 + 8 * k) =
    ap (λ (n : ℕ). one % 2 ^ n) (sym eight) ∙ same ∙ ap (λ (n : ℕ). two % 2 ^ n) eight in
    let high : byte_at k one ≡ byte_at k two =
    byte_is k one ∙ sym (field_of one 8 (8 * k)) ∙ ap (λ (n : ℕ). n / 2 ^ (8 * k)) wide ∙ field_of two 8 (8 * k)
    ∙ sym (byte_is k two) in
    let rest = low_bytes k one two (sym (low_of one k) ∙ ap (λ (n : ℕ). n % 2 ^ (8 * k)) wide ∙ low_of two k) in
    ap (λ (b : ℕ). b ∷ bytes_high_first k one) high ∙ ap (λ (l : List ℕ). byte_at k two ∷ l) rest

pub rows_low : (one two : ℕ) → one % 2 ^ 64 ≡ two % 2 ^ 64 → big_bytes 8 one ≡ big_bytes 8 two
rows_low one two same = low_bytes 8 one two same
