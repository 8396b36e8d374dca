-- What the catalog says of a file, read back.
use Rattle.std.proofs.Common.{◌≡◌, ◌≤◌, ◌<◌, ◌+◌, ◌-◌, ◌*◌, ◌^◌, ◌++◌, ℕ, zero, suc, true, List, [], ◌∷◌, length, refl}
use Rattle.std.proofs.Common.{sym, ap, ◌∙◌, arith}
use Rattle.std.specs.Prelude.{take, drop, replicate, slice_index_or}
use Rattle.std.specs.List.{All, flat_map}
use Rattle.std.proofs.lemmas.List.{length-append, take_at, drop_at, drop-drop, append-nil}
use Rattle.std.proofs.lemmas.List.{append_assoc}
use Rattle.std.proofs.lemmas.List.Elements.{All-head, All-tail}
use Rattle.byteorder.specs.Endian.{big_bytes, big_number}
use Rattle.byteorder.specs.Numbers.{big_number-reads_back}
use Rattle.records.specs.Spec.{is_spec}
use Rattle.volume_format.specs.Catalog.{Listing, IsListing, ReadsBack, listing_bytes}
use Rattle.file_bytes.specs.Description.{spec_bytes, filled_to}
use Rattle.file_bytes.proofs.Descriptions.{filled_long, spec_long}
use Rattle.volume_format.proofs.Small.{few_alternates}

pub pages_long : (pages : List ℕ) → length (flat_map (big_bytes 4) pages) ≡ 4 * length pages
pages_long [] = refl
pages_long (page ∷ pages) =
    let rest = pages_long pages in
    let all = length-append (big_bytes 4 page) (flat_map (big_bytes 4) pages) in
    omega arith

roots_filled : (roots : List ℕ) (count : ℕ) → count ≡ 28 - 4 * length roots
    → flat_map (big_bytes 4) roots ++ replicate count 0 ≡ filled_to 28 (flat_map (big_bytes 4) roots)
roots_filled roots count is =
    ap (λ (m : ℕ). flat_map (big_bytes 4) roots ++ replicate m 0) (is ∙ ap (λ (m : ℕ). 28 - m) (sym (pages_long roots)))

-- a listing is written, part after part
pub listing_spelled : (l : Listing) (none one two three four five prime next : List ℕ) (count : ℕ) → none ≡ []
    → one ≡ none ++ spec_bytes l.spec → prime ≡ big_bytes 4 l.prime → two ≡ one ++ prime
    → three ≡ two ++ flat_map (big_bytes 4) l.alternates → count ≡ 28 - 4 * length l.alternates
    → four ≡ three ++ replicate count 0 → next ≡ big_bytes 8 l.next_arrival → five ≡ four ++ next
    → five ≡ listing_bytes l
unfolding listing_bytes
listing_spelled l none one two three four five prime next count empty first prime_is second third count_is fourth
    next_is fifth =
    let head = spec_bytes l.spec in
    let root = big_bytes 4 l.prime in
    let roots = flat_map (big_bytes 4) l.alternates in
    let zeros : List ℕ = replicate count 0 in
    let last = big_bytes 8 l.next_arrival in
    let front : two ≡ head ++ root = second ∙ ap (λ m. one ++ m) prime_is
    ∙ ap (λ m. m ++ root) (first ∙ ap (λ m. m ++ head) empty) in
    let middle : four ≡ (head ++ root) ++ filled_to 28 roots =
    fourth ∙ ap (λ m. m ++ zeros) (third ∙ ap (λ m. m ++ roots) front) ∙ append_assoc (head ++ root) roots zeros
    ∙ ap (λ m. (head ++ root) ++ m) (roots_filled l.alternates count count_is) in
    fifth ∙ ap (λ m. four ++ m) next_is ∙ ap (λ m. m ++ last) middle
    ∙ append_assoc (head ++ root) (filled_to 28 roots) last ∙ append_assoc head root (filled_to 28 roots ++ last)

-- the page at a place of the list
page_at : (pages : List ℕ) (i : ℕ) (more : List ℕ) → i < length pages → All (λ page. page < 2 ^ 32) pages
    → big_number 4 (drop (4 * i) (flat_map (big_bytes 4) pages ++ more)) ≡ slice_index_or pages i 0
page_at [] i more within low = absurd (omega (arith, within))
page_at (page ∷ pages) zero more within low =
    ap (big_number 4) (append_assoc (big_bytes 4 page) (flat_map (big_bytes 4) pages) more)
    ∙ big_number-reads_back 4 page (flat_map (big_bytes 4) pages ++ more)
    (All-head (λ page. page < 2 ^ 32) page pages low)
page_at (page ∷ pages) (suc i) more within low =
    let four : 4 * suc i ≡ 4 + 4 * i = omega arith in
    ap (λ n. big_number 4 (drop n (flat_map (big_bytes 4) (page ∷ pages) ++ more))) four
    ∙ ap (big_number 4) (sym (drop-drop (4 * i) 4 (flat_map (big_bytes 4) (page ∷ pages) ++ more)))
    ∙ page_at pages i more (omega (arith, within)) (All-tail (λ page. page < 2 ^ 32) page pages low)

abbrev pages_part : Listing → List ℕ
pages_part l = filled_to 28 (flat_map (big_bytes 4) l.alternates)

abbrev behind : Listing → List ℕ
behind l = big_bytes 4 l.prime ++ (pages_part l ++ big_bytes 8 l.next_arrival)

at_prime : (l : Listing) → is_spec l.spec ≡ true → drop 43 (listing_bytes l) ≡ behind l
unfolding listing_bytes
at_prime l is = drop_at (spec_bytes l.spec) (behind l) 43 (spec_long l.spec (few_alternates l.spec is))

at_pages : (l : Listing) → is_spec l.spec ≡ true
    → drop 47 (listing_bytes l) ≡ pages_part l ++ big_bytes 8 l.next_arrival
at_pages l is = sym (drop-drop 4 43 (listing_bytes l)) ∙ ap (drop 4) (at_prime l is)

pages_count : (l : Listing) → is_spec l.spec ≡ true → length l.alternates ≡ length l.spec.alternates
    → length (pages_part l) ≡ 28
pages_count l is count = filled_long 28 (flat_map (big_bytes 4) l.alternates) (let k =
    pages_long l.alternates in let few = few_alternates l.spec is in omega (arith, k, few, count))

at_next : (l : Listing) → is_spec l.spec ≡ true → length l.alternates ≡ length l.spec.alternates
    → drop 75 (listing_bytes l) ≡ big_bytes 8 l.next_arrival
at_next l is count = sym (drop-drop 28 47 (listing_bytes l)) ∙ ap (drop 28) (at_pages l is)
    ∙ drop_at (pages_part l) (big_bytes 8 l.next_arrival) 28 (pages_count l is count)

pub prime_read : (l : Listing) → is_spec l.spec ≡ true → l.prime < 2 ^ 32
    → big_number 4 (drop 43 (listing_bytes l)) ≡ l.prime
prime_read l is low =
    ap (big_number 4) (at_prime l is) ∙ big_number-reads_back 4 l.prime (pages_part l ++ big_bytes 8 l.next_arrival) low

pub next_read_most : (l : Listing) → is_spec l.spec ≡ true → length l.alternates ≡ length l.spec.alternates
    → l.next_arrival ≤ 2 ^ 63 → big_number 8 (drop 75 (listing_bytes l)) ≡ l.next_arrival
next_read_most l is count low = ap (big_number 8) (at_next l is count ∙ sym (append-nil (big_bytes 8 l.next_arrival)))
    ∙ big_number-reads_back 8 l.next_arrival [] (omega arith)

pub next_read : (l : Listing) → is_spec l.spec ≡ true → length l.alternates ≡ length l.spec.alternates
    → l.next_arrival < 2 ^ 63 → big_number 8 (drop 75 (listing_bytes l)) ≡ l.next_arrival
next_read l is count low = next_read_most l is count (omega arith)

pub root_read : (l : Listing) (i : ℕ) → is_spec l.spec ≡ true → All (λ page. page < 2 ^ 32) l.alternates
    → i < length l.alternates → big_number 4 (drop (47 + 4 * i) (listing_bytes l)) ≡ slice_index_or l.alternates i 0
root_read l i is low within =
    let pages : List ℕ = flat_map (big_bytes 4) l.alternates in
    let zeros : List ℕ = replicate (28 - length pages) 0 in
    let last : List ℕ = big_bytes 8 l.next_arrival in
    let there : drop (47 + 4 * i) (listing_bytes l) ≡ drop (4 * i) (pages_part l ++ last) =
    sym (drop-drop (4 * i) 47 (listing_bytes l)) ∙ ap (drop (4 * i)) (at_pages l is) in
    ap (big_number 4) (there ∙ ap (drop (4 * i)) (append_assoc pages zeros last))
    ∙ page_at l.alternates i (zeros ++ last) within low

pub long : (l : Listing) → is_spec l.spec ≡ true → length l.alternates ≡ length l.spec.alternates
    → length (listing_bytes l) ≡ 83
unfolding listing_bytes
long l is count =
    let front = spec_long l.spec (few_alternates l.spec is) in
    let middle = pages_count l is count in
    let one = length-append (spec_bytes l.spec) (behind l) in
    let three = length-append (pages_part l) (big_bytes 8 l.next_arrival) in
    omega (arith, one, three, front, middle)

pub spec_read : (l : Listing) → is_spec l.spec ≡ true → take 43 (listing_bytes l) ≡ spec_bytes l.spec
unfolding listing_bytes
spec_read l is = take_at (spec_bytes l.spec) (behind l) 43 (spec_long l.spec (few_alternates l.spec is))

pub reads_back : (l : Listing) → IsListing l → ReadsBack l
reads_back l is = record {
  long = long l is.spec is.count;
  spec = spec_read l is.spec;
  prime = prime_read l is.spec is.prime;
  alternates = λ i within. root_read l i is.spec is.alternates within;
  next_arrival = next_read l is.spec is.count is.next_arrival;
}
