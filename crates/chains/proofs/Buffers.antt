-- Pages of a chain are read into memory, and the record is copied from there.
use Rattle.std.proofs.Common.{◌≡◌, ◌⊎◌, ⊎_elim, ◌<◌, ◌≤◌, ◌+◌, ◌-◌, ◌*◌, ℕ, List, [], ◌∷◌, ◌++◌, length, take, drop}
use Rattle.std.proofs.Common.{set, sym, ap, subst, ◌∙◌, arith, length-append, get_or}
use Rattle.std.specs.Prelude.{Option, Some}
use Rattle.std.specs.List.{flat_map}
use Rattle.std.proofs.Math.Seq.{take-append-add}
use Rattle.std.proofs.lemmas.Bool.{cases_lt}
use Rattle.std.proofs.lemmas.List.{append-nil, length-take-le, take_all, take-append-le, take-take, take_more}
use Rattle.std.proofs.lemmas.List.{take_more_set}
use Rattle.std.proofs.lemmas.List.Concat.{flat_map-append}
use Rattle.station.specs.Disk.{Sector}
use Rattle.btree_pages.specs.Bytes.{put_at}
use Rattle.chains.specs.Chain.{part_in, part_on, page_at, Stands, chain_bytes}
use Rattle.chains.specs.Links.{LinksTo}
use Rattle.chains.specs.Buffers.{parts_on, ReadsChain}
use Rattle.chains.proofs.Parts.{Follows, follows_bytes, follows_next}

-- the parts on one page more
parts_push : (read now : List Sector) (count : ℕ) (page : Sector) → take (count + 1) now ≡ take count read ++ page ∷ []
    → parts_on (count + 1) now ≡ parts_on count read ++ part_in page
parts_push read now count page is =
    ap (flat_map part_in) is ∙ flat_map-append part_in (take count read) (page ∷ [])
    ∙ ap (λ (l : List ℕ). parts_on count read ++ l) (append-nil (part_in page))

-- A call has read so many pages of a chain into memory, and has come to a page.
pub record HasRead (pages : List (Option Sector)) (read : List Sector) (count first page : ℕ) : Type 0 where
  pub follows : Follows pages count first page
  pub bytes : parts_on count read ≡ chain_bytes pages count first

pub read_more : (pages : List (Option Sector)) (read : List Sector) (count first page next : ℕ) (held : Sector)
    → count < length read → HasRead pages read count first page → LinksTo pages page next
    → page_at pages page ≡ Some held → HasRead pages (set read count held) (count + 1) first next
read_more pages read count first page next held low was links is = record {
  follows = follows_next pages count first page next was.follows links.some links.link links.next_is links.long;
  bytes = parts_push read (set read count held) count held (take_more_set read count held low)
      ∙ ap (λ (l : List ℕ). l ++ part_in held) was.bytes
      ∙ ap (λ (o : Option Sector). chain_bytes pages count first ++ part_on o) (sym is)
      ∙ sym (follows_bytes pages count first page was.follows);
}

-- each page of a chain was read
pub chain_read : (pages : List (Option Sector)) (read : List Sector) (place count first page : ℕ) → place ≡ count
    → page ≡ 0 → HasRead pages read place first page → ReadsChain pages count first read
chain_read pages read place count first page all ended has =
    let whole : place + 0 ≡ count = omega arith in
    record {
      stands = subst (λ (n : ℕ). Stands pages n first) whole (has.follows.on 0 ended);
      bytes_are = subst (λ (n : ℕ). parts_on n read ≡ chain_bytes pages n first) all has.bytes;
    }

-- lists with the same beginning
take_both : (front one two : List ℕ) (to : ℕ)
    → (length front ≤ to → take (to - length front) one ≡ take (to - length front) two)
    → take to (front ++ one) ≡ take to (front ++ two)
take_both front one two to same = ⊎_elim
    (λ low. take-append-le to front one (omega (arith, low)) ∙ sym (take-append-le to front two (omega (arith, low))))
    (λ high.
    let more : to ≡ length front + (to - length front) = omega (arith, high) in
    ap (λ (n : ℕ). take n (front ++ one)) more ∙ take-append-add front one (to - length front)
    ∙ ap (λ (l : List ℕ). front ++ l) (same high)
    ∙ sym (ap (λ (n : ℕ). take n (front ++ two)) more ∙ take-append-add front two (to - length front)))
    (cases_lt to (length front))

-- The bytes up to a place are those of the record.
abbrev pub IsWritten : List ℕ → ℕ → List ℕ → Type 0
IsWritten now place read = (to : ℕ) → to ≤ place → to ≤ length now → take to now ≡ take to read

-- one part more is written
written_more : (now new read part all : List ℕ) (place end size : ℕ) → length read ≡ place * 4080
    → length part ≡ 4080 → all ≡ read ++ part → place * 4080 < end → end ≤ place * 4080 + 4080 → end ≤ size
    → (end ≡ place * 4080 + 4080) ⊎ (end ≡ size) → length now ≡ size → length new ≡ length now
    → IsWritten now (place * 4080) read → new ≡ put_at (place * 4080) (take (end - place * 4080) part) now
    → IsWritten new ((place + 1) * 4080) all
written_more now new read part all place end size long whole more low high within last is_long same was is to near
    inside =
    let begin = place * 4080 in
    let copied = end - begin in
    let rest = drop (begin + length (take copied part)) now in
    let front : take begin now ≡ read =
    was begin (omega arith) (omega (arith, low, within, is_long)) ∙ take_all begin read (omega (arith, long)) in
    let before : to ≤ end =
    ⊎_elim (λ full. omega (arith, full, near)) (λ ends. omega (arith, ends, inside, is_long, same)) last in
    let copied_is = length-take-le copied part (omega (arith, high, whole)) in
    ap (take to) (is ∙ ap (λ (l : List ℕ). l ++ (take copied part ++ rest)) front)
    ∙ take_both read (take copied part ++ rest) part to
    (λ past. take-append-le (to - length read) (take copied part) rest (omega (arith, before, long, copied_is))
    ∙ take-take (to - length read) copied part (omega (arith, before, long)))
    ∙ ap (take to) (sym more)

-- The parts on so many pages are copied.
pub record HasCopied (now : List ℕ) (place : ℕ) (read : List Sector) : Type 0 where
  pub long : length (parts_on place read) ≡ place * 4080
  pub written : IsWritten now (place * 4080) (parts_on place read)

pub copied_more : (now new copied : List ℕ) (read : List Sector) (page : Sector) (place end size : ℕ)
    → place < length read → page ≡ get_or read place page → length (part_in page) ≡ 4080
    → place * 4080 < end → end ≤ place * 4080 + 4080 → end ≤ size → (end ≡ place * 4080 + 4080) ⊎ (end ≡ size)
    → length now ≡ size → length new ≡ length now → copied ≡ take (end - place * 4080) (part_in page)
    → new ≡ put_at (place * 4080) copied now → HasCopied now place read → HasCopied new (place + 1) read
copied_more now new copied read page place end size few page_is whole low high within last long same part_is is was =
    let part = part_in page in
    let more : parts_on (place + 1) read ≡ parts_on place read ++ part =
    parts_push read read place page
    (take_more read place page few ∙ ap (λ (p : Sector). take place read ++ p ∷ []) (sym page_is)) in
    record {
      long = omega (arith, ap length more, length-append (parts_on place read) part, was.long, whole);
      written = written_more now new (parts_on place read) part (parts_on (place + 1) read) place end size was.long
          whole more low high within last long same was.written
          (is ∙ ap (λ (l : List ℕ). put_at (place * 4080) l now) part_is);
    }
