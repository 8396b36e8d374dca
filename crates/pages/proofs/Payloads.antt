-- The numbers of a payload, and the root sector that has it.
use Rattle.std.proofs.Common.{◌≡◌, ◌<◌, ◌≤◌, ◌-◌, ◌%◌, ◌*◌, ◌^◌, ◌==◌, ◌&&◌, false, ℕ, zero, suc, List, [], ◌∷◌, ◌++◌}
use Rattle.std.proofs.Common.{length}
use Rattle.std.proofs.Common.{drop, replicate, refl, sym, ◌∙◌, ap, arith}
use Rattle.std.specs.Prelude.{Some, nat_lt, nat_le}
use Rattle.std.specs.List.{All}
use Rattle.std.proofs.lemmas.Grind.{flat_map-append}
use Rattle.std.proofs.lemmas.List.Elements.{All-replicate, All-cons, All-append}
use Rattle.std.proofs.lemmas.List.{take_at, drop_at, drop-drop, drop-replicate}
use Rattle.std.proofs.lemmas.Bool.{and_from, lt-ltb, le-leb, eq-eqb}
use Rattle.station.specs.Disk.{Sector}
use Rattle.roots.specs.declared.root.Mark.{Mark}
use Rattle.roots.specs.declared.root.Root.{Root}
use Rattle.roots.specs.Root.{own_mark, mark_in, is_blank, put_at, root_bytes}
use Rattle.roots.proofs.Spelled.{reads_back}
use Rattle.byteorder.specs.Endian.{big_bytes}
use Rattle.pages.specs.Layout.{words, number_bytes, map_count, version_of, known_families}
use Rattle.pages.specs.declared.volume_mark.VolumeMark.{VolumeMark}
use Rattle.pages.specs.declared.volume_mark.VolumeMark.TheVariants.{First, Second}
use Rattle.pages.specs.Payload.{payload_words, own_bytes, SpellsRoot}
use Rattle.pages.proofs.Roots.{spelled_payload}
use Rattle.pages.proofs.Words.{words-spelled}

spelled_count : (numbers : List ℕ) → length (number_bytes numbers) ≡ 4 * length numbers
spelled_count [] = refl
spelled_count (n ∷ numbers) = omega (arith, spelled_count numbers)

spelled_zeros : (n : ℕ) → number_bytes (replicate n 0) ≡ replicate (4 * n) 0
spelled_zeros zero = refl
spelled_zeros (suc n) =
    let four : 4 * suc n ≡ suc (suc (suc (suc (4 * n)))) = omega arith in
    ap (λ (l : List ℕ). 0 ∷ 0 ∷ 0 ∷ 0 ∷ l) (spelled_zeros n) ∙ ap (λ (m : ℕ). replicate m 0) (sym four)

-- bytes put after a front
behind : (n : ℕ) (p part rest : List ℕ) → length p ≡ n
    → put_at n part (p ++ rest) ≡ p ++ part ++ drop (length part) rest
behind n p part rest at =
    rw (take_at p rest n at) (ap (λ (l : List ℕ). p ++ part ++ l) (sym (drop-drop (length part) n (p ++ rest))
    ∙ ap (drop (length part)) (drop_at p rest n at)))

pub filled : (catalog count : ℕ) (maps blank first last : List ℕ) → count ≡ length maps → length maps ≤ 900
    → catalog < 2 ^ 32 → All (λ n. n < 2 ^ 32) maps
    → blank ≡ replicate 4096 0 → first ≡ put_at 20 (number_bytes (catalog ∷ count ∷ [])) blank
    → last ≡ put_at 28 (number_bytes maps) first → words (drop 20 last) ≡ payload_words catalog maps
filled catalog count maps blank first last same few low lows is_blank is_first is_last =
    let front : List ℕ = replicate 20 0 in
    let head : List ℕ = number_bytes (catalog ∷ count ∷ []) in
    let zeros_left : List ℕ = number_bytes (replicate (1017 - length maps) 0) in
    let rest : drop (length (number_bytes maps)) (replicate 4068 0) ≡ zeros_left
    = drop-replicate (length (number_bytes maps)) 4068 0
    ∙ ap (λ (n : ℕ). replicate n 0) {y = 4 * (1017 - length maps)} (omega (arith, spelled_count maps, few))
    ∙ sym (spelled_zeros (1017 - length maps)) in
    let parted : replicate 4096 0 ≡ front ++ replicate 4076 0 = refl in
    let one : first ≡ front ++ head ++ replicate 4068 0
    = is_first ∙ ap (put_at 20 head) (is_blank ∙ parted) ∙ behind 20 front head (replicate 4076 0) refl
    ∙ ap (λ (l : List ℕ). front ++ head ++ l) (drop-replicate 8 4076 0) in
    let two : last ≡ front ++ head ++ number_bytes maps ++ zeros_left
    = is_last ∙ ap (put_at 28 (number_bytes maps)) one ∙ behind 28 (front ++ head) (number_bytes maps)
    (replicate 4068 0) refl ∙ ap (λ (l : List ℕ). front ++ head ++ number_bytes maps ++ l) rest in
    let whole : drop 20 last ≡ number_bytes (payload_words catalog maps)
    = ap (drop 20) two ∙ ap (λ (l : List ℕ). number_bytes (catalog ∷ count ∷ []) ++ l)
    (sym (flat_map-append (big_bytes 4) maps (replicate (1017 - length maps) 0)))
    ∙ ap (λ (n : ℕ). number_bytes (catalog ∷ n ∷ maps ++ replicate (1017 - length maps) 0)) same in
    ap words whole ∙ words-spelled (payload_words catalog maps)
    (All-cons (λ (n : ℕ). n < 2 ^ 32) catalog (length maps ∷ maps ++ replicate (1017 - length maps) 0) low
    (All-cons (λ (n : ℕ). n < 2 ^ 32) (length maps) (maps ++ replicate (1017 - length maps) 0) (omega (arith, few))
    (All-append (λ (n : ℕ). n < 2 ^ 32) maps (replicate (1017 - length maps) 0) lows
    (All-replicate (λ (n : ℕ). n < 2 ^ 32) (1017 - length maps) 0 (omega arith)))))

pub version_low : (mark : VolumeMark) → version_of mark < 2
version_low First = omega arith
version_low Second = omega arith

-- the bytes of a root begin with its mark
begins : (version : ℕ) (root : Root) → version < 2
    → mark_in known_families (root_bytes (own_bytes version) root) ≡ Some (own_mark version)
begins zero root low = refl
begins (suc zero) root low = refl
begins (suc (suc n)) root low = absurd (omega (arith, low))

not_blank : (version : ℕ) (root : Root) → is_blank (root_bytes (own_bytes version) root) ≡ false
not_blank zero root = refl
not_blank (suc n) root = refl

eight : (version : ℕ) → length (own_bytes version) ≡ 8
eight zero = refl
eight (suc n) = refl

pub spells : (root : Root) (version catalog : ℕ) (maps payload : List ℕ) (bytes : Sector)
    → root.mark ≡ own_mark version → version < 2
    → root.payload ≡ payload → words payload ≡ payload_words catalog maps
    → root.generation < 2 ^ 63 → 1024 ≤ root.sectors → root.sectors ≤ 921600 → length maps ≡ map_count root.sectors
    → bytes ≡ root_bytes (own_bytes version) root
    → SpellsRoot (record {
      mark = version;
      generation = root.generation;
      sectors = root.sectors;
      catalog = catalog;
      maps = maps;
    }) bytes
spells root version catalog maps payload bytes own low has reads generation least most count spelled = record {
  root = root;
  mark = own;
  generation = refl;
  sectors = refl;
  reads = spelled_payload root catalog (1017 - length maps) maps (ap words has ∙ reads) count
      ∙ ap (λ (m : Mark). Some (record {
        mark = m.version;
        generation = root.generation;
        sectors = root.sectors;
        catalog = catalog;
        maps = maps;
      })) own;
  valid = λ n there. rw spelled (reads_back known_families n (root.generation % 2) (own_bytes version) root
      (eight version) (not_blank version root) (begins version root low ∙ ap Some (sym own))
      (and_from (nat_lt root.generation (2 ^ 63) && (root.generation % 2 == root.generation % 2)
      && nat_le 1024 root.sectors && nat_le root.sectors 921600) (nat_le root.sectors n)
      (and_from (nat_lt root.generation (2 ^ 63) && (root.generation % 2 == root.generation % 2)
      && nat_le 1024 root.sectors) (nat_le root.sectors 921600)
      (and_from (nat_lt root.generation (2 ^ 63) && (root.generation % 2 == root.generation % 2))
      (nat_le 1024 root.sectors)
      (and_from (nat_lt root.generation (2 ^ 63)) (root.generation % 2 == root.generation % 2)
      (lt-ltb root.generation (2 ^ 63) generation) (eq-eqb (root.generation % 2) (root.generation % 2) refl))
      (le-leb 1024 root.sectors least)) (le-leb root.sectors 921600 most)) (le-leb root.sectors n there)));
}
