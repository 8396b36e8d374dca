-- The bytes of a root sector, written and read again.
use Rattle.std.proofs.Common.{◌≡◌, ◌<◌, ◌≤◌, ◌+◌, ◌^◌, ◌%◌, true, false, ℕ, List, [], ◌++◌, length, drop, refl, sym}
use Rattle.std.proofs.Common.{◌∙◌, ap, append_assoc, arith, length-drop, length-append}
use Rattle.std.specs.Prelude.{Some}
use Rattle.std.proofs.lemmas.List.{take_at, drop_at, drop-drop, drop_all, append-nil}
use Rattle.std.proofs.lemmas.Bool.{cond-true, cond-false, and_parts, ltb-true, leb-true, eqb-true}
use Rattle.byteorder.specs.Endian.{big_number, big_bytes}
use Rattle.byteorder.specs.Numbers.{length-bytes_high_first, big_number-reads_back}
use Rattle.roots.specs.declared.root.Root.{Root}
use Rattle.roots.specs.declared.root.RootSector.TheVariants.{Blank, Broken, Valid}
use Rattle.roots.specs.Root.{Family, mark_in, root_with, is_valid, valid_at, root_with_mark, is_blank, root_in}
use Rattle.roots.specs.Root.{root_bytes}
use Rattle.roots.specs.Root.{put_at}

-- bytes put after a front
front : (n : ℕ) (p part rest : List ℕ) → length p ≡ n → put_at n part (p ++ rest) ≡ p ++ part ++ drop (length part) rest
front n p part rest at =
    rw (take_at p rest n at) (ap (λ (l : List ℕ). p ++ part ++ l) (sym (drop-drop (length part) n (p ++ rest))
    ∙ ap (drop (length part)) (drop_at p rest n at)))

-- what stands in front of the payload
pub head_put : (bytes mark generation sectors one two three : List ℕ) → length mark ≡ 8 → length generation ≡ 8
    → length sectors ≡ 4
    → one ≡ put_at 0 mark bytes → two ≡ put_at 8 generation one → three ≡ put_at 16 sectors two
    → three ≡ mark ++ generation ++ sectors ++ drop 20 bytes
head_put bytes mark generation sectors one two three m g s is_one is_two is_three =
    let r1 = drop (length mark) bytes in
    let r2 = drop (length generation) r1 in
    let e1 : one ≡ mark ++ r1 = is_one ∙ front 0 [] mark bytes refl in
    let e2 : two ≡ mark ++ generation ++ r2 = is_two ∙ ap (put_at 8 generation) e1 ∙ front 8 mark generation r1 m in
    let e3 : three ≡ mark ++ generation ++ sectors ++ drop (length sectors) r2 = is_three ∙ ap (put_at 16 sectors) e2
    ∙ front 16 (mark ++ generation) sectors r2 (omega (arith, length-append mark generation, m, g)) in
    e3 ∙ ap (λ (l : List ℕ). mark ++ generation ++ sectors ++ l)
    (drop-drop (length sectors) (length generation) r1 ∙ drop-drop (length generation + length sectors) (length mark)
    bytes ∙ ap (λ (n : ℕ). drop n bytes) {y = 20} (omega (arith, m, g, s)))

-- a payload after it
pub all_put : (zeros mark generation sectors payload three four : List ℕ)
    → length zeros ≡ 4096 → length mark ≡ 8 → length generation ≡ 8 → length sectors ≡ 4 → length payload ≡ 4076
    → three ≡ mark ++ generation ++ sectors ++ drop 20 zeros → four ≡ put_at 20 payload three
    → four ≡ mark ++ generation ++ sectors ++ payload
all_put zeros mark generation sectors payload three four all m g s p is_three is_four =
    let rest = drop 20 zeros in
    let e4 : four ≡ mark ++ generation ++ sectors ++ payload ++ drop (length payload) rest
    = is_four ∙ ap (put_at 20 payload) is_three ∙ front 20 (mark ++ generation ++ sectors) payload rest
    (omega (arith, length-append mark generation, length-append (mark ++ generation) sectors, m, g, s)) in
    let none : drop (length payload) rest ≡ [] =
    drop_all (length payload) rest (omega (arith, p, all, length-drop 20 zeros)) in
    e4 ∙ ap (λ (l : List ℕ). mark ++ generation ++ sectors ++ payload ++ l) none
    ∙ append-nil (mark ++ generation ++ sectors ++ payload)

-- a root is valid
pub record Validity (count number : ℕ) (root : Root) : Type 0 where
  pub generation : root.generation < 2 ^ 63
  pub parity : root.generation % 2 ≡ number
  pub least : 1024 ≤ root.sectors
  pub most : root.sectors ≤ 921600
  pub there : root.sectors ≤ count

pub validity : (count number : ℕ) (root : Root) → is_valid count number root ≡ true → Validity count number root
validity count number root holds =
    let p1 = and_parts _ _ holds in
    let p2 = and_parts _ _ p1.0 in
    let p3 = and_parts _ _ p2.0 in
    let p4 = and_parts _ _ p3.0 in
    record {
      generation = ltb-true root.generation (2 ^ 63) p4.0;
      parity = eqb-true (root.generation % 2) number p4.1;
      least = leb-true 1024 root.sectors p3.1;
      most = leb-true root.sectors 921600 p2.1;
      there = leb-true root.sectors count p1.1;
    }

module _ (mark : List ℕ) (root : Root) (eight : length mark ≡ 8) where
  abbrev generation : List ℕ
  generation = big_bytes 8 root.generation

  abbrev sectors : List ℕ
  sectors = big_bytes 4 root.sectors

  abbrev all : List ℕ
  all = mark ++ generation ++ sectors ++ root.payload

  split : all ≡ mark ++ (generation ++ (sectors ++ root.payload))
  split =
      append_assoc (mark ++ generation) sectors root.payload ∙ append_assoc mark generation (sectors ++ root.payload)

  reads_generation : root.generation < 2 ^ 64 → big_number 8 (drop 8 all) ≡ root.generation
  reads_generation bound =
      ap (λ (l : List ℕ). big_number 8 (drop 8 l)) split
      ∙ ap (big_number 8) (drop_at mark (generation ++ (sectors ++ root.payload)) 8 eight)
      ∙ big_number-reads_back 8 root.generation (sectors ++ root.payload) bound

  reads_sectors : root.sectors < 2 ^ 32 → big_number 4 (drop 16 all) ≡ root.sectors
  reads_sectors bound =
      ap (λ (l : List ℕ). big_number 4 (drop 16 l)) (append_assoc (mark ++ generation) sectors root.payload)
      ∙ ap (big_number 4) (drop_at (mark ++ generation) (sectors ++ root.payload) 16
      (omega (arith, length-append mark generation, eight, length-bytes_high_first 8 root.generation)))
      ∙ big_number-reads_back 4 root.sectors root.payload bound

  reads_payload : drop 20 all ≡ root.payload
  reads_payload = drop_at (mark ++ generation ++ sectors) root.payload 20
      (omega (
        arith,
        length-append mark generation,
        length-append (mark ++ generation) sectors,
        eight,
        length-bytes_high_first 8 root.generation,
        length-bytes_high_first 4 root.sectors,
      ))

  reads_root : root.generation < 2 ^ 64 → root.sectors < 2 ^ 32 → root_with all root.mark ≡ root
  reads_root low few = rw (reads_generation low) (rw (reads_sectors few) (rw reads_payload refl))

-- what is written is read again
pub reads_back : (known : List Family) (count number : ℕ) (mark : List ℕ) (root : Root) → length mark ≡ 8
    → is_blank (root_bytes mark root) ≡ false → mark_in known (root_bytes mark root) ≡ Some root.mark
    → is_valid count number root ≡ true
    → root_in known count number (root_bytes mark root) ≡ Valid root
reads_back known count number mark root eight some at valid =
    let facts = validity count number root valid in
    cond-false (is_blank (root_bytes mark root)) Blank
    (root_with_mark count number (root_bytes mark root) (mark_in known (root_bytes mark root))) some
    ∙ ap (root_with_mark count number (root_bytes mark root)) at
    ∙ ap (valid_at count number)
    (reads_root mark root eight (omega (arith, facts.generation)) (omega (arith, facts.most)))
    ∙ cond-true (is_valid count number root) (Valid root) Broken valid
