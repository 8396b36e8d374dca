use Rattle.std.proofs.Common.{◌≡◌, ◌+◌, ℕ, List, length, take, drop, take_all, length-drop, refl, ◌∙◌, ap, arith}
use Rattle.byteorder.specs.Endian.{big_number}
use Rattle.roots.proofs.root.marked_root.Goals as goal

tail : (i n : ℕ) (xs : List ℕ) → length xs ≡ i + n → take n (drop i xs) ≡ drop i xs
tail i n xs all = take_all n (drop i xs) (omega (arith, all, length-drop i xs))

pub returns : goal.returns
returns c =
    let bytes = c.args.bytes.now in
    let generation : c.read_u64.result ≡ big_number 8 (drop 8 bytes) =
    c.read_u64.ensures ∙ ap (λ (l : List ℕ). big_number 8 l) (tail 8 4088 bytes c.told-bytes) in
    let sectors : c.read_u32.result ≡ big_number 4 (drop 16 bytes) =
    c.read_u32.ensures ∙ ap (λ (l : List ℕ). big_number 4 l) (tail 16 4080 bytes c.told-bytes) in
    let payload : c.copy_from_slice.new.self ≡ drop 20 bytes =
    c.copy_from_slice.ensures.after ∙ tail 20 4076 bytes c.told-bytes in
    rw generation (rw sectors (rw payload refl))
