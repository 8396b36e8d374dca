-- The bytes of a page of a chain, and how a record is cut into them.
use Rattle.std.proofs.Common.{◌≡◌, ⊎_elim, ◌<◌, ◌≤◌, ◌+◌, ◌-◌, ◌*◌, ◌^◌, ℕ, suc, List, []}
use Rattle.std.proofs.Common.{◌++◌, length, take, drop, set}
use Rattle.std.proofs.Common.{replicate, refl, sym, ap, ◌∙◌, arith, length-append, append_assoc}
use Rattle.std.proofs.lemmas.List.{append-nil, take-replicate, drop-replicate}
use Rattle.byteorder.specs.Endian.{big_bytes}
use Rattle.byteorder.specs.Numbers.{big_number-reads_back}
use Rattle.btree_pages.specs.Bytes.{put_at}
use Rattle.chains.specs.Chain.{next_in, part_in, link_bytes, pages_for, with_zeros}
use Rattle.chains.specs.Links.{IsCut}

-- a part of a record and the zeros after it
abbrev pub filled : List ℕ → List ℕ
filled part = part ++ replicate (4080 - length part) 0

-- what a written page is
pub link_next : (next : ℕ) (part : List ℕ) → next < 2 ^ 32 → next_in (link_bytes next part) ≡ next
link_next next part small = big_number-reads_back 4 next (replicate 8 0 ++ filled part) small

pub link_part : (next : ℕ) (part : List ℕ) → part_in (link_bytes next part) ≡ filled part
link_part next part = refl

-- how it is written
part_spelled : (n : ℕ) (part : List ℕ) → n ≡ 4096 → length part ≤ 4080
    → put_at 16 part (replicate n 0) ≡ replicate 16 0 ++ filled part
part_spelled n part is few =
    let left : n - (16 + length part) ≡ 4080 - length part = omega (arith, is, few) in
    let front : take 16 (replicate n 0) ≡ replicate 16 0 = take-replicate 16 n 0 (omega arith) in
    let back : drop (16 + length part) (replicate n 0) ≡ replicate (4080 - length part) 0 =
    drop-replicate (16 + length part) n 0 ∙ ap (λ (k : ℕ). replicate k 0) left in
    ap (λ (l : List ℕ). l ++ (part ++ drop (16 + length part) (replicate n 0))) front
    ∙ ap (λ (l : List ℕ). replicate 16 0 ++ (part ++ l)) back

pub link_spelled : (next : ℕ) (part four one two : List ℕ) → length part ≤ 4080
    → one ≡ put_at 16 part (replicate 4096 0) → four ≡ big_bytes 4 next → two ≡ put_at 4 four one
    → set two 0 3 ≡ link_bytes next part
link_spelled next part four one two few first bytes second =
    ap (λ (l : List ℕ). set l 0 3) (second ∙ ap (λ (l : List ℕ). put_at 4 l one) bytes
    ∙ ap (put_at 4 (big_bytes 4 next)) (first ∙ part_spelled 4096 part refl few))

-- how many pages a record needs
pub one_more : (bytes part rest : List ℕ) → IsCut bytes part rest
    → pages_for (length bytes) ≡ suc (pages_for (length rest))
one_more bytes part rest cut =
    let whole : length bytes ≡ length part + length rest = ap length cut.is ∙ length-append part rest in
    let some = cut.some in
    let few = cut.few in
    ⊎_elim (λ long. omega arith) (λ none. let zero_left = ap length none in omega arith) cut.last

-- what its pages hold
zeros_long : (bytes part rest : List ℕ) → IsCut bytes part rest → length part ≡ 4080
    → filled part ++ with_zeros rest ≡ with_zeros bytes
zeros_long bytes part rest cut long =
    let whole : length bytes ≡ length part + length rest = ap length cut.is ∙ length-append part rest in
    let more = one_more bytes part rest cut in
    let none : 4080 - length part ≡ 0 = omega arith in
    let pads : pages_for (length rest) * 4080 - length rest ≡ pages_for (length bytes) * 4080 - length bytes =
    omega arith in
    ap (λ (n : ℕ). (part ++ replicate n 0) ++ with_zeros rest) none
    ∙ ap (λ (l : List ℕ). l ++ with_zeros rest) (append-nil part)
    ∙ ap (λ (n : ℕ). part ++ (rest ++ replicate n 0)) pads
    ∙ sym (append_assoc part rest (replicate (pages_for (length bytes) * 4080 - length bytes) 0))
    ∙ ap (λ (l : List ℕ). l ++ replicate (pages_for (length bytes) * 4080 - length bytes) 0) (sym cut.is)

zeros_short : (bytes part rest : List ℕ) → IsCut bytes part rest → rest ≡ []
    → filled part ++ with_zeros rest ≡ with_zeros bytes
zeros_short bytes part rest cut none =
    let alone : bytes ≡ part = cut.is ∙ ap (λ (l : List ℕ). part ++ l) none ∙ append-nil part in
    let count = ap length alone in
    let some = cut.some in
    let few = cut.few in
    let pads : 4080 - length part ≡ pages_for (length bytes) * 4080 - length bytes = omega arith in
    ap (λ (l : List ℕ). filled part ++ with_zeros l) none
    ∙ append-nil (filled part)
    ∙ ap (λ (n : ℕ). part ++ replicate n 0) pads
    ∙ ap (λ (l : List ℕ). l ++ replicate (pages_for (length bytes) * 4080 - length bytes) 0) (sym alone)

pub zeros_front : (bytes part rest : List ℕ) → IsCut bytes part rest
    → filled part ++ with_zeros rest ≡ with_zeros bytes
zeros_front bytes part rest cut =
    ⊎_elim (λ long. zeros_long bytes part rest cut long) (λ none. zeros_short bytes part rest cut none) cut.last
