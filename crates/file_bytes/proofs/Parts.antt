-- Parts of records.
use Rattle.std.proofs.Common.{◌≡◌, ◌≤◌, ℕ, List, [], length, take, drop, sym, ◌∙◌, ap, arith}
use Rattle.std.proofs.lemmas.List.{take_all, drop_all}

pub part_past : (from n : ℕ) (xs : List ℕ) → length xs ≤ from → [] ≡ take n (drop from xs)
part_past from n xs le = sym (ap (take n) (drop_all from xs le) ∙ take_all n [] (omega arith))

pub part_cut : (from n : ℕ) (xs : List ℕ) → length (drop from xs) ≤ n → drop from xs ≡ take n (drop from xs)
part_cut from n xs le = sym (take_all n (drop from xs) le)
