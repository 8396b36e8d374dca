-- Lines of a text, one more or all of them.
use Rattle.std.proofs.Common.{◌≡◌, ℕ, ◌+◌, ◌<◌, ◌≤◌, List, ◌++◌, length, get_or, take, drop, map, sym, ap, ◌∙◌}
use Rattle.std.proofs.Common.{take-append-drop}
use Rattle.std.proofs.lemmas.List.{take_all, drop_more}
use Rattle.std.proofs.lemmas.List.Concat.{flat_map-append}
use Rattle.std.proofs.lemmas.List.Folds.{flat_map-map}
use Rattle.std.specs.List.{flat_map}

module _ {X Y : Type 0} (of : X → Y) (line : Y → List ℕ) where
  abbrev lines : List X → List ℕ
  lines xs = flat_map (λ (x : X). line (of x)) xs

  -- all lines were written
  pub lines_all : (xs : List X) (i : ℕ) → length xs ≤ i → lines (take i xs) ≡ flat_map line (map of xs)
  lines_all xs i all = ap lines (take_all i xs all) ∙ sym (flat_map-map line of xs)

  pub lines_parts : (xs : List X) (i : ℕ) → flat_map line (map of xs) ≡ lines (take i xs) ++ lines (drop i xs)
  lines_parts xs i =
      flat_map-map line of xs
      ∙ ap lines (sym (take-append-drop i xs))
      ∙ flat_map-append (λ (x : X). line (of x)) (take i xs) (drop i xs)

  -- the lines before, the one here, and the rest
  pub lines_split : (xs : List X) (i : ℕ) (x : X) → i < length xs → x ≡ get_or xs i x
      → flat_map line (map of xs) ≡ lines (take i xs) ++ (line (of x) ++ lines (drop (i + 1) xs))
  lines_split xs i x here is =
      lines_parts xs i
      ∙ ap (λ (l : List X). lines (take i xs) ++ lines l) (drop_more xs i x here)
      ∙ ap (λ (y : X). lines (take i xs) ++ (line (of y) ++ lines (drop (i + 1) xs))) (sym is)
