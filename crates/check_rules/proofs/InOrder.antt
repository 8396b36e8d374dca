-- Rules that are looked at one after another, of each element of a list.
use Rattle.std.proofs.Common.{◌≡◌, ℕ, ◌<◌, ◌≤◌, ◌+◌, List, [], ◌++◌, Some, length, drop, get_or, sym, ap, ◌∙◌}
use Rattle.std.proofs.Common.{add-one, drop-cons}
use Rattle.std.proofs.lemmas.List.{drop_all}
use Rattle.source_tree.specs.Broken.{RuleBreach, each}
use Rattle.source_tree.specs.LookUp.{first}
use Rattle.declarations.proofs.Firsts.{front_none, first_front}

module _ {A : Type 0} (rules : A → List RuleBreach) (all : List A) (i : ℕ)
    (so_far : each rules all ≡ each rules (drop i all)) where
  next_is : (one : A) → i < length all → each rules all ≡ rules (get_or all i one) ++ each rules (drop (i + 1) all)
  next_is one lt = so_far ∙ ap (each rules) (drop-cons all i one lt)
      ∙ ap (λ k. rules (get_or all i one) ++ each rules (drop k all)) (sym (add-one i))

  -- the element at that place keeps them
  pub kept_next : (one : A) → i < length all → one ≡ get_or all i one → rules one ≡ []
      → each rules all ≡ each rules (drop (i + 1) all)
  kept_next one lt is none = next_is one lt
      ∙ front_none (rules (get_or all i one)) (each rules (drop (i + 1) all)) (ap rules (sym is) ∙ none)

  -- it breaks one
  pub broken_here : (one : A) (broken : RuleBreach) → i < length all → one ≡ get_or all i one
      → first (rules one) ≡ Some broken → first (each rules all) ≡ Some broken
  broken_here one broken lt is h = ap first (next_is one lt)
      ∙ first_front (rules (get_or all i one)) (each rules (drop (i + 1) all)) broken
      (ap (λ (a : A). first (rules a)) (sym is) ∙ h)

  -- there is none left
  pub kept_all : length all ≤ i → each rules all ≡ []
  kept_all past = so_far ∙ ap (each rules) (drop_all i all past)
