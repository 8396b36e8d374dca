-- Qualification, name by name.
use Rattle.std.proofs.Common.{◌≡◌, ℕ, suc, ◌≤◌, ◌==◌, Bool, false, List, [], ◌∷◌, length, drop, sym, ap, ◌∙◌, arith}
use Rattle.std.specs.Borrow.{Bor}
use Rattle.std.proofs.lemmas.List.{drop_all}
use Rattle.source_tree.specs.declared.name.Name.{Name}
use Rattle.source_tree.specs.Names.{is_within}
use Rattle.name_table.specs.Table.{names_of}

not_empty : (n : ℕ) → (suc n == 0) ≡ false
not_empty n = grind arith

pub within_end : (qualifiers rest : List Name) (around : List (Bor Name)) (i : ℕ) (r : Bool)
    → is_within qualifiers (names_of around) ≡ is_within rest (names_of (drop i around)) → length around ≤ i
    → r ≡ (length rest == 0) → r ≡ is_within qualifiers (names_of around)
within_end qualifiers [] around i r e h is = is ∙ sym e
within_end qualifiers (one ∷ more) around i r e h is =
    is ∙ not_empty (length more) ∙ sym (e ∙ ap (λ l. is_within (one ∷ more) (names_of l)) (drop_all i around h))
