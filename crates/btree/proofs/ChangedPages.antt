-- How many pages are changed_pages.
use Rattle.std.proofs.Common.{◌≡◌, ⊎_elim, ◌≤◌, ◌+◌, ℕ, List, [], ◌∷◌, length, length-append, sym, ap, subst, arith}
use Rattle.std.specs.Prelude.{Contains}
use Rattle.std.proofs.lemmas.List.Elements.{Contains-append_left, Contains-push}
use Rattle.pages.specs.Changes.{ChangesPage}

-- one page more at most
pub changes_count : (old : List ℕ) (page : ℕ) (new : List ℕ) → ChangesPage old page new → length new ≤ length old + 1
changes_count old page new changes_page = ⊎_elim (λ same. omega (arith, ap length same.1))
    (λ more. omega (arith, ap length more.1, length-append old (page ∷ []))) changes_page

-- and none where it was changed_pages before
pub changes_again : (old : List ℕ) (page : ℕ) (new : List ℕ) → Contains old page → ChangesPage old page new → new ≡ old
changes_again old page new has changes_page = ⊎_elim (λ same. same.1) (λ more. absurd (more.0 has)) changes_page

pub changes_has : (old : List ℕ) (page : ℕ) (new : List ℕ) → ChangesPage old page new → Contains new page
changes_has old page new changes_page =
    ⊎_elim (λ same. subst (λ list. Contains list page) (sym same.1) same.0)
    (λ more. subst (λ list. Contains list page) (sym more.1) (Contains-push old page)) changes_page

pub changes_keeps : (old : List ℕ) (page : ℕ) (new : List ℕ) (other : ℕ) → Contains old other → ChangesPage old page new
    → Contains new other
changes_keeps old page new other has changes_page =
    ⊎_elim (λ same. subst (λ list. Contains list other) (sym same.1) has) (λ more.
    subst (λ list. Contains list other) (sym more.1) (Contains-append_left old (page ∷ []) other has)) changes_page
