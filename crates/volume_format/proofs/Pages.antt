-- The pages of a tree and of its chains are pages of the map.
use Rattle.std.proofs.Common.{◌<◌, ⊎_elim, inl, inr, ℕ, List, [], ◌∷◌, length, subst}
use Rattle.std.specs.Prelude.{Contains, Option, None}
use Rattle.std.specs.List.{All}
use Rattle.std.proofs.lemmas.Bool.{cases_lt}
use Rattle.std.proofs.lemmas.List.{get_or_past}
use Rattle.std.proofs.lemmas.List.Elements.{All-head, All-tail, All-contains, All-contains_itself}
use Rattle.std.proofs.lemmas.List.Elements.{All-weaker, Contains-append_cases}
use Rattle.station.specs.Disk.{Sector}
use Rattle.btree_pages.specs.declared.row_layout.RowLayout.{RowLayout}
use Rattle.btree.specs.Tree.{TreeNode, IsTreeOrEmpty, pages_of}
use Rattle.btree.specs.Entries.{Entry}
use Rattle.btree.proofs.Runs.{in_none}
use Rattle.chains.specs.Chain.{IsLink, page_at}
use Rattle.chains.specs.Rows.{RowForm, HasChain, chain_of, chains_of}
use Rattle.chains.proofs.Following.{chain_there, link_there}
use Rattle.volume_format.specs.Chained.{form_of}
use Rattle.volume_format.specs.Forest.{TreeLevels, IsTreeIn, stored_entries, pages_under}

-- a page number from 1 on that a map has
abbrev pub IsPage : List (Option Sector) → ℕ → Type 0
IsPage pages page = (0 < page) × (page < length pages)

link_within : (pages : List (Option Sector)) (page : ℕ) → IsLink (page_at pages page) → page < length pages
link_within pages page link =
    ⊎_elim (λ low. low) (λ high. absurd (link_there (page_at pages page) link (get_or_past pages page None high)))
    (cases_lt page (length pages))

chains_within : (form : RowForm) (pages : List (Option Sector)) (entries : List Entry) (page : ℕ)
    → All (HasChain form pages) entries → Contains (chains_of form pages entries) page → IsPage pages page
chains_within form pages [] page stand has = absurd (in_none page has)
chains_within form pages (entry ∷ more) page stand has =
    ⊎_elim
    (λ own.
    let there = chain_there pages form.count (form.first entry) page (All-head (HasChain form pages) entry more stand)
    own in
    (there.0, link_within pages page there.1))
    (λ later. chains_within form pages more page (All-tail (HasChain form pages) entry more stand) later)
    (Contains-append_cases (chain_of form pages entry) (chains_of form pages more) page has)

stands_within : (layout : RowLayout) (pages : List (Option Sector)) (root : ℕ) (levels : List (List TreeNode))
    (page : ℕ) → IsTreeOrEmpty layout pages root levels → Contains (pages_of levels) page → IsPage pages page
stands_within layout pages root levels page (inl none) has =
    absurd (in_none page (subst (λ (l : List (List TreeNode)). Contains (pages_of l) page) none.1 has))
stands_within layout pages root levels page (inr tree) has =
    All-contains (IsPage pages) (pages_of levels) page tree.1.numbers has

planted_within : (pages : List (Option Sector)) (planted : TreeLevels) → IsTreeIn pages planted → (page : ℕ)
    → Contains (pages_under planted) page → IsPage pages page
planted_within pages planted grows page has =
    ⊎_elim
    (λ chained. chains_within (form_of planted.record_bytes) pages (stored_entries planted) page grows.chained.stand
    (subst (λ (l : List ℕ). Contains l page) grows.chains_are chained))
    (λ own. stands_within planted.tree.layout pages planted.tree.root planted.levels page grows.stands own)
    (Contains-append_cases planted.chains (pages_of planted.levels) page has)

pub pages_within_map : (pages : List (Option Sector)) (planted : TreeLevels) → IsTreeIn pages planted
    → All (IsPage pages) (pages_under planted)
pages_within_map pages planted grows =
    All-weaker (Contains (pages_under planted)) (IsPage pages) (planted_within pages planted grows)
    (pages_under planted) (All-contains_itself (pages_under planted))
