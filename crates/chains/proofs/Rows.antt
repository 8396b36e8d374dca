-- A tree whose entries have chains: an entry comes, leaves, or gets another record.
use Rattle.std.proofs.Common.{◌≡◌, ◌⊎◌, inl, inr, ⊎_elim, ℕ, List, [], ◌∷◌, ◌++◌, map, refl, sym, ap, subst}
use Rattle.std.proofs.Common.{◌∙◌, append_assoc}
use Rattle.std.specs.Prelude.{Contains, Option, Some, None}
use Rattle.std.specs.List.{All, flat_map}
use Rattle.std.proofs.lemmas.List.{map-append}
use Rattle.std.proofs.lemmas.List.Elements.{All-nil, All-cons, All-head, All-tail, All-append, Contains-append_left}
use Rattle.std.proofs.lemmas.List.Elements.{Contains-append_right, Contains-append_cases}
use Rattle.station.specs.Disk.{Sector}
use Rattle.btree.specs.Entries.{Entry, entry_with, with_new_entry, with_value, without_entry}
use Rattle.btree.specs.Laws.{Apart}
use Rattle.btree.specs.Moves.{Moves, Once}
use Rattle.btree.specs.Tree.{TreeNode, IsTreeOrEmpty, pages_of}
use Rattle.btree.proofs.Stays.{pages_once, holds_there}
use Rattle.btree.proofs.Order.{all_left, all_right}
use Rattle.btree.proofs.Runs.{in_none, once_left, once_right, once_apart, once_append}
use Rattle.chains.specs.Chain.{page_at, chain_bytes}
use Rattle.chains.specs.Rows.{RowForm, unrolled_entry, chain_of, chains_of, HasChain, AreThere, HasRows, RowsMove}
use Rattle.chains.specs.Rows.{IsTreeMove}
use Rattle.chains.specs.Rows.{KeepsRows}
use Rattle.btree_pages.specs.declared.row_layout.RowLayout.{RowLayout}
use Rattle.chains.proofs.Following.{chain_once, never_none}
use Rattle.chains.proofs.Staying.{Same, stands_still, pages_still, bytes_still, chain_stays}
use Rattle.chains.proofs.Entries.{KeepsKeys, new_place, held_place}

-- Some entries with their chains: the pages of these, and the entries as they are seen.
pub record Held (form : RowForm) (pages : List (Option Sector)) (entries : List Entry) (numbers : List ℕ)
    (seen : List Entry) : Type 0 where
  pub stand : All (HasChain form pages) entries
  pub pages_are : chains_of form pages entries ≡ numbers
  pub seen_as : map (unrolled_entry form pages) entries ≡ seen

pub keys_kept : (form : RowForm) (pages : List (Option Sector)) → KeepsKeys (unrolled_entry form pages)
keys_kept form pages entry = form.keeps_key (chain_bytes pages form.count (form.first entry)) entry

spread_append : (f : Entry → List ℕ) (left right : List Entry)
    → flat_map f (left ++ right) ≡ flat_map f left ++ flat_map f right
spread_append f [] right = refl
spread_append f (entry ∷ left) right =
    ap (λ (l : List ℕ). f entry ++ l) (spread_append f left right)
    ∙ sym (append_assoc (f entry) (flat_map f left) (flat_map f right))

-- A change of other pages leaves them.
rows_still : (form : RowForm) (before after : List (Option Sector)) (entries : List Entry)
    → All (HasChain form before) entries → Same before after (chains_of form before entries)
    → Held form after entries (chains_of form before entries) (map (unrolled_entry form before) entries)
rows_still form before after [] stand same =
    record { stand = All-nil (HasChain form after); pages_are = refl; seen_as = refl }
rows_still form before after (entry ∷ more) stand same =
    let own = chain_of form before entry in
    let first = form.first entry in
    let here : Same before after own =
    λ page has. same page (Contains-append_left own (chains_of form before more) page has) in
    let below = rows_still form before after more (All-tail (HasChain form before) entry more stand)
    (λ page has. same page (Contains-append_right own (chains_of form before more) page has)) in
    record {
      stand = All-cons (HasChain form after) entry more
          (stands_still before after form.count first here (All-head (HasChain form before) entry more stand))
          below.stand;
      pages_are = ap (λ (l : List ℕ). l ++ chains_of form after more) (pages_still before after form.count first here)
          ∙ ap (λ (l : List ℕ). own ++ l) below.pages_are;
      seen_as = ap (λ (b : List ℕ). form.with_bytes b entry ∷ map (unrolled_entry form after) more)
          (bytes_still before after form.count first here)
          ∙ ap (λ (l : List Entry). unrolled_entry form before entry ∷ l) below.seen_as;
    }

rows_there : (form : RowForm) (pages : List (Option Sector)) (entries : List Entry) (page : ℕ)
    → All (HasChain form pages) entries → Contains (chains_of form pages entries) page → page_at pages page ≡ None → ⊥
rows_there form pages [] page stand has none = in_none page has
rows_there form pages (entry ∷ more) page stand has none =
    ⊎_elim
    (λ own. never_none pages form.count (form.first entry) page (All-head (HasChain form pages) entry more stand) own
    none)
    (λ later. rows_there form pages more page (All-tail (HasChain form pages) entry more stand) later none)
    (Contains-append_cases (chain_of form pages entry) (chains_of form pages more) page has)

-- their pages are none of the new ones
held_apart : (form : RowForm) (before after : List (Option Sector)) (old new numbers : List ℕ)
    (entries seen : List Entry) → Held form before entries numbers seen → Moves before old after new
    → Apart numbers old → Apart numbers new
held_apart form before after old new numbers entries seen held moves apart page has joins =
    ⊎_elim (λ was. apart page has was) (λ free. rows_there form before entries page held.stand
    (subst (λ (l : List ℕ). Contains l page) (sym held.pages_are) has) free.1) (moves.joins page joins)

held_stays : (form : RowForm) (before after : List (Option Sector)) (old new numbers : List ℕ)
    (entries seen : List Entry) → Held form before entries numbers seen → Moves before old after new
    → Apart numbers old → Held form after entries numbers seen
held_stays form before after old new numbers entries seen held moves apart =
    let out = held_apart form before after old new numbers entries seen held moves apart in
    let still = rows_still form before after entries held.stand (λ page has.
    let own = subst (λ (l : List ℕ). Contains l page) held.pages_are has in
    moves.others page (apart page own) (out page own)) in
    record {
      stand = still.stand;
      pages_are = still.pages_are ∙ held.pages_are;
      seen_as = still.seen_as ∙ held.seen_as;
    }

held_now : (form : RowForm) (pages : List (Option Sector)) (entries : List Entry) → All (HasChain form pages) entries
    → Held form pages entries (chains_of form pages entries) (map (unrolled_entry form pages) entries)
held_now form pages entries stand = record { stand = stand; pages_are = refl; seen_as = refl }

held_both : (form : RowForm) (pages : List (Option Sector)) (left right : List Entry) (one two : List ℕ)
    (left_seen right_seen : List Entry) → Held form pages left one left_seen → Held form pages right two right_seen
    → Held form pages (left ++ right) (one ++ two) (left_seen ++ right_seen)
held_both form pages left right one two left_seen right_seen first second = record {
  stand = All-append (HasChain form pages) left right first.stand second.stand;
  pages_are = spread_append (chain_of form pages) left right
      ∙ ap (λ (l : List ℕ). l ++ chains_of form pages right) first.pages_are
      ∙ ap (λ (l : List ℕ). one ++ l) second.pages_are;
  seen_as = map-append (unrolled_entry form pages) left right
      ∙ ap (λ (l : List Entry). l ++ map (unrolled_entry form pages) right) first.seen_as
      ∙ ap (λ (l : List Entry). left_seen ++ l) second.seen_as;
}

held_more : (form : RowForm) (pages : List (Option Sector)) (entry : Entry) (more : List Entry) (own two : List ℕ)
    (seen : List Entry) → HasChain form pages entry → chain_of form pages entry ≡ own
    → Held form pages more two seen
    → Held form pages (entry ∷ more) (own ++ two) (unrolled_entry form pages entry ∷ seen)
held_more form pages entry more own two seen chain is held = record {
  stand = All-cons (HasChain form pages) entry more chain held.stand;
  pages_are = ap (λ (l : List ℕ). l ++ chains_of form pages more) is ∙ ap (λ (l : List ℕ). own ++ l) held.pages_are;
  seen_as = ap (λ (l : List Entry). unrolled_entry form pages entry ∷ l) held.seen_as;
}

-- A list of pages with another one in its middle.
in_middle : (one own two : List ℕ) (page : ℕ) → Contains (one ++ (own ++ two)) page
    → Contains own page ⊎ Contains (one ++ two) page
in_middle one own two page has =
    ⊎_elim (λ first. inr (Contains-append_left one two page first))
    (λ later. ⊎_elim (λ mine. inl mine) (λ last. inr (Contains-append_right one two page last))
    (Contains-append_cases own two page later)) (Contains-append_cases one (own ++ two) page has)

middle_own : (one own two : List ℕ) (page : ℕ) → Contains own page → Contains (one ++ (own ++ two)) page
middle_own one own two page has =
    Contains-append_right one (own ++ two) page (Contains-append_left own two page has)

middle_rest : (one own two : List ℕ) (page : ℕ) → Contains (one ++ two) page → Contains (one ++ (own ++ two)) page
middle_rest one own two page has =
    ⊎_elim (λ first. Contains-append_left one (own ++ two) page first)
    (λ last. Contains-append_right one (own ++ two) page (Contains-append_right own two page last))
    (Contains-append_cases one two page has)

pub once_middle : (one own two : List ℕ) → Once (one ++ two) → Once own → Apart own (one ++ two)
    → Once (one ++ (own ++ two))
once_middle one own two once mine apart =
    once_append one (own ++ two) (once_left one two once)
    (once_append own two mine (once_right one two once)
    (λ page left right. apart page left (Contains-append_right one two page right)))
    (λ page left right. ⊎_elim (λ is. apart page is (Contains-append_left one two page left))
    (λ last. once_apart one two once page left last) (Contains-append_cases own two page right))

pub once_without : (one own two : List ℕ) → Once (one ++ (own ++ two)) → Once (one ++ two)
once_without one own two once =
    once_append one two (once_left one (own ++ two) once)
    (once_right own two (once_right one (own ++ two) once))
    (λ page left right. once_apart one (own ++ two) once page left (Contains-append_right own two page right))

pub once_out : (one own two : List ℕ) → Once (one ++ (own ++ two)) → Apart own (one ++ two)
once_out one own two once page mine rest =
    ⊎_elim (λ first. once_apart one (own ++ two) once page first (Contains-append_left own two page mine))
    (λ last. once_apart own two (once_right one (own ++ two) once) page mine last)
    (Contains-append_cases one two page rest)

-- What all this does to the pages.
moves_insert : (before mid after : List (Option Sector)) (tree new_tree one own two : List ℕ) → Moves before [] mid own
    → Moves mid tree after new_tree → ((page : ℕ) → Contains own page → page_at mid page ≡ None → ⊥)
    → Moves before (tree ++ (one ++ two)) after (new_tree ++ (one ++ (own ++ two)))
moves_insert before mid after tree new_tree one own two first second stands =
    let old = one ++ two in
    let new = one ++ (own ++ two) in
    record {
      count = second.count ∙ first.count;
      others = λ page was is.
          second.others page (λ has. was (Contains-append_left tree old page has))
          (λ has. is (Contains-append_left new_tree new page has))
          ∙ first.others page (in_none page)
          (λ has. is (Contains-append_right new_tree new page (middle_own one own two page has)));
      joins = λ page has. ⊎_elim
          (λ top. ⊎_elim (λ was. inl (Contains-append_left tree old page was))
          (λ free. inr (free.0, sym (first.others page (in_none page) (λ mine. stands page mine free.1)) ∙ free.1))
          (second.joins page top))
          (λ rest. ⊎_elim
          (λ mine. ⊎_elim (λ past. absurd (in_none page past)) (λ free. inr free) (first.joins page mine))
          (λ was. inl (Contains-append_right tree old page was)) (in_middle one own two page rest))
          (Contains-append_cases new_tree new page has);
      leaves = λ page has. ⊎_elim
          (λ top. ⊎_elim (λ stays. inl (Contains-append_left new_tree new page stays)) (λ none. inr none)
          (second.leaves page top))
          (λ rest. inl (Contains-append_right new_tree new page (middle_rest one own two page rest)))
          (Contains-append_cases tree old page has);
    }

moves_remove : (before mid after : List (Option Sector)) (tree new_tree one own two : List ℕ)
    → Moves before tree mid new_tree → Moves mid own after []
    → ((page : ℕ) → Contains own page → page_at mid page ≡ None → ⊥)
    → Moves before (tree ++ (one ++ (own ++ two))) after (new_tree ++ (one ++ two))
moves_remove before mid after tree new_tree one own two first second stands =
    let old = one ++ (own ++ two) in
    let new = one ++ two in
    record {
      count = second.count ∙ first.count;
      others = λ page was is.
          second.others page (λ has. was (Contains-append_right tree old page (middle_own one own two page has)))
          (in_none page)
          ∙ first.others page (λ has. was (Contains-append_left tree old page has))
          (λ has. is (Contains-append_left new_tree new page has));
      joins = λ page has. ⊎_elim
          (λ top. ⊎_elim (λ was. inl (Contains-append_left tree old page was)) (λ free. inr free)
          (first.joins page top))
          (λ rest. inl (Contains-append_right tree old page (middle_rest one own two page rest)))
          (Contains-append_cases new_tree new page has);
      leaves = λ page has. ⊎_elim
          (λ top. ⊎_elim (λ stays. inl (Contains-append_left new_tree new page stays))
          (λ none. inr (second.others page (λ mine. stands page mine none) (in_none page) ∙ none))
          (first.leaves page top))
          (λ rest. ⊎_elim
          (λ mine. ⊎_elim (λ past. absurd (in_none page past)) (λ none. inr none) (second.leaves page mine))
          (λ was. inl (Contains-append_right new_tree new page was)) (in_middle one own two page rest))
          (Contains-append_cases tree old page has);
    }

moves_rewrite : (before mid after : List (Option Sector)) (tree new_tree one own two : List ℕ)
    → Moves before own mid own → Moves mid tree after new_tree
    → ((page : ℕ) → Contains own page → page_at mid page ≡ None → ⊥)
    → Moves before (tree ++ (one ++ (own ++ two))) after (new_tree ++ (one ++ (own ++ two)))
moves_rewrite before mid after tree new_tree one own two first second stands =
    let all = one ++ (own ++ two) in
    record {
      count = second.count ∙ first.count;
      others = λ page was is.
          let out : Contains own page → ⊥ =
          λ has. was (Contains-append_right tree all page (middle_own one own two page has)) in
          second.others page (λ has. was (Contains-append_left tree all page has))
          (λ has. is (Contains-append_left new_tree all page has)) ∙ first.others page out out;
      joins = λ page has. ⊎_elim
          (λ top. ⊎_elim (λ was. inl (Contains-append_left tree all page was))
          (λ free. inr (
            free.0,
            sym (first.others page (λ mine. stands page mine free.1) (λ mine. stands page mine free.1)) ∙ free.1,
          )) (second.joins page top))
          (λ rest. inl (Contains-append_right tree all page rest))
          (Contains-append_cases new_tree all page has);
      leaves = λ page has. ⊎_elim
          (λ top. ⊎_elim (λ stays. inl (Contains-append_left new_tree all page stays)) (λ none. inr none)
          (second.leaves page top))
          (λ rest. inl (Contains-append_right new_tree all page rest))
          (Contains-append_cases tree all page has);
    }

-- All of it together.
rows_done : (form : RowForm) (before after : List (Option Sector)) (tree new_tree old_numbers numbers : List ℕ)
    (entries new placed seen told : List Entry) → Held form after placed numbers seen → new ≡ placed → told ≡ seen
    → chains_of form before entries ≡ old_numbers → Once (new_tree ++ numbers) → AreThere after new_tree
    → Moves before (tree ++ old_numbers) after (new_tree ++ numbers)
    → RowsMove form before tree entries after new_tree new told
rows_done form before after tree new_tree old_numbers numbers entries new placed seen told held is tells was once there
    moves =
    let pages : chains_of form after new ≡ numbers = ap (chains_of form after) is ∙ held.pages_are in
    record {
      rows = record {
        stand = subst (λ (l : List Entry). All (HasChain form after) l) (sym is) held.stand;
        once = subst (λ (l : List ℕ). Once (new_tree ++ l)) (sym pages) once;
        there = there;
      };
      moves = subst (λ (l : List ℕ). Moves before (tree ++ l) after (new_tree ++ chains_of form after new)) (sym was)
          (subst (λ (l : List ℕ). Moves before (tree ++ old_numbers) after (new_tree ++ l)) (sym pages) moves);
      seen_as = ap (map (unrolled_entry form after)) is ∙ held.seen_as ∙ sym tells;
    }

turned : (one two : List ℕ) → Apart one two → Apart two one
turned one two apart page left right = apart page right left

-- a new entry
pub rows_insert : (form : RowForm) (before mid after : List (Option Sector)) (tree new_tree : List ℕ)
    (entries : List Entry) (entry : Entry) → HasRows form before tree entries → HasChain form mid entry
    → Moves before [] mid (chain_of form mid entry) → IsTreeMove mid tree after new_tree
    → RowsMove form before tree entries after new_tree (with_new_entry entries entry)
    (with_new_entry (map (unrolled_entry form before) entries) (unrolled_entry form mid entry))
rows_insert form before mid after tree new_tree entries entry rows chain laid grown =
    let place = new_place entries entry in
    let seen = unrolled_entry form before in
    let one = chains_of form before place.left in
    let two = chains_of form before place.right in
    let own = chain_of form mid entry in
    let all : All (HasChain form before) (place.left ++ place.right) =
    subst (λ (l : List Entry). All (HasChain form before) l) place.is rows.stand in
    let was : chains_of form before entries ≡ one ++ two =
    ap (chains_of form before) place.is ∙ spread_append (chain_of form before) place.left place.right in
    let once : Once (tree ++ (one ++ two)) = subst (λ (l : List ℕ). Once (tree ++ l)) was rows.once in
    let left_was = held_now form before place.left (all_left (HasChain form before) place.left place.right all) in
    let right_was = held_now form before place.right (all_right (HasChain form before) place.left place.right all) in
    let left_out = held_apart form before mid [] own one place.left (map seen place.left) left_was laid
    (λ page has past. in_none page past) in
    let right_out = held_apart form before mid [] own two place.right (map seen place.right) right_was laid
    (λ page has past. in_none page past) in
    let held = held_both form mid place.left (entry ∷ place.right) one (own ++ two) (map seen place.left)
    (unrolled_entry form mid entry ∷ map seen place.right)
    (held_stays form before mid [] own one place.left (map seen place.left) left_was laid
    (λ page has past. in_none page past))
    (held_more form mid entry place.right own two (map seen place.right) chain refl
    (held_stays form before mid [] own two place.right (map seen place.right) right_was laid
    (λ page has past. in_none page past))) in
    let own_out : Apart own (one ++ two) = λ page mine rest. ⊎_elim (λ is. left_out page is mine)
    (λ is. right_out page is mine) (Contains-append_cases one two page rest) in
    let apart : Apart (one ++ (own ++ two)) tree =
    λ page has top. ⊎_elim
    (λ mine. ⊎_elim (λ past. in_none page past) (λ free. rows.there page top free.1) (laid.joins page mine))
    (λ rest. once_apart tree (one ++ two) once page top rest) (in_middle one own two page has) in
    let numbers = one ++ (own ++ two) in
    let placed = place.left ++ (entry ∷ place.right) in
    let shown = map seen place.left ++ (unrolled_entry form mid entry ∷ map seen place.right) in
    rows_done form before after tree new_tree (one ++ two) numbers entries (with_new_entry entries entry) placed shown
    (with_new_entry (map seen entries) (unrolled_entry form mid entry))
    (held_stays form mid after tree new_tree numbers placed shown held grown.moves apart) place.plain
    (place.mapped seen (unrolled_entry form mid entry) (keys_kept form before) (keys_kept form mid entry)) was
    (once_append new_tree numbers grown.once
    (once_middle one own two (once_right tree (one ++ two) once)
    (chain_once mid form.count (form.first entry) chain) own_out)
    (turned numbers new_tree
    (held_apart form mid after tree new_tree numbers placed shown held grown.moves apart)))
    grown.there
    (moves_insert before mid after tree new_tree one own two laid grown.moves
    (λ page mine none. never_none mid form.count (form.first entry) page chain mine none))

-- an entry goes
pub rows_remove : (form : RowForm) (before mid after : List (Option Sector)) (tree new_tree : List ℕ)
    (entries : List Entry) (entry : Entry) → HasRows form before tree entries
    → entry_with entries entry.key ≡ Some entry → IsTreeMove before tree mid new_tree
    → Moves mid (chain_of form mid entry) after []
    → RowsMove form before tree entries after new_tree (without_entry entries entry.key)
    (without_entry (map (unrolled_entry form before) entries) entry.key)
rows_remove form before mid after tree new_tree entries entry rows found shrunk released =
    let place = held_place entries entry.key entry found in
    let seen = unrolled_entry form before in
    let one = chains_of form before place.left in
    let two = chains_of form before place.right in
    let own = chain_of form before entry in
    let P : Entry → Type 0 = HasChain form before in
    let all : All P (place.left ++ (entry ∷ place.right)) = subst (λ (l : List Entry). All P l) place.is rows.stand in
    let chain = All-head P entry place.right (all_right P place.left (entry ∷ place.right) all) in
    let was : chains_of form before entries ≡ one ++ (own ++ two) =
    ap (chains_of form before) place.is ∙ spread_append (chain_of form before) place.left (entry ∷ place.right) in
    let once : Once (tree ++ (one ++ (own ++ two))) = subst (λ (l : List ℕ). Once (tree ++ l)) was rows.once in
    let top_apart = once_apart tree (one ++ (own ++ two)) once in
    let chains = once_right tree (one ++ (own ++ two)) once in
    let kept = chain_stays before mid tree new_tree form.count (form.first entry) shrunk.moves chain
    (λ page mine top. top_apart page top (middle_own one own two page mine)) in
    let gone : Moves mid own after [] = subst (λ (l : List ℕ). Moves mid l after []) kept.same_pages released in
    let placed = place.left ++ place.right in
    let shown = map seen place.left ++ map seen place.right in
    let held = held_both form before place.left place.right one two (map seen place.left) (map seen place.right)
    (held_now form before place.left (all_left P place.left (entry ∷ place.right) all))
    (held_now form before place.right
    (All-tail P entry place.right (all_right P place.left (entry ∷ place.right) all))) in
    let apart : Apart (one ++ two) tree =
    λ page rest top. top_apart page top (middle_rest one own two page rest) in
    let still = held_stays form before mid tree new_tree (one ++ two) placed shown held shrunk.moves apart in
    let own_out : Apart (one ++ two) own = turned own (one ++ two) (once_out one own two chains) in
    rows_done form before after tree new_tree (one ++ (own ++ two)) (one ++ two) entries
    (without_entry entries entry.key) placed shown (without_entry (map seen entries) entry.key)
    (held_stays form mid after own [] (one ++ two) placed shown still gone own_out) place.plain_without
    (place.without seen (keys_kept form before)) was
    (once_append new_tree (one ++ two) shrunk.once (once_without one own two chains)
    (turned (one ++ two) new_tree
    (held_apart form before mid tree new_tree (one ++ two) placed shown held shrunk.moves apart)))
    (λ page top none. shrunk.there page top
    (sym (gone.others page (λ mine. kept.apart page mine top) (in_none page)) ∙ none))
    (moves_remove before mid after tree new_tree one own two shrunk.moves gone
    (λ page mine none. never_none mid form.count (form.first entry) page kept.stands
    (subst (λ (l : List ℕ). Contains l page) (sym kept.same_pages) mine) none))

-- an entry gets another record
pub rows_rewrite : (form : RowForm) (before mid after : List (Option Sector)) (tree new_tree : List ℕ)
    (entries : List Entry) (old entry : Entry) → HasRows form before tree entries
    → entry_with entries entry.key ≡ Some old → HasChain form mid entry
    → chain_of form mid entry ≡ chain_of form before old
    → Moves before (chain_of form before old) mid (chain_of form before old) → IsTreeMove mid tree after new_tree
    → RowsMove form before tree entries after new_tree (with_value entries entry)
    (with_value (map (unrolled_entry form before) entries) (unrolled_entry form mid entry))
rows_rewrite form before mid after tree new_tree entries old entry rows found chain same written grown =
    let place = held_place entries entry.key old found in
    let seen = unrolled_entry form before in
    let one = chains_of form before place.left in
    let two = chains_of form before place.right in
    let own = chain_of form before old in
    let P : Entry → Type 0 = HasChain form before in
    let all : All P (place.left ++ (old ∷ place.right)) = subst (λ (l : List Entry). All P l) place.is rows.stand in
    let was : chains_of form before entries ≡ one ++ (own ++ two) =
    ap (chains_of form before) place.is ∙ spread_append (chain_of form before) place.left (old ∷ place.right) in
    let numbers = one ++ (own ++ two) in
    let once : Once (tree ++ numbers) = subst (λ (l : List ℕ). Once (tree ++ l)) was rows.once in
    let chains = once_right tree numbers once in
    let out = once_out one own two chains in
    let held = held_both form mid place.left (entry ∷ place.right) one (own ++ two) (map seen place.left)
    (unrolled_entry form mid entry ∷ map seen place.right)
    (held_stays form before mid own own one place.left (map seen place.left)
    (held_now form before place.left (all_left P place.left (old ∷ place.right) all)) written
    (λ page has mine. out page mine (Contains-append_left one two page has)))
    (held_more form mid entry place.right own two (map seen place.right) chain same
    (held_stays form before mid own own two place.right (map seen place.right)
    (held_now form before place.right (All-tail P old place.right (all_right P place.left (old ∷ place.right) all)))
    written (λ page has mine. out page mine (Contains-append_right one two page has)))) in
    let placed = place.left ++ (entry ∷ place.right) in
    let shown = map seen place.left ++ (unrolled_entry form mid entry ∷ map seen place.right) in
    let apart : Apart numbers tree = turned tree numbers (once_apart tree numbers once) in
    rows_done form before after tree new_tree numbers numbers entries (with_value entries entry) placed shown
    (with_value (map seen entries) (unrolled_entry form mid entry))
    (held_stays form mid after tree new_tree numbers placed shown held grown.moves apart)
    (place.plain_value entry refl)
    (place.value seen (unrolled_entry form mid entry) (keys_kept form before) (keys_kept form mid entry)) was
    (once_append new_tree numbers grown.once chains
    (turned numbers new_tree (held_apart form mid after tree new_tree numbers placed shown held grown.moves apart)))
    grown.there
    (moves_rewrite before mid after tree new_tree one own two written grown.moves
    (λ page mine none. never_none mid form.count (form.first entry) page chain
    (subst (λ (l : List ℕ). Contains l page) (sym same) mine) none))

-- other pages change
pub rows_stay : (form : RowForm) (before after : List (Option Sector)) (old new tree : List ℕ) (entries : List Entry)
    → HasRows form before tree entries → Moves before old after new
    → Apart (tree ++ chains_of form before entries) old → KeepsRows form before tree entries after new
rows_stay form before after old new tree entries rows moves apart =
    let chains = chains_of form before entries in
    let seen = map (unrolled_entry form before) entries in
    let now = held_now form before entries rows.stand in
    let chains_out : Apart chains old = λ page has. apart page (Contains-append_right tree chains page has) in
    let held = held_stays form before after old new chains entries seen now moves chains_out in
    let out : Apart tree new =
    λ page has joins. ⊎_elim (λ was. apart page (Contains-append_left tree chains page has) was)
    (λ free. rows.there page has free.1) (moves.joins page joins) in
    record {
      rows = record {
        stand = held.stand;
        once = subst (λ (l : List ℕ). Once (tree ++ l)) (sym held.pages_are) rows.once;
        there = λ page has none. rows.there page has
            (sym (moves.others page (λ was. apart page (Contains-append_left tree chains page has) was) (out page has))
            ∙ none);
      };
      same_pages = held.pages_are;
      seen_as = held.seen_as;
      apart = λ page has joins. ⊎_elim (λ top. out page top joins)
          (λ rest. held_apart form before after old new chains entries seen now moves chains_out page rest joins)
          (Contains-append_cases tree chains page has);
    }

-- the chain of the first entry goes
pub rows_release : (form : RowForm) (before after : List (Option Sector)) (tree : List ℕ) (entry : Entry)
    (more : List Entry) → HasRows form before tree (entry ∷ more) → Moves before (chain_of form before entry) after []
    → KeepsRows form before tree more after []
rows_release form before after tree entry more rows released =
    let own = chain_of form before entry in
    let two = chains_of form before more in
    let rest : HasRows form before tree more = record {
      stand = All-tail (HasChain form before) entry more rows.stand;
      once = once_without tree own two rows.once;
      there = rows.there;
    } in
    rows_stay form before after own [] tree more rest released
    (turned own (tree ++ two) (once_out tree own two rows.once))

-- a tree becomes another one
pub tree_moves : (layout : RowLayout) (before after : List (Option Sector)) (root : ℕ)
    (old levels : List (List TreeNode)) → IsTreeOrEmpty layout after root levels
    → Moves before (pages_of old) after (pages_of levels) → IsTreeMove before (pages_of old) after (pages_of levels)
tree_moves layout before after root old levels holds moves = record {
  moves = moves;
  once = pages_once layout after root levels holds;
  there = λ page has none. holds_there layout after root levels page holds has none;
}
