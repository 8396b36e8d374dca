-- What the calls on a tree of rows make of it, step by step.
use Rattle.std.proofs.Common.{◌≡◌, inl, ◌∷◌, ℕ, List, [], map, refl, sym, ap, subst, ◌∙◌}
use Rattle.std.specs.Prelude.{Contains, Option, Some, IfSome}
use Rattle.std.specs.List.{All, flat_map}
use Rattle.std.proofs.lemmas.List.Elements.{All-head, Contains-append_left, Contains-append_right}
use Rattle.std.proofs.lemmas.Grind.{flat_map-append}
use Rattle.station.specs.Disk.{Sector}
use Rattle.btree.specs.Tree.{TreeNode, IsTreeOrEmpty, pages_of}
use Rattle.btree.specs.Changes.{Becomes}
use Rattle.btree.specs.Entries.{Entry, entry_with, with_new_entry, with_value, without_entry}
use Rattle.btree.specs.Laws.{Apart}
use Rattle.btree.specs.Moves.{Moves}
use Rattle.btree.proofs.Keyed.{key_with}
use Rattle.btree.proofs.Order.{all_right}
use Rattle.btree.proofs.Runs.{in_none, once_apart}
use Rattle.btree.proofs.Stays.{tree_stays}
use Rattle.chains.specs.Laws.{KeepsChain}
use Rattle.chains.specs.Rows.{HasChain, chain_of, unrolled_entry}
use Rattle.chains.proofs.Entries.{held_place}
use Rattle.chains.proofs.Rows.{rows_insert, rows_remove, rows_rewrite, tree_moves}
use Rattle.chains.proofs.Staying.{chain_stays}
use Rattle.volume_format.specs.Chained.{form_of}
use Rattle.volume_format.specs.Forest.{TreeLevels}
use Rattle.row_trees.specs.RowTree.{ChainedTree, IsRowTreeAmong}
use Rattle.row_trees.proofs.Among.{Stands, stored_in, chains_in, stands_among, seen_among, changed_among}

-- The chain of an entry of a tree stands, and its pages are none of the tree.
pub record HeldChain (pages : List (Option Sector)) (rows : ChainedTree) (levels : List (List TreeNode))
    (entry : Entry) : Type 0 where
  pub chain : HasChain (form_of rows.record_bytes) pages entry
  pub apart : Apart (pages_of levels) (chain_of (form_of rows.record_bytes) pages entry)

pub held_chain : (pages : List (Option Sector)) (rows : ChainedTree) (levels : List (List TreeNode)) (key : List ℕ)
    (entry : Entry) → Stands pages rows levels → entry_with (stored_in rows levels) key ≡ Some entry
    → HeldChain pages rows levels entry
held_chain pages rows levels key entry stands found =
    let form = form_of rows.record_bytes in
    let place = held_place (stored_in rows levels) key entry found in
    let P : Entry → Type 0 = HasChain form pages in
    let f : Entry → List ℕ = chain_of form pages in
    let rest = flat_map f (entry ∷ place.right) in
    let all = subst (λ (l : List Entry). All P l) place.is stands.has.stand in
    let is = ap (flat_map f) place.is ∙ flat_map-append f place.left (entry ∷ place.right) in
    record {
      chain = All-head P entry place.right (all_right P place.left (entry ∷ place.right) all);
      apart = λ page top own.
          once_apart (pages_of levels) (chains_in pages rows levels) stands.has.once page top
          (subst (λ (l : List ℕ). Contains l page) (sym is) (Contains-append_right (flat_map f place.left) rest page
          (Contains-append_left (f entry) (flat_map f place.right) page own)));
    }

pub same_key : (entries : List Entry) (key : List ℕ) (entry : Entry) → entry_with entries key ≡ Some entry
    → entry.key ≡ key
same_key entries key entry found =
    subst (λ (o : Option Entry). IfSome o (λ e. e.key ≡ key)) found (key_with entries key)

-- A change of pages that the tree hasn't.
pub tree_still : (before after : List (Option Sector)) (old new : List ℕ) (rows : ChainedTree)
    (levels : List (List TreeNode)) → Stands before rows levels → Moves before old after new
    → Apart (pages_of levels) old → IsTreeOrEmpty rows.tree.layout after rows.tree.root levels
tree_still before after old new rows levels stands moves apart =
    (tree_stays rows.tree.layout before after old new rows.tree.root levels moves stands.tree apart).0

pub none_apart : (pages : List ℕ) → Apart pages []
none_apart pages page has past = in_none page past

-- A chain was laid, and its entry came into the tree.
pub inserted : (before mid after : List (Option Sector)) (left right : List TreeLevels) (old new : ChainedTree)
    (entries : List Entry) (is : IsRowTreeAmong before left right old entries) (stored seen : Entry)
    → new.tree.layout ≡ old.tree.layout → new.record_bytes ≡ old.record_bytes
    → HasChain (form_of old.record_bytes) mid stored
    → Moves before [] mid (chain_of (form_of old.record_bytes) mid stored)
    → unrolled_entry (form_of old.record_bytes) mid stored ≡ seen
    → Becomes old.tree.layout mid is.planted.levels after new.tree.root
    (with_new_entry (stored_in old is.planted.levels) stored)
    → IsRowTreeAmong after left right new (with_new_entry entries seen)
inserted before mid after left right old new entries is stored seen layout same_form chain laid tells becomes =
    let form = form_of old.record_bytes in
    let levels = is.planted.levels in
    let E = stored_in old levels in
    let shown = map (unrolled_entry form before) E in
    changed_among before after left right old new entries is becomes.levels (with_new_entry E stored)
    (with_new_entry shown (unrolled_entry form mid stored)) (with_new_entry entries seen) layout same_form
    becomes.listed
    (ap (with_new_entry shown) tells
    ∙ ap (λ (l : List Entry). with_new_entry l seen) (sym (seen_among before left right old entries is)))
    becomes.holds
    (rows_insert form before mid after (pages_of levels) (pages_of becomes.levels) E stored
    (stands_among before left right old entries is).has chain laid
    (tree_moves old.tree.layout mid after new.tree.root levels becomes.levels becomes.holds becomes.moves))

-- the chain of an entry after a change of the tree
pub chain_after : (before mid : List (Option Sector)) (rows : ChainedTree) (levels : List (List TreeNode))
    (key : List ℕ) (entry : Entry) (new : List ℕ) → Stands before rows levels
    → entry_with (stored_in rows levels) key ≡ Some entry → Moves before (pages_of levels) mid new
    → KeepsChain before (form_of rows.record_bytes).count ((form_of rows.record_bytes).first entry) mid new
chain_after before mid rows levels key entry new stands found moves =
    let form = form_of rows.record_bytes in
    let held = held_chain before rows levels key entry stands found in
    chain_stays before mid (pages_of levels) new form.count (form.first entry) moves held.chain
    (λ page mine top. held.apart page top mine)

-- An entry left the tree, and its chain was released.
removed_own : (before mid after : List (Option Sector)) (left right : List TreeLevels) (old new : ChainedTree)
    (entries : List Entry) (is : IsRowTreeAmong before left right old entries) (entry : Entry)
    → new.tree.layout ≡ old.tree.layout → new.record_bytes ≡ old.record_bytes
    → entry_with (stored_in old is.planted.levels) entry.key ≡ Some entry
    → Becomes old.tree.layout before is.planted.levels mid new.tree.root
    (without_entry (stored_in old is.planted.levels) entry.key)
    → Moves mid (chain_of (form_of old.record_bytes) mid entry) after []
    → IsRowTreeAmong after left right new (without_entry entries entry.key)
removed_own before mid after left right old new entries is entry layout same_form found becomes released =
    let form = form_of old.record_bytes in
    let levels = is.planted.levels in
    let E = stored_in old levels in
    let own = chain_of form mid entry in
    let stands = stands_among before left right old entries is in
    let kept = chain_after before mid old levels entry.key entry (pages_of becomes.levels) stands found becomes.moves in
    changed_among before after left right old new entries is becomes.levels (without_entry E entry.key)
    (without_entry (map (unrolled_entry form before) E) entry.key) (without_entry entries entry.key) layout same_form
    becomes.listed
    (ap (λ (l : List Entry). without_entry l entry.key) (sym (seen_among before left right old entries is)))
    (tree_stays old.tree.layout mid after own [] new.tree.root becomes.levels released becomes.holds
    (λ page top mine. kept.apart page (subst (λ (l : List ℕ). Contains l page) kept.same_pages mine) top)).0
    (rows_remove form before mid after (pages_of levels) (pages_of becomes.levels) E entry stands.has found
    (tree_moves old.tree.layout before mid new.tree.root levels becomes.levels becomes.holds becomes.moves) released)

pub removed : (before mid after : List (Option Sector)) (left right : List TreeLevels) (old new : ChainedTree)
    (entries : List Entry) (is : IsRowTreeAmong before left right old entries) (key : List ℕ) (entry : Entry)
    → new.tree.layout ≡ old.tree.layout → new.record_bytes ≡ old.record_bytes
    → entry_with (stored_in old is.planted.levels) key ≡ Some entry
    → Becomes old.tree.layout before is.planted.levels mid new.tree.root
    (without_entry (stored_in old is.planted.levels) key)
    → Moves mid (chain_of (form_of old.record_bytes) mid entry) after []
    → IsRowTreeAmong after left right new (without_entry entries key)
removed before mid after left right old new entries is key entry layout same_form found becomes released =
    let E = stored_in old is.planted.levels in
    subst (λ (k : List ℕ). entry_with E k ≡ Some entry
    → Becomes old.tree.layout before is.planted.levels mid new.tree.root (without_entry E k)
    → IsRowTreeAmong after left right new (without_entry entries k)) (same_key E key entry found)
    (λ own tree.
    removed_own before mid after left right old new entries is entry layout same_form own tree released) found becomes

-- The chain of an entry got another record, and then the entry another value with the same chain.
pub rewritten : (before mid after : List (Option Sector)) (left right : List TreeLevels) (old : ChainedTree)
    (entries : List Entry) (is : IsRowTreeAmong before left right old entries) (was entry seen : Entry)
    → entry_with (stored_in old is.planted.levels) entry.key ≡ Some was
    → HasChain (form_of old.record_bytes) mid entry
    → chain_of (form_of old.record_bytes) mid entry ≡ chain_of (form_of old.record_bytes) before was
    → Moves before (chain_of (form_of old.record_bytes) before was) mid
    (chain_of (form_of old.record_bytes) before was)
    → unrolled_entry (form_of old.record_bytes) mid entry ≡ seen
    → Becomes old.tree.layout mid is.planted.levels after old.tree.root
    (with_value (stored_in old is.planted.levels) entry)
    → IsRowTreeAmong after left right old (with_value entries seen)
rewritten before mid after left right old entries is was entry seen found chain same written tells becomes =
    let form = form_of old.record_bytes in
    let levels = is.planted.levels in
    let E = stored_in old levels in
    let shown = map (unrolled_entry form before) E in
    changed_among before after left right old old entries is becomes.levels (with_value E entry)
    (with_value shown (unrolled_entry form mid entry)) (with_value entries seen) refl refl becomes.listed
    (ap (with_value shown) tells
    ∙ ap (λ (l : List Entry). with_value l seen) (sym (seen_among before left right old entries is)))
    becomes.holds
    (rows_rewrite form before mid after (pages_of levels) (pages_of becomes.levels) E was entry
    (stands_among before left right old entries is).has found chain same written
    (tree_moves old.tree.layout mid after old.tree.root levels becomes.levels becomes.holds becomes.moves))

-- a tree of which nothing was written
moves_still : (pages : List (Option Sector)) (numbers : List ℕ) → Moves pages numbers pages numbers
moves_still pages numbers = record {
  count = refl;
  others = λ page was is. refl;
  joins = λ page has. inl has;
  leaves = λ page has. inl has;
}

pub unwritten : (mid : List (Option Sector)) (rows : ChainedTree) (levels : List (List TreeNode)) (was : Entry)
    → entry_with (stored_in rows levels) was.key ≡ Some was → IsTreeOrEmpty rows.tree.layout mid rows.tree.root levels
    → Becomes rows.tree.layout mid levels mid rows.tree.root (with_value (stored_in rows levels) was)
unwritten mid rows levels was found tree =
    let place = held_place (stored_in rows levels) was.key was found in
    record {
      levels = levels;
      holds = tree;
      listed = place.is ∙ sym (place.plain_value was refl);
      moves = moves_still mid (pages_of levels);
    }
