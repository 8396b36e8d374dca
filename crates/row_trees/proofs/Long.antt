-- A tree whose records are in chains, after calls of `chains` and `btree`.
use Rattle.std.proofs.Common.{◌≡◌, ◌≢◌, ◌<◌, ◌^◌, ◌++◌, ℕ, List, [], length, refl, sym, ap, subst, ◌∙◌}
use Rattle.std.specs.Prelude.{Option, Some, None, IsSome, drop}
use Rattle.station.specs.Disk.{Sector}
use Rattle.byteorder.specs.Endian.{big_bytes, big_number}
use Rattle.btree.specs.Changes.{Becomes, Inserts}
use Rattle.btree.specs.Entries.{Entry, entry_with, with_new_entry, with_value, without_entry}
use Rattle.btree.specs.Moves.{Moves}
use Rattle.btree.specs.Removals.{Removes}
use Rattle.btree.specs.Laws.{Apart}
use Rattle.btree.specs.Tree.{TreeNode, IsTreeOrEmpty, pages_of}
use Rattle.chains.specs.Chain.{Stands, chain_pages, chain_bytes, pages_for, with_zeros}
use Rattle.chains.specs.Changes.{Lays, Rewrites}
use Rattle.chains.specs.Rows.{chain_of}
use Rattle.volume_format.specs.Chained.{form_of}
use Rattle.volume_format.specs.Forest.{TreeLevels}
use Rattle.row_trees.specs.RowTree.{ChainedTree, IsRowTreeAmong}
use Rattle.row_trees.proofs.Among.{stored_in}
use Rattle.row_trees.proofs.Among as among
use Rattle.row_trees.proofs.Forms.{pair, as_chain, of_chain, seen_with, first_told}
use Rattle.row_trees.proofs.Changes.{inserted, removed, rewritten, held_chain, tree_still}
use Rattle.row_trees.proofs.Changes.{none_apart, chain_after}
use Rattle.row_trees.proofs.Short.{none_seen, some_seen}

-- A chain was laid: nothing of the tree moved.
pub laid_tree : (before mid : List (Option Sector)) (rows : ChainedTree) (levels : List (List TreeNode))
    (bytes : List ℕ) (first : ℕ) → among.Stands before rows levels → Lays before bytes mid first
    → IsTreeOrEmpty rows.tree.layout mid rows.tree.root levels
laid_tree before mid rows levels bytes first stands laid =
    tree_still before mid [] (chain_pages mid (pages_for (length bytes)) first) rows levels stands laid.moves
    (none_apart _)

-- Then its entry came into the tree.
pub inserted_long : (before mid after : List (Option Sector)) (left right : List TreeLevels) (old new : ChainedTree)
    (entries : List Entry) (is : IsRowTreeAmong before left right old entries) (key bytes rest value : List ℕ)
    (first : ℕ) → old.record_bytes ≢ 0 → first < 2 ^ 32 → length bytes ≡ old.record_bytes → bytes ++ rest ≡ value
    → new.tree.layout ≡ old.tree.layout → new.record_bytes ≡ old.record_bytes → Lays before bytes mid first
    → Inserts old.tree.layout mid is.planted.levels after key (big_bytes 4 first ++ rest) (Some new.tree.root)
    → (entry_with entries key ≡ None) × IsRowTreeAmong after left right new (with_new_entry entries (pair key value))
inserted_long before mid after left right old new entries is key bytes rest value first long small many whole layout
    form laid made =
    let n = old.record_bytes in
    let stored = pair key (big_bytes 4 first ++ rest) in
    let told = sym (first_told first rest small) in
    let pages = ap pages_for many in
    let S : ℕ → ℕ → Type 0 = λ count page. Stands mid count page in
    let M : ℕ → ℕ → Type 0 = λ count page. Moves before [] mid (chain_pages mid count page) in (
      none_seen before left right old entries is key made.0,
      inserted before mid after left right old new entries is stored (pair key value) layout form
          (as_chain n stored S long (subst (S (pages_for n)) told (subst (λ k. S k first) pages laid.stands)))
          (as_chain n stored M long (subst (M (pages_for n)) told (subst (λ k. M k first) pages laid.moves)))
          (seen_with n mid stored bytes long many
          (subst (λ page. chain_bytes mid (pages_for (length bytes)) page ≡ with_zeros bytes) told laid.holds)
          ∙ ap (pair key) whole) made.1,
    )

-- An entry left the tree: its chain still stands.
pub left_chain : (before mid : List (Option Sector)) (rows : ChainedTree) (levels : List (List TreeNode))
    (key : List ℕ) (entry : Entry) (new : List ℕ) → rows.record_bytes ≢ 0 → among.Stands before rows levels
    → entry_with (stored_in rows levels) key ≡ Some entry → Moves before (pages_of levels) mid new
    → Stands mid (pages_for rows.record_bytes) (big_number 4 entry.value)
left_chain before mid rows levels key entry new long stands found moves =
    of_chain rows.record_bytes entry (Stands mid) long
    (chain_after before mid rows levels key entry new stands found moves).stands

-- Then it was released.
pub removed_long : (before mid after : List (Option Sector)) (left right : List TreeLevels) (old new : ChainedTree)
    (entries : List Entry) (is : IsRowTreeAmong before left right old entries) (key : List ℕ) (entry : Entry)
    → old.record_bytes ≢ 0 → new.tree.layout ≡ old.tree.layout → new.record_bytes ≡ old.record_bytes
    → entry_with (stored_in old is.planted.levels) key ≡ Some entry
    → Removes old.tree.layout before is.planted.levels mid key (Some new.tree.root)
    → Moves mid (chain_pages mid (pages_for old.record_bytes) (big_number 4 entry.value)) after []
    → IsSome (entry_with entries key) × IsRowTreeAmong after left right new (without_entry entries key)
removed_long before mid after left right old new entries is key entry long layout form found made released = (
  some_seen before left right old entries is key made.0,
  removed before mid after left right old new entries is key entry layout form found made.1.became
      (as_chain old.record_bytes entry (λ count page. Moves mid (chain_pages mid count page) after []) long released),
)

-- A record was rewritten: the tree is as it was.
pub found_chain : (pages : List (Option Sector)) (rows : ChainedTree) (levels : List (List TreeNode))
    (key : List ℕ) (entry : Entry) → rows.record_bytes ≢ 0 → among.Stands pages rows levels
    → entry_with (stored_in rows levels) key ≡ Some entry
    → Stands pages (pages_for rows.record_bytes) (big_number 4 entry.value)
found_chain pages rows levels key entry long stands found =
    of_chain rows.record_bytes entry (Stands pages) long (held_chain pages rows levels key entry stands found).chain

-- a record of the tree's length was rewritten from the first page of an entry on
pub record IsRewritten (before : List (Option Sector)) (bytes : List ℕ) (mid : List (Option Sector)) (n : ℕ)
    (was : Entry) : Type 0 where
  pub chain : Stands mid (pages_for n) (big_number 4 was.value)
  pub same : chain_pages mid (pages_for n) (big_number 4 was.value)
      ≡ chain_pages before (pages_for n) (big_number 4 was.value)
  pub moves : Moves before (chain_pages before (pages_for n) (big_number 4 was.value)) mid
      (chain_pages before (pages_for n) (big_number 4 was.value))
  pub holds : chain_bytes mid (pages_for (length bytes)) (big_number 4 was.value) ≡ with_zeros bytes

pub is_rewritten : (before mid : List (Option Sector)) (bytes : List ℕ) (n : ℕ) (was : Entry) → length bytes ≡ n
    → Rewrites before bytes mid (big_number 4 was.value) → IsRewritten before bytes mid n was
is_rewritten before mid bytes n was many written =
    subst (λ (k : ℕ). IsRewritten before bytes mid k was) many
    (record { chain = written.stands; same = written.same; moves = written.moves; holds = written.holds })

pub rewritten_tree : (before mid : List (Option Sector)) (rows : ChainedTree) (levels : List (List TreeNode))
    (key bytes : List ℕ) (was : Entry) → rows.record_bytes ≢ 0 → among.Stands before rows levels
    → entry_with (stored_in rows levels) key ≡ Some was → IsRewritten before bytes mid rows.record_bytes was
    → IsTreeOrEmpty rows.tree.layout mid rows.tree.root levels
rewritten_tree before mid rows levels key bytes was long stands found written =
    let n = rows.record_bytes in
    let own = chain_pages before (pages_for n) (big_number 4 was.value) in
    tree_still before mid own own rows levels stands written.moves
    (of_chain n was (λ count page. Apart (pages_of levels) (chain_pages before count page)) long
    (held_chain before rows levels key was stands found).apart)

-- And its entry got what follows the record.
pub replaced_long : (before mid after : List (Option Sector)) (left right : List TreeLevels) (old : ChainedTree)
    (entries : List Entry) (is : IsRowTreeAmong before left right old entries) (was entry : Entry)
    (bytes value : List ℕ) → old.record_bytes ≢ 0 → length bytes ≡ old.record_bytes
    → entry_with (stored_in old is.planted.levels) entry.key ≡ Some was
    → big_number 4 entry.value ≡ big_number 4 was.value → bytes ++ drop 4 entry.value ≡ value
    → IsRewritten before bytes mid old.record_bytes was
    → Becomes old.tree.layout mid is.planted.levels after old.tree.root
    (with_value (stored_in old is.planted.levels) entry)
    → IsRowTreeAmong after left right old (with_value entries (pair entry.key value))
replaced_long before mid after left right old entries is was entry bytes value long many found first whole written
    made =
    let n = old.record_bytes in
    let own = chain_of (form_of n) before was in
    let was_own : chain_pages before (pages_for n) (big_number 4 was.value) ≡ own =
    as_chain n was (λ count page. chain_pages before (pages_for n) (big_number 4 was.value)
    ≡ chain_pages before count page) long refl in
    let same = ap (chain_pages mid (pages_for n)) first ∙ written.same ∙ was_own in
    rewritten before mid after left right old entries is was entry (pair entry.key value) found
    (as_chain n entry (Stands mid) long (subst (Stands mid (pages_for n)) (sym first) written.chain))
    (as_chain n entry (λ count page. chain_pages mid count page ≡ own) long same)
    (subst (λ (l : List ℕ). Moves before l mid l) was_own written.moves)
    (seen_with n mid entry bytes long many
    (subst (λ page. chain_bytes mid (pages_for (length bytes)) page ≡ with_zeros bytes) (sym first) written.holds)
    ∙ ap (pair entry.key) whole) made
