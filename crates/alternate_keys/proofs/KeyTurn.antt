-- The turn of an alternate key, while the pairs of a row move.
use Rattle.std.proofs.Common.{◌≡◌, ◌<◌, ◌+◌, ◌++◌, Bool, true, false, ℕ, List, [], ◌∷◌, length, drop, refl, sym, ap}
use Rattle.std.proofs.Common.{subst, ◌∙◌, arith}
use Rattle.std.specs.Prelude.{Option, Result, Ok, Err, OnOk, IsOkUnless, slice_index_or, if◌then◌else◌}
use Rattle.std.specs.Result.{IsErrAnd}
use Rattle.station.specs.Disk.{Sector}
use Rattle.pages.specs.declared.page_map.PageMap.{PageMap}
use Rattle.btree.specs.Results.{FewChanged}
use Rattle.btree.specs.Rooted.{RootedTree}
use Rattle.btree.specs.Entries.{Entry, with_new_entry, without_entry}
use Rattle.records.specs.declared.fault.StoreFault.{StoreFault}
use Rattle.records.specs.declared.fault.StoreFault.TheVariants.{Memory}
use Rattle.records.specs.declared.key.KeyOfReference.TheVariants.{Alternate}
use Rattle.records.specs.Spec.{Spec}
use Rattle.records.specs.Files.{File}
use Rattle.volume_format.specs.Forest.{TreeLevels, IsForest}
use Rattle.volume_format.specs.Grows.{IsTreeAmong}
use Rattle.volume_format.specs.Trees.{AreOf}
use Rattle.volume_format.specs.Volume.{no_tree}
use Rattle.alternate_keys.specs.declared.row_verb.RowVerb.{RowVerb}
use Rattle.alternate_keys.specs.declared.row_verb.RowVerb.TheVariants.{Replace}
use Rattle.alternate_keys.specs.Moved.{pair_entry, old_key, changes_at, entries_after, MayMove, PairsMove, PairsMayMove}
use Rattle.alternate_keys.specs.Placed.{HasIndexes, HaveBecome, listed_tree}
use Rattle.alternate_keys.proofs.Keeping.{same_tree}
use Rattle.alternate_keys.proofs.Passing.{passed}
use Rattle.alternate_keys.proofs.Pairing.{stands_next, become_next, entries_ascend}
use Rattle.alternate_keys.proofs.Walks.{drop_none}

-- the trees of the first `i` keys have become those of the changed file, and the next one is `tree`
pub record IsTurn (held after : File) (before here : List (Option Sector)) (left right trees : List TreeLevels)
    (listing : List ℕ) (i : ℕ) (roots : List ℕ) (tree : RootedTree) : Type 0 where
  pub has : HasIndexes held before left right trees listing
  pub become : HaveBecome after here left right trees i roots
  pub low : i < length held.spec.alternates
  pub tree_is : tree ≡ listed_tree held.spec i listing

-- before the first turn no tree has become another
pub none_become : {held : File} {before : List (Option Sector)} {left right trees : List TreeLevels} {listing : List ℕ}
    → HasIndexes held before left right trees listing → (after : File) (roots : List ℕ) → roots ≡ []
    → HaveBecome after before left right trees 0 roots
none_become {before} {left} {right} {trees} has after roots none = record {
  done = [];
  count = refl;
  forest = subst (λ (ts : List TreeLevels). IsForest before (left ++ (ts ++ right))) (sym (drop_none trees)) has.forest;
  indexes = λ k less. absurd (omega (arith, less));
  roots_are = sym none;
}

-- the turn of a key of the file, with the tree that the catalog lists
pub turn_of : {held after : File} {before here : List (Option Sector)} {left right trees : List TreeLevels}
    {listing : List ℕ} {i : ℕ} {roots : List ℕ} → HasIndexes held before left right trees listing
    → HaveBecome after here left right trees i roots → (spec : Spec) → held.spec ≡ spec → i < length spec.alternates
    → (tree : RootedTree) → tree.layout ≡ (listed_tree spec i listing).layout
    → tree.root ≡ (listed_tree spec i listing).root
    → IsTurn held after before here left right trees listing i roots tree
turn_of {listing} {i} has become spec is low tree layout root = record {
  has = has;
  become = become;
  low = subst (λ (s : Spec). i < length s.alternates) (sym is) low;
  tree_is = same_tree tree (listed_tree spec i listing) layout root
      ∙ ap (λ (s : Spec). listed_tree s i listing) (sym is);
}

-- the entries after a row got another record with another value of the key
pub entries_replaced : (verb : RowVerb) (spec : Spec) (i : ℕ) (old bytes : List ℕ) (arrival : ℕ) (entries : List Entry)
    → verb ≡ Replace → changes_at spec i old bytes ≡ true → entries_after verb spec i old bytes arrival entries
    ≡ with_new_entry (without_entry entries (old_key spec i old)) (pair_entry spec i bytes arrival)
entries_replaced verb spec i old bytes arrival entries is change =
    let later : List Entry =
    with_new_entry (without_entry entries (old_key spec i old)) (pair_entry spec i bytes arrival) in
    ap (λ (v : RowVerb). entries_after v spec i old bytes arrival entries) is
    ∙ ap (λ (b : Bool). if b then later else entries) change

-- and those after it got one with the same value
pub entries_still : (verb : RowVerb) (spec : Spec) (i : ℕ) (old bytes : List ℕ) (arrival : ℕ) (entries : List Entry)
    → verb ≡ Replace → changes_at spec i old bytes ≡ false
    → entries_after verb spec i old bytes arrival entries ≡ entries
entries_still verb spec i old bytes arrival entries is change =
    let later : List Entry =
    with_new_entry (without_entry entries (old_key spec i old)) (pair_entry spec i bytes arrival) in
    ap (λ (v : RowVerb). entries_after v spec i old bytes arrival entries) is
    ∙ ap (λ (b : Bool). if b then later else entries) change

-- a refusal for want of memory
pub refused_for_memory : {T : Type 0} (r : Result T StoreFault) → IsErrAnd r (λ e. e ≡ Memory) → IsOkUnless r Memory
refused_for_memory r is = passed r Memory is (λ q. IsOkUnless q Memory) refl

-- how many pages a pair changes that comes or leaves, and one that does both
pub few_for_one : {T E : Type 0} (r : Result T E) (old new : PageMap) → OnOk r (FewChanged 42 old new)
    → OnOk r (FewChanged 84 old new)
few_for_one (Ok x) old new few = omega (arith, few)
few_for_one (Err e) old new few = tt

pub few_given : {T E : Type 0} (r : Result T E) (old mid new : PageMap) → FewChanged 42 old mid
    → FewChanged 42 mid new → OnOk r (FewChanged 84 old new)
few_given (Ok x) old mid new first second = omega (arith, first, second)
few_given (Err e) old mid new first second = tt

module _ {held after : File} {before here : List (Option Sector)} {left right trees : List TreeLevels}
    {listing : List ℕ} {i : ℕ} {roots : List ℕ} {tree : RootedTree}
    (turn : IsTurn held after before here left right trees listing i roots tree) where
  -- the trees around it, and its entries
  abbrev pub lefts : List TreeLevels
  lefts = left ++ turn.become.done

  abbrev pub rights : List TreeLevels
  rights = drop (i + 1) trees ++ right

  abbrev pub entries_there : List Entry
  entries_there = (slice_index_or trees i no_tree).entries

  pub turn_stands : IsTreeAmong here lefts rights tree entries_there
  turn_stands = stands_next held after before here left right trees listing i roots turn.has turn.become turn.low tree
      turn.tree_is

  -- its pairs may move
  pub turn_may : (verb : RowVerb) (spec : Spec) (old bytes : List ℕ) (arrival : ℕ) → held.spec ≡ spec
      → PairsMayMove verb held old bytes arrival → MayMove verb spec i old bytes arrival entries_there
  turn_may verb spec old bytes arrival is may =
      subst (λ (s : Spec). MayMove verb s i old bytes arrival entries_there) is
      (may i entries_there turn.low (turn.has.indexes i turn.low).pairs
      (entries_ascend here lefts rights tree entries_there turn_stands))

  -- it has become a tree of the changed file
  pub turn_over : (verb : RowVerb) (spec : Spec) (old bytes : List ℕ) (arrival : ℕ) → held.spec ≡ spec
      → after.spec ≡ held.spec → PairsMove verb held after old bytes arrival → (later : List (Option Sector))
      (new : RootedTree) → new.layout ≡ tree.layout
      → IsTreeAmong later lefts rights new (entries_after verb spec i old bytes arrival entries_there)
      → (next : List ℕ) → roots ++ new.root ∷ [] ≡ next → HaveBecome after later left right trees (i + 1) next
  turn_over verb spec old bytes arrival is spec_then move later new layout put next pushed =
      let own = move i entries_there turn.low (turn.has.indexes i turn.low).pairs
      (entries_ascend here lefts rights tree entries_there turn_stands) in
      let mine = subst (λ (s : Spec). AreOf after.spec (Alternate i) after.rows
      (entries_after verb s i old bytes arrival entries_there)) (spec_then ∙ is) own in
      subst (λ (l : List ℕ). HaveBecome after later left right trees (i + 1) l) pushed
      (become_next held after before here later left right trees listing i roots turn.has turn.become turn.low tree new
      (entries_after verb spec i old bytes arrival entries_there) turn.tree_is layout spec_then mine put)
