-- The row that an entry was found for, and what a search says of it.
use Rattle.std.proofs.Common.{◌≡◌, ℕ, List, [], ◌∷◌, length, refl, sym, ap, subst, ◌∙◌}
use Rattle.std.specs.Prelude.{Contains, Option, Some}
use Rattle.std.specs.Option.{option_map}
use Rattle.std.proofs.lemmas.List.Elements.{All-contains, All-cons, All-head, All-nil}
use Rattle.station.specs.Disk.{Sector}
use Rattle.btree_pages.specs.declared.row_layout.RowLayout.{RowLayout}
use Rattle.btree.specs.Tree.{TreeNode, IsTreeOrEmpty}
use Rattle.btree.specs.Rooted.{RootedTree}
use Rattle.btree.specs.Entries.{Entry, HasLengths, entries_of}
use Rattle.chains.specs.Rows.{HasChain}
use Rattle.chains.proofs.Rows.{keys_kept}
use Rattle.records.specs.declared.key.KeyOfReference.{KeyOfReference}
use Rattle.records.specs.declared.key.KeyOfReference.TheVariants.{Prime, Alternate}
use Rattle.records.specs.Spec.{Spec}
use Rattle.records.specs.Rows.{Row}
use Rattle.records.specs.Order.{RowBound}
use Rattle.records.specs.Stores.{key_length, record_of}
use Rattle.volume_format.specs.Chained.{chained_bytes, form_of}
use Rattle.volume_format.specs.Trees.{entry_under}
use Rattle.volume_format.specs.Pairs.{IsUnder}
use Rattle.row_trees.specs.Reading.{HasRecord, IsRecordLength}
use Rattle.row_trees.specs.RowTree.{ChainedTree}
use Rattle.alternate_keys.specs.declared.search_start.SearchStart.{SearchStart}
use Rattle.alternate_keys.specs.Aims.{found_entry}
use Rattle.alternate_keys.specs.Seen.{HasRows, HasPairs, HaveChains, IsPairEntry, IsRowEntry, IsSought}
use Rattle.alternate_keys.proofs.RowForms.{has_record, record_length_is}
use Rattle.alternate_keys.proofs.Seeing.{found_in}
use Rattle.alternate_keys.proofs.Tells.{IsFor, found_for}

-- the row, how it was sought, and the lengths of its key and record
pub record IsRowFor (spec : Spec) (key : KeyOfReference) (bound : RowBound) (pages : List (Option Sector))
    (rows : List Row) (prime : ChainedTree) (under : RootedTree) (way : SearchStart) (at : List ℕ) (entry : Entry) :
    Type 0 where
  pub look : IsSought spec key bound pages rows prime under way at
  pub for : IsFor spec key bound pages rows entry
  -- the chain of its record stands
  pub chain : HaveChains spec key pages (entry ∷ [])
  pub is_under : IsUnder spec key for.row
  pub long : length for.row.bytes ≡ spec.record_length

chain_of : (spec : Spec) (key : KeyOfReference) (pages : List (Option Sector)) (entries : List Entry) (entry : Entry)
    → HaveChains spec key pages entries → Contains entries entry → HaveChains spec key pages (entry ∷ [])
chain_of spec Prime pages entries entry stand has =
    let chained : Entry → Type 0 = HasChain (form_of (chained_bytes spec)) pages in
    All-cons chained entry [] (All-contains chained entries entry stand has) (All-nil chained)
chain_of spec (Alternate i) pages entries entry stand has = tt

pub row_for : (spec : Spec) (key other : KeyOfReference) (bound : RowBound) (pages : List (Option Sector))
    (rows : List Row) (prime : ChainedTree) (under : RootedTree) (way : SearchStart) (at : List ℕ) (answer : Option
    Entry)
    (entry : Entry) → IsSought spec key bound pages rows prime under way at → key ≡ other
    → ((levels : List (List TreeNode)) → IsTreeOrEmpty under.layout pages under.root levels
    → answer ≡ found_entry way (entries_of under.layout levels) at) → answer ≡ Some entry →
    IsRowFor spec other bound pages rows prime under way at entry
row_for spec key other bound pages rows prime under way at answer entry look same tells some =
    let own =
    subst (λ (k : KeyOfReference). IsSought spec k bound pages rows prime under way at) same look in
    let for = found_for spec other bound pages rows prime under way at answer entry own
    (tells own.pairs.levels own.pairs.holds) some in
    record {
      look = own;
      for = for;
      chain = chain_of spec other pages (entries_of under.layout own.pairs.levels) entry own.pairs.stand
          (found_in way (entries_of under.layout own.pairs.levels) at entry
          (sym (tells own.pairs.levels own.pairs.holds) ∙ some));
      is_under = All-contains (IsUnder spec other) rows for.row own.pairs.fits for.has;
      long = All-contains (λ (r : Row). length r.bytes ≡ spec.record_length) rows for.row own.there.records for.has;
    }

-- in the tree of rows, of pages that stay
pub row_entry_for : (spec : Spec) (bound : RowBound) (pages later : List (Option Sector)) (rows : List Row)
    (prime : ChainedTree) (under : RootedTree) (way : SearchStart) (at : List ℕ) (entry : Entry) →
    (row : IsRowFor spec Prime bound pages rows prime under way at entry) → HasLengths under.layout entry
    → later ≡ pages → IsRowEntry spec prime.record_bytes later entry row.for.row
row_entry_for spec bound pages later rows prime under way at entry row lengths same =
    let n = chained_bytes spec in
    let long = lengths.1 ∙ ap (λ (l : RowLayout). l.value_length) row.look.pairs.layout in
    let chain = All-head (HasChain (form_of n) pages) entry [] row.chain in
    let own : IsRowEntry spec n pages entry row.for.row = record {
      is = row.for.entry_is;
      has = subst (HasRecord n pages entry) (sym row.long) (has_record spec pages entry long chain);
      fits = subst (IsRecordLength n) (sym row.long) (record_length_is spec);
    } in
    subst (λ (p : List (Option Sector)). IsRowEntry spec prime.record_bytes p entry row.for.row) (sym same)
    (subst (λ (k : ℕ). IsRowEntry spec k pages entry row.for.row) (sym row.look.there.form) own)

-- its key is that of the row
pub row_key_for : {spec : Spec} {bytes : ℕ} {pages : List (Option Sector)} {entry : Entry} {row : Row}
    → IsRowEntry spec bytes pages entry row → entry.key ≡ (entry_under spec Prime row).key
row_key_for {bytes} {pages} {entry} is =
    sym (keys_kept (form_of bytes) pages entry) ∙ ap (λ (e : Entry). e.key) is.is

-- in the tree of an alternate key, of pages that stay
pub pair_entry_for : (spec : Spec) (i : ℕ) (bound : RowBound) (pages later : List (Option Sector)) (rows : List Row)
    (prime : ChainedTree) (under : RootedTree) (way : SearchStart) (at : List ℕ) (entry : Entry) (long : ℕ) →
    (row : IsRowFor spec (Alternate i) bound pages rows prime under way at entry) → later ≡ pages
    → long ≡ key_length spec (Alternate i) → IsPairEntry spec i later rows prime under long entry row.for.row
pair_entry_for spec i bound pages later rows prime under way at entry long row same is =
    let place = row.look.indexed i refl in
    record {
      place = place.0;
      indexed = place.1;
      there = subst (λ (p : List (Option Sector)). HasRows spec p rows prime) (sym same) row.look.there;
      pairs = subst (λ (p : List (Option Sector)). HasPairs spec (Alternate i) p rows under) (sym same) row.look.pairs;
      long = is;
      has = row.for.has;
      is = row.for.entry_is;
    }

-- what is told of a row is told of the row that is sought, under the same key
pub told_as : {T : Type 0} (tell : KeyOfReference → Row → T) (sought : KeyOfReference → Option Row)
    (key other : KeyOfReference) (row : Row) (told : T) → key ≡ other → sought other ≡ Some row
    → told ≡ tell other row → Some told ≡ option_map (tell key) (sought key)
told_as {T} tell sought key other row told same is tells =
    let F : KeyOfReference → Type 0 = λ k. Some told ≡ option_map (tell k) (sought k) in
    subst F (sym same) (ap Some tells ∙ sym (ap (option_map (tell other)) is))

pub record_as : (sought : KeyOfReference → Option Row) (key other : KeyOfReference) (row : Row) (old new : List ℕ)
    → key ≡ other → sought other ≡ Some row → new ≡ row.bytes → new ≡ record_of old (sought key)
record_as sought key other row old new same is bytes =
    let F : KeyOfReference → Type 0 = λ k. new ≡ record_of old (sought k) in
    subst F (sym same) (bytes ∙ sym (ap (record_of old) is))
