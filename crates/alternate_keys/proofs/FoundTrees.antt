-- The trees in which a row of a file that was found is sought.
use Rattle.std.proofs.Common.{◌≡◌, ◌≤◌, ◌<◌, ◌^◌, ℕ, Bool, true, List, length, refl, sym, ap, subst, ◌∙◌, arith}
use Rattle.std.specs.Prelude.{Option, Some}
use Rattle.std.proofs.lemmas.Bool.{eqb-true}
use Rattle.station.specs.Disk.{Sector}
use Rattle.pages.specs.Image.{Map}
use Rattle.btree.specs.Rooted.{RootedTree}
use Rattle.btree.specs.Entries.{Entry}
use Rattle.records.specs.declared.file_spec.AlternateKey.{AlternateKey}
use Rattle.records.specs.declared.file_spec.KeyPlace.{KeyPlace}
use Rattle.records.specs.declared.file_spec.Organization.{Organization}
use Rattle.records.specs.declared.file_spec.Organization.TheVariants.{Sequential, Relative, Indexed}
use Rattle.records.specs.declared.key.KeyOfReference.{KeyOfReference}
use Rattle.records.specs.declared.key.KeyOfReference.TheVariants.{Prime, Alternate}
use Rattle.records.specs.Spec.{Spec, is_spec, are_keys}
use Rattle.records.specs.Rows.{prime_place}
use Rattle.records.specs.Order.{RowBound}
use Rattle.records.specs.Stores.{IsKey}
use Rattle.records.specs.Files.{File, Files, file_at}
use Rattle.volume_format.specs.Chained.{chained_bytes}
use Rattle.volume_format.specs.Trees.{layout_under}
use Rattle.row_trees.specs.RowTree.{ChainedTree}
use Rattle.file_bytes.specs.Rows.{prime_key_length}
use Rattle.volume_format.specs.Volume.{FileTrees}
use Rattle.volume_format.proofs.Small.{place_short, spec_keys}
use Rattle.alternate_keys.specs.declared.search_start.SearchStart.{SearchStart}
use Rattle.alternate_keys.specs.Aims.{IsBound, aim_of, aim_key}
use Rattle.alternate_keys.specs.Listed.{IsFoundFile, IsListed, root_in}
use Rattle.alternate_keys.specs.Notes.{IsListingOf}
use Rattle.alternate_keys.specs.Seen.{HasRows, HasPairs, IsSought, row_tree_of}
use Rattle.alternate_keys.proofs.RowForms.{same_rows}
use Rattle.alternate_keys.proofs.Keeping.{rows_seen, pairs_seen, tree_is, tree_under}
use Rattle.alternate_keys.proofs.Noted.{listing_as}

-- only an indexed file has alternate keys
indexed_by : (n : ℕ) (o : Organization) (keys : List AlternateKey) (i : ℕ) → are_keys n o keys ≡ true → i < length keys
    → (place : KeyPlace) × (o ≡ Indexed place)
indexed_by n Sequential keys i is within =
    absurd (let none : length keys ≡ 0 = eqb-true _ _ is in omega (arith, none, within))
indexed_by n Relative keys i is within =
    absurd (let none : length keys ≡ 0 = eqb-true _ _ is in omega (arith, none, within))
indexed_by n (Indexed place) keys i is within = (place, refl)

pub indexed : (spec : Spec) (key : KeyOfReference) → is_spec spec ≡ true → IsKey spec key → (i : ℕ) → key ≡ Alternate i
    → (place : KeyPlace) × (spec.organization ≡ Indexed place)
indexed spec key is within i same =
    let own : IsKey spec (Alternate i) = subst (IsKey spec) same within in
    indexed_by spec.record_length spec.organization spec.alternates i (spec_keys spec is) own

key_by : (spec : Spec) (o : Organization) → spec.organization ≡ o → is_spec spec ≡ true → prime_key_length o ≤ 128
key_by spec Sequential same is = omega arith
key_by spec Relative same is = omega arith
key_by spec (Indexed place) same is =
    let short = place_short spec Prime is (omega arith) in
    let here : (prime_place spec.organization).length ≡ place.length =
    ap (λ (o : Organization). (prime_place o).length) same in
    omega (arith, short, here)

pub layout_short : (spec : Spec) (key : KeyOfReference) → is_spec spec ≡ true → IsKey spec key
    → (layout_under spec key).key_length ≤ 128
layout_short spec Prime is within = key_by spec spec.organization refl is
layout_short spec (Alternate i) is within = let short = place_short spec (Alternate i) is within in omega (arith, short)

-- the file that was found, under another name for it and its spec
rows_as : (pages : List (Option Sector)) (one : File) (held : File) (spec : Spec) (own : ChainedTree) (tree :
    ChainedTree)
    → one ≡ held → held.spec ≡ spec → tree ≡ own → HasRows one.spec pages one.rows own
    → HasRows spec pages held.rows tree
rows_as pages one held spec own tree same is there rows =
    subst (λ (t : ChainedTree). HasRows spec pages held.rows t) (sym there)
    (subst (λ (s : Spec). HasRows s pages held.rows own) is
    (subst (λ (f : File). HasRows f.spec pages f.rows own) same rows))

pairs_as : (pages : List (Option Sector)) (one : File) (held : File) (spec : Spec)
    (key : KeyOfReference) (own : RootedTree) (tree : RootedTree) → one ≡ held → held.spec ≡ spec → tree ≡ own
    → HasPairs one.spec key pages one.rows own → HasPairs spec key pages held.rows tree
pairs_as pages one held spec key own tree same is there pairs =
    subst (λ (t : RootedTree). HasPairs spec key pages held.rows t) (sym there)
    (subst (λ (s : Spec). HasPairs s key pages held.rows own) is
    (subst (λ (f : File). HasPairs f.spec key pages f.rows own) same pairs))

-- what the catalog says of a name, by another word for it
pub listed_as : (m : Map) (files : Files) (one two : List ℕ) (listed : Option Entry) → one ≡ two
    → IsListed m (file_at one files) listed → IsListed m (file_at two files) listed
listed_as m files one two listed same is = subst (λ (n : List ℕ). IsListed m (file_at n files) listed) same is

-- what is known where the trees of a file are looked into
pub record Knows (m : Map) (found : Option File) (held : File) (spec : Spec) (key : KeyOfReference)
    (listing : List ℕ) (prime : ChainedTree) (under : RootedTree) : Type 0 where
  pub few : m.generation < 2 ^ 63
  pub small : length m.pages ≤ 921600
  pub listed : IsListingOf m found true listing
  pub there : found ≡ Some held
  pub spec_is : held.spec ≡ spec
  pub good : is_spec spec ≡ true
  pub key_is : IsKey spec key
  pub prime_layout : prime.tree.layout ≡ layout_under spec Prime
  pub prime_root : prime.tree.root ≡ root_in Prime listing
  pub prime_form : prime.record_bytes ≡ chained_bytes spec
  pub under_layout : under.layout ≡ layout_under spec key
  pub under_root : under.root ≡ root_in key listing

-- this is known of a file that was found by another word for its name, and of the trees of its spec
pub knows_listed : (m : Map) (files : Files) (held : File) (spec : Spec) (key : KeyOfReference) (word name : List ℕ)
    (found : Bool) (listing : List ℕ) (prime : ChainedTree) (under : RootedTree)
    → (m.generation < 2 ^ 63) × (length m.pages ≤ 921600) → word ≡ name → found ≡ true
    → IsListingOf m (file_at word files) found listing → file_at name files ≡ Some held → held.spec ≡ spec
    → is_spec spec ≡ true → IsKey spec key → prime.tree.layout ≡ layout_under spec Prime
    → prime.tree.root ≡ root_in Prime listing → prime.record_bytes ≡ chained_bytes spec
    → under.layout ≡ layout_under spec key → under.root ≡ root_in key listing
    → Knows m (file_at name files) held spec key listing prime under
knows_listed m files held spec key word name found listing prime under bounds same is_found listed there spec_is good
    key_is prime_layout prime_root prime_form under_layout under_root = record {
      few = bounds.0;
      small = bounds.1;
      listed = listing_as m files word name found listing same is_found listed;
      there = there;
      spec_is = spec_is;
      good = good;
      key_is = key_is;
      prime_layout = prime_layout;
      prime_root = prime_root;
      prime_form = prime_form;
      under_layout = under_layout;
      under_root = under_root;
    }

pub sought_in : (m : Map) (found : Option File) (held : File) (spec : Spec) (key : KeyOfReference) (bound : RowBound)
    (listing : List ℕ) (prime : ChainedTree) (under : RootedTree) (way : SearchStart) (at : List ℕ) →
    Knows m found held spec key listing prime under → IsBound spec key bound → way ≡ aim_of spec key bound
    → at ≡ aim_key spec key bound → IsSought spec key bound m.pages held.rows prime under way at
sought_in m found held spec key bound listing prime under way at knows bounded way_is at_is =
    let there = knows.listed in
    let kept : FileTrees = there.0 in
    let is : IsFoundFile m found kept = there.1 in
    let some : Some kept.named.file ≡ Some held = sym is.there ∙ knows.there in
    let same : kept.named.file ≡ held = cc in
    let spec_is : kept.named.file.spec ≡ spec = ap (λ (f : File). f.spec) same ∙ knows.spec_is in
    let low = knows.small in
    let small : length m.pages ≤ 2 ^ 20 = omega (arith, low) in
    let value = there.2 in
    let own : IsKey kept.named.file.spec key = subst (λ (s : Spec). IsKey s key) (sym spec_is) knows.key_is in
    let own_rows : ChainedTree = row_tree_of kept.named.file.spec kept.prime.tree in
    let prime_is : prime ≡ own_rows = same_rows prime own_rows
    (tree_is m found kept spec Prime listing prime.tree is small spec_is (omega arith) value
    knows.prime_layout knows.prime_root) (knows.prime_form ∙ ap chained_bytes (sym spec_is)) in
    let under_is =
    tree_is m found kept spec key listing under is small spec_is knows.key_is value knows.under_layout
    knows.under_root in
    record {
      there = rows_as m.pages kept.named.file held spec own_rows prime same knows.spec_is prime_is
          (rows_seen m found kept is knows.few);
      pairs = pairs_as m.pages kept.named.file held spec key (tree_under key kept).tree under same knows.spec_is
          under_is (pairs_seen m found kept key is knows.few own);
      bounded = bounded;
      way_is = way_is;
      at_is = at_is;
      indexed = indexed spec key knows.good knows.key_is;
    }
