-- A file that is made, in place of another or under a new name.
use Rattle.std.proofs.Common.{◌≡◌, ◌⊎◌, inl, inr, ◌<◌, ◌≤◌, ◌+◌, ◌^◌, true, false, ℕ, List, [], length, refl, sym, ap}
use Rattle.std.proofs.Common.{subst, ◌∙◌, arith}
use Rattle.std.specs.Prelude.{map, take, replicate, Option, Some, None, IsSome}
use Rattle.std.specs.List.{flat_map}
use Rattle.station.specs.Disk.{Sector}
use Rattle.station.specs.State.{State}
use Rattle.station.specs.declared.device.Device.{Ghosts as Devices}
use Rattle.pages.specs.Image.{Map}
use Rattle.pages.specs.Use.{free_count}
use Rattle.pages.specs.Pages.{map_now, catalog_of, mark_of, committed_of, changed_pages_of, next_generation}
use Rattle.pages.specs.Pages.{IsUnchanged}
use Rattle.pages.specs.Pages.{SameCommitted}
use Rattle.pages.specs.declared.page_map.PageMap.{PageMap}
use Rattle.btree.specs.Calls.{pages_on}
use Rattle.btree.specs.Entries.{Entry, entry_with, with_new_entry, with_value}
use Rattle.btree.specs.Rooted.{RootedTree}
use Rattle.btree.proofs.Frames.{same_pages}
use Rattle.records.specs.declared.answer.Outcome.TheVariants.{Done}
use Rattle.records.specs.Changes.{FileChange}
use Rattle.records.specs.Files.{File, Files, AreFiles, AreShort, file_at, with_file, empty_file}
use Rattle.records.specs.Spec.{Spec, is_name, is_spec, is_long}
use Rattle.records.proofs.Changed.{created_are_files}
use Rattle.records.proofs.Short.{created_short}
use Rattle.file_bytes.specs.Description.{padded_name}
use Rattle.volume_format.specs.Calls.{LooksAt}
use Rattle.volume_format.specs.Catalog.{catalog_layout, catalog_value, listing_bytes}
use Rattle.volume_format.specs.Forest.{TreeLevels}
use Rattle.volume_format.specs.Grows.{IsTreeAmong}
use Rattle.volume_format.specs.Volume.{MapHolds, trees_of, catalog_entry}
use Rattle.alternate_keys.specs.Listed.{IsListed, catalog_at}
use Rattle.alternate_keys.specs.Placed.{HasFileTrees, HasTrees}
use Rattle.alternate_keys.specs.Stands.{LacksSpace}
use Rattle.alternate_keys.proofs.Added.{entry_as, added_count, holds_added}
use Rattle.alternate_keys.proofs.FoundTrees.{listed_as}
use Rattle.alternate_keys.proofs.Keeping.{same_tree}
use Rattle.alternate_keys.proofs.MadeFile.{kept_count, next_with, lacks_first}
use Rattle.alternate_keys.proofs.Placing.{left_of, right_of}
use Rattle.alternate_keys.proofs.Preparing.{own, named_here, trees_at, some_entry, around, catalog_stands}
use Rattle.alternate_keys.proofs.Preparing.{holds_after, will_hold}
use Rattle.alternate_keys.proofs.Still.{room_before}

module _ {D : Type 0} (d : Devices D) where
  -- the catalog stands among the trees of its files, after a call that only reads
  pub catalog_here : (A : Type 0) (p q : PageMap) (a b : D) (files : Files)
      (holds : MapHolds (map_now p (d.state a).disk.present) files) (tree : RootedTree) → d.is_honest a
      → LooksAt d A p a q b → tree.layout ≡ catalog_layout (mark_of q) → tree.root ≡ catalog_of q →
      IsTreeAmong (pages_on d q b) [] (flat_map trees_of holds.kept) tree
      (map (catalog_entry (mark_of p)) holds.kept)
  catalog_here A p q a b files holds tree honest looks layout root =
      let m : Map = map_now p (d.state a).disk.present in
      let same = same_pages p q (d.state a) (d.state b) looks.unchanged (looks.only.state honest) in
      let own_tree : tree ≡ catalog_at m.mark m.catalog = same_tree tree (catalog_at m.mark m.catalog)
      (layout ∙ ap catalog_layout (ap (λ (x : Map). x.mark) (looks.unchanged.map [])))
      (root ∙ ap (λ (x : Map). x.catalog) (looks.unchanged.map [])) in
      let first : IsTreeAmong m.pages [] (flat_map trees_of holds.kept) (catalog_at m.mark m.catalog)
      (map (catalog_entry m.mark) holds.kept) =
      record { levels = holds.keeps.catalog; forest = holds.keeps.forest; listed = holds.keeps.listed } in
      subst (λ (p : List (Option Sector)). IsTreeAmong p [] (flat_map trees_of holds.kept) tree
      (map (catalog_entry m.mark) holds.kept)) (sym same) (subst (λ (t : RootedTree). IsTreeAmong m.pages []
      (flat_map trees_of holds.kept) t (map (catalog_entry m.mark) holds.kept)) (sym own_tree) first)

  -- it has another root and other entries, by other words for its device, its root and a name
  catalog_after : (mark : ℕ) (r s : PageMap) (a b : D) (trees : List TreeLevels) (new : RootedTree)
      (later : List ℕ → List Entry) (key name : List ℕ) → d.state b ≡ d.state a → new.layout ≡ catalog_layout mark
      → new.root ≡ catalog_of s → key ≡ name
      → ((image : List Sector) → (map_now s image).pages ≡ (map_now r image).pages)
      → IsTreeAmong (pages_on d r b) [] trees new (later key) →
      IsTreeAmong (pages_on d s a) [] trees (catalog_at mark (catalog_of s)) (later name)
  catalog_after mark r s a b trees new later key name still layout root same pages put =
      let named = subst (λ (k : List ℕ). IsTreeAmong (pages_on d r b) [] trees new (later k)) same put in
      let back = subst (λ (x : State). IsTreeAmong (map_now r x.disk.present).pages [] trees new (later name)) still
      named in
      let rooted = subst (λ (t : RootedTree). IsTreeAmong (pages_on d r a) [] trees t (later name))
      (same_tree new (catalog_at mark (catalog_of s)) layout root) back in
      subst (λ (p : List (Option Sector)). IsTreeAmong p [] trees (catalog_at mark (catalog_of s)) (later name))
      (sym (pages (d.state a).disk.present)) rooted

  -- it has another root and a new entry, by another word for its value too
  pub catalog_with : (mark : ℕ) (r s : PageMap) (a b : D) (trees : List TreeLevels) (new : RootedTree)
      (entries : List Entry) (key name value spelled : List ℕ) → d.state b ≡ d.state a
      → new.layout ≡ catalog_layout mark → new.root ≡ catalog_of s → key ≡ name → value ≡ spelled
      → ((image : List Sector) → (map_now s image).pages ≡ (map_now r image).pages)
      → IsTreeAmong (pages_on d r b) [] trees new (with_new_entry entries (entry_as key value)) →
      IsTreeAmong (pages_on d s a) [] trees (catalog_at mark (catalog_of s))
      (with_new_entry entries (entry_as name spelled))
  catalog_with mark r s a b trees new entries key name value spelled still layout root same value_is pages put =
      catalog_after mark r s a b trees new (λ (k : List ℕ). with_new_entry entries (entry_as k spelled)) key name still
      layout root same pages (subst (λ (v : List ℕ). IsTreeAmong (pages_on d r b) [] trees new
      (with_new_entry entries (entry_as key v))) value_is put)

  catalog_put : (mark : ℕ) (r : PageMap) (a b : D) (trees : List TreeLevels) (before catalog root : ℕ)
      (later : ℕ → List ℕ → List ℕ → List Entry) (key name value listing : List ℕ) → d.state b ≡ d.state a
      → before ≡ mark → catalog ≡ root → key ≡ name → value ≡ listing
      → IsTreeAmong (pages_on d r b) [] trees (catalog_at before catalog) (later before key value) →
      IsTreeAmong (pages_on d r a) [] trees (catalog_at mark root) (later mark name listing)
  catalog_put mark r a b trees before catalog root later key name value listing still marked rooted named listed put =
      let at_mark =
      subst (λ (m : ℕ). IsTreeAmong (pages_on d r b) [] trees (catalog_at m catalog) (later m key value)) marked put in
      let at_name =
      subst (λ (k : List ℕ). IsTreeAmong (pages_on d r b) [] trees (catalog_at mark catalog) (later mark k value))
      named at_mark in
      let at_value =
      subst (λ (v : List ℕ). IsTreeAmong (pages_on d r b) [] trees (catalog_at mark catalog) (later mark name v))
      listed at_name in
      let at_root =
      subst (λ (n : ℕ). IsTreeAmong (pages_on d r b) [] trees (catalog_at mark n) (later mark name listing))
      rooted at_value in
      subst (λ (x : State). IsTreeAmong (map_now r x.disk.present).pages [] trees (catalog_at mark root)
      (later mark name listing)) still at_root

-- the map after a call that only reads
pub map_still : (p q : PageMap) (before after : State) → IsUnchanged p q → after ≡ before
    → map_now q after.disk.present ≡ map_now p before.disk.present
map_still p q before after unchanged still =
    ap (λ (s : State). map_now q s.disk.present) still ∙ unchanged.map before.disk.present

-- A file of a map, with its trees in these pages, and what the catalog says of it.
pub record IsThere (m : Map) (files : Files) (holds : MapHolds m files) (name : List ℕ) (named : is_name name ≡ true)
    (pages : List (Option Sector)) (value : List ℕ) : Type 0 where
  pub held : File
  pub there : file_at name files ≡ Some held
  pub trees : HasTrees held.spec (named_here m files holds name held named there) m.generation pages
      (left_of m files holds name held (own m files holds name held named there))
      (right_of m files holds name held (own m files holds name held named there)) value

is_there : (m : Map) (files : Files) (holds : MapHolds m files) (name : List ℕ) (named : is_name name ≡ true)
    (pages : List (Option Sector)) (value : List ℕ) (answer : Option Entry) (entry : Entry)
    → answer ≡ entry_with (map (catalog_entry m.mark) holds.kept) (padded_name name)
    → IsListed m (file_at name files) answer
    → answer ≡ Some entry → value ≡ take 83 entry.value → m.generation < 2 ^ 63 → length m.pages ≤ 921600
    → pages ≡ m.pages →
    IsThere m files holds name named pages value
is_there m files holds name named pages value answer entry told listed some is few small same =
    let here = subst (IsListed m (file_at name files)) some listed in
    let held : File = here.0.named.file in
    let there : file_at name files ≡ Some held = here.1.there in
    let found = own m files holds name held named there in
    record {
      held = held;
      there = there;
      trees = subst (λ (p : List (Option Sector)). HasTrees held.spec (named_here m files holds name held named there)
          m.generation p (left_of m files holds name held found) (right_of m files holds name held found) value)
          (sym same) (trees_at m files holds name held named there answer told held.spec value entry refl few small
          some is);
    }

-- It is found by another word for its name.
pub is_there_as : (m : Map) (files : Files) (holds : MapHolds m files) (word name : List ℕ)
    (named : is_name name ≡ true) (pages : List (Option Sector)) (value : List ℕ) (answer : Option Entry)
    (entry : Entry) → word ≡ name
    → answer ≡ entry_with (map (catalog_entry m.mark) holds.kept) (padded_name word)
    → IsListed m (file_at word files) answer
    → answer ≡ Some entry → value ≡ take 83 entry.value → m.generation < 2 ^ 63 → length m.pages ≤ 921600
    → pages ≡ m.pages → IsThere m files holds name named pages value
is_there_as m files holds word name named pages value answer entry same told listed some is few small pages_are =
    is_there m files holds name named pages value answer entry
    (told ∙ ap (λ (n : List ℕ). entry_with (map (catalog_entry m.mark) holds.kept) (padded_name n)) same)
    (listed_as m files word name answer same listed) some is few small pages_are

module _ {m : Map} {files : Files} {holds : MapHolds m files} {name : List ℕ} {named : is_name name ≡ true}
    {pages : List (Option Sector)} {value : List ℕ} (here : IsThere m files holds name named pages value) where
  -- the trees before it and after it
  abbrev pub left_there : List TreeLevels
  left_there = left_of m files holds name here.held (own m files holds name here.held named here.there)

  abbrev pub right_there : List TreeLevels
  right_there = right_of m files holds name here.held (own m files holds name here.held named here.there)

  -- its entry is in the catalog, by another word for its name
  pub entry_is_there : (word : List ℕ) → word ≡ name
      → IsSome (entry_with (map (catalog_entry m.mark) holds.kept) (padded_name word))
  entry_is_there word same =
      subst (λ (n : List ℕ). IsSome (entry_with (map (catalog_entry m.mark) holds.kept) (padded_name n))) (sym same)
      (some_entry m files holds name here.held named here.there)

  -- a file without rows is in its place
  abbrev pub IsEmptied : Spec → List (Option Sector) → List ℕ → Type 0
  IsEmptied spec between listing = HasFileTrees (record { name = name; file = empty_file spec }) (m.generation + 1)
      between left_there right_there listing

  abbrev emptied : Spec → FileChange
  emptied spec = record { outcome = Done; file = empty_file spec }

  abbrev pub all_around : (spec : Spec) (between : List (Option Sector)) (listing : List ℕ)
      → IsEmptied spec between listing → List TreeLevels
  all_around spec between listing placed =
      around m files holds name here.held named here.there (emptied spec) between listing placed

  pub stands_emptied : (spec : Spec) (between : List (Option Sector)) (listing : List ℕ)
      → (placed : IsEmptied spec between listing) → (mark catalog : ℕ) → mark ≡ m.mark → catalog ≡ m.catalog →
      IsTreeAmong between [] (all_around spec between listing placed) (catalog_at mark catalog)
      (map (catalog_entry m.mark) holds.kept)
  stands_emptied spec between listing placed mark catalog marked same =
      subst (λ (n : ℕ). IsTreeAmong between [] (all_around spec between listing placed) (catalog_at n catalog)
      (map (catalog_entry m.mark) holds.kept)) (sym marked) (catalog_stands m files holds name here.held named
      here.there (emptied spec) between listing placed catalog same)

  -- and the catalog says so
  made_there : (spec : Spec) (between : List (Option Sector)) (listing : List ℕ)
      → (placed : IsEmptied spec between listing) → is_spec spec ≡ true → (m.mark ≡ 0 → is_long spec ≡ false)
      → (p q : PageMap) (image : List Sector)
      → map_now p image ≡ m → SameCommitted p q → catalog_of q ≡ catalog_of p →
      IsTreeAmong (map_now q image).pages [] (all_around spec between listing placed) (catalog_at m.mark m.catalog)
      (with_value (map (catalog_entry m.mark) holds.kept)
      (entry_as (padded_name name) (catalog_value m.mark listing 0)))
      → MapHolds (next_generation (map_now q image)) (with_file name (empty_file spec) files)
  made_there spec between listing placed sound fits p q image is same catalog put =
      let long : length (with_file name (empty_file spec) files) ≡ length files =
      ap (λ (l : Files). length (with_file name (empty_file spec) l)) (sym holds.named)
      ∙ kept_count name holds.kept here.held (empty_file spec) (own m files holds name here.held named here.there)
      ∙ ap (λ (l : Files). length l) holds.named in
      let count = holds.are.count in
      let are : AreFiles (with_file name (empty_file spec) files) =
      created_are_files name spec files holds.are named sound (omega (arith, long, count)) in
      let short : m.mark ≡ 0 → AreShort (with_file name (empty_file spec) files) =
      λ first. created_short name spec files (holds.short first) (fits first) in
      will_hold m files holds name here.held named here.there p q image (emptied spec) is same catalog
      (holds_after m files holds name here.held named here.there (emptied spec) between listing placed
      (map_now q image).pages m.catalog (catalog_value m.mark listing 0) refl put refl are short)

  -- so it is after the entry got its listing, by other words for the device, the catalog, the name and the listing
  pub made_replaced : {D : Type 0} (d : Devices D) (spec : Spec) (between : List (Option Sector)) (listing : List ℕ)
      → (placed : IsEmptied spec between listing) → is_spec spec ≡ true → (m.mark ≡ 0 → is_long spec ≡ false)
      → (p q : PageMap) (a b : D) → map_now p (d.state a).disk.present ≡ m → SameCommitted p q
      → d.state b ≡ d.state a → (before catalog : ℕ) → before ≡ m.mark → catalog ≡ m.catalog → catalog_of q ≡ catalog
      → (key value : List ℕ) → key ≡ name → value ≡ listing
      → (IsTreeAmong between [] (all_around spec between listing placed) (catalog_at before catalog)
      (map (catalog_entry m.mark) holds.kept) → IsTreeAmong (pages_on d q b) []
      (all_around spec between listing placed) (catalog_at before catalog) (with_value
      (map (catalog_entry m.mark) holds.kept) (entry_as (padded_name key) (catalog_value before value 0))))
      → MapHolds (next_generation (map_now q (d.state a).disk.present)) (with_file name (empty_file spec) files)
  made_replaced d spec between listing placed sound fits p q a b is same still before catalog marked rooted kept_root
      key value key_is value_is replaced =
      made_there spec between listing placed sound fits p q (d.state a).disk.present is same
      (kept_root ∙ rooted ∙ sym (ap (λ (x : Map). x.catalog) is))
      (catalog_put d m.mark q a b (all_around spec between listing placed) before catalog m.catalog
      (λ (n : ℕ) (k v : List ℕ).
      with_value (map (catalog_entry m.mark) holds.kept) (entry_as (padded_name k) (catalog_value n v 0)))
      key name value listing still marked rooted key_is value_is
      (replaced (stands_emptied spec between listing placed before catalog marked rooted)))

-- Under a new name.
made_new : (p q : PageMap) (image : List Sector) (files : Files) (holds : MapHolds (map_now p image) files)
    (name : List ℕ) (spec : Spec) → is_name name ≡ true → is_spec spec ≡ true
    → ((map_now p image).mark ≡ 0 → is_long spec ≡ false) → file_at name files ≡ None
    → SameCommitted p q → length files < 255 → (listing : List ℕ) → listing ≡ listing_bytes
    (record { spec = spec; prime = 0; alternates = replicate (length spec.alternates) 0; next_arrival = 1 }) →
    IsTreeAmong (map_now q image).pages [] (flat_map trees_of holds.kept)
    (catalog_at (map_now p image).mark (catalog_of q))
    (with_new_entry (map (catalog_entry (map_now p image).mark) holds.kept)
    (entry_as (padded_name name) (catalog_value (map_now p image).mark listing 0)))
    → MapHolds (next_generation (map_now q image)) (with_file name (empty_file spec) files)
made_new p q image files holds name spec named sound fits none same few listing says put =
    let long = added_count name (empty_file spec) files none in
    let are : AreFiles (with_file name (empty_file spec) files) =
    created_are_files name spec files holds.are named sound (omega (arith, few, long)) in
    subst (λ (x : Map). MapHolds x (with_file name (empty_file spec) files)) (next_with p q image same)
    (holds_added (map_now p image) files holds name spec named none (map_now q image).pages (catalog_of q) listing put
    says are (λ first. created_short name spec files (holds.short first) (fits first)))

pub made_added : {D : Type 0} (d : Devices D) (p q : PageMap) (a b : D) (files : Files)
    (holds : MapHolds (map_now p (d.state a).disk.present) files) (name : List ℕ) (spec : Spec) → is_name name ≡ true
    → is_spec spec ≡ true → (mark_of p ≡ 0 → is_long spec ≡ false) → file_at name files ≡ None → SameCommitted p q
    → length files < 255 → (listing : List ℕ) → listing ≡ listing_bytes
    (record { spec = spec; prime = 0; alternates = replicate (length spec.alternates) 0; next_arrival = 1 })
    → d.state b ≡ d.state a → (before : ℕ) → before ≡ mark_of p → (key value : List ℕ) → key ≡ name → value ≡ listing
    → IsTreeAmong (pages_on d q b) [] (flat_map trees_of holds.kept) (catalog_at before (catalog_of q))
    (with_new_entry (map (catalog_entry before) holds.kept) (entry_as (padded_name key) (catalog_value before value 0)))
    → MapHolds (next_generation (map_now q (d.state a).disk.present)) (with_file name (empty_file spec) files)
made_added d p q a b files holds name spec named sound fits none same few listing says still before marked key value
    key_is value_is put =
    made_new p q (d.state a).disk.present files holds name spec named sound fits none same few listing says
    (catalog_put d (mark_of p) q a b (flat_map trees_of holds.kept) before (catalog_of q) (catalog_of q)
    (λ (n : ℕ) (k v : List ℕ).
    with_new_entry (map (catalog_entry n) holds.kept) (entry_as (padded_name k) (catalog_value n v 0)))
    key name value listing still marked refl key_is value_is put)

-- too little room for it was there before a call that only reads
pub lacks_added : (p q : PageMap) (name : List ℕ) (spec : Spec) (files : Files) → file_at name files ≡ None
    → IsUnchanged p q → changed_pages_of p ≡ []
    → (free_count (committed_of q) < length (changed_pages_of q) + 42) ⊎ (255 ≤ length files)
    → LacksSpace (committed_of p) true name (with_file name (empty_file spec) files)
lacks_added p q name spec files none unchanged rested (inl low) =
    let room = room_before p q 42 unchanged low in
    let empty = ap (λ (l : List ℕ). length l) rested in
    lacks_first (committed_of p) name (with_file name (empty_file spec) files) (omega (arith, room, empty))
lacks_added p q name spec files none unchanged rested (inr many) =
    let long = added_count name (empty_file spec) files none in
    inr (inl (omega (arith, many, long)))
