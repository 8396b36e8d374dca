-- A row leaves the trees of its file.
use Rattle.std.proofs.Common.{◌≡◌, ◌<◌, ◌++◌, ℕ, true, List, length, refl, sym, ap, subst, ◌∙◌, arith}
use Rattle.std.specs.Prelude.{map, Option, Some, None, IsSome, is_some}
use Rattle.station.specs.Disk.{Sector}
use Rattle.btree.specs.Rooted.{RootedTree}
use Rattle.btree.specs.Entries.{Entry, entry_with, without_entry}
use Rattle.records.specs.declared.answer.Outcome.TheVariants.{Missing, Done}
use Rattle.records.specs.declared.file_spec.KeyPlace.{KeyPlace}
use Rattle.records.specs.declared.file_spec.Organization.TheVariants.{Indexed}
use Rattle.records.specs.declared.key.KeyOfReference.TheVariants.{Prime, Alternate}
use Rattle.records.specs.Spec.{Spec, is_spec}
use Rattle.records.specs.Rows.{Row, Pair}
use Rattle.records.specs.Changes as rows
use Rattle.records.specs.Changes.{row_at, removal, removed_row, without_change}
use Rattle.records.specs.Files.{File, NamedFile}
use Rattle.records.specs.Laws.{RowsAscend}
use Rattle.volume_format.specs.Trees.{entry_under, key_under, layout_under, AreOf}
use Rattle.file_bytes.specs.Rows.{row_value}
use Rattle.volume_format.specs.Pairs.{IsPair}
use Rattle.volume_format.specs.Forest.{TreeLevels}
use Rattle.volume_format.specs.Chained.{chained_bytes}
use Rattle.row_trees.specs.RowTree.{ChainedTree, IsRowTreeAmong}
use Rattle.alternate_keys.specs.declared.row_verb.RowVerb.TheVariants.{Remove}
use Rattle.alternate_keys.specs.Moved.{HasChangedRows, PairsMove, PairsMayMove, IsRowOf, old_key}
use Rattle.alternate_keys.specs.Placed.{HasTrees}
use Rattle.alternate_keys.proofs.FileTrees.{kept_in, arrival_low, rows_under, rows_ascend, is_row_of}
use Rattle.alternate_keys.proofs.FileTrees.{indexes_then}
use Rattle.alternate_keys.proofs.FoundTrees.{indexed}
use Rattle.alternate_keys.proofs.PairEdits.{pair_there, pair_leaves}
use Rattle.alternate_keys.proofs.RowEdits.{row_there, row_leaves}
use Rattle.alternate_keys.proofs.RowValues.{old_key_is}

pub some_by : (x : Option Entry) (e : Entry) → x ≡ Some e → IsSome x
some_by x e is = ap (λ (o : Option Entry). is_some o) is

pub removed_missing : (pair : Pair) (file : File) → row_at file.spec.organization pair file.rows ≡ None
    → removal pair file ≡ without_change Missing file
removed_missing pair file is = ap (removed_row pair file) is

pub removed_done : (pair : Pair) (file : File) (old : Row)
    → row_at file.spec.organization pair file.rows ≡ Some old → removal pair file
    ≡ record { outcome = Done; file = record file { rows = rows.without_pair file.spec.organization pair file.rows } }
removed_done pair file old is = ap (removed_row pair file) is

-- a file without a row
abbrev pub named_without : Pair → NamedFile → NamedFile
named_without pair named = record {
  name = named.name;
  file = record {
    spec = named.file.spec;
    rows = rows.without_pair named.file.spec.organization pair named.file.rows;
    next_arrival = named.file.next_arrival;
  };
}

module _ (spec : Spec) (named : NamedFile) (generation : ℕ) (pages : List (Option Sector))
    (left right : List TreeLevels) (listing : List ℕ) (has : HasTrees spec named generation pages left right listing)
    (is : is_spec spec ≡ true) (pair : Pair) (old : Row)
    (there : row_at named.file.spec.organization pair named.file.rows ≡ Some old) where
  -- what is known of an alternate key
  pub record Known (i : ℕ) : Type 0 where
    pub place : KeyPlace
    pub indexed_is : named.file.spec.organization ≡ Indexed place
    pub up : RowsAscend named.file.spec.organization named.file.rows
    pub row_is : IsRowOf spec old

  pub known : (i : ℕ) → i < length named.file.spec.alternates → Known i
  known i within =
      let inside : i < length spec.alternates = subst (λ (s : Spec). i < length s.alternates) has.spec_is within in
      let found = indexed spec (Alternate i) is (omega (arith, inside)) i refl in
      record {
        place = found.0;
        indexed_is = ap (λ (s : Spec). s.organization) has.spec_is ∙ found.1;
        up = has.is_named.file.ascend;
        row_is = is_row_of spec named generation pages left right listing has old
            (row_there named.file.spec.organization pair old named.file.rows there).0;
      }

  pub key_is : (i : ℕ) → i < length named.file.spec.alternates
      → old_key named.file.spec i (row_value old) ≡ (entry_under named.file.spec (Alternate i) old).key
  key_is i within =
      let own = (known i within).row_is in
      let count = own.count in
      let many = ap (λ (s : Spec). length s.alternates) has.spec_is in
      old_key_is named.file.spec i old (own.long ∙ sym (ap (λ (s : Spec). s.record_length) has.spec_is))
      (omega (arith, count, many, within)) own.low

  pairs_move : (bytes : List ℕ) (arrival : ℕ)
      → PairsMove Remove named.file (named_without pair named).file (row_value old) bytes arrival
  pairs_move bytes arrival i entries within are up =
      let k = known i within in
      subst (λ (key : List ℕ). AreOf named.file.spec (Alternate i) (rows.without_pair named.file.spec.organization pair
      named.file.rows) (without_entry entries key)) (sym (key_is i within))
      (pair_leaves named.file.spec i k.place k.indexed_is pair named.file.rows old k.up there entries up are)

  pub removed_may : (bytes : List ℕ) (arrival : ℕ) → PairsMayMove Remove named.file (row_value old) bytes arrival
  removed_may bytes arrival i entries within are up =
      let k = known i within in
      some_by (entry_with entries (old_key named.file.spec i (row_value old)))
      (entry_under named.file.spec (Alternate i) old)
      (ap (entry_with entries) (key_is i within)
      ∙ pair_there named.file.spec i k.place k.indexed_is pair named.file.rows old k.up there entries up are)

  pub remove_moving : (bytes : List ℕ) (arrival : ℕ) → arrival ≡ named.file.next_arrival → IsPair spec Prime pair
      → (later : List (Option Sector)) (prime : ChainedTree) → prime.tree.layout ≡ layout_under spec Prime
      → prime.record_bytes ≡ chained_bytes spec →
      IsRowTreeAmong later left ((kept_in spec named generation pages left right listing has).alternates ++ right) prime
      (without_entry (map (entry_under spec Prime) named.file.rows) (key_under spec Prime pair)) →
      HasChangedRows Remove spec named (named_without pair named) generation later left right listing prime.tree.root
      (row_value old) bytes arrival arrival
  remove_moving bytes arrival same pair_is later prime layout form stands = record {
    prime = stands.planted;
    trees = (kept_in spec named generation pages left right listing has).alternates;
    indexes = indexes_then spec named generation pages left right listing has later prime
        (without_entry (map (entry_under spec Prime) named.file.rows) (key_under spec Prime pair)) stands;
    layout = ap (λ (t : RootedTree). t.layout) stands.tree_is ∙ layout;
    root_is = ap (λ (t : RootedTree). t.root) stands.tree_is;
    form = stands.form_is ∙ form;
    rows = stands.listed
        ∙ row_leaves spec pair pair_is named.file.rows (rows_under spec named generation pages left right listing has)
        (rows_ascend spec named generation pages left right listing has)
        ∙ ap (λ (s : Spec). map (entry_under spec Prime) (rows.without_pair s.organization pair named.file.rows))
        (sym has.spec_is);
    spec_is = has.spec_is;
    spec_then = has.spec_is;
    pairs = pairs_move bytes arrival;
    next_is = sym same;
    low = let below = arrival_low spec named generation pages left right listing has in omega (arith, below, same);
  }
