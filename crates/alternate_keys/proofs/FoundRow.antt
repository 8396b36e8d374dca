-- The row that was found in the tree of rows.
use Rattle.std.proofs.Common.{◌≡◌, ◌+◌, ◌*◌, ℕ, List, length, refl, sym, ap, subst, ◌∙◌}
use Rattle.std.specs.Prelude.{map, Option, Some, None, IfSome, IsSome, is_some}
use Rattle.std.specs.Option.{option_map}
use Rattle.std.proofs.lemmas.List.Elements.{All-contains}
use Rattle.station.specs.Disk.{Sector}
use Rattle.btree.specs.Entries.{Entry, entry_with}
use Rattle.records.specs.declared.key.KeyOfReference.TheVariants.{Prime}
use Rattle.records.specs.Spec.{Spec}
use Rattle.records.specs.Rows.{Row, Pair, prime_pair}
use Rattle.records.specs.Changes.{row_at}
use Rattle.records.specs.Files.{NamedFile}
use Rattle.records.proofs.Changed.{pair_same}
use Rattle.volume_format.specs.Chained.{chained_bytes}
use Rattle.volume_format.specs.Trees.{entry_under, key_under, layout_under}
use Rattle.volume_format.specs.Pairs.{IsPair, IsUnder}
use Rattle.volume_format.specs.Forest.{TreeLevels}
use Rattle.row_trees.specs.RowTree.{ChainedTree, HasWholeLengths}
use Rattle.alternate_keys.specs.Moved.{IsRowOf}
use Rattle.alternate_keys.specs.Placed.{HasTrees}
use Rattle.alternate_keys.proofs.FileTrees.{rows_under, is_row_of}
use Rattle.alternate_keys.proofs.RowEdits.{row_there, row_found}
use Rattle.alternate_keys.proofs.RowForms.{value_whole}

none_of : (spec : Spec) (found : Option Row) → None ≡ option_map (entry_under spec Prime) found → found ≡ None
none_of spec None is = refl
none_of spec (Some row) is = cc

some_of : (spec : Spec) (found : Option Row) (e : Entry) → Some e ≡ option_map (entry_under spec Prime) found
    → (row : Row) × (found ≡ Some row) × (e ≡ entry_under spec Prime row)
some_of spec None e is = cc
some_of spec (Some row) e is = (row, refl, cc)

-- its entry, and what is known of it
pub record FoundRow (spec : Spec) (named : NamedFile) (pair : Pair) (entry : Entry) : Type 0 where
  pub old : Row
  pub there : row_at named.file.spec.organization pair named.file.rows ≡ Some old
  pub is : entry ≡ entry_under spec Prime old
  pub good : IsPair spec Prime pair
  pub key : entry.key ≡ key_under spec Prime pair
  pub found : entry_with (map (entry_under spec Prime) named.file.rows) (key_under spec Prime pair) ≡ Some entry
  pub row_is : IsRowOf spec old

module _ (spec : Spec) (named : NamedFile) (generation : ℕ) (pages : List (Option Sector))
    (left right : List TreeLevels) (listing : List ℕ) (has : HasTrees spec named generation pages left right listing)
    (pair : Pair) (answer : Option Entry)
    (told : answer ≡ option_map (entry_under spec Prime) (row_at spec.organization pair named.file.rows)) where
  at_here : row_at named.file.spec.organization pair named.file.rows ≡ row_at spec.organization pair named.file.rows
  at_here = ap (λ (s : Spec). row_at s.organization pair named.file.rows) has.spec_is

  pub none_at : answer ≡ None → row_at named.file.spec.organization pair named.file.rows ≡ None
  none_at none = at_here ∙ none_of spec (row_at spec.organization pair named.file.rows) (sym none ∙ told)

  pub found_at : (entry : Entry) → answer ≡ Some entry → FoundRow spec named pair entry
  found_at entry some =
      let of = some_of spec (row_at spec.organization pair named.file.rows) entry (sym some ∙ told) in
      let old : Row = of.0 in
      let there = row_there spec.organization pair old named.file.rows of.1 in
      let same : prime_pair spec.organization old ≡ pair = pair_same (prime_pair spec.organization old) pair there.1 in
      let all = rows_under spec named generation pages left right listing has in
      let under : IsUnder spec Prime old = All-contains (IsUnder spec Prime) named.file.rows old all there.0 in
      let good : IsPair spec Prime pair = subst (IsPair spec Prime) same under.pair in
      record {
        old = old;
        there = at_here ∙ of.1;
        is = of.2;
        good = good;
        key = ap (λ (e : Entry). e.key) of.2 ∙ ap (key_under spec Prime) same;
        found = row_found spec pair good named.file.rows all ∙ ap (option_map (entry_under spec Prime)) of.1
            ∙ ap (λ (e : Entry). Some e) (sym of.2);
        row_is = is_row_of spec named generation pages left right listing has old there.0;
      }

-- it is there
pub entry_there : {spec : Spec} {named : NamedFile} {pair : Pair} {entry : Entry} → FoundRow spec named pair entry
    → (key : List ℕ) → key ≡ entry.key → IsSome (entry_with (map (entry_under spec Prime) named.file.rows) key)
entry_there {spec} {named} {entry} found key is =
    ap (λ (o : Option Entry). is_some o)
    (ap (entry_with (map (entry_under spec Prime) named.file.rows)) (is ∙ found.key) ∙ found.found)

-- how long its value is
pub value_long : (spec : Spec) (rows : ChainedTree) (answer : Option Entry) (entry : Entry) (value : List ℕ)
    → rows.tree.layout ≡ layout_under spec Prime → rows.record_bytes ≡ chained_bytes spec
    → IfSome answer (HasWholeLengths rows) → answer ≡ Some entry → value ≡ entry.value
    → length value ≡ spec.record_length + 8 * length spec.alternates
value_long spec rows answer entry value is form lengths some value_is =
    let own : HasWholeLengths rows entry =
    subst (λ (o : Option Entry). IfSome o (HasWholeLengths rows)) some lengths in
    ap (λ (l : List ℕ). length l) value_is ∙ own.1 ∙ value_whole spec rows is form
