-- The entry that is found is that of the row that is sought.
use Rattle.std.proofs.Common.{◌≡◌, ⊎_elim, ℕ, Bool, true, false, List, refl, sym, ap, ◌∙◌}
use Rattle.std.specs.Prelude.{map, Contains, Option, Some, None}
use Rattle.std.specs.Option.{option_map}
use Rattle.std.specs.List.{All}
use Rattle.std.specs.Ordering.{is_gt, ordering_reverse}
use Rattle.std.specs.declared.cmp.Ordering.TheVariants.{Greater}
use Rattle.std.proofs.lemmas.List.Elements.{All-contains}
use Rattle.std.proofs.lemmas.Cmp.{nat_list_cmp_total}
use Rattle.btree_pages.specs.Keys.{key_cmp, Ascend}
use Rattle.btree.specs.Entries.{Entry}
use Rattle.records.specs.declared.key.KeyOfReference.{KeyOfReference}
use Rattle.records.specs.Spec.{Spec}
use Rattle.records.specs.Rows.{Row, pair_under}
use Rattle.records.specs.Order.{RowBound, is_after, sought_row}
use Rattle.alternate_keys.specs.declared.search_start.SearchStart.{SearchStart}
use Rattle.alternate_keys.specs.declared.search_start.SearchStart.TheVariants as aim
use Rattle.volume_format.specs.Trees.{entry_under, AreOf}
use Rattle.volume_format.specs.Pairs.{IsUnder}
use Rattle.alternate_keys.specs.Aims.{IsBound, aim_of, aim_key, accepts, found_entry}
use Rattle.alternate_keys.proofs.Least.{IsLeast, is_least, IsHead, is_head, first_where, from_where, after_where}
use Rattle.alternate_keys.proofs.Least.{never_where}
use Rattle.volume_format.proofs.Order.{keys_in_order}
use Rattle.alternate_keys.proofs.Aims.{aims_right}

looked_where : (a : SearchStart) (entries : List Entry) (at : List ℕ)
    → found_entry a entries at ≡ first_where (accepts a at) entries
looked_where aim.Nothing entries at = sym (never_where entries)
looked_where aim.From entries at = from_where entries at
looked_where aim.After entries at = after_where entries at

module _ (spec : Spec) (key : KeyOfReference) (bound : RowBound) (rows : List Row) (entries : List Entry) where
  abbrev behind : Row → Bool
  behind row = is_after bound.side bound.pair (pair_under spec key row)

  abbrev wanted : List ℕ → Bool
  wanted at = accepts (aim_of spec key bound) (aim_key spec key bound) at

  pub record Given : Type 0 where
    pub are : AreOf spec key rows entries
    pub under : All (IsUnder spec key) rows
    pub fits : IsBound spec key bound

  same_test : Given → (row : Row) → Contains rows row → behind row ≡ wanted (entry_under spec key row).key
  same_test given row has =
      let is = All-contains (IsUnder spec key) rows row given.under has in
      aims_right spec key bound (pair_under spec key row) given.fits is.pair is.bytes

  -- what the two answers are
  both : Given → (found : Option Entry) (row : Option Row) → IsHead wanted entries found
      → IsLeast spec key behind rows row → found ≡ option_map (entry_under spec key) row
  both given None None head least = refl
  both given None (Some m) head least = absurd
      (head (entry_under spec key m) (given.are.each m least.has) (sym (same_test given m least.has) ∙ least.right))
  both given (Some e) None head least =
      let of = given.are.only e head.has in
      absurd (least of.0 of.1 (same_test given of.0 of.1 ∙ ap (λ (x : Entry). wanted x.key) of.2 ∙ head.right))
  both given (Some e) (Some m) head least =
      let of = given.are.only e head.has in
      let right : behind of.0 ≡ true = same_test given of.0 of.1 ∙ ap (λ (x : Entry). wanted x.key) of.2 ∙ head.right in
      let not_above = least.first of.0 of.1 right in
      let mine = All-contains (IsUnder spec key) rows m given.under least.has in
      let its = All-contains (IsUnder spec key) rows of.0 given.under of.1 in
      let order = keys_in_order spec key (pair_under spec key m) (pair_under spec key of.0) mine.pair its.pair in
      let low : is_gt (key_cmp (entry_under spec key m).key e.key) ≡ false =
      ap (λ (x : Entry). is_gt (key_cmp (entry_under spec key m).key x.key)) (sym of.2) ∙ ap is_gt order ∙ not_above in
      ⊎_elim
      (λ same. ap Some (sym same))
      (λ later.
      let high : key_cmp (entry_under spec key m).key e.key ≡ Greater =
      nat_list_cmp_total.antisymm (entry_under spec key m).key e.key ∙ ap ordering_reverse later in
      let clash : true ≡ false = sym (ap is_gt high) ∙ low in
      cc)
      (head.first (entry_under spec key m) (given.are.each m least.has)
      (sym (same_test given m least.has) ∙ least.right))

pub finds_sought : (spec : Spec) (key : KeyOfReference) (bound : RowBound) (rows : List Row) (entries : List Entry)
    → IsBound spec key bound →
    Ascend (map (λ (entry : Entry). entry.key) entries) → AreOf spec key rows entries → All (IsUnder spec key) rows →
    found_entry (aim_of spec key bound) entries (aim_key spec key bound)
    ≡ option_map (entry_under spec key) (sought_row spec key bound rows)
finds_sought spec key bound rows entries fits up are under =
    looked_where (aim_of spec key bound) entries (aim_key spec key bound)
    ∙ both spec key bound rows entries (record { are = are; under = under; fits = fits })
    (first_where (wanted spec key bound rows entries) entries) (sought_row spec key bound rows)
    (is_head (wanted spec key bound rows entries) entries up)
    (is_least spec key (behind spec key bound rows entries) rows)
