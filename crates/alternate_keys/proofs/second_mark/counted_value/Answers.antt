use Rattle.std.proofs.Common.{◌≡◌, Err, ℕ, List, length, IfOk, sym, ap, subst, ◌∙◌, arith}
use Rattle.std.specs.Prelude.{take}
use Rattle.std.proofs.lemmas.List.{take_all}
use Rattle.pages.specs.declared.error.PagesError.TheVariants as pages
use Rattle.btree.specs.Calls.{pages_on}
use Rattle.records.specs.declared.fault.StoreFault.TheVariants.{Damaged}
use Rattle.records.specs.declared.key.KeyOfReference.TheVariants.{Prime}
use Rattle.records.specs.Files.{NamedFile}
use Rattle.records.specs.Spec.{Spec}
use Rattle.volume_format.specs.Catalog.{catalog_value}
use Rattle.volume_format.specs.Forest.{TreeLevels}
use Rattle.volume_format.specs.Volume.{listing_of}
use Rattle.volume_format.proofs.Faults.{damaged_back, device_back}
use Rattle.volume_format.proofs.Looks.{looks_blamed, looks_nowhere}
use Rattle.alternate_keys.specs.Listed.{root_in}
use Rattle.alternate_keys.specs.Placed.{HasTrees}
use Rattle.alternate_keys.specs.Seen.{HasRows, row_tree_of}
use Rattle.alternate_keys.proofs.Faults.{never_damaged, never_device, never_spent, refused_by_call}
use Rattle.alternate_keys.proofs.FileTrees.{good_spec}
use Rattle.alternate_keys.proofs.Migrating.{rows_there, rows_counted}
use Rattle.alternate_keys.proofs.Passing.{damaged_not_device, if_refused, reads_where, same_error}
use Rattle.alternate_keys.proofs.ThereSeen.{rows_stand}
use Rattle.alternate_keys.proofs.second_mark.counted_value.Given.{Over}
use Rattle.alternate_keys.proofs.second_mark.counted_value.Goals as goal
use Rattle.alternate_keys.proofs.second_mark.counted_value.Goals.{After-count}

-- the listing is the whole value
whole : (value part : List ℕ) → length value ≡ 83 → part ≡ take 83 value → part ≡ value
whole value part long is = is ∙ take_all 83 value (omega (arith, long))

-- the rows of the file in its tree
rows : (g : Over) (c : After-count g) (spec : Spec) (named : NamedFile) (generation : ℕ) (left right : List TreeLevels)
    → HasTrees spec named generation (pages_on g.D.Device c.args.pages.now c.args.device.now) left right
    c.args.entry.now.value
    → HasRows spec (pages_on g.D.Device c.args.pages.now c.args.device.now) named.file.rows
    (row_tree_of spec c.in_ok-rows.rows)
rows g c spec named generation left right has =
    rows_there spec named generation (pages_on g.D.Device c.args.pages.now c.args.device.now) left right
    c.args.entry.now.value has c.in_ok-rows.rows
    (λ l good says key.
    let same = whole c.args.entry.now.value c.listing_part-listing.result.now c.requires.long
    c.listing_part-listing.ensures.part in
    let told = c.in_ok-rows.ensures.tree l good (same ∙ says) key in
    (told.0, told.1 ∙ ap (root_in Prime) same))

pub returns-in_err-rows-clause-damaged : goal.returns-in_err-rows-clause-damaged
returns-in_err-rows-clause-damaged g c = λ honest agrees spec named generation left right has is.
    let same = whole c.args.entry.now.value c.listing_part-listing.result.now c.requires.long
    c.listing_part-listing.ensures.part in
    c.stored_tree.ensures.damaged (listing_of has.placed.kept)
    (good_spec spec named generation (pages_on g.D.Device c.args.pages.now c.args.device.now) left right
    c.args.entry.now.value has) (same ∙ has.placed.says) (omega arith)
    (refused_by_call c.in_err-rows.was c.from_residual.ensures.1 is)

pub returns-in-Ok-clause-value : goal.returns-in-Ok-clause-value
returns-in-Ok-clause-value g c = λ honest agrees spec named generation left right has.
    let at = goal.at.returns-in-Ok-clause-value g c in
    let there = rows g at.After-count spec named generation left right has in
    let count = c.in-Ok.ensures.count honest agrees there.planted.levels (rows_stand there)
    ∙ rows_counted spec (pages_on g.D.Device c.args.pages.now c.args.device.now) named.file.rows c.in_ok-rows.rows
    there in
    let same = whole c.args.entry.now.value c.listing_part-listing.result.now c.requires.long
    c.listing_part-listing.ensures.part in
    subst (λ (l : List ℕ).
    IfOk c.spell_value.result (λ bytes. bytes.items ≡ catalog_value 1 l (length named.file.rows)))
    same
    (subst (λ (n : ℕ).
    IfOk c.spell_value.result (λ bytes. bytes.items ≡ catalog_value 1 c.listing_part-listing.result.now n)) count
    c.spell_value.ensures.bytes)

pub returns-in-Err-clause-damaged : goal.returns-in-Err-clause-damaged
returns-in-Err-clause-damaged g c = λ honest agrees spec named generation left right has is.
    let at = goal.at.returns-in-Err-clause-damaged g c in
    let there = rows g at.After-count spec named generation left right has in
    let told : c.to_fault.result ≡ Damaged = cc in
    let fault : c.in-Err.error ≡ pages.Damaged = damaged_back c.in-Err.error (sym c.to_fault.ensures ∙ told) in
    c.in-Err.ensures.damaged honest agrees (ap Err fault) there.planted.levels (rows_stand there)

-- The device was only read.
pub returns-in_err-rows-clause-looks : goal.returns-in_err-rows-clause-looks
returns-in_err-rows-clause-looks g c = looks_blamed g.D.Device ⊥ _ _ _ _ _
    (λ is. damaged_not_device (ap Err (sym c.in_err-rows.ensures.cause) ∙ sym c.in_err-rows.was
    ∙ refused_by_call c.in_err-rows.was c.from_residual.ensures.1 is)) (looks_nowhere g.D.Device _ _)

pub returns-in-Ok-clause-looks : goal.returns-in-Ok-clause-looks
returns-in-Ok-clause-looks g c = record {
  only = reads_where g.D.Device _ _ _ _
      (λ is. absurd (never_device c.spell_value.result c.spell_value.ensures.memory is)) c.count.ensures.only;
  unchanged = c.count.ensures.unchanged;
  agrees = c.count.ensures.agrees;
}

pub returns-in-Err-clause-looks : goal.returns-in-Err-clause-looks
returns-in-Err-clause-looks g c = record {
  only = reads_where g.D.Device _ _ _ _
      (λ is. c.in-Err.is ∙ ap Err (device_back c.in-Err.error (sym c.to_fault.ensures ∙ same_error is)))
      c.count.ensures.only;
  unchanged = c.count.ensures.unchanged;
  agrees = c.count.ensures.agrees;
}

pub returns-in-Ok-clause-damaged : goal.returns-in-Ok-clause-damaged
returns-in-Ok-clause-damaged g c = λ honest agrees spec named generation left right has is.
    never_damaged c.spell_value.result c.spell_value.ensures.memory is

pub returns-in-Ok-clause-spent : goal.returns-in-Ok-clause-spent
returns-in-Ok-clause-spent g c =
    λ is. absurd (never_spent c.spell_value.result c.spell_value.ensures.memory is)

pub returns-in_err-rows-clause-value : goal.returns-in_err-rows-clause-value
returns-in_err-rows-clause-value g c =
    λ honest agrees spec named generation left right has. if_refused _ _ c.from_residual.ensures.1 _
