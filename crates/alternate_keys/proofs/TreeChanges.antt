-- What a change of a row in the trees of its file comes to, on each way out of the call.
use Rattle.std.proofs.Common.{◌≡◌, ◌<◌, ◌+◌, ◌*◌, true, false, ℕ, List, length, refl, subst, ◌∙◌}
use Rattle.std.specs.Prelude.{Result, Ok, Err, IfErr}
use Rattle.std.specs.Result.{IsErrAnd}
use Rattle.station.specs.declared.device.Device.{Ghosts as Devices}
use Rattle.pages.specs.Pages.{committed_of, changed_pages_of, is_spent, IsUnchanged}
use Rattle.pages.specs.Use.{free_count}
use Rattle.pages.specs.declared.page_map.PageMap.{PageMap}
use Rattle.btree.specs.Calls.{pages_on}
use Rattle.btree.specs.Results.{FewChanged}
use Rattle.btree.proofs.Passing.{few_equal, never_true}
use Rattle.records.specs.declared.fault.StoreFault.{StoreFault}
use Rattle.records.specs.declared.fault.StoreFault.TheVariants.{Device, Full, Damaged, Spent}
use Rattle.records.specs.declared.file_spec.FileSpec.{FileSpec}
use Rattle.records.specs.Changes.{FileChange}
use Rattle.records.specs.Files.{File}
use Rattle.records.specs.Stores.{spec_of, is_change}
use Rattle.row_trees.specs.Calls.{EditsPages}
use Rattle.alternate_keys.specs.declared.row_turn.RowTurn.{RowTurn}
use Rattle.alternate_keys.specs.declared.row_verb.RowVerb.{RowVerb}
use Rattle.alternate_keys.specs.Faults.{IsReadFault, IsWriteFault}
use Rattle.alternate_keys.specs.Moved.{OnMoving, PairsMayMove, named_after}
use Rattle.alternate_keys.specs.Placed.{OnTrees, HasFileTrees}
use Rattle.alternate_keys.specs.RowChanges.{ChangesTrees, LacksTreePages}
use Rattle.alternate_keys.proofs.Calling.{edits_blamed}
use Rattle.alternate_keys.proofs.Faults.{never_full, reads_write}
use Rattle.alternate_keys.proofs.Moving.{IsMoving, room_then, few_then, placed_then}
use Rattle.alternate_keys.proofs.Passing.{passed, never_ok, still_error, damaged_not_spent, damaged_not_device}

module _ {D : Type 0} (d : Devices D) {change : File → FileChange} {file : FileSpec} {old : PageMap} {now : D}
    {listing : List ℕ} {new : PageMap} {now' : D} where
  -- a call was refused
  pub trees_refused : {T : Type 0} {call : Result T StoreFault} {given : Result RowTurn StoreFault} {e : StoreFault}
      → call ≡ Err e → IsErrAnd given (λ x. x ≡ e) → EditsPages d (call ≡ Err Device) old now new now'
      → LacksTreePages d file old now listing call
      → (is_spent old ≡ false → OnTrees d (spec_of file) old now listing
      (λ named generation left right. call ≡ Err Full → is_change (change named.file).outcome ≡ true))
      → OnTrees d (spec_of file) old now listing (λ named generation left right. call ≡ Err Damaged → ⊥)
      → (call ≡ Err Spent → is_spent old ≡ true) → IfErr call IsWriteFault
      → ChangesTrees d change file old now listing new now' given
  trees_refused {T} {call} {given} {e} was is edits room full damaged spent cause =
      passed given e is (λ r. ChangesTrees d change file old now listing new now' r) (record {
        edits = edits_blamed d _ _ _ _ _ _ (λ err. was ∙ still_error err) edits;
        outcome = λ honest agrees named generation left right has. tt;
        placed = λ honest agrees named generation left right has. tt;
        few = λ honest agrees named generation left right has. tt;
        room = λ honest agrees named generation left right has err.
            room honest agrees named generation left right has (was ∙ still_error err);
        full = λ unspent honest agrees named generation left right has err.
            full unspent honest agrees named generation left right has (was ∙ still_error err);
        damaged = λ honest agrees named generation left right has err.
            damaged honest agrees named generation left right has (was ∙ still_error err);
        same = tt;
        long = tt;
        spent = λ err. spent (was ∙ still_error err);
        cause = subst (λ r. IfErr r IsWriteFault) was cause;
      })

  -- a call that never returns `Full`
  pub trees_refused_early : {T : Type 0} {call : Result T StoreFault} {given : Result RowTurn StoreFault}
      {e : StoreFault} → call ≡ Err e → IsErrAnd given (λ x. x ≡ e)
      → EditsPages d (call ≡ Err Device) old now new now'
      → OnTrees d (spec_of file) old now listing (λ named generation left right. call ≡ Err Damaged → ⊥)
      → (call ≡ Err Spent → is_spent old ≡ true) → IfErr call IsReadFault
      → ChangesTrees d change file old now listing new now' given
  trees_refused_early {T} {call} was is edits damaged spent cause =
      trees_refused was is edits
      (λ honest agrees named generation left right has err. absurd (never_full call cause err))
      (λ unspent honest agrees named generation left right has err. absurd (never_full call cause err)) damaged spent
      (reads_write call cause)

  -- what no file of these trees can be
  pub trees_damaged : {A : Type 0} → EditsPages d A old now new now'
      → OnTrees d (spec_of file) old now listing (λ named generation left right. ⊥)
      → ChangesTrees d change file old now listing new now' (Err Damaged)
  trees_damaged edits never = record {
    edits = edits_blamed d _ _ _ _ _ _ (λ err. damaged_not_device err) edits;
    outcome = λ honest agrees named generation left right has. tt;
    placed = λ honest agrees named generation left right has. tt;
    few = λ honest agrees named generation left right has. tt;
    room = λ honest agrees named generation left right has err.
        absurd (never honest agrees named generation left right has);
    full = λ unspent honest agrees named generation left right has err.
        absurd (never honest agrees named generation left right has);
    damaged = λ honest agrees named generation left right has err.
        never honest agrees named generation left right has;
    same = tt;
    long = tt;
    spent = λ err. damaged_not_spent Damaged refl err;
    cause = tt;
  }

  -- nothing has changed
  pub trees_unchanged : {A : Type 0} {turn : RowTurn} → EditsPages d A old now new now'
      → is_change turn.outcome ≡ false → IsUnchanged old new
      → OnTrees d (spec_of file) old now listing
      (λ named generation left right. turn.outcome ≡ (change named.file).outcome)
      → ChangesTrees d change file old now listing new now' (Ok turn)
  trees_unchanged edits idle unchanged told = record {
    edits = edits_blamed d _ _ _ _ _ _ (λ err. never_ok err) edits;
    outcome = told;
    placed = λ honest agrees named generation left right has made. never_true idle made;
    few = λ honest agrees named generation left right has.
        few_equal (changed_pages_of old) (changed_pages_of new) _ unchanged.changed_pages;
    room = λ honest agrees named generation left right has err. never_ok err;
    full = λ unspent honest agrees named generation left right has err. never_ok err;
    damaged = λ honest agrees named generation left right has err. never_ok err;
    same = λ none. unchanged;
    long = λ made. never_true idle made;
    spent = λ err. never_ok err;
    cause = tt;
  }

  module _ {verb : RowVerb} {root : ℕ} {value bytes : List ℕ} {arrival next : ℕ} {mid : PageMap} {mid' : D}
      (moving : OnTrees d (spec_of file) old now listing (λ named generation left right.
      IsMoving d verb (spec_of file) named (named_after named (change named.file)) generation left right listing root
      value bytes arrival next old now mid mid')) where
    -- the tree of rows has changed, and the pairs of the row did not move
    pub trees_unmoved : {T : Type 0} {call : Result T StoreFault} {given : Result RowTurn StoreFault} {e : StoreFault}
        → call ≡ Err e → IsErrAnd given (λ x. x ≡ e) → EditsPages d (call ≡ Err Device) old now new now'
        → OnMoving d verb (spec_of file) mid mid' listing root value bytes arrival next
        (λ held after generation left right. call ≡ Err Full → free_count (committed_of mid)
        < length (changed_pages_of mid) + 84 * length file.alternates.items)
        → OnMoving d verb (spec_of file) mid mid' listing root value bytes arrival next
        (λ held after generation left right. PairsMayMove verb held.file value bytes arrival → call ≡ Err Damaged → ⊥)
        → OnTrees d (spec_of file) old now listing
        (λ named generation left right. is_change (change named.file).outcome ≡ true)
        → (call ≡ Err Spent → is_spent old ≡ true) → IfErr call IsWriteFault
        → ChangesTrees d change file old now listing new now' given
    trees_unmoved was is edits room damaged made spent cause =
        trees_refused was is edits
        (λ honest agrees named generation left right has err.
        let way = moving honest agrees named generation left right has in
        room_then d (length file.alternates.items) way
        (room way.honest way.agrees named _ generation left right way.changed err))
        (λ unspent honest agrees named generation left right has err.
        made honest agrees named generation left right has)
        (λ honest agrees named generation left right has err.
        let way = moving honest agrees named generation left right has in
        damaged way.honest way.agrees named _ generation left right way.changed way.may err) spent cause

    -- and they did
    pub trees_moved : {A : Type 0} {turn : RowTurn} → EditsPages d A old now new now'
        → OnMoving d verb (spec_of file) mid mid' listing root value bytes arrival next
        (λ held after generation left right.
        HasFileTrees after (generation + 1) (pages_on d new mid') left right turn.listing.items)
        → OnMoving d verb (spec_of file) mid mid' listing root value bytes arrival next
        (λ held after generation left right. FewChanged (84 * length file.alternates.items) mid new)
        → OnTrees d (spec_of file) old now listing
        (λ named generation left right. turn.outcome ≡ (change named.file).outcome) → is_change turn.outcome ≡ true
        → length turn.listing.items ≡ 83 → ChangesTrees d change file old now listing new now' (Ok turn)
    trees_moved {A} {turn} edits placed few told made long = record {
      edits = edits_blamed d _ _ _ _ _ _ (λ err. never_ok err) edits;
      outcome = told;
      placed = λ honest agrees named generation left right has is.
          let way = moving honest agrees named generation left right has in
          placed_then d way new turn.listing.items
          (placed way.honest way.agrees named _ generation left right way.changed);
      few = λ honest agrees named generation left right has.
          let way = moving honest agrees named generation left right has in
          few_then d (length file.alternates.items) way new
          (few way.honest way.agrees named _ generation left right way.changed);
      room = λ honest agrees named generation left right has err. never_ok err;
      full = λ unspent honest agrees named generation left right has err. never_ok err;
      damaged = λ honest agrees named generation left right has err. never_ok err;
      same = λ none. never_true none made;
      long = λ is. long;
      spent = λ err. never_ok err;
      cause = tt;
    }
