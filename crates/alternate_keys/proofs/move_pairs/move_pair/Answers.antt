use Rattle.std.proofs.Common.{◌≡◌, true, Err, List, sym, ap, subst, ◌∙◌, arith}
use Rattle.std.specs.Prelude.{IfErr, OnOk}
use Rattle.std.proofs.lemmas.Result.{on_ok_weaker}
use Rattle.pages.specs.Use.{free_count}
use Rattle.btree.specs.Calls.{pages_on}
use Rattle.btree.specs.Entries.{Entry, without_entry}
use Rattle.records.specs.declared.fault.StoreFault.TheVariants.{Device}
use Rattle.records.specs.Spec.{Spec}
use Rattle.records.specs.Stores.{spec_of}
use Rattle.volume_format.specs.Grows.{IsTreeAmong}
use Rattle.alternate_keys.specs.declared.row_verb.RowVerb.{RowVerb}
use Rattle.alternate_keys.specs.Faults.{IsWriteFault}
use Rattle.alternate_keys.specs.Moved.{HasValues, entries_after, MayMove, old_key, changes_at}
use Rattle.alternate_keys.proofs.Calling.{among_after, among_before, edits_blamed, edits_last, edits_nothing}
use Rattle.alternate_keys.proofs.Calling.{sectors_still}
use Rattle.alternate_keys.proofs.Faults.{never_full, reads_write, refused_by_call}
use Rattle.alternate_keys.proofs.KeyTurn.{entries_replaced, entries_still, few_for_one, few_given}
use Rattle.alternate_keys.proofs.Passing.{never_ok, on_refused, passed, read_is_write, spent_before}
use Rattle.alternate_keys.proofs.Still.{same_volume}
use Rattle.alternate_keys.proofs.move_pairs.move_pair.Goals as goal

pub give_pair-requires-clause-bytes : goal.give_pair-requires-clause-bytes
give_pair-requires-clause-bytes g c =
    subst (λ (v : RowVerb). HasValues v (spec_of c.args.file.now) c.args.row_move.old_value.now
    c.args.row_move.bytes.now) c.in-Insert.is c.requires.values

pub take_pair-requires-clause-old : goal.take_pair-requires-clause-old
take_pair-requires-clause-old g c =
    subst (λ (v : RowVerb). HasValues v (spec_of c.args.file.now) c.args.row_move.old_value.now
    c.args.row_move.bytes.now) c.in-Remove.is c.requires.values

pub returns-in-Insert-clause-moved : goal.returns-in-Insert-clause-moved
returns-in-Insert-clause-moved g c = λ honest agrees left right entries stands.
    subst (λ (v : RowVerb). OnOk c.give_pair.result (IsTreeAmong
    (pages_on g.D.Device c.give_pair.new.pages c.args.device.now) left right c.give_pair.new.tree
    (entries_after v (spec_of c.args.file.now) c.args.key c.args.row_move.old_value.now c.args.row_move.bytes.now
    c.args.row_move.arrival entries))) (sym c.in-Insert.is)
    (c.give_pair.ensures.given honest agrees left right entries stands)

pub returns-in-Insert-clause-damaged : goal.returns-in-Insert-clause-damaged
returns-in-Insert-clause-damaged g c = λ honest agrees left right entries stands may refused.
    c.give_pair.ensures.damaged honest agrees left right entries stands
    (subst (λ (v : RowVerb). MayMove v (spec_of c.args.file.now) c.args.key c.args.row_move.old_value.now
    c.args.row_move.bytes.now c.args.row_move.arrival entries) c.in-Insert.is may) refused

pub returns-in-Insert-clause-few : goal.returns-in-Insert-clause-few
returns-in-Insert-clause-few g c = λ honest agrees left right entries stands.
    few_given c.give_pair.result c.args.pages.now c.args.pages.now c.give_pair.new.pages (omega arith)
    (c.give_pair.ensures.few honest agrees left right entries stands)

pub returns-in-Insert-clause-room : goal.returns-in-Insert-clause-room
returns-in-Insert-clause-room g c = λ honest agrees left right entries stands full.
    let room = c.give_pair.ensures.room honest agrees left right entries stands full in
    omega (arith, room)

pub returns-in-Remove-clause-moved : goal.returns-in-Remove-clause-moved
returns-in-Remove-clause-moved g c = λ honest agrees left right entries stands.
    subst (λ (v : RowVerb). OnOk c.take_pair.result (IsTreeAmong
    (pages_on g.D.Device c.take_pair.new.pages c.args.device.now) left right c.take_pair.new.tree
    (entries_after v (spec_of c.args.file.now) c.args.key c.args.row_move.old_value.now c.args.row_move.bytes.now
    c.args.row_move.arrival entries))) (sym c.in-Remove.is)
    (c.take_pair.ensures.taken honest agrees left right entries stands)

pub returns-in-Remove-clause-damaged : goal.returns-in-Remove-clause-damaged
returns-in-Remove-clause-damaged g c = λ honest agrees left right entries stands may refused.
    c.take_pair.ensures.damaged honest agrees left right entries stands
    (subst (λ (v : RowVerb). MayMove v (spec_of c.args.file.now) c.args.key c.args.row_move.old_value.now
    c.args.row_move.bytes.now c.args.row_move.arrival entries) c.in-Remove.is may) refused

pub returns-in-Remove-clause-few : goal.returns-in-Remove-clause-few
returns-in-Remove-clause-few g c = λ honest agrees left right entries stands.
    few_for_one c.take_pair.result c.args.pages.now c.take_pair.new.pages
    (c.take_pair.ensures.few honest agrees left right entries stands)

pub returns-in-Remove-clause-room : goal.returns-in-Remove-clause-room
returns-in-Remove-clause-room g c = λ honest agrees left right entries stands full.
    absurd (never_full c.take_pair.result c.take_pair.ensures.cause full)

pub returns-in-Remove-clause-cause : goal.returns-in-Remove-clause-cause
returns-in-Remove-clause-cause g c = reads_write c.take_pair.result c.take_pair.ensures.cause

pub returns-then-not-is_changed-clause-edits : goal.returns-then-not-is_changed-clause-edits
returns-then-not-is_changed-clause-edits g c =
    edits_blamed g.D.Device ⊥ _ _ _ _ _ (λ is. never_ok is)
    (edits_nothing g.D.Device c.args.pages.now c.args.device.now)

pub returns-then-not-is_changed-clause-moved : goal.returns-then-not-is_changed-clause-moved
returns-then-not-is_changed-clause-moved g c = λ honest agrees left right entries stands.
    subst (λ (es : List Entry). IsTreeAmong (pages_on g.D.Device c.args.pages.now c.args.device.now) left right
    c.args.tree.now es) (sym (entries_still c.args.row_move.verb (spec_of c.args.file.now) c.args.key
    c.args.row_move.old_value.now c.args.row_move.bytes.now c.args.row_move.arrival entries c.in-Replace.is
    (sym c.is_changed.ensures ∙ c.if-not-is_changed.true))) stands

pub returns-then-not-is_changed-clause-damaged : goal.returns-then-not-is_changed-clause-damaged
returns-then-not-is_changed-clause-damaged g c = λ honest agrees left right entries stands may is. never_ok is

pub returns-then-not-is_changed-clause-few : goal.returns-then-not-is_changed-clause-few
returns-then-not-is_changed-clause-few g c = λ honest agrees left right entries stands. omega arith

pub returns-then-not-is_changed-clause-room : goal.returns-then-not-is_changed-clause-room
returns-then-not-is_changed-clause-room g c = λ honest agrees left right entries stands is. never_ok is

pub returns-then-not-is_changed-clause-spent : goal.returns-then-not-is_changed-clause-spent
returns-then-not-is_changed-clause-spent g c = λ is. never_ok is

pub take_pair-requires-in-Replace-clause-old : goal.take_pair-requires-in-Replace-clause-old
take_pair-requires-in-Replace-clause-old g c =
    (subst (λ (v : RowVerb). HasValues v (spec_of c.args.file.now) c.args.row_move.old_value.now
    c.args.row_move.bytes.now) c.in-Replace.is c.requires.values).0

pub give_pair-requires-in-Replace-clause-sectors : goal.give_pair-requires-in-Replace-clause-sectors
give_pair-requires-in-Replace-clause-sectors g c =
    let edits = c.take_pair-in-Replace.ensures.edits in
    sectors_still g.D.Device _ c.args.pages.now c.take_pair-in-Replace.new.pages c.args.device.now
    c.take_pair-in-Replace.new.device edits.only edits.committed c.requires.sectors

pub give_pair-requires-in-Replace-clause-bytes : goal.give_pair-requires-in-Replace-clause-bytes
give_pair-requires-in-Replace-clause-bytes g c =
    (subst (λ (v : RowVerb). HasValues v (spec_of c.args.file.now) c.args.row_move.old_value.now
    c.args.row_move.bytes.now) c.in-Replace.is c.requires.values).1

pub returns-in_err-take_pair-in-Replace-clause-edits : goal.returns-in_err-take_pair-in-Replace-clause-edits
returns-in_err-take_pair-in-Replace-clause-edits g c =
    edits_blamed g.D.Device (c.take_pair-in-Replace.result ≡ Err Device) _ _ _ _ _
    (λ is. refused_by_call c.in_err-take_pair-in-Replace.was c.from_residual.ensures.1 is)
    c.take_pair-in-Replace.ensures.edits

pub returns-in_err-take_pair-in-Replace-clause-moved : goal.returns-in_err-take_pair-in-Replace-clause-moved
returns-in_err-take_pair-in-Replace-clause-moved g c = λ honest agrees left right entries stands.
    on_refused c.from_residual.result c.in_err-take_pair-in-Replace.field-0.0 c.from_residual.ensures.1 _

pub returns-in_err-take_pair-in-Replace-clause-damaged : goal.returns-in_err-take_pair-in-Replace-clause-damaged
returns-in_err-take_pair-in-Replace-clause-damaged g c = λ honest agrees left right entries stands may refused.
    let change : changes_at (spec_of c.args.file.now) c.args.key c.args.row_move.old_value.now
    c.args.row_move.bytes.now ≡ true = sym c.is_changed.ensures ∙ c.if-not-is_changed.false in
    let both =
    subst (λ (v : RowVerb). MayMove v (spec_of c.args.file.now) c.args.key c.args.row_move.old_value.now
    c.args.row_move.bytes.now c.args.row_move.arrival entries) c.in-Replace.is may change in
    c.take_pair-in-Replace.ensures.damaged honest agrees left right entries stands both.0
    (refused_by_call c.in_err-take_pair-in-Replace.was c.from_residual.ensures.1 refused)

pub returns-in_err-take_pair-in-Replace-clause-few : goal.returns-in_err-take_pair-in-Replace-clause-few
returns-in_err-take_pair-in-Replace-clause-few g c = λ honest agrees left right entries stands.
    on_refused c.from_residual.result c.in_err-take_pair-in-Replace.field-0.0 c.from_residual.ensures.1 _

pub returns-in_err-take_pair-in-Replace-clause-room : goal.returns-in_err-take_pair-in-Replace-clause-room
returns-in_err-take_pair-in-Replace-clause-room g c = λ honest agrees left right entries stands full.
    absurd (never_full c.take_pair-in-Replace.result c.take_pair-in-Replace.ensures.cause
    (refused_by_call c.in_err-take_pair-in-Replace.was c.from_residual.ensures.1 full))

pub returns-in_err-take_pair-in-Replace-clause-spent : goal.returns-in_err-take_pair-in-Replace-clause-spent
returns-in_err-take_pair-in-Replace-clause-spent g c =
    λ is. c.take_pair-in-Replace.ensures.spent
    (refused_by_call c.in_err-take_pair-in-Replace.was c.from_residual.ensures.1 is)

pub returns-in_err-take_pair-in-Replace-clause-cause : goal.returns-in_err-take_pair-in-Replace-clause-cause
returns-in_err-take_pair-in-Replace-clause-cause g c =
    passed c.from_residual.result c.in_err-take_pair-in-Replace.field-0.0 c.from_residual.ensures.1
    (λ r. IfErr r IsWriteFault)
    (read_is_write c.in_err-take_pair-in-Replace.field-0.0 c.in_err-take_pair-in-Replace.ensures.cause)

pub returns-in_ok-take_pair-in-Replace-clause-edits : goal.returns-in_ok-take_pair-in-Replace-clause-edits
returns-in_ok-take_pair-in-Replace-clause-edits g c =
    edits_last g.D.Device _ _ _ _ _ _ _ _ _ (λ is. is) c.take_pair-in-Replace.ensures.edits
    c.give_pair-in-Replace.ensures.edits

pub returns-in_ok-take_pair-in-Replace-clause-moved : goal.returns-in_ok-take_pair-in-Replace-clause-moved
returns-in_ok-take_pair-in-Replace-clause-moved g c = λ honest agrees left right entries stands.
    let spec : Spec = spec_of c.args.file.now in
    let edits = c.take_pair-in-Replace.ensures.edits in
    subst (λ (es : List Entry). OnOk c.give_pair-in-Replace.result (IsTreeAmong
    (pages_on g.D.Device c.give_pair-in-Replace.new.pages c.args.device.now) left right
    c.give_pair-in-Replace.new.tree es))
    (sym (entries_replaced c.args.row_move.verb spec c.args.key c.args.row_move.old_value.now c.args.row_move.bytes.now
    c.args.row_move.arrival entries c.in-Replace.is (sym c.is_changed.ensures ∙ c.if-not-is_changed.false)))
    (on_ok_weaker c.give_pair-in-Replace.result
    (λ there. among_before g.D.Device edits honest c.give_pair-in-Replace.new.pages there)
    (c.give_pair-in-Replace.ensures.given (edits.only.honest.0 honest) (edits.agrees honest agrees) left right
    (without_entry entries (old_key spec c.args.key c.args.row_move.old_value.now))
    (among_after g.D.Device edits honest c.take_pair-in-Replace.new.pages
    (c.in_ok-take_pair-in-Replace.ensures.taken honest agrees left right entries stands))))

pub returns-in_ok-take_pair-in-Replace-clause-damaged : goal.returns-in_ok-take_pair-in-Replace-clause-damaged
returns-in_ok-take_pair-in-Replace-clause-damaged g c = λ honest agrees left right entries stands may refused.
    let spec : Spec = spec_of c.args.file.now in
    let change : changes_at spec c.args.key c.args.row_move.old_value.now c.args.row_move.bytes.now ≡ true =
    sym c.is_changed.ensures ∙ c.if-not-is_changed.false in
    let both = subst (λ (v : RowVerb).
    MayMove v spec c.args.key c.args.row_move.old_value.now c.args.row_move.bytes.now c.args.row_move.arrival entries)
    c.in-Replace.is may change in
    let edits = c.take_pair-in-Replace.ensures.edits in
    c.give_pair-in-Replace.ensures.damaged (edits.only.honest.0 honest) (edits.agrees honest agrees) left right
    (without_entry entries (old_key spec c.args.key c.args.row_move.old_value.now))
    (among_after g.D.Device edits honest c.take_pair-in-Replace.new.pages
    (c.in_ok-take_pair-in-Replace.ensures.taken honest agrees left right entries stands)) both.1 refused

pub returns-in_ok-take_pair-in-Replace-clause-few : goal.returns-in_ok-take_pair-in-Replace-clause-few
returns-in_ok-take_pair-in-Replace-clause-few g c = λ honest agrees left right entries stands.
    let edits = c.take_pair-in-Replace.ensures.edits in
    few_given c.give_pair-in-Replace.result c.args.pages.now c.take_pair-in-Replace.new.pages
    c.give_pair-in-Replace.new.pages (c.in_ok-take_pair-in-Replace.ensures.few honest agrees left right entries stands)
    (c.give_pair-in-Replace.ensures.few (edits.only.honest.0 honest) (edits.agrees honest agrees) left
    right (without_entry entries (old_key (spec_of c.args.file.now) c.args.key c.args.row_move.old_value.now))
    (among_after g.D.Device edits honest c.take_pair-in-Replace.new.pages
    (c.in_ok-take_pair-in-Replace.ensures.taken honest agrees left right entries stands)))

pub returns-in_ok-take_pair-in-Replace-clause-room : goal.returns-in_ok-take_pair-in-Replace-clause-room
returns-in_ok-take_pair-in-Replace-clause-room g c = λ honest agrees left right entries stands full.
    let edits = c.take_pair-in-Replace.ensures.edits in
    let few = c.in_ok-take_pair-in-Replace.ensures.few honest agrees left right entries stands in
    let room = c.give_pair-in-Replace.ensures.room (edits.only.honest.0 honest) (edits.agrees honest agrees) left right
    (without_entry entries (old_key (spec_of c.args.file.now) c.args.key c.args.row_move.old_value.now))
    (among_after g.D.Device edits honest c.take_pair-in-Replace.new.pages
    (c.in_ok-take_pair-in-Replace.ensures.taken honest agrees left right entries stands)) full in
    let same = ap free_count (same_volume c.args.pages.now c.take_pair-in-Replace.new.pages edits.committed) in
    omega (arith, few, room, same)

pub returns-in_ok-take_pair-in-Replace-clause-layout : goal.returns-in_ok-take_pair-in-Replace-clause-layout
returns-in_ok-take_pair-in-Replace-clause-layout g c =
    c.give_pair-in-Replace.ensures.layout ∙ c.take_pair-in-Replace.ensures.layout

pub returns-in_ok-take_pair-in-Replace-clause-spent : goal.returns-in_ok-take_pair-in-Replace-clause-spent
returns-in_ok-take_pair-in-Replace-clause-spent g c =
    λ is. spent_before c.args.pages.now c.take_pair-in-Replace.new.pages c.take_pair-in-Replace.ensures.edits.committed
    (c.give_pair-in-Replace.ensures.spent is)

pub give_pair-requires-in-Replace-clause-layout : goal.give_pair-requires-in-Replace-clause-layout
give_pair-requires-in-Replace-clause-layout g c =
    c.take_pair-in-Replace.ensures.layout ∙ c.requires.layout
