use Rattle.std.proofs.Common.{arith, refl, sym, ◌∙◌, subst, List, ℕ}
use Rattle.std.proofs.lemmas.Option.{slice_get_read, slice_get_within}
use Rattle.items.specs.Items.{IsTaken}
use Rattle.data_instructions.specs.declared.tables.LiteralSender.{LiteralSender}
use Rattle.data_instructions.proofs.Entries.{more_entries}
use Rattle.data_instructions.proofs.order.has_senders.Goals as goal

pub loop-one-preserved : goal.loop-one-preserved
loop-one-preserved c =
    more_entries (λ (one : LiteralSender). IsTaken one.taken one.bytes) c.args.senders.now c.loop-one.one-index
    c.one-item.result
    (slice_get_read c.args.senders.now _ c.loop-one.one-index c.one-item.result refl (omega arith) c.one-item.is)
    (subst (λ (bytes : List ℕ). IsTaken c.one-item.result.taken bytes) c.as_slice.ensures
    (c.is_taken.ensures.0 c.if-not-is_taken.false)) c.loop-one.invariant

pub returns : goal.returns
returns c = (
  λ t k one here. let within =
      slice_get_within c.args.senders.now k one here in c.loop-one.invariant k one (omega (arith, within)) here,
  λ all. refl,
)

pub returns-then-not-is_taken : goal.returns-then-not-is_taken
returns-then-not-is_taken c = (
  λ t. absurd cc,
  λ all. sym c.if-not-is_taken.true ∙ c.is_taken.ensures.1
      (subst (λ (bytes : List ℕ). IsTaken c.one-item.result.taken bytes) (sym c.as_slice.ensures)
      (all c.loop-one.one-index c.one-item.result
      (slice_get_read c.args.senders.now _ c.loop-one.one-index c.one-item.result refl (omega arith) c.one-item.is))),
)
