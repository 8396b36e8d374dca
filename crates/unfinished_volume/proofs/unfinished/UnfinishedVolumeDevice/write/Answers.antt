use Rattle.std.proofs.Common.{ℕ, ◌∙◌, sym, ap, arith}
use Rattle.station.specs.State.{wrote}
use Rattle.unfinished_volume.specs.Inverted.{inverted_state}
use Rattle.unfinished_volume.proofs.Hiding.{hidden_now, hidden_moves, hidden_write}
use Rattle.unfinished_volume.proofs.Inversion.{inverted_wrote, inverted_may, inverted_moves, stored_other, on_ok}
use Rattle.unfinished_volume.proofs.Inversion.{with_refusals, once_refused}
use Rattle.std.specs.Prelude.{IsErr}
use Rattle.std.proofs.Common.{subst}
use Rattle.station.specs.State.{MayHaveWritten}
use Rattle.unfinished_volume.proofs.unfinished.UnfinishedVolumeDevice.write.Goals as goal

pub invariant_of-self-clause-hidden : goal.invariant_of-self-clause-hidden
invariant_of-self-clause-hidden g c = λ honest.
    let d = g.D.Device in
    let old = c.args.self.now.device in
    let new = c.write.new.self in
    let first = g.B.Beginning.history in
    let before = c.write.ensures.honest.1 honest in
    let hidden = c.args.self.now.hidden before in
    hidden_moves first (d.history old) (d.state old) (d.history new) (d.state new) hidden (c.write.ensures.moves before)
    (hidden_write (d.state old) c.args.sector c.args.bytes.now (d.state new)
    (hidden_now first (d.history old) (d.state old) hidden (g.met.D.Device.newest old before))
    (λ at. absurd (omega (arith, at, c.if-sector-ne0.true))) (c.write.ensures.perhaps before))

pub invariant_of-self-2-clause-hidden : goal.invariant_of-self-2-clause-hidden
invariant_of-self-2-clause-hidden g c = λ honest.
    let d = g.D.Device in
    let old = c.args.self.now.device in
    let new = c.write-2.new.self in
    let stored = c.inverted_sector-stored.result in
    let first = g.B.Beginning.history in
    let before = c.write-2.ensures.honest.1 honest in
    let hidden = c.args.self.now.hidden before in
    hidden_moves first (d.history old) (d.state old) (d.history new) (d.state new) hidden
    (c.write-2.ensures.moves before)
    (hidden_write (d.state old) 0 stored (d.state new)
    (hidden_now first (d.history old) (d.state old) hidden (g.met.D.Device.newest old before))
    (λ at. sym c.hides_root.ensures ∙ c.if-not-hides_root.false) (c.write-2.ensures.perhaps before))

pub returns-clause-wrote : goal.returns-clause-wrote
returns-clause-wrote g c = λ honest.
    let d = g.D.Device in
    let old = d.state c.args.self.now.device in
    on_ok c.write-2.result (λ is. ap inverted_state is
    ∙ inverted_wrote old 0 c.inverted_sector-stored.result c.args.bytes.now c.inverted_sector-stored.ensures.back
    ∙ ap (λ (i : ℕ). wrote (inverted_state old) i c.args.bytes.now) (sym c.if-sector-ne0.false))
    (c.write-2.ensures.wrote honest)

pub returns-then-sector-ne0-clause-failures : goal.returns-then-sector-ne0-clause-failures
returns-then-sector-ne0-clause-failures g c =
    with_refusals (IsErr c.write.result) (g.D.Device.failures c.args.self.now.device)
    (g.D.Device.failures c.write.new.self) c.args.self.now.refused c.write.ensures.failures

pub returns-then-sector-ne0-clause-wrote : goal.returns-then-sector-ne0-clause-wrote
returns-then-sector-ne0-clause-wrote g c = λ honest.
    let other = stored_other c.args.sector c.args.bytes.now (λ at. omega (arith, at, c.if-sector-ne0.true)) in
    on_ok c.write.result (λ is. ap inverted_state is
    ∙ inverted_wrote (g.D.Device.state c.args.self.now.device) c.args.sector c.args.bytes.now c.args.bytes.now other)
    (c.write.ensures.wrote honest)

pub returns-then-sector-ne0-clause-perhaps : goal.returns-then-sector-ne0-clause-perhaps
returns-then-sector-ne0-clause-perhaps g c = λ honest.
    let other = stored_other c.args.sector c.args.bytes.now (λ at. omega (arith, at, c.if-sector-ne0.true)) in
    inverted_may (g.D.Device.state c.args.self.now.device) c.args.sector c.args.bytes.now c.args.bytes.now
    (g.D.Device.state c.write.new.self) other (c.write.ensures.perhaps honest)

pub returns-then-sector-ne0-clause-moves : goal.returns-then-sector-ne0-clause-moves
returns-then-sector-ne0-clause-moves g c = λ honest. inverted_moves _ _ _ _ (c.write.ensures.moves honest)

pub returns-then-not-hides_root-clause-failures : goal.returns-then-not-hides_root-clause-failures
returns-then-not-hides_root-clause-failures g c =
    once_refused _ (g.D.Device.failures c.args.self.now.device) c.args.self.now.refused

pub returns-clause-failures : goal.returns-clause-failures
returns-clause-failures g c =
    with_refusals (IsErr c.write-2.result) (g.D.Device.failures c.args.self.now.device)
    (g.D.Device.failures c.write-2.new.self) c.args.self.now.refused c.write-2.ensures.failures

pub returns-clause-perhaps : goal.returns-clause-perhaps
returns-clause-perhaps g c = λ honest.
    let state = g.D.Device.state in
    subst (λ (i : ℕ). MayHaveWritten (inverted_state (state c.args.self.now.device)) i c.args.bytes.now
    (inverted_state (state c.write-2.new.self))) (sym c.if-sector-ne0.false)
    (inverted_may (state c.args.self.now.device) 0 c.inverted_sector-stored.result c.args.bytes.now
    (state c.write-2.new.self) c.inverted_sector-stored.ensures.back (c.write-2.ensures.perhaps honest))

pub returns-clause-moves : goal.returns-clause-moves
returns-clause-moves g c = λ honest. inverted_moves _ _ _ _ (c.write-2.ensures.moves honest)
