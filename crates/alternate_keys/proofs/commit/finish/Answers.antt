use Rattle.std.proofs.Common.{rules, ◌≡◌, false, true, inr, refl, Err, sym, ◌∙◌}
use Rattle.std.proofs.lemmas.Result.{err_from_is_err_and}
use Rattle.station.proofs.Spans.{stays}
use Rattle.records.specs.Stores.{is_change}
use Rattle.records.specs.declared.fault.StoreFault.TheVariants.{Full, Damaged}
use Rattle.alternate_keys.specs.Held.{held_law}
use Rattle.alternate_keys.proofs.Passing.{never_ok}
use Rattle.alternate_keys.proofs.commit.finish.Goals as goal

pub returns-then-not-is_done-clause-settles : goal.returns-then-not-is_done-clause-settles
returns-then-not-is_done-clause-settles g c = λ before after changed rested.
    let state = g.D.Device.state c.args.device.now in
    let none : is_change c.args.outcome ≡ false = sym c.is_done.ensures ∙ c.if-not-is_done.true in
    let stands = rested none in
    record {
      stands = stands;
      moments = stays (g.D.Device.history c.args.device.now) state _ (record {
        events = refl;
        images = λ image crash. inr (held_law c.args.pages.now state.disk image after stands crash);
      });
      sound = λ is. never_ok is;
      full = λ is. never_ok is;
    }

pub returns-in_err-commit_pages-clause-settles : goal.returns-in_err-commit_pages-clause-settles
returns-in_err-commit_pages-clause-settles g c = λ before after changed rested.
    let done : is_change c.args.outcome ≡ true = sym c.is_done.ensures ∙ c.if-not-is_done.false in
    let settles = c.commit_pages.ensures.settles before after (changed done) in
    let from = err_from_is_err_and c.from_residual.result c.from_residual.ensures.1 in
    record {
      stands = search rules;
      moments = settles.moments;
      sound = λ is. settles.sound (let damaged : c.commit_pages.result ≡ Err Damaged = cc in damaged);
      full = λ is. settles.full (let full : c.commit_pages.result ≡ Err Full = cc in full);
    }

pub returns-clause-settles : goal.returns-clause-settles
returns-clause-settles g c = λ before after changed rested.
    let done : is_change c.args.outcome ≡ true = sym c.is_done.ensures ∙ c.if-not-is_done.false in
    let settles = c.in_ok-commit_pages.ensures.settles before after (changed done) in
    record {
      stands = settles.stands;
      moments = settles.moments;
      sound = λ is. never_ok is;
      full = λ is. never_ok is;
    }
