use Rattle.std.proofs.Common.{rules, ◌≡◌, Err, sym, ap, ◌∙◌}
use Rattle.pages.specs.declared.error.PagesError.TheVariants as pages
use Rattle.records.specs.declared.fault.StoreFault.TheVariants.{Device, Full, Damaged}
use Rattle.alternate_keys.proofs.Faults.{commit_sound}
use Rattle.volume_format.proofs.Faults.{device_back, full_back}
use Rattle.alternate_keys.proofs.Settled.{commit_moments, commit_stands}
use Rattle.alternate_keys.proofs.Passing.{never_ok}
use Rattle.alternate_keys.proofs.commit.commit_pages.Goals as goal

pub returns-in-Ok-clause-only : goal.returns-in-Ok-clause-only
returns-in-Ok-clause-only g c =
    let only = c.in-Ok.ensures.only in
    record {
      honest = only.honest;
      sectors = only.sectors;
      failures = record { no_fewer = only.failures.no_fewer; failed = λ is. never_ok is };
      console = only.console;
    }

pub returns-in-Err-clause-only : goal.returns-in-Err-clause-only
returns-in-Err-clause-only g c =
    let only = c.in-Err.ensures.only in
    record {
      honest = only.honest;
      sectors = only.sectors;
      failures = record {
        no_fewer = only.failures.no_fewer;
        failed = λ is.
            let told : c.to_fault.result ≡ Device = cc in
            only.failures.failed (ap Err (device_back c.in-Err.error (sym c.to_fault.ensures ∙ told)));
      };
      console = only.console;
    }

pub returns-in-Ok-clause-settles : goal.returns-in-Ok-clause-settles
returns-in-Ok-clause-settles g c = λ before after changed. record {
  stands = commit_stands g.D.Device c.args.pages.now c.commit.new.self c.args.device.now c.commit.new.device before
      after changed c.map_bounds.ensures.open c.requires.unspent
      (c.in-Ok.ensures.holds.agrees changed.honest changed.agrees) c.in-Ok.ensures.settles.committed
      c.in-Ok.ensures.settles.changed_pages
      (c.in-Ok.ensures.holds.advances changed.honest changed.agrees) c.in-Ok.ensures.rest.rests
      c.in-Ok.ensures.rest.nothing;
  moments = commit_moments g.D.Device c.args.pages.now c.args.device.now c.commit.new.device before after changed
      c.in-Ok.ensures.moments;
  sound = λ is. never_ok is;
  full = λ is. never_ok is;
}

pub returns-in-Err-clause-settles : goal.returns-in-Err-clause-settles
returns-in-Err-clause-settles g c = λ before after changed. record {
  stands = search rules;
  moments = commit_moments g.D.Device c.args.pages.now c.args.device.now c.commit.new.device before after changed
      c.in-Err.ensures.moments;
  sound = λ is.
      let told : c.to_fault.result ≡ Damaged = cc in
      commit_sound c.in-Err.error c.in-Err.ensures.cause (sym c.to_fault.ensures ∙ told);
  full = λ is.
      let told : c.to_fault.result ≡ Full = cc in
      let fault : c.in-Err.error ≡ pages.Full = full_back c.in-Err.error (sym c.to_fault.ensures ∙ told) in
      c.in-Err.ensures.room.full (ap Err fault);
}

pub returns-in-Err-clause-unwritten : goal.returns-in-Err-clause-unwritten
returns-in-Err-clause-unwritten g c = λ is honest.
    let told : c.to_fault.result ≡ Full = cc in
    let fault : c.in-Err.error ≡ pages.Full = full_back c.in-Err.error (sym c.to_fault.ensures ∙ told) in
    (c.in-Err.ensures.room.unchanged (ap Err fault) honest).0

pub returns-in-Err-clause-full : goal.returns-in-Err-clause-full
returns-in-Err-clause-full g c = λ is.
    let told : c.to_fault.result ≡ Full = cc in
    let fault : c.in-Err.error ≡ pages.Full = full_back c.in-Err.error (sym c.to_fault.ensures ∙ told) in
    c.in-Err.ensures.room.full (ap Err fault)

pub returns-in-Ok-clause-unspent : goal.returns-in-Ok-clause-unspent
returns-in-Ok-clause-unspent g c = c.in-Ok.ensures.settles.unspent
