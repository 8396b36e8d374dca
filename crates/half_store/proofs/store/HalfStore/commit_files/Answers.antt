use Rattle.std.proofs.Common.{◌≡◌, ◌+◌, false, sym, ap, subst, rules}
use Rattle.station.proofs.Spans.{stays}
use Rattle.records.specs.Stores.{is_change}
use Rattle.file_bytes.specs.Stored.{files_of}
use Rattle.half_store.specs.Half.{Rests, AreHalfFiles}
use Rattle.half_store.specs.declared.store.HalfStore.{HalfStore}
use Rattle.half_store.proofs.Written.{at_rest}
use Rattle.half_store.proofs.Committed.{written_settles}
use Rattle.half_store.proofs.store.HalfStore.commit_files.Goals as goal

pub returns-then-not-is_done-clause-settles : goal.returns-then-not-is_done-clause-settles
returns-then-not-is_done-clause-settles g c = λ before after honest rests memory are idle.
    let old = g.D.Device.state c.args.device.now in
    let none : is_change c.args.outcome ≡ false = search rules in
    record {
      stands = record {
        rests = subst (Rests c.args.self.now.sectors c.args.self.now.generation old.disk) (sym (idle none)) rests;
        memory = memory;
      };
      moments = stays (g.D.Device.history c.args.device.now) old _
          (at_rest c.args.self.now.sectors c.args.self.now.generation before after old rests);
      full = λ e. absurd {0} cc;
    }

pub returns-clause-settles : goal.returns-clause-settles
returns-clause-settles g c = λ before after honest rests memory are idle.
    let are' = subst (AreHalfFiles (c.args.self.now.generation + 1)) (sym memory) are in
    written_settles memory (ap (λ (s : HalfStore). files_of s.files.items) c.in_ok-write.ensures.rest)
    (c.in_ok-write.ensures.rests honest before rests are') (c.write.ensures.moments honest before rests are')
