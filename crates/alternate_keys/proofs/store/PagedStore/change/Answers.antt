use Rattle.std.proofs.Common.{Err, inl, refl, sym, subst}
use Rattle.station.proofs.Spans.{stays}
use Rattle.pages.specs.Pages.{map_now}
use Rattle.records.specs.Files.{Files}
use Rattle.records.specs.Stores.{files_after}
use Rattle.alternate_keys.specs.Held.{held_law}
use Rattle.alternate_keys.specs.Moved.{changed_by}
use Rattle.alternate_keys.specs.Notes.{noted_search}
use Rattle.alternate_keys.specs.Opened.{OpenedVolume}
use Rattle.alternate_keys.specs.Stands.{Represents}
use Rattle.alternate_keys.proofs.ChangeCalls.{store_turned}
use Rattle.alternate_keys.proofs.Faults.{never_old}
use Rattle.alternate_keys.proofs.store.PagedStore.change.Goals as goal

pub returns-then-self-clause-turns : goal.returns-then-self-clause-turns
returns-then-self-clause-turns g c = λ files held stands has.
    let old = g.D.Device.state c.args.device.now in
    record {
      there = tt;
      moments = stays (g.D.Device.history c.args.device.now) old _ (record {
        events = refl;
        images = λ image crash. inl (held_law c.args.self.now.pages old.disk image files stands.there.represents crash);
      });
      sound = λ e. absurd cc;
      room = λ e. absurd cc;
      mark = λ e. absurd cc;
    }

pub returns-in-Ok-clause-turns : goal.returns-in-Ok-clause-turns
returns-in-Ok-clause-turns g c = λ files held stands has.
    let there = subst (λ (s : OpenedVolume). Represents s.pages (g.D.Device.state c.args.device.now).disk files)
    (sym c.self.view_is) stands.there.represents in
    store_turned g.D.Device _ _ _ _ _ c.args.self.now c.self.inside.pages c.change_in.new.pages c.self.inside.spent
    (noted_search c.clear.new.self) c.args.device.now c.change_in.new.device
    (c.in-Ok.ensures.turned stands.honest files held there has) (c.in-Ok.ensures.only.honest.0 stands.honest)
    (c.clear.ensures (map_now c.change_in.new.pages (g.D.Device.state c.change_in.new.device).disk.present))

pub returns-in-Err-clause-turns : goal.returns-in-Err-clause-turns
returns-in-Err-clause-turns g c = λ files held stands has.
    let name = c.args.file.now.name.items in
    let after : Files =
    files_after name files (changed_by c.args.verb c.args.file.now.organization c.args.number c.args.bytes.now held) in
    let there = subst (λ (s : OpenedVolume). Represents s.pages (g.D.Device.state c.args.device.now).disk files)
    (sym c.self.view_is) stands.there.represents in
    let turned = c.in-Err.ensures.turned stands.honest files held there has in
    record {
      there = tt;
      moments = turned.moments;
      sound = turned.sound;
      room = turned.room;
      mark = turned.mark;
    }

pub returns-in-Err-clause-full : goal.returns-in-Err-clause-full
returns-in-Err-clause-full g c = λ files held stands has is.
    let there = subst (λ (s : OpenedVolume). Represents s.pages (g.D.Device.state c.args.device.now).disk files)
    (sym c.self.view_is) stands.there.represents in
    c.in-Err.ensures.full stands.honest files held there has is

pub returns-in-Err-clause-makes_none : goal.returns-in-Err-clause-makes_none
returns-in-Err-clause-makes_none g c = λ is. never_old (Err c.in-Err.fault) c.in-Err.ensures.cause is
