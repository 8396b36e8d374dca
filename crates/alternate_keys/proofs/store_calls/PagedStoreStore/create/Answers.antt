use Rattle.std.proofs.Common.{true, inl, refl, sym, subst}
use Rattle.station.proofs.Spans.{stays}
use Rattle.pages.specs.Pages.{map_now}
use Rattle.records.specs.Files.{Files, empty_file, with_file}
use Rattle.records.specs.Stores.{spec_of}
use Rattle.records.proofs.Short.{made_is_long}
use Rattle.alternate_keys.specs.Held.{held_law}
use Rattle.alternate_keys.specs.Notes.{noted_search}
use Rattle.alternate_keys.specs.Opened.{OpenedVolume}
use Rattle.alternate_keys.specs.Stands.{Represents}
use Rattle.alternate_keys.proofs.ChangeCalls.{store_turned}
use Rattle.alternate_keys.proofs.Still.{first_there}
use Rattle.alternate_keys.proofs.store_calls.PagedStoreStore.create.Goals as goal

pub returns-then-self-clause-turns : goal.returns-then-self-clause-turns
returns-then-self-clause-turns g c = λ files stands.
    let old = g.D.Device.state c.args.device.now in
    record {
      there = tt;
      moments = stays (g.D.Device.history c.args.device.now) old _ (record {
        events = refl;
        images = λ image crash. inl (held_law c.args.self.now.pages old.disk image files stands.there.represents crash);
      });
      sound = λ e. absurd cc;
      room = λ e. absurd cc;
      mark = λ e. absurd cc;
    }

pub returns-in-Ok-clause-turns : goal.returns-in-Ok-clause-turns
returns-in-Ok-clause-turns g c = λ files stands.
    let there = subst (λ (s : OpenedVolume). Represents s.pages (g.D.Device.state c.args.device.now).disk files)
    (sym c.self.view_is) stands.there.represents in
    store_turned g.D.Device _ _ _ _ _ c.args.self.now c.self.inside.pages c.create_in.new.pages c.self.inside.spent
    (noted_search c.clear.new.self) c.args.device.now c.create_in.new.device
    (c.in-Ok.ensures.turned stands.honest files there) (c.in-Ok.ensures.only.honest.0 stands.honest)
    (c.clear.ensures (map_now c.create_in.new.pages (g.D.Device.state c.create_in.new.device).disk.present))

pub returns-in-Err-clause-turns : goal.returns-in-Err-clause-turns
returns-in-Err-clause-turns g c = λ files stands.
    let name = c.args.file.now.name.items in
    let after : Files = with_file name (empty_file (spec_of c.args.file.now)) files in
    let there = subst (λ (s : OpenedVolume). Represents s.pages (g.D.Device.state c.args.device.now).disk files)
    (sym c.self.view_is) stands.there.represents in
    let turned = c.in-Err.ensures.turned stands.honest files there in
    record {
      there = tt;
      moments = turned.moments;
      sound = turned.sound;
      room = turned.room;
      mark = turned.mark;
    }

pub returns-in-Ok-clause-takes : goal.returns-in-Ok-clause-takes
returns-in-Ok-clause-takes g c = λ files stands lacks.
    let disk = (g.D.Device.state c.args.device.now).disk in
    let there =
    subst (λ (s : OpenedVolume). Represents s.pages disk files) (sym c.self.view_is) stands.there.represents in
    c.in-Ok.ensures.takes (first_there c.self.inside.pages disk files lacks.volume there lacks.reads lacks.first)
    (made_is_long true c.args.file.now.name.items (spec_of c.args.file.now) files lacks.long)
