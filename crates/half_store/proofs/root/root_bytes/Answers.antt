use Rattle.std.proofs.Common.{refl}
use Rattle.roots.specs.Root.{own_mark}
use Rattle.half_store.proofs.Rooted.{spells}
use Rattle.half_store.proofs.root.root_bytes.Goals as goal

pub returns : goal.returns
returns c = spells
    (record {
      mark = own_mark 0;
      generation = c.args.generation;
      sectors = c.args.sectors;
      payload = c.payload_of.result;
    })
    c.args.bytes c.root_sector.result refl c.payload_of.ensures.counted c.payload_of.ensures.zeros
    c.requires.generation c.requires.least c.requires.most c.root_sector.ensures
