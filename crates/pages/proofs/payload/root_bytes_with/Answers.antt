use Rattle.std.proofs.Common.{◌++◌, ◌∙◌, ℕ, List, drop, ap, refl}
use Rattle.byteorder.specs.Endian.{big_bytes}
use Rattle.roots.specs.Root.{own_mark}
use Rattle.pages.specs.Layout.{version_of}
use Rattle.pages.proofs.Payloads.{version_low, spells}
use Rattle.pages.proofs.payload.root_bytes_with.Goals as goal

pub returns : goal.returns
returns c =
    let payload : List ℕ = drop 20 c.payload_bytes-bytes.result in
    spells (record {
      mark = own_mark (version_of c.args.mark);
      generation = c.args.generation;
      sectors = c.args.sectors;
      payload = payload;
    }) (version_of c.args.mark) c.args.catalog c.args.maps.now payload c.put_head.new.bytes refl
    (version_low c.args.mark) refl
    c.payload_bytes-bytes.ensures c.requires.generation c.requires.least c.requires.most c.requires.maps
    (c.put_head.ensures
    ∙ ap (λ (m : List ℕ). m ++ big_bytes 8 c.args.generation ++ big_bytes 4 c.args.sectors ++ payload)
    c.mark_bytes.ensures)
