use Rattle.std.proofs.Common.{ℕ, List, subst}
use Rattle.pages.specs.Layout.{version_of}
use Rattle.pages.specs.Payload.{SpellsRoot}
use Rattle.pages.proofs.payload.root_bytes_of.Goals as goal

pub returns : goal.returns
returns c = subst (λ (l : List ℕ). SpellsRoot (record {
  mark = version_of c.args.volume.now.mark;
  generation = c.args.volume.now.generation;
  sectors = c.args.volume.now.sectors;
  catalog = c.args.volume.now.catalog;
  maps = l;
}) c.root_bytes_with.result) c.deref.ensures.value c.root_bytes_with.ensures
