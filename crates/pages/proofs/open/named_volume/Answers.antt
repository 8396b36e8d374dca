use Rattle.std.proofs.Common.{◌∙◌, ℕ, refl, ap}
use Rattle.pages.specs.Volumes.{unused_count}
use Rattle.pages.proofs.ReadTables.{root_marked, sound_found}
use Rattle.pages.proofs.open.named_volume.Goals as goal

pub returns-clause-root : goal.returns-clause-root
returns-clause-root c = ap (λ (n : ℕ). root_marked n c.args.root) c.mark_at.ensures

pub returns-clause-sound : goal.returns-clause-sound
returns-clause-sound c = sound_found c.args.root c.args.named.table.items _ _ c.requires.within c.requires.table refl
    refl refl c.in_ok-table.ensures c.in_ok-used.ensures
    (c.count_free-free.ensures ∙ ap unused_count c.deref.ensures.value)
