use Rattle.station.proofs.Spans.{weakens}
use Rattle.volume_copies.proofs.new_volume.publish.Goals as goal

pub returns-in-Ok-clause-moments : goal.returns-in-Ok-clause-moments
returns-in-Ok-clause-moments g c = λ honest.
    weakens _ _ _ _ _ (λ state leaves. leaves.images) (c.show_root.ensures.moments honest)

pub returns-in-Err-clause-moments : goal.returns-in-Err-clause-moments
returns-in-Err-clause-moments g c = λ honest.
    weakens _ _ _ _ _ (λ state leaves. leaves.images) (c.show_root.ensures.moments honest)
