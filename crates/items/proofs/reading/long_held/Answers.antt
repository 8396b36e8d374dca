use Rattle.std.proofs.Common.{Some, None, if◌then◌else◌, ap, sym, subst, ℤ, FitsSigned}
use Rattle.std.specs.Int.{w64, w128}
use Rattle.std.proofs.lemmas.Int.{to_z-of_z}
use Rattle.items.proofs.Bounds.{long_integer}
use Rattle.items.proofs.reading.long_held.Goals as goal

pub returns-in-Err : goal.returns-in-Err
returns-in-Err c =
    let long =
    subst (λ (z : ℤ). FitsSigned w64 z → ⊥) (to_z-of_z w128 c.args.integer c.ranges.integer) c.in-Err.ensures in
    sym (ap (λ b. if b then Some (record { coefficient = c.args.integer; scale = c.args.item.scale }) else None)
    (long_integer c.args.integer c.args.item.digits _ c.requires.most long))
