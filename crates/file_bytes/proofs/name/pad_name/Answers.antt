use Rattle.std.proofs.Common.{◌++◌, List, ℕ, length, ap, ◌∙◌}
use Rattle.std.specs.Prelude.{drop, replicate}
use Rattle.std.proofs.lemmas.List.{drop-replicate}
use Rattle.file_bytes.proofs.name.pad_name.Goals as goal

pub returns : goal.returns
returns c =
    ap (λ (l : List ℕ). l ++ drop (length c.args.name.now) (replicate {A = ℕ} 30 0)) c.copy_from_slice.ensures.after
    ∙ ap (λ (l : List ℕ). c.args.name.now ++ l) (drop-replicate (length c.args.name.now) 30 0)
