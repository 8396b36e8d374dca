use Rattle.std.proofs.Common.{◌≡◌, ◌≤◌, ◌+◌, ◌-◌, ◌∷◌, List, ℕ, length, take, drop, sym, ap, subst, ◌∙◌, arith}
use Rattle.std.proofs.Common.{length-drop}
use Rattle.std.proofs.lemmas.List.{take_all, drop_all}
use Rattle.volume_copies.specs.Lines.{lines_of}
use Rattle.volume_copies.proofs.LineLists.{splits}
use Rattle.volume_copies.proofs.lines.split_line.Goals as goal

pub returns-then-count-text-clause-lines : goal.returns-then-count-text-clause-lines
returns-then-count-text-clause-lines c =
    let text = c.args.text.now in
    let n = c.line_length-count.result in
    let rest = drop (n + 1) text in
    let whole : take (length text - (n + 1)) rest ≡ rest =
    take_all (length text - (n + 1)) rest (omega (arith, length-drop (n + 1) text)) in
    subst (λ (k : ℕ). lines_of text ≡ take k text ∷ lines_of (drop (k + 1) text)) (sym c.line_length-count.ensures)
    (splits text c.requires)
    ∙ ap (λ (l : List ℕ). take n text ∷ lines_of l) (sym whole)

pub returns-clause-lines : goal.returns-clause-lines
returns-clause-lines c =
    let text = c.args.text.now in
    let n = c.line_length-count.result in
    let past : length text ≤ n = omega (arith, c.if-count-text.false) in
    subst (λ (k : ℕ). lines_of text ≡ take k text ∷ lines_of (drop (k + 1) text)) (sym c.line_length-count.ensures)
    (splits text c.requires)
    ∙ ap (λ (l : List ℕ). l ∷ lines_of (drop (n + 1) text)) (take_all n text past)
    ∙ ap (λ (l : List ℕ). text ∷ lines_of l) (drop_all (n + 1) text (omega (arith, past)))
