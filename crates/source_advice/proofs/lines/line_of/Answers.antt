use Rattle.std.proofs.Common.{◌≡◌, ◌∙◌, ◌+◌, ◌-◌, ℕ, List, [], ap, arith, drop, get_or, refl}
use Rattle.std.proofs.lemmas.List.{drop-drop, get_or-drop}
use Rattle.source_lines.specs.Cut.{lines}
use Rattle.source_advice.proofs.lines.line_of.Goals as goal

pub returns : goal.returns
returns c =
    let all : List (List ℕ) = lines c.args.source.now in
    let place : c.loop.counter - 1 + 0 ≡ c.args.number - 1 = omega (arith, c.loop.invariant.1) in
    c.line_at.ensures ∙ ap (λ l. get_or l 0 []) c.loop.invariant.0 ∙ get_or-drop (c.loop.counter - 1) all 0 []
    ∙ ap (λ n. get_or all n []) place

pub loop-init : goal.loop-init
loop-init c = (refl, omega arith)

pub loop-preserved : goal.loop-preserved
loop-preserved c =
    let all : List (List ℕ) = lines c.args.source.now in
    let next : c.loop.counter - 1 + 1 ≡ c.loop.counter + 1 - 1 = omega arith in (
      c.after_line-rest.ensures ∙ ap (λ l. drop 1 l) c.loop.invariant.0 ∙ drop-drop 1 (c.loop.counter - 1) all
          ∙ ap (λ n. drop n all) next,
      omega arith,
    )
