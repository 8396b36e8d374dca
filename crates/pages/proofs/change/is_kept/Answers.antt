use Rattle.std.proofs.Common.{◌==◌, ℕ, not, map, sym, ◌∙◌, arith}
use Rattle.std.specs.Prelude.{is_some, false}
use Rattle.std.proofs.lemmas.List.{length-map, get_or-map}
use Rattle.pages.proofs.Edits.{is_only, only_same, away_same}
use Rattle.pages.proofs.change.is_kept.Goals as goal

pub returns-in-Some : goal.returns-in-Some
returns-in-Some c =
    let changes = c.args.changes.now in
    let table = c.args.table.now in
    let i = c.in-Some.i in
    let only = is_only changes c.args.page i c.requires.once (λ e. omega (arith, e, c.requires.some))
    c.in-Some.ensures.found.0 c.in-Some.ensures.found.1 in
    c.is_some.ensures ∙ sym (only_same is_some (map (λ (s : ℕ). not (s == 0)) table) changes c.args.page i false _ only
    (omega (arith, c.requires.page, length-map table (λ (s : ℕ). not (s == 0)))))

pub returns-in-None : goal.returns-in-None
returns-in-None c =
    let table = c.args.table.now in
    sym (away_same is_some (map (λ (s : ℕ). not (s == 0)) table) c.args.changes.now c.args.page false
    c.in-None.ensures.absent
    ∙ get_or-map (λ (s : ℕ). not (s == 0)) table c.args.page 0 false c.requires.page)
