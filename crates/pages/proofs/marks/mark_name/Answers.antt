use Rattle.std.proofs.Common.{◌<◌, ℕ, [], ◌∷◌, ◌++◌, false, length, sym, ◌∙◌, subst, arith}
use Rattle.std.proofs.lemmas.List.{get_or_read}
use Rattle.pages.specs.Marked.{IsMarked}
use Rattle.pages.proofs.Marking.{mark_zero, mark_one, past_sector, marked_twice}
use Rattle.pages.proofs.marks.mark_name.Goals as goal

pub returns-then-name-eq0-clause-marked : goal.returns-then-name-eq0-clause-marked
returns-then-name-eq0-clause-marked c =
    λ _ before marked. subst (λ (n : ℕ). IsMarked (before ++ n ∷ []) c.args.used.now.items) (sym c.if-name-eq0.true)
    (mark_zero before c.args.used.now.items marked)

pub returns-then-sector-len-clause-refused : goal.returns-then-sector-len-clause-refused
returns-then-sector-len-clause-refused c = λ _ before marked are. past_sector (length c.args.used.now.items) before
    c.args.name c.if-name-eq0.false (omega (arith, c.if-sector-len.true, c.len.ensures, c.args.used.now.ok)) are

pub returns-then-index-clause-refused : goal.returns-then-index-clause-refused
returns-then-index-clause-refused c = λ _ before marked are.
    let low : c.args.name < length c.args.used.now.items =
    omega (arith, c.if-sector-len.false, c.len.ensures, c.args.used.now.ok) in
    marked_twice before c.args.used.now.items c.args.name c.if-name-eq0.false low
    (sym (get_or_read c.args.used.now.items c.args.name c.index.result.now low c.index.ensures false) ∙ c.if-index.true)
    marked are

pub returns-clause-marked : goal.returns-clause-marked
returns-clause-marked c = λ _ before marked.
    let low : c.args.name < length c.args.used.now.items =
    omega (arith, c.if-sector-len.false, c.len.ensures, c.args.used.now.ok) in
    mark_one before c.args.used.now.items c.args.name
    low (sym (get_or_read c.args.used.now.items c.args.name c.index.result.now low c.index.ensures false)
    ∙ c.if-index.false) marked
